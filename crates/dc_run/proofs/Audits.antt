-- What an audit found, by what its journal says.
use Rattle.std.proofs.Common.{◌≡◌, Result, Ok, Err, refl}
use Rattle.dc_audit.specs.Reading.{Audits, IsVerdict, Journal}
use Rattle.dc_audit.specs.declared.fault.AuditFault.{AuditFault}
use Rattle.dc_audit.specs.declared.verdict.Verdict.{Verdict as Found}
use Rattle.dc_run.specs.Auditing.{IsJudged}
use Rattle.dc_run.specs.declared.verdict.Verdict.{Verdict}

-- it is true of the journal that was read
pub found_of : (v : Found) (said : Result Journal AuditFault) → Audits (Ok v) said → (journal : Journal) × IsVerdict journal v
found_of v (Ok journal) is = (journal, is)
found_of v (Err fault) is = absurd is

-- and that journal was told
pub judged_told : (v : Found) (told : Result Journal Verdict) → IsJudged (Ok v) told → (journal : Journal) × (told ≡ Ok journal)
judged_told v (Ok journal) is = (journal, refl)
judged_told v (Err refusal) is = absurd is
