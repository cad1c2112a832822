use Rattle.dc_audit.specs.Reading.{journal_of}
use Rattle.dc_run.proofs.Audits.{found_of}
use Rattle.dc_run.proofs.auditing.find.Goals as goal

pub returns-in-Ok-audit-clause-some : goal.returns-in-Ok-audit-clause-some
returns-in-Ok-audit-clause-some g c = found_of c.in-Ok-audit.finding (journal_of c.deref.result.now) c.in-Ok-audit.ensures
