-- What auditing a journal comes to, by the told files.
use Rattle.std.specs.Prelude.{◌≡◌, ◌⊎◌, ℕ, true, List, [], ◌∷◌, ◌++◌, Option, Result, Ok, Err, codes, decimal}
use Rattle.dc_audit.specs.Reading.{IsVerdict, Journal, journal_of}
use Rattle.dc_audit.specs.declared.fault.AuditFault.{AuditFault}
use Rattle.dc_audit.specs.declared.verdict.Verdict.{Verdict as Found}
use Rattle.dc_audit.specs.declared.verdict.Verdict.TheVariants as found
use Rattle.dc_words.specs.Results.{◌>>=◌}
use Rattle.dc_run.specs.Assembling.{WritesOut}
use Rattle.dc_run.specs.Opening.{Files, file_in}
use Rattle.dc_run.specs.Refusals.{as_verdict}
use Rattle.dc_run.specs.Settings.{stands_in, was_opened}
use Rattle.dc_run.specs.declared.outcome.Outcome.{Outcome}
use Rattle.dc_run.specs.declared.verdict.Did.TheVariants.{Audited}
use Rattle.dc_run.specs.declared.verdict.Verdict.{Verdict}
use Rattle.dc_run.specs.declared.verdict.Verdict.TheVariants.{JournalRefused, NotSaved}
use Rattle.dc_run.specs.declared.verdict.Which.TheVariants as which

-- the journal, or its first faulty line
abbrev pub journal_or_fault : Result Journal AuditFault → Result Journal Verdict
journal_or_fault (Ok journal) = Ok journal
journal_or_fault (Err fault) = Err (JournalRefused fault)

-- the journal of this name, or the refusal that comes first
abbrev pub journal_in : Files → List ℕ → Result Journal Verdict
journal_in files name = as_verdict (file_in files which.Journal name) >>= (λ text. journal_or_fault (journal_of text))

-- what was found is true of the told journal, or it is refused, where neither want of memory nor a fault of the library takes its place
abbrev pub IsJudged : Result Found Verdict → Result Journal Verdict → Type 0
IsJudged (Ok finding) (Ok journal) = IsVerdict journal finding
IsJudged (Ok finding) (Err refusal) = ⊥
IsJudged (Err v) told = (stands_in v ≡ true) ⊎ (told ≡ Err v)

-- what is written of a journal that has Save-work
abbrev pub saved_text : ℕ → List ℕ
saved_text events = codes "ok " ++ decimal events ++ 10 ∷ []

-- that was written of so many events; there are no acts, marks or lines
pub record IsSaved (events : ℕ) (o : Outcome) (before after : Option (List ℕ)) : Type 0 where
  pub did : o.did ≡ Audited events
  pub acts : o.acts.items ≡ []
  pub marks : o.marks.items ≡ []
  pub lines : o.lines ≡ 0
  pub written : WritesOut (saved_text events) o.verdict before after

-- a journal has Save-work, and that was written
pub record IsAudited (journal : Journal) (o : Outcome) (before after : Option (List ℕ)) : Type 0 where
  pub events : ℕ
  pub has_savework : IsVerdict journal (found.Saved events)
  pub is_written : IsSaved events o before after

-- what an outcome says of what an audit found
abbrev pub TellsFound : Found → Outcome → Option (List ℕ) → Option (List ℕ) → Type 0
TellsFound (found.Saved events) o before after = (was_opened o.verdict ≡ true) × IsSaved events o before after
TellsFound (found.NotSaved event line) o before after = o.verdict ≡ NotSaved event line
