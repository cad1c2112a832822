-- What a call of the program promises of a run that was opened.
use Rattle.std.specs.Prelude.{◌≡◌, ◌⊎◌, ◌<◌, ℕ, Bool, true, false, List, [], ◌++◌, if◌then◌else◌, is_some, length, take, Option, None, Some}
use Rattle.dc_audit.specs.declared.journal.Line.{Line}
use Rattle.dc_command.specs.declared.command.Ledger.{Ledger}
use Rattle.dc_command.specs.declared.command.Ledger.TheVariants as ledger
use Rattle.dc_journal.specs.Texts.{journal_text, whole_text}
use Rattle.dc_recovery.specs.Unstopped.{AreTurns}
use Rattle.dc_report.specs.Reports.{report_text}
use Rattle.dc_course.specs.Courses.{IsCourse, counts_of}
use Rattle.dc_course.specs.Headline.{Account, Setting}
use Rattle.dc_course.specs.Running.{Output, output}
use Rattle.dc_course.specs.declared.ending.Ending.{Ending}
use Rattle.dc_course.specs.declared.ending.Ending.TheVariants as ending
use Rattle.dc_media.specs.Causes.{Rose}
use Rattle.dc_media.specs.Told.{Becomes}
use Rattle.dc_world.specs.declared.faults.OpenFault.{OpenFault}
use Rattle.dc_world.specs.declared.faults.OpenFault.TheVariants as opening
use Rattle.dc_run.specs.Media.{Devices}
use Rattle.dc_run.specs.Opening.{Task, is_halted, part_of}
use Rattle.dc_run.specs.Outcomes.{status_of}
use Rattle.dc_run.specs.declared.outcome.Outcome.{Outcome}
use Rattle.dc_run.specs.declared.verdict.Outlet.TheVariants.{Out, Report}
use Rattle.dc_run.specs.declared.verdict.Verdict.{Verdict}
use Rattle.dc_run.specs.declared.verdict.Verdict.TheVariants.{Done, Unfinished, Halted, DeviceFault, DeviceStopped, SinkFault, StoreRefused, WantOfMemory}

-- what an outcome lists of a run, with the journal that it kept, if it kept one
abbrev pub account_of : Outcome → Option (List Line) → Account
account_of o journal = record { acts = o.acts.items; marks = o.marks.items; lines = o.lines; journal = journal }

-- a run that is to write this keeps its journal
abbrev pub keeps_journal : Ledger → Bool
keeps_journal ledger.Report = false
keeps_journal ledger.Total = false
keeps_journal ledger.Journal = true

-- what a sink held before and after a call, where it is told, and how often it had failed
pub record SinkCourse : Type 0 where
  pub before : Option (List ℕ)
  pub after : Option (List ℕ)
  pub faults_before : ℕ
  pub faults_after : ℕ

-- by these four
abbrev pub course : Option (List ℕ) → Option (List ℕ) → ℕ → ℕ → SinkCourse
course before after faults_before faults_after = record { before = before; after = after; faults_before = faults_before; faults_after = faults_after }

-- what was lent, before and after a call
pub record Loan (S : Type 0) : Type 0 where
  pub before : S
  pub after : S

-- these two
abbrev pub loan : {S : Type 0} → S → S → Loan S
loan before after = record { before = before; after = after }

-- the verdict of a run whose entries are used up: where it was halted there are more
abbrev pub used_up_at : Bool → Verdict → Verdict
used_up_at halted verdict = if halted then Halted else verdict

-- the verdict of a run that ended so, by whether it is halted before its schedule is used up
abbrev pub verdict_at : Bool → Ending → Verdict
verdict_at halted ending.Done = used_up_at halted Done
verdict_at halted ending.Unfinished = used_up_at halted Unfinished
verdict_at halted (ending.Device p) = DeviceFault p
verdict_at halted (ending.Store p fault) = StoreRefused p fault
verdict_at halted ending.Sink = SinkFault Out
verdict_at halted (ending.Stopped p) = DeviceStopped p

-- the verdict of a run that was not opened
abbrev pub unopened_by : OpenFault → Verdict
unopened_by opening.Memory = WantOfMemory
unopened_by (opening.Failed p) = DeviceFault p

-- the verdict where the report could not be written whole: its fault takes the place of done, unfinished and halted, and of no other
abbrev pub unreported : Verdict → Verdict
unreported Done = SinkFault Report
unreported Unfinished = SinkFault Report
unreported Halted = SinkFault Report
unreported stood = stood

-- the schedule of a run that came to this was used up
abbrev pub is_used_up : Verdict → Bool
is_used_up Done = true
is_used_up Unfinished = true
is_used_up _ = false

-- what a run of n processes that came to this writes at its end: its report; or, of one that kept its journal, that, whole where its schedule was used up
abbrev pub journal_or_report : Option (List Line) → ℕ → Verdict → Account → List ℕ
journal_or_report None n stood run = report_text (status_of stood) (length run.marks) run.acts run.lines
journal_or_report (Some lines) n stood run = if is_used_up stood then whole_text n false lines else journal_text n false lines

-- by what it lists
abbrev pub ledger_text : ℕ → Verdict → Account → List ℕ
ledger_text n stood run = journal_or_report run.journal n stood run

-- the report of a run that came to `stood`, or its journal: it is written whole and that is the verdict; or its sink failed and a part of its front is written
abbrev pub Reports : Verdict → Verdict → List ℕ → SinkCourse → Type 0
Reports stood verdict text sink =
    ((verdict ≡ stood) × Becomes sink.before sink.after (λ x y. y ≡ x ++ text))
    ⊎ ((verdict ≡ unreported stood) × Rose sink.faults_before sink.faults_after × ((n : ℕ) × (n < length text) × Becomes sink.before sink.after (λ x y. y ≡ x ++ take n text)))

-- a run that kept the promise, where the devices tell what they hold
abbrev pub IsKept : {S : Type 0} → Devices S → Setting → Account → Ending → Output → Loan S → Type 0
IsKept on setting run ending out lent = on.tell (length setting.images) lent.before lent.after
    → IsCourse setting run ending out (counts_of on.stops on.calls lent.before lent.after) (λ core x. on.left setting core x)

-- with what it wrote at its end: the status is that of the verdict before that. Of a task the entries before its halt are run. One that wrote its journal was
-- given turns alone, and no stop was planned. One that was halted left its devices so that it can be gone on with
pub record IsReported {S : Type 0} (task : Task) (on : Devices S) (o : Outcome) (lent : Loan S) (out report : SinkCourse) : Type 0 where
  pub ending : Ending
  pub journal : Option (List Line)
  pub journal_is : is_some journal ≡ keeps_journal task.ledger
  pub turns : keeps_journal task.ledger ≡ true → AreTurns task.setting.schedule × (task.setting.stops ≡ [])
  pub kept : IsKept on (part_of task) (account_of o journal) ending (output out.before out.after) lent
  pub halted : verdict_at (is_halted task) ending ≡ Halted → on.tell (length task.setting.images) lent.before lent.after → on.resumable task.setting (length o.marks.items) o.lines o.acts.items lent.after
  pub report_told : Reports (verdict_at (is_halted task) ending) o.verdict (ledger_text (length task.setting.images) (verdict_at (is_halted task) ending) (account_of o journal)) report

-- the line of an outcome was written whole, or its sink failed and a part of its front was
abbrev pub Concludes : List ℕ → SinkCourse → Type 0
Concludes line sink = Becomes sink.before sink.after (λ x y. y ≡ x ++ line)
    ⊎ (Rose sink.faults_before sink.faults_after × ((n : ℕ) × (n < length line) × Becomes sink.before sink.after (λ x y. y ≡ x ++ take n line)))
