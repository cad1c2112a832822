-- What a command comes to, by the words and the told files.
use Rattle.std.specs.Prelude.{◌≡◌, ◌⊎◌, ℕ, Bool, false, true, List, Option, Some, length, IsOkAnd, IsSome, IsSomeAnd, Result, Ok, Err, String}
use Rattle.std.specs.declared.alloc.Global.{Global}
use Rattle.dc_asm.specs.declared.forms.Meant.{Meant}
use Rattle.dc_audit.specs.Reading.{Journal}
use Rattle.dc_run.specs.Assembling.{program_in}
use Rattle.dc_run.specs.Auditing.{journal_in}
use Rattle.dc_run.specs.Checking.{AsksToCheck, Checked, Found, checked_in, found_in}
use Rattle.dc_command.specs.Command.{Asked, Order, asked_of}
use Rattle.dc_command.specs.Command.{Halted as Names'}
use Rattle.dc_command.specs.declared.command.Ledger.{Ledger}
use Rattle.dc_command.specs.declared.command.Ledger.TheVariants as ledger
use Rattle.dc_command.specs.Command.Asked.{ToRun, ToCheck, ToAssemble, ToAudit, ToResume}
use Rattle.dc_command.specs.declared.command.CommandFault.{CommandFault}
use Rattle.dc_command.specs.declared.command.CommandFault.TheVariants as command
use Rattle.dc_checkpoint.specs.declared.faults.StoreFault.{StoreFault}
use Rattle.dc_words.specs.Results.{◌>>=◌, or_fault}
use Rattle.dc_plan.specs.declared.plan.Medium.{Medium}
use Rattle.dc_plan.specs.declared.plan.Medium.TheVariants as medium
use Rattle.dc_run.specs.Headline.{SinkCourse}
use Rattle.dc_run.specs.Media.{Devices}
use Rattle.dc_run.specs.Opening.{Files, AsksToRun, Task, medium_at, opening_of, task_in}
use Rattle.dc_run.specs.Resuming.{AsksToResume, Going, going_in}
use Rattle.dc_run.specs.Refusals.{as_verdict}
use Rattle.dc_run.specs.Settings.{IsCalm, has_ended, may_have_run, stands_in, was_opened}
use Rattle.dc_run.specs.declared.verdict.Verdict.{Verdict}
use Rattle.dc_run.specs.declared.verdict.Verdict.TheVariants.{DeviceStopped, Done, Halted, NotSaved, StoreRefused, StoreUnsuited, Unfinished, Usage, WantOfMemory}
use Rattle.dc_run.specs.declared.verdict.Which.{Which}
use Rattle.dc_run.specs.declared.verdict.Which.TheVariants.{Journal as OfJournal, Source}

-- what there is to carry out: a run that is opened, an output that passes, a source's program, a journal that is audited, or a run that goes on
pub data Work : Type 0 where
  Run : (task : Task) → Work
  Check : (checked : Checked) → Work
  Assembly : (program : List Meant) → Work
  Audit : (journal : Journal) → Work
  Resume : (going : Going) → Work

-- the verdict of words that are no command's
abbrev pub unasked_by : CommandFault → Verdict
unasked_by command.Usage = Usage
unasked_by command.Memory = WantOfMemory

-- what there is to carry out, by what is asked for
abbrev pub work_by : Files → Asked → Result Work Verdict
work_by files (ToRun order) = as_verdict (opening_of files order) >>= (λ setting. Ok (Run (task_in files order setting)))
work_by files (ToCheck names) = checked_in files names >>= (λ checked. Ok (Check checked))
work_by files (ToAssemble source) = program_in files source >>= (λ program. Ok (Assembly program))
work_by files (ToAudit journal) = journal_in files journal >>= (λ said. Ok (Audit said))
work_by files (ToResume names) = going_in files names >>= (λ going. Ok (Resume going))

-- the words, then what their command wants: the first that is refused decides
abbrev pub work_of : Files → List (String Global) → Result Work Verdict
work_of files words = or_fault Usage (asked_of words) >>= work_by files

-- the work is a run of which this holds
abbrev pub IfRun : Work → (Task → Type 0) → Type 0
IfRun (Run task) P = P task
IfRun _ P = Unit {0}

-- the work is a run that goes on, of which this holds
abbrev pub IfResume : Work → (Going → Type 0) → Type 0
IfResume (Resume going) P = P going
IfResume _ P = Unit {0}

-- the work is an output that passes, of which this holds
abbrev pub IfCheck : Work → (Checked → Type 0) → Type 0
IfCheck (Check checked) P = P checked
IfCheck _ P = Unit {0}

-- the work is an assembly of which this holds
abbrev pub IfAssembly : Work → (List Meant → Type 0) → Type 0
IfAssembly (Assembly program) P = P program
IfAssembly _ P = Unit {0}

-- the work is the audit of a journal of which this holds
abbrev pub IfAudit : Work → (Journal → Type 0) → Type 0
IfAudit (Audit journal) P = P journal
IfAudit _ P = Unit {0}

-- which files a command asks for and finds
abbrev pub AsksFor : Files → Asked → Which → Type 0
AsksFor files (ToRun order) which = AsksToRun files order which
AsksFor files (ToCheck names) which = AsksToCheck files names which
AsksFor files (ToAssemble source) which = (which ≡ Source) × IsSome (files source)
AsksFor files (ToAudit journal) which = (which ≡ OfJournal) × IsSome (files journal)
AsksFor files (ToResume names) which = AsksToResume files names which

-- by its words
abbrev pub Asks : Files → List (String Global) → Which → Type 0
Asks files words which = IsSomeAnd (asked_of words) (λ asked. AsksFor files asked which)

-- of a check that finds how an output differs, or passes: this holds of what it finds
abbrev pub IfFound : Files → Asked → (Found → Type 0) → Type 0
IfFound files (ToCheck names) P = IsOkAnd (found_in files names) P
IfFound files _ P = Unit {0}

-- a refusal is answered exactly where the told files give it first; want of memory or a fault of the library may stand in for it, and nothing else
pub record IsExact {A : Type 0} (verdict refusal : Verdict) (told : Result A Verdict) : Type 0 where
  pub only : verdict ≡ refusal → told ≡ Err refusal
  pub where_told : told ≡ Err refusal → (verdict ≡ refusal) ⊎ (stands_in verdict ≡ true)

-- where nothing is refused the work comes to one of its ends, but for what may stand in; where something is, nothing was carried out
abbrev pub IsOpenedFor : {A : Type 0} → (A → Verdict → Bool) → Verdict → Result A Verdict → Type 0
IsOpenedFor ends verdict (Ok work) = (ends work verdict ≡ true) ⊎ (stands_in verdict ≡ true)
IsOpenedFor ends verdict (Err refusal) = may_have_run verdict ≡ false

-- the words ask to run a plan, and write its report or its journal
abbrev pub AsksToRunPlan : List (String Global) → Type 0
AsksToRunPlan words = (order : Order) × (asked_of words ≡ Some (ToRun order))

-- the words ask to go on with a run
abbrev pub AsksToGoOn : List (String Global) → Type 0
AsksToGoOn words = (names : Names') × (asked_of words ≡ Some (ToResume names))

-- how work may end: a run by its schedule, a halt, or a fault of a device, a store or a sink, a check or an assembly by what it writes, an audit also by
-- what it finds, and a run that goes on also by a store that does not belong to it
abbrev pub may_end : Work → Verdict → Bool
may_end (Run task) verdict = may_have_run verdict
may_end (Resume going) verdict = may_have_run verdict
may_end (Audit journal) verdict = has_ended verdict
may_end _ verdict = was_opened verdict

-- a run came to the end of its schedule, or to its halt
abbrev pub IsUsedUp : Verdict → Type 0
IsUsedUp verdict = (verdict ≡ Done) ⊎ (verdict ≡ Unfinished) ⊎ (verdict ≡ Halted)

-- so it did or, where it was to write its journal, it came to the first stop of a device
abbrev pub HasRun : Ledger → Verdict → Type 0
HasRun ledger.Journal verdict = IsUsedUp verdict ⊎ ((p : ℕ) × (verdict ≡ DeviceStopped p))
HasRun _ verdict = IsUsedUp verdict

-- a run that goes on came to the end of its schedule, or to its halt; or a device was stopped before, a store was refused, or one does not belong to it
abbrev pub HasGoneOn : Verdict → Type 0
HasGoneOn verdict = IsUsedUp verdict ⊎ ((p : ℕ) × (verdict ≡ DeviceStopped p)) ⊎ ((p : ℕ) × (fault : StoreFault) × (verdict ≡ StoreRefused p fault)) ⊎ ((p : ℕ) × (verdict ≡ StoreUnsuited p))

-- work was carried out: a run, else what was asked for was written, or a journal was found to have no Save-work
abbrev pub IsCarriedOut : Work → Verdict → Type 0
IsCarriedOut (Run task) verdict = HasRun task.ledger verdict
IsCarriedOut (Resume going) verdict = HasGoneOn verdict
IsCarriedOut (Audit journal) verdict = (verdict ≡ Done) ⊎ ((event : ℕ) × (line : ℕ) × (verdict ≡ NotSaved event line))
IsCarriedOut _ verdict = verdict ≡ Done

-- how many stores work uses: a run, from its opening or going on, one for each guest, and all else none
abbrev pub stores_used : Result Work Verdict → ℕ
stores_used (Ok (Run task)) = length task.setting.images
stores_used (Ok (Resume going)) = length going.setting.images
stores_used _ = 0

-- the medium of the run that is asked for, disks where it is to go on; where none is, the first one, whose devices stay then
abbrev pub medium_by : Files → Option Asked → Medium
medium_by files (Some (ToRun order)) = medium_at files order
medium_by files (Some (ToResume names)) = medium.Disk
medium_by files _ = medium.Rio

-- by its words
abbrev pub medium_of : Files → List (String Global) → Medium
medium_of files words = medium_by files (asked_of words)

-- the devices that a run was lent told what they held
abbrev pub TellsFor : {S : Type 0} → Devices S → S → S → Work → Type 0
TellsFor on before after (Run task) = on.tell (length task.setting.images) before after
TellsFor on before after (Resume going) = on.tell (length going.setting.images) before after
TellsFor on before after _ = Unit {0}

-- the counts of faults of what a call was lent stay: of the library, of each process's device, of the output and of the report
pub record AreCalm {S : Type 0} (on : Devices S) (before after : S) (lib_before lib_after : ℕ) (out report : SinkCourse) : Type 0 where
  pub library : IsCalm lib_before lib_after
  pub devices : (p : ℕ) → IsCalm (on.faults before p) (on.faults after p)
  pub output : IsCalm out.faults_before out.faults_after
  pub reports : IsCalm report.faults_before report.faults_after
