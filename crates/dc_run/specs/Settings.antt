-- How the code's opening stands to the told files.
use Rattle.std.specs.Prelude.{◌≡◌, ◌≤◌, ◌<◌, ◌-◌, ◌^◌, ◌⊎◌, ℕ, Option, None, Some, Bool, true, false, not, ◌&&◌, Result, Ok, Err}
use Rattle.dc_media.specs.Told.{Becomes, TellsOn}
use Rattle.dc_course.specs.Courses.{setting_of as given_of}
use Rattle.dc_course.specs.Headline.{Setting}
use Rattle.dc_run.specs.Opening.{Files, Task}
use Rattle.dc_run.specs.Refusals.{verdict_of}
use Rattle.dc_run.specs.declared.refusal.Refusal.{Refusal}
use Rattle.dc_run.specs.declared.setting.OpenedRun as code
use Rattle.dc_run.specs.declared.verdict.Outlet.TheVariants.{Report}
use Rattle.dc_run.specs.declared.verdict.Verdict.{Verdict}
use Rattle.dc_run.specs.declared.verdict.Verdict.TheVariants.{Done, Unfinished, Halted, NotHalted, LibraryFault, DeviceFault, DeviceStopped, SinkFault, Differs, NotSaved, WantOfMemory, StoreRefused, StoreUnsuited}

-- a verdict that may stand in for a refusal: no told file decides it, and it may come before the refusal is found
abbrev pub stands_in : Verdict → Bool
stands_in WantOfMemory = true
stands_in (LibraryFault which) = true
stands_in _ = false

-- a verdict that no told file decides: one that may stand in, a fault or a stop of a device, and what a store holds
abbrev pub is_free : Verdict → Bool
is_free (DeviceFault p) = true
is_free (DeviceStopped p) = true
is_free (StoreRefused p fault) = true
is_free (StoreUnsuited p) = true
is_free verdict = stands_in verdict

-- the verdict of a command that was carried out to its end, but for a fault of a sink
abbrev pub was_opened : Verdict → Bool
was_opened Done = true
was_opened Unfinished = true
was_opened Halted = true
was_opened (SinkFault outlet) = true
was_opened _ = false

-- the same of a command that also ends by what it finds
abbrev pub has_ended : Verdict → Bool
has_ended (NotSaved event line) = true
has_ended verdict = was_opened verdict

-- the verdict of a call that may have run a plan, or read the stores of one that was to go on
abbrev pub may_have_run : Verdict → Bool
may_have_run Done = true
may_have_run Unfinished = true
may_have_run Halted = true
may_have_run (DeviceFault p) = true
may_have_run (DeviceStopped p) = true
may_have_run (SinkFault outlet) = true
may_have_run (StoreRefused p fault) = true
may_have_run (StoreUnsuited p) = true
may_have_run _ = false

-- of these a call that is asked to run a plan says that it ran: only where a device failed it may not have opened the run
abbrev pub has_run : Verdict → Bool
has_run Done = true
has_run Unfinished = true
has_run Halted = true
has_run (DeviceStopped p) = true
has_run (SinkFault outlet) = true
has_run (StoreRefused p fault) = true
has_run _ = false

-- a verdict that no other command comes to than a run, from its opening or going on
abbrev pub is_of_run : Verdict → Bool
is_of_run Unfinished = true
is_of_run Halted = true
is_of_run NotHalted = true
is_of_run (DeviceFault p) = true
is_of_run (DeviceStopped p) = true
is_of_run (SinkFault Report) = true
is_of_run (StoreRefused p fault) = true
is_of_run (StoreUnsuited p) = true
is_of_run _ = false

-- a verdict that no other command comes to than one that goes on with a run
abbrev pub is_of_going_on : Verdict → Bool
is_of_going_on NotHalted = true
is_of_going_on (StoreUnsuited p) = true
is_of_going_on _ = false

-- a count of faults that stays, below its last value
abbrev pub IsCalm : ℕ → ℕ → Type 0
IsCalm before now = (now ≡ before) × (before < 2 ^ 64 - 1)

-- the line that differs, where the verdict is that one does
abbrev pub differing_line : Verdict → Option ℕ
differing_line (Differs line) = Some line
differing_line _ = None

-- a verdict that comes before anything is carried out or compared
abbrev pub IsEarly : Verdict → Type 0
IsEarly v = (was_opened v ≡ false) × (differing_line v ≡ None)

-- a verdict that stands in the words or the told files
abbrev pub is_refusal : Verdict → Bool
is_refusal v = not (is_free v) && not (has_ended v)

-- what became of a library: its files stay, they are told on, and its count of faults did not fall
pub record LibraryKept (old new : Option Files) (faults_before faults_after : ℕ) : Type 0 where
  pub stay : Becomes old new (λ before after. after ≡ before)
  pub tells : TellsOn 0 faults_after old new
  pub later : faults_before ≤ faults_after

-- a refusal whose verdict may stand in
abbrev pub is_free_refusal : Refusal → Bool
is_free_refusal refusal = stands_in (verdict_of refusal)

-- the same value or refusal as the told files give, where no free refusal takes its place
abbrev pub Agrees : {A X : Type 0} → (X → A) → Result X Refusal → Result A Refusal → Type 0
Agrees view (Ok x) told = told ≡ Ok (view x)
Agrees view (Err refusal) told = (is_free_refusal refusal ≡ true) ⊎ (told ≡ Err refusal)

-- a verdict or the value that the told files give, where no verdict takes its place that may stand in
abbrev pub Answers : {A X : Type 0} → (X → A) → Result X Verdict → Result A Verdict → Type 0
Answers view (Ok x) told = told ≡ Ok (view x)
Answers view (Err verdict) told = (stands_in verdict ≡ true) ⊎ (told ≡ Err verdict)

-- what a run is given that was opened so
abbrev pub setting_of : code.OpenedRun → Setting
setting_of opened = given_of opened.setting

-- what is to be run of it
abbrev pub task_of : code.OpenedRun → Task
task_of s = record { ledger = s.ledger; setting = setting_of s; halt = s.halt }
