-- The status of a verdict, and the line that says it.
use Rattle.std.specs.Prelude.{◌≡◌, ℕ, List, ◌++◌, ◌∷◌, [], Option, None, Some, String, codes, decimal, length}
use Rattle.std.specs.declared.alloc.Global.{Global}
use Rattle.dc_command.specs.Meant.{meant_of, name_text}
use Rattle.dc_command.specs.declared.meaning.CommandName.{CommandName}
use Rattle.dc_run.specs.declared.outcome.Outcome.{Outcome}
use Rattle.dc_asm.specs.Faults.{kind_text as asm_kind_text}
use Rattle.dc_audit.specs.Reading.{kind_text as journal_kind_text}
use Rattle.dc_elf.specs.Faults.{fault_text as elf_fault_text}
use Rattle.dc_elf.specs.declared.faults.ElfFault.{ElfFault}
use Rattle.dc_checkpoint.specs.StoreFaults.{store_fault_text}
use Rattle.dc_checkpoint.specs.declared.faults.StoreFault.{StoreFault}
use Rattle.dc_run.specs.declared.verdict.Did.{Did}
use Rattle.dc_run.specs.declared.verdict.Did.TheVariants.{Nothing, Run, Checked, Assembled, Audited, Resumed}
use Rattle.dc_run.specs.declared.verdict.Outlet.{Outlet}
use Rattle.dc_run.specs.declared.verdict.Outlet.TheVariants.{Out, Report}
use Rattle.dc_plan.specs.Faults.{fault_text as plan_fault_text}
use Rattle.dc_report.specs.Reading.{kind_text as report_kind_text}
use Rattle.dc_schedule.specs.Schedules.{kind_text as schedule_kind_text}
use Rattle.dc_run.specs.declared.verdict.Verdict.{Verdict}
use Rattle.dc_run.specs.declared.verdict.Verdict.TheVariants.{Done, Unfinished, Halted, NotHalted, StoreUnsuited, Usage, PlanRefused, GuestRefused, Missing, LibraryFault, DeviceFault, DeviceStopped, SinkFault, NotARun, Differs, WantOfMemory, ScheduleRefused, StoreRefused, ReportRefused, AsmRefused, JournalRefused, NotSaved}
use Rattle.dc_run.specs.declared.verdict.Which.{Which}
use Rattle.dc_run.specs.declared.verdict.Which.TheVariants as which

-- the status with which the program ends
abbrev pub status_of : Verdict → ℕ
status_of Done = 0
status_of Unfinished = 1
status_of Usage = 2
status_of (PlanRefused fault) = 3
status_of (GuestRefused p fault) = 4
status_of (Missing which) = 5
status_of (LibraryFault which) = 6
status_of (DeviceFault p) = 7
status_of (DeviceStopped p) = 17
status_of (SinkFault outlet) = 8
status_of (NotARun position) = 9
status_of (Differs line) = 9
status_of WantOfMemory = 10
status_of (ScheduleRefused fault) = 11
status_of (StoreRefused p fault) = 12
status_of (ReportRefused fault) = 13
status_of (StoreUnsuited p) = 12
status_of (AsmRefused fault) = 14
status_of Halted = 15
status_of NotHalted = 16
status_of (JournalRefused fault) = 18
status_of (NotSaved event line) = 19

-- the name of a file of a command
abbrev pub which_text : Which → List ℕ
which_text which.Plan = codes "plan"
which_text (which.Guest p) = codes "guest " ++ decimal p
which_text which.Schedule = codes "schedule"
which_text which.Report = codes "report"
which_text which.Out = codes "out"
which_text which.Source = codes "source"
which_text which.Journal = codes "journal"

-- a refused guest
abbrev pub refused_guest_text : ℕ → ElfFault → List ℕ
refused_guest_text p fault = codes "guest " ++ decimal p ++ codes " refused: " ++ elf_fault_text fault

-- a device that failed
abbrev pub device_fault_text : ℕ → List ℕ
device_fault_text p = codes "device of " ++ decimal p ++ codes " failed"

-- a device that was stopped
abbrev pub device_stop_text : ℕ → List ℕ
device_stop_text p = codes "device of " ++ decimal p ++ codes " stopped"

-- a refused store
abbrev pub refused_store_text : ℕ → StoreFault → List ℕ
refused_store_text p fault = codes "store of " ++ decimal p ++ codes " refused: " ++ store_fault_text fault

-- a store that does not belong to the run that was to go on
abbrev pub unsuited_store_text : ℕ → List ℕ
unsuited_store_text p = codes "store of " ++ decimal p ++ codes " refused: strange"

-- the faulty line of a text
abbrev pub refused_text : List ℕ → ℕ → List ℕ → List ℕ
refused_text what number kind = what ++ codes " line " ++ decimal number ++ codes " refused: " ++ kind

-- where a journal has no Save-work: the line of the event, and the line at which it was unsaved
abbrev pub not_saved_text : ℕ → ℕ → List ℕ
not_saved_text event line = codes "not saved: line " ++ decimal event ++ codes " before line " ++ decimal line

-- the name of a sink
abbrev pub outlet_text : Outlet → List ℕ
outlet_text Out = codes "out"
outlet_text Report = codes "report"

-- how many acts and lines there were
abbrev pub counts_text : List ℕ → ℕ → ℕ → List ℕ
counts_text name acts lines = name ++ decimal acts ++ codes " acts " ++ decimal lines ++ codes " lines"

-- what a call did that is done
abbrev pub done_text : Did → ℕ → ℕ → List ℕ
done_text Nothing acts lines = counts_text (codes "done ") acts lines
done_text Run acts lines = counts_text (codes "done ") acts lines
done_text Resumed acts lines = counts_text (codes "done ") acts lines
done_text (Checked visibles) acts lines = counts_text (codes "done ") acts visibles
done_text (Assembled bytes) acts lines = codes "done " ++ decimal bytes ++ codes " bytes"
done_text (Audited events) acts lines = codes "saved " ++ decimal events ++ codes " events"

-- the verdict in words
abbrev pub verdict_text : Verdict → Did → ℕ → ℕ → List ℕ
verdict_text Done did acts lines = done_text did acts lines
verdict_text Unfinished did acts lines = counts_text (codes "unfinished ") acts lines
verdict_text Halted did acts lines = counts_text (codes "halted ") acts lines
verdict_text NotHalted did acts lines = codes "not halted"
verdict_text Usage did acts lines = codes "usage: dc run PLAN | dc check PLAN REPORT OUT | dc asm SOURCE | dc resume PLAN REPORT | dc journal PLAN | dc audit JOURNAL"
verdict_text (PlanRefused fault) did acts lines = codes "plan refused: " ++ plan_fault_text fault
verdict_text (GuestRefused p fault) did acts lines = refused_guest_text p fault
verdict_text (Missing which) did acts lines = codes "missing: " ++ which_text which
verdict_text (LibraryFault which) did acts lines = codes "library failed: " ++ which_text which
verdict_text (DeviceFault p) did acts lines = device_fault_text p
verdict_text (DeviceStopped p) did acts lines = device_stop_text p
verdict_text (SinkFault outlet) did acts lines = codes "sink failed: " ++ outlet_text outlet
verdict_text (NotARun position) did acts lines = codes "not a run: act " ++ decimal position
verdict_text (Differs line) did acts lines = codes "differs: line " ++ decimal line
verdict_text WantOfMemory did acts lines = codes "out of memory"
verdict_text (ScheduleRefused fault) did acts lines = refused_text (codes "schedule") fault.line (schedule_kind_text fault.kind)
verdict_text (StoreRefused p fault) did acts lines = refused_store_text p fault
verdict_text (StoreUnsuited p) did acts lines = unsuited_store_text p
verdict_text (ReportRefused fault) did acts lines = refused_text (codes "report") fault.line (report_kind_text fault.kind)
verdict_text (AsmRefused fault) did acts lines = refused_text (codes "source") fault.line (asm_kind_text fault.kind)
verdict_text (JournalRefused fault) did acts lines = refused_text (codes "journal") fault.line (journal_kind_text fault.kind)
verdict_text (NotSaved event line) did acts lines = not_saved_text event line

-- what is said of the command that was probably meant
abbrev pub meant_text : Option CommandName → List ℕ
meant_text None = []
meant_text (Some name) = codes "; is " ++ name_text name ++ codes " meant?"

-- the command that was probably meant, by words that are no command's
abbrev pub meant_for : Verdict → List (String Global) → Option CommandName
meant_for Usage words = meant_of words
meant_for _ words = None

-- the line on standard error
abbrev pub outcome_line : Outcome → Option CommandName → List ℕ
outcome_line o meant = codes "dc: " ++ verdict_text o.verdict o.did (length o.acts.items) o.lines ++ meant_text meant ++ 10 ∷ []

-- it came to no work
pub record IsNothing (o : Outcome) : Type 0 where
  pub did : o.did ≡ Nothing
  pub acts : o.acts.items ≡ []
  pub marks : o.marks.items ≡ []
  pub lines : o.lines ≡ 0
