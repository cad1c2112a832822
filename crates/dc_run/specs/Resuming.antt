-- What a run goes on with that was halted, by the told files, or the refusal that comes first.
use Rattle.std.specs.Prelude.{◌≡◌, ℕ, ◌<◌, ◌==◌, ◌&&◌, Bool, true, false, List, Option, None, Some, IfSome, IsOkAnd, IsSome, Result, Ok, Err, if◌then◌else◌, length, nat_lt}
use Rattle.dc_check.specs.Played.{played}
use Rattle.dc_command.specs.Command.{Halted, Order}
use Rattle.dc_command.specs.declared.command.Ledger.TheVariants as ledger
use Rattle.dc_course.specs.Headline.{Setting}
use Rattle.dc_guest.specs.Guest.{Guest}
use Rattle.dc_model.specs.Drawn.{Drawn}
use Rattle.dc_model.specs.FailureFree.{FailureFree, run}
use Rattle.dc_model.specs.declared.act.Taken.{Taken}
use Rattle.dc_model.specs.declared.entry.Entry.{Entry}
use Rattle.dc_report.specs.Reading.{Report}
use Rattle.dc_words.specs.Results.{◌>>=◌}
use Rattle.dc_run.specs.Checking.{report_for}
use Rattle.dc_run.specs.Opening.{AsksToRun, Files, entries_run, guests, halt_at, leaves_over, opening_of}
use Rattle.dc_run.specs.Refusals.{as_verdict}
use Rattle.dc_run.specs.declared.verdict.Verdict.{Verdict}
use Rattle.dc_run.specs.declared.verdict.Verdict.TheVariants.{GuestRefused, LibraryFault, Missing, NotARun, NotHalted, PlanRefused, ReportRefused, ScheduleRefused, WantOfMemory}
use Rattle.dc_run.specs.declared.verdict.Which.{Which}
use Rattle.dc_run.specs.declared.verdict.Which.TheVariants as which

-- a run that goes on: what its plan opens, the report of the part before, and the first entry that is not run, if it is to be halted again
pub record Going : Type 0 where
  pub setting : Setting
  pub report : Report
  pub halt : Option ℕ

-- an order to open the plan of this name for a run that goes on
abbrev pub to_go_on : List ℕ → Order
to_go_on plan = record { plan = plan; ledger = ledger.Total }

-- a halt that the part before came to has no effect
abbrev pub halt_behind : ℕ → Option ℕ → Option ℕ
halt_behind entries None = None
halt_behind entries (Some halt) = if nat_lt entries halt then Some halt else None

-- a halt comes behind these entries, if there is one
abbrev pub IsBehind : ℕ → Option ℕ → Type 0
IsBehind entries halt = IfSome halt (λ at. entries < at)

-- a report of a run that was halted with entries of its schedule left over
abbrev pub was_halted : List Entry → Report → Bool
was_halted schedule report = report.status == 15 && nat_lt report.entries (length schedule)

-- acts that are a run of the setting's guests, each drawn at its turn of the schedule
pub record IsRunOf (setting : Setting) (acts : List Taken) : Type 0 where
  pub world : FailureFree Guest
  pub run_is : run (guests setting) acts ≡ Some world
  pub drawn : Drawn (length setting.images) setting.schedule acts

-- with what the acts of the report lead to, or the position of the first that leads nowhere
abbrev pub going_by : Option ℕ → Setting → Report → Result (FailureFree Guest) ℕ → Result Going Verdict
going_by halt setting report (Ok world) = Ok (record { setting = setting; report = report; halt = halt_behind report.entries halt })
going_by halt setting report (Err position) = Err (NotARun position)

-- with the setting and the report: it has to be that of a halted run, and its acts a run, each drawn at its turn
abbrev pub going_with : Option ℕ → Setting → Report → Result Going Verdict
going_with halt setting report = if was_halted setting.schedule report then going_by halt setting report (played (guests setting) setting.schedule report.acts) else Err NotHalted

-- with the setting
abbrev pub going_at_setting : Files → Halted → Setting → Result Going Verdict
going_at_setting files names setting = as_verdict (report_for files setting names.report) >>= going_with (halt_at files (to_go_on names.plan)) setting

-- what a run is opened with, on disks, then the report: the first that is refused decides
abbrev pub going_in : Files → Halted → Result Going Verdict
going_in files names = as_verdict (opening_of files (to_go_on names.plan)) >>= going_at_setting files names

-- the part of it that is run: behind the entries of the part before, up to its halt
abbrev pub onward_of : Going → Setting
onward_of going = record going.setting { schedule = entries_run going.halt going.setting.schedule; from = going.report.entries }

-- it is halted again before its schedule is used up
abbrev pub is_halted_again : Going → Bool
is_halted_again going = leaves_over going.halt going.setting.schedule

-- a verdict that comes before the disks are read: a refusal by the told files, or what may stand in for one
abbrev pub comes_before : Verdict → Bool
comes_before (PlanRefused fault) = true
comes_before (GuestRefused p fault) = true
comes_before (Missing which) = true
comes_before (LibraryFault which) = true
comes_before (ScheduleRefused fault) = true
comes_before (ReportRefused fault) = true
comes_before NotHalted = true
comes_before (NotARun position) = true
comes_before WantOfMemory = true
comes_before _ = false

-- which files it asks for and finds: those of a run, and the report once those before it were there and were not refused
abbrev pub AsksToResume : Files → Halted → Which → Type 0
AsksToResume files names which.Report = IsOkAnd (opening_of files (to_go_on names.plan)) (λ setting. IsSome (files names.report))
AsksToResume files names which.Out = ⊥
AsksToResume files names which.Source = ⊥
AsksToResume files names which.Journal = ⊥
AsksToResume files names which = AsksToRun files (to_go_on names.plan) which
