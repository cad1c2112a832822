-- How a call is refused, and the verdict of each refusal.
use Rattle.std.specs.Prelude.{Result, Ok, Err}
use Rattle.dc_run.specs.declared.refusal.Refusal.{Refusal}
use Rattle.dc_run.specs.declared.refusal.Refusal.TheVariants as refusal
use Rattle.dc_run.specs.declared.verdict.Verdict.{Verdict}
use Rattle.dc_run.specs.declared.verdict.Verdict.TheVariants.{PlanRefused, GuestRefused, Missing, LibraryFault, ScheduleRefused, ReportRefused, WantOfMemory}

-- the verdict of a call that is refused so
abbrev pub verdict_of : Refusal → Verdict
verdict_of (refusal.Plan fault) = PlanRefused fault
verdict_of (refusal.Guest p fault) = GuestRefused p fault
verdict_of (refusal.Missing which) = Missing which
verdict_of (refusal.Library which) = LibraryFault which
verdict_of (refusal.Schedule fault) = ScheduleRefused fault
verdict_of (refusal.Report fault) = ReportRefused fault
verdict_of refusal.Memory = WantOfMemory

-- a result whose refusal is said as its verdict
abbrev pub as_verdict : {A : Type 0} → Result A Refusal → Result A Verdict
as_verdict (Ok x) = Ok x
as_verdict (Err refusal) = Err (verdict_of refusal)
