-- What a drawn run lists and shows passes.
use Rattle.std.proofs.Common.{All, ◌≡◌, ◌<◌, ◌≤◌, ◌^◌, ℕ, true, List, [], ◌∷◌, Ok, Some, arith, length, reverse}
use Rattle.std.specs.List.{AllByRecursion}
use Rattle.dc_acts.specs.Lines.{text_of}
use Rattle.dc_report.specs.Reading.{Report, is_status, report_of, text_of_report}
use Rattle.dc_check.proofs.Passing.{records_pass}
use Rattle.dc_check.specs.Findings.{finding_of}
use Rattle.dc_check.specs.Findings.Finding.{Passes}
use Rattle.dc_check.specs.Records.{IsWritten}
use Rattle.dc_elf.specs.Images.{Image}
use Rattle.dc_guest.specs.Guest.{Guest, guests_of}
use Rattle.dc_limits.specs.declared.bounds.TheConstants.{ENTRIES}
use Rattle.dc_limits.specs.declared.sizes.TheConstants.{PROCESSES}
use Rattle.dc_model.specs.Drawn.{Drawn}
use Rattle.dc_model.specs.Repeats.{RepeatsAgree}
use Rattle.dc_model.specs.FailureFree.{FailureFree, run, thin}
use Rattle.dc_model.specs.declared.act.Taken.{Taken}
use Rattle.dc_model.specs.declared.entry.Entry.{Entry}
use Rattle.dc_model.specs.declared.visible.Visible.{Visible}
use Rattle.dc_shows.specs.Typed.{CanWrite, IsGivenRun}
use Rattle.dc_shows.proofs.Lists.{acts_few}
use Rattle.dc_report.proofs.ReportTexts.{report_again}
use Rattle.dc_shows.proofs.Worlds.{run_written}

written_all : (n most : ℕ) (records : List Visible) → n ≤ PROCESSES → most ≤ ENTRIES → AllByRecursion (CanWrite n most) records → AllByRecursion IsWritten records
written_all n most [] few low all = tt
written_all n most (x ∷ records) few low all = (
  (let p = all.0.process in let k = all.0.number in record { process = omega (arith, p, few); number = omega (arith, k, low); shown = all.0.shown }),
  written_all n most records few low all.1,
)

module _ (images : List Image) (inputs : List (List (List ℕ))) (schedule : List Entry) (is : IsGivenRun images inputs schedule) where
  few : length images < 2 ^ 32
  few = let h = is.few in omega (arith, h)

  pub listed : (report : Report) (w : FailureFree Guest) → Drawn (length images) schedule report.acts → run (guests_of images inputs) report.acts ≡ Some w
      → is_status report.status ≡ true → report.entries ≤ ENTRIES → report.lines ≤ report.entries
      → (report.status ≡ 15 → All (λ x. x.t < report.entries) report.acts) → report_of (length images) (text_of_report report) ≡ Ok report
  listed report w drawn ran status entries lines halted = report_again (length images) report is.few
      (record { status = status; acts = (run_written images inputs few is.images_are is.inputs_are schedule is.schedule_is report.acts w drawn ran).1; entries = entries; lines = lines; halted = halted })

  pub shown : (acts : List Taken) (w : FailureFree Guest) (records : List Visible) → Drawn (length images) schedule acts → run (guests_of images inputs) acts ≡ Some w
      → thin records ≡ w.visibles → RepeatsAgree (reverse records) → finding_of (guests_of images inputs) schedule acts (text_of records) ≡ Passes (length w.visibles)
  shown acts w records drawn ran thinned agree =
      let all = run_written images inputs few is.images_are is.inputs_are schedule is.schedule_is acts w drawn ran in
      records_pass (guests_of images inputs) schedule acts w records drawn ran thinned agree
      (written_all (length images) (length acts) w.visibles is.few (acts_few (length images) acts all.1) all.0)
