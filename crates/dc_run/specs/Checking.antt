-- What checking an output comes to, by the told files.
use Rattle.std.specs.Prelude.{◌≡◌, ℕ, List, [], ◌∷◌, ◌++◌, Option, Some, None, true, IsOkAnd, IsSome, Result, Ok, Err, codes, decimal, length, option_map}
use Rattle.dc_report.specs.Reading.{Report, report_of}
use Rattle.dc_report.specs.declared.fault.ReportFault.{ReportFault}
use Rattle.dc_check.specs.Findings.{Finding, finding_of, seen_difference, seen_finding}
use Rattle.dc_check.specs.Findings.{Finding as found}
use Rattle.dc_check.specs.declared.finding.Difference.{Difference}
use Rattle.dc_model.specs.declared.act.Taken.{Taken}
use Rattle.dc_words.specs.Results.{◌>>=◌}
use Rattle.dc_run.specs.Assembling.{WritesOut}
use Rattle.dc_command.specs.Command.{Names}
use Rattle.dc_course.specs.Headline.{Setting}
use Rattle.dc_run.specs.Opening.{AsksToRun, Files, file_in, guests, opening_of, to_report}
use Rattle.dc_run.specs.Refusals.{as_verdict}
use Rattle.dc_run.specs.Settings.{differing_line, was_opened}
use Rattle.dc_run.specs.declared.checking.Found as code
use Rattle.dc_run.specs.declared.outcome.Outcome.{Outcome}
use Rattle.dc_run.specs.declared.refusal.Refusal.{Refusal}
use Rattle.dc_run.specs.declared.refusal.Refusal.TheVariants as refusal
use Rattle.dc_run.specs.declared.verdict.Did.TheVariants as did
use Rattle.dc_run.specs.declared.verdict.Verdict.{Verdict}
use Rattle.dc_run.specs.declared.verdict.Verdict.TheVariants.{Differs, NotARun}
use Rattle.dc_run.specs.declared.verdict.Which.{Which}
use Rattle.dc_run.specs.declared.verdict.Which.TheVariants as which

-- the acts of a report, and what comes of checking an output against them
pub record Found : Type 0 where
  pub acts : List Taken
  pub finding : Finding

-- an output that passed: the acts of its report, and how many visible records they show
pub record Checked : Type 0 where
  pub acts : List Taken
  pub visibles : ℕ

-- the report, or the fault of its first faulty line
abbrev pub report_or_fault : Result Report ReportFault → Result Report Refusal
report_or_fault (Ok report) = Ok report
report_or_fault (Err fault) = Err (refusal.Report fault)

-- with the setting and the report, from the bytes of the output
abbrev pub found_at_end : Setting → Report → List ℕ → Result Found Refusal
found_at_end setting report out = Ok (record { acts = report.acts; finding = finding_of (guests setting) setting.schedule report.acts out })

-- the report of this name, for n guests
abbrev pub report_in : Files → ℕ → List ℕ → Result Report Refusal
report_in files n name = file_in files which.Report name >>= (λ text. report_or_fault (report_of n text))

-- the report of this name, for the guests of a setting
abbrev pub report_for : Files → Setting → List ℕ → Result Report Refusal
report_for files setting name = report_in files (length setting.images) name

-- with the setting
abbrev pub found_at_setting : Files → Names → Setting → Result Found Refusal
found_at_setting files names setting = report_for files setting names.report >>= (λ report. file_in files which.Out names.out >>= found_at_end setting report)

-- what a run is opened with, then the report, then the output: the first that is refused decides
abbrev pub found_in : Files → Names → Result Found Refusal
found_in files names = opening_of files (to_report names.plan) >>= found_at_setting files names

-- an output that passes, or how it is refused
abbrev pub passed : List Taken → Finding → Result Checked Verdict
passed acts (found.Passes visibles) = Ok (record { acts = acts; visibles = visibles })
passed acts (found.NotARun position) = Err (NotARun position)
passed acts (found.Differs difference) = Err (Differs difference.line)

-- by what was found
abbrev pub passed_by : Found → Result Checked Verdict
passed_by f = passed f.acts f.finding

-- the output that passes, or the refusal that comes first
abbrev pub checked_in : Files → Names → Result Checked Verdict
checked_in files names = as_verdict (found_in files names) >>= passed_by

-- what is written of an output that passes
abbrev pub passed_text : ℕ → ℕ → List ℕ
passed_text acts visibles = codes "ok " ++ decimal acts ++ codes " " ++ decimal visibles ++ 10 ∷ []

-- an output passed: that is written, and the report's acts are told
pub record IsChecked (checked : Checked) (o : Outcome) (before after : Option (List ℕ)) : Type 0 where
  pub did : o.did ≡ did.Checked checked.visibles
  pub acts : o.acts.items ≡ checked.acts
  pub marks : o.marks.items ≡ []
  pub lines : o.lines ≡ 0
  pub written : WritesOut (passed_text (length checked.acts) checked.visibles) o.verdict before after

-- as the code has what it found
abbrev pub found_view : code.Found → Found
found_view f = record { acts = f.acts.items; finding = seen_finding f.finding }

-- what an outcome says of an output that passes, or of its refusal
abbrev pub Concluded : Result Checked Verdict → Outcome → Option (List ℕ) → Option (List ℕ) → Type 0
Concluded (Ok checked) o before after = (was_opened o.verdict ≡ true) × IsChecked checked o before after
Concluded (Err refusal) o before after = o.verdict ≡ refusal

-- the difference that is told is the one that was found
abbrev pub TellsDifference : Option Difference → Found → Type 0
TellsDifference (Some difference) f = f.finding ≡ found.Differs (seen_difference difference)
TellsDifference None f = ⊥

-- a difference is told exactly where a line differs, and it is of that line
abbrev pub TellsLine : Outcome → Type 0
TellsLine o = option_map (λ (difference : Difference). difference.line) o.difference ≡ differing_line o.verdict

-- which files a check asks for and finds: those of a run, and the others once those before them were there and were not refused
abbrev pub AsksToCheck : Files → Names → Which → Type 0
AsksToCheck files names which.Report = IsOkAnd (opening_of files (to_report names.plan)) (λ setting. IsSome (files names.report))
AsksToCheck files names which.Out = IsOkAnd (opening_of files (to_report names.plan)) (λ setting. IsOkAnd (report_for files setting names.report) (λ report. IsSome (files names.out)))
AsksToCheck files names which.Source = ⊥
AsksToCheck files names which.Journal = ⊥
AsksToCheck files names which = AsksToRun files (to_report names.plan) which
