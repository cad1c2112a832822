-- What a check was answered, by what its work was.
use Rattle.std.proofs.Common.{◌≡◌, ◌∙◌, ◌<◌, inl, inr, zero, suc, ℕ, All, List, [], ◌∷◌, Option, None, Some, IfSome, IsOkAnd, IsSome, Result, Ok, Err, String, true, ap, arith, length, refl, slice_index_or, subst, sym}
use Rattle.std.proofs.lemmas.List.{length-map}
use Rattle.std.specs.declared.alloc.Global.{Global}
use Rattle.dc_report.specs.Reading.{AreActs, Report}
use Rattle.dc_model.specs.declared.act.Taken.{Taken}
use Rattle.dc_elf.specs.Loaded.{seen_image}
use Rattle.dc_plan.specs.Plans.{Plan}
use Rattle.dc_words.specs.Results.{◌>>=◌}
use Rattle.dc_run.specs.Checking.{AsksToCheck, Checked, Concluded, Found, checked_in, found_at_end, found_in, passed_by, report_for, report_in}
use Rattle.dc_command.specs.Command.{Names, asked_of}
use Rattle.dc_command.specs.Command.Asked.{ToCheck}
use Rattle.dc_run.specs.Commands.{Asks, IfCheck, IsExact, work_of}
use Rattle.dc_run.specs.Commands.Work.{Check}
use Rattle.dc_course.specs.Headline.{Setting}
use Rattle.dc_run.specs.Opening.{AsksToRun, Files, file_in, opening_of, plan_for, to_report}
use Rattle.dc_run.specs.Refusals.{as_verdict}
use Rattle.dc_run.specs.Settings.{is_refusal, setting_of}
use Rattle.dc_run.specs.declared.setting.OpenedRun as code
use Rattle.dc_run.specs.declared.outcome.Outcome.{Outcome}
use Rattle.dc_run.specs.declared.refusal.Refusal.{Refusal}
use Rattle.dc_run.specs.declared.verdict.Verdict.{Verdict}
use Rattle.dc_run.specs.declared.verdict.Verdict.TheVariants.{LibraryFault}
use Rattle.dc_run.specs.declared.verdict.Which.{Which}
use Rattle.dc_run.specs.declared.verdict.Which.TheVariants as which
use Rattle.dc_run.proofs.Works.{exact_named, exact_refusal, exact_work, opened_ended}

-- the acts of a report are of its processes
one_more : (n : ℕ) (x : Taken) (acts : List Taken) → x.p < n → All (λ y. y.p < n) acts → (k : ℕ) (d : Taken) → k < length (x ∷ acts) → (slice_index_or (x ∷ acts) k d).p < n
one_more n x acts here all zero d within = here
one_more n x acts here all (suc k) d within = all k d (omega (arith, within))

pub acts_below : (n next : ℕ) (acts : List Taken) → AreActs n next acts → All (λ y. y.p < n) acts
acts_below n next [] are = λ k d within. absurd (omega (arith, within))
acts_below n next (x ∷ acts) are = one_more n x acts are.0 (acts_below n (suc x.t) acts are.4)

-- a file that a run asks for
nothing_there : (r : Result Plan Refusal) → IsOkAnd r (λ plan. ⊥) → ⊥
nothing_there (Err refusal) asks = asks
nothing_there (Ok plan) asks = asks

pub asked_of_run : (files : Files) (names : Names) (w : Which) → AsksToRun files (to_report names.plan) w → AsksToCheck files names w
asked_of_run files names which.Plan asks = asks
asked_of_run files names (which.Guest p) asks = asks
asked_of_run files names which.Schedule asks = asks
asked_of_run files names which.Report asks = absurd (nothing_there (plan_for files (to_report names.plan)) asks)
asked_of_run files names which.Out asks = absurd (nothing_there (plan_for files (to_report names.plan)) asks)
asked_of_run files names which.Source asks = absurd (nothing_there (plan_for files (to_report names.plan)) asks)
asked_of_run files names which.Journal asks = absurd (nothing_there (plan_for files (to_report names.plan)) asks)

-- the report, and the output
pub asked_report : (files : Files) (names : Names) (setting : Setting) (w : Which) → opening_of files (to_report names.plan) ≡ Ok setting → w ≡ which.Report → IsSome (files names.report) → AsksToCheck files names w
asked_report files names setting w opens is there = subst (AsksToCheck files names) (sym is) (rw opens there)

pub asked_output : (files : Files) (names : Names) (setting : Setting) (report : Report) (w : Which) → opening_of files (to_report names.plan) ≡ Ok setting → report_for files setting names.report ≡ Ok report
    → w ≡ which.Out → IsSome (files names.out) → AsksToCheck files names w
asked_output files names setting report w opens reads is there = subst (AsksToCheck files names) (sym is) (rw (opens, reads) there)

-- the report for the guests of a setting
pub read_for : (files : Files) (opened : code.OpenedRun) (n : ℕ) (name : List ℕ) (told : Result Report Refusal) → n ≡ length opened.setting.scheduled.setup.images.items → report_in files n name ≡ told
    → report_for files (setting_of opened) name ≡ told
read_for files opened n name told same e = subst (λ k. report_in files k name ≡ told) (same ∙ sym (length-map opened.setting.scheduled.setup.images.items seen_image)) e

-- what is found, where the setting and the report are there
pub found_by : (files : Files) (names : Names) (setting : Setting) (report : Report) → opening_of files (to_report names.plan) ≡ Ok setting → report_for files setting names.report ≡ Ok report
    → found_in files names ≡ (file_in files which.Out names.out >>= found_at_end setting report)
found_by files names setting report opens reads = rw (opens, reads) refl

-- what was found decides
module _ (files : Files) (names : Names) where
  found_passes : (f : Found) → found_in files names ≡ Ok f → checked_in files names ≡ passed_by f
  found_passes f e = ap (λ (r : Result Found Refusal). as_verdict r >>= passed_by) e

  by_outcome : (told : Result Checked Verdict) (o : Outcome) (before after : Option (List ℕ)) (refusal : Verdict) → is_refusal refusal ≡ true → Concluded told o before after → IsExact o.verdict refusal told
  by_outcome (Ok checked) o before after refusal is done = exact_work o.verdict refusal (Ok checked) checked is refl (inl (opened_ended o.verdict done.0))
  by_outcome (Err v) o before after refusal is done = exact_refusal o.verdict refusal (Err v) is (inr (ap (λ (u : Verdict). Err u) (sym done)))

  pub found_exact : (f : Found) (o : Outcome) (before after : Option (List ℕ)) (refusal : Verdict) → found_in files names ≡ Ok f → is_refusal refusal ≡ true → Concluded (passed_by f) o before after
      → IsExact o.verdict refusal (checked_in files names)
  found_exact f o before after refusal e is done = subst (λ (told : Result Checked Verdict). IsExact o.verdict refusal told) (sym (found_passes f e)) (by_outcome (passed_by f) o before after refusal is done)

-- the same of the words
pub check_exact : (known : Option Files) (words : List (String Global)) (names : Names) → asked_of words ≡ Some (ToCheck names) → (v refusal : Verdict)
    → IfSome known (λ files. IsExact v refusal (checked_in files names)) → IfSome known (λ files. IsExact v refusal (work_of files words))
check_exact None words names asked v refusal is = tt
check_exact (Some files) words names asked v refusal is = rw asked (exact_named Check v refusal (checked_in files names) is)

pub check_asks : (known : Option Files) (words : List (String Global)) (names : Names) → asked_of words ≡ Some (ToCheck names) → (v : Verdict) (w : Which)
    → IfSome known (λ files. v ≡ LibraryFault w → AsksToCheck files names w) → IfSome known (λ files. v ≡ LibraryFault w → Asks files words w)
check_asks None words names asked v w asks = tt
check_asks (Some files) words names asked v w asks = λ is. rw asked (asks is)

under_name : (P Q : Checked → Type 0) → ((checked : Checked) → P checked → Q checked) → (told : Result Checked Verdict) → IsOkAnd told P → IsOkAnd (told >>= (λ checked. Ok (Check checked))) (λ work. IfCheck work Q)
under_name P Q weaker (Ok checked) is = weaker checked is
under_name P Q weaker (Err v) is = is

pub check_passes : (known : Option Files) (words : List (String Global)) (names : Names) → asked_of words ≡ Some (ToCheck names) → (P Q : Checked → Type 0) → ((checked : Checked) → P checked → Q checked)
    → IfSome known (λ files. IsOkAnd (checked_in files names) P) → IfSome known (λ files. IsOkAnd (work_of files words) (λ work. IfCheck work Q))
check_passes None words names asked P Q weaker is = tt
check_passes (Some files) words names asked P Q weaker is = rw asked (under_name P Q weaker (checked_in files names) is)
