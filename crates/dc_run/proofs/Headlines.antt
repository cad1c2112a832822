-- A run with its report keeps the promise.
use Rattle.std.proofs.Common.{◌≡◌, ◌∙◌, ◌⊎◌, inl, inr, true, false, Bool, is_some, if◌then◌else◌, sym, subst, All, IfSome, IsOkAnd, List, [], ◌∷◌, Option, None, Some, Ok, ap, length, refl, ℕ}
use Rattle.std.proofs.lemmas.Bool.{true≢false}
use Rattle.std.proofs.lemmas.List.Elements.{All-cons, All-nil}
use Rattle.dc_command.specs.Command.{Order}
use Rattle.dc_course.specs.Courses.{account_of as run_account}
use Rattle.dc_course.specs.Courses.{journal_in}
use Rattle.dc_course.specs.Headline.{Setting}
use Rattle.dc_course.specs.Running.{output}
use Rattle.dc_course.specs.declared.course.Course.{Course}
use Rattle.dc_course.specs.declared.leaving.Journal.{Journal}
use Rattle.dc_model.specs.declared.entry.Entry.{Entry}
use Rattle.dc_model.specs.declared.entry.Entry.TheVariants.{Turn, Stop, Power}
use Rattle.dc_schedule.specs.Entries.{AreEntries, IsEntry, clock_after}
use Rattle.dc_world.specs.Worlds.{IsOfProcesses}
use Rattle.dc_world.specs.declared.faults.OpenFault.{OpenFault}
use Rattle.dc_world.specs.declared.faults.OpenFault.TheVariants as opening
use Rattle.dc_plan.specs.declared.plan.Medium.{Medium}
use Rattle.dc_run.specs.Headline.{IsKept, IsReported, Loan, Reports, SinkCourse, account_of, keeps_journal, ledger_text, unopened_by, unreported, used_up_at, verdict_at}
use Rattle.dc_run.specs.Media.{Devices}
use Rattle.dc_run.specs.Opening.{Files, Task, halt_at, is_halted, medium_at, opening_of, part_of, task_in}
use Rattle.dc_recovery.specs.Unstopped.{AreTurns}
use Rattle.dc_run.specs.Refusals.{as_verdict}
use Rattle.dc_course.specs.declared.ending.Ending.{Ending}
use Rattle.dc_course.specs.declared.ending.Ending.TheVariants as ending
use Rattle.dc_run.specs.Settings.{has_ended, is_free, is_of_going_on, may_have_run}
use Rattle.dc_run.specs.declared.verdict.Outlet.TheVariants.{Report}
use Rattle.dc_run.specs.declared.verdict.Verdict.{Verdict}
use Rattle.dc_run.specs.declared.verdict.Verdict.TheVariants.{Halted, SinkFault}
use Rattle.dc_run.specs.declared.outcome.Outcome.{Outcome}
use Rattle.dc_run.specs.declared.verdict.Did.TheVariants.{Run}

-- a journal is there where it is kept
kept_is : (journal : Journal) → is_some (journal_in journal) ≡ journal.kept
kept_is journal = by journal.kept
  where
    by : (kept : Bool) → is_some (if kept then Some journal.lines.items else None) ≡ kept
    by true = refl
    by false = refl

-- with what the run wrote at its end, by what it came to
pub with_ledger : {S : Type 0} (task : Task) (on : Devices S) (run : Course) (outcome : Outcome) (journal : Journal) (o : Outcome) (n : ℕ) (lent : Loan S) (out report : SinkCourse)
    → outcome ≡ record { verdict = verdict_at (is_halted task) run.ending; did = Run; acts = run.acts; marks = run.marks; lines = run.lines; difference = None } → journal ≡ run.journal
    → n ≡ length task.setting.images → run.journal.kept ≡ keeps_journal task.ledger → (keeps_journal task.ledger ≡ true → AreTurns task.setting.schedule × (task.setting.stops ≡ []))
    → IsKept on (part_of task) (run_account run) run.ending (output out.before out.after) lent
    → (verdict_at (is_halted task) run.ending ≡ Halted → on.tell (length task.setting.images) lent.before lent.after → on.resumable task.setting (length run.marks.items) run.lines run.acts.items lent.after)
    → Reports outcome.verdict o.verdict (ledger_text n outcome.verdict (account_of outcome (journal_in journal))) report
    → o.acts ≡ outcome.acts → o.marks ≡ outcome.marks → o.lines ≡ outcome.lines → IsReported task on o lent out report
with_ledger task on run outcome journal o n lent out report is same count keeps turns kept halted reports acts marks lines = rw (acts, marks, lines) (rw is (record {
  ending = run.ending;
  journal = journal_in run.journal;
  journal_is = kept_is run.journal ∙ keeps;
  turns = turns;
  kept = kept;
  halted = halted;
  report_told = subst (λ k. Reports (verdict_at (is_halted task) run.ending) o.verdict (ledger_text k (verdict_at (is_halted task) run.ending) (run_account run)) report) count (rw (is, same) at reports);
}))

-- what it wrote, by the run
pub run_ledger : (halted : Bool) (run : Course) (outcome : Outcome) (verdict : Verdict) (text : List ℕ) (sink : SinkCourse)
    → outcome ≡ record { verdict = verdict_at halted run.ending; did = Run; acts = run.acts; marks = run.marks; lines = run.lines; difference = None }
    → Reports outcome.verdict verdict text sink → Reports (verdict_at halted run.ending) verdict text sink
run_ledger halted run outcome verdict text sink is reports = subst (λ (o : Outcome). Reports o.verdict verdict text sink) is reports

-- what the told files open by an order: this setting, on this medium, halted there
pub record IsOpenedSo (known : Option Files) (order : Order) (setting : Setting) (halt : Option ℕ) (medium : Medium) : Type 0 where
  pub opened : (files : Files) → known ≡ Some files → opening_of files order ≡ Ok setting
  pub on_it : (files : Files) → known ≡ Some files → medium_at files order ≡ medium
  pub to_it : (files : Files) → known ≡ Some files → halt_at files order ≡ halt

-- what holds of that holds of the task that they open
pub opened_so : (known : Option Files) (order : Order) (setting : Setting) (halt : Option ℕ) (medium : Medium) (P : Medium → Task → Type 0) → IsOpenedSo known order setting halt medium
    → P medium (record { ledger = order.ledger; setting = setting; halt = halt }) → IfSome known (λ files. IsOkAnd (as_verdict (opening_of files order)) (λ s. P (medium_at files order) (task_in files order s)))
opened_so None order setting halt medium P is holds = tt
opened_so (Some files) order setting halt medium P is holds = rw (is.opened files refl)
    (subst (λ m. P m (task_in files order setting)) (sym (is.on_it files refl)) (subst (λ h. P medium (record { ledger = order.ledger; setting = setting; halt = h })) (sym (is.to_it files refl)) holds))

-- an entry of a schedule names processes that are there
entry_named : (n last : ℕ) (entry : Entry) → IsEntry n last entry → IsOfProcesses n entry
entry_named n last (Turn turn) is = is.0
entry_named n last (Stop p) is = is
entry_named n last Power is = tt

-- so does each
pub entries_named : (n last : ℕ) (entries : List Entry) → AreEntries n last entries → All (IsOfProcesses n) entries
entries_named n last [] are = All-nil (IsOfProcesses n)
entries_named n last (entry ∷ entries) are = All-cons (IsOfProcesses n) entry entries (entry_named n last entry are.0) (entries_named n (clock_after last entry) entries are.1)

-- a run that ended so comes to a verdict of a command that was carried out, or to a free one
ended_so : (halted : Bool) (e : Ending) → (has_ended (verdict_at halted e) ≡ true) ⊎ (is_free (verdict_at halted e) ≡ true)
ended_so true ending.Done = inl refl
ended_so false ending.Done = inl refl
ended_so true ending.Unfinished = inl refl
ended_so false ending.Unfinished = inl refl
ended_so halted (ending.Device p) = inr refl
ended_so halted (ending.Store p fault) = inr refl
ended_so halted ending.Sink = inl refl
ended_so halted (ending.Stopped p) = inr refl

-- also where its report was not written
unreported_so : (halted : Bool) (e : Ending) → (has_ended (unreported (verdict_at halted e)) ≡ true) ⊎ (is_free (unreported (verdict_at halted e)) ≡ true)
unreported_so true ending.Done = inl refl
unreported_so false ending.Done = inl refl
unreported_so true ending.Unfinished = inl refl
unreported_so false ending.Unfinished = inl refl
unreported_so halted (ending.Device p) = inr refl
unreported_so halted (ending.Store p fault) = inr refl
unreported_so halted ending.Sink = inl refl
unreported_so halted (ending.Stopped p) = inr refl

-- so with its report
pub reported_so : (halted : Bool) (e : Ending) (v : Verdict) (text : List ℕ) (sink : SinkCourse) → Reports (verdict_at halted e) v text sink → (has_ended v ≡ true) ⊎ (is_free v ≡ true)
reported_so halted e v text sink (inl whole) = subst (λ u. (has_ended u ≡ true) ⊎ (is_free u ≡ true)) (sym whole.0) (ended_so halted e)
reported_so halted e v text sink (inr cut) = subst (λ u. (has_ended u ≡ true) ⊎ (is_free u ≡ true)) (sym cut.0) (unreported_so halted e)

-- one that was not opened came to what no told file decides
pub free_unopened : (fault : OpenFault) → is_free (unopened_by fault) ≡ true
free_unopened opening.Memory = refl
free_unopened (opening.Failed p) = refl

-- and in any case to one that a run may come to, and that is none of one that goes on
ended_may : (halted : Bool) (e : Ending) → (may_have_run (verdict_at halted e) ≡ true) × (is_of_going_on (verdict_at halted e) ≡ false)
ended_may true ending.Done = (refl, refl)
ended_may false ending.Done = (refl, refl)
ended_may true ending.Unfinished = (refl, refl)
ended_may false ending.Unfinished = (refl, refl)
ended_may halted (ending.Device p) = (refl, refl)
ended_may halted (ending.Store p fault) = (refl, refl)
ended_may halted ending.Sink = (refl, refl)
ended_may halted (ending.Stopped p) = (refl, refl)

unreported_may : (halted : Bool) (e : Ending) → (may_have_run (unreported (verdict_at halted e)) ≡ true) × (is_of_going_on (unreported (verdict_at halted e)) ≡ false)
unreported_may true ending.Done = (refl, refl)
unreported_may false ending.Done = (refl, refl)
unreported_may true ending.Unfinished = (refl, refl)
unreported_may false ending.Unfinished = (refl, refl)
unreported_may halted (ending.Device p) = (refl, refl)
unreported_may halted (ending.Store p fault) = (refl, refl)
unreported_may halted ending.Sink = (refl, refl)
unreported_may halted (ending.Stopped p) = (refl, refl)

pub reported_may : (halted : Bool) (e : Ending) (v : Verdict) (text : List ℕ) (sink : SinkCourse) → Reports (verdict_at halted e) v text sink → may_have_run v ≡ true
reported_may halted e v text sink (inl whole) = ap may_have_run whole.0 ∙ (ended_may halted e).0
reported_may halted e v text sink (inr cut) = ap may_have_run cut.0 ∙ (unreported_may halted e).0

pub reported_begun : (halted : Bool) (e : Ending) (v : Verdict) (text : List ℕ) (sink : SinkCourse) → Reports (verdict_at halted e) v text sink → is_of_going_on v ≡ false
reported_begun halted e v text sink (inl whole) = ap is_of_going_on whole.0 ∙ (ended_may halted e).1
reported_begun halted e v text sink (inr cut) = ap is_of_going_on cut.0 ∙ (unreported_may halted e).1

-- so is one that was not opened
pub unopened_begun : (fault : OpenFault) → is_of_going_on (unopened_by fault) ≡ false
unopened_begun opening.Memory = refl
unopened_begun (opening.Failed p) = refl

-- what is said of a run whose entries are used up: that, or halted, or that its report was not written
pub used_said : (halted : Bool) (stood v : Verdict) (text : List ℕ) (sink : SinkCourse) → unreported stood ≡ SinkFault Report → Reports (used_up_at halted stood) v text sink → (v ≡ Halted) ⊎ (v ≡ stood) ⊎ (v ≡ SinkFault Report)
used_said true stood v text sink same (inl whole) = inl whole.0
used_said false stood v text sink same (inl whole) = inr (inl whole.0)
used_said true stood v text sink same (inr cut) = inr (inr cut.0)
used_said false stood v text sink same (inr cut) = inr (inr (cut.0 ∙ same))

-- so it is nothing else
pub not_used : (f : Verdict → Bool) (stood v : Verdict) → f Halted ≡ false → f stood ≡ false → f (SinkFault Report) ≡ false → (v ≡ Halted) ⊎ (v ≡ stood) ⊎ (v ≡ SinkFault Report) → f v ≡ true → ⊥
not_used f stood v a b c (inl e) is = true≢false (sym is ∙ ap f e ∙ a)
not_used f stood v a b c (inr (inl e)) is = true≢false (sym is ∙ ap f e ∙ b)
not_used f stood v a b c (inr (inr e)) is = true≢false (sym is ∙ ap f e ∙ c)
