-- What was opened is carried out, where nothing failed.
use Rattle.std.proofs.Common.{◌≡◌, ◌∙◌, ◌⊎◌, inl, inr, ℕ, Bool, true, false, List, Option, None, Some, IfOk, IfSome, IsOkAnd, Result, Ok, Err, String, ap, arith, length, refl, subst, sym}
use Rattle.std.proofs.lemmas.Bool.{true≢false}
use Rattle.std.specs.declared.alloc.Global.{Global}
use Rattle.dc_course.specs.Headline.{IsEnding, Setting}
use Rattle.dc_course.specs.declared.ending.Ending.{Ending}
use Rattle.dc_course.specs.declared.ending.Ending.TheVariants as ending
use Rattle.dc_checkpoint.specs.declared.faults.StoreFault.{StoreFault}
use Rattle.dc_media.specs.Causes.{Rose}
use Rattle.dc_plan.specs.declared.plan.Medium.{Medium}
use Rattle.dc_plan.specs.declared.plan.Medium.TheVariants as medium
use Rattle.dc_words.specs.Results.{◌>>=◌}
use Rattle.dc_command.specs.Command.{Order, asked_of}
use Rattle.dc_command.specs.declared.command.Ledger.{Ledger}
use Rattle.dc_command.specs.declared.command.Ledger.TheVariants as ledger
use Rattle.dc_command.specs.Command.{Halted as Names}
use Rattle.dc_command.specs.Command.Asked.{ToResume, ToRun}
use Rattle.dc_run.specs.Commands.{AreCalm, HasRun, IfResume, IfRun, IsUsedUp, IsCarriedOut, IsOpenedFor, TellsFor, Work, may_end, medium_of, work_of}
use Rattle.dc_run.specs.Commands.Work.{Run, Check, Assembly, Audit, Resume}
use Rattle.dc_run.specs.Headline.{IsReported, Loan, Reports, SinkCourse, keeps_journal, verdict_at}
use Rattle.dc_run.specs.Media.{Devices, HasFailed}
use Rattle.dc_run.specs.Opening.{Files, Task, is_halted, medium_at, opening_of, part_of, task_in}
use Rattle.dc_run.specs.Resuming.{Going, going_in}
use Rattle.dc_run.proofs.Headlines.{not_used, used_said}
use Rattle.dc_run.specs.Refusals.{as_verdict}
use Rattle.dc_run.specs.Settings.{IsCalm, has_ended, is_of_going_on, is_of_run, may_have_run, stands_in, was_opened}
use Rattle.dc_run.specs.declared.outcome.Outcome.{Outcome}
use Rattle.dc_run.specs.declared.verdict.Outlet.{Outlet}
use Rattle.dc_run.specs.declared.verdict.Outlet.TheVariants.{Out, Report}
use Rattle.dc_run.specs.declared.verdict.Verdict.{Verdict}
use Rattle.dc_run.specs.declared.verdict.Verdict.TheVariants.{Done, Unfinished, Halted, NotHalted, StoreUnsuited, Usage, PlanRefused, GuestRefused, Missing, LibraryFault, DeviceFault, DeviceStopped, SinkFault, NotARun, Differs, WantOfMemory, ScheduleRefused, StoreRefused, ReportRefused, AsmRefused, JournalRefused, NotSaved}
use Rattle.dc_run.specs.declared.verdict.Which.{Which}

-- what a run alone comes to
pub not_stopped : (v : Verdict) (p : ℕ) → is_of_run v ≡ false → v ≡ DeviceStopped p → ⊥
not_stopped v p other e = true≢false (sym (ap is_of_run e) ∙ other)

pub no_rise : (before now : ℕ) → IsCalm before now → Rose before now → ⊥
no_rise before now calm rose = omega (arith, calm.0, calm.1, rose)

abbrev is_run : Work → Bool
is_run (Run task) = true
is_run (Resume going) = true
is_run _ = false

-- a run that is to write its journal, or that goes on, may be stopped
abbrev is_noted : Work → Bool
is_noted (Run task) = keeps_journal task.ledger
is_noted (Resume going) = true
is_noted _ = false

run_used : (ledger : Ledger) (v : Verdict) → IsUsedUp v → HasRun ledger v
run_used ledger.Report v used = used
run_used ledger.Total v used = used
run_used ledger.Journal v used = inl used

run_stopped : (ledger : Ledger) (p : ℕ) → keeps_journal ledger ≡ true → HasRun ledger (DeviceStopped p)
run_stopped ledger.Report p keeps = absurd (true≢false (sym keeps))
run_stopped ledger.Total p keeps = absurd (true≢false (sym keeps))
run_stopped ledger.Journal p keeps = inr (p, refl)

done_is : (work : Work) → IsCarriedOut work Done
done_is (Run task) = run_used task.ledger Done (inl refl)
done_is (Resume going) = inl (inl refl)
done_is (Check checked) = refl
done_is (Assembly program) = refl
done_is (Audit journal) = inl refl

no_end : (work : Work) (v : Verdict) → may_have_run v ≡ false → was_opened v ≡ false → has_ended v ≡ false → stands_in v ≡ false → (may_end work v ≡ true) ⊎ (stands_in v ≡ true) → ⊥
no_end (Run task) v a b c d (inl may) = true≢false (sym may ∙ a)
no_end (Resume going) v a b c d (inl may) = true≢false (sym may ∙ a)
no_end (Check checked) v a b c d (inl may) = true≢false (sym may ∙ b)
no_end (Assembly program) v a b c d (inl may) = true≢false (sym may ∙ b)
no_end (Audit journal) v a b c d (inl may) = true≢false (sym may ∙ c)
no_end work v a b c d (inr may) = true≢false (sym may ∙ d)

-- only an audit ends by what it finds
found_is : (work : Work) (event line : ℕ) → (may_end work (NotSaved event line) ≡ true) ⊎ (stands_in (NotSaved event line) ≡ true) → IsCarriedOut work (NotSaved event line)
found_is (Run task) event line (inl may) = absurd (true≢false (sym may))
found_is (Resume going) event line (inl may) = absurd (true≢false (sym may))
found_is (Check checked) event line (inl may) = absurd (true≢false (sym may))
found_is (Assembly program) event line (inl may) = absurd (true≢false (sym may))
found_is (Audit journal) event line (inl may) = inr (event, line, refl)
found_is work event line (inr may) = absurd (true≢false (sym may))

-- a run that goes on
abbrev goes_on : Work → Bool
goes_on (Resume going) = true
goes_on _ = false

store_is : (work : Work) (p : ℕ) (fault : StoreFault) → goes_on work ≡ true → IsCarriedOut work (StoreRefused p fault)
store_is (Run task) p fault on = absurd (true≢false (sym on))
store_is (Check checked) p fault on = absurd (true≢false (sym on))
store_is (Assembly program) p fault on = absurd (true≢false (sym on))
store_is (Audit journal) p fault on = absurd (true≢false (sym on))
store_is (Resume going) p fault on = inr (inr (inl (p, fault, refl)))

unsuited_is : (work : Work) (p : ℕ) → goes_on work ≡ true → IsCarriedOut work (StoreUnsuited p)
unsuited_is (Run task) p on = absurd (true≢false (sym on))
unsuited_is (Check checked) p on = absurd (true≢false (sym on))
unsuited_is (Assembly program) p on = absurd (true≢false (sym on))
unsuited_is (Audit journal) p on = absurd (true≢false (sym on))
unsuited_is (Resume going) p on = inr (inr (inr (p, refl)))

-- what is known of a verdict that was answered
record Known (work : Work) (v : Verdict) : Type 0 where
  library : (which : Which) → v ≡ LibraryFault which → ⊥
  device : (p : ℕ) → v ≡ DeviceFault p → ⊥
  sink : (outlet : Outlet) → v ≡ SinkFault outlet → ⊥
  store : (p : ℕ) (fault : StoreFault) → v ≡ StoreRefused p fault → goes_on work ≡ true
  unsuited : (p : ℕ) → v ≡ StoreUnsuited p → goes_on work ≡ true
  stopped : (p : ℕ) → v ≡ DeviceStopped p → is_noted work ≡ true
  other : is_run work ≡ false → is_of_run v ≡ false

unfinished_is : (work : Work) → (is_run work ≡ false → true ≡ false) → IsCarriedOut work Unfinished
unfinished_is (Run task) other = run_used task.ledger Unfinished (inr (inl refl))
unfinished_is (Resume going) other = inl (inr (inl refl))
unfinished_is (Check checked) other = absurd (true≢false (other refl))
unfinished_is (Assembly program) other = absurd (true≢false (other refl))
unfinished_is (Audit journal) other = absurd (true≢false (other refl))

halted_is : (work : Work) → (is_run work ≡ false → true ≡ false) → IsCarriedOut work Halted
halted_is (Run task) other = run_used task.ledger Halted (inr (inr refl))
halted_is (Resume going) other = inl (inr (inr refl))
halted_is (Check checked) other = absurd (true≢false (other refl))
halted_is (Assembly program) other = absurd (true≢false (other refl))
halted_is (Audit journal) other = absurd (true≢false (other refl))

stopped_is : (work : Work) (p : ℕ) → is_noted work ≡ true → IsCarriedOut work (DeviceStopped p)
stopped_is (Run task) p noted = run_stopped task.ledger p noted
stopped_is (Resume going) p noted = inr (inl (p, refl))
stopped_is (Check checked) p noted = absurd (true≢false (sym noted))
stopped_is (Assembly program) p noted = absurd (true≢false (sym noted))
stopped_is (Audit journal) p noted = absurd (true≢false (sym noted))

ended_well : (work : Work) (v : Verdict) → (may_end work v ≡ true) ⊎ (stands_in v ≡ true) → Known work v → IsCarriedOut work v ⊎ (v ≡ WantOfMemory)
ended_well work Done may known = inl (done_is work)
ended_well work Unfinished may known = inl (unfinished_is work known.other)
ended_well work Halted may known = inl (halted_is work known.other)
ended_well work NotHalted may known = absurd (no_end work NotHalted refl refl refl refl may)
ended_well work (StoreUnsuited p) may known = inl (unsuited_is work p (known.unsuited p refl))
ended_well work WantOfMemory may known = inr refl
ended_well work (LibraryFault which) may known = absurd (known.library which refl)
ended_well work (DeviceFault p) may known = absurd (known.device p refl)
ended_well work (DeviceStopped p) may known = inl (stopped_is work p (known.stopped p refl))
ended_well work (SinkFault outlet) may known = absurd (known.sink outlet refl)
ended_well work (StoreRefused p fault) may known = inl (store_is work p fault (known.store p fault refl))
ended_well work Usage may known = absurd (no_end work Usage refl refl refl refl may)
ended_well work (PlanRefused fault) may known = absurd (no_end work (PlanRefused fault) refl refl refl refl may)
ended_well work (GuestRefused p fault) may known = absurd (no_end work (GuestRefused p fault) refl refl refl refl may)
ended_well work (Missing which) may known = absurd (no_end work (Missing which) refl refl refl refl may)
ended_well work (NotARun position) may known = absurd (no_end work (NotARun position) refl refl refl refl may)
ended_well work (Differs line) may known = absurd (no_end work (Differs line) refl refl refl refl may)
ended_well work (ScheduleRefused fault) may known = absurd (no_end work (ScheduleRefused fault) refl refl refl refl may)
ended_well work (ReportRefused fault) may known = absurd (no_end work (ReportRefused fault) refl refl refl refl may)
ended_well work (AsmRefused fault) may known = absurd (no_end work (AsmRefused fault) refl refl refl refl may)
ended_well work (JournalRefused fault) may known = absurd (no_end work (JournalRefused fault) refl refl refl refl may)
ended_well work (NotSaved event line) may known = inl (found_is work event line may)

sink_by : (v : Verdict) (out report : SinkCourse) → IsCalm out.faults_before out.faults_after → IsCalm report.faults_before report.faults_after
    → (v ≡ SinkFault Out → Rose out.faults_before out.faults_after) → (v ≡ SinkFault Report → Rose report.faults_before report.faults_after) → (outlet : Outlet) → v ≡ SinkFault outlet → ⊥
sink_by v out report calm calm' rose rose' Out e = no_rise out.faults_before out.faults_after calm (rose e)
sink_by v out report calm calm' rose rose' Report e = no_rise report.faults_before report.faults_after calm' (rose' e)

-- by the causes of the faults
module _ {S : Type 0} (asked : List (String Global)) (v : Verdict) (before after : S) (lib_before lib_after : ℕ) (out report : SinkCourse)
    (library : (which : Which) → v ≡ LibraryFault which → Rose lib_before lib_after)
    (sink : v ≡ SinkFault Out → Rose out.faults_before out.faults_after) (sink' : v ≡ SinkFault Report → Rose report.faults_before report.faults_after) where
  abbrev Complete : Devices S → Work → Type 0
  Complete on work = AreCalm on before after lib_before lib_after out report → TellsFor on before after work → IsCarriedOut work v ⊎ (v ≡ WantOfMemory)

  -- a device that failed counted it
  abbrev Counted : Devices S → Type 0
  Counted on = (p : ℕ) → v ≡ DeviceFault p → HasFailed on before after p

  complete_at : (on : Devices S) → Counted on → (work : Work) → (may_end work v ≡ true) ⊎ (stands_in v ≡ true) → (TellsFor on before after work → (p : ℕ) (fault : StoreFault) → v ≡ StoreRefused p fault → goes_on work ≡ true)
      → ((p : ℕ) → v ≡ StoreUnsuited p → goes_on work ≡ true) → ((p : ℕ) → v ≡ DeviceStopped p → is_noted work ≡ true) → (is_run work ≡ false → is_of_run v ≡ false) → Complete on work
  complete_at on device work may store unsuited stopped other = λ calm told. ended_well work v may (record {
    library = λ which e. no_rise lib_before lib_after calm.library (library which e);
    device = λ p e. no_rise (on.faults before p) (on.faults after p) (calm.devices p) (device p e);
    sink = sink_by v out report calm.output calm.reports sink sink';
    store = store told;
    unsuited = unsuited;
    stopped = stopped;
    other = other;
  })

  -- of a verdict that no run comes to
  complete_by : (on : Devices S) → Counted on → (told : Result Work Verdict) → IsOpenedFor may_end v told → is_of_run v ≡ false → IfOk told (Complete on)
  complete_by on device (Ok work) opened other = complete_at on device work opened (λ told p fault e. absurd (true≢false (sym (ap is_of_run e) ∙ other))) (λ p e. absurd (true≢false (sym (ap is_of_run e) ∙ other)))
      (λ p e. absurd (true≢false (sym (ap is_of_run e) ∙ other))) (λ is. other)
  complete_by on device (Err refusal) opened other = tt

  module _ (on : Medium → Devices S) where
    -- of a command that is no run
    pub other_complete : ((m : Medium) → Counted (on m)) → (known : Option Files) → IfSome known (λ files. IsOpenedFor may_end v (work_of files asked)) → is_of_run v ≡ false
        → IfSome known (λ files. IfOk (work_of files asked) (Complete (on (medium_of files asked))))
    other_complete device None opened other = tt
    other_complete device (Some files) opened other = complete_by (on (medium_of files asked)) (device (medium_of files asked)) (work_of files asked) opened other

    by_setting : (m : Medium) (task : Setting → Task) → ((setting : Setting) → (task setting).setting ≡ setting) → Counted (on m) → ((setting : Setting) (p : ℕ) → v ≡ DeviceStopped p → keeps_journal (task setting).ledger ≡ true)
        → (told : Result Setting Verdict) → IsOpenedFor (λ setting u. may_have_run u) v told → is_of_going_on v ≡ false
        → ((p : ℕ) (fault : StoreFault) → v ≡ StoreRefused p fault → IsOkAnd told (λ setting. (on m).tell (length setting.images) before after → ⊥)) → IfOk (told >>= (λ setting. Ok (Run (task setting)))) (Complete (on m))
    by_setting m task of device stopped (Ok setting) opened begun never = complete_at (on m) device (Run (task setting)) opened
        (λ told p fault e. absurd (never p fault e (subst (λ (s : Setting). (on m).tell (length s.images) before after) (of setting) told))) (λ p e. absurd (true≢false (sym (ap is_of_going_on e) ∙ begun))) (stopped setting) (λ is. absurd (true≢false is))
    by_setting m task of device stopped (Err refusal) opened begun never = tt

    -- of a run: its store is refused only where it is not told
    pub run_complete : (known : Option Files) (order : Order) → asked_of asked ≡ Some (ToRun order) → ((p : ℕ) → v ≡ DeviceStopped p → keeps_journal order.ledger ≡ true) → IfSome known (λ files. Counted (on (medium_at files order)))
        → IfSome known (λ files. IsOpenedFor (λ setting u. may_have_run u) v (as_verdict (opening_of files order))) → is_of_going_on v ≡ false
        → ((p : ℕ) (fault : StoreFault) → v ≡ StoreRefused p fault → IfSome known (λ files. IsOkAnd (as_verdict (opening_of files order)) (λ setting. (on (medium_at files order)).tell (length setting.images) before after → ⊥)))
        → IfSome known (λ files. IfOk (work_of files asked) (Complete (on (medium_of files asked))))
    run_complete None order is stopped device opened begun never = tt
    run_complete (Some files) order is stopped device opened begun never = rw is (by_setting (medium_at files order) (task_in files order) (λ setting. refl) device (λ setting. stopped) (as_verdict (opening_of files order)) opened begun never)

    -- of a run that goes on
    pub resume_complete : (known : Option Files) (names : Names) → asked_of asked ≡ Some (ToResume names) → Counted (on medium.Disk) → IfSome known (λ files. IsOpenedFor (λ going u. may_have_run u) v (going_in files names))
        → IfSome known (λ files. IfOk (work_of files asked) (Complete (on (medium_of files asked))))
    resume_complete None names is device opened = tt
    resume_complete (Some files) names is device opened = rw is (by (going_in files names) opened)
      where
        by : (told : Result Going Verdict) → IsOpenedFor (λ going u. may_have_run u) v told → IfOk (told >>= (λ going. Ok (Resume going))) (Complete (on medium.Disk))
        by (Ok going) may = complete_at (on medium.Disk) device (Resume going) may (λ told p fault e. refl) (λ p e. refl) (λ p e. refl) (λ is. absurd (true≢false is))
        by (Err refusal) may = tt

abbrev is_refused_store : Verdict → Bool
is_refused_store (StoreRefused p fault) = true
is_refused_store _ = false

-- a run that kept the promise ended by no refused store, where the stores tell
by_ending : (halted : Bool) (e : Ending) (v : Verdict) (text : List ℕ) (sink : SinkCourse) (p : ℕ) (fault : StoreFault) → ((q : ℕ) (why : StoreFault) → e ≡ ending.Store q why → ⊥) → Reports (verdict_at halted e) v text sink → v ≡ StoreRefused p fault → ⊥
by_ending halted ending.Done v text sink p fault never reports e = not_used is_refused_store Done v refl refl refl (used_said halted Done v text sink refl reports) (ap is_refused_store e)
by_ending halted ending.Unfinished v text sink p fault never reports e = not_used is_refused_store Unfinished v refl refl refl (used_said halted Unfinished v text sink refl reports) (ap is_refused_store e)
by_ending halted (ending.Device q) v text sink p fault never (inl whole) e = let no_way : DeviceFault q ≡ StoreRefused p fault = sym whole.0 ∙ e in cc
by_ending halted (ending.Device q) v text sink p fault never (inr cut) e = let no_way : DeviceFault q ≡ StoreRefused p fault = sym cut.0 ∙ e in cc
by_ending halted (ending.Store q why) v text sink p fault never reports e = never q why refl
by_ending halted ending.Sink v text sink p fault never (inl whole) e = let no_way : SinkFault Out ≡ StoreRefused p fault = sym whole.0 ∙ e in cc
by_ending halted ending.Sink v text sink p fault never (inr cut) e = let no_way : SinkFault Out ≡ StoreRefused p fault = sym cut.0 ∙ e in cc
by_ending halted (ending.Stopped q) v text sink p fault never (inl whole) e = let no_way : DeviceStopped q ≡ StoreRefused p fault = sym whole.0 ∙ e in cc
by_ending halted (ending.Stopped q) v text sink p fault never (inr cut) e = let no_way : DeviceStopped q ≡ StoreRefused p fault = sym cut.0 ∙ e in cc

pub never_refused : {S : Type 0} (task : Task) (on : Devices S) (o : Outcome) (lent : Loan S) (out report : SinkCourse) (p : ℕ) (fault : StoreFault) → o.verdict ≡ StoreRefused p fault
    → IsReported task on o lent out report → on.tell (length task.setting.images) lent.before lent.after → ⊥
never_refused task on o lent out report p fault e is told = let kept = is.kept told in
    by_ending (is_halted task) is.ending o.verdict _ report p fault (λ q why same. subst (λ x. IsEnding (part_of task) x o.marks.items kept.last kept.core) same kept.ending_is) is.report_told e

-- what follows of the task that an order opens
pub opened_with : (known : Option Files) (order : Order) (P Q : Medium → Task → Type 0) → ((m : Medium) (task : Task) → P m task → Q m task) → IfSome known (λ files. IsOkAnd (as_verdict (opening_of files order)) (λ s. P (medium_at files order) (task_in files order s)))
    → IfSome known (λ files. IsOkAnd (as_verdict (opening_of files order)) (λ s. Q (medium_at files order) (task_in files order s)))
opened_with None order P Q weaker is = tt
opened_with (Some files) order P Q weaker is = by (medium_at files order) (as_verdict (opening_of files order)) is
  where
    by : (m : Medium) (r : Result Setting Verdict) → IsOkAnd r (λ s. P m (task_in files order s)) → IsOkAnd r (λ s. Q m (task_in files order s))
    by m (Ok setting) holds = weaker m (task_in files order setting) holds
    by m (Err v) holds = holds

-- the same of the words' work
pub run_of_words : (known : Option Files) (words : List (String Global)) (order : Order) (P : Medium → Task → Type 0) → asked_of words ≡ Some (ToRun order) → IfSome known (λ files. IsOkAnd (as_verdict (opening_of files order)) (λ s. P (medium_at files order) (task_in files order s)))
    → IfSome known (λ files. IsOkAnd (work_of files words) (λ work. IfRun work (P (medium_of files words))))
run_of_words None words order P asked is = tt
run_of_words (Some files) words order P asked is = rw asked (by (medium_at files order) (as_verdict (opening_of files order)) is)
  where
    by : (m : Medium) (r : Result Setting Verdict) → IsOkAnd r (λ s. P m (task_in files order s)) → IsOkAnd (r >>= (λ setting. Ok (Run (task_in files order setting)))) (λ work. IfRun work (P m))
    by m (Ok setting) holds = holds
    by m (Err v) holds = holds

-- of words that ask to go on
pub resume_of_words : (known : Option Files) (words : List (String Global)) (names : Names) (P : Going → Type 0) → asked_of words ≡ Some (ToResume names) → IfSome known (λ files. IsOkAnd (going_in files names) P)
    → IfSome known (λ files. IsOkAnd (work_of files words) (λ work. IfResume work P))
resume_of_words None words names P asked is = tt
resume_of_words (Some files) words names P asked is = rw asked (by (going_in files names) is)
  where
    by : (r : Result Going Verdict) → IsOkAnd r P → IsOkAnd (r >>= (λ going. Ok (Resume going))) (λ work. IfResume work P)
    by (Ok going) holds = holds
    by (Err v) holds = holds
