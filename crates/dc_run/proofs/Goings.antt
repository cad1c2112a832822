-- What a run goes on with, by the told files.
use Rattle.std.proofs.Common.{◌≡◌, ◌∙◌, ◌⊎◌, ◌+◌, ◌==◌, inl, inr, ℕ, Bool, true, false, List, Option, None, Some, IfErr, IfOk, IfSome, IsErrOf, IsOkAnd, IsSome, OnErr, Result, Ok, Err, ap, length, nat_lt, refl, subst, sym}
use Rattle.std.proofs.lemmas.Bool.{and_parts, eqb-true, true≢false}
use Rattle.dc_checkpoint.specs.declared.faults.StoreFault.{StoreFault}
use Rattle.dc_check.proofs.Drawing.{drawn_when_played}
use Rattle.dc_check.specs.Played.{first_stray, played}
use Rattle.dc_command.specs.Command.{Halted}
use Rattle.dc_course.specs.Headline.{Setting}
use Rattle.dc_course.specs.Lent.{TellsStores}
use Rattle.dc_disk.specs.Logs.{AreLeftAt, comes_of_content}
use Rattle.dc_guest.specs.Guest.{Guest}
use Rattle.dc_model.specs.FailureFree.{FailureFree}
use Rattle.dc_model.specs.declared.act.Taken.{Taken}
use Rattle.dc_plan.specs.Plans.{Plan}
use Rattle.dc_report.specs.Reading.{IsReport, Report}
use Rattle.dc_run.specs.Checking.{report_for}
use Rattle.dc_run.specs.Opening.{AsksToRun, Files, guests, halt_at, opening_of, plan_for}
use Rattle.dc_run.specs.Refusals.{verdict_of}
use Rattle.dc_run.specs.Resuming.{AsksToResume, Going, IsRunOf, comes_before, going_by, going_in, going_with, halt_behind, is_halted_again, to_go_on, was_halted}
use Rattle.dc_run.specs.Headline.{Loan, Reports, SinkCourse, account_of, verdict_at}
use Rattle.dc_run.specs.Outcomes.{status_of}
use Rattle.dc_run.specs.Resumed.{GoesOnKept, IsResumed, unresumed_by}
use Rattle.dc_run.specs.declared.outcome.Outcome.{Outcome}
use Rattle.dc_run.specs.declared.verdict.Did.TheVariants.{Resumed}
use Rattle.dc_course.specs.Courses.{account_of as run_account}
use Rattle.dc_course.specs.Running.{output}
use Rattle.dc_course.specs.declared.course.Course.{Course}
use Rattle.dc_media.specs.Devices.{of_disks}
use Rattle.dc_media.specs.declared.disks.Disks as disks
use Rattle.dc_model.proofs.Rising.{TurnsBelow}
use Rattle.dc_model.specs.declared.entry.Entry.{Entry}
use Rattle.dc_report.specs.Reports.{report_text}
use Rattle.dc_reread.specs.declared.faults.RereadFault.{RereadFault}
use Rattle.dc_reread.specs.declared.faults.RereadFault.TheVariants as faults
use Rattle.dc_run.proofs.Halts.{turns_below}
use Rattle.dc_run.specs.Settings.{differing_line, has_ended, is_free, is_free_refusal, may_have_run, stands_in}
use Rattle.dc_run.specs.declared.refusal.Refusal.TheVariants as refusal
use Rattle.dc_run.specs.declared.refusal.Refusal.{Refusal}
use Rattle.dc_run.specs.declared.verdict.Verdict.{Verdict}
use Rattle.dc_run.specs.declared.verdict.Verdict.TheVariants.{AsmRefused, DeviceFault, DeviceStopped, Differs, Done, GuestRefused, JournalRefused, LibraryFault, Missing, NotARun, NotHalted, NotSaved, PlanRefused, ReportRefused, ScheduleRefused, SinkFault, StoreRefused, StoreUnsuited, Unfinished, Usage, WantOfMemory}
use Rattle.dc_run.specs.declared.verdict.Verdict.TheVariants as stood
use Rattle.dc_run.specs.declared.verdict.Which.{Which}
use Rattle.dc_run.specs.declared.verdict.Which.TheVariants as which

abbrev pub is_usage : Verdict → Bool
is_usage Usage = true
is_usage _ = false

nothing_there : (r : Result Plan Refusal) → IsOkAnd r (λ plan. ⊥) → ⊥
nothing_there (Err refusal) asks = asks
nothing_there (Ok plan) asks = asks

-- a file that its opening asks for
pub asked_to_open : (files : Files) (names : Halted) (w : Which) → AsksToRun files (to_go_on names.plan) w → AsksToResume files names w
asked_to_open files names which.Plan asks = asks
asked_to_open files names (which.Guest p) asks = asks
asked_to_open files names which.Schedule asks = asks
asked_to_open files names which.Report asks = absurd (nothing_there (plan_for files (to_go_on names.plan)) asks)
asked_to_open files names which.Out asks = absurd (nothing_there (plan_for files (to_go_on names.plan)) asks)
asked_to_open files names which.Source asks = absurd (nothing_there (plan_for files (to_go_on names.plan)) asks)
asked_to_open files names which.Journal asks = absurd (nothing_there (plan_for files (to_go_on names.plan)) asks)

-- the report
pub asked_for_report : (files : Files) (names : Halted) (setting : Setting) (w : Which) → opening_of files (to_go_on names.plan) ≡ Ok setting → w ≡ which.Report → IsSome (files names.report) → AsksToResume files names w
asked_for_report files names setting w opens is there = subst (AsksToResume files names) (sym is) (rw opens there)

-- acts that are a run
pub none_stray : (halt : Option ℕ) (setting : Setting) (report : Report) (r : Result (FailureFree Guest) ℕ) → None ≡ first_stray r → going_by halt setting report r ≡ Ok (record { setting = setting; report = report; halt = halt_behind report.entries halt })
none_stray halt setting report (Ok w) e = refl
none_stray halt setting report (Err i) e = absurd (let never : ⊥ = cc in never)

-- and acts that are none
pub some_stray : (halt : Option ℕ) (setting : Setting) (report : Report) (i : ℕ) (r : Result (FailureFree Guest) ℕ) → Some i ≡ first_stray r → going_by halt setting report r ≡ Err (NotARun i)
some_stray halt setting report i (Ok w) e = absurd (let never : ⊥ = cc in never)
some_stray halt setting report i (Err j) e = let same : j ≡ i = cc in ap (λ k. Err (NotARun k)) same

pub played_run : (setting : Setting) (acts : List Taken) (r : Result (FailureFree Guest) ℕ) → played (guests setting) setting.schedule acts ≡ r → None ≡ first_stray r → IsRunOf setting acts
played_run setting acts (Ok w) is e = let both = drawn_when_played (guests setting) setting.schedule acts w is in record { world = w; run_is = both.1; drawn = both.0 }
played_run setting acts (Err i) is e = absurd (let never : ⊥ = cc in never)

-- what is answered for the told files, by what they open and what report they have
pub answers_opened : (known : Result Going Verdict) (told : Result Going Verdict) → told ≡ known → (v : Verdict) → (stands_in v ≡ true) ⊎ (known ≡ Err v) → (stands_in v ≡ true) ⊎ (told ≡ Err v)
answers_opened known told same v (inl free) = inl free
answers_opened known told same v (inr e) = inr (same ∙ e)

-- what they go on with, where they open this setting, halted there, and have this report
pub going_is : (files : Files) (names : Halted) (setting : Setting) (halt : Option ℕ) (report : Report) → opening_of files (to_go_on names.plan) ≡ Ok setting → halt_at files (to_go_on names.plan) ≡ halt → report_for files setting names.report ≡ Ok report
    → going_in files names ≡ going_with halt setting report
going_is files names setting halt report opens halts reads = rw (opens, halts, reads) refl

-- where the report is refused
pub going_refused : (files : Files) (names : Halted) (setting : Setting) (r : Refusal) → opening_of files (to_go_on names.plan) ≡ Ok setting → (is_free_refusal r ≡ true) ⊎ (report_for files setting names.report ≡ Err r)
    → (stands_in (verdict_of r) ≡ true) ⊎ (going_in files names ≡ Err (verdict_of r))
going_refused files names setting r opens (inl free) = inl free
going_refused files names setting r opens (inr e) = inr (rw (opens, e) refl)

-- where the plan or what it names is
pub going_unopened : (files : Files) (names : Halted) (r : Refusal) → (is_free_refusal r ≡ true) ⊎ (opening_of files (to_go_on names.plan) ≡ Err r) → (stands_in (verdict_of r) ≡ true) ⊎ (going_in files names ≡ Err (verdict_of r))
going_unopened files names r (inl free) = inl free
going_unopened files names r (inr e) = inr (rw e refl)

-- a refusal comes before the disks are read
pub refusal_before : (r : Refusal) → comes_before (verdict_of r) ≡ true
refusal_before (refusal.Plan fault) = refl
refusal_before (refusal.Guest p fault) = refl
refusal_before (refusal.Missing which) = refl
refusal_before (refusal.Library which) = refl
refusal_before (refusal.Schedule fault) = refl
refusal_before (refusal.Report fault) = refl
refusal_before refusal.Memory = refl

-- and what comes before they are read is no verdict of a run, of words, of a line or of a journal
pub record IsBefore (v : Verdict) : Type 0 where
  pub closed : may_have_run v ≡ false
  pub unended : has_ended v ≡ false
  pub asked : is_usage v ≡ false
  pub line : differing_line v ≡ None

pub before_is : (v : Verdict) → comes_before v ≡ true → IsBefore v
before_is Done e = absurd (true≢false (sym e))
before_is Unfinished e = absurd (true≢false (sym e))
before_is stood.Halted e = absurd (true≢false (sym e))
before_is NotHalted e = record { closed = refl; unended = refl; asked = refl; line = refl }
before_is Usage e = absurd (true≢false (sym e))
before_is (PlanRefused fault) e = record { closed = refl; unended = refl; asked = refl; line = refl }
before_is (GuestRefused p fault) e = record { closed = refl; unended = refl; asked = refl; line = refl }
before_is (Missing which) e = record { closed = refl; unended = refl; asked = refl; line = refl }
before_is (LibraryFault which) e = record { closed = refl; unended = refl; asked = refl; line = refl }
before_is (DeviceFault p) e = absurd (true≢false (sym e))
before_is (DeviceStopped p) e = absurd (true≢false (sym e))
before_is (SinkFault outlet) e = absurd (true≢false (sym e))
before_is (NotARun position) e = record { closed = refl; unended = refl; asked = refl; line = refl }
before_is (Differs line) e = absurd (true≢false (sym e))
before_is WantOfMemory e = record { closed = refl; unended = refl; asked = refl; line = refl }
before_is (ScheduleRefused fault) e = record { closed = refl; unended = refl; asked = refl; line = refl }
before_is (StoreRefused p fault) e = absurd (true≢false (sym e))
before_is (StoreUnsuited p) e = absurd (true≢false (sym e))
before_is (ReportRefused fault) e = record { closed = refl; unended = refl; asked = refl; line = refl }
before_is (AsmRefused fault) e = absurd (true≢false (sym e))
before_is (JournalRefused fault) e = absurd (true≢false (sym e))
before_is (NotSaved event line) e = absurd (true≢false (sym e))

-- so none that a test tells from it
pub not_before : (f : Verdict → Bool) (v other : Verdict) → f v ≡ false → f other ≡ true → v ≡ other → ⊥
not_before f v other a b e = true≢false (sym b ∙ sym (ap f e) ∙ a)

-- a library's fault is one of its refusals
pub library_of : {A B : Type 0} (r : Refusal) (v : Verdict) (w : Which) → v ≡ verdict_of r → IsErrOf {T = A} (Err v) (LibraryFault w) → IsErrOf {T = B} (Err r) (refusal.Library w)
library_of (refusal.Library u) v w same e = let is : LibraryFault u ≡ LibraryFault w = cc in let one : u ≡ w = cc in ap (λ x. Err (refusal.Library x)) one
library_of (refusal.Plan fault) v w same e = absurd (let no_way : PlanRefused fault ≡ LibraryFault w = cc in let never : ⊥ = cc in never)
library_of (refusal.Guest p fault) v w same e = absurd (let no_way : GuestRefused p fault ≡ LibraryFault w = cc in let never : ⊥ = cc in never)
library_of (refusal.Missing which) v w same e = absurd (let no_way : Missing which ≡ LibraryFault w = cc in let never : ⊥ = cc in never)
library_of (refusal.Schedule fault) v w same e = absurd (let no_way : ScheduleRefused fault ≡ LibraryFault w = cc in let never : ⊥ = cc in never)
library_of (refusal.Report fault) v w same e = absurd (let no_way : ReportRefused fault ≡ LibraryFault w = cc in let never : ⊥ = cc in never)
library_of refusal.Memory v w same e = absurd (let no_way : WantOfMemory ≡ LibraryFault w = cc in let never : ⊥ = cc in never)

-- what is known of a result by two facts
pub ok_by : {T E : Type 0} {P Q R : T → Type 0} (r : Result T E) → IfOk r P → IfOk r Q → ((x : T) → P x → Q x → R x) → IfOk r R
ok_by (Ok x) p q join = join x p q
ok_by (Err e) p q join = tt

-- the acts of a halted run's report are below its entries
pub halted_below : (n : ℕ) (schedule : List Entry) (report : Report) → IsReport n report → was_halted schedule report ≡ true → TurnsBelow report.entries report.acts
halted_below n schedule report is halted = turns_below report.entries report.acts (is.halted (eqb-true report.status 15 (and_parts (report.status == 15) (nat_lt report.entries (length schedule)) halted).0))

-- what holds of what the told files go on with
pub going_so : (known : Option Files) (names : Halted) (going : Going) (P : Going → Type 0) → ((files : Files) → known ≡ Some files → going_in files names ≡ Ok going) → P going → IfSome known (λ files. IsOkAnd (going_in files names) P)
going_so None names going P told holds = tt
going_so (Some files) names going P told holds = rw (told files refl) holds

-- a run that did not go on, by why
pub free_unresumed : (fault : RereadFault) → (fault ≡ faults.Illegal → ⊥) → is_free (unresumed_by fault) ≡ true
free_unresumed faults.Memory legal = refl
free_unresumed (faults.Stopped p) legal = refl
free_unresumed (faults.Failed p) legal = refl
free_unresumed (faults.Refused p why) legal = refl
free_unresumed faults.Unsteady legal = refl
free_unresumed (faults.Unsuited p) legal = refl
free_unresumed faults.Illegal legal = absurd (legal refl)

abbrev is_unsuited : Verdict → Bool
is_unsuited (StoreUnsuited p) = true
is_unsuited _ = false

pub unsuited_by : (fault : RereadFault) (v : Verdict) (p : ℕ) → v ≡ unresumed_by fault → v ≡ StoreUnsuited p → (fault ≡ faults.Unsuited p) ⊎ ((p ≡ 0) × (fault ≡ faults.Unsteady))
unsuited_by (faults.Unsuited q) v p same e = let is : StoreUnsuited q ≡ StoreUnsuited p = sym same ∙ e in let one : q ≡ p = cc in inl (ap faults.Unsuited one)
unsuited_by faults.Unsteady v p same e = let is : StoreUnsuited 0 ≡ StoreUnsuited p = sym same ∙ e in let one : p ≡ 0 = cc in inr (one, refl)
unsuited_by faults.Memory v p same e = absurd (not_before is_unsuited WantOfMemory (StoreUnsuited p) refl refl (sym same ∙ e))
unsuited_by (faults.Stopped q) v p same e = absurd (not_before is_unsuited (DeviceStopped q) (StoreUnsuited p) refl refl (sym same ∙ e))
unsuited_by (faults.Failed q) v p same e = absurd (not_before is_unsuited (DeviceFault q) (StoreUnsuited p) refl refl (sym same ∙ e))
unsuited_by (faults.Refused q why) v p same e = absurd (not_before is_unsuited (StoreRefused q why) (StoreUnsuited p) refl refl (sym same ∙ e))
unsuited_by faults.Illegal v p same e = absurd (not_before is_unsuited NotHalted (StoreUnsuited p) refl refl (sym same ∙ e))

abbrev is_refused : Verdict → Bool
is_refused (StoreRefused p why) = true
is_refused _ = false

pub refused_by : (fault : RereadFault) (v : Verdict) (p : ℕ) (why : StoreFault) → v ≡ unresumed_by fault → v ≡ StoreRefused p why → fault ≡ faults.Refused p why
refused_by (faults.Refused q said) v p why same e = let is : StoreRefused q said ≡ StoreRefused p why = sym same ∙ e in let one : q ≡ p = cc in let other : said ≡ why = cc in rw (one, other) refl
refused_by (faults.Unsuited q) v p why same e = absurd (not_before is_refused (StoreUnsuited q) (StoreRefused p why) refl refl (sym same ∙ e))
refused_by faults.Unsteady v p why same e = absurd (not_before is_refused (StoreUnsuited 0) (StoreRefused p why) refl refl (sym same ∙ e))
refused_by faults.Memory v p why same e = absurd (not_before is_refused WantOfMemory (StoreRefused p why) refl refl (sym same ∙ e))
refused_by (faults.Stopped q) v p why same e = absurd (not_before is_refused (DeviceStopped q) (StoreRefused p why) refl refl (sym same ∙ e))
refused_by (faults.Failed q) v p why same e = absurd (not_before is_refused (DeviceFault q) (StoreRefused p why) refl refl (sym same ∙ e))
refused_by faults.Illegal v p why same e = absurd (not_before is_refused NotHalted (StoreRefused p why) refl refl (sym same ∙ e))

-- one that may have run did not want memory
pub not_wanting : {T : Type 0} (fault : RereadFault) (v : Verdict) → v ≡ unresumed_by fault → may_have_run v ≡ true → IsErrOf {T = T} (Err fault) faults.Memory → ⊥
not_wanting fault v same may e = let is : fault ≡ faults.Memory = cc in not_before may_have_run WantOfMemory v refl may (sym (same ∙ ap unresumed_by is))

-- what it reported, by what it came to
pub resumed_report : (halted : Bool) (run : Course) (outcome : Outcome) (v : Verdict) (entries : ℕ) (sink : SinkCourse)
    → outcome ≡ record { verdict = verdict_at halted run.ending; did = Resumed; acts = run.acts; marks = run.marks; lines = run.lines; difference = None }
    → Reports outcome.verdict v (report_text (status_of outcome.verdict) (entries + length outcome.marks.items) outcome.acts.items outcome.lines) sink
    → Reports (verdict_at halted run.ending) v (report_text (status_of (verdict_at halted run.ending)) (entries + length run.marks.items) run.acts.items run.lines) sink
resumed_report halted run outcome v entries sink is reports = subst (λ (o : Outcome). Reports o.verdict v (report_text (status_of o.verdict) (entries + length o.marks.items) o.acts.items o.lines) sink) is reports

-- what it lists, without a journal
account_is : (o : Outcome) (run : Course) → o.acts ≡ run.acts → o.marks ≡ run.marks → o.lines ≡ run.lines → run.journal.kept ≡ false → run_account run ≡ account_of o None
account_is o run acts marks lines unkept = rw (acts, marks, lines, unkept) refl

-- so it kept its promise
pub is_resumed : {D : Type 0} (going : Going) (disk : disks.Ghosts D) (run : Course) (o : Outcome) (lent : Loan D) (out report : SinkCourse) (halted : Bool) → halted ≡ is_halted_again going
    → o.acts ≡ run.acts → o.marks ≡ run.marks → o.lines ≡ run.lines → run.journal.kept ≡ false → GoesOnKept disk going (run_account run) run.ending (output out.before out.after) lent
    → (verdict_at (is_halted_again going) run.ending ≡ stood.Halted → TellsStores (of_disks disk) (length going.setting.images) lent.before lent.after
    → AreLeftAt disk going.setting going.report.entries going.report.lines going.report.acts lent.before → AreLeftAt disk going.setting (going.report.entries + length run.marks.items) run.lines run.acts.items lent.after)
    → Reports (verdict_at halted run.ending) o.verdict (report_text (status_of (verdict_at halted run.ending)) (going.report.entries + length run.marks.items) run.acts.items run.lines) report
    → IsResumed going disk o lent out report
is_resumed going disk run o lent out report halted again acts marks lines unkept kept leaves reports = record {
  ending = run.ending;
  kept = subst (λ a. GoesOnKept disk going a run.ending (output out.before out.after) lent) (account_is o run acts marks lines unkept) kept;
  halted = rw (acts, marks, lines) leaves;
  report_told = rw (acts, marks, lines) (subst (λ h. Reports (verdict_at h run.ending) o.verdict (report_text (status_of (verdict_at h run.ending)) (going.report.entries + length run.marks.items) run.acts.items run.lines) report) again reports);
}

-- what follows of what is said of a refused call
pub on_err_by : {T E P Q : Type 0} (r : Result T E) → (P → Q) → OnErr r P → OnErr r Q
on_err_by (Ok x) by said = tt
on_err_by (Err e) by said = by said

-- a reading that did not end for what was read did not end so
pub not_content : {T : Type 0} (r : Result T RereadFault) (why : RereadFault) → r ≡ Err why → comes_of_content why ≡ true → IfErr r (λ fault. comes_of_content fault ≡ false) → ⊥
not_content r why e is said = true≢false (sym is ∙ subst (λ z. IfErr z (λ fault. comes_of_content fault ≡ false)) e said)
