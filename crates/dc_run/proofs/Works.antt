-- What is answered for work that the told files give or refuse.
use Rattle.std.proofs.Common.{◌≡◌, ◌∙◌, ◌⊎◌, inl, inr, Bool, true, false, not, ◌&&◌, Option, None, Some, IfSome, Result, Ok, Err, ap, refl, subst, sym}
use Rattle.std.proofs.lemmas.Bool.{true≢false}
use Rattle.dc_run.specs.Commands.{IsExact, IsOpenedFor}
use Rattle.dc_words.specs.Results.{◌>>=◌}
use Rattle.dc_run.specs.Opening.{Files}
use Rattle.dc_run.specs.Refusals.{as_verdict, verdict_of}
use Rattle.dc_run.specs.Settings.{is_free, has_ended, is_free_refusal, is_of_going_on, is_of_run, is_refusal, may_have_run, stands_in, was_opened}
use Rattle.dc_run.specs.declared.refusal.Refusal.{Refusal}
use Rattle.dc_run.specs.declared.refusal.Refusal.TheVariants as refusal
use Rattle.dc_run.specs.declared.verdict.Verdict.{Verdict}
use Rattle.dc_run.specs.declared.verdict.Verdict.TheVariants.{Done, Unfinished, Halted, NotHalted, StoreUnsuited, Usage, PlanRefused, GuestRefused, Missing, LibraryFault, DeviceFault, DeviceStopped, SinkFault, NotARun, Differs, WantOfMemory, ScheduleRefused, StoreRefused, ReportRefused, AsmRefused, JournalRefused, NotSaved}

pub for_known : (known : Option Files) {P : Files → Type 0} → ((files : Files) → known ≡ Some files → P files) → IfSome known P
for_known None at = tt
for_known (Some files) at = at files refl

-- what was opened has ended
pub opened_ended : (v : Verdict) → was_opened v ≡ true → has_ended v ≡ true
opened_ended (NotSaved event line) e = refl
opened_ended Done e = e
opened_ended Unfinished e = e
opened_ended Halted e = e
opened_ended NotHalted e = e
opened_ended (StoreUnsuited p) e = e
opened_ended Usage e = e
opened_ended (PlanRefused fault) e = e
opened_ended (GuestRefused p fault) e = e
opened_ended (Missing which) e = e
opened_ended (LibraryFault which) e = e
opened_ended (DeviceFault p) e = e
opened_ended (DeviceStopped p) e = e
opened_ended (SinkFault outlet) e = e
opened_ended (NotARun position) e = e
opened_ended (Differs line) e = e
opened_ended WantOfMemory e = e
opened_ended (ScheduleRefused fault) e = e
opened_ended (StoreRefused p fault) e = e
opened_ended (ReportRefused fault) e = e
opened_ended (AsmRefused fault) e = e
opened_ended (JournalRefused fault) e = e

-- and may have been run
pub opened_may : (v : Verdict) → was_opened v ≡ true → may_have_run v ≡ true
opened_may (NotSaved event line) e = e
opened_may Done e = e
opened_may Unfinished e = e
opened_may Halted e = e
opened_may NotHalted e = e
opened_may (StoreUnsuited p) e = refl
opened_may Usage e = e
opened_may (PlanRefused fault) e = e
opened_may (GuestRefused p fault) e = e
opened_may (Missing which) e = e
opened_may (LibraryFault which) e = e
opened_may (DeviceFault p) e = refl
opened_may (DeviceStopped p) e = refl
opened_may (SinkFault outlet) e = e
opened_may (NotARun position) e = e
opened_may (Differs line) e = e
opened_may WantOfMemory e = e
opened_may (ScheduleRefused fault) e = e
opened_may (StoreRefused p fault) e = refl
opened_may (ReportRefused fault) e = e
opened_may (AsmRefused fault) e = e
opened_may (JournalRefused fault) e = e

-- a refusal is no free verdict, and none of work that was carried out
refusal_bound : (free opened : Bool) → (not free && not opened) ≡ true → (free ≡ false) × (opened ≡ false)
refusal_bound true opened e = absurd (true≢false (sym e))
refusal_bound false true e = absurd (true≢false (sym e))
refusal_bound false false e = (refl, refl)

pub no_refusal : (v refusal : Verdict) → is_refusal refusal ≡ true → (has_ended v ≡ true) ⊎ (is_free v ≡ true) → v ≡ refusal → ⊥
no_refusal v refusal is (inl ended) e = true≢false (sym ended ∙ ap has_ended e ∙ (refusal_bound (is_free refusal) (has_ended refusal) is).1)
no_refusal v refusal is (inr free) e = true≢false (sym free ∙ ap is_free e ∙ (refusal_bound (is_free refusal) (has_ended refusal) is).0)

-- what may stand in is free
pub stands_free : (v : Verdict) → stands_in v ≡ true → is_free v ≡ true
stands_free (DeviceFault p) e = refl
stands_free (DeviceStopped p) e = refl
stands_free (StoreRefused p fault) e = refl
stands_free WantOfMemory e = e
stands_free (LibraryFault which) e = e
stands_free Done e = e
stands_free Unfinished e = e
stands_free Halted e = e
stands_free NotHalted e = e
stands_free (StoreUnsuited p) e = refl
stands_free Usage e = e
stands_free (PlanRefused fault) e = e
stands_free (GuestRefused p fault) e = e
stands_free (Missing which) e = e
stands_free (SinkFault outlet) e = e
stands_free (NotARun position) e = e
stands_free (Differs line) e = e
stands_free (ScheduleRefused fault) e = e
stands_free (ReportRefused fault) e = e
stands_free (AsmRefused fault) e = e
stands_free (JournalRefused fault) e = e
stands_free (NotSaved event line) e = e

-- a refusal of the opening or of a check is no verdict of a run
pub closed_refusal : (r : Refusal) → may_have_run (verdict_of r) ≡ false
closed_refusal (refusal.Plan fault) = refl
closed_refusal (refusal.Guest p fault) = refl
closed_refusal (refusal.Missing which) = refl
closed_refusal (refusal.Library which) = refl
closed_refusal (refusal.Schedule fault) = refl
closed_refusal (refusal.Report fault) = refl
closed_refusal refusal.Memory = refl

-- nor of one that goes on
pub begun_refusal : (r : Refusal) → is_of_going_on (verdict_of r) ≡ false
begun_refusal (refusal.Plan fault) = refl
begun_refusal (refusal.Guest p fault) = refl
begun_refusal (refusal.Missing which) = refl
begun_refusal (refusal.Library which) = refl
begun_refusal (refusal.Schedule fault) = refl
begun_refusal (refusal.Report fault) = refl
begun_refusal refusal.Memory = refl

pub other_refusal : (r : Refusal) → is_of_run (verdict_of r) ≡ false
other_refusal (refusal.Plan fault) = refl
other_refusal (refusal.Guest p fault) = refl
other_refusal (refusal.Missing which) = refl
other_refusal (refusal.Library which) = refl
other_refusal (refusal.Schedule fault) = refl
other_refusal (refusal.Report fault) = refl
other_refusal refusal.Memory = refl

-- a refusal that was answered for the told one, or a free verdict
pub exact_refusal : {A : Type 0} (v refusal : Verdict) (told : Result A Verdict) → is_refusal refusal ≡ true → (stands_in v ≡ true) ⊎ (told ≡ Err v) → IsExact v refusal told
exact_refusal v refusal told is (inl free) = record { only = λ e. absurd (no_refusal v refusal is (inr (stands_free v free)) e); where_told = λ e. inr free }
exact_refusal v refusal told is (inr agrees) = record { only = λ e. agrees ∙ ap Err e; where_told = λ e. inl (let same : v ≡ refusal = cc in same) }

pub refused_work : {A : Type 0} (ends : A → Verdict → Bool) (v : Verdict) (told : Result A Verdict) → may_have_run v ≡ false → (stands_in v ≡ true) ⊎ (told ≡ Err v) → IsOpenedFor ends v told
refused_work ends v (Ok x) closed (inl free) = inr free
refused_work ends v (Ok x) closed (inr e) = absurd (let never : ⊥ = cc in never)
refused_work ends v (Err refusal) closed agrees = closed

-- work that is there was carried out, but for a free verdict
pub exact_work : {A : Type 0} (v refusal : Verdict) (told : Result A Verdict) (x : A) → is_refusal refusal ≡ true → told ≡ Ok x → (has_ended v ≡ true) ⊎ (is_free v ≡ true) → IsExact v refusal told
exact_work v refusal told x is there done = record { only = λ e. absurd (no_refusal v refusal is done e); where_told = λ e. absurd (let never : ⊥ = cc in never) }

pub opened_work : {A : Type 0} (ends : A → Verdict → Bool) (v : Verdict) (told : Result A Verdict) (x : A) → told ≡ Ok x → (ends x v ≡ true) ⊎ (stands_in v ≡ true) → IsOpenedFor ends v told
opened_work ends v told x there done = rw there done

-- the same of the work under its name
pub opened_named : {A B : Type 0} (f : A → B) (some : A → Verdict → Bool) (ends : B → Verdict → Bool) (v : Verdict) → ((x : A) → some x v ≡ ends (f x) v)
    → (told : Result A Verdict) → IsOpenedFor some v told → IsOpenedFor ends v (told >>= λ x. Ok (f x))
opened_named f some ends v same (Ok x) (inl is) = inl (sym (same x) ∙ is)
opened_named f some ends v same (Ok x) (inr is) = inr is
opened_named f some ends v same (Err refusal) is = is

module _ {A B : Type 0} (f : A → B) (v reason : Verdict) where
  pub exact_named : (told : Result A Verdict) → IsExact v reason told → IsExact v reason (told >>= λ x. Ok (f x))
  exact_named (Ok x) is = record { only = λ e. absurd (let never : ⊥ = let no : ◌≡◌ {A = Result A Verdict} (Ok x) (Err reason) = is.only e in cc in never); where_told = λ e. absurd (let never : ⊥ = cc in never) }
  exact_named (Err told) is = record { only = λ e. let same : ◌≡◌ {A = Result A Verdict} (Err told) (Err reason) = is.only e in cc; where_told = λ e. is.where_told (let same : told ≡ reason = cc in ap Err same) }

-- a refusal that is told, by its verdict
pub told_verdict : {A : Type 0} (r : Refusal) (told : Result A Refusal) → (is_free_refusal r ≡ true) ⊎ (told ≡ Err r) → (stands_in (verdict_of r) ≡ true) ⊎ (as_verdict told ≡ Err (verdict_of r))
told_verdict r told (inl free) = inl free
told_verdict r told (inr e) = inr (ap (λ (x : Result _ Refusal). as_verdict x) e)

-- the same, where other work would go on from there
pub told_before : {A B : Type 0} (v : Verdict) (told : Result A Verdict) (goes_on : A → Result B Verdict) → (stands_in v ≡ true) ⊎ (told ≡ Err v) → (stands_in v ≡ true) ⊎ ((told >>= goes_on) ≡ Err v)
told_before v told goes_on (inl free) = inl free
told_before v told goes_on (inr e) = inr (rw e refl)

pub refused_exact : {A : Type 0} (v answered refusal : Verdict) (told : Result A Verdict) → answered ≡ v → is_refusal refusal ≡ true → (stands_in v ≡ true) ⊎ (told ≡ Err v) → IsExact answered refusal told
refused_exact v answered refusal told same is agrees = subst (λ (u : Verdict). IsExact u refusal told) (sym same) (exact_refusal v refusal told is agrees)
