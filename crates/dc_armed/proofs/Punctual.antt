-- A planned stop comes no sooner than at its call.
use Rattle.std.proofs.Common.{◌≡◌, ◌≢◌, ◌<◌, ◌≤◌, ◌+◌, ◌-◌, ◌^◌, ◌==◌, ◌∙◌, ℕ, zero, suc, get_or, true, false, Option, None, Some, Result, Ok, Err, ap, arith, refl, subst, ⊎_elim}
use Rattle.std.proofs.lemmas.Bool.{cases_Bool, cases_eq, eqb-true}
use Rattle.dc_media.specs.declared.faults.DeviceFault.{DeviceFault}
use Rattle.dc_media.specs.declared.faults.DeviceFault.TheVariants.{Stopped, Failed}
use Rattle.dc_media.specs.declared.tear.Tear.{Tear}
use Rattle.dc_media.specs.Causes.{AreCounted, IsCaused, counted_by}
use Rattle.dc_media.specs.Told.{Device}
use Rattle.dc_armed.specs.Armed.{Armed, IsPunctual, IsUnfailed}
use Rattle.dc_armed.specs.Stops.{Waits, after_answer, calls_left, came_to, capped, count_of, due, due_of, fewer_by, one_fewer, waiting_for, waits_within}
use Rattle.dc_armed.specs.declared.stop.Waiting.{Waiting}
use Rattle.dc_armed.proofs.Rows.{left_by, past}

-- a stop that is due waits for one call
due_left : (waiting : Option Waiting) (tear : Tear) → due_of waiting ≡ Some tear → calls_left waiting ≡ 1
due_left None tear is = absurd (cc)
due_left (Some waiting) tear is = ⊎_elim
    (λ (one : (waiting.calls == 1) ≡ true). eqb-true waiting.calls 1 one)
    (λ (other : (waiting.calls == 1) ≡ false). absurd (let none : None ≡ Some tear = (rw other at is) in cc))
    (cases_Bool (waiting.calls == 1))

-- after it none waits
none_left : (waiting : Option Waiting) → calls_left waiting ≡ 1 → count_of (one_fewer waiting) ≡ 0
none_left None is = absurd (omega (arith, is))
none_left (Some waiting) is = rw is refl

none_after : {T : Type 0} (r : Result T DeviceFault) (waiting : Option Waiting) → count_of waiting ≡ 0 → count_of (after_answer r waiting) ≡ 0
none_after (Ok x) waiting none = none
none_after (Err Stopped) waiting none = refl
none_after (Err Failed) waiting none = none

-- a call of one process at which a stop was due
pub punctual_due : {D C T : Type 0} (device : Device D C) (p : ℕ) (tear : Tear) (r : Result T DeviceFault) (old new : Armed D) → due old.plan p ≡ Some tear
    → Waits p (after_answer r (one_fewer (waiting_for old.plan p))) old.plan new.plan → ((q : ℕ) → capped (device.calls old.device q) ≤ capped (device.calls new.device q))
    → ((q : ℕ) → q ≢ p → came_to new.plan q ≡ came_to old.plan q) → (q : ℕ) → IsPunctual device q old new
punctual_due device p tear r old new is waits later off q = ⊎_elim
    (λ (here : q ≡ p). rw here (record {
      waits = λ sound some. let none = ap count_of waits.here ∙ none_after r (one_fewer (waiting_for old.plan p)) (none_left (waiting_for old.plan p) (due_left (waiting_for old.plan p) tear is)) in absurd (omega (arith, none, some));
      came = λ sound rose. let one = due_left (waiting_for old.plan p) tear is in let l = later p in omega (arith, one, l);
    }))
    (λ (ne : q ≢ p). record {
      waits = λ sound some. let same = ap calls_left (waits.others q ne) in let l = later q in omega (arith, same, l);
      came = λ sound rose. let same = off q ne in absurd (omega (arith, same, rose));
    })
    (cases_eq q p)

-- so many calls, where the count can still tell
capped_all : (k n : ℕ) → capped (counted_by k n) < 2 ^ 64 - 1 → capped n + k ≤ capped (counted_by k n)
capped_all zero n below = omega arith
capped_all (suc k) n below = let so_far = capped_all k n (omega (arith, below)) in omega (arith, so_far, below)

-- a stop that waits for none of n calls waits for so many more
left_more : (n : ℕ) (waiting : Option Waiting) → waits_within n waiting ≡ false → 0 < count_of (fewer_by n waiting) → calls_left (fewer_by n waiting) + n ≡ calls_left waiting
left_more n None free some = absurd (omega (arith, some))
left_more n (Some w) free some = left_by n (Some w) free (let more = past n w free in omega (arith, more))

-- calls in a row, of which none is waited for
module _ {D C T : Type 0} (device : Device D C) (p n : ℕ) (old new : Armed D) (none : waits_within n (waiting_for old.plan p) ≡ false) where
  in_row : (r : Result T DeviceFault) → AreCounted n r (device.calls old.device p) (device.calls new.device p)
      → IsCaused (device.stops old.device p) (device.stops new.device p) (device.faults old.device p) (device.faults new.device p) r → IsUnfailed device p old new
      → waiting_for new.plan p ≡ after_answer r (fewer_by n (waiting_for old.plan p)) → 0 < count_of (waiting_for new.plan p)
      → capped (device.calls old.device p) + calls_left (waiting_for old.plan p) ≤ capped (device.calls new.device p) + calls_left (waiting_for new.plan p)
  in_row (Ok x) are because sound is some =
      let made = are.all in
      let all = capped_all are.made (device.calls old.device p) (subst (λ m. capped m < 2 ^ 64 - 1) are.count sound.calls_below) in
      let same = ap capped are.count in
      let left = left_more n (waiting_for old.plan p) none (let e = ap count_of is in omega (arith, e, some)) in
      let l = ap calls_left is in omega (arith, all, same, left, l, made)
  in_row (Err Stopped) are because sound is some = let e = ap count_of is in absurd (omega (arith, e, some))
  in_row (Err Failed) are because sound is some = let rose = because.failed refl in let f = sound.faults_same in let b = sound.faults_below in absurd (omega (arith, rose, f, b))

pub punctual_in_row : {D C T : Type 0} (device : Device D C) (p n : ℕ) (result : Result T DeviceFault) (old new : Armed D)
    → AreCounted n result (device.calls old.device p) (device.calls new.device p) → ((q : ℕ) → q ≢ p → device.calls new.device q ≡ device.calls old.device q) → waits_within n (waiting_for old.plan p) ≡ false
    → IsCaused (device.stops old.device p) (device.stops new.device p) (device.faults old.device p) (device.faults new.device p) result → new.plan.came ≡ old.plan.came
    → Waits p (after_answer result (fewer_by n (waiting_for old.plan p))) old.plan new.plan → (q : ℕ) → IsPunctual device q old new
punctual_in_row device p n result old new calls others none cause came waits q = record {
  waits = ⊎_elim
      (λ (here : q ≡ p). rw here (λ sound some. in_row device p n old new none result calls cause sound waits.here some))
      (λ (ne : q ≢ p) sound some. let same = ap calls_left (waits.others q ne) in let l = others q ne in let c = ap capped l in omega (arith, same, c))
      (cases_eq q p);
  came = λ sound rose. let same : came_to new.plan q ≡ came_to old.plan q = ap (λ counts. get_or counts q 0) came in absurd (omega (arith, same, rose));
}
