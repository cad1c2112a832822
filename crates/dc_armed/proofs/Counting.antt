-- The counts of two calls of a device in a row, and what they tell.
use Rattle.std.proofs.Common.{◌≡◌, ◌≤◌, ◌+◌, ℕ, zero, suc, Result, Option, Ok, Err, refl, ap, sym, ◌∙◌, arith}
use Rattle.std.specs.Result.{result_and}
use Rattle.dc_media.specs.Told.{Device, IsSameStore, TellsOn}
use Rattle.dc_media.specs.Calls.{Touches}
use Rattle.dc_media.specs.Causes.{IsCaused, counted, counted_by}
use Rattle.dc_armed.specs.Stops.{capped}
use Rattle.dc_armed.specs.Laws.{GoesOn}
use Rattle.dc_armed.specs.Torn.{IsInCalls}
use Rattle.dc_media.specs.declared.faults.DeviceFault.{DeviceFault}

-- two calls of a device in a row, of which the first refused is the answer
pub IsCaused-then : {T : Type 0} (s s' s'' f f' f'' : ℕ) (first second : Result T DeviceFault)
    → IsCaused s s' f f' first → IsCaused s' s'' f' f'' second → IsCaused s s'' f f'' (result_and first second)
IsCaused-then s s' s'' f f' f'' (Ok x) (Ok y) one two = record {
  stops_later = omega (arith, one.stops_later, two.stops_later);
  faults_later = omega (arith, one.faults_later, two.faults_later);
  stopped = λ e. absurd (cc);
  failed = λ e. absurd (cc);
  calm = (two.calm.0 ∙ one.calm.0, two.calm.1 ∙ one.calm.1);
}
IsCaused-then s s' s'' f f' f'' (Ok x) (Err y) one two = record {
  stops_later = omega (arith, one.stops_later, two.stops_later);
  faults_later = omega (arith, one.faults_later, two.faults_later);
  stopped = λ e. rw one.calm.0 at (two.stopped e);
  failed = λ e. rw one.calm.1 at (two.failed e);
  calm = tt;
}
IsCaused-then s s' s'' f f' f'' (Err x) second one two = record {
  stops_later = omega (arith, one.stops_later, two.stops_later);
  faults_later = omega (arith, one.faults_later, two.faults_later);
  stopped = λ e. omega (arith, one.stopped e, two.stops_later);
  failed = λ e. omega (arith, one.failed e, two.faults_later);
  calm = tt;
}

-- two calls in a row tell on
pub TellsOn-twice : {A : Type 0} (s s' f f' : ℕ) (a b c : Option A)
    → s ≤ s' → f ≤ f' → TellsOn s f a b → TellsOn s' f' b c → TellsOn s' f' a c
TellsOn-twice s s' f f' a b c later later' one two = λ below below' told. two below below' (one (omega arith) (omega arith) told)

-- counted on some times and then some more
pub counted_by-more : (j k n : ℕ) → counted_by (j + k) n ≡ counted_by k (counted_by j n)
counted_by-more j zero n = let none : j + 0 ≡ j = omega arith in ap (λ m. counted_by m n) none
counted_by-more j (suc k) n = let more : j + suc k ≡ suc (j + k) = omega arith in ap (λ m. counted_by m n) more ∙ ap counted (counted_by-more j k n)

-- counted on some times, no count falls
pub capped_later : (k n : ℕ) → capped n ≤ capped (counted_by k n)
capped_later zero n = omega arith
capped_later (suc k) n = let more = capped_later k n in omega (arith, more)

-- counted on some times, a count rises by no more
pub capped_by : (k n : ℕ) → capped (counted_by k n) ≤ capped n + k
capped_by zero n = omega arith
capped_by (suc k) n = let so_far = capped_by k n in omega (arith, so_far)

module _ {S C : Type 0} (device : Device S C) where
  -- another process's store stays
  pub same-twice : (a b c : S) (q : ℕ) → IsSameStore device a b q → IsSameStore device b c q → IsSameStore device a c q
  same-twice a b c q one two = record {
    told_same = two.told_same ∙ one.told_same;
    extent_same = two.extent_same ∙ one.extent_same;
    stops_same = two.stops_same ∙ one.stops_same;
    faults_same = two.faults_same ∙ one.faults_same;
    calls_same = two.calls_same ∙ one.calls_same;
  }

  -- what two calls in a row leave
  pub Touches-then : GoesOn device → (p : ℕ) (a b c : S) → device.stops b p ≤ device.stops c p → device.faults b p ≤ device.faults c p
      → Touches device p a b → Touches device p b c → Touches device p a c
  Touches-then on p a b c stops faults one two = record {
    tells = TellsOn-twice _ _ _ _ (device.told a p) (device.told b p) (device.told c p) stops faults one.tells two.tells;
    others = λ q ne. same-twice a b c q (one.others q ne) (two.others q ne);
    continues = on a b c one.continues two.continues;
  }

  -- no call
  pub IsInCalls-none : {T : Type 0} → ((s : S) → device.continues s s) → (p : ℕ) (x : T) (a : S) → IsInCalls device p 0 (Ok x) a a
  IsInCalls-none self p x a = record {
    call = record {
      touches = record {
        tells = λ below below' some. some;
        others = λ q ne. record { told_same = refl; extent_same = refl; stops_same = refl; faults_same = refl; calls_same = refl };
        continues = self a;
      };
      extent = refl;
      cause = record { stops_later = omega arith; faults_later = omega arith; stopped = λ e. absurd (cc); failed = λ e. absurd (cc); calm = (refl, refl) };
    };
    calls = refl;
  }

  -- some calls and then some more
  pub IsInCalls-then : {T : Type 0} → GoesOn device → (p j k : ℕ) (r s : Result T DeviceFault) (a b c : S)
      → IsInCalls device p j r a b → IsInCalls device p k s b c → IsInCalls device p (j + k) (result_and r s) a c
  IsInCalls-then on p j k r s a b c one two = record {
    call = record {
      touches = Touches-then on p a b c two.call.cause.stops_later two.call.cause.faults_later one.call.touches two.call.touches;
      extent = two.call.extent ∙ one.call.extent;
      cause = IsCaused-then _ _ _ _ _ _ r s one.call.cause two.call.cause;
    };
    calls = two.calls ∙ ap (counted_by k) one.calls ∙ sym (counted_by-more j k (device.calls a p));
  }

  -- calls after one that is not counted
  pub IsInCalls-after : {T : Type 0} → GoesOn device → (p k k' : ℕ) (r s : Result T DeviceFault) (a b c : S)
      → k ≡ k' → IsInCalls device p 0 r a b → IsInCalls device p k s b c → IsInCalls device p k' (result_and r s) a c
  IsInCalls-after on p k k' r s a b c e one two = let all : 0 + k ≡ k' = omega (arith, e) in rw all at (IsInCalls-then on p 0 k r s a b c one two)
