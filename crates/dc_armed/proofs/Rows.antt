-- What waits after words that are set in a row by one call of the device.
use Rattle.std.proofs.Common.{◌≡◌, ◌≢◌, ⊎_elim, ◌<◌, ◌≤◌, ◌+◌, ◌-◌, ◌^◌, ℕ, Option, None, Some, Result, Ok, Err, get_or, refl, ap, ◌∙◌, false, arith}
use Rattle.std.proofs.lemmas.Bool.{cases_eq}
use Rattle.dc_media.specs.declared.faults.DeviceFault.{DeviceFault}
use Rattle.dc_media.specs.declared.faults.DeviceFault.TheVariants.{Stopped, Failed}
use Rattle.dc_media.specs.Causes.{AreCounted, IsCaused}
use Rattle.dc_media.specs.Told.{Device}
use Rattle.dc_armed.specs.declared.stop.Waiting.{Waiting}
use Rattle.dc_armed.specs.Armed.{Armed, IsAwaited, StillWaits}
use Rattle.dc_armed.specs.Stops.{Waits, after_answer, came_to, calls_left, capped, fewer_by, waiting_for, waits_within}
use Rattle.dc_armed.proofs.Counting.{capped_by, capped_later}

-- a stop that waits for none of n calls waits for more than n
pub past : (n : ℕ) (waiting : Waiting) → waits_within n (Some waiting) ≡ false → n < waiting.calls
past n waiting none = grind (arith, none)

-- it waits still after n calls
left_some : (n : ℕ) (waiting : Option Waiting) → waits_within n waiting ≡ false → 0 < calls_left waiting → 0 < calls_left (fewer_by n waiting)
left_some n None none some = some
left_some n (Some waiting) none some = let more = past n waiting none in omega (arith, more)

-- for n calls fewer
pub left_by : (n : ℕ) (waiting : Option Waiting) → waits_within n waiting ≡ false → 0 < calls_left waiting → calls_left (fewer_by n waiting) + n ≡ calls_left waiting
left_by n None none some = absurd (omega (arith, some))
left_by n (Some waiting) none some = let more = past n waiting none in omega (arith, more)

module _ {D C T : Type 0} (device : Device D C) (p n : ℕ) (result : Result T DeviceFault) (old new : Armed D)
    (calls : AreCounted n result (device.calls old.device p) (device.calls new.device p))
    (others : (q : ℕ) → q ≢ p → device.calls new.device q ≡ device.calls old.device q) where
  called_here : capped (device.calls old.device p) ≤ capped (device.calls new.device p)
  called_here = rw calls.count (capped_later calls.made (device.calls old.device p))

  -- no call is forgotten
  pub called_in_row : (q : ℕ) → capped (device.calls old.device q) ≤ capped (device.calls new.device q)
  called_in_row q = ⊎_elim (λ (here : q ≡ p). rw here called_here) (λ (off : q ≢ p). rw (others q off) (omega arith)) (cases_eq q p)

  risen : capped (device.calls new.device p) ≤ capped (device.calls old.device p) + n
  risen = rw calls.count (let most = capped_by calls.made (device.calls old.device p) in omega (arith, most, calls.few))

  module _ (none : waits_within n (waiting_for old.plan p) ≡ false) where
    still : waiting_for new.plan p ≡ fewer_by n (waiting_for old.plan p) → 0 < calls_left (waiting_for old.plan p) → StillWaits device p old new
    still waits some = let left = left_by n (waiting_for old.plan p) none some in let most = risen in record {
      waits = rw waits (left_some n (waiting_for old.plan p) none some);
      fewer = rw waits (omega (arith, left, most));
    }

    -- a process that was not stopped waits for what it waited for
    unstopped_left : (r : Result T DeviceFault) (s s' f f' : ℕ) (waiting : Option Waiting) → IsCaused s s' f f' r → s' ≡ s → s < 2 ^ 64 - 1 → after_answer r waiting ≡ waiting
    unstopped_left (Ok x) s s' f f' waiting cause same below = refl
    unstopped_left (Err Stopped) s s' f f' waiting cause same below = let rose = cause.stopped refl in absurd (omega (arith, rose, same, below))
    unstopped_left (Err Failed) s s' f f' waiting cause same below = refl

    module _ (cause : IsCaused (device.stops old.device p) (device.stops new.device p) (device.faults old.device p) (device.faults new.device p) result)
        (came : new.plan.came ≡ old.plan.came) (waits : Waits p (after_answer result (fewer_by n (waiting_for old.plan p))) old.plan new.plan) where
      awaited_here : IsAwaited device p old new
      awaited_here same some =
          let came_same : came_to new.plan p ≡ came_to old.plan p = ap (λ counts. get_or counts p 0) came in
          let stops_same : device.stops new.device p ≡ device.stops old.device p = omega (arith, came_same, same.stops_same) in
          still (waits.here ∙ unstopped_left result _ _ _ _ (fewer_by n (waiting_for old.plan p)) cause stops_same (omega (arith, stops_same, same.stops_below))) some

      -- what waited still waits, and each call that was made is one fewer to wait for
      pub awaited_in_row : (q : ℕ) → IsAwaited device q old new
      awaited_in_row q = ⊎_elim (λ (here : q ≡ p). rw here awaited_here)
          (λ (off : q ≢ p) same some. record { waits = rw (waits.others q off) some; fewer = rw (waits.others q off, others q off) (omega arith) })
          (cases_eq q p)
