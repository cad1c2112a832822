-- A later state of an armed device, from one call to the next.
use Rattle.std.proofs.Common.{◌<◌, ◌≤◌, ◌∙◌, ℕ, arith, refl, ⊎_elim}
use Rattle.std.proofs.lemmas.Bool.{cases_lt}
use Rattle.dc_media.specs.Told.{Device}
use Rattle.dc_armed.specs.Armed.{Armed, IsAwaited, IsLater, IsPunctual, IsUnfailed, IsUnrefused, all_stops, within}
use Rattle.dc_armed.specs.Stops.{StopsSoFar, Progresses, came_to}

-- nothing was called
pub progresses_self : (plan : StopsSoFar) → Progresses plan plan
progresses_self plan = record { stops_same = refl; later = λ p. omega arith; once = λ p. omega arith }

-- one call and then more
pub progresses_on : (old between new : StopsSoFar) → Progresses old between → Progresses between new → Progresses old new
progresses_on old between new first then = record {
  stops_same = then.stops_same ∙ first.stops_same;
  later = λ p. omega (arith, first.later p, then.later p);
  once = λ p. omega (arith, first.once p, then.once p);
}

-- what continues a later state continues the first
abbrev pub GoesOn : {D C : Type 0} → Device D C → Type 0
GoesOn {D = D} device = (s t u : D) → device.continues s t → device.continues t u → device.continues s u

module _ {D C : Type 0} (device : Device D C) where
  -- nothing was called
  pub later_self : ((s : D) → device.continues s s) → (s : Armed D) → IsLater device s s
  later_self self s = record {
    later = self s.device;
    stopped = λ p. omega arith;
    failed = λ p. omega arith;
    called = λ p. omega arith;
    plan = progresses_self s.plan;
    awaited = λ p same waits. record { waits = waits; fewer = omega arith };
    punctual = λ p. record { waits = λ sound some. omega arith; came = λ sound rose. omega (arith, rose) };
  }

  -- nothing refused a process's calls
  abbrev Unrefused : ℕ → Armed D → Armed D → Type 0
  Unrefused p s t = IsUnrefused (all_stops device.stops) (within device.faults) p s t

  -- what refused no call of two in a row refused none of either
  unrefused_first : (p : ℕ) (s t u : Armed D) → IsLater device s t → IsLater device t u → Unrefused p s u → Unrefused p s t
  unrefused_first p s t u first then same =
      let a = first.stopped p in let b = then.stopped p in let c = first.failed p in let d = then.failed p in let e = first.plan.later p in let f = then.plan.later p in record {
        stops_same = omega (arith, a, b, e, f, same.stops_same);
        faults_same = omega (arith, c, d, same.faults_same);
        stops_below = omega (arith, b, f, same.stops_below);
        faults_below = omega (arith, d, same.faults_below);
      }

  unrefused_then : (p : ℕ) (s t u : Armed D) → IsLater device s t → IsLater device t u → Unrefused p s u → Unrefused p t u
  unrefused_then p s t u first then same =
      let a = first.stopped p in let b = then.stopped p in let c = first.failed p in let d = then.failed p in let e = first.plan.later p in let f = then.plan.later p in record {
        stops_same = omega (arith, a, b, e, f, same.stops_same);
        faults_same = omega (arith, c, d, same.faults_same);
        stops_below = same.stops_below;
        faults_below = same.faults_below;
      }

  awaited_on : (p : ℕ) (s t u : Armed D) → IsLater device s t → IsLater device t u → IsAwaited device p s u
  awaited_on p s t u first then same waits =
      let one = first.awaited p (unrefused_first p s t u first then same) waits in
      let two = then.awaited p (unrefused_then p s t u first then same) one.waits in
      record { waits = two.waits; fewer = omega (arith, one.fewer, two.fewer) }

  -- where no fault of two calls in a row was counted, none of either was
  unfailed_first : (p : ℕ) (s t u : Armed D) → IsLater device s t → IsLater device t u → IsUnfailed device p s u → IsUnfailed device p s t
  unfailed_first p s t u first then sound = let a = first.failed p in let b = then.failed p in let c = then.called p in record {
    faults_same = omega (arith, a, b, sound.faults_same);
    faults_below = omega (arith, b, sound.faults_below);
    calls_below = omega (arith, c, sound.calls_below);
  }

  unfailed_then : (p : ℕ) (s t u : Armed D) → IsLater device s t → IsLater device t u → IsUnfailed device p s u → IsUnfailed device p t u
  unfailed_then p s t u first then sound = let a = first.failed p in let b = then.failed p in record {
    faults_same = omega (arith, a, b, sound.faults_same);
    faults_below = sound.faults_below;
    calls_below = sound.calls_below;
  }

  punctual_on : (p : ℕ) (s t u : Armed D) → IsLater device s t → IsLater device t u → IsPunctual device p s u
  punctual_on p s t u first then = let once = then.plan.once p in record {
    waits = λ sound some.
        let later = then.plan.later p in
        let b = (then.punctual p).waits (unfailed_then p s t u first then sound) some in
        let a = (first.punctual p).waits (unfailed_first p s t u first then sound) (omega (arith, once, later, some)) in omega (arith, a, b);
    came = λ sound rose. ⊎_elim
        (λ (early : came_to s.plan p < came_to t.plan p). let a = (first.punctual p).came (unfailed_first p s t u first then sound) early in let c = then.called p in omega (arith, a, c))
        (λ (late : came_to t.plan p ≤ came_to s.plan p).
        let rose1 : came_to t.plan p < came_to u.plan p = omega (arith, late, rose) in
        let b = (then.punctual p).came (unfailed_then p s t u first then sound) rose1 in
        let a = (first.punctual p).waits (unfailed_first p s t u first then sound) (omega (arith, once, rose1)) in omega (arith, a, b))
        (cases_lt (came_to s.plan p) (came_to t.plan p));
  }

  -- one call and then more
  pub later_on : GoesOn device → (s t u : Armed D) → IsLater device s t → IsLater device t u → IsLater device s u
  later_on on s t u first then = record {
    later = on s.device t.device u.device first.later then.later;
    stopped = λ p. omega (arith, first.stopped p, then.stopped p);
    failed = λ p. omega (arith, first.failed p, then.failed p);
    called = λ p. omega (arith, first.called p, then.called p);
    plan = progresses_on s.plan t.plan u.plan first.plan then.plan;
    awaited = λ p. awaited_on p s t u first then;
    punctual = λ p. punctual_on p s t u first then;
  }
