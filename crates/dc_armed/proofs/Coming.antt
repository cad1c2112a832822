-- A planned stop that comes at the store of one of some words in a row.
use Rattle.std.proofs.Common.{◌≡◌, ◌⊎◌, ⊎_elim, inl, inr, ◌+◌, ◌-◌, ◌<◌, ◌≤◌, ◌==◌, ◌&&◌, nat_lt, not, ℕ, zero, suc, true, false, List, Option, None, Some, IfSome, Result, Ok, Err, IsErr, get_or, length, slice_index, refl, sym, ap, ◌∙◌, arith, add-one}
use Rattle.std.specs.Result.{is_err}
use Rattle.std.proofs.lemmas.Bool.{cases_Bool, eqb-false, eqb-true, lt-ltb}
use Rattle.dc_media.specs.declared.faults.DeviceFault.{DeviceFault}
use Rattle.dc_media.specs.declared.tear.Tear.{Tear}
use Rattle.dc_media.specs.Causes.{counted, counted_by}
use Rattle.dc_media.specs.Stores.{set_words}
use Rattle.dc_media.specs.Told.{Becomes, Device}
use Rattle.dc_media.proofs.Becoming.{Becomes-then}
use Rattle.dc_media.proofs.Storing.{counted_more}
use Rattle.dc_armed.specs.declared.stop.Waiting.{Waiting}
use Rattle.dc_armed.specs.Armed.{Armed, ComesOrRefused, IsPassedOn, IsPlanned}
use Rattle.dc_armed.specs.Stops.{Waits, after_answer, calls_to, came_to, due, due_of, one_fewer, waiting_for}
use Rattle.dc_armed.specs.Torn.{at_once, torn_store}
use Rattle.dc_armed.specs.Rows.{AreCountedDown, ComesInRow, IsPlannedInRow, counted_down, due_within, row_calls}
use Rattle.dc_armed.proofs.Counting.{counted_by-more}

-- so many calls were made, and no stop came at any of them
abbrev pub IsBefore : ℕ → Option Waiting → Type 0
IsBefore j waiting = IfSome waiting (λ stop. 0 < stop.calls → j < stop.calls)

-- what holds of each stop that comes at one of the next n calls
pub of_due : (n : ℕ) (waiting : Option Waiting) (P : Waiting → Type 0) → ((stop : Waiting) → waiting ≡ Some stop → 0 < stop.calls → stop.calls ≤ n → P stop)
    → IfSome (due_within n waiting) P
of_due n None P holds = tt
of_due n (Some stop) P holds = ⊎_elim
    (λ (is : (nat_lt 0 stop.calls && not (nat_lt n stop.calls)) ≡ true). rw is (holds stop refl (grind (arith, is)) (grind (arith, is))))
    (λ (is : (nat_lt 0 stop.calls && not (nat_lt n stop.calls)) ≡ false). rw is tt)
    (cases_Bool (nat_lt 0 stop.calls && not (nat_lt n stop.calls)))

-- what waits after some calls before that of the stop
left_is : (j : ℕ) (stop : Waiting) → j < stop.calls → counted_down j (Some stop) ≡ Some (record stop { calls = stop.calls - j })
left_is zero stop before = let none : stop.calls - 0 ≡ stop.calls = omega arith in ap (λ n. Some (record stop { calls = n })) (sym none)
left_is (suc j) stop before = rw (left_is j stop (omega (arith, before)), lt-ltb 1 (stop.calls - j) (omega (arith, before)))
    (let one : stop.calls - j - 1 ≡ stop.calls - suc j = omega arith in ap (λ n. Some (record stop { calls = n })) one)

-- the stop comes at the next call, or later
is_due : (j : ℕ) (stop : Waiting) → j < stop.calls → (stop.calls ≡ j + 1 × due_of (counted_down j (Some stop)) ≡ Some stop.tear) ⊎ (j + 1 < stop.calls × due_of (counted_down j (Some stop)) ≡ None)
is_due j stop before = rw (left_is j stop before) (⊎_elim
    (λ (is : (stop.calls - j == 1) ≡ true). inl (omega (arith, before, eqb-true (stop.calls - j) 1 is), rw is refl))
    (λ (is : (stop.calls - j == 1) ≡ false). inr (omega (arith, before, eqb-false (stop.calls - j) 1 is), rw is refl))
    (cases_Bool (stop.calls - j == 1)))

-- a call more at which none comes
pub before_next : (j : ℕ) (waiting : Option Waiting) → due_of (counted_down j waiting) ≡ None → IsBefore j waiting → IsBefore (j + 1) waiting
before_next j None none before = tt
before_next j (Some stop) none before = λ some. ⊎_elim
    (λ (here : stop.calls ≡ j + 1 × due_of (counted_down j (Some stop)) ≡ Some stop.tear). absurd (let both : None ≡ Some stop.tear = sym none ∙ here.1 in cc))
    (λ (later : j + 1 < stop.calls × due_of (counted_down j (Some stop)) ≡ None). later.0)
    (is_due j stop (before some))

-- after some words, of which none was refused: no stop came, and each was one call of the device within
pub record IsSoFar {D : Type 0} (device : Device D (List ℕ)) (p j : ℕ) (old now : Armed D) : Type 0 where
  pub stops_same : device.stops now.device p ≡ device.stops old.device p
  pub faults_same : device.faults now.device p ≡ device.faults old.device p
  pub came_same : now.plan.came ≡ old.plan.came
  pub calls : device.calls now.device p ≡ counted_by j (device.calls old.device p)
  pub before : IsBefore j (waiting_for old.plan p)
  pub waits : Waits p (counted_down j (waiting_for old.plan p)) old.plan now.plan

-- what one store says
pub record IsStored {D : Type 0} (device : Device D (List ℕ)) (p i w : ℕ) (result : Result (Unit {0}) DeviceFault) (old new : Armed D) : Type 0 where
  pub once : due old.plan p ≡ None → device.calls new.device p ≡ counted (device.calls old.device p)
  pub passes : due old.plan p ≡ None → IsPassedOn device p result old new
  pub stops : IfSome (due old.plan p) (λ tear. ComesOrRefused device p (record { leaves = torn_store tear i w; calls = at_once tear.keep }) result old new)
  pub parts : IfSome (due old.plan p) (λ tear. device.calls new.device p ≡ counted_by (at_once tear.keep) (device.calls old.device p))
  pub calls : calls_to new.plan p ≡ counted (calls_to old.plan p)
  pub waits : Waits p (after_answer result (one_fewer (waiting_for old.plan p))) old.plan new.plan

-- no word yet
pub so_far_none : {D : Type 0} (device : Device D (List ℕ)) (p : ℕ) (now : Armed D) → IsSoFar device p 0 now now
so_far_none device p now = record {
  stops_same = refl;
  faults_same = refl;
  came_same = refl;
  calls = refl;
  before = at_first (waiting_for now.plan p);
  waits = record { here = refl; others = λ q off. refl; stops_same = refl };
} where
  at_first : (waiting : Option Waiting) → IsBefore 0 waiting
  at_first None = tt
  at_first (Some stop) = λ some. some

module _ {D : Type 0} (device : Device D (List ℕ)) (p j i w : ℕ) (old now new : Armed D) (so_far : IsSoFar device p j old now) where
  -- no stop comes at a store that is made
  not_due : (d : Option Tear) (r : Result (Unit {0}) DeviceFault) → false ≡ is_err r
      → IfSome d (λ tear. ComesOrRefused device p (record { leaves = torn_store tear i w; calls = at_once tear.keep }) r now new) → d ≡ None
  not_due None r made comes = refl
  not_due (Some tear) r made comes = absurd (⊎_elim
      (λ (planned : IsPlanned device p (record { leaves = torn_store tear i w; calls = at_once tear.keep }) r now new). let err : is_err r ≡ true = rw planned.answer refl in let both : false ≡ true = made ∙ err in cc)
      (λ (refused : IsErr r × IsPassedOn device p r now new). let both : false ≡ true = made ∙ refused.0 in cc)
      comes)

  -- one word more
  pub so_far_next : (r : Result (Unit {0}) DeviceFault) → false ≡ is_err r → IsStored device p i w r now new → IsSoFar device p (j + 1) old new
  so_far_next (Err e) made one = absurd cc
  so_far_next (Ok x) made one = let none = not_due (due now.plan p) (Ok x) made one.stops in let own = one.passes none in record {
    stops_same = own.cause.calm.0 ∙ so_far.stops_same;
    faults_same = own.cause.calm.1 ∙ so_far.faults_same;
    came_same = own.came_same ∙ so_far.came_same;
    calls = counted_more j _ _ _ so_far.calls (one.once none);
    before = before_next j (waiting_for old.plan p) (ap due_of (sym so_far.waits.here) ∙ none) so_far.before;
    waits = rw (add-one j) (record {
      here = one.waits.here ∙ ap one_fewer so_far.waits.here;
      others = λ q off. one.waits.others q off ∙ so_far.waits.others q off;
      stops_same = one.waits.stops_same ∙ so_far.waits.stops_same;
    });
  }

-- a word that is refused, where a stop waited for one of the row
module _ {D : Type 0} (device : Device D (List ℕ)) (p i j : ℕ) (ws : List ℕ) (old now new : Armed D) (so_far : IsSoFar device p j old now)
    (set : Becomes (device.told old.device p) (device.told now.device p) (λ before after. after ≡ set_words j i ws before))
    (counts : calls_to now.plan p ≡ counted_by j (calls_to old.plan p))
    (result : Result (Unit {0}) DeviceFault) (refused : true ≡ is_err result) (one : IsStored device p (i + j) (slice_index ws j) result now new) where
  -- none of its own stops and faults were counted before
  own : IsPassedOn device p result now new → IsPassedOn device p result old new
  own it = record { cause = rw (so_far.stops_same, so_far.faults_same) at it.cause; came_same = it.came_same ∙ so_far.came_same }

  came_same : (q : ℕ) → came_to now.plan q ≡ came_to old.plan q
  came_same q = ap (λ came. get_or came q 0) so_far.came_same

  counts_next : calls_to new.plan p ≡ counted_by (j + 1) (calls_to old.plan p)
  counts_next = counted_more j _ _ _ counts one.calls

  module _ (stop : Waiting) (waits : waiting_for old.plan p ≡ Some stop) (some : 0 < stop.calls) where
    waits_now : waiting_for now.plan p ≡ counted_down j (Some stop)
    waits_now = so_far.waits.here ∙ ap (counted_down j) waits

    due_now : (stop.calls ≡ j + 1 × due now.plan p ≡ Some stop.tear) ⊎ (j + 1 < stop.calls × due now.plan p ≡ None)
    due_now = rw waits_now (is_due j stop ((rw waits at so_far.before) some))

    -- the stop came at this word
    planned : stop.calls ≡ j + 1 → IsPlanned device p (record { leaves = torn_store stop.tear (i + j) (slice_index ws j); calls = at_once stop.tear.keep }) result now new
        → IsPlannedInRow device p stop (record { index = i; words = ws }) result old new
    planned here it = let before : stop.calls - 1 ≡ j = omega (arith, here) in record {
      planned = record {
        answer = it.answer;
        comes = record {
          here = it.comes.here ∙ ap counted (came_same p);
          later = rw (came_same p) at it.comes.later;
          others = λ q off. it.comes.others q off ∙ came_same q;
        };
        stops_same = it.stops_same ∙ so_far.stops_same;
        faults_same = it.faults_same ∙ so_far.faults_same;
        content = rw before (Becomes-then (device.told old.device p) (device.told now.device p) (device.told new.device p) _ _ _ (λ x y z one two. two ∙ ap (torn_store stop.tear (i + j) (slice_index ws j)) one) set it.content);
        calls = rw before (it.calls ∙ ap (counted_by (at_once stop.tear.keep)) so_far.calls ∙ sym (counted_by-more j (at_once stop.tear.keep) (device.calls old.device p)));
      };
      last = rw here counts_next;
    }

    is_refused : IsErr result
    is_refused = sym refused

    comes_here : ComesInRow device p stop (record { index = i; words = ws }) result old new
    comes_here = ⊎_elim
        (λ (here : stop.calls ≡ j + 1 × due now.plan p ≡ Some stop.tear). ⊎_elim
        (λ (it : IsPlanned device p (record { leaves = torn_store stop.tear (i + j) (slice_index ws j); calls = at_once stop.tear.keep }) result now new). inl (planned here.0 it))
        (λ (it : IsErr result × IsPassedOn device p result now new). inr (it.0, own it.1))
        (rw here.1 at one.stops))
        (λ (later : j + 1 < stop.calls × due now.plan p ≡ None). inr (is_refused, own (one.passes later.1)))
        due_now

    parts_here : (made : ℕ) × (made ≤ row_calls stop) × (device.calls new.device p ≡ counted_by made (device.calls old.device p))
    parts_here = ⊎_elim
        (λ (here : stop.calls ≡ j + 1 × due now.plan p ≡ Some stop.tear). (
          j + at_once stop.tear.keep,
          omega (arith, here.0),
          (rw here.1 at one.parts) ∙ ap (counted_by (at_once stop.tear.keep)) so_far.calls ∙ sym (counted_by-more j (at_once stop.tear.keep) (device.calls old.device p)),
        ))
        (λ (later : j + 1 < stop.calls × due now.plan p ≡ None). (j + 1, omega (arith, later.0), counted_more j _ _ _ so_far.calls (one.once later.1)))
        due_now

    left_here : AreCountedDown stop.calls p result old.plan new.plan
    left_here = record {
      made = j + 1;
      few = ⊎_elim (λ (here : stop.calls ≡ j + 1 × due now.plan p ≡ Some stop.tear). omega (arith, here.0)) (λ (later : j + 1 < stop.calls × due now.plan p ≡ None). omega (arith, later.0)) due_now;
      calls = counts_next;
      waits = record {
        here = one.waits.here ∙ ap (after_answer result) (let down : one_fewer (waiting_for now.plan p) ≡ counted_down (j + 1) (waiting_for old.plan p) = rw (add-one j) (ap one_fewer so_far.waits.here) in down);
        others = λ q off. one.waits.others q off ∙ so_far.waits.others q off;
        stops_same = one.waits.stops_same ∙ so_far.waits.stops_same;
      };
    }

  -- what the stop does, in how many calls, and what waits then
  pub comes_in_row : IfSome (due_within (length ws) (waiting_for old.plan p)) (λ stop. ComesInRow device p stop (record { index = i; words = ws }) result old new)
  comes_in_row = of_due (length ws) (waiting_for old.plan p) _ (λ stop waits some few. comes_here stop waits some)

  pub parts_in_row : IfSome (due_within (length ws) (waiting_for old.plan p)) (λ stop. (made : ℕ) × (made ≤ row_calls stop) × (device.calls new.device p ≡ counted_by made (device.calls old.device p)))
  parts_in_row = of_due (length ws) (waiting_for old.plan p) _ (λ stop waits some few. parts_here stop waits some)

  pub left_in_row : IfSome (due_within (length ws) (waiting_for old.plan p)) (λ stop. AreCountedDown stop.calls p result old.plan new.plan)
  left_in_row = of_due (length ws) (waiting_for old.plan p) _ (λ stop waits some few. left_here stop waits some)

-- where each word was set, no stop waited for one of them
pub none_came : {D : Type 0} (device : Device D (List ℕ)) (p j n : ℕ) (old now : Armed D) → IsSoFar device p j old now → n ≤ j → (P : Waiting → Type 0) → IfSome (due_within n (waiting_for old.plan p)) P
none_came device p j n old now so_far all P = of_due n (waiting_for old.plan p) P
    (λ stop waits some few. absurd (let before : j < stop.calls = (rw waits at so_far.before) some in omega (arith, before, few, all)))
