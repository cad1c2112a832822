-- The first stop of a turn, as a list of stops grows.
use Rattle.std.proofs.Common.{◌≡◌, ◌≢◌, ◌≤◌, ◌<◌, ◌+◌, ℕ, zero, suc, List, [], ◌∷◌, ◌++◌, Option, None, Some, Bool, true, false, ◌⊎◌, ⊎_elim, refl, ap, sym, ◌∙◌, if◌then◌else◌, nat_lt, ◌||◌, take, get_or, set, replicate, length, arith}
use Rattle.std.specs.Option.{option_map}
use Rattle.std.proofs.lemmas.Bool.Decides.{nat_tests}
use Rattle.std.proofs.lemmas.Bool.{cases_eq}
use Rattle.std.proofs.lemmas.List.{get_or-set_same, get_or-set_other, take_more}
use Rattle.dc_media.specs.Firsts.{or_sooner}
use Rattle.dc_media.proofs.Firsts.{first_by-push, first_by-push_other}
use Rattle.dc_media.specs.declared.planned.PlannedStop.{PlannedStop}
use Rattle.dc_armed.specs.declared.stop.Waiting.{Waiting}
use Rattle.dc_armed.specs.Turns.{ComesNone, WaitFirst}
use Rattle.dc_armed.specs.Stops.{first_stop, is_of, sooner_waiting, waiting_of}

-- each index of a list of one value has it, and so has each past its end
pub get_or-replicate_same : {A : Type 0} (a : A) (n i : ℕ) → get_or (replicate n a) i a ≡ a
get_or-replicate_same a zero i = refl
get_or-replicate_same a (suc n) zero = refl
get_or-replicate_same a (suc n) (suc i) = get_or-replicate_same a n i

-- a stop put at the end, which is not of the turn and process
first_stop-push_other : (stops : List PlannedStop) (stop : PlannedStop) (turn p : ℕ)
    → is_of turn p stop ≡ false → first_stop (stops ++ stop ∷ []) turn p ≡ first_stop stops turn p
first_stop-push_other stops stop turn p other = first_by-push_other (is_of turn p) (λ s. s.call) stops stop other

-- what waits of the sooner of two
waiting_of-or_sooner : (found : Option PlannedStop) (stop : PlannedStop) → waiting_of (or_sooner (λ s. s.call) found stop) ≡ sooner_waiting (option_map waiting_of found) stop
waiting_of-or_sooner None stop = refl
waiting_of-or_sooner (Some other) stop =
    elim (nat_lt stop.call other.call) as (λ b. waiting_of (if b then stop else other) ≡ (if b then waiting_of stop else waiting_of other)) [ true ↦ refl | false ↦ refl ]

-- a stop put at the end, which is of the turn and process
first_stop-push : (stops : List PlannedStop) (stop : PlannedStop) (turn p : ℕ)
    → is_of turn p stop ≡ true → option_map waiting_of (first_stop (stops ++ stop ∷ []) turn p) ≡ Some (sooner_waiting (option_map waiting_of (first_stop stops turn p)) stop)
first_stop-push stops stop turn p of =
    ap (option_map waiting_of) (first_by-push (is_of turn p) (λ s. s.call) stops stop of) ∙ ap Some (waiting_of-or_sooner (first_stop stops turn p) stop)

-- a stop of another process
is_of-other : (stop : PlannedStop) (turn p : ℕ) → p ≢ stop.process → is_of turn p stop ≡ false
is_of-other stop turn p other = grind (arith, nat_tests)

is_of-within : (stop : PlannedStop) (turn p : ℕ) → is_of turn p stop ≡ true → stop.process < 32
is_of-within stop turn p of = grind (arith, nat_tests)

-- what waits once a stop of the turn was taken up
pub waits-taken : (stops : List PlannedStop) (stop : PlannedStop) (turn : ℕ) (waiting : List (Option Waiting))
    → is_of turn stop.process stop ≡ true → length waiting ≡ 32
    → WaitFirst stops turn waiting
    → WaitFirst (stops ++ stop ∷ []) turn (set waiting stop.process (Some (sooner_waiting (get_or waiting stop.process None) stop)))
waits-taken stops stop turn waiting of whole before = λ p.
    let within : stop.process < length waiting = omega (arith, is_of-within stop turn stop.process of) in
    ⊎_elim
    (λ (same : p ≡ stop.process). rw (same, get_or-set_same waiting stop.process _ None within, first_stop-push stops stop turn stop.process of, before stop.process) refl)
    (λ (other : p ≢ stop.process). rw (get_or-set_other waiting stop.process p _ None other, first_stop-push_other stops stop turn p (is_of-other stop turn p other)) (before p))
    (cases_eq p stop.process)

other_turn : (stops : List PlannedStop) (stop : PlannedStop) (turn p : ℕ) → is_of turn stop.process stop ≡ false → first_stop (stops ++ stop ∷ []) turn p ≡ first_stop stops turn p
other_turn stops stop turn p other =
    ⊎_elim
    (λ (same : p ≡ stop.process). rw same (first_stop-push_other stops stop turn stop.process other))
    (λ (ne : p ≢ stop.process). first_stop-push_other stops stop turn p (is_of-other stop turn p ne))
    (cases_eq p stop.process)

-- a stop that does not come in the turn changes nothing
pub waits-other_turn : (stops : List PlannedStop) (stop : PlannedStop) (turn : ℕ) (waiting : List (Option Waiting))
    → is_of turn stop.process stop ≡ false → WaitFirst stops turn waiting → WaitFirst (stops ++ stop ∷ []) turn waiting
waits-other_turn stops stop turn waiting other before = λ p. before p ∙ ap (option_map waiting_of) (sym (other_turn stops stop turn p other))

apart_ne : (t from until turn : ℕ) → (t < from) ⊎ (until ≤ t) → from ≤ turn → turn < until → turn ≢ t
apart_ne t from until turn apart above below = omega arith

is_of-later : (stop : PlannedStop) (turn p : ℕ) → turn ≢ stop.turn → is_of turn p stop ≡ false
is_of-later stop turn p other = grind (arith, nat_tests)

-- no stop comes up to a turn before that of one more stop
pub ComesNone-push : (stops : List PlannedStop) (stop : PlannedStop) (from until : ℕ)
    → ComesNone stops from until → (stop.turn < from) ⊎ (until ≤ stop.turn) → ComesNone (stops ++ stop ∷ []) from until
ComesNone-push stops stop from until before apart = λ turn p above below.
    first_stop-push_other stops stop turn p (is_of-later stop turn p (apart_ne stop.turn from until turn apart above below)) ∙ before turn p above below

-- up to a sooner turn
pub ComesNone-sooner : (stops : List PlannedStop) (from until sooner : ℕ) → ComesNone stops from until → sooner ≤ until → ComesNone stops from sooner
ComesNone-sooner stops from until sooner before le = λ turn p above below. before turn p above (omega arith)

-- one more of the stops
pub WaitFirst-more : (stops : List PlannedStop) (i : ℕ) (d : PlannedStop) (turn : ℕ) (waiting : List (Option Waiting))
    → i < length stops → WaitFirst (take i stops ++ get_or stops i d ∷ []) turn waiting → WaitFirst (take (i + 1) stops) turn waiting
WaitFirst-more stops i d turn waiting within first = rw (take_more stops i d within) first

-- neither of two
pub neither : (a b : Bool) → (a || b) ≡ false → (a ≡ false) × (b ≡ false)
neither false false e = (refl, refl)
neither true b e = absurd (cc)
neither false true e = absurd (cc)
