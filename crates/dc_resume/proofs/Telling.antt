-- The acts of a report that is a run are answers that were given.
use Rattle.std.proofs.Common.{◌≡◌, ◌≢◌, ◌∙◌, ◌<◌, ◌≤◌, ℕ, suc, List, [], ◌∷◌, ◌++◌, true, false, Option, None, Some, refl, ap, subst, sym, arith, ⊎_elim, append_assoc, slice_get}
use Rattle.std.proofs.lemmas.Bool.{cases_Bool, cases_eq, eq-eqb, ne_eqb}
use Rattle.std.proofs.lemmas.List.{append-nil}
use Rattle.std.specs.Option.{option_map}
use Rattle.dc_model.proofs.Reports.{happened_next}
use Rattle.dc_model.proofs.Rising.{TurnsBelow}
use Rattle.dc_model.specs.Drawn.{Drawn, DrawnFrom, draws}
use Rattle.dc_model.specs.Guests.{Answer, Guests}
use Rattle.dc_model.specs.Guests.Answer.{Plain, Clock, Random, InputNone, InputNext, InputEnd, ReceiveNone, ReceiveFrom}
use Rattle.dc_model.specs.Process.{fits}
use Rattle.dc_model.specs.Runs.{Given, IsMail, IsRun, state}
use Rattle.dc_model.specs.FailureFree.{FailureFree, act_of, answer_for, apply_answer, happened, reported, run, run_from, world_of}
use Rattle.dc_model.specs.declared.act.Act.{Act}
use Rattle.dc_model.specs.declared.act.Act.TheVariants as act
use Rattle.dc_model.specs.declared.act.Taken.{Taken}
use Rattle.dc_model.specs.declared.entry.Entry.{Entry}
use Rattle.dc_recovery.specs.Invariant.{DrawnBelow}

module _ {Mc : Type 0} (G : Guests Mc) where
  -- what an act tells is what was given: its act, and the next message where it hands over one
  abbrev pub IsTold : List Given → ℕ → Act → Answer → Type 0
  IsTold acts p t a = (act_of a ≡ t) × IsMail G acts p a

  mapped : {A B : Type 0} (f : A → B) (o : Option A) (b : B) → option_map f o ≡ Some b → (x : A) × (o ≡ Some x) × (f x ≡ b)
  mapped f None b e = absurd (let off : ⊥ = cc in off)
  mapped f (Some x) b e = (x, refl, let h : f x ≡ b = cc in h)

  pub told_is : (acts : List Given) (p : ℕ) (t : Act) (a : Answer) → answer_for G (world_of G acts) p t ≡ Some a → IsTold acts p t a
  told_is acts p act.Plain a e = let same : Plain ≡ a = cc in subst (IsTold acts p act.Plain) same (refl, tt)
  told_is acts p (act.Clock v) a e = let same : Clock v ≡ a = cc in subst (IsTold acts p (act.Clock v)) same (refl, tt)
  told_is acts p (act.Random v) a e = let same : Random v ≡ a = cc in subst (IsTold acts p (act.Random v)) same (refl, tt)
  told_is acts p act.InputNone a e = let same : InputNone ≡ a = cc in subst (IsTold acts p act.InputNone) same (refl, tt)
  told_is acts p act.InputNext a e = let x = mapped InputNext (slice_get (G.inputs p) (state G acts p).inputs_taken) a e in subst (IsTold acts p act.InputNext) x.2 (refl, tt)
  told_is acts p act.InputEnd a e = let same : InputEnd ≡ a = cc in subst (IsTold acts p act.InputEnd) same (refl, tt)
  told_is acts p act.ReceiveNone a e = let same : ReceiveNone ≡ a = cc in subst (IsTold acts p act.ReceiveNone) same (refl, tt)
  told_is acts p (act.ReceiveFrom s) a e = ⊎_elim
      (λ (same : s ≡ p). absurd (let none : None ≡ Some a = rw (eq-eqb s p same) at e in let off : ⊥ = cc in off))
      (λ (other : s ≢ p). let some : option_map (ReceiveFrom s) (slice_get ((state G acts s).sent p) ((state G acts p).received s)) ≡ Some a = rw (ne_eqb s p other) at e in
      let x = mapped (ReceiveFrom s) (slice_get ((state G acts s).sent p) ((state G acts p).received s)) a some in subst (IsTold acts p (act.ReceiveFrom s)) x.2 (refl, (other, x.1)))
      (cases_eq s p)

  no_run : (acts : List Taken) (w : FailureFree Mc) → run_from G None acts ≡ Some w → ⊥
  no_run [] w e = let off : ⊥ = cc in off
  no_run (x ∷ acts) w e = let off : ⊥ = cc in off

  -- answers that were given, with the report that they have and the world that they make
  pub record IsGivenAs (acts : List Taken) (w : FailureFree Mc) : Type 0 where
    pub given : List Given
    pub reports : reported given ≡ acts
    pub is_run : IsRun G given
    pub world : world_of G given ≡ w

  -- with one act more, by the answer that it gives
  given_by : (given : List Given) (x : Taken) (acts : List Taken) (w : FailureFree Mc) → IsRun G given
      → ((more : List Given) → IsRun G more → run_from G (Some (world_of G more)) acts ≡ Some w → IsGivenAs (reported more ++ acts) w)
      → (o : Option Answer) → answer_for G (world_of G given) x.p x.act ≡ o → run_from G (apply_answer G (world_of G given) x.p o) acts ≡ Some w → IsGivenAs (reported given ++ x ∷ acts) w
  given_by given x acts w is_run next None is e = absurd (no_run acts w e)
  given_by given x acts w is_run next (Some a) is e = ⊎_elim
      (λ (fit : fits G x.p (state G given x.p) a ≡ true).
      let told = told_is given x.p x.act a is in
      let y : Given = record { t = x.t; p = x.p; answer = a } in
      let goes : run_from G (Some (happened G (world_of G given) x.p a)) acts ≡ Some w = rw fit at e in
      let here : run_from G (Some (world_of G (y ∷ given))) acts ≡ Some w = subst (λ (v : FailureFree Mc). run_from G (Some v) acts ≡ Some w) (happened_next G given y) goes in
      let same : record { t = x.t; p = x.p; act = act_of a } ≡ x = ap (λ (t : Act). record { t = x.t; p = x.p; act = t }) told.0 in
      let all : reported (y ∷ given) ++ acts ≡ reported given ++ x ∷ acts = append_assoc (reported given) (record { t = x.t; p = x.p; act = act_of a } ∷ []) acts ∙ ap (λ (z : Taken). reported given ++ z ∷ acts) same in
      subst (λ (xs : List Taken). IsGivenAs xs w) all (next (y ∷ given) (is_run, record { fitting = fit; mail = told.1 }) here))
      (λ (unfit : fits G x.p (state G given x.p) a ≡ false). absurd (no_run acts w (rw unfit at e)))
      (cases_Bool (fits G x.p (state G given x.p) a))

  given_from : (given : List Given) (acts : List Taken) (w : FailureFree Mc) → IsRun G given → run_from G (Some (world_of G given)) acts ≡ Some w → IsGivenAs (reported given ++ acts) w
  given_from given [] w is_run e = record { given = given; reports = sym (append-nil (reported given)); is_run = is_run; world = let same : world_of G given ≡ w = cc in same }
  given_from given (x ∷ acts) w is_run e = given_by given x acts w is_run (λ more. given_from more acts w) (answer_for G (world_of G given) x.p x.act) refl e

  pub given_as : (acts : List Taken) (w : FailureFree Mc) → run G acts ≡ Some w → IsGivenAs acts w
  given_as acts w e = given_from [] acts w tt e

-- acts that were drawn, taken apart at the end
record EndsSo (n : ℕ) (schedule : List Entry) (from turn : ℕ) (acts : List Taken) (x : Taken) : Type 0 where
  front : DrawnFrom n schedule from acts
  below : TurnsBelow x.t acts
  at : draws n (slice_get schedule x.t) x ≡ true
  less : x.t < turn
  least : from ≤ x.t

ends_so : (n : ℕ) (schedule : List Entry) (from turn : ℕ) (acts : List Taken) (x : Taken) → DrawnFrom n schedule from (acts ++ x ∷ []) → TurnsBelow turn (acts ++ x ∷ []) → EndsSo n schedule from turn acts x
ends_so n schedule from turn [] x drawn below = record { front = tt; below = tt; at = drawn.1; less = below.0; least = drawn.0 }
ends_so n schedule from turn (y ∷ acts) x drawn below = let rest = ends_so n schedule (suc y.t) turn acts x drawn.2 below.1 in record {
  front = (drawn.0, drawn.1, rest.front);
  below = (let k = rest.least in omega arith, rest.below);
  at = rest.at;
  less = rest.less;
  least = let k = rest.least in let l = drawn.0 in omega arith;
}

pub drawn_back : (n : ℕ) (schedule : List Entry) (turn : ℕ) (given : List Given) → Drawn n schedule (reported given) → TurnsBelow turn (reported given) → DrawnBelow n schedule turn given
drawn_back n schedule turn [] drawn below = tt
drawn_back n schedule turn (x ∷ given) drawn below = let end = ends_so n schedule 0 turn (reported given) (record { t = x.t; p = x.p; act = act_of x.answer }) drawn below in
    (end.less, end.at, drawn_back n schedule x.t given end.front end.below)
