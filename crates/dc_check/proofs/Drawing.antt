-- Acts that are played are a run that was drawn.
use Rattle.std.proofs.Common.{◌≡◌, ◌∙◌, ◌&&◌, ℕ, suc, true, List, [], ◌∷◌, Option, Some, None, Result, Ok, Err, ap, sym, refl, nat_le, slice_get, ⊎_elim}
use Rattle.std.proofs.lemmas.Bool.{and_parts, cases_Bool, le-leb, leb-true}
use Rattle.dc_model.specs.Drawn.{Drawn, DrawnFrom, draws}
use Rattle.dc_model.specs.Guests.{Guests}
use Rattle.dc_model.specs.FailureFree.{FailureFree, apply, opened, run, run_from}
use Rattle.dc_model.specs.declared.act.Taken.{Taken}
use Rattle.dc_model.specs.declared.entry.Entry.{Entry}
use Rattle.dc_words.specs.Results.{◌>>=◌, or_fault}
use Rattle.dc_check.specs.Played.{played, played_from}

module _ {Mc : Type 0} (G : Guests Mc) (schedule : List Entry) where
  drawn_from : (next position : ℕ) (w v : FailureFree Mc) (acts : List Taken) → played_from G schedule next position w acts ≡ Ok v
      → DrawnFrom G.count schedule next acts × (run_from G (Some w) acts ≡ Some v)
  drawn_from next position w v [] e = (tt, let same : w ≡ v = cc in ap (λ (u : FailureFree Mc). Some u) same)
  drawn_from next position w v (x ∷ acts) e = ⊎_elim
      (λ yes. by_apply (λ u on. drawn_from (suc x.t) (suc position) u v acts on) (and_parts (nat_le next x.t) (draws G.count (slice_get schedule x.t) x) yes) (apply G w x.p x.act) refl (sym (rw yes refl) ∙ e))
      (λ not_so. let never : ◌≡◌ {A = Result (FailureFree Mc) ℕ} (Err position) (Ok v) = sym (rw not_so refl) ∙ e in absurd (let no_way : ⊥ = cc in no_way))
      (cases_Bool (nat_le next x.t && draws G.count (slice_get schedule x.t) x))
    where
      by_apply : ((u : FailureFree Mc) → played_from G schedule (suc x.t) (suc position) u acts ≡ Ok v → DrawnFrom G.count schedule (suc x.t) acts × (run_from G (Some u) acts ≡ Some v))
          → (nat_le next x.t ≡ true) × (draws G.count (slice_get schedule x.t) x ≡ true) → (o : Option (FailureFree Mc)) → apply G w x.p x.act ≡ o
          → (or_fault position (apply G w x.p x.act) >>= (λ u. played_from G schedule (suc x.t) (suc position) u acts)) ≡ Ok v
          → DrawnFrom G.count schedule next (x ∷ acts) × (run_from G (Some w) (x ∷ acts) ≡ Some v)
      by_apply rest is None at on = absurd (let never : ◌≡◌ {A = Result (FailureFree Mc) ℕ} (Err position) (Ok v) = sym (rw at refl) ∙ on in let no_way : ⊥ = cc in no_way)
      by_apply rest is (Some u) at on = let later = rest u (sym (rw at refl) ∙ on) in ((leb-true next x.t is.0, is.1, later.0), rw at later.1)

  ran_from_none : (acts : List Taken) → run_from G None acts ≡ None
  ran_from_none [] = refl
  ran_from_none (x ∷ acts) = refl

  played_from_drawn : (next position : ℕ) (w v : FailureFree Mc) (acts : List Taken) → DrawnFrom G.count schedule next acts → run_from G (Some w) acts ≡ Some v
      → played_from G schedule next position w acts ≡ Ok v
  played_from_drawn next position w v [] drawn ran = let same : w ≡ v = cc in ap (λ (u : FailureFree Mc). Ok u) same
  played_from_drawn next position w v (x ∷ acts) drawn ran = rw (le-leb next x.t drawn.0, drawn.1) (by_apply (λ u on. played_from_drawn (suc x.t) (suc position) u v acts drawn.2 on) (apply G w x.p x.act) refl)
    where
      by_apply : ((u : FailureFree Mc) → run_from G (Some u) acts ≡ Some v → played_from G schedule (suc x.t) (suc position) u acts ≡ Ok v) → (o : Option (FailureFree Mc)) → apply G w x.p x.act ≡ o → (or_fault position (apply G w x.p x.act) >>= (λ u. played_from G schedule (suc x.t) (suc position) u acts)) ≡ Ok v
      by_apply rest None at = absurd (let never : None ≡ Some v = sym (ran_from_none acts) ∙ ap (λ o. run_from G o acts) (sym at) ∙ ran in let no_way : ⊥ = cc in no_way)
      by_apply rest (Some u) at = rw at (rest u (ap (λ o. run_from G o acts) (sym at) ∙ ran))

pub drawn_when_played : {Mc : Type 0} (G : Guests Mc) (schedule : List Entry) (acts : List Taken) (w : FailureFree Mc) → played G schedule acts ≡ Ok w → Drawn G.count schedule acts × (run G acts ≡ Some w)
drawn_when_played G schedule acts w e = drawn_from G schedule 0 0 (opened G) w acts e

pub played_when_drawn : {Mc : Type 0} (G : Guests Mc) (schedule : List Entry) (acts : List Taken) (w : FailureFree Mc) → Drawn G.count schedule acts → run G acts ≡ Some w → played G schedule acts ≡ Ok w
played_when_drawn G schedule acts w drawn ran = played_from_drawn G schedule 0 0 (opened G) w acts drawn ran
