-- Acts that are played, where the records shown so far are kept elsewhere.
use Rattle.std.proofs.Common.{◌≡◌, ◌∙◌, ◌+◌, ◌-◌, ◌==◌, ◌&&◌, ◌≤◌, ◌<◌, All, Result, Err, add-one, drop, get_or, nat_le, slice_get, take, ℕ, suc, Bool, true, false, List, [], ◌∷◌, ◌++◌, Option, Some, None, ap, sym, refl, subst, arith, option_map, length, length-append, append_assoc, ⊎_elim}
use Rattle.std.proofs.lemmas.Bool.{cases_Bool, eqb-true}
use Rattle.std.proofs.lemmas.List.{take_all}
use Rattle.dc_acts.specs.Lines.{text_of, visible_line}
use Rattle.dc_check.specs.Played.{played_from}
use Rattle.dc_model.specs.Drawn.{draws}
use Rattle.dc_model.specs.Guests.{Event, Answer, Guests}
use Rattle.dc_model.specs.Guests.Event.{AtEnd, AtInternal, AtClock, AtRandom, AtInput, AtReceive, AtVisible, AtSend}
use Rattle.dc_model.specs.Process.{moved, fits, shown, shows, comes, visible_of}
use Rattle.dc_model.specs.FailureFree.{FailureFree, answer_for, apply, apply_answer, happened}
use Rattle.dc_model.specs.declared.act.Act.{Act}
use Rattle.dc_model.specs.declared.act.Act.TheVariants as act
use Rattle.dc_model.specs.declared.act.Taken.{Taken}
use Rattle.dc_model.specs.declared.entry.Entry.{Entry}
use Rattle.dc_model.specs.declared.visible.Visible.{Visible}

-- records that were shown before
abbrev pub behind : {Mc : Type 0} → List Visible → FailureFree Mc → FailureFree Mc
behind front w = record { procs = w.procs; visibles = front ++ w.visibles }

-- a world without its records
abbrev pub bare : {Mc : Type 0} → FailureFree Mc → FailureFree Mc
bare w = record { procs = w.procs; visibles = [] }

module _ {Mc : Type 0} (G : Guests Mc) (w : FailureFree Mc) (p : ℕ) where
  answers_same : (a : Act) → answer_for G w p a ≡ answer_for G (bare w) p a
  answers_same act.Plain = refl
  answers_same (act.Clock v) = refl
  answers_same (act.Random v) = refl
  answers_same act.InputNone = refl
  answers_same act.InputNext = refl
  answers_same act.InputEnd = refl
  answers_same act.ReceiveNone = refl
  answers_same (act.ReceiveFrom s) = refl

  answer_applied : (o : Option Answer) → apply_answer G w p o ≡ option_map (behind w.visibles) (apply_answer G (bare w) p o)
  answer_applied None = refl
  answer_applied (Some a) = ⊎_elim (λ yes. rw yes refl) (λ no. rw no refl) (cases_Bool (fits G p (w.procs p) a))

  -- an act shows the same behind any records
  pub applied : (a : Act) → apply G w p a ≡ option_map (behind w.visibles) (apply G (bare w) p a)
  applied a = ap (apply_answer G w p) (answers_same a) ∙ answer_applied (answer_for G (bare w) p a)

  -- by what was played without them
  pub taken : (a : Act) (played v : FailureFree Mc) → played ≡ bare w → apply G played p a ≡ Some v → apply G w p a ≡ Some (behind w.visibles v)
  taken a played v is e = applied a ∙ ap (option_map (behind w.visibles)) (ap (λ u. apply G u p a) (sym is) ∙ e)

  pub refused : (a : Act) (played : FailureFree Mc) → played ≡ bare w → apply G played p a ≡ None → apply G w p a ≡ None
  refused a played is e = applied a ∙ ap (option_map (behind w.visibles)) (ap (λ u. apply G u p a) (sym is) ∙ e)

one_shown : (p k : ℕ) (e : Event) → length (visible_of p k e) ≤ 1
one_shown p k AtEnd = omega arith
one_shown p k AtInternal = omega arith
one_shown p k AtClock = omega arith
one_shown p k AtRandom = omega arith
one_shown p k AtInput = omega arith
one_shown p k AtReceive = omega arith
one_shown p k (AtVisible body) = omega arith
one_shown p k (AtSend to message) = omega arith

-- an event is one visible event at most
pub one_event : (e : Event) → shows e ≤ 1
one_event AtEnd = omega arith
one_event AtInternal = omega arith
one_event AtClock = omega arith
one_event AtRandom = omega arith
one_event AtInput = omega arith
one_event AtReceive = omega arith
one_event (AtVisible body) = omega arith
one_event (AtSend to message) = omega arith

-- an act shows one record at most
pub record AtMostOne {Mc : Type 0} (w v : FailureFree Mc) : Type 0 where
  pub records : length v.visibles ≤ suc (length w.visibles)
  pub each : (q : ℕ) → (v.procs q).visible ≤ suc ((w.procs q).visible)

module _ {Mc : Type 0} (G : Guests Mc) (w : FailureFree Mc) (p : ℕ) where
  happens : (a : Answer) → AtMostOne w (happened G w p a)
  happens a = record {
    records = let one = one_shown p (w.procs p).visible (comes G (w.procs p) a) in omega (arith, one, length-append w.visibles (shown G p (w.procs p) a));
    each = λ q. ⊎_elim
        (λ yes. rw yes (subst (λ (y : ℕ). (moved G (w.procs p) a).visible ≤ suc ((w.procs y).visible)) (eqb-true p q yes) (let one = one_event (comes G (w.procs p) a) in omega (arith, one))))
        (λ no. rw no (omega arith))
        (cases_Bool (p == q));
  }

  by_answer : (o : Option Answer) (v : FailureFree Mc) → apply_answer G w p o ≡ Some v → AtMostOne w v
  by_answer None v e = absurd (let never : ⊥ = cc in never)
  by_answer (Some a) v e = ⊎_elim
      (λ yes. let same : Some (happened G w p a) ≡ Some v = sym (rw yes refl) ∙ e in subst (λ (u : FailureFree Mc). AtMostOne w u) (let is : happened G w p a ≡ v = cc in is) (happens a))
      (λ no. let none : None ≡ Some v = sym (rw no refl) ∙ e in absurd (let never : ⊥ = cc in never))
      (cases_Bool (fits G p (w.procs p) a))

  pub at_most_one : (a : Act) (v : FailureFree Mc) → apply G w p a ≡ Some v → AtMostOne w v
  at_most_one a v e = by_answer (answer_for G w p a) v e

-- the lines of records behind others
pub texts_behind : (front back : List Visible) → text_of front ++ text_of back ≡ text_of (front ++ back)
texts_behind [] back = refl
texts_behind (x ∷ front) back = append_assoc (visible_line x) (text_of front) (text_of back) ∙ ap (λ v. visible_line x ++ v) (texts_behind front back)

-- the first of some acts, and those behind it
pub front_and_rest : (acts : List Taken) (d : Taken) → 1 ≤ length acts → acts ≡ get_or acts 0 d ∷ take (length acts - 1) (drop 1 acts)
front_and_rest [] d some = absurd (omega (arith, some))
front_and_rest (x ∷ acts) d some = ap (λ xs. x ∷ xs) (sym (take_all (suc (length acts) - 1) acts (omega arith)))

all_behind : (n : ℕ) (x : Taken) (acts : List Taken) → All (λ y. y.p < n) (x ∷ acts) → All (λ y. y.p < n) acts
all_behind n x acts all = λ k d within. all (suc k) d (omega (arith, within))

pub all_rest : (n : ℕ) (x : Taken) (acts rest : List Taken) → rest ≡ x ∷ acts → All (λ y. y.p < n) rest → All (λ y. y.p < n) acts
all_rest n x acts rest is all = all_behind n x acts (subst (λ xs. All (λ y. y.p < n) xs) is all)

-- whether an act was drawn, by how many guests there are
abbrev pub is_drawn : ℕ → List Entry → ℕ → Taken → Bool
is_drawn n schedule next x = nat_le next x.t && draws n (slice_get schedule x.t) x

module _ {Mc : Type 0} (G : Guests Mc) (schedule : List Entry) (next position : ℕ) (w : FailureFree Mc) (x : Taken) (acts rest : List Taken) (told : Result (FailureFree Mc) ℕ)
    (is : rest ≡ x ∷ acts) (e : told ≡ played_from G schedule next position w rest) where
  -- one act more was played
  pub played_on : (v : FailureFree Mc) → is_drawn G.count schedule next x ≡ true → apply G w x.p x.act ≡ Some v → told ≡ played_from G schedule (x.t + 1) (position + 1) v acts
  played_on v drawn there = e ∙ ap (played_from G schedule next position w) is ∙ rw (drawn, there, add-one x.t, add-one position) refl

  -- an act that does not apply, and one that was not drawn
  pub unapplied : is_drawn G.count schedule next x ≡ true → apply G w x.p x.act ≡ None → told ≡ Err position
  unapplied drawn nowhere = e ∙ ap (played_from G schedule next position w) is ∙ rw (drawn, nowhere) refl

  pub undrawn : is_drawn G.count schedule next x ≡ false → told ≡ Err position
  undrawn not_so = e ∙ ap (played_from G schedule next position w) is ∙ rw not_so refl
