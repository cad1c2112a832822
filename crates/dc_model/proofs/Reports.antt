-- The fold over a report's acts is the run that was told.
use Rattle.std.proofs.Common.{◌≡◌, ◌∙◌, ℕ, List, [], ◌∷◌, ◌++◌, length, length-append, arith, refl, ap, subst, sym, ⊎_elim, true, Option, Some, None, reverse}
use Rattle.std.specs.Option.{option_map}
use Rattle.std.proofs.lemmas.Bool.{ne_eqb, cases_eq, and_parts}
use Rattle.std.proofs.lemmas.List.{append-nil, reverse-append}
use Rattle.std.proofs.lemmas.Slice.Eq.{bytes_eq-Decides}
use Rattle.dc_model.specs.Guests.{Answer, Event, Guests}
use Rattle.dc_model.specs.Process.{moved, fits, is_next_input, visible_of, comes}
use Rattle.dc_model.specs.Runs.{Given, state, IsRun, IsMail, visibles}
use Rattle.dc_model.specs.Guests.Event.{AtVisible}
use Rattle.dc_model.specs.Guests.Answer.{Plain, Clock, Random, InputNone, InputNext, InputEnd, ReceiveNone, ReceiveFrom}
use Rattle.dc_model.specs.FailureFree.{FailureFree, put, answer_for, happened, apply, run_from, run, opened, act_of, reported, world_of}
use Rattle.dc_model.specs.declared.act.Taken.{Taken}
use Rattle.dc_model.specs.declared.visible.Visible.{Visible}
use Rattle.dc_model.proofs.Own.{own_yes, own_no, put_self, put_other}

-- a run with one act more at its end
run_more : {Mc : Type 0} (G : Guests Mc) (o : Option (FailureFree Mc)) (w : FailureFree Mc) (acts : List Taken) (x : Taken)
    → run_from G o acts ≡ Some w → run_from G o (acts ++ x ∷ []) ≡ apply G w x.p x.act
run_more G o w [] x e = ap (λ v. run_from G v (x ∷ [])) e
run_more G None w (y ∷ acts) x e = cc
run_more G (Some v) w (y ∷ acts) x e = run_more G (apply G v y.p y.act) w acts x e

-- the record that fits is the next one
record_is : (bytes : List ℕ) (o : Option (List ℕ)) → is_next_input bytes o ≡ true → o ≡ Some bytes
record_is bytes None e = cc
record_is bytes (Some next) e = ap (λ xs. Some xs) (sym ((bytes_eq-Decides bytes next).0 e))

-- an answer that may be given is found again from its act alone
answer_again : {Mc : Type 0} (G : Guests Mc) (acts : List Given) (p : ℕ) (a : Answer)
    → fits G p (state G acts p) a ≡ true → IsMail G acts p a → answer_for G (world_of G acts) p (act_of a) ≡ Some a
answer_again G acts p (ReceiveFrom s message) fit mail = rw (ne_eqb s p mail.0, mail.1) refl
answer_again G acts p (InputNext bytes) fit mail = ap (option_map InputNext) (record_is bytes _ (and_parts _ _ fit).1)
answer_again G acts p Plain fit mail = refl
answer_again G acts p (Clock v) fit mail = refl
answer_again G acts p (Random v) fit mail = refl
answer_again G acts p InputNone fit mail = refl
answer_again G acts p InputEnd fit mail = refl
answer_again G acts p ReceiveNone fit mail = refl

-- an act moves its own process alone
pub procs_next : {Mc : Type 0} (G : Guests Mc) (acts : List Given) (x : Given) (q : ℕ)
    → put x.p (moved G (state G acts x.p) x.answer) (state G acts) q ≡ state G (x ∷ acts) q
procs_next G acts x q = ⊎_elim
    (λ e. subst (λ (y : ℕ). put x.p (moved G (state G acts x.p) x.answer) (state G acts) y ≡ state G (x ∷ acts) y) e
    (rw (put_self x.p (moved G (state G acts x.p) x.answer) (state G acts), own_yes x acts x.p refl) refl))
    (λ ne. rw (put_other x.p q (moved G (state G acts x.p) x.answer) (state G acts) ne, own_no x acts q ne) refl)
    (cases_eq x.p q)

-- a record that is shown comes last in time
reverse_record : (p k : ℕ) (n : Event) (records : List Visible) → reverse records ++ visible_of p k n ≡ reverse (visible_of p k n ++ records)
reverse_record p k (AtVisible body) records = sym (reverse-append (record { p = p; k = k; body = body } ∷ []) records)
reverse_record p k _ records = append-nil (reverse records)

-- the world of told acts with one act more
pub happened_next : {Mc : Type 0} (G : Guests Mc) (acts : List Given) (x : Given)
    → happened G (world_of G acts) x.p x.answer ≡ world_of G (x ∷ acts)
happened_next G acts x = λ i. record {
  procs = λ q. procs_next G acts x q i;
  visibles = reverse_record x.p (state G acts x.p).visible (comes G (state G acts x.p) x.answer) (visibles G acts) i;
}

-- the report of a run leads to the world of that run
pub reported_run : {Mc : Type 0} (G : Guests Mc) (acts : List Given) → IsRun G acts → run G (reported acts) ≡ Some (world_of G acts)
reported_run G [] is_run = refl
reported_run G (x ∷ acts) is_run =
    let last : Taken = record { t = x.t; p = x.p; act = act_of x.answer } in
    let again = answer_again G acts x.p x.answer is_run.1.fitting is_run.1.mail in
    run_more G (Some (opened G)) (world_of G acts) (reported acts) last (reported_run G acts is_run.0)
    ∙ rw (again, is_run.1.fitting) (ap (λ (w : FailureFree _). Some w) (happened_next G acts x))

-- lists that end alike
ends_alike : {A : Type 0} (xs ys : List A) (x y : A) → xs ++ x ∷ [] ≡ ys ++ y ∷ [] → (xs ≡ ys) × (x ≡ y)
ends_alike [] [] x y e = (refl, let same : x ≡ y = cc in same)
ends_alike [] (b ∷ ys) x y e = let long = length-append ys (y ∷ []) in let same = ap (λ zs. length zs) e in absurd (omega (arith, long, same))
ends_alike (a ∷ xs) [] x y e = let long = length-append xs (x ∷ []) in let same = ap (λ zs. length zs) e in absurd (omega (arith, long, same))
ends_alike (a ∷ xs) (b ∷ ys) x y e =
    let first : a ≡ b = cc in
    let rest : xs ++ x ∷ [] ≡ ys ++ y ∷ [] = cc in
    let both = ends_alike xs ys x y rest in
    (ap (λ z. z ∷ xs) first ∙ ap (λ zs. b ∷ zs) both.0, both.1)

-- the answers of a run are the only ones with its report
pub reported_once : {Mc : Type 0} (G : Guests Mc) (one other : List Given) → IsRun G one → IsRun G other → reported one ≡ reported other → one ≡ other
reported_once G [] [] is_one is_other e = refl
reported_once G [] (y ∷ ys) is_one is_other e =
    let long = length-append (reported ys) (record { t = y.t; p = y.p; act = act_of y.answer } ∷ []) in let same = ap (λ zs. length zs) e in absurd (omega (arith, long, same))
reported_once G (x ∷ xs) [] is_one is_other e =
    let long = length-append (reported xs) (record { t = x.t; p = x.p; act = act_of x.answer } ∷ []) in let same = ap (λ zs. length zs) e in absurd (omega (arith, long, same))
reported_once G (x ∷ xs) (y ∷ ys) is_one is_other e =
    let both = ends_alike (reported xs) (reported ys) (record { t = x.t; p = x.p; act = act_of x.answer }) (record { t = y.t; p = y.p; act = act_of y.answer }) e in
    let before = reported_once G xs ys is_one.0 is_other.0 both.0 in
    let turn : x.t ≡ y.t = ap (λ (z : Taken). z.t) both.1 in
    let process : x.p ≡ y.p = ap (λ (z : Taken). z.p) both.1 in
    let told : act_of x.answer ≡ act_of y.answer = ap (λ (z : Taken). z.act) both.1 in
    let same : Some x.answer ≡ Some y.answer = sym (answer_again G xs x.p x.answer is_one.1.fitting is_one.1.mail)
    ∙ (λ i. answer_for G (world_of G (before i)) (process i) (told i)) ∙ answer_again G ys y.p y.answer is_other.1.fitting is_other.1.mail in
    let answer : x.answer ≡ y.answer = cc in
    λ i. record { t = turn i; p = process i; answer = answer i } ∷ before i
