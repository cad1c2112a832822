-- The acts that a cut leaves of each process.
use Rattle.std.proofs.Common.{◌≡◌, ◌≢◌, ◌∙◌, ◌<◌, ◌≤◌, ℕ, suc, List, [], ◌∷◌, ◌++◌, length, reverse, take, ap, sym, subst, refl, arith, ⊎_elim, append-nil, length-append}
use Rattle.std.proofs.lemmas.Bool.{cases_eq, cases_lt, eq-eqb, ne_eqb}
use Rattle.std.proofs.lemmas.List.{length-reverse, reverse-append, reverse-reverse, take-append-le, take_all}
use Rattle.dc_model.specs.Cuts.{cut, reach_of}
use Rattle.dc_model.specs.declared.act.Taken.{Taken}
use Rattle.dc_acts.specs.Counted.{acts_of, cut_acts, own_of}
use Rattle.dc_acts.proofs.Cutting.{count_all, count_here, count_other, kept_here, left_out, reach_here, reach_other}

-- a process's own acts, joined and turned
own_here : (q : ℕ) (x : Taken) (acts : List Taken) → x.p ≡ q → own_of q (x ∷ acts) ≡ x ∷ own_of q acts
own_here q x acts e = rw (eq-eqb x.p q e) refl

own_other : (q : ℕ) (x : Taken) (acts : List Taken) → x.p ≢ q → own_of q (x ∷ acts) ≡ own_of q acts
own_other q x acts ne = rw (ne_eqb x.p q ne) refl

own_joined : (q : ℕ) (first second : List Taken) → own_of q (first ++ second) ≡ own_of q first ++ own_of q second
own_joined q [] second = refl
own_joined q (x ∷ first) second = ⊎_elim
    (λ (e : x.p ≡ q). own_here q x (first ++ second) e ∙ ap (λ ys. x ∷ ys) (own_joined q first second) ∙ sym (ap (λ ys. ys ++ own_of q second) (own_here q x first e)))
    (λ (ne : x.p ≢ q). own_other q x (first ++ second) ne ∙ own_joined q first second ∙ sym (ap (λ ys. ys ++ own_of q second) (own_other q x first ne)))
    (cases_eq x.p q)

own_turned : (q : ℕ) (acts : List Taken) → own_of q (reverse acts) ≡ reverse (own_of q acts)
own_turned q [] = refl
own_turned q (x ∷ acts) = ap (own_of q) (reverse-append (x ∷ []) acts) ∙ own_joined q (reverse acts) (x ∷ [])
    ∙ ap (λ ys. ys ++ own_of q (x ∷ [])) (own_turned q acts) ∙ ⊎_elim
    (λ (e : x.p ≡ q). ap (λ ys. reverse (own_of q acts) ++ ys) (own_here q x [] e)
    ∙ sym (ap reverse (own_here q x acts e) ∙ reverse-append (x ∷ []) (own_of q acts)))
    (λ (ne : x.p ≢ q). ap (λ ys. reverse (own_of q acts) ++ ys) (own_other q x [] ne) ∙ append-nil (reverse (own_of q acts))
    ∙ sym (ap reverse (own_other q x acts ne)))
    (cases_eq x.p q)

own_counted : (q : ℕ) (acts : List Taken) → length (own_of q acts) ≡ acts_of q acts
own_counted q [] = refl
own_counted q (x ∷ acts) = ⊎_elim
    (λ (e : x.p ≡ q). ap length (own_here q x acts e) ∙ ap suc (own_counted q acts) ∙ sym (count_here (λ (y : Taken). y.p) q x acts e))
    (λ (ne : x.p ≢ q). ap length (own_other q x acts ne) ∙ own_counted q acts ∙ sym (count_other (λ (y : Taken). y.p) q x acts ne))
    (cases_eq x.p q)

-- of a process's own acts, the last first, those that a cut leaves
module _ (r : ℕ → ℕ) (q : ℕ) where
  abbrev left_of : List Taken → List Taken
  left_of acts = reverse (own_of q (cut (λ (y : Taken). y.p) r acts))

  first_ones : (acts : List Taken) → left_of acts ≡ take (r q) (reverse (own_of q acts))
  first_ones [] = sym (take_nil (r q))
    where
      take_nil : (n : ℕ) → take n (reverse (own_of q [])) ≡ []
      take_nil n = take_all n [] (omega arith)
  first_ones (x ∷ acts) = ⊎_elim
      (λ (low : acts_of x.p acts < r x.p). ap (λ ys. reverse (own_of q ys)) (kept_here (λ (y : Taken). y.p) r x acts low) ∙ ⊎_elim
      (λ (e : x.p ≡ q). let near = subst (λ k. acts_of k acts < r k) e low in
      let long : length (reverse (own_of q acts)) ≡ acts_of q acts = length-reverse (own_of q acts) ∙ own_counted q acts in
      ap reverse (own_here q x (cut (λ (y : Taken). y.p) r acts) e) ∙ reverse-append (x ∷ []) (own_of q (cut (λ (y : Taken). y.p) r acts))
      ∙ ap (λ ys. ys ++ x ∷ []) (first_ones acts ∙ take_all (r q) (reverse (own_of q acts)) (omega arith))
      ∙ sym (take_all (r q) (reverse (own_of q acts) ++ x ∷ []) (omega (arith, length-append (reverse (own_of q acts)) (x ∷ []))))
      ∙ sym (with_x e))
      (λ (ne : x.p ≢ q). ap reverse (own_other q x (cut (λ (y : Taken). y.p) r acts) ne) ∙ first_ones acts ∙ sym (without_x ne))
      (cases_eq x.p q))
      (λ (high : r x.p ≤ acts_of x.p acts). ap (λ ys. reverse (own_of q ys)) (left_out (λ (y : Taken). y.p) r x acts high) ∙ first_ones acts ∙ ⊎_elim
      (λ (e : x.p ≡ q). let near = subst (λ k. r k ≤ acts_of k acts) e high in
      let long : length (reverse (own_of q acts)) ≡ acts_of q acts = length-reverse (own_of q acts) ∙ own_counted q acts in
      sym (with_x e ∙ take-append-le (r q) (reverse (own_of q acts)) (x ∷ []) (omega arith)))
      (λ (ne : x.p ≢ q). sym (without_x ne))
      (cases_eq x.p q))
      (cases_lt (acts_of x.p acts) (r x.p))
    where
      with_x : x.p ≡ q → take (r q) (reverse (own_of q (x ∷ acts))) ≡ take (r q) (reverse (own_of q acts) ++ x ∷ [])
      with_x e = ap (λ ys. take (r q) (reverse ys)) (own_here q x acts e) ∙ ap (take (r q)) (reverse-append (x ∷ []) (own_of q acts))

      without_x : x.p ≢ q → take (r q) (reverse (own_of q (x ∷ acts))) ≡ take (r q) (reverse (own_of q acts))
      without_x ne = ap (λ ys. take (r q) (reverse ys)) (own_other q x acts ne)

-- the own acts of a process after a cut
own_left : (p reach q : ℕ) (acts : List Taken) → own_of q (cut_acts p reach acts) ≡ take (reach_of p reach (length acts) q) (own_of q acts)
own_left p reach q acts = own_turned q (cut (λ (y : Taken). y.p) (reach_of p reach (length acts)) (reverse acts))
    ∙ first_ones (reach_of p reach (length acts)) q (reverse acts)
    ∙ ap (λ ys. take (reach_of p reach (length acts) q) (reverse ys)) (own_turned q acts)
    ∙ ap (take (reach_of p reach (length acts) q)) (reverse-reverse (own_of q acts))

pub own_first : (p reach : ℕ) (acts : List Taken) → own_of p (cut_acts p reach acts) ≡ take reach (own_of p acts)
own_first p reach acts = own_left p reach p acts ∙ ap (λ n. take n (own_of p acts)) (reach_here p reach (length acts) p refl)

pub own_all : (p reach q : ℕ) (acts : List Taken) → q ≢ p → own_of q (cut_acts p reach acts) ≡ own_of q acts
own_all p reach q acts ne = own_left p reach q acts ∙ ap (λ n. take n (own_of q acts)) (reach_other p reach (length acts) q ne)
    ∙ take_all (length acts) (own_of q acts) (let all = count_all (λ (y : Taken). y.p) q acts in omega (arith, own_counted q acts))
