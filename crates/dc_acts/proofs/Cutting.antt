-- What a cut leaves of each process.
use Rattle.std.proofs.Common.{◌≡◌, ◌≢◌, ◌∙◌, ◌+◌, ◌<◌, ◌≤◌, ℕ, suc, List, [], ◌∷◌, ◌++◌, length, reverse, min, ap, subst, refl, arith, ⊎_elim}
use Rattle.std.proofs.lemmas.Bool.{eq-eqb, ne_eqb, lt-ltb, le-ltb, cases_lt, cases_eq}
use Rattle.std.proofs.lemmas.List.{reverse-append}
use Rattle.dc_model.specs.Cuts.{count_of, cut, reach_of}

module _ {A : Type 0} (of : A → ℕ) where
  pub count_here : (q : ℕ) (x : A) (acts : List A) → of x ≡ q → count_of of q (x ∷ acts) ≡ suc (count_of of q acts)
  count_here q x acts e = rw (eq-eqb (of x) q e) refl

  pub count_other : (q : ℕ) (x : A) (acts : List A) → of x ≢ q → count_of of q (x ∷ acts) ≡ count_of of q acts
  count_other q x acts ne = rw (ne_eqb (of x) q ne) refl

  pub count_all : (q : ℕ) (acts : List A) → count_of of q acts ≤ length acts
  count_all q [] = omega arith
  count_all q (x ∷ acts) = let less = count_all q acts in ⊎_elim
      (λ (e : of x ≡ q). omega (arith, count_here q x acts e, less))
      (λ (ne : of x ≢ q). omega (arith, count_other q x acts ne, less))
      (cases_eq (of x) q)

  pub count_joined : (q : ℕ) (first second : List A) → count_of of q (first ++ second) ≡ count_of of q first + count_of of q second
  count_joined q [] second = omega arith
  count_joined q (x ∷ first) second = let rest = count_joined q first second in ⊎_elim
      (λ (e : of x ≡ q). omega (arith, count_here q x (first ++ second) e, count_here q x first e, rest))
      (λ (ne : of x ≢ q). omega (arith, count_other q x (first ++ second) ne, count_other q x first ne, rest))
      (cases_eq (of x) q)

  pub kept_here : (reach : ℕ → ℕ) (x : A) (acts : List A) → count_of of (of x) acts < reach (of x) → cut of reach (x ∷ acts) ≡ x ∷ cut of reach acts
  kept_here reach x acts low = rw (lt-ltb (count_of of (of x) acts) (reach (of x)) low) refl

  pub left_out : (reach : ℕ → ℕ) (x : A) (acts : List A) → reach (of x) ≤ count_of of (of x) acts → cut of reach (x ∷ acts) ≡ cut of reach acts
  left_out reach x acts high = rw (le-ltb (count_of of (of x) acts) (reach (of x)) high) refl

  -- a cut takes out nothing of acts that are no more of any process than its reach
  pub cut_none : (reach : ℕ → ℕ) (acts : List A) → ((q : ℕ) → count_of of q acts ≤ reach q) → cut of reach acts ≡ acts
  cut_none reach [] few = refl
  cut_none reach (x ∷ acts) few =
      kept_here reach x acts (let here = count_here (of x) x acts refl in let less = few (of x) in omega (arith, here, less)) ∙ ap (λ xs. x ∷ xs) (cut_none reach acts (λ q. fewer q))
    where
      fewer : (q : ℕ) → count_of of q acts ≤ reach q
      fewer q = let less = few q in ⊎_elim
          (λ (e : of x ≡ q). omega (arith, count_here q x acts e, less))
          (λ (ne : of x ≢ q). omega (arith, count_other q x acts ne, less))
          (cases_eq (of x) q)

  pub count_turned : (q : ℕ) (acts : List A) → count_of of q (reverse acts) ≡ count_of of q acts
  count_turned q [] = refl
  count_turned q (x ∷ acts) = let rest = count_turned q acts in
      ap (count_of of q) (reverse-append (x ∷ []) acts) ∙ count_joined q (reverse acts) (x ∷ [])
      ∙ ap (λ n. n + count_of of q (x ∷ [])) rest ∙ added
    where
      added : count_of of q acts + count_of of q (x ∷ []) ≡ count_of of q (x ∷ acts)
      added = ⊎_elim
          (λ (e : of x ≡ q). omega (arith, count_here q x acts e, count_here q x [] e))
          (λ (ne : of x ≢ q). omega (arith, count_other q x acts ne, count_other q x [] ne))
          (cases_eq (of x) q)

  -- of each process so many acts stay as it has, up to its reach
  pub count_cut : (reach : ℕ → ℕ) (q : ℕ) (acts : List A) → count_of of q (cut of reach acts) ≡ min (count_of of q acts) (reach q)
  count_cut reach q [] = omega arith
  count_cut reach q (x ∷ acts) = let rest = count_cut reach q acts in ⊎_elim
      (λ (low : count_of of (of x) acts < reach (of x)). ap (count_of of q) (kept_here reach x acts low) ∙ ⊎_elim
      (λ (e : of x ≡ q). let near = subst (λ r. count_of of r acts < reach r) e low in
      omega (arith, count_here q x acts e, count_here q x (cut of reach acts) e, rest, near))
      (λ (ne : of x ≢ q). omega (arith, count_other q x acts ne, count_other q x (cut of reach acts) ne, rest))
      (cases_eq (of x) q))
      (λ (high : reach (of x) ≤ count_of of (of x) acts). ap (count_of of q) (left_out reach x acts high) ∙ ⊎_elim
      (λ (e : of x ≡ q). let near = subst (λ r. reach r ≤ count_of of r acts) e high in omega (arith, count_here q x acts e, rest, near))
      (λ (ne : of x ≢ q). omega (arith, count_other q x acts ne, rest))
      (cases_eq (of x) q))
      (cases_lt (count_of of (of x) acts) (reach (of x)))

  pub length_cut : (reach : ℕ → ℕ) (acts : List A) → length (cut of reach acts) ≤ length acts
  length_cut reach [] = omega arith
  length_cut reach (x ∷ acts) = let rest = length_cut reach acts in ⊎_elim
      (λ (low : count_of of (of x) acts < reach (of x)). omega (arith, ap length (kept_here reach x acts low), rest))
      (λ (high : reach (of x) ≤ count_of of (of x) acts). omega (arith, ap length (left_out reach x acts high), rest))
      (cases_lt (count_of of (of x) acts) (reach (of x)))

pub reach_here : (p reach count q : ℕ) → q ≡ p → reach_of p reach count q ≡ reach
reach_here p reach count q e = rw (eq-eqb q p e) refl

pub reach_other : (p reach count q : ℕ) → q ≢ p → reach_of p reach count q ≡ count
reach_other p reach count q ne = rw (ne_eqb q p ne) refl
