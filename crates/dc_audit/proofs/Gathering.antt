-- What happens before a commit, from the clocks of its members; and the first event that a clock knows as unsaved.
use Rattle.std.proofs.Common.{◌≡◌, ◌∙◌, ◌<◌, ◌≤◌, ◌+◌, ◌⊎◌, inl, inr, ⊎_elim, ℕ, Bool, true, false, List, arith, refl, sym, subst, ap, Option, Some, None}
use Rattle.std.proofs.lemmas.Bool.{cases_lt, true≢false, lt-ltb, le-ltb}
use Rattle.dc_audit.specs.declared.clock.Known.{Known}
use Rattle.dc_audit.specs.declared.journal.Line.{Line}
use Rattle.dc_audit.specs.Journals.{marked}
use Rattle.dc_audit.specs.Clocks.{Decided, GatheredBelow, Gathers, IsClock, IsFirstOpen, IsOpen, Reached, Sound, later, lesser, view, view_of}
use Rattle.dc_audit.proofs.Knowing.{clock_same, joined}

-- a clock that reads the same everywhere
pub clock_alike : (journal : List Line) (P : ℕ → Type 0) (a b : ℕ → Known) → ((p : ℕ) → b p ≡ a p) → IsClock journal P a → IsClock journal P b
clock_alike journal P a b same c = record {
  sound = λ p. subst (λ k. Sound journal p k) (sym (same p)) (c.sound p);
  knows = λ p i is h. c.knows p i is (subst (λ (k : Known). i < k.end) (same p) h);
  only = λ p i is h. subst (λ (k : Known). i < k.end) (sym (same p)) (c.only p i is h);
}

pub gathers_none : (clocks : List (List Known)) (members : List Bool) (start : List Known) → Gathers 0 clocks members start start
gathers_none clocks members start causal journal c each = clock_same journal (λ i. (causal ≡ true) × Decided causal journal i) (GatheredBelow 0 causal journal members) (view start)
    (λ i h. inr h) (λ i h. ⊎_elim (λ (r : (q : ℕ) × (q < 0) × (marked members q ≡ true) × Reached causal journal q i). absurd (omega (arith, r.1))) (λ (r : (causal ≡ true) × Decided causal journal i). r) h) c

pub gathers_in : (n : ℕ) (clocks : List (List Known)) (members : List Bool) (start past after : List Known) → marked members n ≡ true
    → ((p : ℕ) → view after p ≡ later (view past p) (view_of clocks n p)) → Gathers n clocks members start past → Gathers (n + 1) clocks members start after
gathers_in n clocks members start past after is same g causal journal c each = clock_alike journal (GatheredBelow (n + 1) causal journal members) (λ p. later (view past p) (view_of clocks n p)) (view after) same
    (clock_same journal (λ i. GatheredBelow n causal journal members i ⊎ Reached causal journal n i) (GatheredBelow (n + 1) causal journal members) (λ p. later (view past p) (view_of clocks n p))
    (λ i h. ⊎_elim (λ (r : GatheredBelow n causal journal members i). wider i r) (λ (r : Reached causal journal n i). inl (n, omega arith, is, r)) h)
    (λ i h. ⊎_elim (λ (r : (q : ℕ) × (q < n + 1) × (marked members q ≡ true) × Reached causal journal q i). ⊎_elim
    (λ (l : r.0 < n). inl (inl (r.0, l, r.2, r.3)))
    (λ (l : n ≤ r.0). let e : r.0 ≡ n = omega (arith, r.1, l) in inr (subst (λ (k : ℕ). Reached causal journal k i) e r.3)) (cases_lt r.0 n))
    (λ (r : (causal ≡ true) × Decided causal journal i). inl (inr r)) h)
    (joined journal (GatheredBelow n causal journal members) (Reached causal journal n) (view past) (view_of clocks n) (g causal journal c each) (each n)))
  where
    wider : (i : ℕ) → GatheredBelow n causal journal members i → GatheredBelow (n + 1) causal journal members i
    wider i h = ⊎_elim (λ (r : (q : ℕ) × (q < n) × (marked members q ≡ true) × Reached causal journal q i). inl (r.0, omega (arith, r.1), r.2, r.3))
        (λ (r : (causal ≡ true) × Decided causal journal i). inr r) h

pub gathers_out : (n : ℕ) (clocks : List (List Known)) (members : List Bool) (start past : List Known) → marked members n ≡ false
    → Gathers n clocks members start past → Gathers (n + 1) clocks members start past
gathers_out n clocks members start past out g causal journal c each = clock_same journal (GatheredBelow n causal journal members) (GatheredBelow (n + 1) causal journal members) (view past)
    (λ i h. ⊎_elim (λ (r : (q : ℕ) × (q < n) × (marked members q ≡ true) × Reached causal journal q i). inl (r.0, omega (arith, r.1), r.2, r.3))
    (λ (r : (causal ≡ true) × Decided causal journal i). inr r) h)
    (λ i h. ⊎_elim (λ (r : (q : ℕ) × (q < n + 1) × (marked members q ≡ true) × Reached causal journal q i). ⊎_elim
    (λ (l : r.0 < n). inl (r.0, l, r.2, r.3))
    (λ (l : n ≤ r.0). let e : r.0 ≡ n = omega (arith, r.1, l) in absurd (true≢false (sym r.2 ∙ ap (λ (k : ℕ). marked members k) e ∙ out))) (cases_lt r.0 n))
    (λ (r : (causal ≡ true) × Decided causal journal i). inr r) h)
    (g causal journal c each)

-- the first unsaved of no process
pub first_none : (clock : ℕ → Known) → IsFirstOpen 0 clock None
first_none clock p h = absurd (omega (arith, h))

-- of one process more, that has one
pub first_in : (n : ℕ) (clock : ℕ → Known) (first : Option ℕ) → IsOpen (clock n) → IsFirstOpen n clock first → IsFirstOpen (n + 1) clock (Some (lesser first (clock n).clear))
first_in n clock None is f = ((n, is, refl), λ p h some. ⊎_elim (λ (l : p < n). absurd (f p l some)) (λ (l : n ≤ p). let e : p ≡ n = omega (arith, h, l) in subst (λ (k : ℕ). (clock n).clear ≤ (clock k).clear) (sym e) (omega arith)) (cases_lt p n))
first_in n clock (Some e) is f = ⊎_elim
    (λ (l : e < (clock n).clear). subst (λ (k : ℕ). IsFirstOpen (n + 1) clock (Some k)) (sym (below e (clock n).clear l))
    (f.0, λ p h some. ⊎_elim (λ (k : p < n). f.1 p k some) (λ (k : n ≤ p). let same : p ≡ n = omega (arith, h, k) in subst (λ (j : ℕ). e ≤ (clock j).clear) (sym same) (omega arith)) (cases_lt p n)))
    (λ (l : (clock n).clear ≤ e). subst (λ (k : ℕ). IsFirstOpen (n + 1) clock (Some k)) (sym (above e (clock n).clear l)) (
      (n, is, refl),
      λ p h some. ⊎_elim (λ (k : p < n). let low : e ≤ (clock p).clear = f.1 p k some in omega arith)
          (λ (k : n ≤ p). let same : p ≡ n = omega (arith, h, k) in subst (λ (j : ℕ). (clock n).clear ≤ (clock j).clear) (sym same) (omega arith)) (cases_lt p n),
    ))
    (cases_lt e (clock n).clear)
  where
    below : (a b : ℕ) → a < b → lesser (Some a) b ≡ a
    below a b h = rw (lt-ltb a b h) refl

    above : (a b : ℕ) → b ≤ a → lesser (Some a) b ≡ b
    above a b h = rw (le-ltb a b h) refl

-- and that has none
pub first_out : (n : ℕ) (clock : ℕ → Known) (first : Option ℕ) → (IsOpen (clock n) → ⊥) → IsFirstOpen n clock first → IsFirstOpen (n + 1) clock first
first_out n clock None out f = λ p h some. ⊎_elim (λ (l : p < n). f p l some) (λ (l : n ≤ p). let e : p ≡ n = omega (arith, h, l) in out (subst (λ (k : ℕ). IsOpen (clock k)) e some)) (cases_lt p n)
first_out n clock (Some e) out f = (f.0, λ p h some. ⊎_elim (λ (l : p < n). f.1 p l some) (λ (l : n ≤ p). let same : p ≡ n = omega (arith, h, l) in absurd (out (subst (λ (k : ℕ). IsOpen (clock k)) same some))) (cases_lt p n))
