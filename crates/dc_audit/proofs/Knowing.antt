-- Clocks: joined, kept over a line, and of other tests.
use Rattle.std.proofs.Common.{◌≡◌, ◌<◌, ◌≤◌, ◌⊎◌, inl, inr, ⊎_elim, ℕ, List, [], ◌∷◌, ◌++◌, length, arith, refl, sym, subst}
use Rattle.std.proofs.lemmas.Bool.{cases_lt, lt-ltb, le-ltb}
use Rattle.dc_audit.specs.declared.clock.Known.{Known}
use Rattle.dc_audit.specs.declared.journal.Line.{Line}
use Rattle.dc_audit.specs.Journals.{Is, is_chance, is_commit}
use Rattle.dc_audit.specs.Clocks.{IsClock, Sound, later, nothing}
use Rattle.dc_audit.proofs.Orders.{is_less, is_more, longer, of_less}

-- of two that are known, the one that knows more
pub later_first : (a b : Known) → b.end ≤ a.end → later a b ≡ a
later_first a b h = rw (le-ltb a.end b.end h) refl

pub later_second : (a b : Known) → a.end < b.end → later a b ≡ b
later_second a b h = rw (lt-ltb a.end b.end h) refl

pub later_cases : (P : Known → Type 0) (a b : Known) → P a → P b → P (later a b)
later_cases P a b pa pb = ⊎_elim
    (λ (h : a.end < b.end). subst P (sym (later_second a b h)) pb)
    (λ (h : b.end ≤ a.end). subst P (sym (later_first a b h)) pa) (cases_lt a.end b.end)

pub later_more : (a b : Known) (i : ℕ) → (i < a.end) ⊎ (i < b.end) → i < (later a b).end
later_more a b i h = ⊎_elim
    (λ (l : a.end < b.end). subst (λ (k : Known). i < k.end) (sym (later_second a b l)) (⊎_elim (λ (x : i < a.end). omega arith) (λ (x : i < b.end). x) h))
    (λ (l : b.end ≤ a.end). subst (λ (k : Known). i < k.end) (sym (later_first a b l)) (⊎_elim (λ (x : i < a.end). x) (λ (x : i < b.end). omega arith) h)) (cases_lt a.end b.end)

pub later_less : (a b : Known) (i : ℕ) → i < (later a b).end → (i < a.end) ⊎ (i < b.end)
later_less a b i h = ⊎_elim
    (λ (l : a.end < b.end). let k : i < b.end = subst (λ (k : Known). i < k.end) (later_second a b l) h in inr k)
    (λ (l : b.end ≤ a.end). let k : i < a.end = subst (λ (k : Known). i < k.end) (later_first a b l) h in inl k) (cases_lt a.end b.end)

-- two clocks joined know what either knew
pub joined : (journal : List Line) (P Q : ℕ → Type 0) (a b : ℕ → Known) → IsClock journal P a → IsClock journal Q b → IsClock journal (λ i. P i ⊎ Q i) (λ p. later (a p) (b p))
joined journal P Q a b one two = record {
  sound = λ p. later_cases (λ k. Sound journal p k) (a p) (b p) (one.sound p) (two.sound p);
  knows = λ p i is h. ⊎_elim (λ (l : i < (a p).end). inl (one.knows p i is l)) (λ (l : i < (b p).end). inr (two.knows p i is l)) (later_less (a p) (b p) i h);
  only = λ p i is h. later_more (a p) (b p) i (⊎_elim (λ (k : P i). inl (one.only p i is k)) (λ (k : Q i). inr (two.only p i is k)) h);
}

-- a clock of one test is one of another that is as much
pub clock_same : (journal : List Line) (P Q : ℕ → Type 0) (a : ℕ → Known) → ((i : ℕ) → P i → Q i) → ((i : ℕ) → Q i → P i) → IsClock journal P a → IsClock journal Q a
clock_same journal P Q a there back c = record {
  sound = c.sound;
  knows = λ p i is h. there i (c.knows p i is h);
  only = λ p i is h. c.only p i is (back i h);
}

-- nothing is known where nothing passes
pub knows_nothing : (journal : List Line) (P : ℕ → Type 0) → ((i : ℕ) → P i → ⊥) → IsClock journal P (λ p. nothing)
knows_nothing journal P none = record {
  sound = λ p. record {
    within = omega arith;
    order = omega arith;
    saved = λ e is h. absurd (omega (arith, h));
    chance = λ h. absurd (omega (arith, h));
    unsaved = λ h. absurd (omega (arith, h));
  };
  knows = λ p i is h. absurd (omega (arith, h));
  only = λ p i is h. absurd (none i h);
}

-- what is known of p stays sound
pub sound_more : (journal : List Line) (y : Line) (p : ℕ) (known : Known) → Sound journal p known → Sound (journal ++ y ∷ []) p known
sound_more journal y p known s = record {
  within = omega (arith, s.within, longer journal y);
  order = s.order;
  saved = λ e is h. let found : (c : ℕ) × (e < c) × (c < known.end) × Is is_commit journal p c = s.saved e (is_less is_chance journal y p e (omega (arith, s.within, s.order, h)) is) h in
      (found.0, found.1, found.2, is_more is_commit journal y p found.0 found.3);
  chance = λ h. is_more is_chance journal y p known.clear (s.chance h);
  unsaved = λ h c is l k. s.unsaved h c (is_less is_commit journal y p c (omega (arith, s.within, k)) is) l k;
}

-- a clock stays one where the new line does not pass
pub clock_more : (journal : List Line) (y : Line) (P Q : ℕ → Type 0) (a : ℕ → Known) → ((i : ℕ) → Q i → i < length journal) → ((i : ℕ) → P i → Q i) → ((i : ℕ) → Q i → P i) → IsClock journal P a → IsClock (journal ++ y ∷ []) Q a
clock_more journal y P Q a old there back c = record {
  sound = λ p. sound_more journal y p (a p) (c.sound p);
  knows = λ p i is h. there i (c.knows p i (of_less journal y p i (omega (arith, h, (c.sound p).within)) is) h);
  only = λ p i is h. c.only p i (of_less journal y p i (old i h) is) (back i h);
}
