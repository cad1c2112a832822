-- The first item that is found is the first, and how it changes as the list grows.
use Rattle.std.proofs.Common.{◌≡◌, ◌≤◌, ◌<◌, ℕ, List, [], ◌∷◌, ◌++◌, All, Bool, true, false, Option, None, Some, refl, ap, ◌∙◌, if◌then◌else◌, nat_lt, arith}
use Rattle.std.proofs.lemmas.Bool.Decides.{nat_tests}
use Rattle.std.proofs.lemmas.List.Elements.{All-nil, All-cons, All-append}
use Rattle.dc_media.specs.Firsts.{IsFirst, IsFoundFirst, first_by, or_sooner, sooner}

lt_of : (a b : ℕ) → nat_lt a b ≡ true → a < b
lt_of a b e = grind (arith, nat_tests)

le_of : (a b : ℕ) → nat_lt a b ≡ false → b ≤ a
le_of a b e = grind (arith, nat_tests)

module _ {A : Type 0} (test : A → Bool) (number : A → ℕ) where
  -- of three in a row, whichever are compared first
  or_sooner-sooner : (one : A) (found : Option A) (item : A) → sooner number one (Some (or_sooner number found item)) ≡ or_sooner number (Some (sooner number one found)) item
  or_sooner-sooner one None item = refl
  or_sooner-sooner one (Some other) item = grind (arith, nat_tests)

  push_step : (passes : Bool) (one item : A) (found next : Option A) → next ≡ Some (or_sooner number found item)
      → (if passes then Some (sooner number one next) else next) ≡ Some (or_sooner number (if passes then Some (sooner number one found) else found) item)
  push_step true one item found next e = ap (λ x. Some (sooner number one x)) e ∙ ap Some (or_sooner-sooner one found item)
  push_step false one item found next e = e

  -- an item put at the end, which passes the test
  pub first_by-push : (items : List A) (item : A) → test item ≡ true → first_by test number (items ++ item ∷ []) ≡ Some (or_sooner number (first_by test number items) item)
  first_by-push [] item passes = rw passes refl
  first_by-push (one ∷ items) item passes = push_step (test one) one item (first_by test number items) _ (first_by-push items item passes)

  -- one that does not
  pub first_by-push_other : (items : List A) (item : A) → test item ≡ false → first_by test number (items ++ item ∷ []) ≡ first_by test number items
  first_by-push_other [] item other = rw other refl
  first_by-push_other (one ∷ items) item other = rw (first_by-push_other items item other) refl

module _ {A : Type 0} (test : A → Bool) (number : A → ℕ) (item : A) (items : List A) where
  -- a first item stays so below an item that is not sooner
  IsFirst-below : (first : A) → (test item ≡ true → number first < number item) → IsFirst test number items first → IsFirst test number (item ∷ items) first
  IsFirst-below first later is = record {
    before = item ∷ is.before;
    after = is.after;
    parts = ap (λ rest. item ∷ rest) is.parts;
    passes = is.passes;
    before_later = All-cons (λ x. test x ≡ true → number first < number x) item is.before later is.before_later;
    after_no_sooner = is.after_no_sooner;
  }

  -- an item is first above items that are no sooner
  IsFirst-above : test item ≡ true → All (λ x. test x ≡ true → number item ≤ number x) items → IsFirst test number (item ∷ items) item
  IsFirst-above passes no_sooner = record {
    before = [];
    after = items;
    parts = refl;
    passes = passes;
    before_later = All-nil (λ x. test x ≡ true → number item < number x);
    after_no_sooner = no_sooner;
  }

  -- no item is sooner than the first
  none_sooner : (first : A) → number item ≤ number first → IsFirst test number items first → All (λ x. test x ≡ true → number item ≤ number x) items
  none_sooner first le is = rw is.parts
      (All-append (λ x. test x ≡ true → number item ≤ number x) is.before (first ∷ is.after)
      (λ k d within own. omega (arith, is.before_later k d within own))
      (All-cons (λ x. test x ≡ true → number item ≤ number x) first is.after (λ own. le)
      (λ k d within own. omega (arith, is.after_no_sooner k d within own))))

  by_number : (first : A) (is_sooner : Bool) → nat_lt (number first) (number item) ≡ is_sooner → test item ≡ true → IsFirst test number items first
      → IsFirst test number (item ∷ items) (if is_sooner then first else item)
  by_number first true e passes is = IsFirst-below first (λ yes. lt_of (number first) (number item) e) is
  by_number first false e passes is = IsFirst-above passes (none_sooner first (le_of (number first) (number item) e) is)

  by_test : (passes : Bool) → test item ≡ passes → (found : Option A) → IsFoundFirst test number items found
      → IsFoundFirst test number (item ∷ items) (if passes then Some (sooner number item found) else found)
  by_test false e None none = All-cons (λ x. test x ≡ false) item items e none
  by_test false e (Some first) is = IsFirst-below first (λ yes. absurd (cc)) is
  by_test true e None none = IsFirst-above e (λ k d within yes. absurd (cc (none k d within)))
  by_test true e (Some first) is = by_number first (nat_lt (number first) (number item)) refl e is

pub first_by-IsFoundFirst : {A : Type 0} (test : A → Bool) (number : A → ℕ) (items : List A) → IsFoundFirst test number items (first_by test number items)
first_by-IsFoundFirst test number [] = All-nil (λ item. test item ≡ false)
first_by-IsFoundFirst test number (item ∷ items) = by_test test number item items (test item) refl (first_by test number items) (first_by-IsFoundFirst test number items)
