-- Which item of a list comes first by its number, of those that pass a test.
use Rattle.std.specs.Prelude.{◌≡◌, ◌<◌, ◌≤◌, ℕ, nat_lt, List, [], ◌∷◌, ◌++◌, Bool, true, false, All, Option, None, Some, if◌then◌else◌}

-- the sooner of an item and of one found behind it; of two of one number the item
abbrev pub sooner : {A : Type 0} → (A → ℕ) → A → Option A → A
sooner number item None = item
sooner number item (Some other) = if nat_lt (number other) (number item) then other else item

-- of the items that pass the test the one of the lowest number, and of several of that number the first
abbrev pub first_by : {A : Type 0} → (A → Bool) → (A → ℕ) → List A → Option A
first_by test number [] = None
first_by test number (item ∷ items) = if test item then Some (sooner number item (first_by test number items)) else first_by test number items

-- the sooner of one found and of an item behind it; of two of one number the one found
abbrev pub or_sooner : {A : Type 0} → (A → ℕ) → Option A → A → A
or_sooner number None item = item
or_sooner number (Some found) item = if nat_lt (number item) (number found) then item else found

-- this item passes the test: those before it that do so too have a higher number, and those after it no lower one
pub record IsFirst {A : Type 0} (test : A → Bool) (number : A → ℕ) (items : List A) (first : A) : Type 0 where
  pub before : List A
  pub after : List A
  pub parts : items ≡ before ++ first ∷ after
  pub passes : test first ≡ true
  pub before_later : All (λ item. test item ≡ true → number first < number item) before
  pub after_no_sooner : All (λ item. test item ≡ true → number first ≤ number item) after

-- the first item, or none passes the test
abbrev pub IsFoundFirst : {A : Type 0} → (A → Bool) → (A → ℕ) → List A → Option A → Type 0
IsFoundFirst test number items None = All (λ item. test item ≡ false) items
IsFoundFirst test number items (Some first) = IsFirst test number items first
