-- The cells of a block, each empty or holding a word.
use Rattle.std.specs.Prelude.{◌≡◌, ℕ, List, [], ◌∷◌, map, length, get_or, Option, Some, None}

-- the words that are there
abbrev pub held : List (Option ℕ) → List ℕ
held [] = []
held (None ∷ cells) = held cells
held (Some word ∷ cells) = word ∷ held cells

-- the cell at the index holds a word
abbrev pub IsFilled : List (Option ℕ) → ℕ → Type 0
IsFilled cells i = (word : ℕ) × (get_or cells i None ≡ Some word)

-- there are so many cells, and each holds a word
abbrev pub AreFilled : List (Option ℕ) → ℕ → Type 0
AreFilled cells n = (words : List ℕ) × (cells ≡ map Some words) × (length words ≡ n)
