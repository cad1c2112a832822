-- Words as four bytes, the lowest first.
use Rattle.std.specs.Prelude.{ℕ, ◌+◌, ◌-◌, ◌*◌, ◌/◌, ◌%◌, ◌^◌, ◌<◌, List, [], ◌∷◌, bit_and, bit_or, slice_index}
use Rattle.std.specs.List.{AllByRecursion, flat_map}

-- the word of four bytes
abbrev pub word_of_bytes : ℕ → ℕ → ℕ → ℕ → ℕ
word_of_bytes a b c d = a + 2 ^ 8 * b + 2 ^ 16 * c + 2 ^ 24 * d

-- the number of the two bytes from an offset on
abbrev pub half_at : List ℕ → ℕ → ℕ
half_at bytes at = slice_index bytes at + 2 ^ 8 * slice_index bytes (at + 1)

-- the number of the four bytes from an offset on
abbrev pub word_at : List ℕ → ℕ → ℕ
word_at bytes at = word_of_bytes (slice_index bytes at) (slice_index bytes (at + 1)) (slice_index bytes (at + 2)) (slice_index bytes (at + 3))

-- the words of bytes, four at a time
abbrev pub words_in : List ℕ → List ℕ
words_in (a ∷ b ∷ c ∷ d ∷ bytes) = word_of_bytes a b c d ∷ words_in bytes
words_in _ = []

-- the four bytes of a word
abbrev pub word_bytes : ℕ → List ℕ
word_bytes w = w % 256 ∷ w / 2 ^ 8 % 256 ∷ w / 2 ^ 16 % 256 ∷ w / 2 ^ 24 % 256 ∷ []

-- the bytes of words
abbrev pub bytes_in : List ℕ → List ℕ
bytes_in words = flat_map word_bytes words

-- each is below this
abbrev pub AllBelow : ℕ → List ℕ → Type 0
AllBelow bound xs = AllByRecursion (λ x. x < bound) xs

-- a word whose bits of the mask are another's
abbrev pub masked : ℕ → ℕ → ℕ → ℕ
masked old new mask = bit_or (bit_and old (2 ^ 32 - 1 - mask)) (bit_and new mask)
