-- Stores to the words of a memory, in order: those that bytes take, and what they do to what the memory stands on.
use Rattle.std.specs.Prelude.{◌≡◌, ◌⊎◌, ◌+◌, ◌-◌, ◌/◌, ℕ, zero, suc, List, [], ◌∷◌}
use Rattle.std.specs.List.{range_with_len}

-- how many words so many bytes from an address on touch
abbrev pub word_count : ℕ → ℕ → ℕ
word_count at zero = 0
word_count at (suc more) = (at + more) / 4 + 1 - at / 4

-- the words that they touch, ascending
abbrev pub touched : ℕ → ℕ → List ℕ
touched at count = range_with_len (at / 4) (word_count at count)

-- a store to each of these words was made, one after the other
abbrev pub Follow : {B : Type 0} → (B → ℕ → B → Type 0) → List ℕ → B → B → Type 0
Follow made [] old new = new ≡ old
Follow {B} made (i ∷ words) old new = (between : B) × made old i between × Follow made words between new

-- a store to one of these words was refused, and those before it were made
abbrev pub BreakOff : {B F : Type 0} → (B → ℕ → B → Type 0) → (B → ℕ → B → F → Type 0) → List ℕ → B → B → F → Type 0
BreakOff made refused [] old new why = ⊥
BreakOff {B} made refused (i ∷ words) old new why = refused old i new why ⊎ ((between : B) × made old i between × BreakOff made refused words between new why)

-- no store was made, or one
abbrev pub OnceAtMost : {B : Type 0} → (B → ℕ → B → Type 0) → B → B → Type 0
OnceAtMost made old new = (new ≡ old) ⊎ ((i : ℕ) × made old i new)
