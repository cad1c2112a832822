-- A store of words is a list of words.
use Rattle.std.specs.Prelude.{◌≡◌, ◌⊎◌, ◌≤◌, ◌+◌, ℕ, zero, suc, List, Option, Result, MatchResult, length, slice_index, slice_set}
use Rattle.dc_media.specs.Told.{Becomes}

-- at Ok the word is set; refused, it is old or new
abbrev pub SetsWord : {T E : Type 0} → ℕ → ℕ → Result T E → Option (List ℕ) → Option (List ℕ) → Type 0
SetsWord i w result old new = MatchResult result
    (λ _. Becomes old new (λ before after. after ≡ slice_set before i w))
    (λ _. Becomes old new (λ before after. (after ≡ before) ⊎ (after ≡ slice_set before i w)))

-- the first k of some words, set in order from an index on
abbrev pub set_words : ℕ → ℕ → List ℕ → List ℕ → List ℕ
set_words zero i ws words = words
set_words (suc k) i ws words = slice_set (set_words k i ws words) (i + k) (slice_index ws k)

-- at Ok all of them are set; refused, the first k
abbrev pub SetsWords : {T E : Type 0} → ℕ → List ℕ → Result T E → Option (List ℕ) → Option (List ℕ) → Type 0
SetsWords i ws result old new = MatchResult result
    (λ _. Becomes old new (λ before after. after ≡ set_words (length ws) i ws before))
    (λ _. Becomes old new (λ before after. (k : ℕ) × (k ≤ length ws) × (after ≡ set_words k i ws before)))

-- the first k words from one index, copied in order to another
abbrev pub copied : ℕ → ℕ → ℕ → List ℕ → List ℕ
copied zero from to words = words
copied (suc k) from to words = slice_set (copied k from to words) (to + k) (slice_index words (from + k))

-- two lines of 16 words are the same, or have no word in common
abbrev pub AreSameOrApart : ℕ → ℕ → Type 0
AreSameOrApart from to = (from ≡ to) ⊎ (from + 16 ≤ to) ⊎ (to + 16 ≤ from)

-- at Ok the 16 words of a line are copied; refused, the first k of them
abbrev pub CopiesLine : {T E : Type 0} → ℕ → ℕ → Result T E → Option (List ℕ) → Option (List ℕ) → Type 0
CopiesLine from to result old new = MatchResult result
    (λ _. Becomes old new (λ before after. after ≡ copied 16 from to before))
    (λ _. Becomes old new (λ before after. (k : ℕ) × (k ≤ 16) × (after ≡ copied k from to before)))
