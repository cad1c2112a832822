-- Cells that each hold a word.
use Rattle.std.proofs.Common.{◌≡◌, ℕ, zero, suc, ◌+◌, ◌<◌, List, [], ◌∷◌, ◌++◌, Option, Some, None, map, length, get_or, set, drop, replicate, refl, sym, ap, ◌∙◌, arith, add-one}
use Rattle.std.proofs.lemmas.List.{length-map}
use Rattle.dc_region.specs.Cells.{held}

pub held-map : (words : List ℕ) → held (map Some words) ≡ words
held-map [] = refl
held-map (word ∷ words) = ap (λ l. word ∷ l) (held-map words)

set-map : (words : List ℕ) (i word : ℕ) → set (map Some words) i (Some word) ≡ map Some (set words i word)
set-map [] i word = refl
set-map (x ∷ words) zero word = refl
set-map (x ∷ words) (suc i) word = ap (λ l. Some x ∷ l) (set-map words i word)

get_or-map : (words : List ℕ) (i : ℕ) → i < length words → get_or (map Some words) i None ≡ Some (get_or words i 0)
get_or-map [] i lt = absurd (omega arith)
get_or-map (x ∷ words) zero lt = refl
get_or-map (x ∷ words) (suc i) lt = get_or-map words i (omega arith)

module _ (cells : List (Option ℕ)) (filled : cells ≡ map Some (held cells)) where
  pub length-held : length (held cells) ≡ length cells
  length-held = sym (ap length filled ∙ length-map (held cells) Some)

  pub held-set : (i word : ℕ) → held (set cells i (Some word)) ≡ set (held cells) i word
  held-set i word = ap (λ l. held (set l i (Some word))) filled ∙ ap held (set-map (held cells) i word) ∙ held-map (set (held cells) i word)

  pub filled-set : (i word : ℕ) → set cells i (Some word) ≡ map Some (held (set cells i (Some word)))
  filled-set i word = ap (λ l. set l i (Some word)) filled ∙ set-map (held cells) i word ∙ sym (ap (map Some) (held-set i word))

  pub get_or-held : (i : ℕ) → i < length (held cells) → get_or cells i None ≡ Some (get_or (held cells) i 0)
  get_or-held i lt = ap (λ l. get_or l i None) filled ∙ get_or-map (held cells) i lt

map_replicate : (n word : ℕ) → replicate n (Some word) ≡ map Some (replicate n word)
map_replicate zero word = refl
map_replicate (suc n) word = ap (λ l. Some word ∷ l) (map_replicate n word)

pub held_replicate : (n word : ℕ) → held (replicate n (Some word)) ≡ replicate n word
held_replicate n word = ap held (map_replicate n word) ∙ held-map (replicate n word)

pub filled_replicate : (n word : ℕ) → replicate n (Some word) ≡ map Some (held (replicate n (Some word)))
filled_replicate n word = map_replicate n word ∙ sym (ap (map Some) (held_replicate n word))

one_more : (i word : ℕ) (cells : List (Option ℕ)) → i < length cells → set (replicate i (Some word) ++ drop i cells) i (Some word) ≡ replicate (suc i) (Some word) ++ drop (suc i) cells
one_more zero word [] lt = absurd (omega arith)
one_more zero word (cell ∷ cells) lt = refl
one_more (suc i) word [] lt = absurd (omega arith)
one_more (suc i) word (cell ∷ cells) lt = ap (λ l. Some word ∷ l) (one_more i word cells (omega arith))

-- the first i cells hold the word, and one more does when the next is set
pub one_more_filled : (i word : ℕ) (cells old : List (Option ℕ)) → i < length old → cells ≡ replicate i (Some word) ++ drop i old → set cells i (Some word) ≡ replicate (i + 1) (Some word) ++ drop (i + 1) old
one_more_filled i word cells old lt is = rw (add-one i) (ap (λ l. set l i (Some word)) is ∙ one_more i word old lt)
