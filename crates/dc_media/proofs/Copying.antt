-- A line copied word by word.
use Rattle.std.proofs.Common.{◌≡◌, ◌≢◌, ◌⊎◌, ℕ, zero, suc, ◌+◌, ◌<◌, ◌≤◌, List, length, get_or, set, refl, ◌∙◌, ap, arith, inl, inr, ⊎_elim, length-set, get_or-set_other, add-one}
use Rattle.std.proofs.lemmas.List.{set-get_or}
use Rattle.dc_media.specs.Stores.{copied}

-- a copy keeps the length
pub length-copied : (k f t : ℕ) (xs : List ℕ) → length (copied k f t xs) ≡ length xs
length-copied zero f t xs = refl
length-copied (suc k) f t xs = length-set (copied k f t xs) (t + k) (get_or xs (f + k) 0) ∙ length-copied k f t xs

-- and what lies elsewhere
pub copied-elsewhere : (k f t m : ℕ) (xs : List ℕ) → (m < t) ⊎ (t + k ≤ m) → get_or (copied k f t xs) m 0 ≡ get_or xs m 0
copied-elsewhere zero f t m xs out = refl
copied-elsewhere (suc k) f t m xs out =
    let ne : m ≢ t + k = omega arith in
    let less : (m < t) ⊎ (t + k ≤ m) = ⊎_elim (λ low. inl low) (λ high. inr (omega arith)) out in
    get_or-set_other (copied k f t xs) (t + k) m (get_or xs (f + k) 0) 0 ne ∙ copied-elsewhere k f t m xs less

-- a copy onto itself changes nothing
pub copied-itself : (k f : ℕ) (xs : List ℕ) → copied k f f xs ≡ xs
copied-itself zero f xs = refl
copied-itself (suc k) f xs = rw (copied-itself k f xs) (set-get_or xs (f + k) 0)

-- the words that are still to be copied
pub source : (k n f t : ℕ) (xs : List ℕ) → k < n → (f ≡ t) ⊎ (f + n ≤ t) ⊎ (t + n ≤ f) → get_or (copied k f t xs) (f + k) 0 ≡ get_or xs (f + k) 0
source k n f t xs low apart =
    ⊎_elim (λ same. rw (← same) (ap (λ (l : List ℕ). get_or l (f + k) 0) (copied-itself k f xs)))
    (λ other. ⊎_elim (λ before. copied-elsewhere k f t (f + k) xs (inl (omega arith))) (λ behind. copied-elsewhere k f t (f + k) xs (inr (omega arith))) other) apart

-- one word more
pub one_more : (k n f t w : ℕ) (xs ys : List ℕ) → k < n → (f ≡ t) ⊎ (f + n ≤ t) ⊎ (t + n ≤ f) → ys ≡ copied k f t xs → w ≡ get_or ys (f + k) 0 → set ys (t + k) w ≡ copied (k + 1) f t xs
one_more k n f t w xs ys low apart is read =
    let word : w ≡ get_or xs (f + k) 0 = read ∙ ap (λ (l : List ℕ). get_or l (f + k) 0) is ∙ source k n f t xs low apart in
    rw (add-one k, is, word) refl
