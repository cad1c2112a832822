-- The stores that bytes take, piece by piece.
use Rattle.std.proofs.Common.{inl, inr, min, ⊎_elim, ◌≡◌, ◌⊎◌, ◌∙◌, ◌+◌, ◌-◌, ◌/◌, ◌%◌, ◌<◌, ◌≤◌, ◌∷◌, ℕ, zero, suc, ap, arith, refl, sym, subst}
use Rattle.std.proofs.lemmas.Bool.{cases_lt}
use Rattle.std.specs.List.{range_with_len}
use Rattle.dc_rv32.specs.Stores.{BreakOff, Follow, touched, word_count}

-- one word more than those that the rest touches
counted : (at k r n : ℕ) → k + r ≡ n → 0 < k → at % 4 + k ≤ 4 → (r ≡ 0) ⊎ (at % 4 + k ≡ 4) → word_count at n ≡ suc (word_count (at + k) r)
counted at k r zero all some fits whole = absurd (omega (arith, some, all))
counted at k zero (suc m) all some fits whole = omega (arith, fits, all, some)
counted at k (suc r) (suc m) all some fits (inl none) = absurd (omega (arith, none))
counted at k (suc r) (suc m) all some fits (inr whole) = omega (arith, whole, all)

-- the first piece lies in the first word, and the rest takes the words after it
pub touched_next : (at k r n : ℕ) → k + r ≡ n → 0 < k → at % 4 + k ≤ 4 → (r ≡ 0) ⊎ (at % 4 + k ≡ 4) → touched at n ≡ at / 4 ∷ touched (at + k) r
touched_next at k r n all some fits whole = ap (range_with_len (at / 4)) (counted at k r n all some fits whole) ∙ ap (λ words. at / 4 ∷ words) (behind r whole)
  where
    behind : (r : ℕ) → (r ≡ 0) ⊎ (at % 4 + k ≡ 4) → range_with_len (at / 4 + 1) (word_count (at + k) r) ≡ touched (at + k) r
    behind zero e = refl
    behind (suc r) (inl none) = absurd (omega (arith, none))
    behind (suc r) (inr whole) = ap (λ i. range_with_len i (word_count (at + k) (suc r))) (omega (arith, whole))

-- stores that follow one more, and one that is refused behind it
module _ {B F : Type 0} (made : B → ℕ → B → Type 0) (refused : B → ℕ → B → F → Type 0) (at k r n : ℕ) (all : k + r ≡ n) (some : 0 < k) (fits : at % 4 + k ≤ 4) (whole : (r ≡ 0) ⊎ (at % 4 + k ≡ 4)) where
  pub follow_more : (old between new : B) → made old (at / 4) between → Follow made (touched (at + k) r) between new → Follow made (touched at n) old new
  follow_more old between new first behind = subst (λ words. Follow made words old new) (sym (touched_next at k r n all some fits whole)) (between, first, behind)

  pub break_more : (old between new : B) (why : F) → made old (at / 4) between → BreakOff made refused (touched (at + k) r) between new why
      → BreakOff made refused (touched at n) old new why
  break_more old between new why first behind = subst (λ words. BreakOff made refused words old new why) (sym (touched_next at k r n all some fits whole)) (inr (between, first, behind))

  pub break_here : (old new : B) (why : F) → refused old (at / 4) new why → BreakOff made refused (touched at n) old new why
  break_here old new why stopped = subst (λ words. BreakOff made refused words old new why) (sym (touched_next at k r n all some fits whole)) (inl stopped)

-- a piece is all that is left, or ends with its word
pub piece_whole : (n at k r : ℕ) → k ≡ min n (4 - at % 4) → k + r ≡ n → (r ≡ 0) ⊎ (at % 4 + k ≡ 4)
piece_whole n at k r is all = ⊎_elim
    (λ (less : n < 4 - at % 4). inl (omega (arith, less, is, all)))
    (λ (more : 4 - at % 4 ≤ n). inr (omega (arith, more, is)))
    (cases_lt n (4 - at % 4))
