-- The members of a commit as they are written, one after the other.
use Rattle.std.proofs.Common.{◌≡◌, ◌∙◌, ◌+◌, ◌<◌, ◌||◌, ℕ, Bool, true, false, List, [], ◌∷◌, ◌++◌, length, map, drop, decimal, ap, sym, refl, if◌then◌else◌, slice_index_or, add-one, append_assoc, append-nil}
use Rattle.std.proofs.lemmas.List.{at_drop_more}
use Rattle.dc_words.specs.Texts.{joined}
use Rattle.dc_journal.specs.Pieces.{next_text}
use Rattle.dc_journal.specs.Texts.{members_from}

-- numbers that are left of a list, where some were written or none
abbrev pub left_text : Bool → List ℕ → List ℕ
left_text later [] = []
left_text later (p ∷ ps) = next_text later p ++ left_text true ps

joined_first : (p : ℕ) (ps : List ℕ) → joined 44 (decimal p ∷ map decimal ps) ≡ decimal p ++ left_text true ps
joined_first p [] = sym (append-nil (decimal p))
joined_first p (q ∷ ps) = ap (λ w. decimal p ++ 44 ∷ w) (joined_first q ps)

pub joined_left : (ps : List ℕ) → joined 44 (map decimal ps) ≡ left_text false ps
joined_left [] = refl
joined_left (p ∷ ps) = joined_first p ps

-- one number more
abbrev piece : Bool → Bool → ℕ → List ℕ
piece later mark p = if mark then next_text later p else []

next_member : (later mark : Bool) (p : ℕ) (marks : List Bool) → left_text later (members_from p (mark ∷ marks)) ≡ piece later mark p ++ left_text (later || mark) (members_from (p + 1) marks)
next_member true true p marks = ap (λ k. next_text true p ++ left_text true (members_from k marks)) (sym (add-one p))
next_member false true p marks = ap (λ k. next_text false p ++ left_text true (members_from k marks)) (sym (add-one p))
next_member true false p marks = ap (λ k. left_text true (members_from k marks)) (sym (add-one p))
next_member false false p marks = ap (λ k. left_text false (members_from k marks)) (sym (add-one p))

pub member_more : (whole old new : List ℕ) (later more mark : Bool) (p : ℕ) (marks : List Bool) → p < length marks → mark ≡ slice_index_or marks p false → more ≡ (later || mark)
    → new ≡ old ++ piece later mark p → whole ≡ old ++ left_text later (members_from p (drop p marks)) → whole ≡ new ++ left_text more (members_from (p + 1) (drop (p + 1) marks))
member_more whole old new later more mark p marks within is more_is new_is before = before
    ∙ ap (λ w. old ++ w) (at_drop_more (λ xs. left_text later (members_from p xs)) marks p false within
    ∙ ap (λ b. left_text later (members_from p (b ∷ drop (p + 1) marks))) (sym is) ∙ next_member later mark p (drop (p + 1) marks))
    ∙ sym (append_assoc old (piece later mark p) _) ∙ ap (λ w. w ++ left_text (later || mark) (members_from (p + 1) (drop (p + 1) marks))) (sym new_is)
    ∙ ap (λ b. new ++ left_text b (members_from (p + 1) (drop (p + 1) marks))) (sym more_is)
