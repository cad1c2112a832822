-- Parts put together are split again, and parts of a text put together are the text.
use Rattle.std.proofs.Common.{◌≡◌, ◌∙◌, ◌==◌, ◌&&◌, ◌⊎◌, ◌<◌, inl, inr, ℕ, not, Bool, true, false, List, [], ◌∷◌, ◌++◌, length, ap, sym, refl, arith, ⊎_elim}
use Rattle.std.proofs.Common.{length-append}
use Rattle.std.proofs.lemmas.Bool.{cases_Bool, eq-eqb, eqb-true}
use Rattle.dc_words.specs.Texts.{in_front, lines_of, fields_of, has_no, joined, ended}
use Rattle.dc_words.proofs.Splitting.{fields_some}

-- the first byte of a text that has none of a kind is none of it
free_parts : (a b : Bool) → (not a && b) ≡ true → (a ≡ false) × (b ≡ true)
free_parts true b h = absurd (let e : ⊥ = cc in e)
free_parts false b h = (refl, h)

-- a field in front of others
pub fields_then : (stop : ℕ) (part rest : List ℕ) → has_no stop part ≡ true → fields_of stop (part ++ stop ∷ rest) ≡ part ∷ fields_of stop rest
fields_then stop [] rest free = rw (eq-eqb stop stop refl) refl
fields_then stop (c ∷ part) rest free = let is = free_parts (c == stop) (has_no stop part) free in
    rw is.0 (ap (in_front c) (fields_then stop part rest is.1))

-- a field alone
pub fields_last : (stop : ℕ) (part : List ℕ) → has_no stop part ≡ true → fields_of stop part ≡ part ∷ []
fields_last stop [] free = refl
fields_last stop (c ∷ part) free = let is = free_parts (c == stop) (has_no stop part) free in
    rw is.0 (ap (in_front c) (fields_last stop part is.1))

-- a line in front of others
pub lines_then : (line rest : List ℕ) → has_no 10 line ≡ true → lines_of (line ++ 10 ∷ rest) ≡ line ∷ lines_of rest
lines_then [] rest free = refl
lines_then (c ∷ line) rest free = let is = free_parts (c == 10) (has_no 10 line) free in
    rw is.0 (ap (in_front c) (lines_then line rest is.1))

-- two texts without such a byte
pub none_in_both : (stop : ℕ) (a b : List ℕ) → has_no stop a ≡ true → has_no stop b ≡ true → has_no stop (a ++ b) ≡ true
none_in_both stop [] b free free' = free'
none_in_both stop (c ∷ a) b free free' = let is = free_parts (c == stop) (has_no stop a) free in
    rw (is.0, none_in_both stop a b is.1 free') refl

-- a byte more in front of parts
joined_front : (stop c : ℕ) (parts : List (List ℕ)) → 0 < length parts → joined stop (in_front c parts) ≡ c ∷ joined stop parts
joined_front stop c [] some = absurd (omega arith)
joined_front stop c (part ∷ []) some = refl
joined_front stop c (part ∷ next ∷ parts) some = refl

-- an empty part more in front of parts
joined_empty : (stop : ℕ) (parts : List (List ℕ)) → 0 < length parts → joined stop ([] ∷ parts) ≡ stop ∷ joined stop parts
joined_empty stop [] some = absurd (omega arith)
joined_empty stop (part ∷ parts) some = refl

-- the fields of a text put together
pub fields_joined : (stop : ℕ) (text : List ℕ) → joined stop (fields_of stop text) ≡ text
fields_joined stop [] = refl
fields_joined stop (c ∷ text) = ⊎_elim
    (λ yes. rw yes (joined_empty stop (fields_of stop text) (fields_some stop text) ∙ ap (λ xs. stop ∷ xs) (fields_joined stop text) ∙ ap (λ d. d ∷ text) (sym (eqb-true c stop yes))))
    (λ no. rw no (joined_front stop c (fields_of stop text) (fields_some stop text) ∙ ap (λ xs. c ∷ xs) (fields_joined stop text)))
    (cases_Bool (c == stop))

-- a byte more in front of lines
ended_front : (c : ℕ) (line : List ℕ) (lines : List (List ℕ)) → ended (in_front c (line ∷ lines)) ≡ c ∷ ended (line ∷ lines)
ended_front c line lines = refl

one_more : (c : ℕ) (text : List ℕ) (lines : List (List ℕ)) → (text ≡ ended lines) ⊎ (text ++ 10 ∷ [] ≡ ended lines)
    → (c ∷ text ≡ ended (in_front c lines)) ⊎ (c ∷ text ++ 10 ∷ [] ≡ ended (in_front c lines))
one_more c text [] (inl e) = inr (ap (λ xs. c ∷ xs ++ 10 ∷ []) e)
one_more c text [] (inr e) = absurd (let h : length (text ++ 10 ∷ []) ≡ 0 = ap length e in omega (arith, h, length-append text (10 ∷ [])))
one_more c text (line ∷ lines) (inl e) = inl (ap (λ xs. c ∷ xs) e)
one_more c text (line ∷ lines) (inr e) = inr (ap (λ xs. c ∷ xs) e)

-- the lines of a text put together: the last line feed may be missing
pub lines_ended : (text : List ℕ) → (text ≡ ended (lines_of text)) ⊎ (text ++ 10 ∷ [] ≡ ended (lines_of text))
lines_ended [] = inl refl
lines_ended (c ∷ text) = ⊎_elim
    (λ yes. rw yes (empty_more (lines_ended text) (eqb-true c 10 yes)))
    (λ no. rw no (one_more c text (lines_of text) (lines_ended text)))
    (cases_Bool (c == 10))
  where
    empty_more : (text ≡ ended (lines_of text)) ⊎ (text ++ 10 ∷ [] ≡ ended (lines_of text)) → c ≡ 10
        → (c ∷ text ≡ ended ([] ∷ lines_of text)) ⊎ (c ∷ text ++ 10 ∷ [] ≡ ended ([] ∷ lines_of text))
    empty_more (inl e) is = inl (ap (λ d. d ∷ text) is ∙ ap (λ xs. 10 ∷ xs) e)
    empty_more (inr e) is = inr (ap (λ d. d ∷ text ++ 10 ∷ []) is ∙ ap (λ xs. 10 ∷ xs) e)
