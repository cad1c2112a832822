-- A text split at its first line feed, and at its first byte of a kind.
use Rattle.std.proofs.Common.{◌≡◌, ◌∙◌, ◌+◌, ◌-◌, ◌==◌, ◌<◌, ◌≤◌, ℕ, suc, true, false, List, [], ◌∷◌, length, take, drop, None, Some, ap, sym, refl, arith, nat_lt, ⊎_elim, cond, length-drop, add-one}
use Rattle.std.specs.List.{position, position_or_len}
use Rattle.std.proofs.lemmas.Bool.{cases_Bool, lt-ltb, le-ltb, cases_lt}
use Rattle.std.proofs.lemmas.List.{take_all}
use Rattle.dc_words.specs.Texts.{in_front, lines_of, fields_of}

-- how far it is to the next such byte
abbrev pub far : ℕ → List ℕ → ℕ
far stop text = position_or_len (λ c. c == stop) text

placed : (n k i : ℕ) → cond (nat_lt k n) (Some k) None ≡ Some i → (i ≡ k) × (k < n)
placed n k i e = ⊎_elim
    (λ (h : k < n). let f : Some k ≡ Some i = sym (rw (lt-ltb k n h) refl) ∙ e in (cc, h))
    (λ (h : n ≤ k). let f : None ≡ Some i = sym (rw (le-ltb k n h) refl) ∙ e in absurd (let never : ⊥ = cc in never))
    (cases_lt k n)

unplaced : (n k : ℕ) → cond (nat_lt k n) (Some k) None ≡ None → n ≤ k
unplaced n k e = ⊎_elim
    (λ (h : k < n). let f : Some k ≡ None = sym (rw (lt-ltb k n h) refl) ∙ e in absurd (let never : ⊥ = cc in never))
    (λ (h : n ≤ k). h)
    (cases_lt k n)

far_on : (stop c : ℕ) (text : List ℕ) → (c == stop) ≡ false → far stop (c ∷ text) ≡ suc (far stop text)
far_on stop c text e = rw e (omega arith)

far_here : (stop c : ℕ) (text : List ℕ) → (c == stop) ≡ true → far stop (c ∷ text) ≡ 0
far_here stop c text e = rw e refl

-- a line that ends
lines_split : (text : List ℕ) → far 10 text < length text → lines_of text ≡ take (far 10 text) text ∷ lines_of (drop (suc (far 10 text)) text)
lines_split [] within = absurd (omega arith)
lines_split (c ∷ text) within = ⊎_elim
    (λ yes. rw (far_here 10 c text yes, yes) refl)
    (λ no. let on = far_on 10 c text no in rw (on, no) (ap (in_front c) (lines_split text (omega (arith, on, within)))))
    (cases_Bool (c == 10))

-- a line without its line feed
lines_whole : (text : List ℕ) → length text ≤ far 10 text → 0 < length text → lines_of text ≡ text ∷ []
lines_whole [] past some = absurd (omega arith)
lines_whole (c ∷ []) past some = ⊎_elim (λ yes. absurd (omega (arith, far_here 10 c [] yes, past))) (λ no. rw no refl) (cases_Bool (c == 10))
lines_whole (c ∷ d ∷ text) past some = ⊎_elim
    (λ yes. absurd (omega (arith, far_here 10 c (d ∷ text) yes, past)))
    (λ no. rw no (ap (in_front c) (lines_whole (d ∷ text) (omega (arith, far_on 10 c (d ∷ text) no, past)) (omega arith))))
    (cases_Bool (c == 10))

-- a field that ends
fields_split : (stop : ℕ) (text : List ℕ) → far stop text < length text
    → fields_of stop text ≡ take (far stop text) text ∷ fields_of stop (drop (suc (far stop text)) text)
fields_split stop [] within = absurd (omega arith)
fields_split stop (c ∷ text) within = ⊎_elim
    (λ yes. rw (far_here stop c text yes, yes) refl)
    (λ no. let on = far_on stop c text no in rw (on, no) (ap (in_front c) (fields_split stop text (omega (arith, on, within)))))
    (cases_Bool (c == stop))

-- the last field
fields_whole : (stop : ℕ) (text : List ℕ) → length text ≤ far stop text → fields_of stop text ≡ text ∷ []
fields_whole stop [] past = refl
fields_whole stop (c ∷ text) past = ⊎_elim
    (λ yes. absurd (omega (arith, far_here stop c text yes, past)))
    (λ no. rw no (ap (in_front c) (fields_whole stop text (omega (arith, far_on stop c text no, past)))))
    (cases_Bool (c == stop))

-- what `&text[i + 1..]` is
rest_is : (text : List ℕ) (i : ℕ) → take (length text - (i + 1)) (drop (i + 1) text) ≡ drop (suc i) text
rest_is text i = take_all (length text - (i + 1)) (drop (i + 1) text) (omega (arith, length-drop (i + 1) text)) ∙ ap (λ n. drop n text) (add-one i)

-- by what `position` says
pub line_ends : (text : List ℕ) (i : ℕ) → position (λ c. c == 10) text ≡ Some i → lines_of text ≡ take i text ∷ lines_of (take (length text - (i + 1)) (drop (i + 1) text))
line_ends text i e = let at = placed (length text) (far 10 text) i e in
    lines_split text at.1 ∙ ap (λ k. take k text ∷ lines_of (drop (suc k) text)) (sym at.0) ∙ ap (λ rest. take i text ∷ lines_of rest) (sym (rest_is text i))

pub line_is_last : (text : List ℕ) → position (λ c. c == 10) text ≡ None → 0 < length text → lines_of text ≡ text ∷ lines_of (take (length text - length text) (drop (length text) text))
line_is_last text e some = lines_whole text (unplaced (length text) (far 10 text) e) some ∙ ap (λ rest. text ∷ lines_of rest) (sym (ap (λ n. take n (drop (length text) text)) none))
  where
    none : length text - length text ≡ 0
    none = omega arith

pub field_ends : (stop : ℕ) (text : List ℕ) (i : ℕ) → position (λ c. c == stop) text ≡ Some i
    → fields_of stop text ≡ take i text ∷ fields_of stop (take (length text - (i + 1)) (drop (i + 1) text))
field_ends stop text i e = let at = placed (length text) (far stop text) i e in
    fields_split stop text at.1 ∙ ap (λ k. take k text ∷ fields_of stop (drop (suc k) text)) (sym at.0)
    ∙ ap (λ rest. take i text ∷ fields_of stop rest) (sym (rest_is text i))

pub field_is_last : (stop : ℕ) (text : List ℕ) → position (λ c. c == stop) text ≡ None → fields_of stop text ≡ text ∷ []
field_is_last stop text e = fields_whole stop text (unplaced (length text) (far stop text) e)

-- a text has a field, and a line where it is not empty
front_some : (c : ℕ) (parts : List (List ℕ)) → 0 < length (in_front c parts)
front_some c [] = omega arith
front_some c (part ∷ parts) = omega arith

pub fields_some : (stop : ℕ) (text : List ℕ) → 0 < length (fields_of stop text)
fields_some stop [] = omega arith
fields_some stop (c ∷ text) = ⊎_elim (λ yes. rw yes (omega arith)) (λ no. rw no (front_some c (fields_of stop text))) (cases_Bool (c == stop))

pub lines_some : (text : List ℕ) → 0 < length text → 0 < length (lines_of text)
lines_some [] some = absurd (omega arith)
lines_some (c ∷ text) some = ⊎_elim (λ yes. rw yes (omega arith)) (λ no. rw no (front_some c (lines_of text))) (cases_Bool (c == 10))
