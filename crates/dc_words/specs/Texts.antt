-- The lines of a text, and the fields of a line.
use Rattle.std.specs.Prelude.{ℕ, ◌==◌, ◌&&◌, Bool, true, not, List, [], ◌∷◌, ◌++◌, if◌then◌else◌}
use Rattle.std.specs.List.{flat_map}

-- a byte more in front of the first part
abbrev pub in_front : ℕ → List (List ℕ) → List (List ℕ)
in_front c [] = (c ∷ []) ∷ []
in_front c (part ∷ parts) = (c ∷ part) ∷ parts

-- the lines of a text, each without its line feed; the last one may have none
abbrev pub lines_of : List ℕ → List (List ℕ)
lines_of [] = []
lines_of (c ∷ text) = if c == 10 then [] ∷ lines_of text else in_front c (lines_of text)

-- the fields of a text, between single bytes of that kind
abbrev pub fields_of : ℕ → List ℕ → List (List ℕ)
fields_of stop [] = [] ∷ []
fields_of stop (c ∷ text) = if c == stop then [] ∷ fields_of stop text else in_front c (fields_of stop text)

-- no such byte stands in a text
abbrev pub has_no : ℕ → List ℕ → Bool
has_no stop [] = true
has_no stop (c ∷ text) = not (c == stop) && has_no stop text

-- parts with such a byte between them
abbrev pub joined : ℕ → List (List ℕ) → List ℕ
joined stop [] = []
joined stop (part ∷ []) = part
joined stop (part ∷ next ∷ parts) = part ++ stop ∷ joined stop (next ∷ parts)

-- lines, each with its line feed
abbrev pub ended : List (List ℕ) → List ℕ
ended lines = flat_map (λ line. line ++ 10 ∷ []) lines
