-- The pieces in which a journal's text is written.
use Rattle.std.specs.Prelude.{ℕ, Bool, true, false, List, [], ◌∷◌, ◌++◌, codes, decimal}

-- a number of a list, with a comma before it where it is not the first
abbrev pub next_text : Bool → ℕ → List ℕ
next_text false p = decimal p
next_text true p = 44 ∷ decimal p

-- the last line, where there is one
abbrev pub last_text : Bool → List ℕ
last_text true = codes "end" ++ 10 ∷ []
last_text false = []
