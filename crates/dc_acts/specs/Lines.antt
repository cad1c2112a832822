-- The texts of the lines that users see.
use Rattle.std.specs.Prelude.{ℕ, List, [], ◌∷◌, ◌++◌, codes, decimal, reverse}
use Rattle.std.specs.List.{flat_map}
use Rattle.dc_words.specs.Hex.{hex_of}
use Rattle.dc_words.specs.Words.{word_bytes}
use Rattle.dc_model.specs.declared.visible.Body.{Body}
use Rattle.dc_model.specs.declared.visible.Body.TheVariants.{Out, End, Trap}
use Rattle.dc_model.specs.declared.visible.Visible.{Visible}

-- two digits a byte; `-` where there is none
abbrev pub hex_text : List ℕ → List ℕ
hex_text [] = codes "-"
hex_text bytes = hex_of bytes

-- eight digits, the highest first
abbrev pub hex_word : ℕ → List ℕ
hex_word w = hex_of (reverse (word_bytes w))

-- a name, a process and a number, each with a blank behind it
abbrev pub numbered : List ℕ → ℕ → ℕ → List ℕ
numbered name p k = name ++ decimal p ++ codes " " ++ decimal k ++ codes " "

-- the line of what the k-th visible event of p shows
abbrev pub body_line : ℕ → ℕ → Body → List ℕ
body_line p k (Out text) = numbered (codes "out ") p k ++ hex_text text ++ 10 ∷ []
body_line p k (End code) = numbered (codes "end ") p k ++ decimal code ++ 10 ∷ []
body_line p k (Trap cause pc) = numbered (codes "trap ") p k ++ decimal cause ++ codes " " ++ hex_word pc ++ 10 ∷ []

-- the line of a visible record
abbrev pub visible_line : Visible → List ℕ
visible_line x = body_line x.p x.k x.body

-- the lines of records, in order
abbrev pub text_of : List Visible → List ℕ
text_of records = flat_map visible_line records
