-- A line of a source and its parts.
use Rattle.std.specs.Prelude.{ℕ, ◌+◌, ◌-◌, ◌&&◌, ◌||◌, ◌==◌, Bool, false, List, [], ◌∷◌, length, map, take, drop, nat_le, nat_lt, Option, None, Some, option_map, option_and_then, if◌then◌else◌, slice_index}
use Rattle.std.specs.List.{list_all, position, suffix_len}
use Rattle.dc_words.specs.Texts.{fields_of}

-- a space or a tab
abbrev pub is_blank : ℕ → Bool
is_blank c = c == 32 || c == 9

-- a text without the blanks in front
abbrev pub without_front : List ℕ → List ℕ
without_front [] = []
without_front (c ∷ text) = if is_blank c then without_front text else c ∷ text

-- a text without the blanks at its end
abbrev pub without_end : List ℕ → List ℕ
without_end text = take (length text - suffix_len is_blank text) text

-- a text without the blanks at both ends
unfoldable pub without_blanks : List ℕ → List ℕ
without_blanks text = without_end (without_front text)

-- what stands before the first such byte, and what follows it
unfoldable pub cut_at : ℕ → List ℕ → Option (List ℕ × List ℕ)
cut_at stop text = option_map (λ i. (take i text, drop (i + 1) text)) (position (λ c. c == stop) text)

-- what stands before the cut, or all of it
abbrev pub first_or_all : List ℕ → Option (List ℕ × List ℕ) → List ℕ
first_or_all text None = text
first_or_all text (Some parts) = parts.0

-- a line without its comment, which begins at `#`, and without the blanks at the ends of what is left
unfoldable pub bare : List ℕ → List ℕ
bare line = without_blanks (first_or_all line (cut_at 35 line))

-- what stands before such a byte at the end
unfoldable pub ended_by : ℕ → List ℕ → Option (List ℕ)
ended_by stop [] = None
ended_by stop (c ∷ text) = if slice_index (c ∷ text) (length text) == stop then Some (take (length text) (c ∷ text)) else None

-- a letter or `_`
abbrev pub is_first : ℕ → Bool
is_first c = (nat_le 97 c && nat_le c 122) || ((nat_le 65 c && nat_le c 90) || c == 95)

-- a letter, `_` or a digit
abbrev pub is_further : ℕ → Bool
is_further c = is_first c || (nat_le 48 c && nat_le c 57)

-- a name: at most 31 bytes, a digit not first
unfoldable pub is_name : List ℕ → Bool
is_name [] = false
is_name (c ∷ text) = is_first c && (list_all is_further text && nat_lt (length text) 31)

-- a text that is a name
abbrev pub if_name : List ℕ → Option (List ℕ)
if_name text = if is_name text then Some text else None

-- the name that a line defines: all of it but the colon at its end
unfoldable pub defined : List ℕ → Option (List ℕ)
defined line = option_and_then if_name (ended_by 58 line)

-- a byte that stands in no instruction
abbrev pub is_high : ℕ → Bool
is_high c = nat_lt 126 c

-- a line and its cut: what stands before it and behind it, or all of the line and nothing
abbrev pub parted : List ℕ → Option (List ℕ × List ℕ) → List ℕ × List ℕ
parted line None = (line, [])
parted line (Some parts) = parts

-- the mnemonic, which stands before the first space, and what follows it
unfoldable pub line_parts : List ℕ → List ℕ × List ℕ
line_parts line = parted line (cut_at 32 line)

-- the operands, between commas, each without the blanks at its ends
unfoldable pub operands_of : List ℕ → List (List ℕ)
operands_of [] = []
operands_of (c ∷ text) = map without_blanks (fields_of 44 (c ∷ text))
