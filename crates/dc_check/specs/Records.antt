-- Which lines are those of visible records.
use Rattle.std.specs.Prelude.{ℕ, ◌==◌, ◌≤◌, ◌<◌, ◌%◌, ◌^◌, ◌&&◌, ◌||◌, Bool, false, not, List, [], ◌∷◌, ◌++◌, Option, Some, None, bytes_eq, codes, if◌then◌else◌, is_some, length, nat_le}
use Rattle.std.specs.List.{list_all}
use Rattle.dc_model.specs.declared.visible.Body.{Body}
use Rattle.dc_model.specs.declared.visible.Body.TheVariants.{Out, End, Trap}
use Rattle.dc_model.specs.declared.visible.Visible.{Visible}
use Rattle.dc_words.specs.Hex.{value_of}
use Rattle.dc_words.specs.Numbers.{is_below}
use Rattle.dc_words.specs.Texts.{fields_of}
use Rattle.dc_words.specs.Words.{AllBelow}

-- hexadecimal digits
abbrev pub is_hex : List ℕ → Bool
is_hex text = list_all (λ c. is_some (value_of c)) text

-- one to 256 bytes in hexadecimal, or `-` for none
abbrev pub is_hex_text : List ℕ → Bool
is_hex_text text = bytes_eq text (codes "-") || (is_hex text && (length text % 2 == 0 && (not (length text == 0) && nat_le (length text) 512)))

-- a word in hexadecimal
abbrev pub is_hex_word : List ℕ → Bool
is_hex_word text = is_hex text && length text == 8

-- a word in decimal
abbrev pub is_word : List ℕ → Bool
is_word text = is_below (2 ^ 32) text

-- what stands behind the two numbers of a record of that name
abbrev pub is_body : List ℕ → List (List ℕ) → Bool
is_body name (body ∷ []) = (bytes_eq name (codes "out") && is_hex_text body) || (bytes_eq name (codes "end") && is_word body)
is_body name (cause ∷ pc ∷ []) = bytes_eq name (codes "trap") && (is_word cause && is_hex_word pc)
is_body name _ = false

-- process and number, as they are written, of the record that has these fields; nothing of fields that no record has
abbrev pub numbers_by : List (List ℕ) → Option (List ℕ)
numbers_by (name ∷ p ∷ k ∷ body) = if is_word p && (is_word k && is_body name body) then Some (p ++ 32 ∷ k) else None
numbers_by _ = None

-- process and number, as they are written, of the record whose line this is; nothing of a line that is no record's
abbrev pub numbers_in : List ℕ → Option (List ℕ)
numbers_in line = numbers_by (fields_of 32 line)

-- what a record can show: at most 256 bytes, or words
abbrev pub CanShow : Body → Type 0
CanShow (Out text) = (length text ≤ 256) × AllBelow (2 ^ 8) text
CanShow (End code) = code < 2 ^ 32
CanShow (Trap cause pc) = (cause < 2 ^ 32) × (pc < 2 ^ 32)

-- a record whose line is known for a record's
pub record IsWritten (x : Visible) : Type 0 where
  pub process : x.p < 2 ^ 32
  pub number : x.k < 2 ^ 32
  pub shown : CanShow x.body
