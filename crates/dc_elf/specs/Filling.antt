-- A memory that is filled from the last part on, and where its filled bytes end.
use Rattle.std.specs.Prelude.{◌≡◌, ℕ, ◌<◌, ◌≤◌, Bool, true, List, ◌∷◌, length, if◌then◌else◌, nat_lt, slice_index}
use Rattle.std.specs.List.{list_any}
use Rattle.dc_elf.specs.declared.part.Part.{Part}
use Rattle.dc_elf.specs.Images.{byte_of, covers}

-- one of these parts covers an address
abbrev pub is_covered : List Part → ℕ → Bool
is_covered parts a = list_any (covers a) parts

-- each byte is that of the parts laid there so far, and `next` of an address: all up to it is covered,
-- and it is past the address where that is covered
pub record Filled (file : List ℕ) (size : ℕ) (laid : ℕ → List Part) (memory next : List ℕ) : Type 0 where
  pub memory_long : length memory ≡ size
  pub next_long : length next ≡ size
  pub bytes : (a : ℕ) → a < size → slice_index memory a ≡ byte_of file (laid a) a
  pub covered : (a b : ℕ) → a < size → a ≤ b → b < slice_index next a → is_covered (laid a) b ≡ true
  pub past : (a : ℕ) → a < size → is_covered (laid a) a ≡ true → a < slice_index next a

-- the parts everywhere
abbrev pub everywhere : List Part → ℕ → List Part
everywhere parts a = parts

-- a part more below an address
abbrev pub below : ℕ → Part → List Part → ℕ → List Part
below at part parts a = if nat_lt a at then part ∷ parts else parts
