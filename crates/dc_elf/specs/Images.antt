-- The image that an ELF file loads.
use Rattle.std.specs.Prelude.{ℕ, ◌+◌, ◌-◌, ◌&&◌, Bool, List, reverse, find, Option, None, Some, if◌then◌else◌, nat_lt, nat_le, slice_index}
use Rattle.std.specs.Prelude.{map}
use Rattle.std.specs.List.{range_with_len}
use Rattle.dc_elf.specs.declared.part.Part.{Part}
use Rattle.dc_elf.specs.Files.{is_loaded, parts_of}
use Rattle.dc_words.specs.Words.{word_at}

-- the memory's bytes from address 0, and where the guest begins
pub record Image : Type 0 where
  pub memory : List ℕ
  pub entry : ℕ

-- a loadable part covers an address
abbrev pub covers : ℕ → Part → Bool
covers a part = is_loaded part && (nat_le part.address a && nat_lt a (part.address + part.sized))

-- the byte of a part at an address that it covers: the file's, and 0 past its bytes in the file
abbrev pub byte_in : List ℕ → ℕ → Option Part → ℕ
byte_in file a None = 0
byte_in file a (Some part) = if nat_lt (a - part.address) part.filed then slice_index file (part.offset + (a - part.address)) else 0

-- the byte at an address: of the last part that covers it, 0 where none does
abbrev pub byte_of : List ℕ → List Part → ℕ → ℕ
byte_of file parts a = byte_in file a (find (covers a) (reverse parts))

-- the image of a file in a memory of this size
unfoldable pub image_of : ℕ → List ℕ → Image
image_of size file = record { memory = map (byte_of file (parts_of file)) (range_with_len 0 size); entry = word_at file 24 }
