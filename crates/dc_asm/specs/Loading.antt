-- What a guest's memory has of its words.
use Rattle.std.specs.Prelude.{ℕ, ◌+◌, ◌-◌, ◌*◌, ◌&&◌, List, length, map, if◌then◌else◌, nat_le, nat_lt, slice_index}
use Rattle.std.specs.List.{range_with_len}
use Rattle.dc_elf.specs.Images.{Image}
use Rattle.dc_words.specs.Words.{bytes_in}

-- the words' bytes from 1024 on, and zeros elsewhere
abbrev pub byte_at : List ℕ → ℕ → ℕ
byte_at words a = if nat_le 1024 a && nat_lt a (1024 + 4 * length words) then slice_index (bytes_in words) (a - 1024) else 0

-- the image of words in a memory of this size, which begin at 1024
abbrev pub image_with : ℕ → List ℕ → Image
image_with size words = record { memory = map (byte_at words) (range_with_len 0 size); entry = 1024 }
