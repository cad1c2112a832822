-- An ELF file of 32 bits, little-endian: its header, its program headers, and what makes it no guest.
use Rattle.std.specs.Prelude.{ℕ, zero, suc, ◌+◌, ◌*◌, ◌%◌, ◌/◌, ◌==◌, ◌&&◌, ◌||◌, not, Bool, List, [], ◌∷◌, length, Option, None}
use Rattle.std.specs.Prelude.{Some, if◌then◌else◌, nat_eq, nat_lt, slice_index}
use Rattle.std.specs.List.{starts_with}
use Rattle.std.specs.Option.{option_or}
use Rattle.dc_words.specs.Words.{half_at, word_at}
use Rattle.dc_elf.specs.declared.part.Part.{Part}
use Rattle.dc_elf.specs.declared.faults.ElfFault.{ElfFault}
use Rattle.dc_elf.specs.declared.faults.ElfFault.TheVariants.{Short, Magic, Class, Order, FileType, Machine, Flags, Headers, Segment}
use Rattle.dc_elf.specs.declared.faults.ElfFault.TheVariants.{Entry}

-- the program header at an offset
abbrev pub part_at : List ℕ → ℕ → Part
part_at file at = record {
  kind = word_at file at;
  offset = word_at file (at + 4);
  address = word_at file (at + 8);
  filed = word_at file (at + 16);
  sized = word_at file (at + 20);
}

-- so many program headers, of 32 bytes each, from an offset on
abbrev pub parts_from : List ℕ → ℕ → ℕ → List Part
parts_from file at zero = []
parts_from file at (suc count) = part_at file at ∷ parts_from file (at + 32) count

-- how many program headers there are (ELF e_phnum)
abbrev pub part_count : List ℕ → ℕ
part_count file = half_at file 44

-- all program headers, in the order of their table (ELF e_phoff says where it begins)
abbrev pub parts_of : List ℕ → List Part
parts_of file = parts_from file (word_at file 28) (part_count file)

-- to be loaded
abbrev pub is_loaded : Part → Bool
is_loaded part = part.kind == 1

-- a loadable part that has bytes, and more in the file than in memory, or bytes past the file, or memory past the size
abbrev pub is_faulty : List ℕ → ℕ → Part → Bool
is_faulty file size part = is_loaded part && ((not (part.sized == 0) || not (part.filed == 0))
    && (nat_lt part.sized part.filed || (nat_lt (length file) (part.offset + part.filed) || nat_lt size (part.address + part.sized))))

-- the first faulty part, from this number on
abbrev pub faulty_from : List ℕ → ℕ → ℕ → List Part → Option ElfFault
faulty_from file size i [] = None
faulty_from file size i (part ∷ parts) = if is_faulty file size part then Some (Segment i) else faulty_from file size (suc i) parts

-- compressed instructions (1), 16 registers (8) or a floating-point calling convention (2 and 4)
abbrev pub has_other_flags : ℕ → Bool
has_other_flags flags = not (flags % 2 == 0) || (not (flags / 8 % 2 == 0) || not (flags / 2 % 4 == 0))

-- there are headers, and they are not of 32 bytes, too many to be counted, or past the file
abbrev pub has_bad_headers : List ℕ → Bool
has_bad_headers file = part_count file == 65535
    || (not (part_count file == 0) && (not (half_at file 42 == 32) || nat_lt (length file) (word_at file 28 + 32 * part_count file)))

-- the entry is no word's address, or past a memory of this size (ELF e_entry)
abbrev pub has_bad_entry : List ℕ → ℕ → Bool
has_bad_entry file size = not (word_at file 24 % 4 == 0) || nat_lt size (word_at file 24 + 4)

-- this fault where it is so
abbrev pub fault_if : Bool → ElfFault → Option ElfFault
fault_if b fault = if b then Some fault else None

-- what is wrong with the header of a file that is long enough
abbrev pub header_fault : List ℕ → Option ElfFault
header_fault file =
    if not (starts_with nat_eq file (127 ∷ 69 ∷ 76 ∷ 70 ∷ [])) then Some Magic
    else if not (slice_index file 4 == 1) then Some Class
    else if not (slice_index file 5 == 1) then Some Order
    else if not (half_at file 16 == 2) then Some FileType
    else if not (half_at file 18 == 243) then Some Machine
    else if has_other_flags (word_at file 36) then Some Flags
    else if has_bad_headers file then Some Headers
    else None

-- the first thing that is wrong with a file as the guest of a memory of this size
abbrev pub file_fault : List ℕ → ℕ → Option ElfFault
file_fault file size = if nat_lt (length file) 52 then Some Short
    else option_or (header_fault file) (option_or (faulty_from file size 0 (parts_of file)) (fault_if (has_bad_entry file size) Entry))
