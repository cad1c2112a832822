-- A header in which nothing is wrong.
use Rattle.std.proofs.Common.{◌≡◌, ◌∷◌, ℕ, Bool, true, false, not, ◌==◌, ◌||◌, ◌%◌, ◌+◌, List, [], Option, Some, None, length, nat_lt, nat_eq, slice_index}
use Rattle.std.proofs.Common.{refl, sym, if◌then◌else◌}
use Rattle.std.specs.List.{starts_with}
use Rattle.std.proofs.lemmas.Bool.{eqb-true}
use Rattle.dc_elf.specs.declared.faults.ElfFault.{ElfFault}
use Rattle.dc_elf.specs.declared.faults.ElfFault.TheVariants.{Short, Magic, Class, Order, FileType, Machine, Flags, Headers, Entry}
use Rattle.dc_elf.specs.Files.{fault_if, file_fault, faulty_from, has_bad_entry, has_bad_headers, has_other_flags, header_fault}
use Rattle.dc_elf.specs.Files.{parts_of}
use Rattle.std.specs.Option.{option_or}
use Rattle.dc_words.specs.Words.{half_at, word_at}

pub faultless : (file : List ℕ) → starts_with nat_eq file (127 ∷ 69 ∷ 76 ∷ 70 ∷ []) ≡ true → slice_index file 4 ≡ 1
    → slice_index file 5 ≡ 1 → half_at file 16 ≡ 2 → half_at file 18 ≡ 243 → has_other_flags (word_at file 36) ≡ false
    → has_bad_headers file ≡ false → None ≡ header_fault file
faultless file magic class order kind machine flags headers = rw (magic, class, order, kind, machine, flags, headers) refl

-- the last of seven tests
seventh : (a b c d e f g : Bool)
    → None ≡ (if a then Some Magic else if b then Some Class else if c then Some Order else if d then Some FileType
    else if e then Some Machine else if f then Some Flags else if g then Some Headers else None) → g ≡ false
seventh true b c d e f g none = absurd (let never : ⊥ = cc in never)
seventh false true c d e f g none = absurd (let never : ⊥ = cc in never)
seventh false false true d e f g none = absurd (let never : ⊥ = cc in never)
seventh false false false true e f g none = absurd (let never : ⊥ = cc in never)
seventh false false false false true f g none = absurd (let never : ⊥ = cc in never)
seventh false false false false false true g none = absurd (let never : ⊥ = cc in never)
seventh false false false false false false true none = absurd (let never : ⊥ = cc in never)
seventh false false false false false false false none = refl

-- where the header has no fault, its program headers have none
pub right_headers : (file : List ℕ) → None ≡ header_fault file → has_bad_headers file ≡ false
right_headers file none =
    seventh (not (starts_with nat_eq file (127 ∷ 69 ∷ 76 ∷ 70 ∷ []))) (not (slice_index file 4 == 1)) (not (slice_index file 5 == 1))
    (not (half_at file 16 == 2)) (not (half_at file 18 == 243)) (has_other_flags (word_at file 36)) (has_bad_headers file) none

-- a file in which nothing is wrong: its headers and its parts
none_before : (first later : Option ElfFault) → None ≡ option_or first later → (None ≡ first) × (None ≡ later)
none_before None later e = (refl, e)
none_before (Some fault) later e = absurd (let never : ⊥ = cc in never)

long_enough : (b : Bool) (later : Option ElfFault) → None ≡ (if b then Some Short else later) → None ≡ later
long_enough true later e = absurd (let never : ⊥ = cc in never)
long_enough false later e = e

pub right_file : (file : List ℕ) (size : ℕ) → None ≡ file_fault file size
    → (has_bad_headers file ≡ false) × (faulty_from file size 0 (parts_of file) ≡ None)
right_file file size none =
    let tests = none_before (header_fault file)
    (option_or (faulty_from file size 0 (parts_of file)) (fault_if (has_bad_entry file size) Entry))
    (long_enough (nat_lt (length file) 52) _ none) in (
      right_headers file tests.0,
      sym (none_before (faulty_from file size 0 (parts_of file)) (fault_if (has_bad_entry file size) Entry) tests.1).0,
    )

-- its entry is a word's address
aligned_by : (off past : Bool) → None ≡ fault_if (off || past) Entry → off ≡ false
aligned_by true past e = absurd (let never : ⊥ = cc in never)
aligned_by false past e = refl

pub right_entry : (file : List ℕ) (size : ℕ) → None ≡ file_fault file size → word_at file 24 % 4 ≡ 0
right_entry file size none =
    let tests = none_before (header_fault file)
    (option_or (faulty_from file size 0 (parts_of file)) (fault_if (has_bad_entry file size) Entry))
    (long_enough (nat_lt (length file) 52) _ none) in
    let entry = (none_before (faulty_from file size 0 (parts_of file)) (fault_if (has_bad_entry file size) Entry) tests.1).1 in
    eqb-true (word_at file 24 % 4) 0 (not_off (word_at file 24 % 4 == 0) (aligned_by (not (word_at file 24 % 4 == 0)) (nat_lt size (word_at file 24 + 4)) entry))
  where
    not_off : (b : Bool) → not b ≡ false → b ≡ true
    not_off true e = refl
    not_off false e = absurd (let never : ⊥ = cc in never)
