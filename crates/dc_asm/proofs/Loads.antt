-- The file of words as a guest's file.
use Rattle.std.proofs.Common.{◌≡◌, ◌∙◌, ◌+◌, ◌-◌, ◌*◌, ◌^◌, ◌<◌, ◌≤◌, ◌==◌, ◌&&◌, ◌||◌, not, ℕ, Bool, true, false, List, [], ◌∷◌, ◌++◌, Option, None, Some, ap, refl, arith, length, length-append, if◌then◌else◌, nat_lt, nat_le, slice_index, ⊎_elim, map}
use Rattle.std.specs.List.{range_with_len}
use Rattle.std.proofs.Math.Path.{fun_ext}
use Rattle.std.proofs.lemmas.Bool.{cases_Bool, le-ltb, lt-ltb, leb-true, ltb-true}
use Rattle.std.proofs.lemmas.List.{get_or-append-add}
use Rattle.std.proofs.lemmas.Grind.{flat_map-append}
use Rattle.dc_words.specs.Words.{bytes_in, word_bytes}
use Rattle.dc_words.proofs.Bytes.{bytes_long, word_again}
use Rattle.dc_elf.specs.declared.part.Part.{Part}
use Rattle.dc_elf.specs.declared.faults.ElfFault.{ElfFault}
use Rattle.dc_elf.specs.declared.faults.ElfFault.TheVariants.{Short, Entry}
use Rattle.dc_elf.specs.Files.{fault_if, file_fault, faulty_from, has_bad_entry, header_fault, is_faulty, parts_of}
use Rattle.std.specs.Option.{option_or}
use Rattle.std.proofs.Math.Bool.{and-false}
use Rattle.dc_elf.specs.Images.{Image, byte_of, image_of}
use Rattle.dc_asm.specs.Elf.{elf_of, header}
use Rattle.dc_asm.specs.Loading.{image_with}

-- the one part
abbrev part : ℕ → Part
part size = record { kind = 1; offset = 84; address = 1024; filed = size; sized = size }

part_right : (file : List ℕ) (size bytes : ℕ) → length file ≡ 84 + bytes → 1024 + bytes ≤ size → is_faulty file size (part bytes) ≡ false
part_right file size bytes long fits = rw (le-ltb bytes bytes (omega arith), le-ltb (length file) (84 + bytes) (omega (arith, long)), le-ltb size (1024 + bytes) fits)
    (and-false (not (bytes == 0) || not (bytes == 0)))

right_if : (short bad : Bool) (front parts : Option ElfFault) → short ≡ false → front ≡ None → parts ≡ None → bad ≡ false
    → (if short then Some Short else option_or front (option_or parts (fault_if bad Entry))) ≡ None
right_if short bad front parts a b c d = rw (a, b, c, d) refl

module _ (count : ℕ) (rest : List ℕ) (small : 4 * count < 2 ^ 32) (long : length rest ≡ 4 * count) where
  abbrev file : List ℕ
  file = bytes_in (header count) ++ rest

  file_long : length file ≡ 84 + 4 * count
  file_long = length-append (bytes_in (header count)) rest ∙ ap (λ n. 84 + n) long

  parts_are : parts_of file ≡ part (4 * count) ∷ []
  parts_are = ap (λ (size : ℕ). part size ∷ []) (word_again (4 * count) small)

  header_right : header_fault file ≡ None
  header_right = rw (le-ltb (length file) 84 (omega (arith, file_long))) refl

  entry_right : (size : ℕ) → 1028 ≤ size → has_bad_entry file size ≡ false
  entry_right size fits = le-ltb size 1028 fits

  parts_right : (size : ℕ) → 1024 + 4 * count ≤ size → faulty_from file size 0 (parts_of file) ≡ None
  parts_right size fits = ap (faulty_from file size 0) parts_are ∙ rw (part_right file size (4 * count) file_long fits) refl

  file_right : (size : ℕ) → 1024 + 4 * count ≤ size → 1028 ≤ size → file_fault file size ≡ None
  file_right size fits some = right_if (nat_lt (length file) 52) (has_bad_entry file size) (header_fault file) (faulty_from file size 0 (parts_of file))
      (le-ltb (length file) 52 (omega (arith, file_long))) header_right (parts_right size fits) (entry_right size some)

  -- the byte at an address
  byte_is : (a : ℕ) → byte_of file (part (4 * count) ∷ []) a ≡ (if nat_le 1024 a && nat_lt a (1024 + 4 * count) then slice_index rest (a - 1024) else 0)
  byte_is a = ⊎_elim
      (λ (above : nat_le 1024 a ≡ true). ⊎_elim
      (λ (below : nat_lt a (1024 + 4 * count) ≡ true). rw (above, below, lt-ltb (a - 1024) (4 * count) (omega (arith, leb-true 1024 a above, ltb-true a (1024 + 4 * count) below)))
      (get_or-append-add (bytes_in (header count)) rest (a - 1024) 0))
      (λ (past : nat_lt a (1024 + 4 * count) ≡ false). rw (above, past) refl)
      (cases_Bool (nat_lt a (1024 + 4 * count))))
      (λ (under : nat_le 1024 a ≡ false). rw under refl)
      (cases_Bool (nat_le 1024 a))

-- the file in two parts
module _ (words : List ℕ) where
  parted : elf_of words ≡ bytes_in (header (length words)) ++ bytes_in words
  unfolding elf_of
  parted = flat_map-append word_bytes (header (length words)) words

  pub is_right : (size : ℕ) → 1024 + 4 * length words ≤ size → 1028 ≤ size → size < 2 ^ 32 → file_fault (elf_of words) size ≡ None
  is_right size fits some small = ap (λ (f : List ℕ). file_fault f size) parted
      ∙ file_right (length words) (bytes_in words) (omega (arith, fits, small)) (bytes_long words) size fits some

  pub image_is : (size : ℕ) → 1024 + 4 * length words ≤ size → size < 2 ^ 32 → image_of size (elf_of words) ≡ image_with size words
  unfolding image_of
  image_is size fits small =
      let little : 4 * length words < 2 ^ 32 = omega (arith, fits, small) in
      let whole : List ℕ = bytes_in (header (length words)) ++ bytes_in words in
      let bytes = fun_ext (λ (a : ℕ). byte_is (length words) (bytes_in words) little (bytes_long words) a) in
      ap (λ (f : List ℕ). image_of size f) parted
      ∙ ap (λ (ps : List Part). let i : Image = record { memory = map (byte_of whole ps) (range_with_len 0 size); entry = 1024 } in i) (parts_are (length words) (bytes_in words) little (bytes_long words))
      ∙ ap (λ (f : ℕ → ℕ). let i : Image = record { memory = map f (range_with_len 0 size); entry = 1024 } in i) bytes
