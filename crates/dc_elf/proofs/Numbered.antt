-- Program headers one after the other.
use Rattle.std.proofs.Common.{◌≡◌, ◌∙◌, ◌+◌, ◌-◌, ◌*◌, ◌<◌, ◌≤◌, ◌∷◌, ℕ, zero, suc, Bool, true, false, List, [], Option, Some, None}
use Rattle.std.proofs.Common.{if◌then◌else◌, ap, arith, refl, sym}
use Rattle.std.proofs.Common.{add-one}
use Rattle.dc_elf.specs.declared.part.Part.{Part}
use Rattle.dc_elf.specs.declared.faults.ElfFault.{ElfFault}
use Rattle.dc_elf.specs.declared.faults.ElfFault.TheVariants.{Segment}
use Rattle.dc_elf.specs.Files.{faulty_from, is_faulty, part_at, parts_from}

-- the parts from a number on are that part and those after it
parts_next : (file : List ℕ) (start count i : ℕ) → i < count
    → parts_from file (start + 32 * i) (count - i)
    ≡ part_at file (start + 32 * i) ∷ parts_from file (start + 32 * (i + 1)) (count - (i + 1))
parts_next file start count i within = ap (parts_from file (start + 32 * i)) left
    ∙ ap (λ at. part_at file (start + 32 * i) ∷ parts_from file at (count - (i + 1))) on
  where
    left : count - i ≡ suc (count - (i + 1))
    left = omega (arith, within)

    on : start + 32 * i + 32 ≡ start + 32 * (i + 1)
    on = omega arith

-- and with the part before them they are the parts from that one on
pub parts_before : (file : List ℕ) (start count i : ℕ) → 0 < i → i ≤ count
    → part_at file (start + 32 * (i - 1)) ∷ parts_from file (start + 32 * i) (count - i)
    ≡ parts_from file (start + 32 * (i - 1)) (count - (i - 1))
parts_before file start count i some within =
    sym (parts_next file start count (i - 1) (omega (arith, some, within))
    ∙ ap (λ k. part_at file (start + 32 * (i - 1)) ∷ parts_from file (start + 32 * k) (count - k)) again)
  where
    again : i - 1 + 1 ≡ i
    again = omega (arith, some)

-- one part more of the search for a faulty one
module _ (file : List ℕ) (size start count i : ℕ) (told : Option ElfFault)
    (so_far : told ≡ faulty_from file size i (parts_from file (start + 32 * i) (count - i))) (within : i < count) where
  pub faulty_here : is_faulty file size (part_at file (start + 32 * i)) ≡ true → told ≡ Some (Segment i)
  faulty_here faulty = so_far ∙ ap (faulty_from file size i) (parts_next file start count i within) ∙ rw faulty refl

  pub faulty_past : is_faulty file size (part_at file (start + 32 * i)) ≡ false
      → told ≡ faulty_from file size (i + 1) (parts_from file (start + 32 * (i + 1)) (count - (i + 1)))
  faulty_past right = so_far ∙ ap (faulty_from file size i) (parts_next file start count i within) ∙ rw right refl
      ∙ ap (λ k. faulty_from file size k (parts_from file (start + 32 * (i + 1)) (count - (i + 1)))) (sym (add-one i))

-- where no part is faulty, the first is not, and none after it
fault_past : (file : List ℕ) (size i : ℕ) (part : Part) (parts : List Part) → faulty_from file size i (part ∷ parts) ≡ None
    → (is_faulty file size part ≡ false) × (faulty_from file size (suc i) parts ≡ None)
fault_past file size i part parts e = split (is_faulty file size part) e
  where
    split : (b : Bool) → (if b then Some (Segment i) else faulty_from file size (suc i) parts) ≡ None
        → (b ≡ false) × (faulty_from file size (suc i) parts ≡ None)
    split true e = absurd (let never : ⊥ = cc in never)
    split false e = (refl, e)

-- and so none of them is
pub right_part : (file : List ℕ) (size at i count k : ℕ) → faulty_from file size i (parts_from file at count) ≡ None → k < count
    → is_faulty file size (part_at file (at + 32 * k)) ≡ false
right_part file size at i zero k e within = absurd (omega (arith, within))
right_part file size at i (suc count) zero e within =
    ap (λ n. is_faulty file size (part_at file n)) (let same : at + 32 * 0 ≡ at = omega arith in same)
    ∙ (fault_past file size i (part_at file at) (parts_from file (at + 32) count) e).0
right_part file size at i (suc count) (suc k) e within =
    ap (λ n. is_faulty file size (part_at file n)) (let same : at + 32 * suc k ≡ at + 32 + 32 * k = omega arith in same)
    ∙ right_part file size (at + 32) (suc i) count k (fault_past file size i (part_at file at) (parts_from file (at + 32) count) e).1
    (omega (arith, within))

-- at the ends of the loop over them
pub none_left : (file : List ℕ) (start count i : ℕ) → i ≡ count → [] ≡ parts_from file (start + 32 * i) (count - i)
none_left file start count i e = ap (parts_from file (start + 32 * i)) (let none : 0 ≡ count - i = omega (arith, e) in none)

pub all_parts : (file : List ℕ) (start count i : ℕ) → i ≤ 0 → parts_from file (start + 32 * i) (count - i) ≡ parts_from file start count
all_parts file start count zero e = ap (λ at. parts_from file at (count - 0)) (let same : start + 32 * 0 ≡ start = omega arith in same)
    ∙ ap (parts_from file start) (let same : count - 0 ≡ count = omega arith in same)
all_parts file start count (suc i) e = absurd (omega (arith, e))
