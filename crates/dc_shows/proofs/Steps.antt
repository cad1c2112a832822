-- A step leaves words in the registers and in the pc, and bytes in memory.
use Rattle.std.proofs.Common.{◌≡◌, ◌∙◌, ◌<◌, ◌≤◌, ◌+◌, ◌-◌, ◌*◌, ◌/◌, ◌%◌, ◌^◌, ◌==◌, ℕ, Bool, true, false, not, List, ◌++◌, Option, None, Some, IfSome, ap, subst, arith, if◌then◌else◌, length, take, drop, nat_lt, slice_index, slice_set, option_map}
use Rattle.std.specs.Int.Bits.{and_lt}
use Rattle.std.proofs.lemmas.Nat.{xor_lt, or_lt, pow-add, pow_pos}
use Rattle.std.proofs.Math.Nat.{div-lt_iff_lt-mul, div-le_self, mod-lt}
use Rattle.dc_isa.specs.Decoded.{decoded, immediate_at, load_at, store_at, branch_at, shift_at, register_at, shift_row, immediate_row}
use Rattle.dc_isa.specs.Fields.{extended, field}
use Rattle.dc_isa.specs.declared.instr.Instr.{Instr}
use Rattle.dc_isa.specs.declared.instr.Instr.TheVariants.{Upper, Jal, Jalr, Branch, Load, Store, Immediate, Shift, Register, Fence, Ecall, Ebreak}
use Rattle.dc_isa.specs.declared.instr.UpperOp.{UpperOp}
use Rattle.dc_isa.specs.declared.instr.UpperOp.TheVariants.{Lui, Auipc}
use Rattle.dc_isa.specs.declared.instr.ImmediateOp.{ImmediateOp}
use Rattle.dc_isa.specs.declared.instr.ImmediateOp.TheVariants.{Addi, Slti, Sltiu, Xori, Ori, Andi}
use Rattle.dc_isa.specs.declared.instr.LoadOp.{LoadOp}
use Rattle.dc_isa.specs.declared.instr.LoadOp.TheVariants.{Lb, Lh, Lw, Lbu, Lhu}
use Rattle.dc_isa.specs.declared.instr.StoreOp.{StoreOp}
use Rattle.dc_isa.specs.declared.instr.ShiftOp.{ShiftOp}
use Rattle.dc_isa.specs.declared.instr.ShiftOp.TheVariants.{Slli, Srli, Srai}
use Rattle.dc_isa.specs.declared.instr.RegisterOp.{RegisterOp}
use Rattle.dc_isa.specs.declared.instr.RegisterOp.TheVariants.{Add, Sub, Sll, Slt, Sltu, Xor, Srl, Sra, Or, And}
use Rattle.dc_rv32.specs.Access.{load_width, loaded, store_width, stored}
use Rattle.dc_rv32.specs.Arithmetic.{bit_of, of_immediate, of_registers, of_shift, of_upper, is_taken, shifted_with_sign, sum_of}
use Rattle.dc_rv32.specs.Bytes.{with_bytes}
use Rattle.dc_rv32.specs.Machine.{Machine, address, branching, jumping, loading, meaning, meaning_or_trap, next_pc, register, stepped, storing, writing, written}
use Rattle.dc_words.specs.Words.{AllBelow, half_at, word_at, word_bytes}
use Rattle.dc_kernel.proofs.Parts.{below-append, below-drop, below-take}
use Rattle.dc_shows.specs.Typed.{IsMachine, IsStep}
use Rattle.dc_shows.proofs.Lists.{below-index, below-set, by_test}

-- what is known of a field's immediate or amount
abbrev Good : Instr → Type 0
Good (Upper op rd imm) = imm < 2 ^ 20
Good (Immediate op rd rs1 imm) = imm < 2 ^ 12
Good (Shift op rd rs1 amount) = amount < 32
Good _ = Unit {0}

field_small : (w low count : ℕ) → 0 < 2 ^ count → field w low count < 2 ^ count
field_small w low count some = omega (arith, some)

map_good : {A : Type 0} (o : Option A) (f : A → Instr) → ((a : A) → Good (f a)) → IfSome (option_map f o) Good
map_good None f good = tt
map_good (Some a) f good = good a

good_row : (b : Bool) (x y : Option Instr) → IfSome x Good → IfSome y Good → IfSome (if b then x else y) Good
good_row true x y a c = a
good_row false x y a c = c

good_shift : (funct3 w : ℕ) → IfSome (shift_row funct3 w) Good
good_shift funct3 w = map_good (shift_at funct3 (field w 25 7)) (λ op. Shift op (field w 7 5) (field w 15 5) (field w 20 5)) (λ op. omega arith)

good_immediate : (w : ℕ) → IfSome (immediate_row w) Good
good_immediate w = good_row (field w 12 3 == 1) _ _ (good_shift 1 w) (good_row (field w 12 3 == 5) _ _ (good_shift 5 w)
    (map_good (immediate_at (field w 12 3)) (λ op. Immediate op (field w 7 5) (field w 15 5) (field w 20 12)) (λ op. omega arith)))

good_decoded : (w : ℕ) → IfSome (decoded w) Good
good_decoded w =
    good_row (field w 0 7 == 55) _ _ (omega arith) (
    good_row (field w 0 7 == 23) _ _ (omega arith) (
    good_row (field w 0 7 == 111) _ _ tt (
    good_row (field w 0 7 == 103) _ _ (good_row (field w 12 3 == 0) _ _ tt tt) (
    good_row (field w 0 7 == 99) _ _ (map_good (branch_at (field w 12 3)) _ (λ op. tt)) (
    good_row (field w 0 7 == 3) _ _ (map_good (load_at (field w 12 3)) _ (λ op. tt)) (
    good_row (field w 0 7 == 35) _ _ (map_good (store_at (field w 12 3)) _ (λ op. tt)) (
    good_row (field w 0 7 == 19) _ _ (good_immediate w) (
    good_row (field w 0 7 == 51) _ _ (map_good (register_at (field w 12 3) (field w 25 7)) _ (λ op. tt)) (
    good_row (field w 0 7 == 115) _ _ (good_row (w == 115) _ _ tt (good_row (w == 1048691) _ _ tt tt)) (
    good_row (field w 0 7 == 15) _ _ (good_row (field w 12 3 == 0) _ _ tt tt) tt))))))))))

-- what the operations compute is a word
bit_small : (b : Bool) → bit_of b < 2 ^ 32
bit_small true = omega arith
bit_small false = omega arith

less_shifted : (a amount : ℕ) → a < 2 ^ 32 → a / 2 ^ amount ≤ a
less_shifted a amount small = div-le_self a (2 ^ amount)

pow_some : (n : ℕ) → 0 < 2 ^ n
pow_some n = pow_pos n

parts : (amount : ℕ) → amount < 32 → 2 ^ 32 ≡ 2 ^ (32 - amount) * 2 ^ amount
parts amount few = ap (λ n. 2 ^ n) (let e : 32 ≡ (32 - amount) + amount = omega (arith, few) in e) ∙ pow-add 2 (32 - amount) amount

sign_shifted : (a amount : ℕ) → a < 2 ^ 32 → amount < 32 → shifted_with_sign a amount < 2 ^ 32
sign_shifted a amount small few = by_test (λ x. x < 2 ^ 32) (nat_lt a (2 ^ 31)) (a / 2 ^ amount) (a / 2 ^ amount + (2 ^ 32 - 2 ^ (32 - amount)))
    (let h = less_shifted a amount small in omega (arith, h, small))
    (let h = less_shifted a amount small in let below = (div-lt_iff_lt-mul {k = 2 ^ amount} {x = a} {y = 2 ^ (32 - amount)} (pow_some amount)).1 (subst (λ (x : ℕ). a < x) (parts amount few) small) in omega (arith, h, small, below))

of_registers_small : (op : RegisterOp) (a b : ℕ) → a < 2 ^ 32 → b < 2 ^ 32 → of_registers op a b < 2 ^ 32
of_registers_small Add a b x y = omega arith
of_registers_small Sub a b x y = omega arith
of_registers_small Sll a b x y = mod-lt (a * 2 ^ (b % 2 ^ 5)) (omega arith)
of_registers_small Slt a b x y = bit_small _
of_registers_small Sltu a b x y = bit_small _
of_registers_small Xor a b x y = xor_lt 32 a b x y
of_registers_small Srl a b x y = let h = less_shifted a (b % 2 ^ 5) x in omega (arith, h, x)
of_registers_small Sra a b x y = sign_shifted a (b % 2 ^ 5) x (omega arith)
of_registers_small Or a b x y = or_lt 32 a b x y
of_registers_small And a b x y = and_lt 32 a b x y

of_immediate_small : (op : ImmediateOp) (a b : ℕ) → a < 2 ^ 32 → b < 2 ^ 32 → of_immediate op a b < 2 ^ 32
of_immediate_small Addi a b x y = omega arith
of_immediate_small Slti a b x y = bit_small _
of_immediate_small Sltiu a b x y = bit_small _
of_immediate_small Xori a b x y = xor_lt 32 a b x y
of_immediate_small Ori a b x y = or_lt 32 a b x y
of_immediate_small Andi a b x y = and_lt 32 a b x y

of_shift_small : (op : ShiftOp) (a amount : ℕ) → a < 2 ^ 32 → amount < 32 → of_shift op a amount < 2 ^ 32
of_shift_small Slli a amount x few = mod-lt (a * 2 ^ amount) (omega arith)
of_shift_small Srli a amount x few = let h = less_shifted a amount x in omega (arith, h, x)
of_shift_small Srai a amount x few = sign_shifted a amount x few

of_upper_small : (op : UpperOp) (pc imm : ℕ) → imm < 2 ^ 20 → of_upper op pc imm < 2 ^ 32
of_upper_small Lui pc imm small = omega (arith, small)
of_upper_small Auipc pc imm small = omega arith

extended_small : (n : ℕ) → n < 2 ^ 12 → extended 12 n < 2 ^ 32
extended_small n small = by_test (λ x. x < 2 ^ 32) (nat_lt n (2 ^ 11)) n (n + 2 ^ 32 - 2 ^ 12) (omega (arith, small)) (omega (arith, small))

byte_small : (n : ℕ) → n < 2 ^ 8 → extended 8 n < 2 ^ 32
byte_small n small = by_test (λ x. x < 2 ^ 32) (nat_lt n (2 ^ 7)) n (n + 2 ^ 32 - 2 ^ 8) (omega (arith, small)) (omega (arith, small))

half_small : (n : ℕ) → n < 2 ^ 16 → extended 16 n < 2 ^ 32
half_small n small = by_test (λ x. x < 2 ^ 32) (nat_lt n (2 ^ 15)) n (n + 2 ^ 32 - 2 ^ 16) (omega (arith, small)) (omega (arith, small))

module _ (memory : List ℕ) (bytes : AllBelow (2 ^ 8) memory) where
  at : (a : ℕ) → slice_index memory a < 2 ^ 8
  at a = below-index (2 ^ 8) memory a (omega arith) bytes

  half : (a : ℕ) → half_at memory a < 2 ^ 16
  half a = let x = at a in let y = at (a + 1) in omega (arith, x, y)

  word : (a : ℕ) → word_at memory a < 2 ^ 32
  word a = let x = at a in let y = at (a + 1) in let z = at (a + 2) in let v = at (a + 3) in omega (arith, x, y, z, v)

  loaded_small : (op : LoadOp) (a : ℕ) → loaded op memory a < 2 ^ 32
  loaded_small Lb a = byte_small (slice_index memory a) (at a)
  loaded_small Lh a = half_small (half_at memory a) (half a)
  loaded_small Lw a = word a
  loaded_small Lbu a = let x = at a in omega (arith, x)
  loaded_small Lhu a = let x = half a in omega (arith, x)

word_below : (w : ℕ) → AllBelow (2 ^ 8) (word_bytes w)
word_below w = (omega arith, (omega arith, (omega arith, (omega arith, tt))))

pub with_below : (memory bytes : List ℕ) (a : ℕ) → AllBelow (2 ^ 8) memory → AllBelow (2 ^ 8) bytes → AllBelow (2 ^ 8) (with_bytes memory a bytes)
with_below memory bytes a old new = below-append (2 ^ 8) (take a memory ++ bytes) (drop (a + length bytes) memory)
    (below-append (2 ^ 8) (take a memory) bytes (below-take (2 ^ 8) a memory old) new) (below-drop (2 ^ 8) (a + length bytes) memory old)

module _ (m : Machine) (is : IsMachine m) where
  reg : (r : ℕ) → register m r < 2 ^ 32
  reg r = below-index (2 ^ 32) m.registers r (omega arith) is.registers

  wrote : (rd w : ℕ) → w < 2 ^ 32 → AllBelow (2 ^ 32) (written m.registers rd w)
  wrote rd w small = by_test (λ xs. AllBelow (2 ^ 32) xs) (rd == 0) m.registers (slice_set m.registers rd w) is.registers (below-set (2 ^ 32) m.registers rd w small is.registers)

  writes : (rd w : ℕ) → w < 2 ^ 32 → IsStep (writing m rd w)
  writes rd w small = (record { registers = wrote rd w small; pc = omega arith; memory = is.memory }, tt)

  jumps : (rd target : ℕ) → target < 2 ^ 32 → IsStep (jumping m rd target)
  jumps rd target small = by_test IsStep (target % 4 == 0) _ _ (record { registers = wrote rd (next_pc m) (omega arith); pc = small; memory = is.memory }, tt) (is, omega arith)

  branches : (taken : Bool) (target : ℕ) → target < 2 ^ 32 → IsStep (branching m taken target)
  branches true target small = jumps 0 target small
  branches false target small = (record { registers = is.registers; pc = omega arith; memory = is.memory }, tt)

  loads : (op : LoadOp) (rd a : ℕ) → IsStep (loading m op rd a)
  loads op rd a = by_test IsStep (not (a % load_width op == 0)) _ _ (is, omega arith)
      (by_test IsStep (nat_lt (length m.memory) (a + load_width op)) _ _ (is, omega arith) (writes rd (loaded op m.memory a) (loaded_small m.memory is.memory op a)))

  stores : (op : StoreOp) (a w : ℕ) → IsStep (storing m op a w)
  stores op a w = by_test IsStep (not (a % store_width op == 0)) _ _ (is, omega arith)
      (by_test IsStep (nat_lt (length m.memory) (a + store_width op)) _ _ (is, omega arith)
      (record { registers = is.registers; pc = omega arith; memory = with_below m.memory (stored op w) a is.memory (below-take (2 ^ 8) (store_width op) (word_bytes w) (word_below w)) }, tt))

  means : (i : Instr) → Good i → IsStep (meaning i m)
  means (Upper op rd imm) good = writes rd (of_upper op m.pc imm) (of_upper_small op m.pc imm good)
  means (Jal rd imm) good = jumps rd (sum_of m.pc (extended 21 imm)) (omega arith)
  means (Jalr rd rs1 imm) good = jumps rd (address m rs1 imm / 2 * 2) (omega arith)
  means (Branch op rs1 rs2 imm) good = branches (is_taken op (register m rs1) (register m rs2)) (sum_of m.pc (extended 13 imm)) (omega arith)
  means (Load op rd rs1 imm) good = loads op rd (address m rs1 imm)
  means (Store op rs1 rs2 imm) good = stores op (address m rs1 imm) (register m rs2)
  means (Immediate op rd rs1 imm) good = writes rd (of_immediate op (register m rs1) (extended 12 imm)) (of_immediate_small op (register m rs1) (extended 12 imm) (reg rs1) (extended_small imm good))
  means (Shift op rd rs1 amount) good = writes rd (of_shift op (register m rs1) amount) (of_shift_small op (register m rs1) amount (reg rs1) good)
  means (Register op rd rs1 rs2) good = writes rd (of_registers op (register m rs1) (register m rs2)) (of_registers_small op (register m rs1) (register m rs2) (reg rs1) (reg rs2))
  means (Fence bits) good = (record { registers = is.registers; pc = omega arith; memory = is.memory }, tt)
  means Ecall good = (is, tt)
  means Ebreak good = (is, omega arith)

  by_instr : (o : Option Instr) → IfSome o Good → IsStep (meaning_or_trap o m)
  by_instr None good = (is, omega arith)
  by_instr (Some i) good = means i good

  pub steps : IsStep (stepped m)
  unfolding stepped
  steps = by_test IsStep (nat_lt (length m.memory) (m.pc + 4)) _ _ (is, omega arith) (by_instr (decoded (word_at m.memory m.pc)) (good_decoded (word_at m.memory m.pc)))
