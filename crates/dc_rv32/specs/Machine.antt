-- The machine: 32 registers, a pc and a memory of bytes from address 0; what each instruction does to it
-- (RISC-V unprivileged manual, RV32I 2.1).
use Rattle.std.specs.Prelude.{ℕ, ◌≤◌, ◌+◌, ◌*◌, ◌/◌, ◌%◌, ◌==◌, Bool, false, true, List, length, Option, None, Some, Result, Ok, Err, if◌then◌else◌, not, nat_lt, slice_index, slice_set}
use Rattle.dc_isa.specs.Fields.{extended}
use Rattle.dc_isa.specs.Decoded.{decoded}
use Rattle.dc_isa.specs.declared.instr.LoadOp.{LoadOp}
use Rattle.dc_isa.specs.declared.instr.StoreOp.{StoreOp}
use Rattle.dc_isa.specs.declared.instr.Instr.{Instr}
use Rattle.dc_isa.specs.declared.instr.Instr.TheVariants.{Upper, Jal, Jalr, Branch, Load, Store, Immediate, Shift, Register, Fence, Ecall, Ebreak}
use Rattle.dc_isa.specs.declared.regs.Regs.{Regs}
use Rattle.dc_words.specs.Words.{bytes_in, word_at}
use Rattle.dc_rv32.specs.Access.{load_width, loaded, store_width, stored}
use Rattle.dc_rv32.specs.Arithmetic.{sum_of, of_registers, of_immediate, of_shift, of_upper, is_taken}
use Rattle.dc_rv32.specs.Bytes.{with_bytes}
use Rattle.dc_rv32.specs.declared.machine.Stepped.{Stepped}
use Rattle.dc_rv32.specs.declared.machine.Stepped.TheVariants.{Retired, Call, Trap}

-- registers, pc, and the bytes of memory from address 0
pub record Machine : Type 0 where
  pub registers : List ℕ
  pub pc : ℕ
  pub memory : List ℕ

-- the machine of registers and a memory of words
abbrev pub machine_of : Regs → List ℕ → Machine
machine_of regs words = record { registers = regs.x; pc = regs.pc; memory = bytes_in words }

-- the registers after a write; x0 stays 0
abbrev pub written : List ℕ → ℕ → ℕ → List ℕ
written registers rd w = if rd == 0 then registers else slice_set registers rd w

-- the address behind the instruction at pc
abbrev pub next_pc : Machine → ℕ
next_pc m = sum_of m.pc 4

-- the word of a register
abbrev pub register : Machine → ℕ → ℕ
register m r = slice_index m.registers r

-- the sum of a register and a sign-extended immediate of 12 bits
abbrev pub address : Machine → ℕ → ℕ → ℕ
address m rs1 imm = sum_of (register m rs1) (extended 12 imm)

-- a word goes to a register, and the next instruction is next
abbrev pub writing : Machine → ℕ → ℕ → Machine × Stepped
writing m rd w = (record m { registers = written m.registers rd w; pc = next_pc m }, Retired)

-- the instruction at the target is next, and the address after this one goes to a register
abbrev pub jumping : Machine → ℕ → ℕ → Machine × Stepped
jumping m rd target = if target % 4 == 0 then (record m { registers = written m.registers rd (next_pc m); pc = target }, Retired) else (m, Trap 0)

-- a jump that links to no register, where it is taken
abbrev pub branching : Machine → Bool → ℕ → Machine × Stepped
branching m taken target = if taken then jumping m 0 target else (record m { pc = next_pc m }, Retired)

-- a load: traps in their order, else the register is written
abbrev pub loading : Machine → LoadOp → ℕ → ℕ → Machine × Stepped
loading m op rd a = if not (a % load_width op == 0) then (m, Trap 4)
    else if nat_lt (length m.memory) (a + load_width op) then (m, Trap 5)
    else writing m rd (loaded op m.memory a)

-- a store: traps in their order, else the bytes are written
abbrev pub storing : Machine → StoreOp → ℕ → ℕ → Machine × Stepped
storing m op a w = if not (a % store_width op == 0) then (m, Trap 6)
    else if nat_lt (length m.memory) (a + store_width op) then (m, Trap 7)
    else (record m { memory = with_bytes m.memory a (stored op w); pc = next_pc m }, Retired)

-- what an instruction does: the machine after it, and what the step was
abbrev pub meaning : Instr → Machine → Machine × Stepped
meaning (Upper op rd imm) m = writing m rd (of_upper op m.pc imm)
meaning (Jal rd imm) m = jumping m rd (sum_of m.pc (extended 21 imm))
meaning (Jalr rd rs1 imm) m = jumping m rd (address m rs1 imm / 2 * 2)
meaning (Branch op rs1 rs2 imm) m = branching m (is_taken op (register m rs1) (register m rs2)) (sum_of m.pc (extended 13 imm))
meaning (Load op rd rs1 imm) m = loading m op rd (address m rs1 imm)
meaning (Store op rs1 rs2 imm) m = storing m op (address m rs1 imm) (register m rs2)
meaning (Immediate op rd rs1 imm) m = writing m rd (of_immediate op (register m rs1) (extended 12 imm))
meaning (Shift op rd rs1 amount) m = writing m rd (of_shift op (register m rs1) amount)
meaning (Register op rd rs1 rs2) m = writing m rd (of_registers op (register m rs1) (register m rs2))
meaning (Fence bits) m = (record m { pc = next_pc m }, Retired)
meaning Ecall m = (m, Call)
meaning Ebreak m = (m, Trap 3)

-- a word that codes no instruction is a trap of cause 2
abbrev pub meaning_or_trap : Option Instr → Machine → Machine × Stepped
meaning_or_trap None m = (m, Trap 2)
meaning_or_trap (Some i) m = meaning i m

-- one step: a trap of cause 1 where no word lies at pc, else what the word there codes
unfoldable pub stepped : Machine → Machine × Stepped
stepped m = if nat_lt (length m.memory) (m.pc + 4) then (m, Trap 1) else meaning_or_trap (decoded (word_at m.memory m.pc)) m

-- an instruction that stores
abbrev pub is_store : Instr → Bool
is_store (Store op rs1 rs2 imm) = true
is_store _ = false

-- a word that codes one
abbrev pub codes_store : Option Instr → Bool
codes_store None = false
codes_store (Some i) = is_store i

-- the next step stores, unless it traps
unfoldable pub stores : Machine → Bool
stores m = if nat_lt (length m.memory) (m.pc + 4) then false else codes_store (decoded (word_at m.memory m.pc))

-- the same, where the instruction at pc or the cause of the trap there was found
abbrev pub stores_fetched : Result Instr ℕ → Bool
stores_fetched (Ok i) = is_store i
stores_fetched (Err cause) = false

-- the same, where the instruction at pc or the cause of the trap there was found
abbrev pub after_fetch : Result Instr ℕ → Machine → Machine × Stepped
after_fetch (Ok i) m = meaning i m
after_fetch (Err cause) m = (m, Trap cause)

-- a fact that holds of a call and of a trap
abbrev pub UnlessRetired : Stepped → Type 0 → Type 0
UnlessRetired Retired fact = Unit {0}
UnlessRetired Call fact = fact
UnlessRetired (Trap cause) fact = fact

-- the causes of traps are 0 to 7
abbrev pub IsCause : Stepped → Type 0
IsCause (Trap cause) = cause ≤ 7
IsCause _ = Unit {0}

-- whether a step is a call
abbrev pub is_call : Stepped → Bool
is_call Call = true
is_call _ = false
