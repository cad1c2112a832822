-- The table read from the word's side.
use Rattle.std.specs.Prelude.{ℕ, ◌==◌, Option, None, Some, if◌then◌else◌}
use Rattle.std.specs.Option.{option_map}
use Rattle.dc_isa.specs.Fields.{field, jump_offset, branch_offset, store_immediate, fence_bits}
use Rattle.dc_isa.specs.declared.instr.Instr.{Instr}
use Rattle.dc_isa.specs.declared.instr.Instr.TheVariants.{Upper, Jal, Jalr, Branch, Load, Store, Immediate, Shift, Register, Fence, Ecall, Ebreak}
use Rattle.dc_isa.specs.declared.instr.UpperOp.TheVariants.{Lui, Auipc}
use Rattle.dc_isa.specs.declared.instr.ImmediateOp.{ImmediateOp}
use Rattle.dc_isa.specs.declared.instr.ImmediateOp.TheVariants.{Addi, Slti, Sltiu, Xori, Ori, Andi}
use Rattle.dc_isa.specs.declared.instr.LoadOp.{LoadOp}
use Rattle.dc_isa.specs.declared.instr.LoadOp.TheVariants.{Lb, Lh, Lw, Lbu, Lhu}
use Rattle.dc_isa.specs.declared.instr.StoreOp.{StoreOp}
use Rattle.dc_isa.specs.declared.instr.StoreOp.TheVariants.{Sb, Sh, Sw}
use Rattle.dc_isa.specs.declared.instr.BranchOp.{BranchOp}
use Rattle.dc_isa.specs.declared.instr.BranchOp.TheVariants.{Beq, Bne, Blt, Bge, Bltu, Bgeu}
use Rattle.dc_isa.specs.declared.instr.ShiftOp.{ShiftOp}
use Rattle.dc_isa.specs.declared.instr.ShiftOp.TheVariants.{Slli, Srli, Srai}
use Rattle.dc_isa.specs.declared.instr.RegisterOp.{RegisterOp}
use Rattle.dc_isa.specs.declared.instr.RegisterOp.TheVariants.{Add, Sub, Sll, Slt, Sltu, Xor, Srl, Sra, Or, And}

-- the operation of a funct3 within an opcode
abbrev pub immediate_at : ℕ → Option ImmediateOp
immediate_at funct3 =
    if funct3 == 0 then Some Addi
    else if funct3 == 2 then Some Slti
    else if funct3 == 3 then Some Sltiu
    else if funct3 == 4 then Some Xori
    else if funct3 == 6 then Some Ori
    else if funct3 == 7 then Some Andi
    else None

-- the load of a funct3
abbrev pub load_at : ℕ → Option LoadOp
load_at funct3 =
    if funct3 == 0 then Some Lb
    else if funct3 == 1 then Some Lh
    else if funct3 == 2 then Some Lw
    else if funct3 == 4 then Some Lbu
    else if funct3 == 5 then Some Lhu
    else None

-- the store of a funct3
abbrev pub store_at : ℕ → Option StoreOp
store_at funct3 =
    if funct3 == 0 then Some Sb
    else if funct3 == 1 then Some Sh
    else if funct3 == 2 then Some Sw
    else None

-- the branch of a funct3
abbrev pub branch_at : ℕ → Option BranchOp
branch_at funct3 =
    if funct3 == 0 then Some Beq
    else if funct3 == 1 then Some Bne
    else if funct3 == 4 then Some Blt
    else if funct3 == 5 then Some Bge
    else if funct3 == 6 then Some Bltu
    else if funct3 == 7 then Some Bgeu
    else None

-- the shift by an immediate of a funct3 with funct7 0
abbrev pub plain_shift_at : ℕ → Option ShiftOp
plain_shift_at funct3 =
    if funct3 == 1 then Some Slli
    else if funct3 == 5 then Some Srli
    else None

-- the shift by an immediate of a funct3 with funct7 32
abbrev pub other_shift_at : ℕ → Option ShiftOp
other_shift_at funct3 =
    if funct3 == 5 then Some Srai
    else None

-- the shift by an immediate of a funct3 and a funct7
abbrev pub shift_at : ℕ → ℕ → Option ShiftOp
shift_at funct3 funct7 =
    if funct7 == 0 then plain_shift_at funct3
    else if funct7 == 32 then other_shift_at funct3
    else None

-- the operation on two registers of a funct3 with funct7 0
abbrev pub plain_register_at : ℕ → Option RegisterOp
plain_register_at funct3 =
    if funct3 == 0 then Some Add
    else if funct3 == 1 then Some Sll
    else if funct3 == 2 then Some Slt
    else if funct3 == 3 then Some Sltu
    else if funct3 == 4 then Some Xor
    else if funct3 == 5 then Some Srl
    else if funct3 == 6 then Some Or
    else if funct3 == 7 then Some And
    else None

-- the operation on two registers of a funct3 with funct7 32
abbrev pub other_register_at : ℕ → Option RegisterOp
other_register_at funct3 =
    if funct3 == 0 then Some Sub
    else if funct3 == 5 then Some Sra
    else None

-- the operation on two registers of a funct3 and a funct7
abbrev pub register_at : ℕ → ℕ → Option RegisterOp
register_at funct3 funct7 =
    if funct7 == 0 then plain_register_at funct3
    else if funct7 == 32 then other_register_at funct3
    else None

-- JALR, of a word with its opcode
abbrev pub jump_register_row : ℕ → Option Instr
jump_register_row w =
    if field w 12 3 == 0 then Some (Jalr (field w 7 5) (field w 15 5) (field w 20 12))
    else None

-- the branch of a word with the opcode BRANCH
abbrev pub branch_row : ℕ → Option Instr
branch_row w =
    option_map (λ op. Branch op (field w 15 5) (field w 20 5) (branch_offset w))
    (branch_at (field w 12 3))

-- the load of a word with the opcode LOAD
abbrev pub load_row : ℕ → Option Instr
load_row w =
    option_map (λ op. Load op (field w 7 5) (field w 15 5) (field w 20 12))
    (load_at (field w 12 3))

-- the store of a word with the opcode STORE
abbrev pub store_row : ℕ → Option Instr
store_row w =
    option_map (λ op. Store op (field w 15 5) (field w 20 5) (store_immediate w))
    (store_at (field w 12 3))

-- the shift of a word with the opcode OP-IMM and this funct3
abbrev pub shift_row : ℕ → ℕ → Option Instr
shift_row funct3 w =
    option_map (λ op. Shift op (field w 7 5) (field w 15 5) (field w 20 5))
    (shift_at funct3 (field w 25 7))

-- the operation of a word with the opcode OP-IMM
abbrev pub immediate_row : ℕ → Option Instr
immediate_row w =
    if field w 12 3 == 1 then shift_row 1 w
    else if field w 12 3 == 5 then shift_row 5 w
    else option_map (λ op. Immediate op (field w 7 5) (field w 15 5) (field w 20 12))
    (immediate_at (field w 12 3))

-- the operation of a word with the opcode OP
abbrev pub register_row : ℕ → Option Instr
register_row w =
    option_map (λ op. Register op (field w 7 5) (field w 15 5) (field w 20 5))
    (register_at (field w 12 3) (field w 25 7))

-- ECALL or EBREAK, of a word with the opcode SYSTEM
abbrev pub system_row : ℕ → Option Instr
system_row w =
    if w == 115 then Some Ecall
    else if w == 1048691 then Some Ebreak
    else None

-- FENCE, of a word with the opcode MISC-MEM
abbrev pub fence_row : ℕ → Option Instr
fence_row w =
    if field w 12 3 == 0 then Some (Fence (fence_bits w))
    else None

-- the instruction of a word
abbrev pub decoded : ℕ → Option Instr
decoded w =
    if field w 0 7 == 55 then Some (Upper Lui (field w 7 5) (field w 12 20))
    else if field w 0 7 == 23 then Some (Upper Auipc (field w 7 5) (field w 12 20))
    else if field w 0 7 == 111 then Some (Jal (field w 7 5) (jump_offset w))
    else if field w 0 7 == 103 then jump_register_row w
    else if field w 0 7 == 99 then branch_row w
    else if field w 0 7 == 3 then load_row w
    else if field w 0 7 == 35 then store_row w
    else if field w 0 7 == 19 then immediate_row w
    else if field w 0 7 == 51 then register_row w
    else if field w 0 7 == 115 then system_row w
    else if field w 0 7 == 15 then fence_row w
    else None
