-- The instruction table: for each operation its fixed bits, and which word codes which instruction.
use Rattle.std.specs.Prelude.{◌≡◌, ℕ, ◌<◌, ◌^◌, ◌%◌}
use Rattle.dc_isa.specs.Formats.{IsU, IsJ, IsI, IsS, IsB, IsR, IsFence}
use Rattle.dc_isa.specs.declared.instr.Instr.{Instr}
use Rattle.dc_isa.specs.declared.instr.Instr.TheVariants.{Upper, Jal, Jalr, Branch, Load, Store, Immediate, Shift, Register, Fence, Ecall, Ebreak}
use Rattle.dc_isa.specs.declared.instr.UpperOp.{UpperOp}
use Rattle.dc_isa.specs.declared.instr.UpperOp.TheVariants.{Lui, Auipc}
use Rattle.dc_isa.specs.declared.instr.BranchOp.{BranchOp}
use Rattle.dc_isa.specs.declared.instr.BranchOp.TheVariants.{Beq, Bne, Blt, Bge, Bltu, Bgeu}
use Rattle.dc_isa.specs.declared.instr.LoadOp.{LoadOp}
use Rattle.dc_isa.specs.declared.instr.LoadOp.TheVariants.{Lb, Lh, Lw, Lbu, Lhu}
use Rattle.dc_isa.specs.declared.instr.StoreOp.{StoreOp}
use Rattle.dc_isa.specs.declared.instr.StoreOp.TheVariants.{Sb, Sh, Sw}
use Rattle.dc_isa.specs.declared.instr.ImmediateOp.{ImmediateOp}
use Rattle.dc_isa.specs.declared.instr.ImmediateOp.TheVariants.{Addi, Slti, Sltiu, Xori, Ori, Andi}
use Rattle.dc_isa.specs.declared.instr.ShiftOp.{ShiftOp}
use Rattle.dc_isa.specs.declared.instr.ShiftOp.TheVariants.{Slli, Srli, Srai}
use Rattle.dc_isa.specs.declared.instr.RegisterOp.{RegisterOp}
use Rattle.dc_isa.specs.declared.instr.RegisterOp.TheVariants.{Add, Sub, Sll, Slt, Sltu, Xor, Srl, Sra, Or, And}

-- opcode of each operation on the upper bits
abbrev pub upper_opcode : UpperOp → ℕ
upper_opcode Lui = 55
upper_opcode Auipc = 23

-- funct3 of each branch
abbrev pub branch_funct3 : BranchOp → ℕ
branch_funct3 Beq = 0
branch_funct3 Bne = 1
branch_funct3 Blt = 4
branch_funct3 Bge = 5
branch_funct3 Bltu = 6
branch_funct3 Bgeu = 7

-- funct3 of each load
abbrev pub load_funct3 : LoadOp → ℕ
load_funct3 Lb = 0
load_funct3 Lh = 1
load_funct3 Lw = 2
load_funct3 Lbu = 4
load_funct3 Lhu = 5

-- funct3 of each store
abbrev pub store_funct3 : StoreOp → ℕ
store_funct3 Sb = 0
store_funct3 Sh = 1
store_funct3 Sw = 2

-- funct3 of each operation on an immediate
abbrev pub immediate_funct3 : ImmediateOp → ℕ
immediate_funct3 Addi = 0
immediate_funct3 Slti = 2
immediate_funct3 Sltiu = 3
immediate_funct3 Xori = 4
immediate_funct3 Ori = 6
immediate_funct3 Andi = 7

-- funct3 of each shift by an immediate
abbrev pub shift_funct3 : ShiftOp → ℕ
shift_funct3 Slli = 1
shift_funct3 Srli = 5
shift_funct3 Srai = 5

-- funct7 of each shift by an immediate
abbrev pub shift_funct7 : ShiftOp → ℕ
shift_funct7 Slli = 0
shift_funct7 Srli = 0
shift_funct7 Srai = 32

-- funct3 of each operation on two registers
abbrev pub register_funct3 : RegisterOp → ℕ
register_funct3 Add = 0
register_funct3 Sub = 0
register_funct3 Sll = 1
register_funct3 Slt = 2
register_funct3 Sltu = 3
register_funct3 Xor = 4
register_funct3 Srl = 5
register_funct3 Sra = 5
register_funct3 Or = 6
register_funct3 And = 7

-- funct7 of each operation on two registers
abbrev pub register_funct7 : RegisterOp → ℕ
register_funct7 Add = 0
register_funct7 Sub = 32
register_funct7 Sll = 0
register_funct7 Slt = 0
register_funct7 Sltu = 0
register_funct7 Xor = 0
register_funct7 Srl = 0
register_funct7 Sra = 32
register_funct7 Or = 0
register_funct7 And = 0

-- the opcode and the fixed bits of each instruction, in its format
abbrev pub Codes : Instr → ℕ → Type 0
Codes (Upper op rd imm) w = IsU w (upper_opcode op) rd imm
Codes (Jal rd imm) w = IsJ w 111 rd imm
Codes (Jalr rd rs1 imm) w = IsI w 103 0 rd rs1 imm
Codes (Branch op rs1 rs2 imm) w = IsB w 99 (branch_funct3 op) rs1 rs2 imm
Codes (Load op rd rs1 imm) w = IsI w 3 (load_funct3 op) rd rs1 imm
Codes (Store op rs1 rs2 imm) w = IsS w 35 (store_funct3 op) rs1 rs2 imm
Codes (Immediate op rd rs1 imm) w = IsI w 19 (immediate_funct3 op) rd rs1 imm
Codes (Shift op rd rs1 amount) w = IsR w 19 (shift_funct3 op) (shift_funct7 op) rd rs1 amount
Codes (Register op rd rs1 rs2) w = IsR w 51 (register_funct3 op) (register_funct7 op) rd rs1 rs2
Codes (Fence bits) w = IsFence w 15 0 bits
Codes Ecall w = w ≡ 115
Codes Ebreak w = w ≡ 1048691

-- registers are under 32, and immediates fit their format
abbrev pub Fits : Instr → Type 0
Fits (Upper op rd imm) = (rd < 2 ^ 5) × (imm < 2 ^ 20)
Fits (Jal rd imm) = (rd < 2 ^ 5) × (imm < 2 ^ 21) × (imm % 2 ≡ 0)
Fits (Jalr rd rs1 imm) = (rd < 2 ^ 5) × (rs1 < 2 ^ 5) × (imm < 2 ^ 12)
Fits (Branch op rs1 rs2 imm) = (rs1 < 2 ^ 5) × (rs2 < 2 ^ 5) × (imm < 2 ^ 13) × (imm % 2 ≡ 0)
Fits (Load op rd rs1 imm) = (rd < 2 ^ 5) × (rs1 < 2 ^ 5) × (imm < 2 ^ 12)
Fits (Store op rs1 rs2 imm) = (rs1 < 2 ^ 5) × (rs2 < 2 ^ 5) × (imm < 2 ^ 12)
Fits (Immediate op rd rs1 imm) = (rd < 2 ^ 5) × (rs1 < 2 ^ 5) × (imm < 2 ^ 12)
Fits (Shift op rd rs1 amount) = (rd < 2 ^ 5) × (rs1 < 2 ^ 5) × (amount < 2 ^ 5)
Fits (Register op rd rs1 rs2) = (rd < 2 ^ 5) × (rs1 < 2 ^ 5) × (rs2 < 2 ^ 5)
Fits (Fence bits) = bits < 2 ^ 22
Fits Ecall = Unit {0}
Fits Ebreak = Unit {0}
