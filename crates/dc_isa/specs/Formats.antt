-- The instruction formats: where the fields of each stand in a word.
use Rattle.std.specs.Prelude.{◌≡◌, ℕ}
use Rattle.dc_isa.specs.Fields.{field, jump_offset, branch_offset, store_immediate, fence_bits}

-- opcode in bits 6..0, rd in 11..7, the upper 20 bits of the immediate in 31..12
pub record IsU (w opcode rd imm : ℕ) : Type 0 where
  pub opcode_is : field w 0 7 ≡ opcode
  pub rd_is : field w 7 5 ≡ rd
  pub imm_is : field w 12 20 ≡ imm

-- opcode, rd and the pieces of an offset
pub record IsJ (w opcode rd imm : ℕ) : Type 0 where
  pub opcode_is : field w 0 7 ≡ opcode
  pub rd_is : field w 7 5 ≡ rd
  pub imm_is : jump_offset w ≡ imm

-- funct3 in 14..12, rs1 in 19..15, the immediate in 31..20
pub record IsI (w opcode funct3 rd rs1 imm : ℕ) : Type 0 where
  pub opcode_is : field w 0 7 ≡ opcode
  pub funct3_is : field w 12 3 ≡ funct3
  pub rd_is : field w 7 5 ≡ rd
  pub rs1_is : field w 15 5 ≡ rs1
  pub imm_is : field w 20 12 ≡ imm

-- rs2 in 24..20, and the pieces of an immediate
pub record IsS (w opcode funct3 rs1 rs2 imm : ℕ) : Type 0 where
  pub opcode_is : field w 0 7 ≡ opcode
  pub funct3_is : field w 12 3 ≡ funct3
  pub rs1_is : field w 15 5 ≡ rs1
  pub rs2_is : field w 20 5 ≡ rs2
  pub imm_is : store_immediate w ≡ imm

-- the same with the pieces of an offset
pub record IsB (w opcode funct3 rs1 rs2 imm : ℕ) : Type 0 where
  pub opcode_is : field w 0 7 ≡ opcode
  pub funct3_is : field w 12 3 ≡ funct3
  pub rs1_is : field w 15 5 ≡ rs1
  pub rs2_is : field w 20 5 ≡ rs2
  pub imm_is : branch_offset w ≡ imm

-- rs2 in 24..20, funct7 in 31..25
pub record IsR (w opcode funct3 funct7 rd rs1 rs2 : ℕ) : Type 0 where
  pub opcode_is : field w 0 7 ≡ opcode
  pub funct3_is : field w 12 3 ≡ funct3
  pub funct7_is : field w 25 7 ≡ funct7
  pub rd_is : field w 7 5 ≡ rd
  pub rs1_is : field w 15 5 ≡ rs1
  pub rs2_is : field w 20 5 ≡ rs2

-- all bits but opcode and funct3 are free
pub record IsFence (w opcode funct3 bits : ℕ) : Type 0 where
  pub opcode_is : field w 0 7 ≡ opcode
  pub funct3_is : field w 12 3 ≡ funct3
  pub bits_is : fence_bits w ≡ bits
