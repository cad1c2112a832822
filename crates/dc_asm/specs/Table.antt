-- The mnemonics, each with its form.
use Rattle.std.specs.Prelude.{ℕ, List, Option, None, Some, option_map, if◌then◌else◌, codes}
use Rattle.std.specs.Option.{option_or}
use Rattle.std.specs.Str.{bytes_eq}
use Rattle.dc_isa.specs.declared.instr.UpperOp.TheVariants.{Lui, Auipc}
use Rattle.dc_isa.specs.declared.instr.BranchOp.{BranchOp}
use Rattle.dc_isa.specs.declared.instr.BranchOp.TheVariants.{Beq, Bne, Blt, Bge, Bltu, Bgeu}
use Rattle.dc_isa.specs.declared.instr.LoadOp.{LoadOp}
use Rattle.dc_isa.specs.declared.instr.LoadOp.TheVariants.{Lb, Lh, Lw, Lbu, Lhu}
use Rattle.dc_isa.specs.declared.instr.StoreOp.{StoreOp}
use Rattle.dc_isa.specs.declared.instr.StoreOp.TheVariants.{Sb, Sh, Sw}
use Rattle.dc_isa.specs.declared.instr.ImmediateOp.{ImmediateOp}
use Rattle.dc_isa.specs.declared.instr.ImmediateOp.TheVariants.{Addi, Slti, Sltiu, Xori, Ori, Andi}
use Rattle.dc_isa.specs.declared.instr.ShiftOp.{ShiftOp}
use Rattle.dc_isa.specs.declared.instr.ShiftOp.TheVariants.{Slli, Srli, Srai}
use Rattle.dc_isa.specs.declared.instr.RegisterOp.{RegisterOp}
use Rattle.dc_isa.specs.declared.instr.RegisterOp.TheVariants.{Add, Sub, Sll, Slt, Sltu, Xor, Srl, Sra, Or, And}
use Rattle.dc_asm.specs.declared.table.Form.{Form}
use Rattle.dc_asm.specs.declared.table.Form.TheVariants as form

-- the operation on two registers of a mnemonic
unfoldable pub register_op : List ℕ → Option RegisterOp
register_op text =
    if bytes_eq text (codes "add") then Some Add
    else if bytes_eq text (codes "sub") then Some Sub
    else if bytes_eq text (codes "sll") then Some Sll
    else if bytes_eq text (codes "slt") then Some Slt
    else if bytes_eq text (codes "sltu") then Some Sltu
    else if bytes_eq text (codes "xor") then Some Xor
    else if bytes_eq text (codes "srl") then Some Srl
    else if bytes_eq text (codes "sra") then Some Sra
    else if bytes_eq text (codes "or") then Some Or
    else if bytes_eq text (codes "and") then Some And
    else None

-- the operation on a register and an immediate of a mnemonic
unfoldable pub immediate_op : List ℕ → Option ImmediateOp
immediate_op text =
    if bytes_eq text (codes "addi") then Some Addi
    else if bytes_eq text (codes "slti") then Some Slti
    else if bytes_eq text (codes "sltiu") then Some Sltiu
    else if bytes_eq text (codes "xori") then Some Xori
    else if bytes_eq text (codes "ori") then Some Ori
    else if bytes_eq text (codes "andi") then Some Andi
    else None

-- the shift by an immediate of a mnemonic
unfoldable pub shift_op : List ℕ → Option ShiftOp
shift_op text =
    if bytes_eq text (codes "slli") then Some Slli
    else if bytes_eq text (codes "srli") then Some Srli
    else if bytes_eq text (codes "srai") then Some Srai
    else None

-- the load of a mnemonic
unfoldable pub load_op : List ℕ → Option LoadOp
load_op text =
    if bytes_eq text (codes "lb") then Some Lb
    else if bytes_eq text (codes "lh") then Some Lh
    else if bytes_eq text (codes "lw") then Some Lw
    else if bytes_eq text (codes "lbu") then Some Lbu
    else if bytes_eq text (codes "lhu") then Some Lhu
    else None

-- the store of a mnemonic
unfoldable pub store_op : List ℕ → Option StoreOp
store_op text =
    if bytes_eq text (codes "sb") then Some Sb
    else if bytes_eq text (codes "sh") then Some Sh
    else if bytes_eq text (codes "sw") then Some Sw
    else None

-- the branch of a mnemonic
unfoldable pub branch_op : List ℕ → Option BranchOp
branch_op text =
    if bytes_eq text (codes "beq") then Some Beq
    else if bytes_eq text (codes "bne") then Some Bne
    else if bytes_eq text (codes "blt") then Some Blt
    else if bytes_eq text (codes "bge") then Some Bge
    else if bytes_eq text (codes "bltu") then Some Bltu
    else if bytes_eq text (codes "bgeu") then Some Bgeu
    else None

-- the forms of one or two mnemonics
unfoldable pub single_form : List ℕ → Option Form
single_form text =
    if bytes_eq text (codes "jalr") then Some form.JumpRegister
    else if bytes_eq text (codes "jal") then Some form.Jump
    else if bytes_eq text (codes "lui") then Some (form.Upper Lui)
    else if bytes_eq text (codes "auipc") then Some (form.Upper Auipc)
    else if bytes_eq text (codes "fence") then Some form.Fence
    else if bytes_eq text (codes "ecall") then Some form.Ecall
    else if bytes_eq text (codes "ebreak") then Some form.Ebreak
    else if bytes_eq text (codes ".word") then Some form.Word
    else None

-- the form of a mnemonic
unfoldable pub form_of : List ℕ → Option Form
form_of text =
    option_or (option_map form.Register (register_op text))
    (option_or (option_map form.Immediate (immediate_op text))
    (option_or (option_map form.Shift (shift_op text))
    (option_or (option_map form.Load (load_op text))
    (option_or (option_map form.Store (store_op text))
    (option_or (option_map form.Branch (branch_op text))
    (single_form text))))))
