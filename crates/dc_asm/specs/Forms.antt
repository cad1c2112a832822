-- What an instruction line stands for, or its fault.
use Rattle.std.specs.Prelude.{◌≡◌, ℕ, ◌<◌, ◌^◌, ◌-◌, List, [], ◌∷◌, Option, Result, Ok, Err, if◌then◌else◌}
use Rattle.std.specs.List.{list_any}
use Rattle.dc_isa.specs.declared.instr.Instr.TheVariants as instr
use Rattle.dc_isa.specs.declared.instr.UpperOp.{UpperOp}
use Rattle.dc_isa.specs.declared.instr.BranchOp.{BranchOp}
use Rattle.dc_isa.specs.declared.instr.LoadOp.{LoadOp}
use Rattle.dc_isa.specs.declared.instr.StoreOp.{StoreOp}
use Rattle.dc_isa.specs.declared.instr.ImmediateOp.{ImmediateOp}
use Rattle.dc_isa.specs.declared.instr.ShiftOp.{ShiftOp}
use Rattle.dc_isa.specs.declared.instr.RegisterOp.{RegisterOp}
use Rattle.dc_isa.specs.Table.{Codes, Fits}
use Rattle.dc_asm.specs.declared.faults.AsmKind.{AsmKind}
use Rattle.dc_asm.specs.declared.faults.AsmKind.TheVariants as kind
use Rattle.dc_asm.specs.declared.forms.Meant.{Meant}
use Rattle.dc_asm.specs.declared.forms.Meant.TheVariants.{Instruction, Raw}
use Rattle.dc_asm.specs.declared.names.Definition.{Definition}
use Rattle.dc_asm.specs.declared.table.Form.{Form}
use Rattle.dc_asm.specs.declared.table.Form.TheVariants as form
use Rattle.dc_asm.specs.Source.{is_high, line_parts, operands_of}
use Rattle.dc_words.specs.Results.{◌>>=◌, or_fault}
use Rattle.dc_asm.specs.Operands.{register, immediate, offset, unsigned, indirect}
use Rattle.dc_asm.specs.Table.{form_of}

-- no operand
unfoldable pub no_operands : List (List ℕ) → Result (Unit {0}) AsmKind
no_operands [] = Ok tt
no_operands (x ∷ xs) = Err kind.Word

-- one operand
unfoldable pub one : List (List ℕ) → Result (List ℕ) AsmKind
one (x ∷ []) = Ok x
one _ = Err kind.Word

-- two operands
unfoldable pub two : List (List ℕ) → Result (List ℕ × List ℕ) AsmKind
two (x ∷ y ∷ []) = Ok (x, y)
two _ = Err kind.Word

-- three operands
unfoldable pub three : List (List ℕ) → Result (List ℕ × List ℕ × List ℕ) AsmKind
three (x ∷ y ∷ z ∷ []) = Ok (x, y, z)
three _ = Err kind.Word

-- `REGISTER,IMMEDIATE(REGISTER)`
unfoldable pub based : List (List ℕ) → Result (List ℕ × List ℕ × List ℕ) AsmKind
based operands = do
  texts ← two operands
  parts ← or_fault kind.Word (indirect texts.1)
  Ok (texts.0, parts.0, parts.1)

-- `REGISTER,REGISTER,REGISTER`
unfoldable pub register_form : RegisterOp → List (List ℕ) → Result Meant AsmKind
register_form op operands = do
  texts ← three operands
  rd ← register texts.0
  rs1 ← register texts.1
  rs2 ← register texts.2
  Ok (Instruction (instr.Register op rd rs1 rs2))

-- `REGISTER,REGISTER,IMMEDIATE`
unfoldable pub immediate_form : (List ℕ → Option Definition) → ImmediateOp → List (List ℕ) → Result Meant AsmKind
immediate_form definitions op operands = do
  texts ← three operands
  rd ← register texts.0
  rs1 ← register texts.1
  imm ← immediate definitions texts.2
  Ok (Instruction (instr.Immediate op rd rs1 imm))

-- `REGISTER,REGISTER,AMOUNT`
unfoldable pub shift_form : ShiftOp → List (List ℕ) → Result Meant AsmKind
shift_form op operands = do
  texts ← three operands
  rd ← register texts.0
  rs1 ← register texts.1
  amount ← unsigned 31 texts.2
  Ok (Instruction (instr.Shift op rd rs1 amount))

-- `REGISTER,IMMEDIATE(REGISTER)`, the register that is written in front
unfoldable pub load_form : (List ℕ → Option Definition) → LoadOp → List (List ℕ) → Result Meant AsmKind
load_form definitions op operands = do
  texts ← based operands
  rd ← register texts.0
  rs1 ← register texts.2
  imm ← immediate definitions texts.1
  Ok (Instruction (instr.Load op rd rs1 imm))

-- JALR, `REGISTER,IMMEDIATE(REGISTER)`
unfoldable pub jump_register_form : (List ℕ → Option Definition) → List (List ℕ) → Result Meant AsmKind
jump_register_form definitions operands = do
  texts ← based operands
  rd ← register texts.0
  rs1 ← register texts.2
  imm ← immediate definitions texts.1
  Ok (Instruction (instr.Jalr rd rs1 imm))

-- `REGISTER,IMMEDIATE(REGISTER)`, the register that is stored in front
unfoldable pub store_form : (List ℕ → Option Definition) → StoreOp → List (List ℕ) → Result Meant AsmKind
store_form definitions op operands = do
  texts ← based operands
  rs2 ← register texts.0
  rs1 ← register texts.2
  imm ← immediate definitions texts.1
  Ok (Instruction (instr.Store op rs1 rs2 imm))

-- `REGISTER,REGISTER,OFFSET`
unfoldable pub branch_form : (List ℕ → Option Definition) → ℕ → BranchOp → List (List ℕ) → Result Meant AsmKind
branch_form definitions word op operands = do
  texts ← three operands
  rs1 ← register texts.0
  rs2 ← register texts.1
  imm ← offset (2 ^ 12) definitions word texts.2
  Ok (Instruction (instr.Branch op rs1 rs2 imm))

-- JAL, `REGISTER,OFFSET`
unfoldable pub jump_form : (List ℕ → Option Definition) → ℕ → List (List ℕ) → Result Meant AsmKind
jump_form definitions word operands = do
  texts ← two operands
  rd ← register texts.0
  imm ← offset (2 ^ 20) definitions word texts.1
  Ok (Instruction (instr.Jal rd imm))

-- `REGISTER,IMMEDIATE`, the upper 20 bits of a word
unfoldable pub upper_form : UpperOp → List (List ℕ) → Result Meant AsmKind
upper_form op operands = do
  texts ← two operands
  rd ← register texts.0
  imm ← unsigned (2 ^ 20 - 1) texts.1
  Ok (Instruction (instr.Upper op rd imm))

-- `.word NUMBER`
unfoldable pub word_form : List (List ℕ) → Result Meant AsmKind
word_form operands = do
  text ← one operands
  word ← unsigned (2 ^ 32 - 1) text
  Ok (Raw word)

-- a mnemonic alone
unfoldable pub bare_form : Meant → List (List ℕ) → Result Meant AsmKind
bare_form meant operands = no_operands operands >>= λ _. Ok meant

-- the word 0ff0000f
abbrev pub fence : Meant
fence = Raw 267386895

-- what a form stands for with its operands
unfoldable pub meant_by : (List ℕ → Option Definition) → ℕ → Form → List (List ℕ) → Result Meant AsmKind
meant_by definitions word (form.Register op) operands = register_form op operands
meant_by definitions word (form.Immediate op) operands = immediate_form definitions op operands
meant_by definitions word (form.Shift op) operands = shift_form op operands
meant_by definitions word (form.Load op) operands = load_form definitions op operands
meant_by definitions word form.JumpRegister operands = jump_register_form definitions operands
meant_by definitions word (form.Store op) operands = store_form definitions op operands
meant_by definitions word (form.Branch op) operands = branch_form definitions word op operands
meant_by definitions word form.Jump operands = jump_form definitions word operands
meant_by definitions word (form.Upper op) operands = upper_form op operands
meant_by definitions word form.Word operands = word_form operands
meant_by definitions word form.Fence operands = bare_form fence operands
meant_by definitions word form.Ecall operands = bare_form (Instruction instr.Ecall) operands
meant_by definitions word form.Ebreak operands = bare_form (Instruction instr.Ebreak) operands

-- what the line of a word stands for, by its bytes without comment
unfoldable pub meaning : (List ℕ → Option Definition) → ℕ → List ℕ → Result Meant AsmKind
meaning definitions word line = if list_any is_high line then Err kind.Word else do
  form ← or_fault kind.Word (form_of (line_parts line).0)
  meant_by definitions word form (operands_of (line_parts line).1)

-- the one word of 32 bits that codes it
abbrev pub IsWordOf : Meant → ℕ → Type 0
IsWordOf (Instruction i) w = Codes i w × (w < 2 ^ 32) × ((v : ℕ) → Codes i v → v < 2 ^ 32 → v ≡ w)
IsWordOf (Raw n) w = w ≡ n

-- its fields fit
abbrev pub HasFields : Meant → Type 0
HasFields (Instruction i) = Fits i
HasFields (Raw n) = n < 2 ^ 32
