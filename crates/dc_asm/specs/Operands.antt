-- Operands: registers, numbers, and the immediates of each kind.
use Rattle.std.specs.Prelude.{ℕ, ◌-◌, ◌*◌, ◌%◌, ◌^◌, ◌==◌, ◌&&◌, List, [], ◌∷◌, Option, None, Some, option_map, option_and_then, Result, Ok, Err, if◌then◌else◌, nat_le, nat_lt}
use Rattle.std.specs.Result.{result_ok}
use Rattle.dc_words.specs.Numbers.{number_of}
use Rattle.dc_words.specs.Results.{◌>>=◌, or_fault}
use Rattle.dc_asm.specs.declared.faults.AsmKind.{AsmKind}
use Rattle.dc_asm.specs.declared.faults.AsmKind.TheVariants as kind
use Rattle.dc_asm.specs.declared.names.Definition.{Definition}
use Rattle.dc_asm.specs.declared.operands.Value.{Value}
use Rattle.dc_asm.specs.Source.{cut_at, ended_by, is_name}
use Rattle.dc_asm.specs.Names.{address}

-- digits, up to the greatest number of 32 bits, over which no immediate lies
abbrev pub size : List ℕ → Option ℕ
size text = result_ok (number_of (2 ^ 32 - 1) text)

-- `x0` to `x31`
unfoldable pub register : List ℕ → Result ℕ AsmKind
register [] = Err kind.Register
register (c ∷ digits) = if c == 120 then or_fault kind.Register (result_ok (number_of 31 digits)) else Err kind.Register

-- a number from 0 on
abbrev pub positive : ℕ → Value
positive n = record { plus = n; minus = 0 }

-- a number below 0, or 0
abbrev pub negative : ℕ → Value
negative n = record { plus = 0; minus = n }

-- digits with an optional `-` in front
unfoldable pub number : List ℕ → Option Value
number [] = None
number (c ∷ text) = if c == 45 then option_map negative (size text) else option_map positive (size (c ∷ text))

-- a name's address
abbrev pub placed : Option Definition → Result Value AsmKind
placed None = Err kind.Label
placed (Some definition) = Ok (positive (address definition.word))

-- the address of a name, which has to be one
unfoldable pub named : (List ℕ → Option Definition) → List ℕ → Result Value AsmKind
named definitions text = if is_name text then placed (definitions text) else Err kind.Immediate

-- a number, or what else there is
abbrev pub number_or : Option Value → Result Value AsmKind → Result Value AsmKind
number_or None other = other
number_or (Some value) other = Ok value

-- a number, or a name that stands for its address
unfoldable pub absolute : (List ℕ → Option Definition) → List ℕ → Result Value AsmKind
absolute definitions text = number_or (number text) (named definitions text)

-- less the address of a word
abbrev pub less_own : ℕ → Value → Value
less_own word value = record { plus = value.plus; minus = address word }

-- a number, or a name that stands for its address less that of the word
unfoldable pub relative : (List ℕ → Option Definition) → ℕ → List ℕ → Result Value AsmKind
relative definitions word text = number_or (number text) (named definitions text >>= λ value. Ok (less_own word value))

-- a number from -half to half - 1, in two's complement
unfoldable pub signed : ℕ → Value → Result ℕ AsmKind
signed half value = if nat_le value.minus value.plus
    then (if nat_lt (value.plus - value.minus) half then Ok (value.plus - value.minus) else Err kind.Immediate)
    else (if nat_le (value.minus - value.plus) half then Ok (2 * half - (value.minus - value.plus)) else Err kind.Immediate)

-- an even number
abbrev pub even : ℕ → Result ℕ AsmKind
even bits = if bits % 2 == 0 then Ok bits else Err kind.Immediate

-- the immediate of 12 bits
unfoldable pub immediate : (List ℕ → Option Definition) → List ℕ → Result ℕ AsmKind
immediate definitions text = absolute definitions text >>= signed (2 ^ 11)

-- an even offset from -half to half - 2
unfoldable pub offset : ℕ → (List ℕ → Option Definition) → ℕ → List ℕ → Result ℕ AsmKind
offset half definitions word text = do
  value ← relative definitions word text
  bits ← signed half value
  even bits

-- a number from 0 up to this one
abbrev pub up_to : ℕ → Value → Result ℕ AsmKind
up_to max value = if value.minus == 0 && nat_le value.plus max then Ok value.plus else Err kind.Immediate

-- a number from 0 on, no name
unfoldable pub unsigned : ℕ → List ℕ → Result ℕ AsmKind
unsigned max text = or_fault kind.Immediate (number text) >>= up_to max

-- `IMMEDIATE(REGISTER)`
unfoldable pub indirect : List ℕ → Option (List ℕ × List ℕ)
indirect text = option_and_then (λ parts. option_map (λ base. (parts.0, base)) (ended_by 41 parts.1)) (cut_at 40 text)
