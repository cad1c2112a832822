-- What a source stands for: its words' instructions, or its first faulty line.
use Rattle.std.specs.Prelude.{◌≡◌, ℕ, suc, ◌+◌, List, [], ◌∷◌, Option, None, Some, Result, Ok, Err, if◌then◌else◌, nat_lt, Vec}
use Rattle.std.specs.declared.alloc.Global.{Global}
use Rattle.dc_words.specs.Texts.{lines_of}
use Rattle.dc_asm.specs.declared.faults.AsmError.{AsmError}
use Rattle.dc_asm.specs.declared.faults.AsmError.TheVariants as error
use Rattle.dc_asm.specs.declared.faults.AsmFault.{AsmFault}
use Rattle.dc_asm.specs.declared.faults.AsmKind.{AsmKind}
use Rattle.dc_asm.specs.declared.faults.AsmKind.TheVariants as kind
use Rattle.dc_asm.specs.declared.forms.Meant.{Meant}
use Rattle.dc_asm.specs.declared.names.Definition.{Definition}
use Rattle.dc_asm.specs.Source.{bare, defined}
use Rattle.dc_asm.specs.Names.{definition_in}
use Rattle.dc_words.specs.Results.{◌>>=◌}
use Rattle.dc_asm.specs.Forms.{IsWordOf, meaning}
use Rattle.dc_asm.specs.Elf.{elf_of}

-- a name is defined twice where its first definition stands in an earlier line
abbrev pub is_earlier : ℕ → Option Definition → Result (Option Meant) AsmKind
is_earlier number None = Ok None
is_earlier number (Some definition) = if nat_lt definition.line number then Err kind.Twice else Ok None

-- a source has at most 16,000 words
abbrev pub counted : ℕ → Meant → Result (Option Meant) AsmKind
counted word meant = if nat_lt word 16000 then Ok (Some meant) else Err kind.TooLong

-- a line that defines a name stands for no word, and another for the word that it means
abbrev pub defines_or : (List ℕ → Option Definition) → ℕ → ℕ → List ℕ → Option (List ℕ) → Result (Option Meant) AsmKind
defines_or definitions number word line (Some name) = is_earlier number (definitions name)
defines_or definitions number word line None = meaning definitions word line >>= counted word

-- the line of a number, without its comment, behind so many words: a word, none, or a fault
unfoldable pub line_meaning : (List ℕ → Option Definition) → ℕ → ℕ → List ℕ → Result (Option Meant) AsmKind
line_meaning definitions number word [] = Ok None
line_meaning definitions number word (c ∷ line) = defines_or definitions number word (c ∷ line) (defined (c ∷ line))

-- a line's word in front, or the line's fault
abbrev pub with_front : Option Meant → Result (List Meant) AsmFault → Result (List Meant) AsmFault
with_front None rest = rest
with_front (Some meant) (Ok others) = Ok (meant ∷ others)
with_front (Some meant) (Err fault) = Err fault

-- how many words that is
abbrev pub count_of : Option Meant → ℕ
count_of None = 0
count_of (Some meant) = 1

-- a line's fault with its number, or what follows a line that has none
abbrev pub line_then : ℕ → Result (Option Meant) AsmKind → (Option Meant → Result (List Meant) AsmFault) → Result (List Meant) AsmFault
line_then number (Err kind) rest = Err (record { line = number; kind = kind })
line_then number (Ok found) rest = rest found

-- the lines from this number on, behind so many words
unfoldable pub program_from : (List ℕ → Option Definition) → ℕ → ℕ → List (List ℕ) → Result (List Meant) AsmFault
program_from definitions number word [] = Ok []
program_from definitions number word (line ∷ lines) = line_then number (line_meaning definitions number word (bare line))
    (λ found. with_front found (program_from definitions (suc number) (word + count_of found) lines))

-- what a source stands for: the meaning of each line in order, or the first faulty line
unfoldable pub program_of : List ℕ → Result (List Meant) AsmFault
program_of source = program_from (definition_in source) 1 0 (lines_of source)

-- the words, one for each
abbrev pub AreWordsOf : List Meant → List ℕ → Type 0
AreWordsOf [] [] = Unit {0}
AreWordsOf (meant ∷ others) (w ∷ words) = IsWordOf meant w × AreWordsOf others words
AreWordsOf [] (w ∷ words) = ⊥
AreWordsOf (meant ∷ others) [] = ⊥

-- the ELF file of a program's words
pub record IsFileOf (program : List Meant) (file : List ℕ) : Type 0 where
  pub words : List ℕ
  pub are_words : AreWordsOf program words
  pub is_file : file ≡ elf_of words

-- what was made of a source's program: something that is so of it, or its first fault, unless memory was wanting
abbrev pub Makes : (List Meant → List ℕ → Type 0) → Result (Vec ℕ Global) AsmError → Result (List Meant) AsmFault → Type 0
Makes IsSo (Ok made) (Ok program) = IsSo program made.items
Makes IsSo (Ok made) (Err fault) = ⊥
Makes IsSo (Err (error.Refused fault)) told = told ≡ Err fault
Makes IsSo (Err error.Memory) told = Unit {0}
