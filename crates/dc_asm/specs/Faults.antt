-- What is wrong with a line of a source, in words.
use Rattle.std.specs.Prelude.{ℕ, List, codes}
use Rattle.dc_asm.specs.declared.faults.AsmKind.{AsmKind}
use Rattle.dc_asm.specs.declared.faults.AsmKind.TheVariants.{Word, Register, Immediate, Label, Twice, TooLong}

-- what is wrong with a line, in words
abbrev pub kind_text : AsmKind → List ℕ
kind_text Word = codes "word"
kind_text Register = codes "register"
kind_text Immediate = codes "immediate"
kind_text Label = codes "label"
kind_text Twice = codes "twice"
kind_text TooLong = codes "too long"
