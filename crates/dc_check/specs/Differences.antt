-- How an output differs from the lines that a run shows, where a line may be a repeat of an earlier one.
use Rattle.std.specs.Prelude.{◌≡◌, ℕ, suc, List, IfSome, [], ◌∷◌, Option, Some, None, bytes_eq, drop, if◌then◌else◌, is_some, option_and_then, slice_get}
use Rattle.dc_words.specs.Texts.{fields_of, lines_of}
use Rattle.dc_check.specs.Records.{numbers_in}

-- a line of the output, from 1 on, what stands there, and what would stand there without a difference
pub record Difference : Type 0 where
  pub line : ℕ
  pub found : List ℕ
  pub wanted : List ℕ

-- the first line so far of each process and number
abbrev pub Seen : Type 0
Seen = List ℕ → Option (List ℕ)

-- with a line of these numbers
abbrev pub noted : Option (List ℕ) → List ℕ → Seen → Seen
noted None line seen = seen
noted (Some numbers) line seen = λ other. if bytes_eq numbers other then Some line else seen other

-- the earlier line with the numbers of this one, if they came before
abbrev pub repeated : Seen → List ℕ → Option (List ℕ)
repeated seen line = option_and_then seen (numbers_in line)

-- how a line differs from the one that is wanted there, if it does; where none is wanted any line differs
abbrev pub unlike : ℕ → List ℕ → Option (List ℕ) → Option Difference
unlike number line None = Some (record { line = number; found = line; wanted = [] })
unlike number line (Some wanted) = if bytes_eq line wanted then None else Some (record { line = number; found = line; wanted = wanted })

-- this difference, or else that one
abbrev pub or_else : Option Difference → Option Difference → Option Difference
or_else (Some difference) later = Some difference
or_else None later = later

-- at the end of the output: the first of the lines that are still wanted is missing
abbrev pub missing : ℕ → List (List ℕ) → Option Difference
missing number [] = None
missing number (wanted ∷ more) = Some (record { line = number; found = []; wanted = wanted })

-- behind the last line feed: nothing, or a line without its own, which repeats none
abbrev pub at_last : ℕ → List (List ℕ) → List ℕ → Option Difference
at_last number wanted [] = missing number wanted
at_last number wanted (c ∷ line) = or_else (unlike number (c ∷ line) (slice_get wanted 0)) (missing (suc number) (drop 1 wanted))

-- of lines numbered from this one on, behind those that were seen: a line whose process and number came before has to equal the earlier one
-- with them, any other the next that is wanted. A line and what is behind the last line feed are parts between line feeds
abbrev pub difference_from : ℕ → Seen → List (List ℕ) → List (List ℕ) → Option Difference
difference_from number seen wanted [] = missing number wanted
difference_from number seen wanted (last ∷ []) = at_last number wanted last
difference_from number seen wanted (line ∷ part ∷ parts) = if is_some (repeated seen line)
    then or_else (unlike number line (repeated seen line)) (difference_from (suc number) seen wanted (part ∷ parts))
    else or_else (unlike number line (slice_get wanted 0)) (difference_from (suc number) (noted (numbers_in line) line seen) (drop 1 wanted) (part ∷ parts))

-- of a whole output from the text of the run's lines
abbrev pub difference_of : List ℕ → List ℕ → Option Difference
difference_of text out = difference_from 1 (λ numbers. None) (lines_of text) (fields_of 10 out)

-- lines without those whose process and number came before
abbrev pub thinned : Seen → List (List ℕ) → List (List ℕ)
thinned seen [] = []
thinned seen (line ∷ lines) = if is_some (repeated seen line) then thinned seen lines else line ∷ thinned (noted (numbers_in line) line seen) lines

-- lines of which each whose process and number came before is the first with them
abbrev pub RepeatsSame : Seen → List (List ℕ) → Type 0
RepeatsSame seen [] = Unit {0}
RepeatsSame seen (line ∷ lines) = IfSome (repeated seen line) (λ first. line ≡ first) × RepeatsSame (if is_some (repeated seen line) then seen else noted (numbers_in line) line seen) lines

-- lines of which two that have one process and number are the same
abbrev pub SameByNumbers : List (List ℕ) → Type 0
SameByNumbers lines = (i j : ℕ) (a b numbers : List ℕ) → slice_get lines i ≡ Some a → slice_get lines j ≡ Some b → numbers_in a ≡ Some numbers → numbers_in b ≡ Some numbers → a ≡ b

-- lines that are those of a run, but for repeats: each whose process and number did not come before is the next of the run's, and each other is the same as the first
pub record AreLinesOf (lines wanted : List (List ℕ)) : Type 0 where
  pub thinned_are : thinned (λ numbers. None) lines ≡ wanted
  pub same : SameByNumbers lines
