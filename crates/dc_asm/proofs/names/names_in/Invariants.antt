use Rattle.std.proofs.Common.{◌≡◌, ◌+◌, ◌≤◌, List, ℕ, length}
use Rattle.dc_words.specs.Texts.{lines_of}
use Rattle.dc_asm.specs.Names.{definitions_from, first_of, found, definition_in}
use Rattle.std.specs.Option.{option_or}
use Rattle.dc_asm.proofs.names.names_in.Given as goal

-- a name's first definition is among those kept, or else in what is left
abbrev pub invariant-loop-rest : goal.invariant-loop-rest
invariant-loop-rest l = record {
  names : (name : List ℕ) → option_or (found l.names name) (first_of (definitions_from l.line l.word (lines_of l.rest)) name) ≡ definition_in l.source name;
  lines : l.line + length l.rest ≤ length l.source + 1;
  words : l.word + length l.rest ≤ length l.source;
}

abbrev pub decreases-loop-rest : goal.decreases-loop-rest
decreases-loop-rest l = length l.rest
