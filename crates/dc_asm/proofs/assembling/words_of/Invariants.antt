use Rattle.std.proofs.Common.{◌+◌, ◌≤◌, length}
use Rattle.dc_words.specs.Texts.{lines_of}
use Rattle.dc_asm.specs.Names.{found}
use Rattle.dc_asm.specs.Program.{program_from}
use Rattle.dc_asm.proofs.Passes.{LeftBehind}
use Rattle.dc_asm.proofs.assembling.words_of.Given as goal

-- what is left decides, behind the words so far
abbrev pub invariant-loop-rest : goal.invariant-loop-rest
invariant-loop-rest l = record {
  words : LeftBehind l.words.items (program_from (found l.names) l.number (length l.words.items) (lines_of l.rest)) (program_from (found l.names) 1 0 (lines_of l.source));
  lines : l.number + length l.rest ≤ length l.source + 1;
  few : length l.words.items ≤ 16000;
}

abbrev pub decreases-loop-rest : goal.decreases-loop-rest
decreases-loop-rest l = length l.rest
