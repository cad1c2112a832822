use Rattle.std.proofs.Common.{◌≡◌, ◌+◌, ◌++◌, length}
use Rattle.dc_acts.specs.Lines.{text_of}
use Rattle.dc_check.proofs.playing.add_lines.Given as goal

-- what is added and what is left is all that was to be added
abbrev pub invariant-loop-rest : goal.invariant-loop-rest
invariant-loop-rest l = record {
  text : l.lines.text.items ++ text_of l.rest ≡ l.fn.lines.text.items ++ text_of l.fn.visibles;
  count : l.lines.count + length l.rest ≡ l.fn.lines.count + length l.fn.visibles;
}

abbrev pub decreases-loop-rest : goal.decreases-loop-rest
decreases-loop-rest l = length l.rest
