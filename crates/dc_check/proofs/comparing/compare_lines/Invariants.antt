use Rattle.std.proofs.Common.{◌≡◌, ◌+◌, ◌≤◌, length}
use Rattle.dc_words.specs.Texts.{fields_of, lines_of}
use Rattle.dc_check.specs.Compared.{found}
use Rattle.dc_check.specs.Differences.{difference_from, difference_of}
use Rattle.dc_check.proofs.comparing.compare_lines.Given as goal

-- what is left decides, behind the lines so far
abbrev pub invariant-loop-line : goal.invariant-loop-line
invariant-loop-line l = record {
  differs : difference_of l.fn.text l.fn.out ≡ difference_from l.number (found l.first) (lines_of l.wanted) (fields_of 10 l.rest);
  few : l.number + length l.rest ≤ length l.fn.out + 1;
}

abbrev pub decreases-loop-line : goal.decreases-loop-line
decreases-loop-line l = length l.rest
