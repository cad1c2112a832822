use Rattle.std.proofs.Common.{◌≡◌, ◌≤◌, length}
use Rattle.dc_words.proofs.Leading.{number_up_to}
use Rattle.dc_words.proofs.numbers.number_up_to.Given as goal

-- what is left decides, behind the value so far
abbrev pub invariant-loop-rest : goal.invariant-loop-rest
invariant-loop-rest l = record {
  decides : number_up_to l.stop l.max l.value l.rest ≡ number_up_to l.stop l.max 0 l.text;
  small : l.value ≤ l.max;
}

abbrev pub decreases-loop-rest : goal.decreases-loop-rest
decreases-loop-rest l = length l.rest
