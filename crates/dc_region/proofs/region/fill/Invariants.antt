use Rattle.std.proofs.Common.{◌≡◌, ◌++◌, Some, replicate, drop}
use Rattle.dc_region.proofs.region.fill.Given as goal

abbrev pub invariant-loop-i : goal.invariant-loop-i
invariant-loop-i l = record {
  at : l.words.at ≡ l.fn.words.at;
  slots : l.words.slots ≡ replicate l.i (Some 0) ++ drop l.i l.fn.words.slots;
}
