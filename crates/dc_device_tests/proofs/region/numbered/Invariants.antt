use Rattle.std.proofs.Common.{◌≡◌, length}
use Rattle.dc_device_tests.proofs.region.numbered.Given as goal

abbrev pub invariant-loop-i : goal.invariant-loop-i
invariant-loop-i l = length l.region ≡ l.words
