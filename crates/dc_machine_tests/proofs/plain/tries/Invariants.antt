use Rattle.std.proofs.Common.{◌≡◌, length}
use Rattle.dc_machine_tests.proofs.plain.tries.Given as goal

abbrev pub invariant-loop-letter : goal.invariant-loop-letter
invariant-loop-letter l = length l.plain.processes ≡ length l.fn.plain.processes
