use Rattle.std.proofs.Common.{◌<◌, length}
use Rattle.dc_process_tests.proofs.proc.apply_all.Given as goal

-- the guest is there
abbrev pub invariant-loop-taken : goal.invariant-loop-taken
invariant-loop-taken l = 0 < length l.plain.processes
