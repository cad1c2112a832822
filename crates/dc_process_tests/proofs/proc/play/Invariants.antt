use Rattle.dc_proc.specs.Ups.{IsFit}
use Rattle.dc_process_tests.proofs.proc.play.Given as goal

-- the process may take its next turn
abbrev pub invariant-loop-t : goal.invariant-loop-t
invariant-loop-t g l = IsFit g.C.Checkpoint l.up l.store l.dev
