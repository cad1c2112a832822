use Rattle.dc_checkpoint.specs.Handles.{IsSame}
use Rattle.dc_checkpoint.specs.States.{IsFit}
use Rattle.dc_bench.proofs.work.recoveries.Given as goal

abbrev pub invariant-loop : goal.invariant-loop
invariant-loop g l = let C = g.C.Checkpoint in record {
  same : IsSame C l.fn.store l.store;
  lent : C.lent l.store l.dev;
  fit : IsFit (C.form l.fn.store) l.saved;
}
