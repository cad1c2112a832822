use Rattle.std.proofs.Common.{◌≡◌}
use Rattle.dc_checkpoint.specs.Handles.{IsSame}
use Rattle.dc_bench.proofs.work.touch.Given as goal

abbrev pub invariant-loop-line : goal.invariant-loop-line
invariant-loop-line g l = let C = g.C.Checkpoint in record {
  same : IsSame C l.fn.store l.store;
  lent : C.lent l.store l.dev;
  ready : C.ready l.store l.dev;
  number : C.number l.store ≡ C.number l.fn.store;
}
