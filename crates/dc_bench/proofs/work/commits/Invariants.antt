use Rattle.std.proofs.Common.{◌≡◌, ◌≤◌, ◌+◌, length}
use Rattle.dc_checkpoint.specs.Handles.{IsSame}
use Rattle.dc_bench.proofs.work.commits.Given as goal

abbrev pub invariant-loop : goal.invariant-loop
invariant-loop g l = let C = g.C.Checkpoint in record {
  same : IsSame C l.fn.store l.store;
  lent : C.lent l.store l.dev;
  ready : C.ready l.store l.dev;
  n : l.kernel.n ≡ l.fn.kernel.n;
  p : l.kernel.p ≡ l.fn.kernel.p;
  long : length l.text ≡ length l.fn.text;
  number : C.number l.store ≡ l.kernel.commit;
  few : l.kernel.commit ≤ l.fn.kernel.commit + l.counter;
}
