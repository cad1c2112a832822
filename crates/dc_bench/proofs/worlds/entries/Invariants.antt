use Rattle.std.proofs.Common.{◌≡◌, ◌+◌, length}
use Rattle.dc_world.specs.Worlds.{MayRun}
use Rattle.dc_bench.proofs.worlds.entries.Given as goal

-- the world may run its next entry, of those that are left
abbrev pub invariant-loop-t : goal.invariant-loop-t
invariant-loop-t g l = record {
  ready : MayRun g.C.Checkpoint l.world l.dev;
  left : l.world.processes.left + l.t ≡ l.fn.count;
  long : length l.world.processes.slots.items ≡ l.fn.n;
}
