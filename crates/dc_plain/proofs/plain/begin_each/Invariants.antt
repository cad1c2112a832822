use Rattle.std.proofs.Common.{◌≡◌, length}
use Rattle.dc_plain.specs.Playing.{AreAmong}
use Rattle.dc_plain.proofs.Begins.{BegunUpTo}
use Rattle.dc_plain.proofs.plain.begin_each.Given as goal

-- the processes so far have begun
abbrev pub invariant-loop-p : goal.invariant-loop-p
invariant-loop-p l = record {
  so_far : length l.processes.items ≡ l.p;
  each : AreAmong (length l.images) l.processes.items;
  begun : BegunUpTo l.images l.processes.items;
}
