use Rattle.std.proofs.Common.{◌≡◌, length}
use Rattle.dc_retrace.specs.Trails.{AreBegun}
use Rattle.dc_retrace.proofs.walking.first_trails.Given as goal

abbrev pub invariant-loop-p : goal.invariant-loop-p
invariant-loop-p l = record {
  count : length l.trails.items ≡ l.p;
  noted : AreBegun l.plain l.memories l.saved l.p l.trails.items;
}
