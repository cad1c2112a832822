use Rattle.std.proofs.Common.{◌≡◌, All, length}
use Rattle.dc_world.specs.Openable.{CanOpen}
use Rattle.dc_bench.proofs.worlds.setup_of.Given as goal

-- so many so far
abbrev pub invariant-loop : goal.invariant-loop
invariant-loop l = record {
  images : length l.images.items ≡ l.counter;
  inputs : length l.inputs.items ≡ l.counter;
  good : All CanOpen l.images.items;
}
