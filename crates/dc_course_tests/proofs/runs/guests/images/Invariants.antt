use Rattle.std.specs.Prelude.{All}
use Rattle.dc_elf.specs.Loaded.{CanStart}
use Rattle.dc_world.specs.Openable.{CanOpen}
use Rattle.dc_course_tests.proofs.runs.guests.images.Given as goal

-- guests can begin in those so far
abbrev pub invariant-loop-name : goal.invariant-loop-name
invariant-loop-name l = record {
  good : All CanOpen l.images.items;
  start : All CanStart l.images.items;
}
