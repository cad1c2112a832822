use Rattle.std.proofs.Common.{◌-◌, ◌≡◌, ◌≤◌, List, length}
use Rattle.dc_elf.specs.Filling.{Filled, below, everywhere}
use Rattle.dc_elf.specs.declared.part.Part.{Part as Parts}
use Rattle.dc_elf.proofs.image.lay.Given as goal

-- the part is laid below `at`
abbrev pub invariant-loop-at : goal.invariant-loop-at
invariant-loop-at l = record {
  memory_long : length l.memory ≡ length l.fn.memory;
  next_long : length l.next ≡ length l.fn.memory;
  from : l.fn.part.address ≤ l.at;
  laid : (parts : List Parts) → Filled l.file (length l.fn.memory) (everywhere parts) l.fn.memory l.fn.next
      → Filled l.file (length l.fn.memory) (below l.at l.fn.part parts) l.memory l.next;
}

abbrev pub decreases-loop-at : goal.decreases-loop-at
decreases-loop-at l = l.end - l.at
