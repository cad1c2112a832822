use Rattle.std.proofs.Common.{◌≡◌, ◌+◌, ◌-◌, ◌*◌, ◌≤◌, [], length}
use Rattle.dc_elf.specs.Files.{part_count, parts_from}
use Rattle.dc_words.specs.Words.{word_at}
use Rattle.dc_elf.specs.Filling.{Filled, everywhere}
use Rattle.dc_elf.proofs.image.lay_parts.Given as goal

-- the parts from this one on are laid
abbrev pub invariant-loop-i : goal.invariant-loop-i
invariant-loop-i l = record {
  counted : l.i ≤ part_count l.file;
  memory_long : length l.memory ≡ length l.fn.memory;
  next_long : length l.next ≡ length l.fn.memory;
  laid : Filled l.file (length l.fn.memory) (everywhere []) l.fn.memory l.fn.next
      → Filled l.file (length l.fn.memory)
      (everywhere (parts_from l.file (word_at l.file 28 + 32 * l.i) (part_count l.file - l.i))) l.memory l.next;
}

abbrev pub decreases-loop-i : goal.decreases-loop-i
decreases-loop-i l = l.i
