use Rattle.std.proofs.Common.{◌≡◌, ◌+◌, ◌-◌, ◌*◌}
use Rattle.dc_elf.specs.Files.{faulty_from, part_count, parts_from, parts_of}
use Rattle.dc_words.specs.Words.{word_at}
use Rattle.dc_elf.proofs.parts.faulty_part.Given as goal

-- the parts from here on decide
abbrev pub invariant-loop-i : goal.invariant-loop-i
invariant-loop-i l = faulty_from l.file l.size 0 (parts_of l.file)
    ≡ faulty_from l.file l.size l.i (parts_from l.file (word_at l.file 28 + 32 * l.i) (part_count l.file - l.i))
