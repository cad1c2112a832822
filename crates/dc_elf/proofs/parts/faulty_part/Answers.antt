use Rattle.std.proofs.Common.{rules, ap, sym, ◌∙◌, Some}
use Rattle.dc_elf.specs.Files.{part_count}
use Rattle.dc_words.specs.Words.{word_at}
use Rattle.dc_elf.specs.declared.faults.ElfFault.TheVariants.{Segment}
use Rattle.dc_elf.proofs.Numbered.{faulty_here, faulty_past}
use Rattle.dc_elf.proofs.parts.faulty_part.Goals as goal

pub returns-then-is_faulty : goal.returns-then-is_faulty
returns-then-is_faulty c = ap (λ n. Some (Segment n)) (search rules)
    ∙ sym (faulty_here c.args.file.now c.args.size (word_at c.args.file.now 28)
    (part_count c.args.file.now) c.loop-i.i _ c.loop-i.invariant (search rules) (search rules))

pub loop-i-preserved : goal.loop-i-preserved
loop-i-preserved c = faulty_past c.args.file.now c.args.size (word_at c.args.file.now 28)
    (part_count c.args.file.now) c.loop-i.i _ c.loop-i.invariant (search rules) (search rules)
