use Rattle.std.proofs.Common.{rules, ◌≡◌, ◌+◌, ◌-◌, ◌*◌, ◌∷◌, List, length, sym, ap, subst, arith, ◌∙◌}
use Rattle.dc_elf.specs.declared.part.Part.{Part}
use Rattle.dc_elf.specs.Files.{is_faulty, part_count, parts_from}
use Rattle.dc_words.specs.Words.{word_at}
use Rattle.dc_elf.specs.Filling.{Filled, everywhere}
use Rattle.dc_elf.proofs.Numbered.{all_parts, none_left, parts_before, right_part}
use Rattle.dc_elf.proofs.image.lay_parts.Goals as goal

pub loop-i-init : goal.loop-i-init
loop-i-init c = record {
  counted = search rules;
  memory_long = search rules;
  next_long = c.requires.next_long;
  laid = λ filled. subst
      (λ (parts : List Part). Filled c.args.file.now (length c.args.memory.now) (everywhere parts) c.args.memory.now c.args.next.now)
      (none_left c.args.file.now (word_at c.args.file.now 28) (part_count c.args.file.now) c.part_count-i.result c.part_count-i.ensures)
      filled;
}

pub lay_right-requires-clause-right : goal.lay_right-requires-clause-right
lay_right-requires-clause-right c = ap (λ n. is_faulty c.args.file.now n c.part.result) c.loop-i.invariant.memory_long
    ∙ ap (is_faulty c.args.file.now (length c.args.memory.now)) c.part.ensures
    ∙ right_part c.args.file.now (length c.args.memory.now) (word_at c.args.file.now 28) 0 (part_count c.args.file.now)
    (c.loop-i.i - 1) c.requires.right (omega (arith, c.loop-i.invariant.counted, c.loop-i-test.true))

pub loop-i-preserved : goal.loop-i-preserved
loop-i-preserved c = record {
  counted = search rules;
  memory_long = search rules;
  next_long = search rules;
  laid = λ filled. subst
      (λ (parts : List Part). Filled c.args.file.now (length c.args.memory.now) (everywhere parts)
      c.lay_right.new.memory c.lay_right.new.next)
      one_more
      (subst (λ n. Filled c.args.file.now n (everywhere (c.part.result ∷ rest)) c.lay_right.new.memory c.lay_right.new.next)
      c.loop-i.invariant.memory_long
      (c.lay_right.ensures.laid rest
      (subst (λ n. Filled c.args.file.now n (everywhere rest) c.loop-i.memory c.loop-i.next) (sym c.loop-i.invariant.memory_long)
      (c.loop-i.invariant.laid filled))));
}
  where
    rest : List Part
    rest = parts_from c.args.file.now (word_at c.args.file.now 28 + 32 * c.loop-i.i) (part_count c.args.file.now - c.loop-i.i)

    one_more : c.part.result ∷ rest ≡ parts_from c.args.file.now (word_at c.args.file.now 28 + 32 * (c.loop-i.i - 1))
        (part_count c.args.file.now - (c.loop-i.i - 1))
    one_more = ap (λ part. part ∷ rest) c.part.ensures
        ∙ parts_before c.args.file.now (word_at c.args.file.now 28) (part_count c.args.file.now)
        c.loop-i.i c.loop-i-test.true c.loop-i.invariant.counted

pub returns : goal.returns
returns c = record {
  laid = λ filled. subst
      (λ (parts : List Part). Filled c.args.file.now (length c.args.memory.now) (everywhere parts) c.loop-i.memory c.loop-i.next)
      (all_parts c.args.file.now (word_at c.args.file.now 28) (part_count c.args.file.now) c.loop-i.i c.loop-i-test.false)
      (c.loop-i.invariant.laid filled);
}
