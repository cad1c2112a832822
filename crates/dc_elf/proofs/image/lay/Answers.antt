use Rattle.std.proofs.Common.{rules, arith, ◌∙◌, ⊎_elim, inl, inr, refl}
use Rattle.std.proofs.lemmas.Bool.{cases_lt}
use Rattle.std.proofs.lemmas.List.{length-set}
use Rattle.dc_elf.proofs.Layers.{begins, ends, hops, writes}
use Rattle.dc_elf.proofs.image.lay.Goals as goal

pub loop-at-init : goal.loop-at-init
loop-at-init c = record {
  memory_long = search rules;
  next_long = c.requires.next_long;
  from = omega arith;
  laid = λ parts filled. begins _ _ _ parts _ _ filled;
}

pub loop-at-preserved-then-past-at : goal.loop-at-preserved-then-past-at
loop-at-preserved-then-past-at c = record {
  memory_long = search (rules, c.loop-at.invariant.memory_long, length-set);
  next_long = length-set _ _ _ ∙ c.loop-at.invariant.next_long;
  from = omega (arith, c.loop-at.invariant.from, c.if-past-at.true);
  laid = λ parts filled. hops _ _ c.args.part.now parts _ _ _
      (c.loop-at.invariant.laid parts filled) c.requires.loaded c.loop-at.invariant.from c.loop-at-test.true c.requires.room _ _ refl
      (λ b h. ⊎_elim (λ x. inl x) (λ y. inr (omega (arith, y, h, c.max.ensures))) (cases_lt b _)) c.if-past-at.true
      (omega (arith, c.max.ensures));
}

pub loop-at-preserved : goal.loop-at-preserved
loop-at-preserved c = record {
  memory_long = length-set _ _ _ ∙ c.loop-at.invariant.memory_long;
  next_long = length-set _ _ _ ∙ c.loop-at.invariant.next_long;
  from = omega (arith, c.loop-at.invariant.from);
  laid = λ parts filled. writes _ _ c.args.part.now parts _ _ _
      (c.loop-at.invariant.laid parts filled) c.requires.loaded c.loop-at.invariant.from c.loop-at-test.true c.requires.room _ _ refl
      (λ b h. inr h) c.if-past-at.false (omega arith) _ c.byte_in.ensures;
}

pub returns-clause-laid : goal.returns-clause-laid
returns-clause-laid c = λ parts filled. ends _ _ c.args.part.now parts _ _ _ c.loop-at-test.false (c.loop-at.invariant.laid parts filled)
