use Rattle.std.proofs.Common.{sym, ap, ◌∙◌, arith, length, map, Some}
use Rattle.std.proofs.lemmas.List.{length-replicate}
use Rattle.dc_region.specs.Cells.{held}
use Rattle.dc_region.proofs.Cells.{held_replicate, filled_replicate}
use Rattle.dc_region.proofs.region.Region.new.Goals as goal

pub invariant_of-result : goal.invariant_of-result
invariant_of-result c = let made = c.in_ok-base.ensures in let zeros = c.fill.ensures.1 in record {
  cells = (c.fill.ensures.0 ∙ made.0, ap length zeros ∙ length-replicate c.args.words (Some 0), omega (arith, c.if-words-gt-MOST_WORDS.false));
  right = (made.2, made.3, made.4);
  filled = zeros ∙ filled_replicate c.args.words 0 ∙ sym (ap (λ l. map Some (held l)) zeros);
}

pub returns : goal.returns
returns c = ap held c.fill.ensures.1 ∙ held_replicate c.args.words 0
