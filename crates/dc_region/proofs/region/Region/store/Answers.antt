use Rattle.std.proofs.Common.{refl, sym, ap, ◌∙◌, length, length-set, map, Some}
use Rattle.dc_region.specs.Cells.{held}
use Rattle.dc_region.proofs.Cells.{held-set, filled-set}
use Rattle.dc_region.proofs.region.Region.store.Goals as goal

pub invariant_of-self : goal.invariant_of-self
invariant_of-self c = let r = c.self.inside in let is = c.self.invariant in let set_is = c.put.ensures.1 in record {
  cells = (c.put.ensures.0 ∙ is.cells.0, ap length set_is ∙ length-set r.words.slots c.args.i (Some c.args.word) ∙ is.cells.1, is.cells.2);
  right = is.right;
  filled = set_is ∙ filled-set r.words.slots is.filled c.args.i c.args.word ∙ sym (ap (λ l. map Some (held l)) set_is);
}

pub returns : goal.returns
returns c = ap held c.put.ensures.1 ∙ held-set c.self.inside.words.slots c.self.invariant.filled c.args.i c.args.word ∙ rw (sym c.self.view_is) refl
