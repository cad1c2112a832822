use Rattle.std.proofs.Common.{arith, ◌∙◌}
use Rattle.dc_region.proofs.Cells.{one_more_filled}
use Rattle.dc_region.proofs.region.fill.Goals as goal

pub loop-i-preserved : goal.loop-i-preserved
loop-i-preserved c = record {
  at = c.put.ensures.0 ∙ c.loop-i.invariant.at;
  slots = c.put.ensures.1 ∙ one_more_filled c.loop-i.i 0 c.loop-i.words.slots c.args.words.now.slots (omega (arith, c.requires.1)) c.loop-i.invariant.slots;
}
