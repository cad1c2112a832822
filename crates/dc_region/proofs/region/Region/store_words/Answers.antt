use Rattle.std.proofs.Common.{ap, ◌∙◌, arith, length}
use Rattle.dc_media.proofs.Storing.{length-set_words}
use Rattle.dc_region.proofs.region.Region.store_words.Goals as goal

pub store-requires : goal.store-requires
store-requires c = let l = c.loop-k in
    let same = ap length l.invariant ∙ length-set_words l.k c.args.i c.args.words.now c.args.self.now in omega (arith, same, c.requires)
