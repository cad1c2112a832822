use Rattle.std.proofs.Common.{◌∙◌, ap, arith, length}
use Rattle.dc_media.proofs.Copying.{length-copied, one_more}
use Rattle.dc_region.proofs.region.Region.copy_front.Goals as goal

pub load-word-requires : goal.load-word-requires
load-word-requires c = let l = c.loop-k in let same = ap length l.invariant ∙ length-copied l.k c.args.from c.args.to c.args.self.now in omega (arith, same, c.requires.source)

pub store-requires : goal.store-requires
store-requires c = let l = c.loop-k in let same = ap length l.invariant ∙ length-copied l.k c.args.from c.args.to c.args.self.now in omega (arith, same, c.requires.index)

pub loop-k-preserved : goal.loop-k-preserved
loop-k-preserved c = let l = c.loop-k in
    c.store.ensures ∙ one_more l.k 16 c.args.from c.args.to c.load-word.result c.args.self.now l.self (omega arith) c.requires.apart l.invariant c.load-word.ensures
