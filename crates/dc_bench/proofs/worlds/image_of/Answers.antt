use Rattle.std.proofs.Common.{arith, refl}
use Rattle.dc_bench.proofs.worlds.image_of.Goals as goal

pub returns : goal.returns
returns c = let long = c.in_ok-memory.ensures in ((omega (arith, long, c.requires.0), omega (arith, long, c.requires.1), omega (arith, long), refl), (c.args.pages, long, c.requires.1))
