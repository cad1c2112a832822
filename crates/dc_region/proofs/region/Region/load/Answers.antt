use Rattle.std.proofs.Common.{sym}
use Rattle.dc_region.proofs.Cells.{get_or-held}
use Rattle.dc_region.proofs.region.Region.load.Goals as goal

pub get-requires : goal.get-requires
get-requires c = let r = c.self.inside in
    (sym c.self.invariant.cells.0, (_, get_or-held r.words.slots c.self.invariant.filled c.args.i (rw c.self.view_is c.requires)))
