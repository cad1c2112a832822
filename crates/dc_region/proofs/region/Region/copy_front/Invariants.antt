use Rattle.std.proofs.Common.{◌≡◌}
use Rattle.dc_media.specs.Stores.{copied}
use Rattle.dc_region.proofs.region.Region.copy_front.Given as goal

abbrev pub invariant-loop-k : goal.invariant-loop-k
invariant-loop-k l = l.self ≡ copied l.k l.from l.to l.fn.self
