use Rattle.std.proofs.Common.{◌≡◌}
use Rattle.dc_media.specs.Stores.{set_words}
use Rattle.dc_region.proofs.region.Region.store_words.Given as goal

abbrev pub invariant-loop-k : goal.invariant-loop-k
invariant-loop-k l = l.self ≡ set_words l.k l.i l.words l.fn.self
