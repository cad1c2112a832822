use Rattle.std.proofs.Common.{◌≡◌}
use Rattle.dc_bench.proofs.turns.stores.Given as goal

-- the store is as long as it was made
abbrev pub invariant-loop-i : goal.invariant-loop-i
invariant-loop-i g l = g.K.Keeps.extent l.keeps l.fn.p ≡ 4096
