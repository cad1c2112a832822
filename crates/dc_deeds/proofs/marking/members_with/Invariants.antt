use Rattle.std.proofs.Common.{◌≡◌, ◌<◌, ◌&&◌, ◌||◌, ◌==◌, ℕ, false, get_or, length, nat_lt}
use Rattle.dc_deeds.proofs.marking.members_with.Given as goal

abbrev pub invariant-loop-q : goal.invariant-loop-q
invariant-loop-q l = record {
  long : length l.members ≡ 16;
  marked : (i : ℕ) → i < l.q → get_or l.members i false ≡ ((l.all || l.p == i) && nat_lt i l.n);
}
