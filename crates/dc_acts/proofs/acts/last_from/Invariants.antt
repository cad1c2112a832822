use Rattle.std.proofs.Common.{◌≡◌, ◌+◌, take}
use Rattle.dc_acts.specs.Counted.{acts_of}
use Rattle.dc_acts.proofs.acts.last_from.Given as goal

-- of the acts before this one so many are left to go by
abbrev pub invariant-loop-i : goal.invariant-loop-i
invariant-loop-i l = record {
  count : acts_of l.p (take l.i l.acts) + l.fn.count ≡ acts_of l.p l.acts + l.left;
}
