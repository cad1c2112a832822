use Rattle.std.proofs.Common.{◌≡◌, take}
use Rattle.dc_acts.specs.Counted.{acts_of}
use Rattle.dc_acts.proofs.Counting.{IsCutTo}
use Rattle.dc_acts.proofs.acts.cut_items.Given as goal

-- the acts so far are cut
abbrev pub invariant-loop-i : goal.invariant-loop-i
invariant-loop-i l = record {
  so_far : IsCutTo l.p (acts_of l.p (take l.start l.fn.acts.items)) l.i l.fn.acts.items l.acts.items l.kept (acts_of l.p (take l.start l.fn.acts.items));
  room : l.acts.room ≡ l.fn.acts.room;
}
