use Rattle.std.proofs.Common.{◌∙◌, ◌&&◌, ◌||◌, ◌==◌, ap, arith, nat_lt}
use Rattle.dc_deeds.proofs.Marks.{marks_are}
use Rattle.dc_deeds.proofs.marking.members_with.Goals as goal
use Rattle.dc_recovery.specs.Parts.{is_with}

pub returns-clause-members : goal.returns-clause-members
returns-clause-members c = marks_are 16 (λ q. is_with c.args.protocol c.args.p q && nat_lt q c.args.n) c.loop-q.members c.loop-q.invariant.long
    (λ i less. c.loop-q.invariant.marked i (omega arith) ∙ ap (λ b. (b || c.args.p == i) && nat_lt i c.args.n) c.is_joint-all.ensures)
