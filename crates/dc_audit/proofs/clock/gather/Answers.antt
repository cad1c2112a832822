use Rattle.std.proofs.Common.{◌+◌, sym, subst}
use Rattle.dc_audit.specs.Clocks.{Gathers}
use Rattle.dc_audit.proofs.Gathering.{gathers_in, gathers_none, gathers_out}
use Rattle.dc_audit.proofs.clock.gather.Goals as goal
use Rattle.dc_audit.proofs.clock.gather.Goals.{then-members-p, else-members-p}

pub loop-p-init : goal.loop-p-init
loop-p-init c = gathers_none c.args.clocks.now c.args.members.now c.args.start.now

pub loop-p-preserved : goal.loop-p-preserved
loop-p-preserved c = elim c.if-members-p.branch [
  | then-members-p w ↦ subst (λ x. Gathers (c.loop-p.p + 1) c.args.clocks.now c.args.members.now c.args.start.now x) (sym w.past-is) (gathers_in c.loop-p.p c.args.clocks.now c.args.members.now c.args.start.now c.loop-p.past w.join.new.clock w.if-members-p.true w.join.ensures c.loop-p.invariant)
  | else-members-p w ↦ subst (λ x. Gathers (c.loop-p.p + 1) c.args.clocks.now c.args.members.now c.args.start.now x) (sym w.past-is) (gathers_out c.loop-p.p c.args.clocks.now c.args.members.now c.args.start.now c.loop-p.past w.if-members-p.false c.loop-p.invariant)
]
