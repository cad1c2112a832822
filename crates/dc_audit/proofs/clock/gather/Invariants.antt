use Rattle.dc_audit.specs.Clocks.{Gathers}
use Rattle.dc_audit.proofs.clock.gather.Given as goal

abbrev pub invariant-loop-p : goal.invariant-loop-p
invariant-loop-p l = Gathers l.p l.clocks l.members l.start l.past
