use Rattle.dc_retrace.specs.Deciding.{AreSuitedBelow}
use Rattle.dc_retrace.proofs.deciding.first_unsuited.Given as goal

abbrev pub invariant-loop-p : goal.invariant-loop-p
invariant-loop-p l = AreSuitedBelow l.protocol l.decided l.saved l.trails l.p
