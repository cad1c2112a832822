use Rattle.std.proofs.Common.{sym, arith}
use Rattle.dc_armed.proofs.Firsts.{waits-taken, waits-other_turn}
use Rattle.dc_armed.proofs.arming.arm_one.Goals as goal

pub returns-then-comes_in-clause-waits : goal.returns-then-comes_in-clause-waits
returns-then-comes_in-clause-waits c = λ stops before.
    rw c.sooner.ensures (waits-taken stops c.args.stop.now c.args.turn c.args.waiting.now (sym c.if-comes_in.ensures) (omega arith) before)

pub returns-clause-waits : goal.returns-clause-waits
returns-clause-waits c = λ stops before. waits-other_turn stops c.args.stop.now c.args.turn c.args.waiting.now (sym c.if-comes_in.ensures) before
