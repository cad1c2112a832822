use Rattle.std.proofs.Common.{Some, sym, subst}
use Rattle.dc_audit.specs.Clocks.{JudgesNext}
use Rattle.dc_audit.proofs.Judging.{judged_some}
use Rattle.dc_audit.proofs.advancing.judged.Goals as goal

pub returns-in-Some : goal.returns-in-Some
returns-in-Some c = subst (λ x. JudgesNext c.args.index c.args.line.now c.args.clock.now x (Some c.in-Some.failure)) (sym c.in-Some.is) (judged_some c.args.index c.args.line.now c.args.clock.now c.in-Some.failure)
