use Rattle.std.proofs.Common.{arith}
use Rattle.dc_audit.proofs.Counted.{keeps_step}
use Rattle.dc_audit.proofs.lines.judge_line.Goals as goal

pub returns : goal.returns
returns c = (
  omega (arith, c.advance.auto.clocks, c.requires.wide),
  omega (arith, c.advance.auto.links, c.requires.linked),
  keeps_step c.args.causal c.args.index c.args.line.now c.args.clocks.now c.advance.new.clocks c.args.links.now c.advance.new.links c.args.last.now c.advance.new.last c.in_ok-clock.clock c.args.failure.now c.judged.result
      c.requires.linked c.in_ok-clock.ensures.wide c.requires.sixteen c.requires.due c.in_ok-clock.ensures.links c.in_ok-clock.ensures.clocks c.judged.ensures,
)
