use Rattle.std.proofs.Common.{ap, ◌∙◌, ◌++◌, codes}
use Rattle.dc_run.proofs.outcome.Outcome.push_verdict.Goals as goal

pub returns-in-SinkFault-clause-text : goal.returns-in-SinkFault-clause-text
returns-in-SinkFault-clause-text c = rw c.in-SinkFault.is (c.push_both.ensures.text ∙ ap (λ name. c.args.line.now ++ (codes "sink failed: " ++ name)) c.outlet_name.ensures.text)
