use Rattle.dc_run.proofs.Checks.{acts_below}
use Rattle.dc_shows.proofs.Lists.{acts_few}
use Rattle.dc_run.proofs.checking.report_at.Goals as goal

pub returns-in-Ok-clause-processes : goal.returns-in-Ok-clause-processes
returns-in-Ok-clause-processes g c = acts_below c.args.n 0 c.in-Ok.report.acts.items c.in-Ok.ensures.is.acts

pub returns-in-Ok-clause-few : goal.returns-in-Ok-clause-few
returns-in-Ok-clause-few g c = acts_few c.args.n c.in-Ok.report.acts.items c.in-Ok.ensures.is.acts
