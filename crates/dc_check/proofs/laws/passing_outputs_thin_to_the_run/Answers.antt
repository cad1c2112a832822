use Rattle.dc_check.proofs.Thinned.{thins_to_the_run}
use Rattle.dc_check.proofs.laws.passing_outputs_thin_to_the_run.Goals as goal

pub returns : goal.returns
returns c = thins_to_the_run
