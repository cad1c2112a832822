use Rattle.dc_check.proofs.Meaning.{passes_exactly}
use Rattle.dc_check.proofs.laws.passing_outputs_are_the_run.Goals as goal

pub returns : goal.returns
returns c = passes_exactly
