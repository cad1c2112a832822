use Rattle.dc_check.proofs.Passing.{records_pass}
use Rattle.dc_check.proofs.laws.shown_lines_pass.Goals as goal

pub returns : goal.returns
returns g c = records_pass
