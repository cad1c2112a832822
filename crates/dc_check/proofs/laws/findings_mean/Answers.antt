use Rattle.dc_check.proofs.Found.{passing_is}
use Rattle.dc_check.proofs.laws.findings_mean.Goals as goal

pub returns : goal.returns
returns g c = λ G schedule acts out visibles whole. passing_is G schedule acts out whole visibles
