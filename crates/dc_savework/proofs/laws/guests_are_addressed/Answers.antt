use Rattle.dc_savework.proofs.Addressed.{addressed}
use Rattle.dc_savework.proofs.laws.guests_are_addressed.Goals as goal

pub returns : goal.returns
returns c = λ images inputs p q message answers is. addressed images inputs p q message answers is
