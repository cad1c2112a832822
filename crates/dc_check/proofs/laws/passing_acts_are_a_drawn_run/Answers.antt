use Rattle.dc_check.proofs.Drawing.{drawn_when_played, played_when_drawn}
use Rattle.dc_check.proofs.laws.passing_acts_are_a_drawn_run.Goals as goal

pub returns-clause-drawn : goal.returns-clause-drawn
returns-clause-drawn g c = drawn_when_played

pub returns-clause-plays : goal.returns-clause-plays
returns-clause-plays g c = played_when_drawn
