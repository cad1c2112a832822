use Rattle.dc_armed.proofs.Firsts.{get_or-replicate_same}
use Rattle.dc_armed.proofs.plan.none_counted.Goals as goal

pub returns : goal.returns
returns c = get_or-replicate_same 0 32
