use Rattle.std.proofs.Common.{None}
use Rattle.dc_armed.proofs.Firsts.{get_or-replicate_same}
use Rattle.dc_armed.proofs.arming.none_waiting.Goals as goal

pub returns : goal.returns
returns c = get_or-replicate_same None 32
