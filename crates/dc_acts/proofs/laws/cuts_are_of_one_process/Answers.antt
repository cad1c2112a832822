use Rattle.dc_acts.proofs.Counting.{other_cut, own_cut}
use Rattle.dc_acts.proofs.Owning.{own_all, own_first}
use Rattle.dc_acts.proofs.laws.cuts_are_of_one_process.Goals as goal

pub returns : goal.returns
returns c = record { own = own_first; others = own_all; own_count = own_cut; other_counts = other_cut }
