use Rattle.dc_check.proofs.Numbering.{record_numbers}
use Rattle.dc_check.proofs.laws.records_have_their_numbers.Goals as goal

pub returns : goal.returns
returns c = record_numbers
