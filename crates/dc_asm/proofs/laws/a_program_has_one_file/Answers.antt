use Rattle.dc_asm.proofs.Single.{one_file}
use Rattle.dc_asm.proofs.laws.a_program_has_one_file.Goals as goal

pub returns : goal.returns
returns c = one_file
