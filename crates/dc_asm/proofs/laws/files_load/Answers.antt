use Rattle.dc_asm.proofs.Loads.{image_is, is_right}
use Rattle.dc_asm.proofs.laws.files_load.Goals as goal

pub returns : goal.returns
returns c = record { right = is_right; image = image_is }
