use Rattle.std.proofs.Common.{refl}
use Rattle.dc_kernel.proofs.Kernels.{right_from}
use Rattle.dc_process_tests.proofs.vista.inputs.write.Goals as goal

pub returns-clause-form : goal.returns-clause-form
returns-clause-form c = let right = right_from _ _ _ c.encode.ensures.faultless in rw (right.n_is, right.p_is) refl
