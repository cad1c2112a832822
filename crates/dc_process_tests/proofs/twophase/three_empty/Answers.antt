use Rattle.std.proofs.Common.{refl}
use Rattle.dc_checkpoint.specs.States.{IsFit}
use Rattle.dc_process_tests.proofs.Three.{each_three}
use Rattle.dc_process_tests.proofs.twophase.three_empty.Goals as goal

pub returns : goal.returns
returns c = rw c.in_ok-saved.ensures (record { long = refl; fit = each_three (λ p one. IsFit (record { n = 3; p = p }) one) _ _ _ c.in_ok-first.ensures.fit c.in_ok-second.ensures.fit c.in_ok-third.ensures.fit })
