use Rattle.std.proofs.Common.{arith}
use Rattle.dc_process_tests.proofs.Three.{each_three}
use Rattle.dc_process_tests.proofs.twophase.three.Goals as goal

pub returns-clause-lent : goal.returns-clause-lent
returns-clause-lent g c =
    let C = g.C.Checkpoint in
    let law = g.met.C.Checkpoint in
    let one = c.in_ok-first.ensures in
    let two = c.in_ok-second.ensures in
    let three = c.in_ok-third.ensures in
    rw c.in_ok-stores.ensures (each_three (λ i x. C.lent x c.open-3.new.dev) _ _ _
    (law.lent_still _ _ _ (three.others _ (omega (arith, one.index))) (law.lent_still _ _ _ (two.others _ (omega (arith, one.index))) one.lent))
    (law.lent_still _ _ _ (three.others _ (omega (arith, two.index))) two.lent)
    three.lent)

pub returns-clause-ready : goal.returns-clause-ready
returns-clause-ready g c =
    let C = g.C.Checkpoint in
    let law = g.met.C.Checkpoint in
    let one = c.in_ok-first.ensures in
    let two = c.in_ok-second.ensures in
    let three = c.in_ok-third.ensures in
    rw c.in_ok-stores.ensures (each_three (λ i x. C.ready x c.open-3.new.dev) _ _ _
    (law.ready_still _ _ _ (three.others _ (omega (arith, one.index))) (law.ready_still _ _ _ (two.others _ (omega (arith, one.index))) one.ready))
    (law.ready_still _ _ _ (three.others _ (omega (arith, two.index))) two.ready)
    three.ready)
