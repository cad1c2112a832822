use Rattle.std.proofs.Common.{◌∙◌}
use Rattle.dc_process_tests.proofs.twophase.open.Goals as goal

pub returns-in-Ok-store-clause-others : goal.returns-in-Ok-store-clause-others
returns-in-Ok-store-clause-others g c q ne =
    let index = c.in-Ok-default-false.ensures.handle.index_is in
    g.met.C.Checkpoint.untouched_on _ _ _ q (c.format.ensures.others q ne) (c.store.ensures.call.touches.others q (λ e. ne (e ∙ index)))

pub returns-in-Err-clause-others : goal.returns-in-Err-clause-others
returns-in-Err-clause-others g c q ne =
    let index = c.in-Ok-default-false.ensures.handle.index_is in
    g.met.C.Checkpoint.untouched_on _ _ _ q (c.format.ensures.others q ne) (c.store.ensures.call.touches.others q (λ e. ne (e ∙ index)))
