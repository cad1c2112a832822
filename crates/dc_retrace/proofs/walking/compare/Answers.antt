use Rattle.std.proofs.Common.{◌∙◌, arith, ap, sym}
use Rattle.dc_guest.specs.Guest.{Guest}
use Rattle.dc_kernel.specs.Kernels.{Kernel}
use Rattle.dc_model.specs.Process.{Local}
use Rattle.dc_proc.specs.Carried.{system}
use Rattle.dc_retrace.proofs.Compared.{compared_now, kernel_moved}
use Rattle.dc_retrace.proofs.Played.{numbered}
use Rattle.dc_retrace.proofs.walking.compare.Goals as goal

pub returns-then-trail-position-clause-compared : goal.returns-then-trail-position-clause-compared
returns-then-trail-position-clause-compared c = λ images inputs protocol answers x long words_is kernel_is count_is local_is was.
    let n_is = c.requires.kernel.n_is ∙ sym long in
    let number = numbered images inputs c.args.p answers in
    compared_now (system images inputs protocol) c.args.p answers x c.args.trail.now _ (omega (arith, count_is, c.if-trail-position.true, c.position.ensures, ap (λ (k : Kernel). k.position) kernel_is))
    (λ on. kernel_moved _ _ c.args.p _ _ _ _ _ _ n_is local_is (sym words_is) (sym kernel_is) (c.is_at-trail.ensures.is on (ap (λ (l : Local Guest). l.machine.number) local_is ∙ number.0) (ap (λ (l : Local Guest). l.machine.count) local_is ∙ number.1 ∙ sym n_is)))
    (λ so. c.is_at-trail.ensures.only (kernel_moved _ _ c.args.p _ _ _ _ _ _ (sym n_is) (sym local_is) words_is kernel_is so))
