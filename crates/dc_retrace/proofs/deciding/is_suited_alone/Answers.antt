use Rattle.std.proofs.Common.{◌≡◌, ◌∙◌, ap, refl, rules, subst, sym, false}
use Rattle.std.proofs.lemmas.Bool.{true≢false}
use Rattle.dc_kernel.specs.Kernels.{Kernel}
use Rattle.dc_proc.specs.Carried.{system}
use Rattle.dc_resume.specs.Deciding.{IsWalked}
use Rattle.dc_retrace.proofs.Suiting.{no_log_of, save_of, suited_alone, walked}
use Rattle.dc_retrace.proofs.deciding.is_suited_alone.Goals as goal

pub returns-then-not-may_log-clause-only : goal.returns-then-not-may_log-clause-only
returns-then-not-may_log-clause-only c = λ no images inputs answers x long kernel_is log_is is suits.
    let S = system images inputs c.args.protocol in
    let on = c.may_log.ensures.only (λ off. no_log_of S c.args.p answers x c.args.trail.now is refl x.kernel.position c.log_at-log.result.now refl (log_is ∙ sym c.log_at-log.ensures) suits off) in
    let off : c.may_log.result ≡ false = search rules in
    true≢false (sym on ∙ off)

pub returns-clause-is : goal.returns-clause-is
returns-clause-is c = λ yes images inputs answers x long kernel_is log_is is.
    let S = system images inputs c.args.protocol in
    let at = ap (λ (k : Kernel). k.position) (kernel_is ∙ sym c.kernel_at.ensures) ∙ sym c.position.ensures in
    let log = log_is ∙ sym c.log_at-log.ensures in
    suited_alone S c.args.p answers x c.args.trail.now is refl c.position.result c.log_at-log.result.now at log (search rules)
    (c.is_save.ensures.is yes S c.args.p answers (subst (IsWalked S c.args.p answers c.position.result c.args.trail.now.count c.args.trail.now.exposed) (sym c.deref.ensures.value)
    (walked S c.args.p answers x c.args.trail.now is refl c.position.result c.log_at-log.result.now at log)) (c.may_log.ensures.is (search rules)))

pub returns-clause-only : goal.returns-clause-only
returns-clause-only c = λ no images inputs answers x long kernel_is log_is is suits.
    let S = system images inputs c.args.protocol in
    let at = ap (λ (k : Kernel). k.position) (kernel_is ∙ sym c.kernel_at.ensures) ∙ sym c.position.ensures in
    let log = log_is ∙ sym c.log_at-log.ensures in
    c.is_save.ensures.only no S c.args.p answers (subst (IsWalked S c.args.p answers c.position.result c.args.trail.now.count c.args.trail.now.exposed) (sym c.deref.ensures.value)
    (walked S c.args.p answers x c.args.trail.now is refl c.position.result c.log_at-log.result.now at log)) (save_of S c.args.p answers x c.args.trail.now is refl c.position.result c.log_at-log.result.now at log suits)
