use Rattle.std.proofs.Common.{◌∙◌, Some, ap, sym}
use Rattle.std.proofs.lemmas.Result.{IfOk-weaker, on_ok_weaker, on_err_weaker}
use Rattle.dc_plain.proofs.Applying.{applied_before, before, happens_here, later}
use Rattle.dc_plain.proofs.plain.Plain.apply.Goals as goal

pub returns-clause-applied : goal.returns-clause-applied
returns-clause-applied c = on_ok_weaker c.apply_to.result (λ is images.
    applied_before c.args.self.now c.self.inside.processes c.self.inside.inputs c.self.inside.visibles.items c.apply_to.new.visibles.items c.deref_mut.result.now c.apply_to.new.processes c.deref.result.now
    c.self.view_is c.deref_mut.ensures.value c.deref.ensures.value c.apply_to.ensures.length images c.args.p c.args.act.now
    ∙ is images
    ∙ ap (λ w. Some w) (sym (later c.args.self.now c.self.inside.processes c.self.inside.inputs c.self.inside.visibles.items c.apply_to.new.visibles.items c.deref_mut.result.now c.apply_to.new.processes c.deref.result.now
    c.self.view_is c.deref_mut.ensures.value c.deref.ensures.value c.apply_to.ensures.length))) c.apply_to.ensures.applied

pub returns-clause-illegal : goal.returns-clause-illegal
returns-clause-illegal c = λ images.
    let same = applied_before c.args.self.now c.self.inside.processes c.self.inside.inputs c.self.inside.visibles.items c.apply_to.new.visibles.items c.deref_mut.result.now c.apply_to.new.processes c.deref.result.now
    c.self.view_is c.deref_mut.ensures.value c.deref.ensures.value c.apply_to.ensures.length images c.args.p c.args.act.now in
    (λ refused. same ∙ (c.apply_to.ensures.illegal images).0 refused, λ none. (c.apply_to.ensures.illegal images).1 (sym same ∙ none))

pub returns-clause-unchanged : goal.returns-clause-unchanged
returns-clause-unchanged c = on_err_weaker c.apply_to.result (λ is.
    later c.args.self.now c.self.inside.processes c.self.inside.inputs c.self.inside.visibles.items c.apply_to.new.visibles.items c.deref_mut.result.now c.apply_to.new.processes c.deref.result.now
    c.self.view_is c.deref_mut.ensures.value c.deref.ensures.value c.apply_to.ensures.length
    ∙ is
    ∙ sym (before c.args.self.now c.self.inside.processes c.self.inside.inputs c.self.inside.visibles.items c.apply_to.new.visibles.items c.deref_mut.result.now c.apply_to.new.processes c.deref.result.now
    c.self.view_is c.deref_mut.ensures.value c.deref.ensures.value c.apply_to.ensures.length)) c.apply_to.ensures.unchanged

pub returns-clause-happens : goal.returns-clause-happens
returns-clause-happens c = IfOk-weaker c.apply_to.result _ _ (λ applied is images.
    happens_here c.args.self.now c.self.inside.processes c.self.inside.inputs c.self.inside.visibles.items c.apply_to.new.visibles.items c.deref_mut.result.now c.apply_to.new.processes c.deref.result.now
    c.self.view_is c.deref_mut.ensures.value c.deref.ensures.value c.apply_to.ensures.length images c.args.p c.args.act.now applied (is images)) c.apply_to.ensures.happens
