use Rattle.std.proofs.Common.{◌∙◌, ap, arith, refl, subst, sym}
use Rattle.std.proofs.lemmas.Option.{slice_get_read}
use Rattle.dc_kernel.specs.declared.saved.Saved.{Saved}
use Rattle.dc_model.specs.Runs.{own}
use Rattle.dc_proc.specs.Carried.{system}
use Rattle.dc_retrace.specs.Trails.{IsTrail}
use Rattle.dc_retrace.specs.Read.{kernel_of, stored_in}
use Rattle.dc_words.specs.Lists.{items_of}
use Rattle.dc_retrace.proofs.Onward.{stepped}
use Rattle.dc_retrace.proofs.walking.step.Goals as goal

pub returns-in-Ok-clause-goes : goal.returns-in-Ok-clause-goes
returns-in-Ok-clause-goes c = λ images inputs acts long walked.
    let p = c.args.taken.now.p in
    let inside = c.requires.process in
    let counts = c.forget_visibles.ensures.count ∙ c.apply.ensures.count in
    stepped images inputs c.args.protocol c.args.memories.now c.args.saved.now acts c.args.plain.now c.apply.new.self c.forget_visibles.new.self c.args.trails.now c.index-trails-p.result c.note.new.trail c.args.taken.now.t p c.args.taken.now.act c.in-Ok.applied
    walked (c.in-Ok.ensures.happens images) c.forget_visibles.ensures.world (c.forget_visibles.ensures.inputs ∙ c.apply.ensures.inputs)
    (slice_get_read c.args.trails.now _ p c.index-trails-p.result refl (omega (arith, inside, c.requires.count)) c.index-trails-p.is) (omega (arith, inside, long)) (omega (arith, inside, c.requires.count))
    (λ seen_as local_is was. c.note.ensures.noted images inputs (own p acts) (stored_in c.args.memories.now c.args.saved.now p) (long ∙ sym counts)
    (ap items_of (slice_get_read c.args.memories.now _ p c.index-memories-p.result refl (omega (arith, inside, c.requires.memories)) c.index-memories-p.is) ∙ sym c.deref.ensures.value)
    (ap kernel_of (slice_get_read c.args.saved.now _ p c.index-saved-p.result refl (omega (arith, inside, c.requires.saved)) c.index-saved-p.is) ∙ ap (λ (s : Saved). s.kernel) c.index-saved-p.is)
    seen_as local_is (subst (IsTrail (system images inputs c.args.protocol) p (own p acts) (stored_in c.args.memories.now c.args.saved.now p)) c.index-trails-p.is was))
