use Rattle.std.proofs.Common.{◌≡◌, ◌∙◌, ◌+◌, [], ◌∷◌, ap, length, refl, rules, subst, sym, slice_get}
use Rattle.std.proofs.lemmas.List.{length-append}
use Rattle.std.proofs.lemmas.List.Elements.{All-push}
use Rattle.std.proofs.lemmas.Option.{slice_get_read}
use Rattle.dc_elf.specs.Loaded.{seen_image}
use Rattle.dc_plain.specs.Playing.{AreAmong, begun_at}
use Rattle.dc_plain.proofs.Begins.{BegunUpTo, begun_all, begun_one_more}
use Rattle.dc_plain.proofs.plain.begin_each.Goals as goal

pub loop-p-preserved : goal.loop-p-preserved
loop-p-preserved c = record {
  so_far = ap length c.in_ok-push.ensures.items ∙ length-append c.loop-p.processes.items (c.in_ok-new.field-0 ∷ []) ∙ ap (λ n. n + 1) c.loop-p.invariant.so_far;
  each = subst (AreAmong (length c.args.images.now)) (sym c.in_ok-push.ensures.items)
      (All-push (λ l. l.guest.count ≡ length c.args.images.now) c.loop-p.processes.items c.in_ok-new.field-0 c.loop-p.invariant.each c.in_ok-new.ensures.count);
  begun = subst (BegunUpTo c.args.images.now) (sym c.in_ok-push.ensures.items)
      (begun_one_more c.args.images.now c.loop-p.processes.items c.in_ok-new.field-0 c.index-images-p.result
      (ap (slice_get c.args.images.now) c.loop-p.invariant.so_far ∙ slice_get_read c.args.images.now _ c.loop-p.p c.index-images-p.result refl (search rules) c.index-images-p.is)
      (c.in_ok-new.ensures.begun ∙ ap (λ n. begun_at n (length c.args.images.now) (seen_image c.index-images-p.result)) (sym c.loop-p.invariant.so_far))
      c.loop-p.invariant.begun);
}

pub returns-clause-begun : goal.returns-clause-begun
returns-clause-begun c = λ inputs p. begun_all c.args.images.now c.loop-p.processes.items inputs (search rules) c.loop-p.invariant.begun p
