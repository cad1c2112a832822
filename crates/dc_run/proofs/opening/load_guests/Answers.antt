use Rattle.std.proofs.Common.{All, Ok, ◌≡◌, ◌∙◌, ◌++◌, ◌∷◌, [], ap, map, sym, subst, rules}
use Rattle.std.proofs.lemmas.List.{map-append}
use Rattle.std.proofs.lemmas.List.Elements.{All-append, All-cons, All-nil}
use Rattle.std.proofs.lemmas.Result.{err_from_is_err_and}
use Rattle.std.specs.List.{AllByRecursion}
use Rattle.dc_elf.specs.Loaded.{seen_image}
use Rattle.dc_shows.specs.Typed.{IsImage}
use Rattle.dc_world.specs.Openable.{CanOpen}
use Rattle.dc_run.specs.declared.refusal.Refusal.TheVariants.{Library}
use Rattle.dc_shows.proofs.Lists.{all_both}
use Rattle.dc_run.proofs.Openings.{guest_added, guest_asked, guest_stops, same_refusal, told_on}
use Rattle.dc_run.proofs.opening.load_guests.Goals as goal

pub returns-in_err-image-clause-told : goal.returns-in_err-image-clause-told
returns-in_err-image-clause-told g c = λ files known. let p = err_from_is_err_and c.from_residual.result c.from_residual.ensures.1 in
    rw (p.1, p.2) (told_on c.in_err-image.field-0.0 _ _ (guest_stops files c.args.size c.args.names.now c.loop-name.name-index _ c.name-item.result c.deref.result.now _
    c.loop-name-test.true (search rules) (search rules) (search rules) (c.loop-name.invariant.loaded files known) c.in_err-image.field-0.0)
    (c.in_err-image.ensures.told files (c.loop-name.invariant.files ∙ known)))

pub returns-in_err-image-clause-reached : goal.returns-in_err-image-clause-reached
returns-in_err-image-clause-reached g c = λ files w known fault. let p = err_from_is_err_and c.from_residual.result c.from_residual.ensures.1 in
    let failed = same_refusal c.in_err-image.field-0.0 (Library w) (rw (p.1, p.2) at fault) in (
      c.loop-name.name-index,
      search rules,
      guest_asked files c.args.size c.args.names.now c.loop-name.name-index c.loop-name.name-index c.name-item.result c.deref.result.now _
          c.loop-name-test.true (search rules) (search rules) (search rules) (c.loop-name.invariant.loaded files known)
          (c.in_err-image.ensures.there files w (c.loop-name.invariant.files ∙ known) failed),
    )

pub loop-name-preserved : goal.loop-name-preserved
loop-name-preserved g c = let pushed : c.push.new.self.items ≡ c.loop-name.images.items ++ c.in_ok-image.image ∷ [] = search rules in record {
  loaded = λ files known. guest_added files c.args.size c.args.names.now c.loop-name.name-index _ c.name-item.result c.deref.result.now _
      c.loop-name-test.true (search rules) (search rules) (search rules) (c.loop-name.invariant.loaded files known) (seen_image c.in_ok-image.image)
      (c.in_ok-image.ensures.told files (c.loop-name.invariant.files ∙ known))
      ∙ ap (λ (all : _). Ok all) (sym (map-append seen_image c.loop-name.images.items (c.in_ok-image.image ∷ [])) ∙ ap (map seen_image) (sym pushed));
  good = subst (All CanOpen) (sym pushed) (All-append CanOpen c.loop-name.images.items (c.in_ok-image.image ∷ []) c.loop-name.invariant.good (All-cons CanOpen c.in_ok-image.image [] c.in_ok-image.ensures.good (All-nil CanOpen)));
  typed = subst (λ xs. AllByRecursion IsImage xs) (sym (map-append seen_image c.loop-name.images.items (c.in_ok-image.image ∷ [])) ∙ ap (map seen_image) (sym pushed))
      (all_both IsImage (map seen_image c.loop-name.images.items) (seen_image c.in_ok-image.image ∷ []) c.loop-name.invariant.typed (c.in_ok-image.ensures.typed, tt));
  count = search rules;
  files = search rules;
  library = search rules;
}
