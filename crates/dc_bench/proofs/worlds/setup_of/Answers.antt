use Rattle.std.proofs.Common.{◌<◌, ◌∷◌, ℕ, zero, suc, [], arith, length, rules, slice_index_or, sym, subst, All}
use Rattle.std.proofs.lemmas.List.Elements.{All-append}
use Rattle.dc_elf.specs.declared.image.Image.{Image}
use Rattle.dc_world.specs.Openable.{CanOpen}
use Rattle.dc_bench.proofs.worlds.setup_of.Goals as goal

-- an image alone
one : (image : Image) → CanOpen image → (k : ℕ) (d : Image) → k < length (image ∷ []) → CanOpen (slice_index_or (image ∷ []) k d)
one image can zero d less = can
one image can (suc k) d less = absurd (omega (arith, less))

pub loop-preserved : goal.loop-preserved
loop-preserved c = record {
  images = search rules;
  inputs = search rules;
  good = subst (All CanOpen) (sym c.in_ok-push.ensures.items) (All-append CanOpen c.loop.images.items (c.in_ok-image_of.field-0 ∷ []) c.loop.invariant.good (one c.in_ok-image_of.field-0 c.in_ok-image_of.ensures));
}
