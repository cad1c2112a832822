use Rattle.std.proofs.Common.{◌≡◌, ◌∷◌, ◌++◌, [], All, List, subst, sym}
use Rattle.std.proofs.lemmas.List.Elements.{All-append, All-cons, All-nil}
use Rattle.dc_elf.specs.declared.image.Image.{Image}
use Rattle.dc_elf.specs.Loaded.{CanStart}
use Rattle.dc_world.specs.Openable.{CanOpen}
use Rattle.dc_course_tests.proofs.runs.guests.images.Goals as goal

-- one more of which it holds
one_more : (P : Image → Type 0) (old new : List Image) (image : Image) → new ≡ old ++ image ∷ [] → All P old → P image → All P new
one_more P old new image is all one = subst (All P) (sym is) (All-append P old (image ∷ []) all (All-cons P image [] one (All-nil P)))

pub loop-name-preserved : goal.loop-name-preserved
loop-name-preserved c = record {
  good = one_more CanOpen c.loop-name.images.items c.push.new.self.items c.in_ok-image.field-0 c.in_ok-push.ensures.items c.loop-name.invariant.good c.in_ok-image.ensures.good;
  start = one_more CanStart c.loop-name.images.items c.push.new.self.items c.in_ok-image.field-0 c.in_ok-push.ensures.items c.loop-name.invariant.start c.in_ok-image.ensures.good.0;
}
