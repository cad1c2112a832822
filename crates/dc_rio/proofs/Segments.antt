-- What a run leaves on recoverable memory, by the segments of its processes.
use Rattle.std.proofs.Common.{◌≡◌, ◌∙◌, ◌<◌, ◌*◌, ℕ, Bool, true, false, List, [], Option, None, Some, IsSomeAnd, ap, length, slice_get, subst, sym}
use Rattle.dc_checkpoint.specs.States.{Reading, unlogged}
use Rattle.dc_checkpoint.specs.declared.checkpoint.Checkpoint as checkpoint
use Rattle.dc_media.specs.declared.keeps.Keeps as keeps
use Rattle.dc_protocols.specs.Rules.{is_joint}
use Rattle.dc_recovery.specs.Core.{Core}
use Rattle.dc_vista.specs.Parts.{parts, segment_words}
use Rattle.dc_vista.specs.Standing.{Numbers, Shape, StandsFor}
use Rattle.dc_twophase.proofs.Pairs.{known}
use Rattle.dc_together.specs.Joints.{whose}
use Rattle.dc_processes.specs.Stages.{decided_by}
use Rattle.std.proofs.lemmas.List.{length-map}
use Rattle.dc_media.specs.declared.planned.PlannedStop.{PlannedStop}
use Rattle.dc_elf.specs.Loaded.{seen_image}
use Rattle.dc_course.specs.declared.setting.Scheduled.{Scheduled}
use Rattle.dc_course.specs.Courses.{IsCourse, StoresLeft, counts_of, setting_on}
use Rattle.dc_course.specs.Headline.{Account, Setting}
use Rattle.dc_course.specs.Running.{Output}
use Rattle.dc_course.specs.Lent.{capped_by}
use Rattle.dc_elf.specs.Images.{Image as Seen}
use Rattle.std.proofs.lemmas.Option.{slice_get_within}
use Rattle.dc_rio.specs.Segments.{IsSegmentFor, SegmentsLeft}
use Rattle.dc_course.proofs.Within.{course_lent}
use Rattle.dc_course.specs.declared.ending.Ending.{Ending}

-- no segment
no_shape : Shape
no_shape = record { size = 0; form = record { n = 0; p = 0 }; lines = 0; first = unlogged [] [] }

module _ {S C D : Type 0} (words : keeps.Ghosts S) (g : checkpoint.Ghosts C D) (dev : D) (k : S) (shape_at : C → Shape) (forms : (c : C) → (shape_at c).form ≡ g.form c)
    (sizes : (c : C) → (shape_at c).size ≡ g.size c) (firsts : (c : C) → (shape_at c).first ≡ g.first c)
    (lent : (c : C) → g.lent c dev → words.extent k (g.index c) ≡ segment_words (shape_at c).lines)
    (leaves : (c : C) (d : ℕ) (r : Reading) → StandsFor (shape_at c) (parts (shape_at c).lines (words.told k (g.index c))) d r → g.leaves c dev d r)
    (numbers : (c : C) (d : ℕ) → Numbers (parts (shape_at c).lines (words.told k (g.index c))) d → g.numbers c dev d) where
  -- that of a store, where there is one
  abbrev shape_in : Option C → Shape
  shape_in None = no_shape
  shape_in (Some c) = shape_at c

  module _ (setting : Setting) (core : Core) (some : 0 < length setting.images) (left : StoresLeft g setting core dev) where
    -- the segment of a process
    abbrev shape : ℕ → Shape
    shape p = shape_in (slice_get left.stores p)

    -- its store
    store : (p : ℕ) → p < length setting.images → (c : C) × (slice_get left.stores p ≡ Some c)
    store p less = known left.stores p (subst (λ n. p < n) (sym left.all) less)

    module _ (p : ℕ) (c : C) (at : slice_get left.stores p ≡ Some c) where
      -- it is that of its index
      index_is : g.index c ≡ p
      index_is = (left.belongs p c at).index_is

      shape_is : shape p ≡ shape_at c
      shape_is = ap shape_in at

      form_at : (shape p).form ≡ whose (length setting.images) p
      form_at = ap (λ (s : Shape). s.form) shape_is ∙ forms c ∙ ap (λ n. record { n = n; p = (g.form c).p }) (left.belongs p c at).form_n ∙ ap (whose (length setting.images)) (left.belongs p c at).form_p

      -- it was made for its process
      made_for : (image : Seen) → slice_get setting.images p ≡ Some image → IsSegmentFor (length setting.images) p image (shape p)
      made_for image there = let over = left.over p c image at there in record {
        form_is = form_at;
        sized = over.sized ∙ ap (λ n. 4 * n) (sym (ap (λ (s : Shape). s.size) shape_is ∙ sizes c));
        first_is = ap (λ (s : Shape). s.first) shape_is ∙ firsts c ∙ over.first_is;
      }

      long_at : words.extent k p ≡ segment_words (shape p).lines
      long_at = ap (words.extent k) (sym index_is) ∙ lent c (left.lent p c at) ∙ sym (ap (λ (s : Shape). segment_words s.lines) shape_is)

      leaves_at : (d : ℕ) (r : Reading) → StandsFor (shape p) (parts (shape p).lines (words.told k p)) d r → IsSomeAnd (slice_get left.stores p) (λ x. g.leaves x dev d r)
      leaves_at d r l = subst (λ o. IsSomeAnd o (λ x. g.leaves x dev d r)) (sym at) (leaves c d r
          (subst (λ q. StandsFor (shape_at c) (parts (shape_at c).lines (words.told k q)) d r) (sym index_is) (subst (λ s. StandsFor s (parts s.lines (words.told k p)) d r) shape_is l)))

      numbers_at : (d : ℕ) → Numbers (parts (shape p).lines (words.told k p)) d → IsSomeAnd (slice_get left.stores p) (λ x. g.numbers x dev d)
      numbers_at d l = subst (λ o. IsSomeAnd o (λ x. g.numbers x dev d)) (sym at) (numbers c d
          (subst (λ q. Numbers (parts (shape_at c).lines (words.told k q)) d) (sym index_is) (subst (λ s. Numbers (parts s.lines (words.told k p)) d) shape_is l)))

    -- decided numbers
    decided_at : (b : Bool) (d : ℕ) → decided_by b (λ e. Numbers (parts (shape 0).lines (words.told k 0)) e) d → decided_by b (λ e. IsSomeAnd (slice_get left.stores 0) (λ x. g.numbers x dev e)) d
    decided_at true d l = let c = store 0 some in numbers_at 0 c.0 c.1 d l
    decided_at false d l = l

    -- what an image stands for
    reading_at : (p d : ℕ) (r : Reading) → (p < length setting.images) × StandsFor (shape p) (parts (shape p).lines (words.told k p)) d r → IsSomeAnd (slice_get left.stores p) (λ x. g.leaves x dev d r)
    reading_at p d r l = let c = store p l.0 in leaves_at p c.0 c.1 d r l.1

    -- the stores as segments
    pub segments_left : SegmentsLeft words setting core k
    segments_left = record {
      shape = shape;
      shape_is = λ p image there. let c = store p (slice_get_within setting.images p image there) in made_for p c.0 c.1 image there;
      long = λ p less. let c = store p less in long_at p c.0 c.1;
      stand = record {
        one = λ p inside d decided r l. left.stand.one p inside d (decided_at (is_joint setting.protocol) d decided) r (reading_at p d r l);
        all = λ global d decided r l. left.stand.all global d (decided_at (is_joint setting.protocol) d decided) r (λ p inside. reading_at p d (r p) (l p inside));
      };
    }

-- a run over segments, by what the run over its armed device says
pub memory_course : {S C D : Type 0} (words : keeps.Ghosts S) {g : checkpoint.Ghosts C D} (scheduled : Scheduled) (planned stops : List PlannedStop) (run : Account) (ending : Ending) (out : Output) (f : D → S) (old new : D) (k0 : S)
    → IsCourse (setting_on scheduled planned) run ending out (counts_of (λ d. words.stops (f d)) (λ d. capped_by words.calls (f d)) old new) (λ core d. StoresLeft g (setting_on scheduled planned) core d)
    → planned ≡ stops → f old ≡ k0
    → (shape_at : C → Shape) → ((c : C) → (shape_at c).form ≡ g.form c) → ((c : C) → (shape_at c).size ≡ g.size c) → ((c : C) → (shape_at c).first ≡ g.first c) → ((d : D) (c : C) → g.lent c d → words.extent (f d) (g.index c) ≡ segment_words (shape_at c).lines)
    → ((x : D) (c : C) (d : ℕ) (r : Reading) → StandsFor (shape_at c) (parts (shape_at c).lines (words.told (f x) (g.index c))) d r → g.leaves c x d r)
    → ((x : D) (c : C) (d : ℕ) → Numbers (parts (shape_at c).lines (words.told (f x) (g.index c))) d → g.numbers c x d)
    → IsCourse (setting_on scheduled stops) run ending out (counts_of words.stops (capped_by words.calls) k0 (f new)) (λ core k. SegmentsLeft words (setting_on scheduled stops) core k)
memory_course words {g} scheduled planned stops run ending out f old new k0 course plan lent shape_at forms sizes firsts lents leaves numbers =
    subst (λ ss. IsCourse (setting_on scheduled ss) run ending out (counts_of words.stops (capped_by words.calls) k0 (f new)) (λ core k. SegmentsLeft words (setting_on scheduled ss) core k)) plan
    (subst (λ x. IsCourse (setting_on scheduled planned) run ending out (counts_of words.stops (capped_by words.calls) x (f new)) (λ core k. SegmentsLeft words (setting_on scheduled planned) core k)) lent
    (course_lent (setting_on scheduled planned) run ending out f words.stops (capped_by words.calls) old new (λ core d. StoresLeft g (setting_on scheduled planned) core d) (λ core k. SegmentsLeft words (setting_on scheduled planned) core k)
    (λ core d left. segments_left words g d (f d) shape_at forms sizes firsts (lents d) (leaves d) (numbers d) (setting_on scheduled planned) core (subst (λ n. 0 < n) (sym (length-map scheduled.setup.images.items seen_image)) scheduled.setup.some) left) course))
