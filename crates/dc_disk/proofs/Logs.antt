-- What a run leaves on disks, by the redo logs of its processes.
use Rattle.std.proofs.Common.{◌≡◌, ◌∙◌, ◌<◌, ℕ, Bool, true, false, List, [], Option, None, Some, Ok, IsSomeAnd, ap, length, slice_get, subst, sym, ⊎_elim}
use Rattle.std.proofs.lemmas.Bool.{cases_Bool}
use Rattle.dc_checkpoint.specs.States.{Reading, unlogged}
use Rattle.dc_checkpoint.specs.declared.checkpoint.Checkpoint as checkpoint
use Rattle.dc_media.specs.declared.disks.Disks as disks
use Rattle.dc_protocols.specs.Rules.{is_joint}
use Rattle.dc_recovery.specs.Core.{Core}
use Rattle.dc_processes.proofs.Beside.{some_and}
use Rattle.dc_redo.proofs.Steady.{undecided_steady}
use Rattle.dc_redo.specs.Handles.{IsSteady}
use Rattle.dc_redo.specs.Shapes.{Shape}
use Rattle.dc_redo.specs.Standing.{Numbers, StandsFor}
use Rattle.dc_twophase.proofs.Pairs.{known}
use Rattle.dc_processes.specs.Stages.{decided_by}
use Rattle.std.proofs.lemmas.List.{length-map}
use Rattle.dc_media.specs.declared.planned.PlannedStop.{PlannedStop}
use Rattle.dc_elf.specs.Loaded.{seen_image}
use Rattle.dc_course.specs.declared.setting.Scheduled.{Scheduled}
use Rattle.dc_course.specs.Courses.{IsCourse, StoresLeft, counts_of, setting_on}
use Rattle.dc_course.specs.Headline.{Account, Setting}
use Rattle.dc_course.specs.Running.{Output}
use Rattle.dc_course.specs.Lent.{capped_by}
use Rattle.dc_disk.proofs.Logged.{IsLogged, shape_for}
use Rattle.dc_disk.specs.Logs.{LogsLeft}
use Rattle.std.proofs.lemmas.Option.{slice_get_within}
use Rattle.dc_course.proofs.Within.{course_lent}
use Rattle.dc_course.specs.declared.ending.Ending.{Ending}

-- no log
no_shape : Shape
no_shape = record { size = 0; kernel = 0; event = 0; form = record { n = 0; p = 0 }; first = unlogged [] [] }

module _ {S C D : Type 0} (disk : disks.Ghosts S) (g : checkpoint.Ghosts C D) (f : D → S) (shape_at : C → Shape) (is : IsLogged disk g f shape_at) (dev : D) where
  -- the disk that is lent
  abbrev k : S
  k = f dev

  -- that of a store, where there is one
  abbrev shape_in : Option C → Shape
  shape_in None = no_shape
  shape_in (Some c) = shape_at c

  module _ (setting : Setting) (core : Core) (some : 0 < length setting.images) (left : StoresLeft g setting core dev) where
    -- the log of a process
    abbrev shape : ℕ → Shape
    shape p = shape_in (slice_get left.stores p)

    -- its store
    store : (p : ℕ) → p < length setting.images → (c : C) × (slice_get left.stores p ≡ Some c)
    store p less = known left.stores p (subst (λ n. p < n) (sym left.all) less)

    module _ (p : ℕ) (c : C) (at : slice_get left.stores p ≡ Some c) where
      -- it is that of its index
      index_is : g.index c ≡ p
      index_is = (left.belongs p c at).index_is

      shape_is : shape p ≡ shape_at c
      shape_is = ap shape_in at

      leaves_at : (d : ℕ) (r : Reading) → StandsFor (shape p) (disk.told k p) d r → IsSomeAnd (slice_get left.stores p) (λ x. g.leaves x dev d r)
      leaves_at d r l = subst (λ o. IsSomeAnd o (λ x. g.leaves x dev d r)) (sym at) (is.leaves_to c dev d r
          (subst (λ q. StandsFor (shape_at c) (disk.told k q) d r) (sym index_is) (subst (λ s. StandsFor s (disk.told k p) d r) shape_is l)))

      numbers_at : (d : ℕ) → Numbers (shape p) (disk.told k p) d → IsSomeAnd (slice_get left.stores p) (λ x. g.numbers x dev d)
      numbers_at d l = subst (λ o. IsSomeAnd o (λ x. g.numbers x dev d)) (sym at) (is.numbers_to c dev d
          (subst (λ q. Numbers (shape_at c) (disk.told k q) d) (sym index_is) (subst (λ s. Numbers s (disk.told k p) d) shape_is l)))

    -- decided numbers
    decided_at : (b : Bool) (d : ℕ) → decided_by b (λ e. Numbers (shape 0) (disk.told k 0) e) d → decided_by b (λ e. IsSomeAnd (slice_get left.stores 0) (λ x. g.numbers x dev e)) d
    decided_at true d l = let c = store 0 some in numbers_at 0 c.0 c.1 d l
    decided_at false d l = l

    -- the decided number is as steady as to its handle
    steady_at : IsSteady (shape 0) (disk.told k 0)
    steady_at = ⊎_elim
        (λ (joint : is_joint setting.protocol ≡ true). let c = store 0 some in
        subst (λ s. IsSteady s (disk.told k 0)) (sym (shape_is 0 c.0 c.1)) (subst (λ q. IsSteady (shape_at c.0) (disk.told k q)) (index_is 0 c.0 c.1)
        (is.steady_from c.0 dev (some_and (λ x. g.steady x dev) (slice_get left.stores 0) c.0 c.1 (left.reread.steady joint)))))
        (λ (alone : is_joint setting.protocol ≡ false). undecided_steady (shape 0) (disk.told k 0) (λ d l. let c = store 0 some in left.reread.alone alone d (numbers_at 0 c.0 c.1 d l)))
        (cases_Bool (is_joint setting.protocol))

    -- what an image stands for
    reading_at : (p d : ℕ) (r : Reading) → (p < length setting.images) × StandsFor (shape p) (disk.told k p) d r → IsSomeAnd (slice_get left.stores p) (λ x. g.leaves x dev d r)
    reading_at p d r l = let c = store p l.0 in leaves_at p c.0 c.1 d r l.1

    -- the stores as logs
    pub logs_left : LogsLeft disk setting core k
    logs_left = record {
      shape = shape;
      shape_is = λ p image at. let c = store p (slice_get_within setting.images p image at) in shape_is p c.0 c.1 ∙ shape_for is (length setting.images) p image c.0 (left.over p c.0 image c.1 at);
      stand = record {
        one = λ p inside d decided r l. left.stand.one p inside d (decided_at (is_joint setting.protocol) d decided) r (reading_at p d r l);
        all = λ global d decided r l. left.stand.all global d (decided_at (is_joint setting.protocol) d decided) r (λ p inside. reading_at p d (r p) (l p inside));
      };
      steady = steady_at;
      alone = λ alone d l. let c = store 0 some in left.reread.alone alone d (numbers_at 0 c.0 c.1 d l);
      reached = λ joint d p s l inside stands. let c = store 0 some in left.reread.reached joint d p s (numbers_at 0 c.0 c.1 d l) inside (reading_at p d (Ok s) (inside, stands));
    }

-- a run on disks, by what the run over its armed device says
pub disk_course : {S C D : Type 0} (disk : disks.Ghosts S) {g : checkpoint.Ghosts C D} (scheduled : Scheduled) (planned stops : List PlannedStop) (run : Account) (ending : Ending) (out : Output) (f : D → S) (old new : D) (k0 : S)
    → IsCourse (setting_on scheduled planned) run ending out (counts_of (λ d. disk.stops (f d)) (λ d. capped_by disk.calls (f d)) old new) (λ core d. StoresLeft g (setting_on scheduled planned) core d)
    → planned ≡ stops → f old ≡ k0 → (shape_at : C → Shape) → IsLogged disk g f shape_at
    → IsCourse (setting_on scheduled stops) run ending out (counts_of disk.stops (capped_by disk.calls) k0 (f new)) (λ core k. LogsLeft disk (setting_on scheduled stops) core k)
disk_course disk {g} scheduled planned stops run ending out f old new k0 course plan lent shape_at is =
    subst (λ ss. IsCourse (setting_on scheduled ss) run ending out (counts_of disk.stops (capped_by disk.calls) k0 (f new)) (λ core k. LogsLeft disk (setting_on scheduled ss) core k)) plan
    (subst (λ x. IsCourse (setting_on scheduled planned) run ending out (counts_of disk.stops (capped_by disk.calls) x (f new)) (λ core k. LogsLeft disk (setting_on scheduled planned) core k)) lent
    (course_lent (setting_on scheduled planned) run ending out f disk.stops (capped_by disk.calls) old new (λ core d. StoresLeft g (setting_on scheduled planned) core d) (λ core k. LogsLeft disk (setting_on scheduled planned) core k)
    (λ core d left. logs_left disk g f shape_at is d (setting_on scheduled planned) core (subst (λ n. 0 < n) (sym (length-map scheduled.setup.images.items seen_image)) scheduled.setup.some) left) course))
