-- What was read of the logs on disks, by what was read of handles over them.
use Rattle.std.proofs.Common.{IsSome, ◌≡◌, ◌<◌, ℕ, List, Some, Result, Ok, Err, OnErr, length, reverse, slice_get, subst, sym}
use Rattle.std.proofs.lemmas.List.{length-map}
use Rattle.dc_checkpoint.specs.States.{Reading}
use Rattle.dc_checkpoint.specs.declared.checkpoint.Checkpoint as checkpoint
use Rattle.dc_checkpoint.specs.declared.faults.StoreFault.{StoreFault}
use Rattle.dc_elf.specs.declared.image.Image.{Image}
use Rattle.dc_guest.specs.Guest.{Guest}
use Rattle.dc_media.specs.declared.disks.Disks as disks
use Rattle.dc_model.specs.declared.act.Taken.{Taken}
use Rattle.dc_recovery.specs.Systems.{System}
use Rattle.dc_redo.specs.Handles.{IsSteady}
use Rattle.dc_redo.specs.Shapes.{Shape}
use Rattle.dc_redo.specs.Standing.{Numbers, StandsFor}
use Rattle.dc_world.specs.Opened.{IsOver}
use Rattle.dc_world.specs.Reopened.{HasHandle, HasNumber, IsFirstSteady, IsReadBeside, Refuses, Stood}
use Rattle.dc_course.proofs.Within.{part_lent}
use Rattle.dc_course.specs.Continued.{IsCourseOn, setting_from}
use Rattle.dc_course.specs.Courses.{StoresLeft, counts_of}
use Rattle.dc_course.specs.Headline.{Account, system_in}
use Rattle.dc_course.specs.Lent.{capped_by}
use Rattle.dc_course.specs.Running.{Output}
use Rattle.dc_course.specs.declared.ending.Ending.{Ending}
use Rattle.dc_elf.specs.Loaded.{seen_image}
use Rattle.dc_media.specs.declared.planned.PlannedStop.{PlannedStop}
use Rattle.dc_model.specs.declared.visible.Visible.{Visible}
use Rattle.dc_recovery.specs.Recoveries.{resumed_core}
use Rattle.dc_resume.specs.Suited.{saves_in}
use Rattle.dc_course.specs.declared.setting.Scheduled.{Scheduled}
use Rattle.dc_world.specs.declared.reopening.Earlier.{Earlier}
use Rattle.dc_disk.proofs.Logs.{logs_left}
use Rattle.dc_disk.proofs.Logged.{IsLogged, shape_for}
use Rattle.dc_disk.specs.Logs.{AreLogsRead, FirstLogHas, IsFirstLogSteady, LogRefuses, LogsLeft, LogsStood, log_for}

module _ {S C D : Type 0} (disk : disks.Ghosts S) {g : checkpoint.Ghosts C D} (f : D → S) (shape_at : C → Shape) (is : IsLogged disk g f shape_at) (images : List Image) where
  abbrev n : ℕ
  n = length images

  module _ (p : ℕ) (image : Image) (c : C) (over : IsOver g n p (seen_image image) c) where
    shape_is : shape_at c ≡ log_for n p (seen_image image)
    shape_is = shape_for is n p (seen_image image) c over

    pub leaves_in : (x : D) (d : ℕ) (r : Reading) → StandsFor (log_for n p (seen_image image)) (disk.told (f x) p) d r → g.leaves c x d r
    leaves_in x d r l = is.leaves_to c x d r (subst (λ q. StandsFor (shape_at c) (disk.told (f x) q) d r) (sym over.belongs.index_is) (subst (λ sh. StandsFor sh (disk.told (f x) p) d r) (sym shape_is) l))

    pub leaves_out : (x : D) (d : ℕ) (r : Reading) → g.leaves c x d r → StandsFor (log_for n p (seen_image image)) (disk.told (f x) p) d r
    leaves_out x d r l = subst (λ sh. StandsFor sh (disk.told (f x) p) d r) shape_is (subst (λ q. StandsFor (shape_at c) (disk.told (f x) q) d r) over.belongs.index_is (is.leaves_from c x d r l))

    pub numbers_in : (x : D) (d : ℕ) → Numbers (log_for n p (seen_image image)) (disk.told (f x) p) d → g.numbers c x d
    numbers_in x d l = is.numbers_to c x d (subst (λ q. Numbers (shape_at c) (disk.told (f x) q) d) (sym over.belongs.index_is) (subst (λ sh. Numbers sh (disk.told (f x) p) d) (sym shape_is) l))

    pub numbers_out : (x : D) (d : ℕ) → g.numbers c x d → Numbers (log_for n p (seen_image image)) (disk.told (f x) p) d
    numbers_out x d l = subst (λ sh. Numbers sh (disk.told (f x) p) d) shape_is (subst (λ q. Numbers (shape_at c) (disk.told (f x) q) d) over.belongs.index_is (is.numbers_from c x d l))

  -- a first log that is steady is, to each handle that is attached to it
  pub first_steady : (x : D) → IsFirstLogSteady disk images (f x) → IsFirstSteady g images x
  first_steady x kept image c at attached = is.steady_to c x
      (subst (λ q. IsSteady (shape_at c) (disk.told (f x) q)) (sym attached.over.belongs.index_is) (subst (λ sh. IsSteady sh (disk.told (f x) 0)) (sym (shape_is 0 image c attached.over)) (kept image at))) attached.floor_is

  -- a decided number that the first log may hold, a handle over it may hold, and the other way
  pub has_number : (x : D) (d : ℕ) → ((p : ℕ) → HasHandle g images p) → FirstLogHas disk images (f x) d → HasNumber g images x d
  has_number x d handles (image, at, held) = let h = handles 0 image at in (image, h.0, at, h.1, numbers_in 0 image h.0 h.1 x d held)

  pub number_logged : (x : D) (d : ℕ) → HasNumber g images x d → FirstLogHas disk images (f x) d
  number_logged x d (image, c, at, over, held) = (image, at, numbers_out 0 image c over x d held)

  module _ (old new : D) where
    pub logs_stood : (d : ℕ) → ((p : ℕ) (image : Image) → slice_get images p ≡ Some image → (c : C) × IsOver g n p (seen_image image) c) → Stood g images d old new → LogsStood disk images d (f old) (f new)
    logs_stood d handles stood p image at r l = let h = handles p image at in leaves_out p image h.0 h.1 old d r (stood p image h.0 at h.1 r (leaves_in p image h.0 h.1 new d r l))

    -- what was read
    unfoldable pub logs_read : (of : System Guest) (acts : List Taken) → IsReadBeside g of images acts old new → AreLogsRead disk of images acts (f old) (f new)
    logs_read of acts x = record {
      decided = x.decided;
      given = x.given;
      stored = x.stored;
      is_run = x.is_run;
      reports = x.reports;
      are_stored = x.are_stored;
      are_read = λ p image at r l. let h = x.handles p image at in x.are_read p image h.0 at h.1 r (leaves_in p image h.0 h.1 new x.decided r l);
      stood = logs_stood x.decided x.handles x.stood;
      numbers = λ image at e l. let h = x.handles 0 image at in x.numbers image h.0 at h.1 e (numbers_in 0 image h.0 h.1 new e l);
      were = λ d has. number_logged old d (x.were d (has_number new d x.handles has));
    }

    -- a refusal
    pub log_refuses : (d p : ℕ) (fault : StoreFault) → Refuses g images d new p fault → LogRefuses disk images d (f new) p fault
    log_refuses d p fault refuses = record {
      one_of = refuses.one_of;
      only = λ image at r l. let h = refuses.handle image at in refuses.only image h.0 at h.1 r (leaves_in p image h.0 h.1 new d r l);
    }

-- what two things say that hold where a call failed
pub on_errs : {T E P Q R : Type 0} (r : Result T E) → OnErr r P → OnErr r Q → (P → Q → R) → OnErr r R
on_errs (Ok x) p q join = tt
on_errs (Err e) p q join = join p q

-- what is said of a failed call, where it failed so
pub said_err : {T E P : Type 0} (r : Result T E) (e : E) → r ≡ Err e → OnErr r P → P
said_err {P = P} r e is said = subst (λ x. OnErr x P) is said

-- a part of a run on disks that goes on, by what the part over its armed device says
pub disk_part : {S C D : Type 0} (disk : disks.Ghosts S) {g : checkpoint.Ghosts C D} (scheduled : Scheduled) (earlier : Earlier) (planned stops : List PlannedStop) (lines : List Visible) (run : Account) (ending : Ending) (out : Output) (f : D → S) (old new read : D) (k0 : S)
    → (x : IsReadBeside g (system_in (setting_from scheduled planned earlier.entries)) scheduled.setup.images.items earlier.acts.now old read)
    → IsCourseOn (setting_from scheduled planned earlier.entries) lines (resumed_core x.given (reverse lines) (saves_in (system_in (setting_from scheduled planned earlier.entries)) x.stored)) run ending out
    (counts_of (λ d. disk.stops (f d)) (λ d. capped_by disk.calls (f d)) old new) (λ core d. StoresLeft g (setting_from scheduled planned earlier.entries) core d)
    → planned ≡ stops → f old ≡ k0 → ((p : ℕ) → p < length scheduled.setup.images.items → IsSome (disk.told (f read) p)) → (shape_at : C → Shape) → IsLogged disk g f shape_at
    → (k : S) × ((p : ℕ) → p < length scheduled.setup.images.items → IsSome (disk.told k p)) × (y : AreLogsRead disk (system_in (setting_from scheduled stops earlier.entries)) scheduled.setup.images.items earlier.acts.now k0 k)
    × IsCourseOn (setting_from scheduled stops earlier.entries) lines (resumed_core y.given (reverse lines) (saves_in (system_in (setting_from scheduled stops earlier.entries)) y.stored)) run ending out
    (counts_of disk.stops (capped_by disk.calls) k0 (f new)) (λ core k. LogsLeft disk (setting_from scheduled stops earlier.entries) core k)
unfolding logs_read
disk_part {S} disk {g} scheduled earlier planned stops lines run ending out f old new read k0 x course plan lent tells shape_at is =
    subst (λ ss. (k : S) × ((p : ℕ) → p < length scheduled.setup.images.items → IsSome (disk.told k p)) × (y : AreLogsRead disk (system_in (setting_from scheduled ss earlier.entries)) scheduled.setup.images.items earlier.acts.now k0 k)
    × IsCourseOn (setting_from scheduled ss earlier.entries) lines (resumed_core y.given (reverse lines) (saves_in (system_in (setting_from scheduled ss earlier.entries)) y.stored)) run ending out
    (counts_of disk.stops (capped_by disk.calls) k0 (f new)) (λ core k. LogsLeft disk (setting_from scheduled ss earlier.entries) core k)) plan
    (subst (λ z. (k : S) × ((p : ℕ) → p < length scheduled.setup.images.items → IsSome (disk.told k p)) × (y : AreLogsRead disk (system_in (setting_from scheduled planned earlier.entries)) scheduled.setup.images.items earlier.acts.now z k)
    × IsCourseOn (setting_from scheduled planned earlier.entries) lines (resumed_core y.given (reverse lines) (saves_in (system_in (setting_from scheduled planned earlier.entries)) y.stored)) run ending out
    (counts_of disk.stops (capped_by disk.calls) z (f new)) (λ core k. LogsLeft disk (setting_from scheduled planned earlier.entries) core k)) lent (
      f read,
      tells,
      logs_read disk f shape_at is scheduled.setup.images.items old read (system_in (setting_from scheduled planned earlier.entries)) earlier.acts.now x,
      part_lent (setting_from scheduled planned earlier.entries) lines (resumed_core x.given (reverse lines) (saves_in (system_in (setting_from scheduled planned earlier.entries)) x.stored)) run ending out f disk.stops (capped_by disk.calls) old new
          (λ core d. StoresLeft g (setting_from scheduled planned earlier.entries) core d) (λ core k. LogsLeft disk (setting_from scheduled planned earlier.entries) core k)
          (λ core d left. logs_left disk g f shape_at is d (setting_from scheduled planned earlier.entries) core
          (subst (λ n. 0 < n) (sym (length-map scheduled.setup.images.items seen_image)) scheduled.setup.some) left) course,
    ))
