-- What is said of the medium of a plan, by what it was opened with.
use Rattle.std.proofs.Common.{◌≡◌, ◌⊎◌, inl, inr, ℕ, List, length, Option, None, Some, IfSome, String, refl, subst, sym}
use Rattle.std.specs.declared.alloc.Global.{Global}
use Rattle.dc_command.specs.Command.{Halted, Order, asked_of}
use Rattle.dc_command.specs.Command.Asked.{ToResume, ToRun}
use Rattle.dc_media.specs.Causes.{Rose}
use Rattle.dc_media.specs.declared.disks.Disks as disks
use Rattle.dc_media.specs.declared.keeps.Keeps as keeps
use Rattle.dc_plan.specs.declared.plan.Medium.{Medium}
use Rattle.dc_plan.specs.declared.plan.Medium.TheVariants.{Rio, Disk}
use Rattle.dc_course.proofs.Within.{course_lent}
use Rattle.dc_course.specs.Courses.{IsCourse, counts_of}
use Rattle.dc_course.specs.Headline.{Account, Setting}
use Rattle.dc_course.specs.Lent.{TellsStores, capped_by}
use Rattle.dc_course.specs.Running.{Output}
use Rattle.dc_course.specs.declared.ending.Ending.{Ending}
use Rattle.dc_disk.specs.Logs.{LogsLeft}
use Rattle.dc_media.specs.Devices.{of_disks, of_words}
use Rattle.dc_rio.specs.Segments.{SegmentsLeft}
use Rattle.dc_run.specs.Commands.{medium_of}
use Rattle.dc_run.specs.Headline.{IsKept, loan}
use Rattle.dc_run.specs.Media.{HasFailed, HasStopped, IsOtherSame, Lent, devices_of, lent}
use Rattle.dc_run.specs.Opening.{Files, medium_at}

-- what holds of a medium holds of the plan's, which is this one
pub said_so : (known : Option Files) (order : Order) (medium : Medium) (P : Medium → Type 0) → ((files : Files) → known ≡ Some files → medium_at files order ≡ medium) → P medium → IfSome known (λ files. P (medium_at files order))
said_so None plan medium P said holds = tt
said_so (Some files) plan medium P said holds = subst P (sym (said files refl)) holds

-- what holds of each
pub each_so : (known : Option Files) (by : Files → Medium) (P : Medium → Type 0) → ((m : Medium) → P m) → IfSome known (λ files. P (by files))
each_so None by P all = tt
each_so (Some files) by P all = all (by files)

-- the same of the words that ask for the plan
pub medium_asked : (known : Option Files) (words : List (String Global)) (order : Order) (P : Medium → Type 0) → asked_of words ≡ Some (ToRun order) → IfSome known (λ files. P (medium_at files order)) → IfSome known (λ files. P (medium_of files words))
medium_asked None words order P asked is = tt
medium_asked (Some files) words order P asked is = rw asked is

-- of words that ask to go on it is that of disks
pub disk_asked : (known : Option Files) (words : List (String Global)) (names : Halted) (P : Medium → Type 0) → asked_of words ≡ Some (ToResume names) → P Disk → IfSome known (λ files. P (medium_of files words))
disk_asked None words names P asked is = tt
disk_asked (Some files) words names P asked is = rw asked is

module _ {K D : Type 0} where
  -- nothing was called
  pub other_same : (medium : Medium) (s : Lent K D) → IsOtherSame medium s s
  other_same Rio s = refl
  other_same Disk s = refl

  -- one of the two is as it was
  pub either_same : (medium : Medium) (before after : Lent K D) → IsOtherSame medium before after → (after.keeps ≡ before.keeps) ⊎ (after.disks ≡ before.disks)
  either_same Rio before after same = inr same
  either_same Disk before after same = inl same

  -- a device of one of them failed
  pub either_failed : (words : keeps.Ghosts K) (disk : disks.Ghosts D) (medium : Medium) (before after : Lent K D) (p : ℕ) → HasFailed (devices_of words disk medium) before after p
      → Rose (words.faults before.keeps p) (words.faults after.keeps p) ⊎ Rose (disk.faults before.disks p) (disk.faults after.disks p)
  either_failed words disk Rio before after p rose = inl rose
  either_failed words disk Disk before after p rose = inr rose

  -- or was stopped
  pub either_stopped : (words : keeps.Ghosts K) (disk : disks.Ghosts D) (medium : Medium) (before after : Lent K D) (p : ℕ) → HasStopped (devices_of words disk medium) before after p
      → Rose (words.stops before.keeps p) (words.stops after.keeps p) ⊎ Rose (disk.stops before.disks p) (disk.stops after.disks p)
  either_stopped words disk Rio before after p rose = inl rose
  either_stopped words disk Disk before after p rose = inr rose

  -- a run over words, beside disks that are as they were
  pub kept_on_words : (words : keeps.Ghosts K) (disk : disks.Ghosts D) (setting : Setting) (run : Account) (ending : Ending) (out : Output) (before after : K) (d : D)
      → (TellsStores (of_words words) (length setting.images) before after → IsCourse setting run ending out (counts_of words.stops (capped_by words.calls) before after) (λ core k. SegmentsLeft words setting core k))
      → IsKept (devices_of words disk Rio) setting run ending out (loan (lent before d) (lent after d))
  kept_on_words words disk setting run ending out before after d kept tells = course_lent setting run ending out (λ k. lent k d) (λ s. words.stops s.keeps) (capped_by (λ s. words.calls s.keeps)) before after
      (λ core k. SegmentsLeft words setting core k) (λ core s. SegmentsLeft words setting core s.keeps) (λ core k left. left) (kept tells)

  -- a run on disks, beside words that are as they were
  pub kept_on_disks : (words : keeps.Ghosts K) (disk : disks.Ghosts D) (setting : Setting) (run : Account) (ending : Ending) (out : Output) (before after : D) (k : K)
      → (TellsStores (of_disks disk) (length setting.images) before after → IsCourse setting run ending out (counts_of disk.stops (capped_by disk.calls) before after) (λ core d. LogsLeft disk setting core d))
      → IsKept (devices_of words disk Disk) setting run ending out (loan (lent k before) (lent k after))
  kept_on_disks words disk setting run ending out before after k kept tells = course_lent setting run ending out (λ d. lent k d) (λ s. disk.stops s.disks) (capped_by (λ s. disk.calls s.disks)) before after
      (λ core d. LogsLeft disk setting core d) (λ core s. LogsLeft disk setting core s.disks) (λ core d left. left) (kept tells)
