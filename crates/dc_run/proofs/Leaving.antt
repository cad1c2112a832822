-- The stores that a call leaves as they were.
use Rattle.std.proofs.Common.{◌≡◌, ℕ, List, Option, None, Some, Ok, IfSome, String, length, refl}
use Rattle.std.specs.declared.alloc.Global.{Global}
use Rattle.dc_command.specs.Command.{Halted, Order, asked_of}
use Rattle.dc_command.specs.Command.Asked.{ToResume, ToRun}
use Rattle.dc_course.specs.Headline.{Setting}
use Rattle.dc_course.specs.Lent.{AreLeftFrom}
use Rattle.dc_media.specs.Told.{Device}
use Rattle.dc_run.specs.Commands.{stores_used, work_by, work_of}
use Rattle.dc_run.specs.Opening.{Files, opening_of}
use Rattle.dc_run.specs.Resuming.{Going, going_in}

module _ {S C : Type 0} (device : Device S C) where
  -- stores that no call touched are left alone, whatever is used
  pub left_same : (known : Option Files) (used : Files → ℕ) (s : S) → IfSome known (λ files. AreLeftFrom (used files) device s s)
  left_same None used s = tt
  left_same (Some files) used s = λ q high. record { told_same = refl; extent_same = refl; stops_same = refl; faults_same = refl }

  -- a run uses the stores of its setting's guests, where the told files open that setting
  pub opened_left : (known : Option Files) (order : Order) (setting : Setting) (old new : S) → ((files : Files) → known ≡ Some files → opening_of files order ≡ Ok setting)
      → AreLeftFrom (length setting.images) device old new → IfSome known (λ files. AreLeftFrom (stores_used (work_by files (ToRun order))) device old new)
  opened_left None order setting old new opened left = tt
  opened_left (Some files) order setting old new opened left = rw (opened files refl) left

  -- so does a run that goes on
  pub going_left : (known : Option Files) (names : Halted) (going : Going) (old new : S) → ((files : Files) → known ≡ Some files → going_in files names ≡ Ok going)
      → AreLeftFrom (length going.setting.images) device old new → IfSome known (λ files. AreLeftFrom (stores_used (work_by files (ToResume names))) device old new)
  going_left None names going old new opened left = tt
  going_left (Some files) names going old new opened left = rw (opened files refl) left

  -- the same of the words that ask for it
  pub resume_left : (known : Option Files) (line : List (String Global)) (names : Halted) (old new : S) → asked_of line ≡ Some (ToResume names)
      → IfSome known (λ files. AreLeftFrom (stores_used (work_by files (ToResume names))) device old new) → IfSome known (λ files. AreLeftFrom (stores_used (work_of files line)) device old new)
  resume_left None line names old new asked left = tt
  resume_left (Some files) line names old new asked left = rw asked left

  pub asked_left : (known : Option Files) (line : List (String Global)) (order : Order) (old new : S) → asked_of line ≡ Some (ToRun order)
      → IfSome known (λ files. AreLeftFrom (stores_used (work_by files (ToRun order))) device old new) → IfSome known (λ files. AreLeftFrom (stores_used (work_of files line)) device old new)
  asked_left None line order old new asked left = tt
  asked_left (Some files) line order old new asked left = rw asked left
