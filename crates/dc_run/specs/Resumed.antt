-- What a call of the program promises of a run that went on.
use Rattle.std.specs.Prelude.{◌≡◌, ◌⊎◌, ◌<◌, ◌+◌, ℕ, List, None, Some, IsSome, length, map, reverse}
use Rattle.dc_checkpoint.specs.declared.faults.StoreFault.{StoreFault}
use Rattle.dc_course.specs.Continued.{IsCourseOn}
use Rattle.dc_course.specs.Courses.{counts_of}
use Rattle.dc_course.specs.Headline.{Account, Setting, system_in}
use Rattle.dc_course.specs.Lent.{TellsStores, capped_by}
use Rattle.dc_course.specs.Running.{Output, output}
use Rattle.dc_course.specs.declared.ending.Ending.{Ending}
use Rattle.dc_disk.specs.Logs.{AreLeftAt, AreLogsRead, FirstLogHas, IsFirstLogSteady, LogRefuses, LogsLeft, LogsStood}
use Rattle.dc_elf.specs.Loaded.{seen_image}
use Rattle.dc_elf.specs.declared.image.Image.{Image}
use Rattle.dc_guest.specs.Guest.{Guest}
use Rattle.dc_media.specs.Devices.{of_disks}
use Rattle.dc_media.specs.declared.disks.Disks as disks
use Rattle.dc_model.specs.FailureFree.{FailureFree, thin}
use Rattle.dc_model.specs.FailureFree.{run as run_of}
use Rattle.dc_model.specs.declared.act.Taken.{Taken}
use Rattle.dc_model.specs.declared.visible.Visible.{Visible}
use Rattle.dc_recovery.specs.Recoveries.{resumed_core}
use Rattle.dc_report.specs.Reports.{report_text}
use Rattle.dc_resume.specs.Suited.{IsFirstUnsuited, saves_in}
use Rattle.dc_run.specs.Headline.{Loan, Reports, SinkCourse, account_of, verdict_at}
use Rattle.dc_run.specs.Outcomes.{status_of}
use Rattle.dc_run.specs.Resuming.{Going, is_halted_again, onward_of}
use Rattle.dc_reread.specs.declared.faults.RereadFault.{RereadFault}
use Rattle.dc_reread.specs.declared.faults.RereadFault.TheVariants as faults
use Rattle.dc_run.specs.declared.outcome.Outcome.{Outcome}
use Rattle.dc_run.specs.declared.verdict.Verdict.{Verdict}
use Rattle.dc_run.specs.declared.verdict.Verdict.TheVariants.{DeviceFault, DeviceStopped, Halted, NotHalted, StoreRefused, StoreUnsuited, WantOfMemory}

-- images that are seen as those of its setting
pub record ImagesOf (going : Going) : Type 0 where
  pub images : List Image
  pub seen : map seen_image images ≡ going.setting.images

-- Behind these lines, and from what the logs were read to stand for over disks that tell, beside these acts, a part of a run goes on as it should.
abbrev pub GoesOnFrom : {D : Type 0} → disks.Ghosts D → Setting → List Image → List Taken → List Visible → Account → Ending → Output → Loan D → Type 0
GoesOnFrom {D} disk setting images acts lines run ending out lent = (read : D) × ((p : ℕ) → p < length images → IsSome (disk.told read p)) × (x : AreLogsRead disk (system_in setting) images acts lent.before read)
    × IsCourseOn setting lines (resumed_core x.given (reverse lines) (saves_in (system_in setting) x.stored)) run ending out (counts_of disk.stops (capped_by disk.calls) lent.before lent.after) (λ core d. LogsLeft disk setting core d)

-- Where the disks tell what they hold: whatever lines the part before wrote, as many as its report counts, which without repeats are the visible records of its
-- acts, they and the lines of this part are those of one run.
abbrev pub GoesOnKept : {D : Type 0} → disks.Ghosts D → Going → Account → Ending → Output → Loan D → Type 0
GoesOnKept disk going run ending out lent = (i : ImagesOf going) × (TellsStores (of_disks disk) (length going.setting.images) lent.before lent.after
    → (lines : List Visible) (world : FailureFree Guest) → run_of (system_in going.setting).guests going.report.acts ≡ Some world → length lines ≡ going.report.lines → thin lines ≡ world.visibles
    → GoesOnFrom disk (onward_of going) i.images going.report.acts lines run ending out lent)

-- a run that went on and kept the promise, with its report, of both parts: the status is that of the verdict before the report. One that was halted again left
-- its disks so that it can be gone on with, where it went on from disks that a run left so
pub record IsResumed {D : Type 0} (going : Going) (disk : disks.Ghosts D) (o : Outcome) (lent : Loan D) (out report : SinkCourse) : Type 0 where
  pub ending : Ending
  pub kept : GoesOnKept disk going (account_of o None) ending (output out.before out.after) lent
  pub halted : verdict_at (is_halted_again going) ending ≡ Halted → TellsStores (of_disks disk) (length going.setting.images) lent.before lent.after
      → AreLeftAt disk going.setting going.report.entries going.report.lines going.report.acts lent.before
      → AreLeftAt disk going.setting (going.report.entries + length o.marks.items) o.lines o.acts.items lent.after
  pub report_told : Reports (verdict_at (is_halted_again going) ending) o.verdict (report_text (status_of (verdict_at (is_halted_again going) ending)) (going.report.entries + length o.marks.items) o.acts.items o.lines) report

-- the verdict of a run that did not go on; that acts are no run was found before
abbrev pub unresumed_by : RereadFault → Verdict
unresumed_by faults.Memory = WantOfMemory
unresumed_by (faults.Stopped p) = DeviceStopped p
unresumed_by (faults.Failed p) = DeviceFault p
unresumed_by (faults.Refused p fault) = StoreRefused p fault
unresumed_by faults.Unsteady = StoreUnsuited 0
unresumed_by (faults.Unsuited p) = StoreUnsuited p
unresumed_by faults.Illegal = NotHalted

-- where it tells, the decided number of the first log did not stand among what counts, so that a recovery could have lost it
abbrev pub IsUnsteady : {D : Type 0} → disks.Ghosts D → Going → Loan D → Type 0
IsUnsteady disk going lent = (i : ImagesOf going) × (IsSome (disk.told lent.after 0) → IsFirstLogSteady disk i.images lent.before → ⊥)

-- all logs were read beside the acts, and that of process p is the first that does not belong to the run
abbrev pub IsFoundUnsuited : {D : Type 0} → disks.Ghosts D → Going → Loan D → ℕ → Type 0
IsFoundUnsuited disk going lent p = (i : ImagesOf going) × (x : AreLogsRead disk (system_in (onward_of going)) i.images going.report.acts lent.before lent.after) × IsFirstUnsuited (system_in (onward_of going)) x.given x.decided x.stored p

-- the disks held what a run left that had come to what the report says, and tell what they hold still
pub record WereLeft {D : Type 0} (disk : disks.Ghosts D) (going : Going) (lent : Loan D) : Type 0 where
  pub left : AreLeftAt disk going.setting going.report.entries going.report.lines going.report.acts lent.before
  pub told : (p : ℕ) → p < length going.setting.images → IsSome (disk.told lent.after p)

-- so it was found, or it is the first one, whose decided number is not steady; and a run that had come to what the report says did not leave the disks so
pub record IsUnsuited {D : Type 0} (disk : disks.Ghosts D) (going : Going) (lent : Loan D) (p : ℕ) : Type 0 where
  pub found : IsFoundUnsuited disk going lent p ⊎ ((p ≡ 0) × IsUnsteady disk going lent)
  pub unleft : WereLeft disk going lent → ⊥

-- the log of process p stands for this refusal alone, under some decided number and under whatever number the first log may hold; and a run that had come to
-- what the report says did not leave the disks so
pub record IsRefusedStore {D : Type 0} (disk : disks.Ghosts D) (going : Going) (lent : Loan D) (p : ℕ) (fault : StoreFault) : Type 0 where
  pub images : ImagesOf going
  pub some : (d : ℕ) × LogRefuses disk images.images d lent.after p fault
  pub under : (d : ℕ) → FirstLogHas disk images.images lent.after d → LogRefuses disk images.images d lent.after p fault
  pub unleft : WereLeft disk going lent → ⊥

-- under whatever number the first log may hold now, it held that number before, and each log stands for nothing that it did not stand for
abbrev pub HaveStood : {D : Type 0} → disks.Ghosts D → Going → Loan D → Type 0
HaveStood disk going lent = (i : ImagesOf going) × ((d : ℕ) → FirstLogHas disk i.images lent.after d → FirstLogHas disk i.images lent.before d × LogsStood disk i.images d lent.before lent.after)
