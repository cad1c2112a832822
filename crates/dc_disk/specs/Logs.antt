-- What a run leaves on disks, and what is read of them.
use Rattle.std.specs.Prelude.{◌≡◌, ◌<◌, ◌≤◌, ◌+◌, ◌*◌, ◌/◌, ℕ, Bool, true, false, List, Option, Some, Ok, Err, length, slice_get}
use Rattle.dc_checkpoint.specs.Calls.{AreAll}
use Rattle.dc_checkpoint.specs.States.{Reading, State, number_in}
use Rattle.dc_checkpoint.specs.declared.faults.StoreFault.{StoreFault}
use Rattle.dc_elf.specs.Images.{Image as Seen}
use Rattle.dc_elf.specs.Loaded.{seen_image}
use Rattle.dc_elf.specs.declared.image.Image.{Image}
use Rattle.dc_guest.specs.Guest.{Guest}
use Rattle.dc_kernel.specs.Layout.{kernel_words}
use Rattle.dc_kernel.specs.Records.{record_words}
use Rattle.dc_limits.specs.declared.bounds.TheConstants.{ENTRIES}
use Rattle.dc_media.specs.Disk.{Disk}
use Rattle.dc_media.specs.declared.disks.Disks as disks
use Rattle.dc_model.specs.Runs.{Given, IsRun}
use Rattle.dc_model.specs.FailureFree.{reported}
use Rattle.dc_model.specs.declared.act.Taken.{Taken}
use Rattle.dc_model.specs.declared.entry.Entry.{Entry}
use Rattle.dc_proc.specs.Processes.{Stored, reading_of}
use Rattle.dc_processes.specs.Worlds.{StoresStand}
use Rattle.dc_protocols.specs.Rules.{is_global, is_joint}
use Rattle.dc_recovery.specs.Core.{Core}
use Rattle.dc_recovery.specs.Invariant.{Holds}
use Rattle.dc_recovery.specs.Numbers.{AreUpTo, ShareNumbers}
use Rattle.dc_recovery.specs.Systems.{System}
use Rattle.dc_redo.specs.Handles.{IsSteady}
use Rattle.dc_redo.specs.Shapes.{Shape}
use Rattle.dc_redo.specs.Standing.{Numbers, StandsFor}
use Rattle.dc_reread.specs.declared.faults.RereadFault.{RereadFault}
use Rattle.dc_reread.specs.declared.faults.RereadFault.TheVariants as faults
use Rattle.dc_resume.specs.Suited.{AreStored}
use Rattle.dc_together.specs.Joints.{whose}
use Rattle.dc_world.specs.Opened.{first_state}
use Rattle.dc_processes.specs.Stages.{decided_by}
use Rattle.dc_course.specs.Headline.{Setting, system_in}

-- what the log of process p of n was made for, which began with this image
abbrev pub log_for : ℕ → ℕ → Seen → Shape
log_for n p image = record { size = length image.memory / 4; kernel = kernel_words n; event = record_words; form = whose n p; first = first_state n p image }

-- the redo logs that a run leaves: that of each process is what the log of that one is made for, and whatever image a stop leaves of its disk stands for one of
-- the core's saves. They can be read again: the decided number that the first one holds is steady, and none to which no process has come; where each process
-- commits by itself it is 0
pub record LogsLeft {S : Type 0} (disk : disks.Ghosts S) (setting : Setting) (core : Core) (dev : S) : Type 0 where
  pub shape : ℕ → Shape
  pub shape_is : (p : ℕ) (image : Seen) → slice_get setting.images p ≡ Some image → shape p ≡ log_for (length setting.images) p image
  pub stand : StoresStand (system_in setting) core (decided_by (is_joint setting.protocol) (λ d. Numbers (shape 0) (disk.told dev 0) d))
      (λ p d r. (p < length setting.images) × StandsFor (shape p) (disk.told dev p) d r)
  pub steady : IsSteady (shape 0) (disk.told dev 0)
  pub alone : is_joint setting.protocol ≡ false → AreAll 0 (Numbers (shape 0) (disk.told dev 0))
  pub reached : is_joint setting.protocol ≡ true → (d p : ℕ) (s : State) → Numbers (shape 0) (disk.told dev 0) d → p < length setting.images
      → StandsFor (shape p) (disk.told dev p) d (Ok s) → d ≤ number_in s.kernel

-- these logs were left by a run of this setting that had come so far: to these acts, with so many lines, after so many entries, fewer than a schedule may have
pub record AreLeftAt {S : Type 0} (disk : disks.Ghosts S) (setting : Setting) (entries lines : ℕ) (acts : List Taken) (dev : S) : Type 0 where
  pub schedule : List Entry
  pub core : Core
  pub come : Holds (system_in setting) schedule entries core
  pub few : entries < ENTRIES
  pub numbered : AreUpTo (1 + 2 * entries) core.procs
  pub alike : is_global setting.protocol ≡ true → ShareNumbers core.procs
  pub acts_are : reported core.acts ≡ acts
  pub lines_are : length core.lines ≡ lines
  pub left : LogsLeft disk setting core dev

-- so it is with the log of this process on a disk of what is told
abbrev pub OfLog : {S : Type 0} → disks.Ghosts S → List Image → ℕ → (Shape → (S → Option Disk) → Type 0) → Type 0
OfLog disk images p R = (image : Image) → slice_get images p ≡ Some image → R (log_for (length images) p (seen_image image)) (λ dev. disk.told dev p)

-- the decided number stands among what counts in the first log, whatever image a stop leaves
abbrev pub IsFirstLogSteady : {S : Type 0} → disks.Ghosts S → List Image → S → Type 0
IsFirstLogSteady disk images dev = OfLog disk images 0 (λ sh told. IsSteady sh (told dev))

-- the first log may hold this decided number
abbrev pub FirstLogHas : {S : Type 0} → disks.Ghosts S → List Image → S → ℕ → Type 0
FirstLogHas disk images dev d = (image : Image) × (slice_get images 0 ≡ Some image) × Numbers (log_for (length images) 0 (seen_image image)) (disk.told dev 0) d

-- under this decided number each log stands for nothing that it did not stand for before
abbrev pub LogsStood : {S : Type 0} → disks.Ghosts S → List Image → ℕ → S → S → Type 0
LogsStood disk images d old new = (p : ℕ) → OfLog disk images p (λ sh told. (r : Reading) → StandsFor sh (told new) d r → StandsFor sh (told old) d r)

-- under this decided number one of these logs stands for this refusal alone
pub record LogRefuses {S : Type 0} (disk : disks.Ghosts S) (images : List Image) (d : ℕ) (dev : S) (p : ℕ) (fault : StoreFault) : Type 0 where
  pub one_of : p < length images
  pub only : OfLog disk images p (λ sh told. (r : Reading) → StandsFor sh (told dev) d r → r ≡ Err fault)

-- all logs were read under one decided number, beside acts that are a run with these answers: what each stands for now under that number, and stood for before, and which
-- number the first one may hold, and might hold before
pub record AreLogsRead {S : Type 0} (disk : disks.Ghosts S) (of : System Guest) (images : List Image) (acts : List Taken) (old new : S) : Type 0 where
  pub decided : ℕ
  pub given : List Given
  pub stored : ℕ → Stored
  pub is_run : IsRun of.guests given
  pub reports : reported given ≡ acts
  pub are_stored : AreStored of stored
  pub are_read : (p : ℕ) → OfLog disk images p (λ sh told. (r : Reading) → StandsFor sh (told new) decided r → r ≡ reading_of (stored p))
  pub stood : LogsStood disk images decided old new
  pub numbers : OfLog disk images 0 (λ sh told. AreAll decided (Numbers sh (told new)))
  pub were : (d : ℕ) → FirstLogHas disk images new d → FirstLogHas disk images old d

-- a reading of logs that ends so does for what they hold, or since the acts are no run
abbrev pub comes_of_content : RereadFault → Bool
comes_of_content (faults.Refused p fault) = true
comes_of_content faults.Unsteady = true
comes_of_content (faults.Unsuited p) = true
comes_of_content faults.Illegal = true
comes_of_content _ = false
