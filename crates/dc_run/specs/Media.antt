-- The media of runs, by what a call lends for them: stores of words, and disks.
use Rattle.std.specs.Prelude.{◌≡◌, ℕ, List}
use Rattle.dc_course.specs.Headline.{Setting}
use Rattle.dc_course.specs.Lent.{TellsStores, capped_by}
use Rattle.dc_disk.specs.Logs.{AreLeftAt, LogsLeft}
use Rattle.dc_media.specs.Causes.{Rose}
use Rattle.dc_media.specs.Devices.{of_disks, of_words}
use Rattle.dc_media.specs.declared.disks.Disks as disks
use Rattle.dc_media.specs.declared.keeps.Keeps as keeps
use Rattle.dc_model.specs.declared.act.Taken.{Taken}
use Rattle.dc_plan.specs.declared.plan.Medium.{Medium}
use Rattle.dc_plan.specs.declared.plan.Medium.TheVariants as medium
use Rattle.dc_recovery.specs.Core.{Core}
use Rattle.dc_rio.specs.Segments.{SegmentsLeft}

-- the stores of words and the disks that a call is lent
pub record Lent (K D : Type 0) : Type 0 where
  pub keeps : K
  pub disks : D

-- these two
abbrev pub lent : {K D : Type 0} → K → D → Lent K D
lent keeps disks = record { keeps = keeps; disks = disks }

-- the devices of a medium, as a run of so many processes sees them: when they tell what they hold, what they count, what stores it leaves on them, and when a
-- run that has come so far, by its entries, its lines and its acts, left them so that it can be gone on with
pub record Devices (S : Type 0) : Type 1 where
  pub tell : ℕ → S → S → Type 0
  pub stops : S → ℕ → ℕ
  pub faults : S → ℕ → ℕ
  pub calls : S → ℕ → ℕ
  pub left : Setting → Core → S → Type 0
  pub resumable : Setting → ℕ → ℕ → List Taken → S → Type 0

-- those of a medium, among what was lent
abbrev pub devices_of : {K D : Type 0} → keeps.Ghosts K → disks.Ghosts D → Medium → Devices (Lent K D)
devices_of words disk medium.Rio = record {
  tell = λ n old new. TellsStores (of_words words) n old.keeps new.keeps;
  stops = λ s. words.stops s.keeps;
  faults = λ s. words.faults s.keeps;
  calls = λ s. capped_by words.calls s.keeps;
  left = λ setting core s. SegmentsLeft words setting core s.keeps;
  resumable = λ setting entries lines acts s. Unit {0};
}
devices_of words disk medium.Disk = record {
  tell = λ n old new. TellsStores (of_disks disk) n old.disks new.disks;
  stops = λ s. disk.stops s.disks;
  faults = λ s. disk.faults s.disks;
  calls = λ s. capped_by disk.calls s.disks;
  left = λ setting core s. LogsLeft disk setting core s.disks;
  resumable = λ setting entries lines acts s. AreLeftAt disk setting entries lines acts s.disks;
}

-- the device of a process counted a fault
abbrev pub HasFailed : {S : Type 0} → Devices S → S → S → ℕ → Type 0
HasFailed on before after p = Rose (on.faults before p) (on.faults after p)

-- or a stop
abbrev pub HasStopped : {S : Type 0} → Devices S → S → S → ℕ → Type 0
HasStopped on before after p = Rose (on.stops before p) (on.stops after p)

-- what was lent for the other medium is as it was
abbrev pub IsOtherSame : {K D : Type 0} → Medium → Lent K D → Lent K D → Type 0
IsOtherSame medium.Rio before after = after.disks ≡ before.disks
IsOtherSame medium.Disk before after = after.keeps ≡ before.keeps
