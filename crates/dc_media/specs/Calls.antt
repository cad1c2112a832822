-- What the calls of a device say besides what they do to the content.
use Rattle.std.specs.Prelude.{◌≡◌, ◌≢◌, ℕ, Result, OnOk, OnErr}
use Rattle.dc_media.specs.Causes.{IsCaused, IsMade}
use Rattle.dc_media.specs.Told.{Device, IsSameStore, TellsOn}
use Rattle.dc_media.specs.declared.faults.DeviceFault.{DeviceFault}
use Rattle.dc_media.specs.declared.faults.MakeFault.{MakeFault}

-- what every call of a device leaves: what was told is told on unless a count stands at its last value, each other process's store with its counts is as it
-- was, and the device is a later state of the loan
pub record Touches {S C : Type 0} (device : Device S C) (p : ℕ) (old new : S) : Type 0 where
  pub tells : TellsOn (device.stops new p) (device.faults new p) (device.told old p) (device.told new p)
  pub others : (q : ℕ) → q ≢ p → IsSameStore device old new q
  pub continues : device.continues old new

-- a call on a store that is there: besides that, its extent is as it was, and the counts have their causes
pub record IsCall {S C T : Type 0} (device : Device S C) (p : ℕ) (old new : S) (result : Result T DeviceFault) : Type 0 where
  pub touches : Touches device p old new
  pub extent : device.extent new p ≡ device.extent old p
  pub cause : IsCaused (device.stops old p) (device.stops new p) (device.faults old p) (device.faults new p) result

-- the making of a store of this size, which counts no call: besides that, refused its extent is as it was, and the counts have their causes
pub record IsMaking {S C T : Type 0} (device : Device S C) (p size : ℕ) (old new : S) (result : Result T MakeFault) : Type 0 where
  pub touches : Touches device p old new
  pub extent : OnOk result (device.extent new p ≡ size)
  pub refused : OnErr result (device.extent new p ≡ device.extent old p)
  pub cause : IsMade (device.stops old p) (device.stops new p) (device.faults old p) (device.faults new p) result
  pub calls : device.calls new p ≡ device.calls old p
