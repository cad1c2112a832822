-- A device with planned stops as contracts see it, and what its calls do.
use Rattle.std.specs.Prelude.{◌≡◌, ◌≤◌, ◌<◌, ◌⊎◌, ◌+◌, ◌-◌, ◌^◌, ℕ, Result, IsErr, IsErrOf}
use Rattle.dc_media.specs.declared.faults.DeviceFault.{DeviceFault}
use Rattle.dc_media.specs.declared.faults.DeviceFault.TheVariants.{Stopped}
use Rattle.dc_media.specs.Causes.{IsCaused, counted_by}
use Rattle.dc_media.specs.Told.{Becomes, Device, showing}
use Rattle.dc_armed.specs.Stops.{StopsSoFar, Comes, Progresses, came_to, calls_left, calls_to, capped, count_of, waiting_for}

-- the device within, and the stops that are planned for it
pub record Armed (D : Type 0) : Type 0 where
  pub device : D
  pub plan : StopsSoFar

-- what is the device's own
abbrev pub within : {D X : Type 0} → (D → ℕ → X) → Armed D → ℕ → X
within own armed p = own armed.device p

-- the stops of the device within, and those that came as planned
abbrev pub all_stops : {D : Type 0} → (D → ℕ → ℕ) → Armed D → ℕ → ℕ
all_stops stops armed p = stops armed.device p + came_to armed.plan p

-- the calls of the armed device itself, whatever it calls within
abbrev pub all_calls : {D : Type 0} → Armed D → ℕ → ℕ
all_calls armed p = calls_to armed.plan p

-- the answer is that of the device within: its counts bear it out, and no planned stop came
pub record IsPassedOn {D C T : Type 0} (device : Device D C) (p : ℕ) (result : Result T DeviceFault) (old new : Armed D) : Type 0 where
  pub cause : IsCaused (device.stops old.device p) (device.stops new.device p) (device.faults old.device p) (device.faults new.device p) result
  pub came_same : new.plan.came ≡ old.plan.came

-- what a planned stop leaves of a content, and in how many counted calls of the device within
pub record Work (C : Type 0) : Type 0 where
  pub leaves : C → C
  pub calls : ℕ

-- a planned stop came and is counted; the device within refused nothing, and its content is what the stop leaves
pub record IsPlanned {D C T : Type 0} (device : Device D C) (p : ℕ) (work : Work C) (result : Result T DeviceFault) (old new : Armed D) : Type 0 where
  pub answer : IsErrOf result Stopped
  pub comes : Comes p old.plan new.plan
  pub stops_same : device.stops new.device p ≡ device.stops old.device p
  pub faults_same : device.faults new.device p ≡ device.faults old.device p
  pub content : Becomes (device.told old.device p) (device.told new.device p) (λ before after. after ≡ work.leaves before)
  pub calls : device.calls new.device p ≡ counted_by work.calls (device.calls old.device p)

-- a planned stop came and is counted, and the device within was not called
pub record IsPlannedAlone {D T : Type 0} (p : ℕ) (result : Result T DeviceFault) (old new : Armed D) : Type 0 where
  pub answer : IsErrOf result Stopped
  pub comes : Comes p old.plan new.plan
  pub device_same : new.device ≡ old.device

-- the planned stop came, or the device within refused the call, which is then the answer
abbrev pub ComesOrRefused : {D C T : Type 0} → Device D C → ℕ → Work C → Result T DeviceFault → Armed D → Armed D → Type 0
ComesOrRefused device p work result old new = IsPlanned device p work result old new ⊎ (IsErr result × IsPassedOn device p result old new)

-- neither a stop nor a fault of a process's device was counted, and its counts can still tell
pub record IsUnrefused {S : Type 0} (stops faults : S → ℕ → ℕ) (p : ℕ) (old new : S) : Type 0 where
  pub stops_same : stops new p ≡ stops old p
  pub faults_same : faults new p ≡ faults old p
  pub stops_below : stops new p < 2 ^ 64 - 1
  pub faults_below : faults new p < 2 ^ 64 - 1

-- a stop that waited still waits, and each call that the device within was asked for is one fewer to wait for
pub record StillWaits {D C : Type 0} (device : Device D C) (p : ℕ) (old new : Armed D) : Type 0 where
  pub waits : 0 < calls_left (waiting_for new.plan p)
  pub fewer : capped (device.calls new.device p) + calls_left (waiting_for new.plan p) ≤ capped (device.calls old.device p) + calls_left (waiting_for old.plan p)

-- a stop that waits for a process comes, or it waits still where nothing refused the process's calls
abbrev pub IsAwaited : {D C : Type 0} → Device D C → ℕ → Armed D → Armed D → Type 0
IsAwaited device p old new = IsUnrefused (all_stops device.stops) (within device.faults) p old new → 0 < calls_left (waiting_for old.plan p) → StillWaits device p old new

-- no fault of a process's device was counted, and its counts can still tell
pub record IsUnfailed {D C : Type 0} (device : Device D C) (p : ℕ) (old new : Armed D) : Type 0 where
  pub faults_same : device.faults new.device p ≡ device.faults old.device p
  pub faults_below : device.faults new.device p < 2 ^ 64 - 1
  pub calls_below : capped (device.calls new.device p) < 2 ^ 64 - 1

-- a stop that waits still was counted down by no more calls than were made, and one that came did so no sooner than at its call
pub record IsPunctual {D C : Type 0} (device : Device D C) (p : ℕ) (old new : Armed D) : Type 0 where
  pub waits : IsUnfailed device p old new → 0 < count_of (waiting_for new.plan p)
      → capped (device.calls old.device p) + calls_left (waiting_for old.plan p) ≤ capped (device.calls new.device p) + calls_left (waiting_for new.plan p)
  pub came : IsUnfailed device p old new → came_to old.plan p < came_to new.plan p
      → capped (device.calls old.device p) + calls_left (waiting_for old.plan p) ≤ capped (device.calls new.device p) + 1

-- a later state of an armed device: the device within is a later one, none of its stops, faults and calls is forgotten, and the plan has gone on
pub record IsLater {D C : Type 0} (device : Device D C) (old new : Armed D) : Type 0 where
  pub later : device.continues old.device new.device
  pub stopped : (p : ℕ) → device.stops old.device p ≤ device.stops new.device p
  pub failed : (p : ℕ) → device.faults old.device p ≤ device.faults new.device p
  pub called : (p : ℕ) → capped (device.calls old.device p) ≤ capped (device.calls new.device p)
  pub plan : Progresses old.plan new.plan
  pub awaited : (p : ℕ) → IsAwaited device p old new
  pub punctual : (p : ℕ) → IsPunctual device p old new

-- an armed device as a device
abbrev pub armed : {D C : Type 0} → Device D C → Device (Armed D) C
armed device = showing (within device.told) (within device.extent) (all_stops device.stops) (within device.faults) all_calls (IsLater device)
