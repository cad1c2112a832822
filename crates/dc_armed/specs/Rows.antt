-- Words that are set in a row, where a planned stop comes at the store of one of them.
use Rattle.std.specs.Prelude.{◌≡◌, ◌⊎◌, ◌+◌, ◌-◌, ◌≤◌, ◌&&◌, not, nat_lt, ℕ, zero, suc, List, Option, None, Some, Result, IsErr, slice_index, if◌then◌else◌}
use Rattle.dc_media.specs.declared.faults.DeviceFault.{DeviceFault}
use Rattle.dc_media.specs.Causes.{counted_by}
use Rattle.dc_media.specs.Stores.{set_words}
use Rattle.dc_media.specs.Told.{Device}
use Rattle.dc_armed.specs.declared.stop.Waiting.{Waiting}
use Rattle.dc_armed.specs.Armed.{Armed, IsPassedOn, IsPlanned}
use Rattle.dc_armed.specs.Stops.{StopsSoFar, Waits, after_answer, calls_to, one_fewer, waiting_for}
use Rattle.dc_armed.specs.Torn.{at_once, torn_store}

-- the stop that comes at one of the next n calls
abbrev pub due_within : ℕ → Option Waiting → Option Waiting
due_within n None = None
due_within n (Some waiting) = if nat_lt 0 waiting.calls && not (nat_lt n waiting.calls) then Some waiting else None

-- words in a row, from an index on
pub record Row : Type 0 where
  pub index : ℕ
  pub words : List ℕ

-- the words before that of the stop are set, and its own is torn
abbrev pub torn_row : Waiting → Row → List ℕ → List ℕ
torn_row stop row words = let before = stop.calls - 1 in
    torn_store stop.tear (row.index + before) (slice_index row.words before) (set_words before row.index row.words words)

-- in how many calls of the device within: one for each word before that of the stop, and one for its own where that is kept
abbrev pub row_calls : Waiting → ℕ
row_calls stop = (stop.calls - 1) + at_once stop.tear.keep

-- a planned stop came at its own word, whose store is the last that is counted
pub record IsPlannedInRow {D T : Type 0} (device : Device D (List ℕ)) (p : ℕ) (stop : Waiting) (row : Row) (result : Result T DeviceFault) (old new : Armed D) : Type 0 where
  pub planned : IsPlanned device p (record { leaves = torn_row stop row; calls = row_calls stop }) result old new
  pub last : calls_to new.plan p ≡ counted_by stop.calls (calls_to old.plan p)

-- the planned stop came, or the device within refused a word, which is then the answer
abbrev pub ComesInRow : {D T : Type 0} → Device D (List ℕ) → ℕ → Waiting → Row → Result T DeviceFault → Armed D → Armed D → Type 0
ComesInRow device p stop row result old new = IsPlannedInRow device p stop row result old new ⊎ (IsErr result × IsPassedOn device p result old new)

-- what waits after n calls
abbrev pub counted_down : ℕ → Option Waiting → Option Waiting
counted_down zero waiting = waiting
counted_down (suc n) waiting = one_fewer (counted_down n waiting)

-- at most n calls of a process, and what waits after them
pub record AreCountedDown {T : Type 0} (n p : ℕ) (result : Result T DeviceFault) (old new : StopsSoFar) : Type 0 where
  pub made : ℕ
  pub few : made ≤ n
  pub calls : calls_to new p ≡ counted_by made (calls_to old p)
  pub waits : Waits p (after_answer result (counted_down made (waiting_for old p))) old new
