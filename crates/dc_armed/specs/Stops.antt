-- Planned stops: which one waits for a process in a turn, how its calls count it down, and how many came.
use Rattle.std.specs.Prelude.{◌≡◌, ◌≢◌, ℕ, ◌+◌, ◌-◌, ◌^◌, ◌≤◌, ◌==◌, ◌&&◌, not, nat_lt, min, List, Bool, false, Option, None, Some, Result, Ok, Err, if◌then◌else◌, get_or}
use Rattle.dc_media.specs.declared.faults.DeviceFault.{DeviceFault}
use Rattle.dc_media.specs.declared.faults.DeviceFault.TheVariants.{Stopped, Failed}
use Rattle.dc_media.specs.declared.TheConstants.{STORES}
use Rattle.dc_media.specs.declared.tear.Tear.{Tear}
use Rattle.dc_media.specs.Causes.{counted, counted_by}
use Rattle.dc_media.specs.Firsts.{first_by}
use Rattle.dc_media.specs.declared.planned.PlannedStop.{PlannedStop}
use Rattle.dc_armed.specs.declared.stop.Waiting.{Waiting}

-- of this turn and process; calls are numbered from 1 and processes are below `STORES`, so no other stop ever comes
abbrev pub is_of : ℕ → ℕ → PlannedStop → Bool
is_of turn p stop = (stop.turn == turn) && (stop.process == p) && nat_lt stop.process STORES && nat_lt 0 stop.call

-- the first stop for a process in a turn
abbrev pub first_stop : List PlannedStop → ℕ → ℕ → Option PlannedStop
first_stop stops turn p = first_by (is_of turn p) (λ stop. stop.call) stops

-- a stop that waits: at which of the coming calls it comes, and what that call leaves
abbrev pub waiting_of : PlannedStop → Waiting
waiting_of stop = record { calls = stop.call; tear = stop.tear }

-- the sooner of a stop that waits and one that is planned after it
abbrev pub sooner_waiting : Option Waiting → PlannedStop → Waiting
sooner_waiting None stop = waiting_of stop
sooner_waiting (Some waiting) stop = if nat_lt stop.call waiting.calls then waiting_of stop else waiting

-- the stops, for each process the one that waits in this turn, how many came to it, and how many calls it made in all
pub record StopsSoFar : Type 0 where
  pub stops : List PlannedStop
  pub waiting : List (Option Waiting)
  pub came : List ℕ
  pub calls : List ℕ

-- the stop that waits for a process
abbrev pub waiting_for : StopsSoFar → ℕ → Option Waiting
waiting_for plan p = get_or plan.waiting p None

-- how many stops came to a process
abbrev pub came_to : StopsSoFar → ℕ → ℕ
came_to plan p = get_or plan.came p 0

-- how many calls a process made; past the last process the count stands at its last value
abbrev pub calls_to : StopsSoFar → ℕ → ℕ
calls_to plan p = if nat_lt p STORES then get_or plan.calls p 0 else 2 ^ 64 - 1

-- the tear of a stop that comes at the next call
abbrev pub due_of : Option Waiting → Option Tear
due_of None = None
due_of (Some waiting) = if waiting.calls == 1 then Some waiting.tear else None

-- the tear of the stop that comes at the next call of a process
abbrev pub due : StopsSoFar → ℕ → Option Tear
due plan p = due_of (waiting_for plan p)

-- one call fewer to wait for; a stop whose call is past waits no more
abbrev pub one_fewer : Option Waiting → Option Waiting
one_fewer None = None
one_fewer (Some waiting) = if nat_lt 1 waiting.calls then Some (record waiting { calls = waiting.calls - 1 }) else None

-- whether a stop waits for one of the next n calls
abbrev pub waits_within : ℕ → Option Waiting → Bool
waits_within n None = false
waits_within n (Some waiting) = not (nat_lt n waiting.calls)

-- what waits after n calls, of which it waited for none
abbrev pub fewer_by : ℕ → Option Waiting → Option Waiting
fewer_by n None = None
fewer_by n (Some waiting) = Some (record waiting { calls = waiting.calls - n })

-- what waits after an answer; nothing waits for a process that was stopped
abbrev pub after_answer : {T : Type 0} → Result T DeviceFault → Option Waiting → Option Waiting
after_answer (Ok x) waiting = waiting
after_answer (Err Stopped) waiting = None
after_answer (Err Failed) waiting = waiting

-- this waits for a process now; for the others what waited, and the stops are the same
pub record Waits (p : ℕ) (waiting : Option Waiting) (old new : StopsSoFar) : Type 0 where
  pub here : waiting_for new p ≡ waiting
  pub others : (q : ℕ) → q ≢ p → waiting_for new q ≡ waiting_for old q
  pub stops_same : new.stops ≡ old.stops

-- one more stop came to a process, and none to the others; a count of 64 bits stays at its last value
pub record Comes (p : ℕ) (old new : StopsSoFar) : Type 0 where
  pub here : came_to new p ≡ counted (came_to old p)
  pub later : came_to old p ≤ came_to new p
  pub others : (q : ℕ) → q ≢ p → came_to new q ≡ came_to old q

-- one more call of a process, and none of the others
pub record Calls (p : ℕ) (old new : StopsSoFar) : Type 0 where
  pub here : calls_to new p ≡ counted (calls_to old p)
  pub others : (q : ℕ) → q ≢ p → calls_to new q ≡ calls_to old q

-- n more calls of a process, and none of the others
pub record CallsInRow (n p : ℕ) (old new : StopsSoFar) : Type 0 where
  pub here : calls_to new p ≡ counted_by n (calls_to old p)
  pub others : (q : ℕ) → q ≢ p → calls_to new q ≡ calls_to old q

-- how many calls there are up to the one at which a stop comes that waits, with that one; none where no stop waits
abbrev pub calls_left : Option Waiting → ℕ
calls_left None = 0
calls_left (Some waiting) = waiting.calls

-- a count of 64 bits, which stands still at its last value
abbrev pub capped : ℕ → ℕ
capped n = min n (2 ^ 64 - 1)

-- whether a stop waits, as a count
abbrev pub count_of : Option Waiting → ℕ
count_of None = 0
count_of (Some waiting) = 1

-- a later state of the plan within a turn: its stops are the same, and no stop came to a process but one that waited for it, which waits no more
pub record Progresses (old new : StopsSoFar) : Type 0 where
  pub stops_same : new.stops ≡ old.stops
  pub later : (p : ℕ) → came_to old p ≤ came_to new p
  pub once : (p : ℕ) → came_to new p + count_of (waiting_for new p) ≤ came_to old p + count_of (waiting_for old p)
