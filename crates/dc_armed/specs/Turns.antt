-- Which stops wait in a turn, and where none comes.
use Rattle.std.specs.Prelude.{◌≡◌, ◌<◌, ◌≤◌, ℕ, List, Option, None, get_or}
use Rattle.std.specs.Option.{option_map}
use Rattle.dc_media.specs.declared.planned.PlannedStop.{PlannedStop}
use Rattle.dc_armed.specs.declared.stop.Waiting.{Waiting}
use Rattle.dc_armed.specs.Stops.{first_stop, waiting_of}

-- no stop comes from one turn up to another
abbrev pub ComesNone : List PlannedStop → ℕ → ℕ → Type 0
ComesNone stops from until = (turn p : ℕ) → from ≤ turn → turn < until → first_stop stops turn p ≡ None

-- no stop waits for any process
abbrev pub WaitNone : List (Option Waiting) → Type 0
WaitNone waiting = (p : ℕ) → get_or waiting p None ≡ None

-- for each process its first stop of a turn waits
abbrev pub WaitFirst : List PlannedStop → ℕ → List (Option Waiting) → Type 0
WaitFirst stops turn waiting = (p : ℕ) → get_or waiting p None ≡ option_map waiting_of (first_stop stops turn p)
