-- What holds of each plan that is read.
use Rattle.std.specs.Prelude.{◌≡◌, ◌≤◌, ◌<◌, ◌^◌, ◌%◌, ℕ, Bool, true, false, All, List, [], Option, None, Some, length}
use Rattle.std.specs.List.{AllByRecursion}
use Rattle.dc_limits.specs.declared.bounds.TheConstants.{ENTRIES, INPUT_BYTES}
use Rattle.dc_limits.specs.declared.sizes.TheConstants.{PROCESSES}
use Rattle.dc_media.specs.declared.planned.PlannedStop.{PlannedStop}
use Rattle.dc_plan.specs.Plans.{Plan, Source, InFile, FromSeed}
use Rattle.dc_plan.specs.declared.command.Command.{Command}
use Rattle.dc_plan.specs.declared.command.Command.TheVariants as command
use Rattle.dc_plan.specs.declared.plan.Medium.{Medium}
use Rattle.dc_protocols.specs.Rules.{is_causal}
use Rattle.dc_plan.specs.declared.plan.Medium.TheVariants as medium
use Rattle.dc_words.specs.Words.{AllBelow}

-- a file, or up to a million turns from a seed below 2 ^ 63
abbrev pub IsSourceAllowed : Source → Type 0
IsSourceAllowed (InFile name) = Unit {0}
IsSourceAllowed (FromSeed start turns) = (start < 2 ^ 63) × (turns ≤ ENTRIES)

-- nothing is filled on the medium Rio, and on the disk by a byte
abbrev pub MayFill : Medium → Option ℕ → Type 0
MayFill medium None = Unit {0}
MayFill medium.Rio (Some byte) = ⊥
MayFill medium.Disk (Some byte) = byte ≤ 255

-- a stop of one of the guests that is within every bound
pub record IsStopAllowed (medium : Medium) (guests : ℕ) (stop : PlannedStop) : Type 0 where
  pub turn : stop.turn < ENTRIES
  pub process : stop.process < guests
  pub call_least : 1 ≤ stop.call
  pub call_most : stop.call ≤ 4000000000
  pub keep : stop.tear.keep ≤ 4000000000
  pub fill : MayFill medium stop.tear.fill

-- a run is halted within its entries, and only on a disk
abbrev pub IsHaltAllowed : Medium → Option ℕ → Type 0
IsHaltAllowed on None = Unit {0}
IsHaltAllowed on (Some entry) = (entry ≤ ENTRIES) × (on ≡ medium.Disk)

-- what one request for input hands over: so many bytes at most
abbrev pub IsRecord : List ℕ → Type 0
IsRecord bytes = (length bytes ≤ INPUT_BYTES) × AllBelow (2 ^ 8) bytes

-- a plan that is within every bound
pub record IsAllowed (plan : Plan) : Type 0 where
  pub seven : is_causal plan.protocol ≡ false
  pub memory_least : 65536 ≤ plan.memory
  pub memory_most : plan.memory ≤ 1048576
  pub memory_pages : plan.memory % 4096 ≡ 0
  pub guests_least : 1 ≤ length plan.guests
  pub guests_most : length plan.guests ≤ PROCESSES
  pub inputs : length plan.inputs ≡ length plan.guests
  pub records : AllByRecursion (AllByRecursion IsRecord) plan.inputs
  pub schedule : IsSourceAllowed plan.schedule
  pub stops : All (IsStopAllowed plan.medium (length plan.guests)) plan.stops
  pub stops_most : length plan.stops ≤ 1000
  pub halt : IsHaltAllowed plan.medium plan.halt

-- entries that are drawn, in place of a schedule's file
abbrev pub is_seed : Source → Bool
is_seed (InFile name) = false
is_seed (FromSeed start turns) = true

-- a plan that has nothing of what its command forbids: a run that goes on is on a disk, and one that leaves its journal has no seed, no stops and no halt
pub record Suits (by : Command) (plan : Plan) : Type 0 where
  pub lasts : by ≡ command.Resume → plan.medium ≡ medium.Disk
  pub undrawn : by ≡ command.Journal → is_seed plan.schedule ≡ false
  pub unstopped : by ≡ command.Journal → plan.stops ≡ []
  pub unhalted : by ≡ command.Journal → plan.halt ≡ None
