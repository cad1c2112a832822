-- What a handle says of its disk.
use Rattle.std.specs.Prelude.{◌≡◌, ◌⊎◌, ◌≤◌, ◌*◌, ◌/◌, ◌==◌, ℕ, true, List, take, Option, None, Some, nat_lt, slice_set, if◌then◌else◌}
use Rattle.dc_media.specs.Disk.{Disk}
use Rattle.dc_media.specs.declared.disks.Disks as disks
use Rattle.dc_checkpoint.specs.States.{unlogged}
use Rattle.dc_redo.specs.Images.{EachImage}
use Rattle.dc_redo.specs.Shapes.{Shape, half_bytes}
use Rattle.dc_redo.specs.Standing.{Half, Numbers, begun, half_of, is_disk, number}
use Rattle.dc_redo.specs.Tallies.{Status, start, tally}
use Rattle.dc_redo.specs.Tallies.Status.{Going}
use Rattle.dc_redo.specs.Whole.{Known}
use Rattle.dc_redo.specs.declared.frame.Frame.{Frame}
use Rattle.dc_redo.specs.declared.marks.Marks.{Marks}

-- what the log was made for
abbrev pub shape_of : Frame → Shape
shape_of frame = record { size = frame.size; kernel = frame.kernel_words; event = frame.event_words; form = record { n = frame.n; p = frame.p }; first = unlogged frame.memory.items frame.kernel.items }

-- what is known of its disk
abbrev pub known_of : Marks → Known
known_of marks = record {
  at = marks.at;
  floor = marks.floor;
  end = marks.end;
  number = marks.number;
  logged = marks.logged;
  decided = marks.decided;
  full = marks.full;
  body = marks.body.items;
  touched = marks.touched.flags.items;
}

-- with another word, in a line that is marked
abbrev pub stored : ℕ → ℕ → Known → Known
stored i w k = record k { body = slice_set k.body i w; touched = slice_set k.touched (i / 16) true }

-- the disk has two halves
abbrev pub IsLarge : {S : Type 0} → disks.Ghosts S → Frame → S → Type 0
IsLarge disk frame dev = 2 * half_bytes (shape_of frame) ≤ disk.extent dev frame.index

-- the memory as it is, where the disk is told
abbrev pub memory_of : ℕ → List ℕ → Option Disk → Option (List ℕ)
memory_of size body None = None
memory_of size body (Some disk) = Some (take size body)

-- the greatest decision of the records that count, in the half that is read; 0 where none is
abbrev pub kept_in : Status → Status → ℕ → ℕ → ℕ → ℕ → ℕ
kept_in Going Going m n a b = if m == n then 0 else if nat_lt m n then b else a
kept_in Going _ m n a b = a
kept_in _ Going m n a b = b
kept_in _ _ m n a b = 0

abbrev pub kept : Shape → ℕ → Half → Half → ℕ
kept sh d a b = kept_in (begun sh d a).status (begun sh d b).status (begun sh d a).number (begun sh d b).number (tally sh d start a).most (tally sh d start b).most

-- the decided number stands among what counts under it
abbrev pub Keeps : Shape → List ℕ → Type 0
Keeps sh image = is_disk sh image ≡ true → kept sh (number sh image) (half_of sh 0 image) (half_of sh (half_bytes sh) image) ≡ number sh image

-- in each image
abbrev pub IsSteady : Shape → Option Disk → Type 0
IsSteady sh told = EachImage told (Keeps sh)

-- so much of a decided number is kept: all of it, and it is none, or at least this floor
abbrev pub IsSteadyAt : ℕ → ℕ → ℕ → Type 0
IsSteadyAt kept floor number = (kept ≡ number) × ((number ≡ 0) ⊎ (floor ≤ number))

-- and it is none, or at least this floor
pub record IsSteadyFrom (sh : Shape) (floor : ℕ) (told : Option Disk) : Type 0 where
  pub kept : IsSteady sh told
  pub high : (e : ℕ) → Numbers sh told e → (e ≡ 0) ⊎ (floor ≤ e)
