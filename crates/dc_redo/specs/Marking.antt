-- Which lines are marked, and what a commit writes of them.
use Rattle.std.specs.Prelude.{◌≡◌, ◌≢◌, ◌⊎◌, ◌↔◌, ◌≤◌, ◌+◌, ◌-◌, ◌/◌, ℕ, Bool, true, List, [], ◌∷◌, ◌++◌, length, Option, Some, slice_get, slice_index}
use Rattle.dc_media.specs.Disk.{Disk}
use Rattle.dc_checkpoint.specs.States.{number_in}
use Rattle.dc_redo.specs.Entries.{Entry, Line, body_of, entry_in}
use Rattle.dc_redo.specs.Entries.Entry.{Lines, Whole}
use Rattle.dc_redo.specs.Frames.{half, span}
use Rattle.dc_redo.specs.Gathered.{gathered}
use Rattle.dc_redo.specs.Images.{IsSynced}
use Rattle.dc_redo.specs.Shapes.{Shape, half_bytes, left_bytes, lines_bytes}
use Rattle.dc_redo.specs.Standing.{memory_in}
use Rattle.dc_redo.specs.Whole.{IsAtRest, IsLog, Known}

-- a line is marked
abbrev pub IsMarked : List Bool → ℕ → Type 0
IsMarked touched line = slice_get touched line ≡ Some true

-- a word of a line differs
abbrev pub Differs : List ℕ → List ℕ → ℕ → Type 0
Differs old new line = (i : ℕ) × (i / 16 ≡ line) × (slice_index old i ≢ slice_index new i)

-- marked are the lines that were, and these
abbrev pub MarksThese : (ℕ → Type 0) → List Bool → List Bool → Type 0
MarksThese These old new = (line : ℕ) → IsMarked new line ↔ (IsMarked old line ⊎ These line)

-- those of the text of a kernel that is stored, which makes of one body another: where a word changed, and that of the commit number
abbrev pub OfText : Shape → List ℕ → List ℕ → ℕ → Type 0
OfText sh old new line = Differs old new line ⊎ (line ≡ sh.size / 16)

-- so many lines have room behind the records that end there
abbrev pub Fit : Shape → ℕ → List Line → Type 0
Fit sh end lines = end + lines_bytes (length lines) + left_bytes sh ≤ half_bytes sh

-- behind the records of the half at an offset, which end there, stands one more, which says this
abbrev pub Adds : Shape → ℕ → ℕ → Entry → Option Disk → Option Disk → Type 0
Adds sh at end entry old new = (bodies : List (List ℕ)) (others x : List ℕ) → IsLog (half_bytes sh) at bodies others x → span bodies ≡ end → IsSynced x old
    → (body : List ℕ) × (entry_in sh body ≡ Some entry) × IsAtRest (IsLog (half_bytes sh) at (bodies ++ body ∷ []) others) new

-- the half at an offset is as it was, and the other one has one record, which says this
abbrev pub Turns : Shape → ℕ → Entry → Option Disk → Option Disk → Type 0
Turns sh at entry old new = (x : List ℕ) → IsSynced x old
    → (body : List ℕ) × (entry_in sh body ≡ Some entry) × IsAtRest (IsLog (half_bytes sh) (half_bytes sh - at) (body ∷ []) (half (half_bytes sh) at x)) new

-- memory as it is, and the text of a kernel
abbrev pub with_text : Shape → Known → List ℕ → List ℕ
with_text sh k kernel = body_of sh (memory_in sh k.body) kernel

-- what the commit of a text writes: the lines that were marked and those of the text, each once, where they have room; else the whole state
pub record Writes (sh : Shape) (k : Known) (prepared : Bool) (kernel : List ℕ) (old new : Option Disk) : Type 0 where
  pub touched : List Bool
  pub long : length touched ≡ length k.touched
  pub marked : MarksThese (OfText sh k.body (with_text sh k kernel)) k.touched touched
  pub lines : Fit sh k.end (gathered 0 touched (with_text sh k kernel)) → Adds sh k.at k.end (Lines prepared (number_in kernel) (gathered 0 touched (with_text sh k kernel))) old new
  pub whole : ¬ Fit sh k.end (gathered 0 touched (with_text sh k kernel)) → Turns sh k.at (Whole prepared (number_in kernel) (with_text sh k kernel)) old new
