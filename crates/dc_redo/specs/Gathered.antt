-- What records are made of: the lines that were stored to, with their numbers, and the pieces of each kind.
use Rattle.std.specs.Prelude.{◌≡◌, ◌≤◌, ◌<◌, ◌+◌, ◌*◌, ◌^◌, ℕ, Bool, true, false, List, [], ◌∷◌, ◌++◌, length, take, drop, Some, slice_index, if◌then◌else◌}
use Rattle.std.specs.List.{flat_map}
use Rattle.dc_checkpoint.specs.States.{IsText, number_in}
use Rattle.dc_kernel.specs.Records.{record_in, record_text}
use Rattle.dc_kernel.specs.declared.records.LogRecord.{LogRecord}
use Rattle.dc_redo.specs.Entries.{Line, entry_in}
use Rattle.dc_redo.specs.Entries.Entry.{Decision, Lines, Logged, Whole}
use Rattle.dc_redo.specs.Frames.{framed}
use Rattle.dc_redo.specs.Shapes.{Shape, decision_bytes, event_bytes, lines_bytes, lines_of, whole_bytes}
use Rattle.dc_redo.specs.Standing.{memory_in, text_in}

-- a line of a body
abbrev pub line_of : ℕ → List ℕ → Line
line_of i body = record { at = i; words = take 16 (drop (16 * i) body) }

-- the numbers of the marked ones, from a number on
abbrev pub marked : ℕ → List Bool → List ℕ
marked i [] = []
marked i (true ∷ touched) = i ∷ marked (i + 1) touched
marked i (false ∷ touched) = marked (i + 1) touched

-- the marked ones
abbrev pub gathered : ℕ → List Bool → List ℕ → List Line
gathered i [] body = []
gathered i (true ∷ touched) body = line_of i body ∷ gathered (i + 1) touched body
gathered i (false ∷ touched) body = gathered (i + 1) touched body

-- as words: its number, and its words
abbrev pub line_words : Line → List ℕ
line_words line = line.at ∷ line.words

-- a record of lines as words
abbrev pub lines_text : Bool → ℕ → List Line → List ℕ
lines_text prepared number lines = (if prepared then 6 else 5) ∷ number ∷ length lines ∷ flat_map line_words lines

-- the piece of a record of lines
pub record IsLinesPiece (sh : Shape) (prepared : Bool) (number : ℕ) (lines : List Line) (piece : List ℕ) : Type 0 where
  pub body : List ℕ
  pub is : entry_in sh body ≡ Some (Lines prepared number lines)
  pub long : 8 + length body ≡ lines_bytes (length lines)
  pub piece_is : piece ≡ framed body
  pub short : length body < 2 ^ 32

-- memory and text in lines: the text is one of this number, and the pad is zero
pub record IsBody (sh : Shape) (number : ℕ) (body : List ℕ) : Type 0 where
  pub long : length body ≡ 16 * lines_of sh
  pub text_ok : IsText sh.form (text_in sh body)
  pub number_is : number_in (text_in sh body) ≡ number
  pub padded : (i : ℕ) → sh.size + sh.kernel ≤ i → slice_index body i ≡ 0

-- the piece of a whole state
pub record IsWholePiece (sh : Shape) (prepared : Bool) (n : ℕ) (body_now piece : List ℕ) : Type 0 where
  pub body : List ℕ
  pub is : entry_in sh body ≡ Some (Whole prepared n body_now)
  pub long : 8 + length body ≡ whole_bytes sh
  pub piece_is : piece ≡ framed body
  pub short : length body < 2 ^ 32

-- a whole state as words
abbrev pub whole_text : Shape → Bool → ℕ → List ℕ → List ℕ
whole_text sh prepared number body = (if prepared then 2 else 1) ∷ number ∷ text_in sh body ++ memory_in sh body

-- the piece of an event's record
pub record IsEventPiece (sh : Shape) (rec : LogRecord) (piece : List ℕ) : Type 0 where
  pub body : List ℕ
  pub is : entry_in sh body ≡ Some (Logged (record_text rec))
  pub long : 8 + length body ≡ event_bytes sh
  pub again : record_in (record_text rec) ≡ rec
  pub piece_is : piece ≡ framed body
  pub short : length body < 2 ^ 32

-- that of a decision's record
pub record IsDecisionPiece (sh : Shape) (g : ℕ) (piece : List ℕ) : Type 0 where
  pub body : List ℕ
  pub is : entry_in sh body ≡ Some (Decision g)
  pub long : 8 + length body ≡ decision_bytes
  pub piece_is : piece ≡ framed body
