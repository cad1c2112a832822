-- What a commit writes.
use Rattle.std.proofs.Common.{◌≡◌, ◌+◌, ◌-◌, ◌<◌, ◌≤◌, ℕ, Bool, false, List, [], ◌∷◌, length, refl, sym, ap, subst, arith, ⊎_elim, Option, None, Some}
use Rattle.dc_media.specs.Disk.{Disk, spliced}
use Rattle.dc_media.specs.Told.{Becomes}
use Rattle.dc_redo.specs.Entries.Entry.{Lines, Whole}
use Rattle.dc_redo.specs.Frames.{half}
use Rattle.dc_redo.specs.Gathered.{IsBody, IsLinesPiece, IsWholePiece, gathered}
use Rattle.dc_redo.specs.Images.{IsSynced}
use Rattle.dc_checkpoint.specs.States.{number_in}
use Rattle.dc_redo.specs.Marking.{Adds, Fit, MarksThese, OfText, Turns, Writes, with_text}
use Rattle.dc_redo.specs.Shapes.{Shape, half_bytes, left_bytes, lines_bytes}
use Rattle.dc_redo.specs.Whole.{IsAtRest, IsLog, IsReady, Known, Stores}
use Rattle.dc_redo.proofs.Commits.{whole_adding}
use Rattle.dc_redo.proofs.Halves.{half_before, half_behind, torn_spliced}
use Rattle.dc_redo.proofs.Ways.{SaysRest}

-- the lines that are marked
pub lines_adds : (sh : Shape) (k : Known) (prepared : Bool) (n : ℕ) (piece : List ℕ) → IsLinesPiece sh prepared n (gathered 0 k.touched k.body) piece → k.end + lines_bytes (length (gathered 0 k.touched k.body)) + left_bytes sh ≤ half_bytes sh
    → (old new : Option Disk) → SaysRest (half_bytes sh) k.at k.end piece old new → Adds sh k.at k.end (Lines prepared n (gathered 0 k.touched k.body)) old new
lines_adds sh k prepared n piece made fits old new done bodies others x log ends is =
    let long = made.long in
    (made.body, made.is, done bodies made.body others x (record { log = log; end_is = ends; piece_is = made.piece_is; short = made.short; fits = omega (arith, fits, long) }) is)

-- the whole state
pub whole_turns : (sh : Shape) (k : Known) (prepared : Bool) (n : ℕ) (piece : List ℕ) → IsWholePiece sh prepared n k.body piece → k.number < n → IsBody sh n k.body → k.full ≡ false
    → (old new : Option Disk) → IsReady sh k old → Becomes old new (λ b a. Unit {0}) → SaysRest (half_bytes sh) (half_bytes sh - k.at) 0 piece old new → Turns sh k.at (Whole prepared n k.body) old new
whole_turns sh k prepared n piece made later right closed old None ready told done x is = (made.body, made.is, tt)
whole_turns sh k prepared n piece made later right closed None (Some a) ready told done x is = absurd told
whole_turns sh k prepared n piece made later right closed (Some b) (Some a) ready told done x is =
    let adding = whole_adding sh k prepared n made.body k.body made.is later made.long right.text_ok right.number_is right.long b.content ready.1 closed piece made.piece_is made.short in (
      made.body,
      made.is,
      subst (λ (l : List ℕ). IsAtRest (IsLog (half_bytes sh) (half_bytes sh - k.at) (made.body ∷ []) (half (half_bytes sh) k.at l)) (Some a)) is.0
          (done [] made.body (half (half_bytes sh) k.at b.content) b.content adding (refl, ready.0)),
    )

-- a half is as it was where a gate of the other one is closed
pub clear_own : (sh : Shape) (k : Known) (old new : Option Disk) → IsReady sh k old → Becomes old new (λ b a. Unit {0}) → ((x : List ℕ) → IsSynced x old → IsSynced (spliced x (half_bytes sh - k.at) (0 ∷ [])) new)
    → (x : List ℕ) → IsSynced x old → (y : List ℕ) × IsSynced y new × (half (half_bytes sh) k.at y ≡ half (half_bytes sh) k.at x)
clear_own sh k old None ready told done x is = (x, tt, refl)
clear_own sh k None (Some a) ready told done x is = absurd told
clear_own sh k (Some b) (Some a) ready told done x is =
    let size = half_bytes sh in
    let q = size - k.at in
    let zero_ : List ℕ = 0 ∷ [] in
    let some : 1 ≤ half_bytes sh = omega arith in
    let same = ap length is.0 in
    let wide = ready.1.log.room in
    let torn = torn_spliced q x zero_ (omega (arith, same, wide, some)) in (
      spliced x q zero_,
      done x is,
      ⊎_elim
          (λ (first : k.at ≡ 0). half_before size q 1 x (spliced x q zero_) torn k.at (omega (arith, first)))
          (λ (second : k.at ≡ size). half_behind size q 1 x (spliced x q zero_) torn k.at (omega (arith, second, some)))
          ready.1.log.index,
    )

-- after that
pub turns_then : (sh : Shape) (at n : ℕ) (prepared : Bool) (body : List ℕ) (old mid new : Option Disk) → ((x : List ℕ) → IsSynced x old → (y : List ℕ) × IsSynced y mid × (half (half_bytes sh) at y ≡ half (half_bytes sh) at x))
    → Turns sh at (Whole prepared n body) mid new → Turns sh at (Whole prepared n body) old new
turns_then sh at n prepared body old mid new own turns x is =
    let here = own x is in
    let made = turns here.0 here.1 in
    (made.0, made.1, subst (λ (l : List ℕ). IsAtRest (IsLog (half_bytes sh) (half_bytes sh - at) (made.0 ∷ []) l) new) here.2 made.2)

-- once the text of a kernel was stored
module _ (sh : Shape) (k m : Known) (prepared : Bool) (kernel : List ℕ) (old new : Option Disk) (stores : Stores k m) (body_is : m.body ≡ with_text sh k kernel) (marked : MarksThese (OfText sh k.body m.body) k.touched m.touched) where
  at_is : m.at ≡ k.at
  at_is = ap (λ (z : Known). z.at) stores.rest

  end_is : m.end ≡ k.end
  end_is = ap (λ (z : Known). z.end) stores.rest

  fit_is : (Fit sh m.end (gathered 0 m.touched m.body)) → Fit sh k.end (gathered 0 m.touched (with_text sh k kernel))
  fit_is fits = subst (λ n. Fit sh n (gathered 0 m.touched (with_text sh k kernel))) end_is (subst (λ (l : List ℕ). Fit sh m.end (gathered 0 m.touched l)) body_is fits)

  fit_was : Fit sh k.end (gathered 0 m.touched (with_text sh k kernel)) → Fit sh m.end (gathered 0 m.touched m.body)
  fit_was fits = subst (λ n. Fit sh n (gathered 0 m.touched m.body)) (sym end_is) (subst (λ (l : List ℕ). Fit sh k.end (gathered 0 m.touched l)) (sym body_is) fits)

  marks_are : MarksThese (OfText sh k.body (with_text sh k kernel)) k.touched m.touched
  marks_are = subst (λ (l : List ℕ). MarksThese (OfText sh k.body l) k.touched m.touched) body_is marked

  pub writes_lines : Fit sh m.end (gathered 0 m.touched m.body) → Adds sh m.at m.end (Lines prepared (number_in kernel) (gathered 0 m.touched m.body)) old new → Writes sh k prepared kernel old new
  writes_lines fits adds =
      let here = subst (λ n. Adds sh n m.end (Lines prepared (number_in kernel) (gathered 0 m.touched m.body)) old new) at_is adds in
      let behind = subst (λ n. Adds sh k.at n (Lines prepared (number_in kernel) (gathered 0 m.touched m.body)) old new) end_is here in
      record {
        touched = m.touched;
        long = stores.touched_long;
        marked = marks_are;
        lines = λ fit. subst (λ (l : List ℕ). Adds sh k.at k.end (Lines prepared (number_in kernel) (gathered 0 m.touched l)) old new) body_is behind;
        whole = λ none. absurd (none (fit_is fits));
      }

  pub writes_whole : (Fit sh m.end (gathered 0 m.touched m.body) → ⊥) → Turns sh m.at (Whole prepared (number_in kernel) m.body) old new → Writes sh k prepared kernel old new
  writes_whole none turns =
      let here = subst (λ n. Turns sh n (Whole prepared (number_in kernel) m.body) old new) at_is turns in
      record {
        touched = m.touched;
        long = stores.touched_long;
        marked = marks_are;
        lines = λ fit. absurd (none (fit_was fit));
        whole = λ not_fit. subst (λ (l : List ℕ). Turns sh k.at (Whole prepared (number_in kernel) l) old new) body_is here;
      }
