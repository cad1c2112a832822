-- Acts that are played in the failure-free world.
use Rattle.std.specs.Prelude.{◌≡◌, ℕ, suc, ◌&&◌, List, [], ◌∷◌, Option, None, Some, Result, Ok, Err, if◌then◌else◌, length, nat_le, slice_get}
use Rattle.dc_acts.specs.Lines.{text_of}
use Rattle.dc_guest.specs.Guest.{Guest}
use Rattle.dc_model.specs.Drawn.{draws}
use Rattle.dc_model.specs.Guests.{Guests}
use Rattle.dc_model.specs.FailureFree.{FailureFree, apply, opened}
use Rattle.dc_model.specs.declared.act.Taken.{Taken}
use Rattle.dc_model.specs.declared.entry.Entry.{Entry}
use Rattle.dc_plain.specs.Playing.{Played, world_in}
use Rattle.dc_words.specs.Results.{◌>>=◌, or_fault}
use Rattle.dc_check.specs.declared.playing.Lines.{Lines}
use Rattle.dc_check.specs.declared.playing.NotPlayed.{NotPlayed}
use Rattle.dc_check.specs.declared.playing.NotPlayed.TheVariants.{At, Memory}

-- the world that acts lead to from one on, where each was drawn at its turn, from `next` on, and applies; else the position of the first of
-- which this does not hold, where positions are counted from this one on
abbrev pub played_from : {Mc : Type 0} → Guests Mc → List Entry → ℕ → ℕ → FailureFree Mc → List Taken → Result (FailureFree Mc) ℕ
played_from G schedule next position w [] = Ok w
played_from G schedule next position w (x ∷ acts) = if nat_le next x.t && draws G.count (slice_get schedule x.t) x
    then or_fault position (apply G w x.p x.act) >>= (λ v. played_from G schedule (suc x.t) (suc position) v acts) else Err position

-- the world that acts lead to, or the position of the first that was not drawn at its turn or does not apply
abbrev pub played : {Mc : Type 0} → Guests Mc → List Entry → List Taken → Result (FailureFree Mc) ℕ
played G schedule acts = played_from G schedule 0 0 (opened G) acts

-- the position of the first act that leads nowhere, if there is one
abbrev pub first_stray : {A : Type 0} → Result A ℕ → Option ℕ
first_stray (Ok w) = None
first_stray (Err position) = Some position

-- the code's guests have come to this world, and its lines are those of the world's records
pub record Stands (plain : Played) (lines : Lines) (w : FailureFree Guest) : Type 0 where
  pub world : world_in plain ≡ record { procs = w.procs; visibles = [] }
  pub text : lines.text.items ≡ text_of w.visibles
  pub count : lines.count ≡ length w.visibles

-- what a player of acts found: the lines of the world that they lead to, or the first act that leads nowhere, unless it wanted memory
abbrev pub Plays : Result Lines NotPlayed → Result (FailureFree Guest) ℕ → Type 0
Plays (Ok lines) (Ok w) = (lines.text.items ≡ text_of w.visibles) × (lines.count ≡ length w.visibles)
Plays (Ok lines) (Err position) = ⊥
Plays (Err (At position)) told = told ≡ Err position
Plays (Err Memory) told = Unit {0}
