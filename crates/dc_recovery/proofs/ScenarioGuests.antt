-- Guests for worked runs, each process with a list of lines to carry out, and what a worked run is.
use Rattle.std.specs.Prelude.{ℕ, List, [], ◌∷◌, ◌++◌, drop, true}
use Rattle.dc_model.specs.Guests.{Answer, Event, Guests}
use Rattle.dc_model.specs.Guests.Answer.{Clock, InputNext, Random, ReceiveFrom}
use Rattle.dc_model.specs.Guests.Event.{AtClock, AtEnd, AtInput, AtInternal, AtRandom, AtReceive, AtSend, AtVisible}
use Rattle.dc_model.specs.declared.entry.Entry.{Entry}
use Rattle.dc_model.specs.declared.entry.Entry.TheVariants.{Turn}
use Rattle.dc_model.specs.declared.mark.Mark.{Mark}
use Rattle.dc_model.specs.declared.visible.Body.TheVariants.{End, Out}
use Rattle.dc_recovery.specs.Core.{Core, opening}
use Rattle.dc_recovery.specs.Systems.{System}
use Rattle.dc_recovery.specs.Turned.{LeadsTo}

-- a line of a program: one event
pub data Line : Type 0 where
  Compute : Line
  ReadClock : Line
  DrawRandom : Line
  Ask : Line
  Take : Line
  Show : Line
  Finish : Line
  Tell : (to : ℕ) → Line

-- the lines that are left, and all that it was told
pub record Machine : Type 0 where
  pub lines : List Line
  pub told : List ℕ

-- the event of the first line: it shows and sends all that it was told
abbrev pub event_of : List Line → List ℕ → Event
event_of [] told = AtEnd
event_of (Compute ∷ lines) told = AtInternal
event_of (ReadClock ∷ lines) told = AtClock
event_of (DrawRandom ∷ lines) told = AtRandom
event_of (Ask ∷ lines) told = AtInput
event_of (Take ∷ lines) told = AtReceive
event_of (Show ∷ lines) told = AtVisible (Out told)
event_of (Finish ∷ lines) told = AtVisible (End 0)
event_of (Tell to ∷ lines) told = AtSend to told

-- all that it was told, after one answer more
abbrev pub told_after : List ℕ → Answer → List ℕ
told_after told (Clock v) = told ++ v ∷ []
told_after told (Random v) = told ++ v ∷ []
told_after told (InputNext bytes) = told ++ bytes
told_after told (ReceiveFrom s message) = told ++ message
told_after told _ = told

-- that many guests with these programs and inputs
abbrev pub programs : ℕ → (ℕ → List Line) → (ℕ → List (List ℕ)) → Guests Machine
programs count lines inputs = record {
  count = count;
  next = λ m. event_of m.lines m.told;
  after = λ m a. record { lines = drop 1 m.lines; told = told_after m.told a };
  stores = λ m a. true;
  start = λ p. record { lines = lines p; told = [] };
  inputs = inputs;
}

-- an entry that is a turn of p with this word and clock
abbrev pub turn : ℕ → ℕ → ℕ → Entry
turn p word clock = Turn (record { p = p; word = word; clock = clock })

-- a run from the beginning: a core, and that the marks lead to it; marks have the last first, so a run so far has those of later turns dropped
abbrev pub Led : {Mc : Type 0} → System Mc → List Entry → List Mark → Type 0
Led S schedule marks = (c : Core) × LeadsTo S schedule (opening (λ p. true)) marks c
