-- A process by itself: the fold of its own answers, whatever the others do. Lists of answers have the last first.
use Rattle.std.specs.Prelude.{◌==◌, ◌+◌, ◌&&◌, ℕ, List, [], ◌∷◌, ◌++◌, Bool, false, not, if◌then◌else◌, length, slice_get, nat_lt, Option, Some, None, bytes_eq}
use Rattle.dc_model.specs.Guests.{Event, Answer, Guests, is_clock, is_input, is_random, is_receive, is_sure}
use Rattle.dc_model.specs.Guests.Event.{AtVisible, AtSend}
use Rattle.dc_model.specs.Guests.Answer.{Plain, Clock, Random, InputNone, InputNext, InputEnd, ReceiveNone, ReceiveFrom}
use Rattle.dc_model.specs.declared.visible.Visible.{Visible}

-- its machine, how many inputs it took, how many messages it received from each, all that it sent to each, and how many visible events it had
pub record Local (Mc : Type 0) : Type 0 where
  pub machine : Mc
  pub inputs_taken : ℕ
  pub received : ℕ → ℕ
  pub sent : ℕ → List (List ℕ)
  pub visible : ℕ

-- the event that comes of what a process is about to do and of what it is told there
abbrev pub comes : {Mc : Type 0} → Guests Mc → Local Mc → Answer → Event
comes G l a = G.next l.machine

-- how many inputs an answer hands over
abbrev pub took_input : Answer → ℕ
took_input (InputNext bytes) = 1
took_input _ = 0

-- how many messages of s an answer hands over
abbrev pub took_from : Answer → ℕ → ℕ
took_from (ReceiveFrom r message) s = if r == s then 1 else 0
took_from _ s = 0

-- what an event sends to q
abbrev pub posted : Event → ℕ → List (List ℕ)
posted (AtSend to message) q = if to == q then message ∷ [] else []
posted _ q = []

-- how many visible events an event is
abbrev pub shows : Event → ℕ
shows (AtVisible body) = 1
shows _ = 0

-- the process after an answer: total, whether it fits or not
abbrev pub moved : {Mc : Type 0} → Guests Mc → Local Mc → Answer → Local Mc
moved G l a = record {
  machine = G.after l.machine a;
  inputs_taken = l.inputs_taken + took_input a;
  received = λ s. l.received s + took_from a s;
  sent = λ q. l.sent q ++ posted (comes G l a) q;
  visible = l.visible + shows (comes G l a);
}

-- before its first answer
abbrev pub begun : {Mc : Type 0} → Guests Mc → ℕ → Local Mc
begun G p = record { machine = G.start p; inputs_taken = 0; received = λ s. 0; sent = λ q. []; visible = 0 }

-- after its answers
abbrev pub local : {Mc : Type 0} → Guests Mc → ℕ → List Answer → Local Mc
local G p [] = begun G p
local G p (a ∷ answers) = moved G (local G p answers) a

-- the first r answers
abbrev pub oldest : ℕ → List Answer → List Answer
oldest r [] = []
oldest r (a ∷ answers) = if nat_lt (length answers) r then a ∷ answers else oldest r answers

-- a process at a position: after its first answers, as many as that
abbrev pub at_position : {Mc : Type 0} → Guests Mc → ℕ → ℕ → List Answer → Local Mc
at_position G p i answers = local G p (oldest i answers)

-- what is handed over is the next input
abbrev pub is_next_input : List ℕ → Option (List ℕ) → Bool
is_next_input bytes None = false
is_next_input bytes (Some next) = bytes_eq bytes next

-- whether an answer fits what the process is about to do
abbrev pub fits : {Mc : Type 0} → Guests Mc → ℕ → Local Mc → Answer → Bool
fits G p l Plain = is_sure (G.next l.machine)
fits G p l (Clock v) = is_clock (G.next l.machine)
fits G p l (Random v) = is_random (G.next l.machine)
fits G p l InputNone = is_input (G.next l.machine)
fits G p l (InputNext bytes) = is_input (G.next l.machine) && is_next_input bytes (slice_get (G.inputs p) l.inputs_taken)
fits G p l InputEnd = is_input (G.next l.machine) && not (nat_lt l.inputs_taken (length (G.inputs p)))
fits G p l ReceiveNone = is_receive (G.next l.machine)
fits G p l (ReceiveFrom s message) = is_receive (G.next l.machine)

-- the visible record of an event that is the k-th visible one of p, if it is visible
abbrev pub visible_of : ℕ → ℕ → Event → List Visible
visible_of p k (AtVisible body) = record { p = p; k = k; body = body } ∷ []
visible_of p k _ = []

-- the visible record of an answered event, if it is visible
abbrev pub shown : {Mc : Type 0} → Guests Mc → ℕ → Local Mc → Answer → List Visible
shown G p l a = visible_of p l.visible (comes G l a)
