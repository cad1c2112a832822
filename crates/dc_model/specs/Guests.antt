-- Guests as any deterministic machines: what one is about to do, what it is told there, and how it goes on.
use Rattle.std.specs.Prelude.{ℕ, List, Bool, true, false, ◌||◌, Option, Some, None}
use Rattle.dc_model.specs.declared.visible.Body.{Body}

-- what a guest is about to do: nothing more, or an event of one of the seven kinds
pub data Event : Type 0 where
  AtEnd : Event
  AtInternal : Event
  AtClock : Event
  AtRandom : Event
  AtInput : Event
  AtReceive : Event
  AtVisible : (body : Body) → Event
  AtSend : (to : ℕ) (message : List ℕ) → Event

-- what it is told at an event: an act, with the input or the message that it hands over
pub data Answer : Type 0 where
  Plain : Answer
  Clock : (v : ℕ) → Answer
  Random : (v : ℕ) → Answer
  InputNone : Answer
  InputNext : (bytes : List ℕ) → Answer
  InputEnd : Answer
  ReceiveNone : Answer
  ReceiveFrom : (s : ℕ) (message : List ℕ) → Answer

-- the guests: how many there are, what a machine is about to do, the machine after an answer, whether it stores to memory then, where each starts, and its inputs
pub record Guests (Mc : Type 0) : Type 0 where
  pub count : ℕ
  pub next : Mc → Event
  pub after : Mc → Answer → Mc
  pub stores : Mc → Answer → Bool
  pub start : ℕ → Mc
  pub inputs : ℕ → List (List ℕ)

-- a request for input
abbrev pub is_input : Event → Bool
is_input AtInput = true
is_input _ = false

-- a request for a message
abbrev pub is_receive : Event → Bool
is_receive AtReceive = true
is_receive _ = false

-- a request, for input or for a message: its answer can be logged
abbrev pub is_request : Event → Bool
is_request e = is_input e || is_receive e

-- a reading of the clock
abbrev pub is_clock : Event → Bool
is_clock AtClock = true
is_clock _ = false

-- a request for a random word
abbrev pub is_random : Event → Bool
is_random AtRandom = true
is_random _ = false

-- an event that asks for nothing: internal, visible or a send
abbrev pub is_sure : Event → Bool
is_sure AtInternal = true
is_sure (AtVisible body) = true
is_sure (AtSend to message) = true
is_sure _ = false

-- what users see
abbrev pub is_visible : Event → Bool
is_visible (AtVisible body) = true
is_visible _ = false

-- what another process gets
abbrev pub is_send : Event → Bool
is_send (AtSend to message) = true
is_send _ = false

-- an answer that tells nothing
abbrev pub is_plain : Answer → Bool
is_plain Plain = true
is_plain _ = false

-- what a request for input is answered: the next input, or that there is none
abbrev pub input_answer : Option (List ℕ) → Answer
input_answer None = InputEnd
input_answer (Some bytes) = InputNext bytes

-- what a request for a message of s is answered: its next message, or that there is none yet
abbrev pub receive_answer : ℕ → Option (List ℕ) → Answer
receive_answer s None = ReceiveNone
receive_answer s (Some message) = ReceiveFrom s message
