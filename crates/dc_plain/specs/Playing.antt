-- The code's processes as the failure-free world has them.
use Rattle.std.specs.Prelude.{◌≡◌, ◌<◌, ◌+◌, ◌^◌, ℕ, All, Bool, not, is_some, true, ◌&&◌, List, [], Option, None, Some, Vec, IfSome, false, if◌then◌else◌, length, map, slice_get, slice_index, unwrap_or, vec_capacity}
use Rattle.std.specs.declared.alloc.Global.{Global}
use Rattle.dc_calls.specs.declared.call.Call as calls
use Rattle.dc_calls.specs.declared.call.Call.TheVariants.{Send}
use Rattle.dc_elf.specs.Images.{Image}
use Rattle.dc_events.specs.declared.event.Next.{Next}
use Rattle.dc_events.specs.Kinds.{kind_of}
use Rattle.dc_guest.specs.Answers.{answer_of, may_answer}
use Rattle.dc_guest.specs.Guest.{Guest, coming, next_of, started}
use Rattle.dc_isa.specs.declared.regs.Regs.{Regs}
use Rattle.dc_model.specs.FailureFree.{FailureFree, answer_for, happened}
use Rattle.dc_model.specs.Guests.{Answer, Event, Guests, is_send, is_visible}
use Rattle.dc_model.specs.Process.{Local, fits}
use Rattle.dc_model.specs.Guests.Answer.{InputEnd, InputNext, ReceiveFrom}
use Rattle.dc_model.specs.Guests.Event.{AtSend, AtVisible}
use Rattle.dc_model.specs.declared.act.Act.{Act}
use Rattle.dc_plain.specs.declared.applied.Applied.{Applied}
use Rattle.dc_plain.specs.declared.process.Process.{Process}
use Rattle.dc_words.specs.Lists.{items_of, lists_of}
use Rattle.dc_model.specs.declared.visible.Body.{Body}
use Rattle.dc_model.specs.declared.visible.Visible.{Visible}

-- a process by its fields
abbrev pub local_of : Process → Local Guest
local_of l = record {
  machine = l.guest;
  inputs_taken = l.inputs_taken;
  received = λ s. slice_index l.received.items s;
  sent = λ q. items_of (slice_get l.sent.items q);
  visible = l.visible;
}

-- process p of n before its first act, by its image
abbrev pub started_at : ℕ → ℕ → Option Image → Local Guest
started_at p n image = record { machine = started p n image; inputs_taken = 0; received = λ s. 0; sent = λ q. []; visible = 0 }

-- the same, by an image that is there
abbrev pub begun_at : ℕ → ℕ → Image → Local Guest
begun_at p n image = started_at p n (Some image)

-- a process of a list, or none past its end
abbrev pub local_at : ℕ → ℕ → Option Process → Local Guest
local_at n p None = started_at p n None
local_at n p (Some l) = local_of l

-- each process of a list
abbrev pub procs_of : List Process → ℕ → Local Guest
procs_of processes p = local_at (length processes) p (slice_get processes p)

-- each is a process of so many
abbrev pub AreAmong : ℕ → List Process → Type 0
AreAmong n processes = All (λ (l : Process). l.guest.count ≡ n) processes

-- the answer that an act of a process gives, if it fits
abbrev pub if_fits : {Mc : Type 0} → Guests Mc → FailureFree Mc → ℕ → Option Answer → Option Answer
if_fits G w p None = None
if_fits G w p (Some a) = if fits G p (w.procs p) a then Some a else None

-- the answer that an act gives, where it fits
abbrev pub answer_to : {Mc : Type 0} → Guests Mc → FailureFree Mc → ℕ → Act → Option Answer
answer_to G w p act = if_fits G w p (answer_for G w p act)

-- no input is left, where an answer says so
abbrev pub ends_well : Answer → Option (List ℕ) → Bool
ends_well InputEnd next = not (is_some next)
ends_well _ next = true

-- whether its next event may be answered so, apart from what the answer hands over
abbrev pub can_be : Guest → Answer → Bool
can_be g a = not g.ended && may_answer a (kind_of (next_of g))

-- a message from its sender can be counted
abbrev pub CanCount : List ℕ → Answer → Type 0
CanCount received (ReceiveFrom s message) = (s < length received) × (slice_index received s + 1 < 2 ^ 64)
CanCount received _ = Unit {0}

-- an input can be counted
abbrev pub CanTake : ℕ → Answer → Type 0
CanTake inputs_taken (InputNext bytes) = inputs_taken + 1 < 2 ^ 64
CanTake inputs_taken _ = Unit {0}

-- an input or a message that it hands over can be counted
abbrev pub IsWithin : Process → Answer → Type 0
IsWithin l a = CanTake l.inputs_taken a × CanCount l.received.items a

-- there is room for a message that is sent next
abbrev pub RoomAt : Process → Event → Type 0
RoomAt l (AtSend q message) = IfSome (slice_get l.sent.items q) (λ v. length v.items < vec_capacity v)
RoomAt l _ = Unit {0}

-- there is room for what it sends next
abbrev pub HasRoom : Process → Type 0
HasRoom l = RoomAt l (coming l.guest)

-- what an event shows, if anything
abbrev pub body_of : Event → Option Body
body_of (AtVisible body) = Some body
body_of _ = None

-- the world of a list of processes
abbrev pub world_at : List Process → List Visible → FailureFree Guest
world_at processes visibles = record { procs = procs_of processes; visibles = visibles }

-- what a process has come to, as lists: its guest, how many inputs it took, how many messages it received from each, all that it sent to each, and how many visible events it had
pub record Standing : Type 0 where
  pub guest : Guest
  pub inputs_taken : ℕ
  pub received : List ℕ
  pub sent : List (List (List ℕ))
  pub visible : ℕ

-- what a process of the code has come to
abbrev pub standing_of : Process → Standing
standing_of l = record { guest = l.guest; inputs_taken = l.inputs_taken; received = l.received.items; sent = lists_of l.sent.items; visible = l.visible }

-- guests that are played: what each has come to, their inputs, and the visible records
pub record Played : Type 0 where
  pub processes : List Standing
  pub inputs : List (List (List ℕ))
  pub visibles : List Visible

-- guests of the code that are played
abbrev pub played : List Process → List (Vec (List ℕ) Global) → List Visible → Played
played processes inputs visibles = record { processes = map standing_of processes; inputs = lists_of inputs; visibles = visibles }

-- the world that they have come to
abbrev pub local_in : ℕ → ℕ → Option Standing → Local Guest
local_in n p None = started_at p n None
local_in n p (Some s) = record { machine = s.guest; inputs_taken = s.inputs_taken; received = λ q. slice_index s.received q; sent = λ q. unwrap_or (slice_get s.sent q) []; visible = s.visible }

-- the world that they have come to
abbrev pub world_in : Played → FailureFree Guest
world_in w = record { procs = λ p. local_in (length w.processes) p (slice_get w.processes p); visibles = w.visibles }

-- the registers of a guest
abbrev pub regs_of : Guest → Regs
regs_of g = record { x = g.machine.registers; pc = g.machine.pc }

-- what a guest did last, where that ended it
abbrev pub ending_of : Guest → Option Next
ending_of g = if g.ended then Some (next_of g) else None

-- whether a call sends a message
abbrev pub sends_by : Option calls.Call → Bool
sends_by (Some (Send to from count)) = true
sends_by _ = false

-- what an act was to a process: the answer that it gives and that fits, the world after it, and whether others see the event
pub record Happens {Mc : Type 0} (G : Guests Mc) (old : FailureFree Mc) (p : ℕ) (act : Act) (applied : Applied) (new : FailureFree Mc) : Type 0 where
  pub answered : answer_to G old p act ≡ Some (answer_of applied.answer)
  pub new_is : new ≡ happened G old p (answer_of applied.answer)
  pub shows : applied.shows ≡ is_visible (G.next (old.procs p).machine)
  pub sends : applied.sends ≡ is_send (G.next (old.procs p).machine)
