-- The lines of a turn, by what the code of its process holds.
use Rattle.std.specs.Prelude.{◌<◌, ◌++◌, ◌&&◌, ◌∷◌, ℕ, List, [], Bool, true, false, not, Option, None, Some, nat_lt, slice_index}
use Rattle.std.specs.List.{list_any}
use Rattle.dc_audit.specs.declared.journal.Deed.{Deed}
use Rattle.dc_audit.specs.declared.journal.Deed.TheVariants.{Receives, Sends, Visible}
use Rattle.dc_audit.specs.declared.journal.Line.{Line}
use Rattle.dc_audit.specs.declared.journal.Line.TheVariants.{Commits, Does}
use Rattle.dc_calls.specs.declared.call.Call.{Call}
use Rattle.dc_calls.specs.declared.call.Call.TheVariants.{Send}
use Rattle.dc_events.specs.declared.event.Kind.{Kind}
use Rattle.dc_events.specs.declared.event.Kind.TheVariants as kind
use Rattle.dc_kernel.specs.Kernels.{Kernel}
use Rattle.dc_links.specs.Links.{link_to}
use Rattle.dc_model.specs.Guests.{Answer}
use Rattle.dc_model.specs.Guests.Answer.{ReceiveFrom}
use Rattle.dc_proc.specs.Turns.{is_none}
use Rattle.dc_proc.specs.Ups.{held}
use Rattle.dc_proc.specs.declared.up.Up.{Up as Process}
use Rattle.dc_processes.specs.declared.slot.Slot.{Slot}
use Rattle.dc_processes.specs.declared.slot.Slot.TheVariants.{Up}
use Rattle.dc_protocols.specs.Rules.{at_inputs}
use Rattle.dc_protocols.specs.declared.protocol.Protocol.{Protocol}
use Rattle.dc_protocols.specs.declared.protocol.Rule.{Rule}
use Rattle.dc_recovery.specs.Parts.{is_with}
use Rattle.dc_savework.specs.Journal.{marks_by, told}

-- it is up, and had an unlogged nondeterministic event since its last commit
abbrev pub has_unlogged : Option Slot → Bool
has_unlogged (Some (Up u)) = u.unlogged
has_unlogged _ = false

-- one of them is, and had
abbrev pub have_unlogged : List (Option Slot) → Bool
have_unlogged slots = list_any has_unlogged slots

-- the answer to an event of this kind comes from the log
abbrev pub replays_at : Process → Kind → Bool
replays_at u k = at_inputs k && not (is_none (held u).unread)

-- a call that sends goes to a process that is there
abbrev pub HasReceiver : Kernel → Option Call → Type 0
HasReceiver k (Some (Send q from count)) = q < k.n
HasReceiver k _ = Unit {0}

-- what a call sends, with the number of its message
abbrev pub sent_by : Kernel → Option Call → Option Deed
sent_by k (Some (Send q from count)) = Some (Sends q (link_to k.links q).sent)
sent_by k _ = None

-- a request for a message, by its answer: the message with its number, or nothing yet
abbrev pub receipt_by : Kernel → Bool → Answer → Deed
receipt_by k chance (ReceiveFrom s message) = Receives s (slice_index k.received s) (not chance)
receipt_by k chance _ = told chance

-- an event, by its kind, its call and its answer
abbrev pub deed_by : Kernel → Bool → Answer → Kind → Option Call → Option Deed
deed_by k chance a kind.Internal call = None
deed_by k chance a kind.Clock call = Some (told chance)
deed_by k chance a kind.Random call = Some (told chance)
deed_by k chance a kind.Input call = Some (told chance)
deed_by k chance a kind.Receive call = Some (receipt_by k chance a)
deed_by k chance a kind.Visible call = Some Visible
deed_by k chance a kind.Send call = sent_by k call

-- the line of a deed of p, if there is one
abbrev pub deed_lines : ℕ → Option Deed → List Line
deed_lines p None = []
deed_lines p (Some deed) = Does p deed ∷ []

-- the line of a commit of these, if there is one
abbrev pub marked_lines : Bool → List Bool → List Line
marked_lines false members = []
marked_lines true members = Commits members ∷ []

-- who commits with process p of n
abbrev pub members_of : Protocol → ℕ → ℕ → List Bool
members_of protocol n p = marks_by 16 (λ q. is_with protocol p q && nat_lt q n)

-- the commit before, the deed and the commit after
abbrev pub lines_by : ℕ → List Bool → Rule → Option Deed → List Line
lines_by p members rule deed = marked_lines rule.before members ++ deed_lines p deed ++ marked_lines rule.after members
