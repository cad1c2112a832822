-- The line of an event, as the code tells it and as the theory has it.
use Rattle.std.proofs.Common.{◌≡◌, ◌<◌, ◌∷◌, not, ℕ, [], Bool, refl, ap, length, slice_index}
use Rattle.dc_audit.specs.declared.journal.Deed.{Deed}
use Rattle.dc_audit.specs.declared.journal.Deed.TheVariants.{Receives, Sends}
use Rattle.dc_audit.specs.declared.journal.Line.TheVariants.{Does}
use Rattle.dc_calls.specs.declared.call.Call.TheVariants as calls
use Rattle.dc_deeds.specs.Events.{HasReceiver, deed_by, deed_lines, receipt_by}
use Rattle.dc_events.specs.Kinds.{kind_of}
use Rattle.dc_events.specs.declared.event.Next.{Next}
use Rattle.dc_events.specs.declared.event.Next.TheVariants as next
use Rattle.dc_guest.specs.Guest.{event_of}
use Rattle.dc_guest.specs.Nexts.{called_by}
use Rattle.dc_kernel.specs.Kernels.{Kernel}
use Rattle.dc_links.specs.Links.{link_to}
use Rattle.dc_model.specs.Guests.{Answer}
use Rattle.dc_model.specs.Guests.Answer.{ReceiveFrom}
use Rattle.dc_model.specs.Process.{Local}
use Rattle.dc_proc.specs.Events.{IsSender}
use Rattle.dc_rv32.specs.Machine.{Machine}
use Rattle.dc_savework.specs.Journal.{event_lines, receipt}

-- a process whose kernel counts the messages that it received and sent
module _ {Mc : Type 0} (l : Local Mc) (k : Kernel) (received : (s : ℕ) → s < k.n → slice_index k.received s ≡ l.received s) (sent : (q : ℕ) → q < k.n → (link_to k.links q).sent ≡ length (l.sent q))
    (p : ℕ) (chance : Bool) where
  receipt_is : (a : Answer) → IsSender k a → receipt_by k chance a ≡ receipt l chance a
  receipt_is (ReceiveFrom s message) sender = ap (λ i. Receives s i (not chance)) (received s sender.0)
  receipt_is _ sender = refl

  pub happens : (a : Answer) → IsSender k a → (n : Next) (m : Machine) → HasReceiver k (called_by n) → deed_lines p (deed_by k chance a (kind_of n) (called_by n)) ≡ event_lines l p chance a (event_of n m)
  happens a sender next.Retire m to = refl
  happens a sender (next.Trap cause) m to = refl
  happens a sender (next.Call (calls.Exit code)) m to = refl
  happens a sender (next.Call (calls.Output from count)) m to = refl
  happens a sender (next.Call (calls.Input to room)) m there = refl
  happens a sender (next.Call calls.Clock) m to = refl
  happens a sender (next.Call calls.Random) m to = refl
  happens a sender (next.Call (calls.Send q from count)) m to = ap (λ i. Does p (Sends q i) ∷ []) (sent q to)
  happens a sender (next.Call (calls.Receive to room)) m there = ap (λ (d : Deed). Does p d ∷ []) (receipt_is a sender)
  happens a sender (next.Call calls.Number) m to = refl
  happens a sender (next.Call calls.BadArgument) m to = refl
  happens a sender (next.Call calls.Unknown) m to = refl
