-- A system: the guests, the protocol under which they commit, its limits, and which events others hold a process to.
use Rattle.std.specs.Prelude.{◌≡◌, ◌<◌, ℕ, Bool, true, false, not, ◌&&◌, ◌||◌, if◌then◌else◌}
use Rattle.dc_events.specs.declared.event.Kind.{Kind}
use Rattle.dc_events.specs.declared.event.Kind.TheVariants as kind
use Rattle.dc_model.specs.Guests.{Event, Guests, is_visible, is_send}
use Rattle.dc_model.specs.Guests.Event.{AtClock, AtRandom, AtInput, AtReceive, AtVisible, AtSend}
use Rattle.dc_protocols.specs.Rules.{is_cand, is_causal, is_joint, rule_of}
use Rattle.dc_protocols.specs.declared.protocol.Protocol.{Protocol}
use Rattle.dc_protocols.specs.declared.protocol.Since.{Since}

-- the guests; their protocol; how many messages of one sender may be received and not committed, and are kept; how many answers a log holds;
-- the exposed events: what others have seen of a process, which it has to come to again; and those that are exposed where nothing told comes between its save and them
pub record System (Mc : Type 0) : Type 0 where
  pub guests : Guests Mc
  pub protocol : Protocol
  pub most : ℕ
  pub log_room : ℕ
  pub exposes : Event → Bool
  pub exposes_sure : Event → Bool

-- the kind of an event
abbrev pub kind_at : Event → Kind
kind_at AtClock = kind.Clock
kind_at AtRandom = kind.Random
kind_at AtInput = kind.Input
kind_at AtReceive = kind.Receive
kind_at (AtVisible body) = kind.Visible
kind_at (AtSend to message) = kind.Send
kind_at _ = kind.Internal

-- what others see of a process: users, or the receiver of a message
abbrev pub is_output : Event → Bool
is_output e = is_visible e || is_send e

-- what others see cannot be taken back: what is visible, and what is sent where the receiver does not recover with its sender
abbrev pub exposed_under : Protocol → Event → Bool
exposed_under protocol e = if is_joint protocol then is_visible e else is_output e

-- nor can a send that is sure to come again, where its receiver may commit without its sender
abbrev pub sure_under : Protocol → Event → Bool
sure_under protocol e = is_causal protocol && is_send e

-- the system of guests under a protocol
abbrev pub system_of : {Mc : Type 0} → Guests Mc → Protocol → ℕ → ℕ → System Mc
system_of G protocol most log_room = record { guests = G; protocol = protocol; most = most; log_room = log_room; exposes = exposed_under protocol; exposes_sure = sure_under protocol }

-- what recovery asks of a system: room for two receipts; all that is visible is exposed, and what is sent where each recovers by itself; only outputs are;
-- and after the commit before it an exposed event finds nothing that could come otherwise, where under CAND nothing such lasts and own of one is own of some
pub record IsSound {Mc : Type 0} (S : System Mc) : Type 0 where
  pub two : 1 < S.most
  pub visible : (e : Event) → is_visible e ≡ true → S.exposes e ≡ true
  pub sent : is_joint S.protocol ≡ false → (e : Event) → is_send e ≡ true → S.exposes e ≡ true
  pub outputs : (e : Event) → S.exposes e ≡ true → is_output e ≡ true
  pub sure_sent : is_causal S.protocol ≡ true → (e : Event) → is_send e ≡ true → S.exposes_sure e ≡ true
  pub sure_outputs : (e : Event) → S.exposes_sure e ≡ true → is_output e ≡ true
  pub clear : (e : Event) (since : Since) → S.exposes e ≡ true → (is_cand S.protocol ≡ true → since.unlogged ≡ false) → (since.unlogged ≡ true → since.any ≡ true)
      → (since.unlogged && not (rule_of S.protocol (kind_at e) since).before) ≡ false
