-- What a process is answered, and what its protocol asks for there.
use Rattle.std.specs.Prelude.{◌==◌, ◌+◌, ◌%◌, ℕ, zero, suc, List, [], ◌∷◌, Bool, false, not, ◌&&◌, ◌||◌, if◌then◌else◌, length, slice_get, nat_le, Option, Some, None}
use Rattle.dc_model.specs.Guests.{Event, Answer, Guests, input_answer, is_request, receive_answer}
use Rattle.dc_model.specs.Guests.Event.{AtClock, AtRandom, AtInput, AtReceive, AtSend}
use Rattle.dc_model.specs.Guests.Answer.{Plain, Clock, Random, InputNone, ReceiveNone, ReceiveFrom}
use Rattle.dc_model.specs.Process.{at_position, comes}
use Rattle.dc_model.specs.Runs.{own}
use Rattle.dc_protocols.specs.Rules.{is_causal, rule_of}
use Rattle.dc_protocols.specs.declared.protocol.Rule.{Rule}
use Rattle.dc_protocols.specs.declared.protocol.Since.{Since}
use Rattle.dc_recovery.specs.Core.{Core, Status, learned, stands}
use Rattle.dc_recovery.specs.Saves.{Logged, Save, answer_at, is_empty_log}
use Rattle.dc_recovery.specs.Systems.{System, kind_at}

-- the answer that a turn's word and clock draw; the word names the sender, who must be up and have sent the message by its position
abbrev pub drawn_answer : {Mc : Type 0} → Guests Mc → Core → ℕ → ℕ → ℕ → Event → Answer
drawn_answer G c p word clock AtClock = Clock clock
drawn_answer G c p word clock AtRandom = Random word
drawn_answer G c p word clock AtInput = if word % 2 == 1 then input_answer (slice_get (G.inputs p) (stands G c p).inputs_taken) else InputNone
drawn_answer G c p word clock AtReceive = let s = word % (G.count + 1) in
    if s == G.count || (s == p || not (c.procs s).up) then ReceiveNone else receive_answer s (slice_get ((stands G c s).sent p) ((stands G c p).received s))
drawn_answer G c p word clock _ = Plain

-- what is drawn where p stands
abbrev pub drawn : {Mc : Type 0} → Guests Mc → Core → ℕ → ℕ → ℕ → Answer
drawn G c p word clock = drawn_answer G c p word clock (G.next (stands G c p).machine)

-- what is there, or else this
abbrev pub given : Option Answer → Answer → Answer
given None a = a
given (Some there) a = there

-- an act that is there is answered again; else the answer is drawn
abbrev pub answer : {Mc : Type 0} → Guests Mc → Core → ℕ → ℕ → ℕ → Answer
answer G c p word clock = given (answer_at (c.procs p).position (own p c.acts)) (drawn G c p word clock)

-- a send for which the sender would have to keep more than the most
abbrev pub is_blocked : {Mc : Type 0} → System Mc → Core → ℕ → Event → Bool
is_blocked S c p (AtSend q message) = nat_le (learned S.guests c q p + S.most) (length ((stands S.guests c p).sent q))
is_blocked S c p _ = false

-- whether p stores to memory in its event with this answer
abbrev pub stores_at : {Mc : Type 0} → Guests Mc → Core → ℕ → Answer → Bool
stores_at G c p a = G.stores (stands G c p).machine a

-- the answer comes from the log
abbrev pub replays : Event → Status → Bool
replays e st = is_request e && not (is_empty_log st.unread)

-- the answer of the next record of a log
abbrev pub read_answer : List Logged → Answer
read_answer [] = Plain
read_answer (x ∷ log) = x.answer

-- a log without room for another record
abbrev pub is_full : ℕ → Save → Bool
is_full room s = nat_le room (length s.log)

-- a receipt that makes the most that may be uncommitted from one sender
abbrev pub makes_most : {Mc : Type 0} → System Mc → ℕ → List Answer → Status → Answer → Bool
makes_most S p answers st (ReceiveFrom s message) = (at_position S.guests p st.position answers).received s + 1 == (at_position S.guests p st.older.position answers).received s + S.most
makes_most S p answers st _ = false

-- some process below n had an unlogged nondeterministic event since the last commit
abbrev pub any_unlogged : ℕ → (ℕ → Status) → Bool
any_unlogged zero procs = false
any_unlogged (suc n) procs = (procs n).unlogged || any_unlogged n procs

-- some process below n is one of these
abbrev pub any_of : ℕ → (ℕ → Bool) → Bool
any_of zero test = false
any_of (suc n) test = test n || any_of n test

-- some unlogged nondeterministic event since the last commit matters to p: any at all, or, where only those commit that matter, one on which p depends
abbrev pub any_at : {Mc : Type 0} → System Mc → Core → ℕ → Bool
any_at S c p = if is_causal S.protocol then any_of S.guests.count (c.ties.on p) else any_unlogged S.guests.count c.procs

-- what an event finds
abbrev pub since : ℕ → Event → Status → Bool → Bool → Since
since room e st any most = record { unlogged = st.unlogged; any = any; full = is_full room st.newer; eighth = most; replay = replays e st }

-- what the protocol asks at the event that comes where p stands
abbrev pub rule_at : {Mc : Type 0} → System Mc → Core → ℕ → Answer → Rule
rule_at S c p a = let e = comes S.guests (stands S.guests c p) a in
    rule_of S.protocol (kind_at e) (since S.log_room e (c.procs p) (any_at S c p) (makes_most S p (own p c.acts) (c.procs p) a))
