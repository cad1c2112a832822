-- When what was told from a save on makes it one: a test that looks at each act once.
use Rattle.std.specs.Prelude.{◌≡◌, ◌<◌, ◌≤◌, ◌+◌, ◌-◌, ◌++◌, ◌==◌, ◌&&◌, ℕ, Bool, List, [], ◌∷◌, bytes_eq, false, if◌then◌else◌, length, map, nat_le, nat_lt, suc, take, true}
use Rattle.dc_limits.specs.declared.bounds.TheConstants.{LOGGED_EVENTS}
use Rattle.dc_limits.specs.declared.sizes.TheConstants.{KEPT_MESSAGES}
use Rattle.dc_guest.specs.Answers.{answer_of}
use Rattle.dc_kernel.specs.declared.records.LogRecord.{LogRecord}
use Rattle.dc_kernel.specs.declared.reply.Reply.{Reply}
use Rattle.dc_kernel.specs.declared.reply.Reply.TheVariants as reply
use Rattle.dc_model.specs.Guests.{Answer}
use Rattle.dc_model.specs.Guests.Answer.{InputNone, InputNext, InputEnd, ReceiveNone, ReceiveFrom}
use Rattle.dc_model.specs.Process.{took_from}
use Rattle.dc_proc.specs.Processes.{logged_of}
use Rattle.dc_protocols.specs.Rules.{has_log}
use Rattle.dc_recovery.specs.Invariant.{AllCanLog, SaveOk}
use Rattle.dc_recovery.specs.Saves.{Logged, Save, last_exposed, log_end, logged_at, reach, span}
use Rattle.dc_recovery.specs.Systems.{System}
use Rattle.dc_resume.specs.declared.told.Told.{Told}

-- how many messages of s records hand over
abbrev pub receipts : ℕ → List Logged → ℕ
receipts s [] = 0
receipts s (x ∷ log) = took_from x.answer s + receipts s log

-- the records before a position
abbrev pub before : ℕ → List Logged → List Logged
before r [] = []
before r (x ∷ log) = if nat_lt x.position r then x ∷ before r log else before r log

-- the first record, if there is one, is not before this position
abbrev pub StartsFrom : ℕ → List Logged → Type 0
StartsFrom r [] = Unit {0}
StartsFrom r (x ∷ log) = r ≤ x.position

-- what was told from the save on is its log and then this rest, which begins no earlier than the save's reach; and before the last position of the reach it
-- was told of few receipts from each sender
pub record IsToldSave {Mc : Type 0} (S : System Mc) (p : ℕ) (answers : List Answer) (s : Save) (rest : List Logged) : Type 0 where
  pub within : s.position ≤ length answers
  pub log_within : log_end s.log ≤ length answers
  pub told : span (logged_at answers) s.position (length answers) ≡ s.log ++ rest
  pub beyond : StartsFrom (reach S p answers s) rest
  pub can_log : AllCanLog s.log
  pub no_log : has_log S.protocol ≡ false → s.log ≡ []
  pub few : (q : ℕ) → receipts q (before (reach S p answers s - 1) s.log) < S.most

-- what an act told, as the theory has it
abbrev pub told_of : Told → Logged
told_of t = record { position = t.position; answer = answer_of t.answer }

-- whether a reply tells what an answer does; the clock and a random word are told by none
abbrev pub replies : Reply → Answer → Bool
replies reply.InputNone InputNone = true
replies (reply.InputNext body) (InputNext bytes) = bytes_eq body bytes
replies reply.InputEnd InputEnd = true
replies reply.ReceiveNone ReceiveNone = true
replies (reply.ReceiveFrom sender body) (ReceiveFrom s message) = sender == s && bytes_eq body message
replies _ _ = false

-- whether a log record tells what an act did
abbrev pub tells : LogRecord → Told → Bool
tells x t = x.position == t.position && replies x.told (answer_of t.answer)

-- whether the first thing told, if there is one, is not before a position
abbrev pub starts_from : ℕ → List Told → Bool
starts_from r [] = true
starts_from r (t ∷ told) = nat_le r t.position

-- whether what was told is a log, and then nothing before a position
abbrev pub begins : List Told → List LogRecord → ℕ → Bool
begins told [] r = starts_from r told
begins [] (x ∷ log) r = false
begins (t ∷ told) (x ∷ log) r = tells x t && begins told log r

-- what begins so, in the theory's words
pub record BeginsSo (told : List Logged) (log : List LogRecord) (r : ℕ) (rest : List Logged) : Type 0 where
  pub told_is : told ≡ map logged_of log ++ rest
  pub beyond : StartsFrom r rest

-- whether a reply hands over a message of q
abbrev pub hands : ℕ → Reply → Bool
hands q (reply.ReceiveFrom sender body) = sender == q
hands q _ = false

-- how many log records before a position do
abbrev pub handed : ℕ → ℕ → List LogRecord → ℕ
handed q end [] = 0
handed q end (x ∷ log) = (if nat_lt x.position end && hands q x.told then 1 else 0) + handed q end log

-- so many things told decide: one more than a log has records
abbrev pub told_room : ℕ
told_room = suc LOGGED_EVENTS

-- what is known of a process that came so far by these answers: their count, one past the last that is exposed for a save at a position, and the first things
-- that it was told from there on
pub record IsWalked {Mc : Type 0} (S : System Mc) (p : ℕ) (answers : List Answer) (position count exposed : ℕ) (told : List Told) : Type 0 where
  pub count_is : length answers ≡ count
  pub exposed_is : last_exposed S p answers position ≡ exposed
  pub told_is : map told_of told ≡ take told_room (span (logged_at answers) position (length answers))
  pub most_is : S.most ≡ KEPT_MESSAGES

-- this position and this log, whatever the number, are a save of a process that came so
abbrev pub IsSaveOf : {Mc : Type 0} → System Mc → ℕ → List Answer → ℕ → List LogRecord → Type 0
IsSaveOf S p answers position log = (number : ℕ) → SaveOk S p answers (record { position = position; log = map logged_of log; number = number })
