-- The journal of a run that nothing stops: what each turn leaves in it, by the protocol's rule and the answer.
use Rattle.std.specs.Prelude.{◌≡◌, ◌≢◌, ◌<◌, ◌&&◌, ℕ, zero, suc, Bool, true, false, not, List, [], ◌∷◌, ◌++◌, if◌then◌else◌, length, nat_lt}
use Rattle.dc_audit.specs.declared.journal.Deed.{Deed}
use Rattle.dc_audit.specs.declared.journal.Deed.TheVariants.{Chance, Logged, Visible, Sends, Receives}
use Rattle.dc_audit.specs.declared.journal.Line.{Line}
use Rattle.dc_audit.specs.declared.journal.Line.TheVariants.{Does, Commits}
use Rattle.dc_model.specs.Guests.{Answer, Event, Guests}
use Rattle.dc_model.specs.Guests.Answer.{ReceiveFrom}
use Rattle.dc_model.specs.Guests.Event.{AtClock, AtRandom, AtInput, AtReceive, AtSend, AtVisible}
use Rattle.dc_model.specs.Process.{Local, comes, local}
use Rattle.dc_model.specs.Runs.{Given}
use Rattle.dc_model.specs.declared.entry.Entry.{Entry}
use Rattle.dc_model.specs.declared.entry.Entry.TheVariants.{Turn}
use Rattle.dc_recovery.specs.Answers.{answer, replays, rule_at}
use Rattle.dc_recovery.specs.Core.{Core, opened_core, stands}
use Rattle.dc_recovery.specs.Parts.{sets_unlogged}
use Rattle.dc_recovery.specs.Parts.Place.{Nowhere}
use Rattle.dc_recovery.specs.Systems.{System}
use Rattle.dc_recovery.specs.Ties.{company}
use Rattle.dc_recovery.specs.Turned.{after_turn}
use Rattle.dc_recovery.specs.Unstopped.{entry_taken, is_taken}

-- marks of the first n processes, by a test
abbrev pub marks_by : ℕ → (ℕ → Bool) → List Bool
marks_by zero test = []
marks_by (suc n) test = test 0 ∷ marks_by n (λ i. test (suc i))

-- the commit of those processes below n that pass the test
abbrev pub commit_of : ℕ → (ℕ → Bool) → Line
commit_of n commits = Commits (marks_by 16 (λ q. commits q && nat_lt q n))

-- the line of a commit, if there is one
abbrev pub commit_lines : Bool → ℕ → (ℕ → Bool) → List Line
commit_lines false n commits = []
commit_lines true n commits = commit_of n commits ∷ []

-- what a process was told, by whether no log has it
abbrev pub told : Bool → Deed
told true = Chance
told false = Logged

-- a request for a message, by its answer: the message, or nothing yet
abbrev pub receipt : {Mc : Type 0} → Local Mc → Bool → Answer → Deed
receipt l chance (ReceiveFrom s message) = Receives s (l.received s) (not chance)
receipt l chance _ = told chance

-- the line of an event of p; one that is plain and internal has none
abbrev pub event_lines : {Mc : Type 0} → Local Mc → ℕ → Bool → Answer → Event → List Line
event_lines l p chance a AtClock = Does p (told chance) ∷ []
event_lines l p chance a AtRandom = Does p (told chance) ∷ []
event_lines l p chance a AtInput = Does p (told chance) ∷ []
event_lines l p chance a AtReceive = Does p (receipt l chance a) ∷ []
event_lines l p chance a (AtVisible body) = Does p Visible ∷ []
event_lines l p chance a (AtSend q message) = Does p (Sends q (length (l.sent q))) ∷ []
event_lines l p chance a _ = []

-- whether p is told something here that no log has
abbrev pub is_chance_at : {Mc : Type 0} → System Mc → Core → ℕ → Answer → Bool
is_chance_at S c p a = sets_unlogged (rule_at S c p a).log (replays (comes S.guests (stands S.guests c p) a) (c.procs p)) a

-- what a turn of p that was answered a leaves: the commit before, the event, the commit after, each where there is one
abbrev pub turn_lines : {Mc : Type 0} → System Mc → Core → ℕ → Answer → List Line
turn_lines S c p a = commit_lines (rule_at S c p a).before S.guests.count (company S c p a).before
    ++ event_lines (stands S.guests c p) p (is_chance_at S c p a) a (comes S.guests (stands S.guests c p) a)
    ++ commit_lines (rule_at S c p a).after S.guests.count (company S c p a).after

-- what the entry of turn t leaves where nothing stops it: the lines of its turn, if that takes an event
abbrev pub entry_lines : {Mc : Type 0} → System Mc → ℕ → Core → Entry → List Line
entry_lines S t c (Turn turn) = if is_taken (entry_taken S t c (Turn turn)).0 then turn_lines S c turn.p (answer S.guests c turn.p turn.word turn.clock) else []
entry_lines S t c _ = []

-- what acts come to that nothing stopped; the last act first
abbrev pub core_of : {Mc : Type 0} → System Mc → List Given → Core
core_of S [] = opened_core (λ p. true)
core_of S (x ∷ acts) = after_turn S x.t (core_of S acts) x.p x.answer Nowhere

-- the journal of such acts, its first line first
abbrev pub journal_of : {Mc : Type 0} → System Mc → List Given → List Line
journal_of S [] = []
journal_of S (x ∷ acts) = journal_of S acts ++ turn_lines S (core_of S acts) x.p x.answer

-- what a guest sends goes to another guest
abbrev pub IsAddressed : {Mc : Type 0} → Guests Mc → Type 0
IsAddressed G = (p q : ℕ) (message : List ℕ) (answers : List Answer) → G.next (local G p answers).machine ≡ AtSend q message → (q < G.count) × (q ≢ p)
