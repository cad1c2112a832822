-- What a clock says of a journal.
use Rattle.std.specs.Prelude.{[], ◌∷◌, ◌++◌, drop, slice_set, ◌+◌, ◌*◌, slice_index_or, Option, Some, None, ◌≡◌, ◌<◌, ◌≤◌, ◌⊎◌, ℕ, suc, Bool, true, false, List, length, if◌then◌else◌, nat_lt}
use Rattle.dc_audit.specs.declared.clock.Known.{Known}
use Rattle.dc_audit.specs.declared.journal.Line.{Line}
use Rattle.dc_audit.specs.declared.journal.Line.TheVariants.{Does}
use Rattle.dc_audit.specs.declared.journal.Deed.TheVariants.{Sends, Receives}
use Rattle.dc_audit.specs.declared.failure.Failure.{Failure}
use Rattle.dc_audit.specs.Journals.{Judged, At, Before, Is, is_chance, is_commit, is_of, marked}

-- what is known of p's lines, whatever is known of others
pub record Sound (journal : List Line) (p : ℕ) (known : Known) : Type 0 where
  pub within : known.end ≤ length journal
  pub order : known.clear ≤ known.end
  pub saved : (e : ℕ) → Is is_chance journal p e → e < known.clear → (c : ℕ) × (e < c) × (c < known.end) × Is is_commit journal p c
  pub chance : known.clear < known.end → Is is_chance journal p known.clear
  pub unsaved : known.clear < known.end → (c : ℕ) → Is is_commit journal p c → known.clear < c → c < known.end → ⊥

-- line i is one of p's
abbrev pub IsOf : List Line → ℕ → ℕ → Type 0
IsOf journal p i = (x : Line) × At journal i x × (is_of p x ≡ true)

-- a clock knows exactly the lines that pass: of each process those before its `end`
pub record IsClock (journal : List Line) (Passes : ℕ → Type 0) (clock : ℕ → Known) : Type 0 where
  pub sound : (p : ℕ) → Sound journal p (clock p)
  pub knows : (p i : ℕ) → IsOf journal p i → i < (clock p).end → Passes i
  pub only : (p i : ℕ) → IsOf journal p i → Passes i → i < (clock p).end

-- line i is line k, or happens before it
abbrev pub UpTo : Bool → List Line → ℕ → ℕ → Type 0
UpTo causal journal i k = (i ≡ k) ⊎ Before causal journal i k

-- line i is a line of p or happens before one
abbrev pub Reached : Bool → List Line → ℕ → ℕ → Type 0
Reached causal journal p i = (k : ℕ) × IsOf journal p k × UpTo causal journal i k

-- line i is the sending of message k from p to q, or happens before it
abbrev pub Carried : Bool → List Line → ℕ → ℕ → ℕ → ℕ → Type 0
Carried causal journal p q k i = (s : ℕ) × At journal s (Does p (Sends q k)) × UpTo causal journal i s

-- line i is a commit or happens before one
abbrev pub Decided : Bool → List Line → ℕ → Type 0
Decided causal journal i = (k : ℕ) × (x : Line) × At journal k x × (is_commit x ≡ true) × UpTo causal journal i k

-- nothing is known
abbrev pub nothing : Known
nothing = record { end = 0; clear = 0 }

-- of two things that are known of one process, the one that knows more
abbrev pub later : Known → Known → Known
later a b = if nat_lt a.end b.end then b else a

-- how far all is saved after line m of the process: is it a commit, was something unsaved before, is it a chance
abbrev pub clear_after : Bool → Bool → Bool → ℕ → ℕ → ℕ
clear_after true some chance m clear = suc m
clear_after false true chance m clear = clear
clear_after false false true m clear = m
clear_after false false false m clear = suc m

-- what is known of a process after line m of it, where all its lines before were known
abbrev pub raised : ℕ → Line → Known → Known
raised m y known = record { end = suc m; clear = clear_after (is_commit y) (nat_lt known.clear known.end) (is_chance y) m known.clear }

-- what is known at a line m, where this was known of what happens before it
abbrev pub known_at : ℕ → Line → (ℕ → Known) → ℕ → Known
known_at m y past p = if is_of p y then raised m y (past p) else past p

-- line i happens before a line y that comes next
abbrev pub Earlier : Bool → List Line → Line → ℕ → Type 0
Earlier causal journal y i = Before causal (journal ++ y ∷ []) i (length journal)

-- line i is a line y that comes next, or happens before it
abbrev pub UpToNext : Bool → List Line → Line → ℕ → Type 0
UpToNext causal journal y i = UpTo causal (journal ++ y ∷ []) i (length journal)

-- what happens before a commit of these members
abbrev pub Gathered : Bool → List Line → List Bool → ℕ → Type 0
Gathered causal journal members i = ((q : ℕ) × (marked members q ≡ true) × Reached causal journal q i) ⊎ ((causal ≡ true) × Decided causal journal i)

-- something is known that is not saved
abbrev pub IsOpen : Known → Type 0
IsOpen known = known.clear < known.end

-- the first event that a clock knows of the first n processes as unsaved, if there is one
abbrev pub IsFirstOpen : ℕ → (ℕ → Known) → Option ℕ → Type 0
IsFirstOpen n clock None = (p : ℕ) → p < n → IsOpen (clock p) → ⊥
IsFirstOpen n clock (Some e) = ((p : ℕ) × IsOpen (clock p) × ((clock p).clear ≡ e)) × ((p : ℕ) → p < n → IsOpen (clock p) → e ≤ (clock p).clear)

-- a clock as a list: of processes past its end nothing is known
abbrev pub view : List Known → ℕ → Known
view clock p = slice_index_or clock p nothing

-- and each of several
abbrev pub view_of : List (List Known) → ℕ → ℕ → Known
view_of clocks p = view (slice_index_or clocks p [])

-- what happens before a commit, of its members among the first n processes and the last commit
abbrev pub GatheredBelow : ℕ → Bool → List Line → List Bool → ℕ → Type 0
GatheredBelow n causal journal members i = ((q : ℕ) × (q < n) × (marked members q ≡ true) × Reached causal journal q i) ⊎ ((causal ≡ true) × Decided causal journal i)

-- a clock that knows what happens before a commit of these members, wherever these clocks stand
abbrev pub Gathers : ℕ → List (List Known) → List Bool → List Known → List Known → Type 0
Gathers n clocks members start past = (causal : Bool) (journal : List Line) → IsClock journal (λ i. (causal ≡ true) × Decided causal journal i) (view start)
    → ((p : ℕ) → IsClock journal (Reached causal journal p) (view_of clocks p)) → IsClock journal (GatheredBelow n causal journal members) (view past)

-- the lesser of two lines, the first of which may be missing
abbrev pub lesser : Option ℕ → ℕ → ℕ
lesser None line = line
lesser (Some first) line = if nat_lt first line then first else line

-- the messages on their way from one process to another: how many were taken before them, and the clock of each one's sending, the first first
pub record Way : Type 0 where
  pub taken : ℕ
  pub waiting : List (List Known)

-- no messages yet
abbrev pub no_way : Way
no_way = record { taken = 0; waiting = [] }

-- the messages from p to q
abbrev pub way : List Way → ℕ → ℕ → Way
way links p q = slice_index_or links (16 * p + q) no_way

-- the number of the next one that p sends to q
abbrev pub sent_on : Way → ℕ
sent_on w = w.taken + length w.waiting

-- with one message more
abbrev pub with_sent : List Known → Way → Way
with_sent clock w = record { taken = w.taken; waiting = w.waiting ++ clock ∷ [] }

-- without the first
abbrev pub with_taken : Way → Way
with_taken w = record { taken = w.taken + 1; waiting = drop 1 w.waiting }

-- after a line: a message that it receives is taken
abbrev pub links_taken : Line → List Way → List Way
links_taken (Does p (Receives s k logged)) links = slice_set links (16 * s + p) (with_taken (way links s p))
links_taken _ links = links

-- and one that it sends has its clock
abbrev pub links_sent : Line → List Known → List Way → List Way
links_sent (Does p (Sends q k)) clock links = slice_set links (16 * p + q) (with_sent clock (way links p q))
links_sent _ clock links = links

-- a line that can come next: its message has the next number, and a message that it receives is on its way
abbrev pub IsDue : List Way → Line → Type 0
IsDue links (Does p (Sends q k)) = (q < 16) × (k ≡ sent_on (way links p q))
IsDue links (Does p (Receives s k logged)) = (s < 16) × (k ≡ (way links s p).taken) × (0 < length (way links s p).waiting)
IsDue links _ = Unit {0}

-- clocks over a journal: of each process what happened up to its last line, of each message on its way what happened up to its sending, and in a causal journal what
-- happened up to its last commit
pub record Stands (causal : Bool) (journal : List Line) (clocks : List (List Known)) (links : List Way) (last : List Known) : Type 0 where
  pub processes : (p : ℕ) → IsClock journal (Reached causal journal p) (view_of clocks p)
  pub messages : (p q j : ℕ) → p < 16 → q < 16 → j < length (way links p q).waiting → IsClock journal (Carried causal journal p q ((way links p q).taken + j)) (view_of (way links p q).waiting j)
  pub commits : causal ≡ true → IsClock journal (Decided causal journal) (view last)

-- such clocks, of the processes, the messages and the last commit
pub record Ledger : Type 0 where
  pub clocks : List (List Known)
  pub links : List Way
  pub last : List Known

-- the clocks, the messages on their way and the last commit's clock, as one
abbrev pub ledger : List (List Known) → List Way → List Known → Ledger
ledger clocks links last = record { clocks = clocks; links = links; last = last }

-- the clocks of processes after a line with this clock
abbrev pub IsNoted : Line → List Known → List (List Known) → List (List Known) → Type 0
IsNoted line clock old new = (p : ℕ) → slice_index_or new p [] ≡ (if is_of p line then clock else slice_index_or old p [])

-- a clock that knows what happens before a line, over whatever journal these clocks stand
abbrev pub KnowsPast : Bool → List (List Known) → List Way → List Known → Line → List Known → Type 0
KnowsPast causal clocks links last line past = (journal : List Line) → Stands causal journal clocks links last → IsClock journal (Earlier causal journal line) (view past)

-- what is found after line m with this clock, where this was found before it
abbrev pub JudgesNext : ℕ → Line → List Known → Option Failure → Option Failure → Type 0
JudgesNext m line clock failure result = (causal : Bool) (journal : List Line) → length journal ≡ m → length clock ≡ 16 → IsClock (journal ++ line ∷ []) (UpToNext causal journal line) (view clock)
    → Judged causal journal failure → Judged causal (journal ++ line ∷ []) result

-- the same of an event, whatever was decided
abbrev pub KnowsEvent : List (List Known) → List Way → Line → List Known → Type 0
KnowsEvent clocks links line past = (causal : Bool) (last : List Known) → KnowsPast causal clocks links last line past

-- a message that a line sends is to one of the sixteen processes
abbrev pub IsTo : Line → Type 0
IsTo (Does p (Sends q k)) = q < 16
IsTo _ = Unit {0}

-- clocks are carried over line m: over whatever journal they stood, they stand over that with this line more, and this is the line's clock
abbrev pub Advances : Bool → ℕ → Line → Ledger → Ledger → List Known → Type 0
Advances causal m line old new clock = (journal : List Line) → length journal ≡ m → Stands causal journal old.clocks old.links old.last
    → Stands causal (journal ++ line ∷ []) new.clocks new.links new.last × IsClock (journal ++ line ∷ []) (UpToNext causal journal line) (view clock)
