-- Journals whose lines can follow each other, and what is kept over one.
use Rattle.std.specs.Prelude.{◌≡◌, ◌≢◌, ◌<◌, ◌≤◌, ℕ, suc, Bool, true, List, [], ◌∷◌, ◌++◌, length, Option, if◌then◌else◌}
use Rattle.dc_audit.specs.declared.clock.Known.{Known}
use Rattle.dc_audit.specs.declared.failure.Failure.{Failure}
use Rattle.dc_audit.specs.declared.journal.Deed.TheVariants.{Sends, Receives}
use Rattle.dc_audit.specs.declared.journal.Line.{Line}
use Rattle.dc_audit.specs.declared.journal.Line.TheVariants.{Does, Commits}
use Rattle.dc_audit.specs.Journals.{Judged, marked, sends, takes}
use Rattle.dc_audit.specs.Clocks.{Ledger, Stands, Way, sent_on, way}

-- how many lines pass a test
abbrev pub count : (Line → Bool) → List Line → ℕ
count test [] = 0
count test (x ∷ journal) = if test x then suc (count test journal) else count test journal

-- a line that can come next among n processes: a message has the next number, and what is received was sent and not received yet
abbrev pub IsNext : ℕ → List Line → Line → Type 0
IsNext n done (Does p (Sends q k)) = (p < n) × (q < n) × (q ≢ p) × (k ≡ count (sends p q) done)
IsNext n done (Does p (Receives s k logged)) = (p < n) × (s < n) × (s ≢ p) × (k ≡ count (takes s p) done) × (k < count (sends s p) done)
IsNext n done (Does p _) = p < n
IsNext n done (Commits members) = (length members ≡ 16) × ((p : ℕ) → marked members p ≡ true → p < n)

-- lines that can follow these, one after the other
abbrev pub CanFollow : ℕ → List Line → List Line → Type 0
CanFollow n done [] = Unit {0}
CanFollow n done (x ∷ lines) = IsNext n done x × CanFollow n (done ++ x ∷ []) lines

-- a journal among n processes
abbrev pub IsJournal : ℕ → List Line → Type 0
IsJournal n lines = CanFollow n [] lines

-- a commit is of somebody
abbrev pub HasMembers : Line → Type 0
HasMembers (Commits members) = (p : ℕ) × (marked members p ≡ true)
HasMembers _ = Unit {0}

-- what is kept over a journal: its clocks stand over it, the messages on their way are those that it sent and did not receive, and where it fails first is known
pub record Keeps (causal : Bool) (journal : List Line) (clocks : List (List Known)) (links : List Way) (last : List Known) (failure : Option Failure) : Type 0 where
  pub stands : Stands causal journal clocks links last
  pub judged : Judged causal journal failure
  pub few : (p q : ℕ) → sent_on (way links p q) ≤ length journal
  pub sent : (p q : ℕ) → p < 16 → q < 16 → sent_on (way links p q) ≡ count (sends p q) journal
  pub taken : (p q : ℕ) → p < 16 → q < 16 → (way links p q).taken ≡ count (takes p q) journal

-- what is kept over whatever journal of m lines is kept over that with this line more
abbrev pub KeepsOver : Bool → ℕ → Line → Ledger → Option Failure → Ledger → Option Failure → Type 0
KeepsOver causal m line old failure new found = (length new.clocks ≡ 16) × (length new.links ≡ 256)
    × ((journal : List Line) → length journal ≡ m → Keeps causal journal old.clocks old.links old.last failure → Keeps causal (journal ++ line ∷ []) new.clocks new.links new.last found)
