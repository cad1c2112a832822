-- A journal: what processes did and when they committed. What happens before what, and Save-work. Lines are numbered from 0, the first first.
use Rattle.std.specs.Prelude.{◌≡◌, ◌==◌, ◌&&◌, ◌<◌, ◌⊎◌, ℕ, Bool, true, false, List, Option, Some, None, length, slice_get, slice_index_or}
use Rattle.dc_audit.specs.declared.journal.Deed.TheVariants.{Chance, Visible, Sends, Receives}
use Rattle.dc_audit.specs.declared.failure.Failure.{Failure}
use Rattle.dc_audit.specs.declared.journal.Line.{Line}
use Rattle.dc_audit.specs.declared.journal.Line.TheVariants.{Does, Commits}

-- whether a process is marked
abbrev pub marked : List Bool → ℕ → Bool
marked marks p = slice_index_or marks p false

-- a line stands in the order of p: an event of p, or a commit of p and maybe others
abbrev pub is_of : ℕ → Line → Bool
is_of p (Does q deed) = q == p
is_of p (Commits members) = marked members p

-- a commit, of whomever
abbrev pub is_commit : Line → Bool
is_commit (Commits members) = true
is_commit _ = false

-- a chance: an event whose process was told something that could have come otherwise, and that no log has
abbrev pub is_chance : Line → Bool
is_chance (Does p Chance) = true
is_chance (Does p (Receives s k false)) = true
is_chance _ = false

-- a line of the sixteen processes that there may be
abbrev pub IsOfSixteen : Line → Type 0
IsOfSixteen (Does p deed) = p < 16
IsOfSixteen (Commits members) = length members ≡ 16

-- a firm line, before which nothing unsaved may happen: users saw it, or recovery comes back to it
abbrev pub is_firm : Line → Bool
is_firm (Does p Visible) = true
is_firm (Commits members) = true
is_firm _ = false

-- line i is this one
abbrev pub At : List Line → ℕ → Line → Type 0
At journal i x = slice_get journal i ≡ Some x

-- of two lines, the earlier one leads to the later one: they are of one process; or one sends what the other receives; or, in a causal journal, both are commits
pub data Leads (causal : Bool) (x y : Line) : Type 0 where
  Order : (p : ℕ) → is_of p x ≡ true → is_of p y ≡ true → Leads causal x y
  Message : (p q k : ℕ) (logged : Bool) → x ≡ Does p (Sends q k) → y ≡ Does q (Receives p k logged) → Leads causal x y
  Decision : causal ≡ true → is_commit x ≡ true → is_commit y ≡ true → Leads causal x y

-- happens before: the least transitive relation over these
pub data Before (causal : Bool) (journal : List Line) : ℕ → ℕ → Type 0 where
  Next : {i j : ℕ} (x y : Line) → i < j → At journal i x → At journal j y → Leads causal x y → Before causal journal i j
  Through : {i j : ℕ} (k : ℕ) → Before causal journal i k → Before causal journal k j → Before causal journal i j

-- line i is one of p that passes the test
abbrev pub Is : (Line → Bool) → List Line → ℕ → ℕ → Type 0
Is test journal p i = (x : Line) × At journal i x × (is_of p x ≡ true) × (test x ≡ true)

-- commit c saves event e of p from line x: it is a commit of p after e, and is x or happens before x
abbrev pub Saves : Bool → List Line → ℕ → ℕ → ℕ → ℕ → Type 0
Saves causal journal p e x c = (e < c) × Is is_commit journal p c × ((c ≡ x) ⊎ Before causal journal c x)

-- event e of p matters to line x: it is a chance, x is firm, and e happens before x
pub record Matters (causal : Bool) (journal : List Line) (p e x : ℕ) : Type 0 where
  pub chance : Is is_chance journal p e
  pub line : Line
  pub at : At journal x line
  pub firm : is_firm line ≡ true
  pub before : Before causal journal e x

-- Save-work: wherever an event matters to a line, a commit saves it from there
abbrev pub HasSaveWork : Bool → List Line → Type 0
HasSaveWork causal journal = (p e x : ℕ) → Matters causal journal p e x → (c : ℕ) × Saves causal journal p e x c

-- Save-work fails at event e and line x: e matters to x, and no commit saves it from there
abbrev pub Fails : Bool → List Line → ℕ → ℕ → Type 0
Fails causal journal e x = (p : ℕ) × Matters causal journal p e x × ((c : ℕ) → Saves causal journal p e x c → ⊥)

-- and it fails there first: at no earlier line, and at that line with no earlier event
abbrev pub FailsFirst : Bool → List Line → ℕ → ℕ → Type 0
FailsFirst causal journal e x = Fails causal journal e x × ((d y : ℕ) → y < x → Fails causal journal d y → ⊥) × ((d : ℕ) → d < e → Fails causal journal d x → ⊥)

-- what was found of a journal: it has Save-work, or where it fails first
abbrev pub Judged : Bool → List Line → Option Failure → Type 0
Judged causal journal None = HasSaveWork causal journal
Judged causal journal (Some failure) = FailsFirst causal journal failure.event failure.line

-- a message from p to q is sent
abbrev pub sends : ℕ → ℕ → Line → Bool
sends p q (Does r (Sends s k)) = r == p && s == q
sends p q _ = false

-- a message of p is received by q
abbrev pub takes : ℕ → ℕ → Line → Bool
takes p q (Does r (Receives s k logged)) = s == p && r == q
takes p q _ = false
