-- The journal of a text, or its first faulty line.
use Rattle.std.specs.Prelude.{◌≡◌, ◌==◌, ◌<◌, ◌+◌, ◌^◌, ◌-◌, ◌&&◌, ℕ, suc, Bool, true, false, not, List, [], ◌∷◌, ◌++◌, Option, Some, None, Result, Ok, Err, codes, bytes_eq, if◌then◌else◌, length, min, nat_le, nat_lt, option_map, replicate, slice_set}
use Rattle.std.specs.List.{list_all}
use Rattle.dc_words.specs.Numbers.{is_number, value}
use Rattle.dc_words.specs.Results.{◌>>=◌}
use Rattle.dc_words.specs.Texts.{fields_of}
use Rattle.dc_audit.specs.declared.failure.Failure.{Failure}
use Rattle.dc_audit.specs.declared.fault.AuditError.{AuditError}
use Rattle.dc_audit.specs.declared.fault.AuditError.TheVariants.{Memory, Refused}
use Rattle.dc_audit.specs.declared.said.Said.{Said}
use Rattle.dc_audit.specs.declared.said.Said.TheVariants.{End, Says}
use Rattle.dc_audit.specs.declared.verdict.Verdict.{Verdict}
use Rattle.dc_audit.specs.declared.verdict.Verdict.TheVariants.{Saved, NotSaved}
use Rattle.dc_audit.specs.declared.fault.AuditFault.{AuditFault}
use Rattle.dc_audit.specs.declared.fault.AuditKind.{AuditKind}
use Rattle.dc_audit.specs.declared.fault.AuditKind.TheVariants.{TooMany, Form, Process, Number, Unsent, Cut}
use Rattle.dc_audit.specs.declared.journal.Deed.{Deed}
use Rattle.dc_audit.specs.declared.journal.Deed.TheVariants.{Chance, Logged, Visible, Sends, Receives}
use Rattle.dc_audit.specs.declared.journal.Line.{Line}
use Rattle.dc_audit.specs.declared.journal.Line.TheVariants.{Does, Commits}
use Rattle.dc_audit.specs.Journals.{FailsFirst, HasSaveWork, Judged, sends, takes}
use Rattle.dc_audit.specs.Clocks.{Way, sent_on, way}
use Rattle.dc_audit.specs.Keeping.{count}

-- what is wrong with a line, in words
abbrev pub kind_text : AuditKind → List ℕ
kind_text TooMany = codes "too many"
kind_text Form = codes "form"
kind_text Process = codes "process"
kind_text Number = codes "number"
kind_text Unsent = codes "unsent"
kind_text Cut = codes "cut"

-- a number; those from 2^32 - 1 on count as that one, which is no process and no message's
abbrev pub capped : List ℕ → Option ℕ
capped text = if is_number text then Some (min (value text) (2 ^ 32 - 1)) else None

-- what is made of two numbers, where both are there
abbrev pub of_two : (ℕ → ℕ → Deed) → Option ℕ → Option ℕ → Option Deed
of_two make (Some a) (Some b) = Some (make a b)
of_two make _ _ = None

-- whether a receipt was logged
abbrev pub logging_of : List ℕ → Option Bool
logging_of text = if bytes_eq text (codes "nd") then Some false else (if bytes_eq text (codes "logged") then Some true else None)

-- a receipt of a message, by its sender, its number and whether it was logged
abbrev pub receipt_of : Option ℕ → Option ℕ → Option Bool → Option Deed
receipt_of (Some s) (Some k) (Some logged) = Some (Receives s k logged)
receipt_of _ _ _ = None

-- what a process did, by the one field that says it
abbrev pub deed_of_one : List ℕ → Option Deed
deed_of_one text = if bytes_eq text (codes "nd") then Some Chance else (if bytes_eq text (codes "logged") then Some Logged else (if bytes_eq text (codes "visible") then Some Visible else None))

-- the same by three fields
abbrev pub deed_of_three : List ℕ → List ℕ → List ℕ → Option Deed
deed_of_three name q k = if bytes_eq name (codes "send") then of_two Sends (capped q) (capped k) else None

-- the same by four
abbrev pub deed_of_four : List ℕ → List ℕ → List ℕ → List ℕ → Option Deed
deed_of_four name s k how = if bytes_eq name (codes "receive") then receipt_of (capped s) (capped k) (logging_of how) else None

-- what a process did, by the fields behind its number
abbrev pub deed_of : List (List ℕ) → Option Deed
deed_of (name ∷ []) = deed_of_one name
deed_of (name ∷ q ∷ k ∷ []) = deed_of_three name q k
deed_of (name ∷ s ∷ k ∷ how ∷ []) = deed_of_four name s k how
deed_of _ = None

-- a number in front of those that rise behind it, if it is not below this one
abbrev pub rising_then : ℕ → Option ℕ → (ℕ → Option (List ℕ)) → Option (List ℕ)
rising_then low None rest = None
rising_then low (Some p) rest = if nat_le low p then option_map (λ ps. p ∷ ps) (rest p) else None

-- numbers from this one on that rise
abbrev pub rising : ℕ → List (List ℕ) → Option (List ℕ)
rising low [] = Some []
rising low (part ∷ parts) = rising_then low (capped part) (λ p. rising (suc p) parts)

-- these processes marked too
abbrev pub marks_at : List ℕ → List Bool → List Bool
marks_at [] marks = marks
marks_at (p ∷ ps) marks = marks_at ps (slice_set marks p true)

-- the commit of processes below n
abbrev pub commit_of : ℕ → Option (List ℕ) → Result Said AuditKind
commit_of n None = Err Form
commit_of n (Some ps) = if list_all (λ p. nat_lt p n) ps then Ok (Says (Commits (marks_at ps (replicate 16 false)))) else Err Process

-- the same where some of its processes were marked before, or one was not below n
abbrev pub commit_left : ℕ → List Bool → Bool → Option (List ℕ) → Result Said AuditKind
commit_left n marks outside None = Err Form
commit_left n marks outside (Some ps) = if not outside && list_all (λ p. nat_lt p n) ps then Ok (Says (Commits (marks_at ps marks))) else Err Process

-- what is left decides, from this number on, unless the form is wrong
abbrev pub left_or : Option ℕ → (ℕ → Result Said AuditKind) → Result Said AuditKind
left_or None rest = Err Form
left_or (Some low) rest = rest low

-- what was read of a list of processes: those that are there are marked, and whether one was not
pub record Listed : Type 0 where
  pub marks : List Bool
  pub outside : Bool

-- the marks and whether one was outside, as one
abbrev pub listed : List Bool → Bool → Listed
listed marks outside = record { marks = marks; outside = outside }

-- a part of a list of processes is read, of those from this number on
abbrev pub Marks : ℕ → ℕ → List ℕ → Listed → Option ℕ → Listed → Type 0
Marks n low part old result new = (parts : List (List ℕ)) → commit_left n old.marks old.outside (rising low (part ∷ parts)) ≡ left_or result (λ next. commit_left n new.marks new.outside (rising next parts))

-- the messages on their way are those of these lines
abbrev pub Agrees : List Way → List Line → Type 0
Agrees links done = (p q : ℕ) → p < 16 → q < 16 → (sent_on (way links p q) ≡ count (sends p q) done) × ((way links p q).taken ≡ count (takes p q) done)

-- an event, where its process and what it did can be read
abbrev pub event_of : Option ℕ → Option Deed → Result Said AuditKind
event_of (Some p) (Some deed) = Ok (Says (Does p deed))
event_of _ _ = Err Form

-- what the fields of a line say
abbrev pub said_by : ℕ → List (List ℕ) → Result Said AuditKind
said_by n (name ∷ []) = if bytes_eq name (codes "end") then Ok End else Err Form
said_by n (name ∷ list ∷ []) = if bytes_eq name (codes "commit") then commit_of n (rising 0 (fields_of 44 list)) else Err Form
said_by n (name ∷ p ∷ did ∷ more) = if bytes_eq name (codes "e") then event_of (capped p) (deed_of (did ∷ more)) else Err Form
said_by n _ = Err Form

-- a process among n
abbrev pub alone : ℕ → ℕ → Result (Unit {0}) AuditKind
alone n p = if nat_lt p n then Ok tt else Err Process

-- two processes among n, not the same
abbrev pub are_two : ℕ → ℕ → ℕ → Bool
are_two n p q = nat_lt p n && (nat_lt q n && not (q == p))

-- a line that can come next, or the first of its faults that are not of form
abbrev pub checked : ℕ → List Line → Said → Result Said AuditKind
checked n done End = Ok End
checked n done (Says (Does p (Sends q k))) = if are_two n p q then (if k == count (sends p q) done then Ok (Says (Does p (Sends q k))) else Err Number) else Err Process
checked n done (Says (Does p (Receives s k logged))) = if are_two n p s then (if k == count (takes s p) done && nat_lt k (count (sends s p) done) then Ok (Says (Does p (Receives s k logged))) else Err Unsent) else Err Process
checked n done (Says (Does p deed)) = if nat_lt p n then Ok (Says (Does p deed)) else Err Process
checked n done (Says (Commits members)) = Ok (Says (Commits members))

-- the line of a text behind these
abbrev pub line_by : ℕ → List Line → List ℕ → Result Said AuditKind
line_by n done text = said_by n (fields_of 32 text) >>= checked n done

-- a commit says of each of sixteen processes whether it takes part
abbrev pub SaysSixteen : Said → Type 0
SaysSixteen (Says (Commits members)) = length members ≡ 16
SaysSixteen _ = Unit {0}

-- a line, where it is not refused
abbrev pub kept : Said → Result (Unit {0}) AuditKind → Result Said AuditKind
kept said (Ok u) = Ok said
kept said (Err kind) = Err kind

-- what a line is checked to be, behind whatever lines these messages are of
abbrev pub Checks : ℕ → List Way → Said → Result Said AuditKind → Type 0
Checks n links said result = (done : List Line) → Agrees links done → result ≡ checked n done said

-- and what its text is read to be
abbrev pub ReadsLine : ℕ → List Way → List ℕ → Result Said AuditKind → Type 0
ReadsLine n links text result = (done : List Line) → Agrees links done → result ≡ line_by n done text

-- what a journal says
pub record Journal : Type 0 where
  pub n : ℕ
  pub causal : Bool
  pub lines : List Line

-- a line too many comes before every other fault
abbrev pub fault_at : ℕ → AuditKind → Result (List Line) AuditFault
fault_at number kind = Err (record { line = number; kind = if nat_lt 4000000 number then TooMany else kind })

-- what is left behind the last line feed: nothing, and then the last line is missing, or a line without its line feed
abbrev pub cut_off : ℕ → List ℕ → Result (List Line) AuditFault
cut_off number [] = Err (record { line = number; kind = Cut })
cut_off number _ = fault_at number Form

-- what is left behind the last line: nothing, or a line too many
abbrev pub ends : ℕ → List Line → List (List ℕ) → Result (List Line) AuditFault
ends number done ([] ∷ []) = Ok done
ends number done _ = fault_at number Form

-- what a line leads to
abbrev pub line_then : ℕ → Result Said AuditKind → (Line → Result (List Line) AuditFault) → Result (List Line) AuditFault → Result (List Line) AuditFault
line_then number (Err kind) on end = Err (record { line = number; kind = kind })
line_then number (Ok End) on end = end
line_then number (Ok (Says line)) on end = on line

-- the lines numbered from this one on, behind these
abbrev pub lines_from : ℕ → ℕ → List Line → List (List ℕ) → Result (List Line) AuditFault
lines_from n number done [] = cut_off number []
lines_from n number done (last ∷ []) = cut_off number last
lines_from n number done (text ∷ part ∷ parts) = if nat_lt 4000000 number then Err (record { line = number; kind = TooMany })
    else line_then number (line_by n done text) (λ line. lines_from n (suc number) (done ++ line ∷ []) (part ∷ parts)) (ends (suc number) done (part ∷ parts))

-- how many processes, and whether the journal is causal, by the last two fields of the first line
abbrev pub heading_of : Option ℕ → List ℕ → Option (ℕ × Bool)
heading_of None form = None
heading_of (Some n) form = if nat_lt 0 n && nat_lt n 17 then (if bytes_eq form (codes "plain") then Some (n, false) else (if bytes_eq form (codes "causal") then Some (n, true) else None)) else None

-- the same by all its fields
abbrev pub heading_by : List (List ℕ) → Option (ℕ × Bool)
heading_by (name ∷ version ∷ n ∷ form ∷ []) = if bytes_eq name (codes "dc-journal") && bytes_eq version (codes "1") then heading_of (capped n) form else None
heading_by _ = None

-- a journal of these lines
abbrev pub journal_with : ℕ → Bool → Result (List Line) AuditFault → Result Journal AuditFault
journal_with n causal (Ok lines) = Ok (record { n = n; causal = causal; lines = lines })
journal_with n causal (Err fault) = Err fault

-- the journal with this heading
abbrev pub journal_then : Option (ℕ × Bool) → List (List ℕ) → Result Journal AuditFault
journal_then None parts = Err (record { line = 1; kind = Form })
journal_then (Some h) parts = journal_with h.0 h.1 (lines_from h.0 2 [] parts)

-- the journal of parts, the first of which is its heading
abbrev pub journal_by : List (List ℕ) → Result Journal AuditFault
journal_by [] = journal_with 1 false (cut_off 1 [])
journal_by (last ∷ []) = journal_with 1 false (cut_off 1 last)
journal_by (first ∷ part ∷ parts) = journal_then (heading_by (fields_of 32 first)) (part ∷ parts)

-- the journal of a text
abbrev pub journal_of : List ℕ → Result Journal AuditFault
journal_of text = journal_by (fields_of 10 text)

-- an event, not a commit
abbrev pub is_event : Line → Bool
is_event (Does p deed) = true
is_event (Commits members) = false

-- what the verdict says of a journal, whose first line is line 2 of its text
abbrev pub IsVerdict : Journal → Verdict → Type 0
IsVerdict journal (Saved events) = HasSaveWork journal.causal journal.lines × (events ≡ count is_event journal.lines)
IsVerdict journal (NotSaved e x) = (event : ℕ) × (line : ℕ) × (e ≡ event + 2) × (x ≡ line + 2) × FailsFirst journal.causal journal.lines event line

-- what an audit answers, by what its text says: a verdict that is true of the journal, or its first faulty line; of want of memory nothing is said
abbrev pub Audits : Result Verdict AuditError → Result Journal AuditFault → Type 0
Audits (Ok verdict) (Ok journal) = IsVerdict journal verdict
Audits (Err (Refused fault)) said = said ≡ Err fault
Audits (Err Memory) said = Unit {0}
Audits _ _ = ⊥

-- the same of what its lines say, whatever its heading
abbrev pub Judges : Result Verdict AuditError → Result (List Line) AuditFault → Type 0
Judges result said = (n : ℕ) (causal : Bool) → Audits result (journal_with n causal said)

-- a verdict by where a journal fails first and how many events it has
abbrev pub Tells : Option Failure → ℕ → Verdict → Type 0
Tells failure events verdict = (n : ℕ) (causal : Bool) (lines : List Line) → Judged causal lines failure → events ≡ count is_event lines → IsVerdict (record { n = n; causal = causal; lines = lines }) verdict

-- what comes of the text behind the end of these lines
abbrev pub Closes : ℕ → List ℕ → Option Failure → ℕ → Result Verdict AuditError → Type 0
Closes number after failure events result = (n : ℕ) (causal : Bool) (done : List Line) → Judged causal done failure → events ≡ count is_event done → Audits result (journal_with n causal (ends number done (fields_of 10 after)))

-- how many events a line is
abbrev pub events_of : Line → ℕ
events_of (Does p deed) = 1
events_of (Commits members) = 0
