-- The report of a text, or its first faulty line.
use Rattle.std.specs.Prelude.{◌≡◌, ◌<◌, ◌≤◌, ℕ, suc, ◌^◌, ◌==◌, ◌&&◌, ◌||◌, Bool, true, not, All, List, [], ◌∷◌, ◌++◌, Result, Ok, Err, codes, bytes_eq, if◌then◌else◌, length, nat_le, nat_lt}
use Rattle.dc_limits.specs.declared.bounds.TheConstants.{ENTRIES}
use Rattle.dc_model.specs.declared.act.Act.{Act}
use Rattle.dc_model.specs.declared.act.Act.TheVariants.{Plain, Clock, Random, InputNone, InputNext, InputEnd, ReceiveNone, ReceiveFrom}
use Rattle.dc_model.specs.declared.act.Taken.{Taken}
use Rattle.dc_words.specs.Numbers.{is_below, is_number, value}
use Rattle.dc_words.specs.Results.{◌>>=◌}
use Rattle.dc_words.specs.Texts.{fields_of}
use Rattle.dc_report.specs.Reports.{report_text}
use Rattle.dc_report.specs.declared.fault.ReportKind.{ReportKind}
use Rattle.dc_report.specs.declared.fault.ReportKind.TheVariants.{Form, Process, Turn, Count, Cut}
use Rattle.dc_report.specs.declared.fault.ReportFault.{ReportFault}

-- what is wrong with a line, in words
abbrev pub kind_text : ReportKind → List ℕ
kind_text Form = codes "form"
kind_text Process = codes "process"
kind_text Turn = codes "turn"
kind_text Count = codes "count"
kind_text Cut = codes "cut"

-- what a report says: the status, how many entries have a mark, the acts, and how many whole lines there were
pub record Report : Type 0 where
  pub status : ℕ
  pub entries : ℕ
  pub acts : List Taken
  pub lines : ℕ

-- the statuses with which a run that was opened may end
abbrev pub is_status : ℕ → Bool
is_status status = status == 0 || status == 1 || status == 7 || status == 8 || status == 12 || status == 15

-- a name with a number below a bound
abbrev pub bounded : (ℕ → Act) → ℕ → List ℕ → Result Act ReportKind
bounded act bound v = if is_below bound v then Ok (act (value v)) else Err Form

-- an act by one field
abbrev pub act_by_one : List ℕ → Result Act ReportKind
act_by_one name = if bytes_eq name (codes "plain") then Ok Plain else Err Form

-- what a guest was told of its input
abbrev pub input_by : List ℕ → Result Act ReportKind
input_by what = if bytes_eq what (codes "none") then Ok InputNone
    else (if bytes_eq what (codes "next") then Ok InputNext else (if bytes_eq what (codes "end") then Ok InputEnd else Err Form))

-- an act by two fields
abbrev pub act_by_two : List ℕ → List ℕ → Result Act ReportKind
act_by_two name what = if bytes_eq name (codes "clock") then bounded Clock (2 ^ 64) what
    else (if bytes_eq name (codes "random") then bounded Random (2 ^ 32) what
    else (if bytes_eq name (codes "input") then input_by what
    else (if bytes_eq name (codes "receive") && bytes_eq what (codes "none") then Ok ReceiveNone else Err Form)))

-- an act by three fields: a message of a process, of any number here
abbrev pub act_by_three : List ℕ → List ℕ → List ℕ → Result Act ReportKind
act_by_three name from s = if bytes_eq name (codes "receive") && (bytes_eq from (codes "from") && is_number s) then Ok (ReceiveFrom (value s)) else Err Form

-- an act by its fields
abbrev pub act_by : List (List ℕ) → Result Act ReportKind
act_by (name ∷ []) = act_by_one name
act_by (name ∷ what ∷ []) = act_by_two name what
act_by (name ∷ from ∷ s ∷ []) = act_by_three name from s
act_by _ = Err Form

-- a sender is below n
abbrev pub has_sender : ℕ → Act → Bool
has_sender n (ReceiveFrom s) = nat_lt s n
has_sender n _ = true

-- an act among n processes, at a turn from `next` on: else the first of the two faults
abbrev pub admitted : ℕ → ℕ → Taken → Result Taken ReportKind
admitted n next x = if nat_lt x.p n && has_sender n x.act
    then (if nat_le next x.t && nat_lt x.t ENTRIES then Ok x else Err Turn) else Err Process

-- the act of a line: its turn, its process and what it was told
abbrev pub taken_by : ℕ → ℕ → List ℕ → List ℕ → List (List ℕ) → Result Taken ReportKind
taken_by n next t p told = if is_number t && is_number p
    then act_by told >>= (λ act. admitted n next (record { t = value t; p = value p; act = act })) else Err Form

-- a halted run, of status 15, took all entries up to the last act's turn: those below `next`
abbrev pub is_past : ℕ → ℕ → ℕ → Bool
is_past status next entries = not (status == 15) || nat_le next entries

-- the report whose last line has these fields, where these acts stand before it, with turns below `next`
abbrev pub closed_by : ℕ → List Taken → List ℕ → List ℕ → List ℕ → List ℕ → Result Report ReportKind
closed_by next acts status entries count lines =
    if is_number status && (is_status (value status) && (is_number entries && (is_number count && is_number lines))) then
    (if value count == length acts && (nat_le (value entries) ENTRIES && (nat_le (value lines) (value entries) && is_past (value status) next (value entries)))
    then Ok (record { status = value status; entries = value entries; acts = acts; lines = value lines }) else Err Count)
    else Err Form

-- a line of a report: an act, or the last one
pub data Line : Type 0 where
  ActLine : (taken : Taken) → Line
  CloseLine : (report : Report) → Line

-- the line that an act is
abbrev pub act_line_of : Taken → Result Line ReportKind
act_line_of x = Ok (ActLine x)

-- the last line, of the report that it closes
abbrev pub close_line_of : Report → Result Line ReportKind
close_line_of report = Ok (CloseLine report)

-- the line of these fields, behind these acts
abbrev pub line_by : ℕ → ℕ → List Taken → List (List ℕ) → Result Line ReportKind
line_by n next acts (name ∷ status ∷ entries ∷ count ∷ lines ∷ []) = if bytes_eq name (codes "close") then closed_by next acts status entries count lines >>= close_line_of
    else (if bytes_eq name (codes "act") then taken_by n next status entries (count ∷ lines ∷ []) >>= act_line_of else Err Form)
line_by n next acts (name ∷ t ∷ p ∷ told) = if bytes_eq name (codes "act") then taken_by n next t p told >>= act_line_of else Err Form
line_by n next acts _ = Err Form

-- the fault of this line, or what comes behind it
abbrev pub line_then : ℕ → Result Line ReportKind → (Taken → Result Report ReportFault) → (Report → Result Report ReportFault) → Result Report ReportFault
line_then number (Err kind) on end = Err (record { line = number; kind = kind })
line_then number (Ok (ActLine x)) on end = on x
line_then number (Ok (CloseLine report)) on end = end report

-- what is left behind the last line: nothing, or a line too many
abbrev pub ends : ℕ → Report → List (List ℕ) → Result Report ReportFault
ends number report ([] ∷ []) = Ok report
ends number report _ = Err (record { line = number; kind = Form })

-- what is left behind the last line feed: nothing, and then the last line is missing, or a line without its line feed
abbrev pub cut_off : ℕ → List ℕ → Result Report ReportFault
cut_off number [] = Err (record { line = number; kind = Cut })
cut_off number _ = Err (record { line = number; kind = Form })

-- the report of lines numbered from this one on, behind these acts; a line and what is behind the last line feed are parts between line feeds
abbrev pub report_from : ℕ → ℕ → ℕ → List Taken → List (List ℕ) → Result Report ReportFault
report_from n number next acts [] = cut_off number []
report_from n number next acts (last ∷ []) = cut_off number last
report_from n number next acts (line ∷ part ∷ parts) = line_then number (line_by n next acts (fields_of 32 line))
    (λ x. report_from n (suc number) (suc x.t) (acts ++ x ∷ []) (part ∷ parts))
    (λ report. ends (suc number) report (part ∷ parts))

-- the report of parts, the first of which is its name
abbrev pub report_by : ℕ → List (List ℕ) → Result Report ReportFault
report_by n [] = cut_off 1 []
report_by n (last ∷ []) = cut_off 1 last
report_by n (name ∷ part ∷ parts) = if bytes_eq name (codes "dc-report 1") then report_from n 2 0 [] (part ∷ parts) else Err (record { line = 1; kind = Form })

-- the report of a text, among n processes
abbrev pub report_of : ℕ → List ℕ → Result Report ReportFault
report_of n text = report_by n (fields_of 10 text)

-- an act's number is one of its type, and its sender is below n
abbrev pub IsAct : ℕ → Act → Type 0
IsAct n (Clock v) = v < 2 ^ 64
IsAct n (Random v) = v < 2 ^ 32
IsAct n (ReceiveFrom s) = s < n
IsAct n _ = Unit {0}

-- acts among n processes whose turns rise from `next` on
abbrev pub AreActs : ℕ → ℕ → List Taken → Type 0
AreActs n next [] = Unit {0}
AreActs n next (x ∷ acts) = (x.p < n) × IsAct n x.act × (next ≤ x.t) × (x.t < ENTRIES) × AreActs n (suc x.t) acts

-- a report among n processes; that of a halted run has marks of the entries of all its acts
pub record IsReport (n : ℕ) (report : Report) : Type 0 where
  pub status : is_status report.status ≡ true
  pub acts : AreActs n 0 report.acts
  pub entries : report.entries ≤ ENTRIES
  pub lines : report.lines ≤ report.entries
  pub halted : report.status ≡ 15 → All (λ x. x.t < report.entries) report.acts

-- the text of a report
abbrev pub text_of_report : Report → List ℕ
text_of_report report = report_text report.status report.entries report.acts report.lines
