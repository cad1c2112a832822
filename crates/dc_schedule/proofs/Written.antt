-- What is read is a schedule, and its text is the one that was read.
use Rattle.std.proofs.Common.{◌≡◌, ◌∙◌, ◌+◌, ◌^◌, ◌<◌, ◌≤◌, ◌&&◌, ◌⊎◌, inl, inr, ℕ, suc, Bool, true, false, List, [], ◌∷◌, ◌++◌, All, length, Result, Ok, Err, IfOk, Vec, bytes_eq, codes, ap, sym, subst, refl, arith, if◌then◌else◌, nat_lt, append_assoc}
use Rattle.std.specs.declared.alloc.Global.{Global}
use Rattle.std.proofs.lemmas.Bool.{and_parts, ltb-true, ltb-false}
use Rattle.std.proofs.lemmas.List.Elements.{All-nil, All-cons}
use Rattle.std.proofs.lemmas.Slice.Eq.{bytes_eq-Decides}
use Rattle.dc_model.specs.declared.entry.Entry.{Entry}
use Rattle.dc_model.specs.declared.entry.Entry.TheVariants.{Turn, Stop, Power}
use Rattle.dc_words.specs.Numbers.{is_below, is_number, value}
use Rattle.dc_words.specs.Texts.{ended, fields_of, joined, lines_of}
use Rattle.dc_words.proofs.Joining.{fields_joined, lines_ended}
use Rattle.dc_words.proofs.Reading.{is_below_parts, value_writes}
use Rattle.dc_schedule.specs.Entries.{AreEntries, IsEntry, IsSchedule, IsTurn, clock_after, entry_text, schedule_text}
use Rattle.dc_schedule.specs.Schedules.{Reads, entry_by, entry_of, entry_then, power_of, schedule_from, stop_of, turn_of, turns_of, with_front}
use Rattle.dc_schedule.specs.declared.fault.ReadError.{ReadError}
use Rattle.dc_schedule.specs.declared.fault.ScheduleFault.{ScheduleFault}
use Rattle.dc_schedule.specs.declared.fault.ScheduleKind.{ScheduleKind}
use Rattle.dc_schedule.specs.declared.fault.ScheduleKind.TheVariants.{Form, Process, ClockFell, TooMany}

-- an entry of fields, by the tests that it passed
turn_tests : (f b k : Bool) (entry made : Entry) → ◌≡◌ {A = Result Entry ScheduleKind} (if f then (if b then (if k then Err ClockFell else Ok made) else Err Process) else Err Form) (Ok entry)
    → (f ≡ true) × (b ≡ true) × (k ≡ false) × (made ≡ entry)
turn_tests true true true entry made e = absurd (let never : ⊥ = cc in never)
turn_tests true true false entry made e = (refl, refl, refl, cc)
turn_tests true false k entry made e = absurd (let never : ⊥ = cc in never)
turn_tests false b k entry made e = absurd (let never : ⊥ = cc in never)

stop_tests : (f b : Bool) (entry made : Entry) → ◌≡◌ {A = Result Entry ScheduleKind} (if f then (if b then Ok made else Err Process) else Err Form) (Ok entry)
    → (f ≡ true) × (b ≡ true) × (made ≡ entry)
stop_tests true true entry made e = (refl, refl, cc)
stop_tests true false entry made e = absurd (let never : ⊥ = cc in never)
stop_tests false b entry made e = absurd (let never : ⊥ = cc in never)

power_tests : (f : Bool) (entry made : Entry) → ◌≡◌ {A = Result Entry ScheduleKind} (if f then Ok made else Err Form) (Ok entry) → (f ≡ true) × (made ≡ entry)
power_tests true entry made e = (refl, cc)
power_tests false entry made e = absurd (let never : ⊥ = cc in never)

-- an entry that fits, and its line
pub record Stands (n last : ℕ) (line : List ℕ) (entry : Entry) : Type 0 where
  pub fits : IsEntry n last entry
  pub written : n < 2 ^ 64 → line ++ 10 ∷ [] ≡ entry_text entry

-- three fields, grouped from the front
pub three_grouped : (p word clock : List ℕ) → p ++ 32 ∷ (word ++ 32 ∷ clock) ≡ p ++ codes " " ++ word ++ codes " " ++ clock
three_grouped p word clock = sym (append_assoc (p ++ codes " " ++ word) (codes " ") clock ∙ append_assoc (p ++ codes " ") word (32 ∷ clock) ∙ append_assoc p (codes " ") (word ++ 32 ∷ clock))

-- a turn
turn_stands : (n last : ℕ) (p word clock : List ℕ) (entry : Entry) → turn_of n last p word clock ≡ Ok entry → Stands n last (joined 32 (p ∷ word ∷ clock ∷ [])) entry
turn_stands n last p word clock entry e =
    let tests = turn_tests (is_number p && (is_below (2 ^ 32) word && is_below (2 ^ 64) clock)) (nat_lt (value p) n) (nat_lt (value clock) last) entry _ e in
    let forms = and_parts (is_number p) (is_below (2 ^ 32) word && is_below (2 ^ 64) clock) tests.0 in
    let bounds = and_parts (is_below (2 ^ 32) word) (is_below (2 ^ 64) clock) forms.1 in
    let w = is_below_parts (2 ^ 32) word bounds.0 in
    let k = is_below_parts (2 ^ 64) clock bounds.1 in
    let below = ltb-true (value p) n tests.1 in
    let text : n < 2 ^ 64 → joined 32 (p ∷ word ∷ clock ∷ []) ++ 10 ∷ [] ≡ entry_text (Turn (record { p = value p; word = value word; clock = value clock })) = λ small.
    rw (value_writes p forms.0 (omega (arith, below, small)), value_writes word w.0 (omega (arith, w.1)), value_writes clock k.0 k.1) (ap (λ xs. xs ++ 10 ∷ []) (three_grouped p word clock)) in
    subst (Stands n last (joined 32 (p ∷ word ∷ clock ∷ []))) tests.3 (record { fits = (below, w.1, k.1, ltb-false (value clock) last tests.2); written = text })

-- a stop
stop_stands : (n last : ℕ) (name p : List ℕ) (entry : Entry) → stop_of n name p ≡ Ok entry → Stands n last (joined 32 (name ∷ p ∷ [])) entry
stop_stands n last name p entry e =
    let tests = stop_tests (bytes_eq name (codes "stop") && is_number p) (nat_lt (value p) n) entry _ e in
    let forms = and_parts (bytes_eq name (codes "stop")) (is_number p) tests.0 in
    let below = ltb-true (value p) n tests.1 in
    let text : n < 2 ^ 64 → joined 32 (name ∷ p ∷ []) ++ 10 ∷ [] ≡ entry_text (Stop (value p)) = λ small.
    ap (λ xs. (xs ++ 32 ∷ p) ++ 10 ∷ []) ((bytes_eq-Decides name (codes "stop")).0 forms.0)
    ∙ ap (λ xs. codes "stop " ++ xs ++ 10 ∷ []) (sym (value_writes p forms.1 (omega (arith, below, small)))) in
    subst (Stands n last (joined 32 (name ∷ p ∷ []))) tests.2 (record { fits = below; written = text })

-- a failure of the power
power_stands : (n last : ℕ) (name : List ℕ) (entry : Entry) → power_of name ≡ Ok entry → Stands n last name entry
power_stands n last name entry e =
    let tests = power_tests (bytes_eq name (codes "power")) entry Power e in
    let text : n < 2 ^ 64 → name ++ 10 ∷ [] ≡ entry_text Power = λ small. ap (λ xs. xs ++ 10 ∷ []) ((bytes_eq-Decides name (codes "power")).0 tests.0) in
    subst (Stands n last name) tests.1 (record { fits = tt; written = text })

fields_stand : (stops : Bool) (n last : ℕ) (fields : List (List ℕ)) (entry : Entry) → entry_by stops n last fields ≡ Ok entry → Stands n last (joined 32 fields) entry
fields_stand stops n last [] entry e = absurd (let never : ⊥ = cc in never)
fields_stand true n last (name ∷ []) entry e = power_stands n last name entry e
fields_stand false n last (name ∷ []) entry e = absurd (let never : ⊥ = cc in never)
fields_stand true n last (name ∷ p ∷ []) entry e = stop_stands n last name p entry e
fields_stand false n last (name ∷ p ∷ []) entry e = absurd (let never : ⊥ = cc in never)
fields_stand stops n last (p ∷ word ∷ clock ∷ []) entry e = turn_stands n last p word clock entry e
fields_stand stops n last (p ∷ word ∷ clock ∷ more ∷ fields) entry e = absurd (let never : ⊥ = cc in never)

line_stands : (stops : Bool) (n last : ℕ) (line : List ℕ) (entry : Entry) → entry_of stops n last line ≡ Ok entry → Stands n last line entry
line_stands stops n last line entry e = subst (λ xs. Stands n last xs entry) (fields_joined 32 line) (fields_stand stops n last (fields_of 32 line) entry e)

-- a schedule of one line and more: the line's entry, and the schedule of the others
pub record Parts (r : Result Entry ScheduleKind) (rest : Entry → Result (List Entry) ScheduleFault) (many : Bool) (entries : List Entry) : Type 0 where
  pub entry : Entry
  pub others : List Entry
  pub few : many ≡ false
  pub first : r ≡ Ok entry
  pub later : rest entry ≡ Ok others
  pub whole : entry ∷ others ≡ entries

behind_parts : (entry : Entry) (r : Result (List Entry) ScheduleFault) (entries : List Entry) → with_front entry r ≡ Ok entries → (others : List Entry) × (r ≡ Ok others) × (entry ∷ others ≡ entries)
behind_parts entry (Ok others) entries e = (others, refl, cc)
behind_parts entry (Err fault) entries e = absurd (let never : ⊥ = cc in never)

pub parts_of : (many : Bool) (fault : ScheduleFault) (number : ℕ) (r : Result Entry ScheduleKind) (rest : Entry → Result (List Entry) ScheduleFault) (entries : List Entry)
    → (if many then Err fault else entry_then number r (λ entry. with_front entry (rest entry))) ≡ Ok entries → Parts r rest many entries
parts_of true fault number r rest entries e = absurd (let never : ⊥ = cc in never)
parts_of false fault number (Err kind) rest entries e = absurd (let never : ⊥ = cc in never)
parts_of false fault number (Ok entry) rest entries e = let parts = behind_parts entry (rest entry) entries e in
    record { entry = entry; others = parts.0; few = refl; first = refl; later = parts.1; whole = parts.2 }

pub whole_of : (many : Bool) (fault : ScheduleFault) (number : ℕ) (r : Result Entry ScheduleKind) (rest : Entry → Result (List Entry) ScheduleFault) (entry : Entry) (others : List Entry)
    → many ≡ false → r ≡ Ok entry → rest entry ≡ Ok others → (if many then Err fault else entry_then number r (λ entry. with_front entry (rest entry))) ≡ Ok (entry ∷ others)
whole_of many fault number r rest entry others few first later = rw (few, first, later) refl

-- entries of lines
pub record Stand (n number last : ℕ) (lines : List (List ℕ)) (entries : List Entry) : Type 0 where
  pub fit : AreEntries n last entries
  pub few : number ≤ 1000001 → number + length entries ≤ 1000001
  pub written : n < 2 ^ 64 → ended lines ≡ schedule_text entries

nothing_stands : (n number last : ℕ) (entries : List Entry) → ◌≡◌ {A = Result (List Entry) ScheduleFault} (Ok []) (Ok entries) → Stand n number last [] entries
nothing_stands n number last [] e = record { fit = tt; few = λ few. omega (arith, few); written = λ small. refl }
nothing_stands n number last (entry ∷ entries) e = absurd (let never : ⊥ = cc in never)

pub lines_stand : (stops : Bool) (n number last : ℕ) (lines : List (List ℕ)) (entries : List Entry) → schedule_from stops n number last lines ≡ Ok entries → Stand n number last lines entries
lines_stand stops n number last [] entries e = nothing_stands n number last entries e
lines_stand stops n number last (line ∷ lines) entries e =
    let parts = parts_of (nat_lt 1000000 number) (record { line = number; kind = TooMany }) number (entry_of stops n last line)
    (λ entry. schedule_from stops n (suc number) (clock_after last entry) lines) entries e in
    let first = line_stands stops n last line parts.entry parts.first in
    let later = lines_stand stops n (suc number) (clock_after last parts.entry) lines parts.others parts.later in
    let low = ltb-false 1000000 number parts.few in
    let text : n < 2 ^ 64 → ended (line ∷ lines) ≡ schedule_text (parts.entry ∷ parts.others) = λ small.
    ap (λ xs. xs ++ ended lines) (first.written small) ∙ ap (λ xs. entry_text parts.entry ++ xs) (later.written small) in
    subst (Stand n number last (line ∷ lines)) parts.whole
    (record { fit = (first.fits, later.fit); few = λ few. let rest = later.few (omega (arith, low)) in omega (arith, rest); written = text })

-- a text that was read is written again, but for its last line feed
pub text_written : (stops : Bool) (n : ℕ) (text : List ℕ) (entries : List Entry) → n < 2 ^ 64 → schedule_from stops n 1 0 (lines_of text) ≡ Ok entries
    → (text ≡ schedule_text entries) ⊎ (text ++ 10 ∷ [] ≡ schedule_text entries)
text_written stops n text entries small e = by (lines_ended text)
  where
    same : ended (lines_of text) ≡ schedule_text entries
    same = (lines_stand stops n 1 0 (lines_of text) entries e).written small

    by : (text ≡ ended (lines_of text)) ⊎ (text ++ 10 ∷ [] ≡ ended (lines_of text)) → (text ≡ schedule_text entries) ⊎ (text ++ 10 ∷ [] ≡ schedule_text entries)
    by (inl h) = inl (h ∙ same)
    by (inr h) = inr (h ∙ same)

pub text_schedule : (stops : Bool) (n : ℕ) (text : List ℕ) (entries : List Entry) → schedule_from stops n 1 0 (lines_of text) ≡ Ok entries → IsSchedule n entries
text_schedule stops n text entries e = let stand = lines_stand stops n 1 0 (lines_of text) entries e in
    let few = stand.few (omega arith) in (omega (arith, few), stand.fit)

-- without stops there are turns alone, and they are read the same with stops
turn_alone : (n last : ℕ) (fields : List (List ℕ)) (entry : Entry) → entry_by false n last fields ≡ Ok entry → IsTurn n entry × (entry_by true n last fields ≡ Ok entry)
turn_alone n last [] entry e = absurd (let never : ⊥ = cc in never)
turn_alone n last (name ∷ []) entry e = absurd (let never : ⊥ = cc in never)
turn_alone n last (name ∷ p ∷ []) entry e = absurd (let never : ⊥ = cc in never)
turn_alone n last (p ∷ word ∷ clock ∷ []) entry e =
    let tests = turn_tests (is_number p && (is_below (2 ^ 32) word && is_below (2 ^ 64) clock)) (nat_lt (value p) n) (nat_lt (value clock) last) entry _ e in
    (subst (IsTurn n) tests.3 (ltb-true (value p) n tests.1), e)
turn_alone n last (p ∷ word ∷ clock ∷ more ∷ fields) entry e = absurd (let never : ⊥ = cc in never)

pub record AloneIn (n number last : ℕ) (lines : List (List ℕ)) (entries : List Entry) : Type 0 where
  pub turns : All (IsTurn n) entries
  pub same : schedule_from true n number last lines ≡ Ok entries

nothing_alone : (n number last : ℕ) (entries : List Entry) → ◌≡◌ {A = Result (List Entry) ScheduleFault} (Ok []) (Ok entries) → AloneIn n number last [] entries
nothing_alone n number last [] e = record { turns = All-nil (IsTurn n); same = refl }
nothing_alone n number last (entry ∷ entries) e = absurd (let never : ⊥ = cc in never)

pub turns_alone : (n number last : ℕ) (lines : List (List ℕ)) (entries : List Entry) → schedule_from false n number last lines ≡ Ok entries → AloneIn n number last lines entries
turns_alone n number last [] entries e = nothing_alone n number last entries e
turns_alone n number last (line ∷ lines) entries e =
    let parts = parts_of (nat_lt 1000000 number) (record { line = number; kind = TooMany }) number (entry_of false n last line)
    (λ entry. schedule_from false n (suc number) (clock_after last entry) lines) entries e in
    let first = turn_alone n last (fields_of 32 line) parts.entry parts.first in
    let later = turns_alone n (suc number) (clock_after last parts.entry) lines parts.others parts.later in
    let again : schedule_from true n number last (line ∷ lines) ≡ Ok (parts.entry ∷ parts.others) = whole_of (nat_lt 1000000 number) (record { line = number; kind = TooMany }) number (entry_of true n last line)
    (λ entry. schedule_from true n (suc number) (clock_after last entry) lines) parts.entry parts.others parts.few first.1 later.same in
    subst (AloneIn n number last (line ∷ lines)) parts.whole
    (record { turns = All-cons (IsTurn n) parts.entry parts.others first.0 later.turns; same = again })

-- the schedule that a reader found
module _ (stops : Bool) (n : ℕ) (text : List ℕ) where
  pub read_schedule : (r : Result (Vec Entry Global) ReadError) → Reads r (schedule_from stops n 1 0 (lines_of text)) → IfOk r (λ entries. IsSchedule n entries.items)
  read_schedule (Ok entries) told = text_schedule stops n text entries.items told
  read_schedule (Err error) told = tt

  pub read_few : (r : Result (Vec Entry Global) ReadError) → Reads r (schedule_from stops n 1 0 (lines_of text)) → IfOk r (λ entries. length entries.items ≤ 1000000)
  read_few (Ok entries) told = (text_schedule stops n text entries.items told).0
  read_few (Err error) told = tt

  pub read_written : n < 2 ^ 64 → (r : Result (Vec Entry Global) ReadError) → Reads r (schedule_from stops n 1 0 (lines_of text))
      → IfOk r (λ entries. (text ≡ schedule_text entries.items) ⊎ (text ++ 10 ∷ [] ≡ schedule_text entries.items))
  read_written small (Ok entries) told = text_written stops n text entries.items small told
  read_written small (Err error) told = tt

pub read_turns_alone : (n : ℕ) (text : List ℕ) (r : Result (Vec Entry Global) ReadError) → Reads r (turns_of n text) → IfOk r (λ entries. All (IsTurn n) entries.items)
read_turns_alone n text (Ok entries) told = (turns_alone n 1 0 (lines_of text) entries.items told).turns
read_turns_alone n text (Err error) told = tt
