-- The lines of one entry: at most two, of processes that are there, and each commit of somebody.
use Rattle.std.proofs.Common.{◌≡◌, ◌∙◌, ◌<◌, ◌≤◌, ◌+◌, ◌*◌, ◌&&◌, ◌||◌, ℕ, Bool, true, false, not, List, [], ◌∷◌, ◌++◌, length, arith, refl, sym, ap, if◌then◌else◌, nat_lt, length-append}
use Rattle.std.specs.List.{All}
use Rattle.std.proofs.lemmas.Bool.{and_from, and_right, lt-ltb, true≢false}
use Rattle.std.proofs.lemmas.List.Elements.{All-append, All-cons, All-nil}
use Rattle.dc_audit.specs.declared.journal.Deed.{Deed}
use Rattle.dc_audit.specs.declared.journal.Deed.TheVariants.{Visible, Sends}
use Rattle.dc_audit.specs.declared.journal.Line.{Line}
use Rattle.dc_audit.specs.declared.journal.Line.TheVariants.{Does}
use Rattle.dc_audit.specs.Journals.{IsOfSixteen}
use Rattle.dc_audit.specs.Keeping.{HasMembers}
use Rattle.dc_events.specs.declared.event.Kind.{Kind}
use Rattle.dc_events.specs.declared.event.Kind.TheVariants as kind
use Rattle.dc_model.specs.Guests.{Answer, Event}
use Rattle.dc_model.specs.Guests.Event.{AtEnd, AtInternal, AtClock, AtRandom, AtInput, AtReceive, AtSend, AtVisible}
use Rattle.dc_model.specs.Process.{Local, comes}
use Rattle.dc_model.specs.Runs.{Given, own}
use Rattle.dc_model.specs.declared.entry.Entry.{Entry}
use Rattle.dc_model.specs.declared.entry.Entry.TheVariants.{Power, Stop, Turn}
use Rattle.dc_model.specs.declared.mark.Mark.{Mark}
use Rattle.dc_protocols.specs.Rules.{at_inputs, at_outputs, at_visible, rule_of}
use Rattle.dc_protocols.specs.declared.protocol.Protocol.{Protocol}
use Rattle.dc_protocols.specs.declared.protocol.Protocol.TheVariants.{Cand, CandLog, Cpvs, Cbndvs, CbndvsLog, Cpv2pc, Cbndv2pc, Cbndv2pcCausal}
use Rattle.dc_protocols.specs.declared.protocol.Since.{Since}
use Rattle.dc_recovery.proofs.Parts.{is_company}
use Rattle.dc_recovery.specs.Answers.{answer, any_at, makes_most, rule_at, since}
use Rattle.dc_recovery.specs.Core.{Core, stands}
use Rattle.dc_recovery.specs.Systems.{System, kind_at}
use Rattle.dc_recovery.specs.Ties.{company}
use Rattle.dc_recovery.specs.Turned.{Turned}
use Rattle.dc_recovery.specs.Unstopped.{entry_taken, is_taken}
use Rattle.dc_savework.proofs.Keeping.{mark_is}
use Rattle.dc_savework.proofs.Writing.{marks_long}
use Rattle.dc_savework.specs.Journal.{commit_lines, commit_of, core_of, entry_lines, event_lines, is_chance_at, journal_of, receipt, told, turn_lines}

-- no commit comes after an event with one before it
none_after : (before eighth : Bool) → before ≡ true → (false || (eighth && not before)) ≡ false
none_after before eighth h = and_right eighth (not before) (ap not h)

logged_once : (k : Kind) (f : Since) → (rule_of CandLog k f).before ≡ true → (rule_of CandLog k f).after ≡ false
logged_once kind.Input f h = none_after (f.full && not f.replay) f.eighth h
logged_once kind.Receive f h = none_after (f.full && not f.replay) f.eighth h
logged_once kind.Internal f h = absurd (true≢false (sym h))
logged_once kind.Clock f h = absurd (true≢false (sym h))
logged_once kind.Random f h = absurd (true≢false (sym h))
logged_once kind.Visible f h = absurd (true≢false (sym h))
logged_once kind.Send f h = absurd (true≢false (sym h))

once : (pr : Protocol) (k : Kind) (f : Since) → (rule_of pr k f).before ≡ true → (rule_of pr k f).after ≡ false
once Cand k f h = absurd (true≢false (sym h))
once CandLog k f h = logged_once k f h
once Cpvs k f h = none_after (at_outputs k) f.eighth h
once Cbndvs k f h = none_after (at_outputs k && f.unlogged) f.eighth h
once CbndvsLog k f h = none_after ((at_outputs k && f.unlogged) || (at_inputs k && not f.unlogged && f.full && not f.replay)) f.eighth h
once Cpv2pc k f h = none_after (at_visible k) f.eighth h
once Cbndv2pc k f h = none_after (at_visible k && f.any) f.eighth h
once Cbndv2pcCausal k f h = none_after (at_visible k && f.any) f.eighth h

-- how many lines there are
event_short : {Mc : Type 0} (l : Local Mc) (p : ℕ) (chance : Bool) (a : Answer) (e : Event) → length (event_lines l p chance a e) ≤ 1
event_short l p chance a AtClock = omega arith
event_short l p chance a AtRandom = omega arith
event_short l p chance a AtInput = omega arith
event_short l p chance a AtReceive = omega arith
event_short l p chance a (AtVisible body) = omega arith
event_short l p chance a (AtSend q message) = omega arith
event_short l p chance a AtInternal = omega arith
event_short l p chance a AtEnd = omega arith

commits_short : (before after : Bool) (n : ℕ) (b c : ℕ → Bool) → (before ≡ true → after ≡ false) → length (commit_lines before n b) + length (commit_lines after n c) ≤ 1
commits_short true true n b c one = absurd (true≢false (one refl))
commits_short true false n b c one = omega arith
commits_short false true n b c one = omega arith
commits_short false false n b c one = omega arith

pub turn_short : {Mc : Type 0} (S : System Mc) (c : Core) (p : ℕ) (a : Answer) → length (turn_lines S c p a) ≤ 2
turn_short S c p a =
    let e : Event = comes S.guests (stands S.guests c p) a in
    let before : List Line = commit_lines (rule_at S c p a).before S.guests.count (company S c p a).before in
    let line : List Line = event_lines (stands S.guests c p) p (is_chance_at S c p a) a e in
    let after : List Line = commit_lines (rule_at S c p a).after S.guests.count (company S c p a).after in
    let one : length line ≤ 1 = event_short (stands S.guests c p) p (is_chance_at S c p a) a e in
    let two : length before + length after ≤ 1 = commits_short (rule_at S c p a).before (rule_at S c p a).after S.guests.count (company S c p a).before (company S c p a).after
    (once S.protocol (kind_at e) (since S.log_room e (c.procs p) (any_at S c p) (makes_most S p (own p c.acts) (c.procs p) a))) in
    omega (arith, length-append (before ++ line) after, length-append before line, one, two)

if_short : (b : Bool) (lines : List Line) → length lines ≤ 2 → length (if b then lines else []) ≤ 2
if_short true lines short = short
if_short false lines short = omega arith

pub entry_short : {Mc : Type 0} (S : System Mc) (t : ℕ) (c : Core) (entry : Entry) → length (entry_lines S t c entry) ≤ 2
entry_short S t c (Turn turn) = if_short (is_taken (entry_taken S t c (Turn turn)).0) _ (turn_short S c turn.p (answer S.guests c turn.p turn.word turn.clock))
entry_short S t c (Stop p) = omega arith
entry_short S t c Power = omega arith

pub journal_short : {Mc : Type 0} (S : System Mc) (acts : List Given) → length (journal_of S acts) ≤ 2 * length acts
journal_short S [] = omega arith
journal_short S (x ∷ acts) = let before = journal_short S acts in let short = turn_short S (core_of S acts) x.p x.answer in
    omega (arith, length-append (journal_of S acts) (turn_lines S (core_of S acts) x.p x.answer), before, short)

-- a line that has a text
abbrev pub IsPlain : Line → Type 0
IsPlain x = IsOfSixteen x × HasMembers x

plain_one : (x : Line) → IsPlain x → All IsPlain (x ∷ [])
plain_one x is = All-cons IsPlain x [] is (All-nil IsPlain)

plain_does : (p : ℕ) (deed : Deed) → p < 16 → All IsPlain (Does p deed ∷ [])
plain_does p deed inside = plain_one (Does p deed) (inside, tt)

plain_event : {Mc : Type 0} (l : Local Mc) (p : ℕ) (chance : Bool) (a : Answer) (e : Event) → p < 16 → All IsPlain (event_lines l p chance a e)
plain_event l p chance a AtClock inside = plain_does p (told chance) inside
plain_event l p chance a AtRandom inside = plain_does p (told chance) inside
plain_event l p chance a AtInput inside = plain_does p (told chance) inside
plain_event l p chance a AtReceive inside = plain_does p (receipt l chance a) inside
plain_event l p chance a (AtVisible body) inside = plain_does p Visible inside
plain_event l p chance a (AtSend q message) inside = plain_does p (Sends q (length (l.sent q))) inside
plain_event l p chance a AtInternal inside = All-nil IsPlain
plain_event l p chance a AtEnd inside = All-nil IsPlain

plain_commit : (b : Bool) (n p : ℕ) (commits : ℕ → Bool) → n ≤ 16 → p < n → commits p ≡ true → All IsPlain (commit_lines b n commits)
plain_commit false n p commits few inside with = All-nil IsPlain
plain_commit true n p commits few inside with = plain_one (commit_of n commits) (
  marks_long 16 (λ q. commits q && nat_lt q n),
  (p, mark_is 16 (λ q. commits q && nat_lt q n) p (omega (arith, few, inside)) ∙ and_from (commits p) (nat_lt p n) with (lt-ltb p n inside)),
)

pub plain_turn : {Mc : Type 0} (S : System Mc) (c : Core) (p : ℕ) (a : Answer) → S.guests.count ≤ 16 → p < S.guests.count → All IsPlain (turn_lines S c p a)
plain_turn S c p a few inside =
    let before : List Line = commit_lines (rule_at S c p a).before S.guests.count (company S c p a).before in
    let line : List Line = event_lines (stands S.guests c p) p (is_chance_at S c p a) a (comes S.guests (stands S.guests c p) a) in
    let after : List Line = commit_lines (rule_at S c p a).after S.guests.count (company S c p a).after in
    All-append IsPlain (before ++ line) after
    (All-append IsPlain before line
    (plain_commit (rule_at S c p a).before S.guests.count p (company S c p a).before few inside (is_company S c p a).before)
    (plain_event (stands S.guests c p) p (is_chance_at S c p a) a (comes S.guests (stands S.guests c p) a) (omega (arith, few, inside))))
    (plain_commit (rule_at S c p a).after S.guests.count p (company S c p a).after few inside (is_company S c p a).after)

plain_if : (b : Bool) (lines : List Line) → All IsPlain lines → All IsPlain (if b then lines else [])
plain_if true lines are = are
plain_if false lines are = All-nil IsPlain

pub plain_entry : {Mc : Type 0} (S : System Mc) (t : ℕ) (c : Core) (entry : Entry) (m : Mark) (d : Core) → S.guests.count ≤ 16 → Turned S t c entry m d → All IsPlain (entry_lines S t c entry)
plain_entry S t c (Turn turn) m d few turned = plain_if (is_taken (entry_taken S t c (Turn turn)).0) _ (plain_turn S c turn.p (answer S.guests c turn.p turn.word turn.clock) few turned.0)
plain_entry S t c (Stop p) m d few turned = All-nil IsPlain
plain_entry S t c Power m d few turned = All-nil IsPlain
