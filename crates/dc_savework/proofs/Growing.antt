-- The journal grows by the lines of each entry.
use Rattle.std.proofs.Common.{◌≡◌, ◌≢◌, ◌∙◌, ◌≤◌, ◌+◌, ℕ, Bool, true, false, List, [], ◌∷◌, ◌++◌, length, arith, refl, sym, subst, ap, if◌then◌else◌, slice_get, Option, Some, None, IsSomeAnd}
use Rattle.std.specs.List.{All}
use Rattle.std.proofs.lemmas.Bool.{le-ltb}
use Rattle.std.proofs.lemmas.List.{append-nil}
use Rattle.std.proofs.lemmas.List.Elements.{All-append, All-nil}
use Rattle.dc_audit.specs.declared.journal.Line.{Line}
use Rattle.dc_model.specs.Guests.{Answer, Event}
use Rattle.dc_model.specs.Guests.Event.{AtEnd, AtInternal, AtClock, AtRandom, AtInput, AtReceive, AtSend, AtVisible}
use Rattle.dc_model.specs.Process.{comes}
use Rattle.dc_model.specs.Runs.{Given, own}
use Rattle.dc_model.specs.declared.entry.Entry.{Entry}
use Rattle.dc_model.specs.declared.entry.Entry.TheVariants.{Power, Stop, Turn}
use Rattle.dc_model.specs.declared.mark.Mark.{Mark}
use Rattle.dc_model.specs.declared.mark.Mark.TheVariants as mark
use Rattle.dc_recovery.proofs.Unstopping.{AllHere, Lead, lead, step}
use Rattle.dc_recovery.specs.Answers.{answer, is_blocked}
use Rattle.dc_recovery.specs.Core.{Core, opening, stands}
use Rattle.dc_recovery.specs.Parts.Place.{Nowhere}
use Rattle.dc_recovery.specs.Systems.{IsSound, System}
use Rattle.dc_recovery.specs.Turned.{LeadsTo, Turned, after_turn, event_mark, with_act}
use Rattle.dc_recovery.specs.Unstopped.{AreTurns, Unstopped, entry_taken, is_taken, taken, taken_or}
use Rattle.dc_savework.proofs.Few.{IsPlain, plain_entry}
use Rattle.dc_savework.proofs.Leading.{told_all}
use Rattle.dc_savework.specs.Journal.{core_of, entry_lines, journal_of, turn_lines}

module _ {Mc : Type 0} (S : System Mc) (c : Core) (here : AllHere c) (by_acts : c ≡ core_of S c.acts) where
  -- a turn that goes whole adds its lines
  went : (t p : ℕ) (a : Answer) → journal_of S (after_turn S t c p a Nowhere).acts ≡ journal_of S c.acts ++ turn_lines S c p a
  went t p a =
      let x : Given = record { t = t; p = p; answer = a } in
      let new : with_act t c p a ≡ x ∷ c.acts = rw (le-ltb (c.procs p).position (length (own p c.acts)) (let k = here.end p in omega arith)) refl in
      ap (λ (acts : List Given). journal_of S acts) new ∙ ap (λ (k : Core). journal_of S c.acts ++ turn_lines S k p a) (sym by_acts)

  abbrev lines_if : Bool → Given → List Line
  lines_if b x = if b then turn_lines S c x.p x.answer else []

  -- one that does nothing adds none
  grows_or : (x : Given) (e : Event) → is_taken (event_mark e (stands S.guests c x.p).visible) ≡ true → (b : Bool)
      → journal_of S (taken_or b S c x e).1.acts ≡ journal_of S c.acts ++ lines_if (is_taken (taken_or b S c x e).0) x
  grows_or x e does true = sym (append-nil (journal_of S c.acts))
  grows_or x e does false = went x.t x.p x.answer ∙ ap (λ b. journal_of S c.acts ++ lines_if b x) (sym does)

  grows_by : (x : Given) (e : Event) → journal_of S (taken S c x e).1.acts ≡ journal_of S c.acts ++ lines_if (is_taken (taken S c x e).0) x
  grows_by x AtEnd = sym (append-nil (journal_of S c.acts))
  grows_by x AtInternal = grows_or x AtInternal refl (is_blocked S c x.p AtInternal)
  grows_by x AtClock = grows_or x AtClock refl (is_blocked S c x.p AtClock)
  grows_by x AtRandom = grows_or x AtRandom refl (is_blocked S c x.p AtRandom)
  grows_by x AtInput = grows_or x AtInput refl (is_blocked S c x.p AtInput)
  grows_by x AtReceive = grows_or x AtReceive refl (is_blocked S c x.p AtReceive)
  grows_by x (AtVisible body) = grows_or x (AtVisible body) refl (is_blocked S c x.p (AtVisible body))
  grows_by x (AtSend to message) = grows_or x (AtSend to message) refl (is_blocked S c x.p (AtSend to message))

-- one entry
pub record Grows {Mc : Type 0} (S : System Mc) (t : ℕ) (c : Core) (entry : Entry) (m : Mark) (d : Core) : Type 0 where
  pub mark_is : m ≡ (entry_taken S t c entry).0
  pub lines : journal_of S d.acts ≡ journal_of S c.acts ++ entry_lines S t c entry

still : {Mc : Type 0} (S : System Mc) (t : ℕ) (c : Core) (entry : Entry) (m : Mark) (d : Core) → m ≡ (entry_taken S t c entry).0 → entry_lines S t c entry ≡ [] → d.acts ≡ c.acts → Grows S t c entry m d
still S t c entry m d is none same = record {
  mark_is = is;
  lines = ap (λ (acts : List Given). journal_of S acts) same ∙ sym (append-nil (journal_of S c.acts)) ∙ ap (λ xs. journal_of S c.acts ++ xs) (sym none);
}

module _ {Mc : Type 0} (S : System Mc) (sound : IsSound S) (few : S.guests.count ≤ 16) (schedule : List Entry) (only : AreTurns schedule) where
  abbrev Leads : List Mark → Core → Type 0
  Leads marks c = LeadsTo S schedule (opening (λ p. true)) marks c

  leads : (marks : List Mark) (c : Core) → Leads marks c → Unstopped marks → Lead S schedule marks c
  leads marks c led whole = lead S schedule only marks c led whole

  pub grown : (marks : List Mark) (c : Core) → Leads marks c → Unstopped marks → (t : ℕ) (entry : Entry) (m : Mark) (d : Core) → Turned S t c entry m d → m ≢ mark.Stopped → Grows S t c entry m d
  grown marks c led whole t (Turn turn) m d turned live =
      let a : Answer = answer S.guests c turn.p turn.word turn.clock in
      let x : Given = record { t = t; p = turn.p; answer = a } in
      let l : Lead S schedule marks c = leads marks c led whole in
      let s = step S t c l.here l.lines (Turn turn) tt m d live turned in
      let same : d ≡ (entry_taken S t c (Turn turn)).1 = (λ i. (s.is i).1) in record {
        mark_is = (λ i. (s.is i).0);
        lines = ap (λ (k : Core). journal_of S k.acts) same
            ∙ grows_by S c l.here (told_all S sound few schedule only marks c led whole).by_acts x (comes S.guests (stands S.guests c turn.p) a);
      }
  grown marks c led whole t (Stop p) m d turned live = still S t c (Stop p) m d turned.0 refl (ap (λ (k : Core). k.acts) turned.1)
  grown marks c led whole t Power m d turned live = still S t c Power m d turned.0 refl (ap (λ (k : Core). k.acts) turned.1)

  pub all_up : (marks : List Mark) (c : Core) → Leads marks c → Unstopped marks → (p : ℕ) → (c.procs p).up ≡ true
  all_up marks c led whole p = (leads marks c led whole).here.up p

  plain_more : (marks : List Mark) (c : Core) → Leads marks c → Unstopped marks → All IsPlain (journal_of S c.acts) → (o : Option Entry) → (m : Mark) (d : Core) → m ≢ mark.Stopped
      → IsSomeAnd o (λ entry. Turned S (0 + length marks) c entry m d) → All IsPlain (journal_of S d.acts)
  plain_more marks c led whole are None m d live turned = absurd turned
  plain_more marks c led whole are (Some entry) m d live turned = subst (All IsPlain) (sym (grown marks c led whole (0 + length marks) entry m d turned live).lines)
      (All-append IsPlain (journal_of S c.acts) (entry_lines S (0 + length marks) c entry) are (plain_entry S (0 + length marks) c entry m d few turned))

  -- the journal of wherever marks lead can be written
  pub plain_all : (marks : List Mark) (c : Core) → Leads marks c → Unstopped marks → All IsPlain (journal_of S c.acts)
  plain_all [] c led whole = subst (λ (k : Core). All IsPlain (journal_of S k.acts)) (sym led) (All-nil IsPlain)
  plain_all (m ∷ marks) d (c, led, turned) whole = plain_more marks c led whole.1 (plain_all marks c led whole.1) (slice_get schedule (0 + length marks)) m d whole.0 turned
