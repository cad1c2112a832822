-- Wherever marks lead without a stop, the journal is well formed.
use Rattle.std.proofs.Common.{◌≡◌, ◌≢◌, ◌∙◌, ◌<◌, ◌≤◌, ◌+◌, ⊎_elim, ℕ, true, List, [], ◌∷◌, ◌++◌, length, arith, refl, sym, subst, ap, append_assoc, slice_get, Option, Some, None, IsSomeAnd}
use Rattle.std.proofs.lemmas.Bool.{cases_lt, le-ltb}
use Rattle.std.proofs.lemmas.Option.{slice_get_within}
use Rattle.dc_audit.specs.declared.journal.Line.{Line}
use Rattle.dc_audit.specs.Keeping.{IsJournal}
use Rattle.dc_model.proofs.Own.{oldest_all, own_no, own_yes}
use Rattle.dc_model.specs.Guests.{Answer}
use Rattle.dc_model.specs.Guests.Answer.{ReceiveFrom}
use Rattle.dc_model.specs.Guests.Event.{AtSend}
use Rattle.dc_model.specs.Process.{Local, comes, fits, local, moved}
use Rattle.dc_model.specs.Runs.{CanCome, Given, IsMail, IsRun, own, state, visibles}
use Rattle.dc_model.specs.declared.entry.Entry.{Entry}
use Rattle.dc_model.specs.declared.entry.Entry.TheVariants.{Power, Stop, Turn}
use Rattle.dc_model.specs.declared.mark.Mark.{Mark}
use Rattle.dc_model.specs.declared.mark.Mark.TheVariants as mark
use Rattle.dc_recovery.proofs.Ends.{holds_opened, leads_follow}
use Rattle.dc_recovery.proofs.Follows.{Follows}
use Rattle.dc_recovery.proofs.Unstopping.{AllHere, IsTurn, Lead, here_next, lead, step}
use Rattle.dc_recovery.specs.Answers.{answer, rule_at}
use Rattle.dc_recovery.specs.Core.{Core, opening, stands}
use Rattle.dc_recovery.specs.Parts.Place.{Nowhere}
use Rattle.dc_recovery.specs.Systems.{IsSound, System}
use Rattle.dc_recovery.specs.Ties.{company}
use Rattle.dc_recovery.specs.Turned.{LeadsTo, Turned, after_turn}
use Rattle.dc_recovery.specs.Unstopped.{AreTurns, Unstopped, taken}
use Rattle.dc_savework.proofs.Leading.{Told, told_all, took, turn_at}
use Rattle.dc_savework.proofs.Writing.{Counts, Fit, Moves, counts_commit, counts_event}
use Rattle.dc_savework.specs.Journal.{IsAddressed, commit_lines, event_lines, is_chance_at, journal_of, turn_lines}

-- a process that is at its end is the fold of its answers
stands_all : {Mc : Type 0} (S : System Mc) (c : Core) → AllHere c → (q : ℕ) → stands S.guests c q ≡ state S.guests c.acts q
stands_all S c here q = ap (local S.guests q) (oldest_all (c.procs q).position (own q c.acts) (let k = here.end q in omega arith))

-- what is so of each core that is led to
pub record Wrote {Mc : Type 0} (S : System Mc) (c : Core) : Type 0 where
  pub few : (q : ℕ) → S.guests.count ≤ q → own q c.acts ≡ []
  pub counts : Counts S.guests.count (λ q. stands S.guests c q) (journal_of S c.acts)

module _ {Mc : Type 0} (S : System Mc) (sound : IsSound S) (few : S.guests.count ≤ 16) (addressed : IsAddressed S.guests) where
  module _ (t : ℕ) (c : Core) (here : AllHere c) (told : Told S c) (wrote : Wrote S c) (p : ℕ) (a : Answer) (inside : p < S.guests.count) where
    abbrev x : Given
    x = record { t = t; p = p; answer = a }

    abbrev d : Core
    d = after_turn S t c p a Nowhere

    pub acts_new : d.acts ≡ x ∷ c.acts
    acts_new = rw (le-ltb (c.procs p).position (length (own p c.acts)) (let k = here.end p in omega arith)) refl

    -- a sender is a process
    sender_in : (s : ℕ) (m : List ℕ) → slice_get ((state S.guests c.acts s).sent p) ((state S.guests c.acts p).received s) ≡ Some m → s < S.guests.count
    sender_in s m e = ⊎_elim (λ (h : s < S.guests.count). h)
        (λ (h : S.guests.count ≤ s). let empty : (state S.guests c.acts s).sent p ≡ [] = ap (λ (answers : List Answer). (local S.guests s answers).sent p) (wrote.few s h) in
        let bad : None ≡ Some m = subst (λ (xs : List (List ℕ)). slice_get xs ((state S.guests c.acts p).received s) ≡ Some m) empty e in absurd (cc bad)) (cases_lt s S.guests.count)

    fit : CanCome S.guests c.acts x → Fit S.guests S.guests.count p (λ q. stands S.guests c q) a
    fit can = record {
      inside = inside;
      fitting = subst (λ (l : Local Mc). fits S.guests p l a ≡ true) (sym (stands_all S c here p)) can.fitting;
      mail = λ s m is. let mail : IsMail S.guests c.acts p (ReceiveFrom s m) = subst (λ (b : Answer). IsMail S.guests c.acts p b) is can.mail in (
        sender_in s m mail.1,
        mail.0,
        subst (λ (l : Local Mc). l.received s < length ((stands S.guests c s).sent p)) (sym (stands_all S c here p))
            (subst (λ (l : Local Mc). (state S.guests c.acts p).received s < length (l.sent p)) (sym (stands_all S c here s)) (slice_get_within ((state S.guests c.acts s).sent p) ((state S.guests c.acts p).received s) m mail.1)),
      );
      sends_on = λ q m is. addressed p q m (own p c.acts) (subst (λ (l : Local Mc). comes S.guests l a ≡ AtSend q m) (stands_all S c here p) is);
    }

    moves : Moves S.guests p (λ q. stands S.guests c q) (λ q. stands S.guests d q) a
    moves = record {
      here = stands_all S d (here_next S t c here p a) p ∙ ap (λ (acts : List Given). state S.guests acts p) acts_new ∙ ap (local S.guests p) (own_yes x c.acts p refl) ∙ ap (λ (l : Local Mc). moved S.guests l a) (sym (stands_all S c here p));
      others = λ q ne. stands_all S d (here_next S t c here p a) q ∙ ap (λ (acts : List Given). state S.guests acts q) acts_new ∙ ap (local S.guests q) (own_no x c.acts q ne) ∙ sym (stands_all S c here q);
    }

    abbrev n : ℕ
    n = S.guests.count

    counts_turn : CanCome S.guests c.acts x → Counts n (λ q. stands S.guests d q) (journal_of S c.acts ++ turn_lines S c p a)
    counts_turn can =
        let at = λ (q : ℕ). stands S.guests c q in
        let after = λ (q : ℕ). stands S.guests d q in
        let before : List Line = commit_lines (rule_at S c p a).before n (company S c p a).before in
        let line : List Line = event_lines (stands S.guests c p) p (is_chance_at S c p a) a (comes S.guests (stands S.guests c p) a) in
        let behind : List Line = commit_lines (rule_at S c p a).after n (company S c p a).after in
        let one : Counts n at (journal_of S c.acts ++ before) = counts_commit (rule_at S c p a).before n (company S c p a).before at (journal_of S c.acts) wrote.counts in
        let two : Counts n after ((journal_of S c.acts ++ before) ++ line) = counts_event S.guests n p at after a (fit can) moves (journal_of S c.acts ++ before) one (is_chance_at S c p a) (comes S.guests (stands S.guests c p) a) refl in
        let three : Counts n after (((journal_of S c.acts ++ before) ++ line) ++ behind) = counts_commit (rule_at S c p a).after n (company S c p a).after after ((journal_of S c.acts ++ before) ++ line) two in
        subst (λ (j : List Line). Counts n after j) (regroup (journal_of S c.acts) before line behind) three
      where
        regroup : (j b l m : List Line) → ((j ++ b) ++ l) ++ m ≡ j ++ (b ++ l ++ m)
        regroup j b l m = simp append_assoc

    pub wrote_whole : CanCome S.guests c.acts x → Wrote S d
    wrote_whole can = record {
      few = λ q h. ap (λ (acts : List Given). own q acts) acts_new ∙ own_no x c.acts q (λ e. omega (arith, e, h, inside)) ∙ wrote.few q h;
      counts = subst (λ (acts : List Given). Counts n (λ q. stands S.guests d q) (journal_of S acts)) (sym acts_new)
          (subst (λ (k : Core). Counts n (λ q. stands S.guests d q) (journal_of S c.acts ++ turn_lines S k p a)) told.by_acts (counts_turn can));
    }

  wrote_step : (t : ℕ) (c : Core) → AllHere c → c.lines ≡ visibles S.guests c.acts → Told S c → Wrote S c → (entry : Entry) → IsTurn entry → (m : Mark) (e : Core) → IsRun S.guests e.acts → m ≢ mark.Stopped → Turned S t c entry m e → Wrote S e
  wrote_step t c here lines told wrote (Turn turn) is m e run whole turned =
      let a : Answer = answer S.guests c turn.p turn.word turn.clock in
      let g : Given = record { t = t; p = turn.p; answer = a } in
      let s = step S t c here lines (Turn turn) is m e whole turned in
      let same : e ≡ (taken S c g (comes S.guests (stands S.guests c turn.p) a)).1 = (λ i. (s.is i).1) in ⊎_elim
      (λ (idle : (taken S c g (comes S.guests (stands S.guests c turn.p) a)).1 ≡ c). subst (λ (k : Core). Wrote S k) (sym (same ∙ idle)) wrote)
      (λ (went : (taken S c g (comes S.guests (stands S.guests c turn.p) a)).1 ≡ after_turn S t c turn.p a Nowhere).
      let runs : IsRun S.guests (g ∷ c.acts) = subst (λ (acts : List Given). IsRun S.guests acts) (ap (λ (k : Core). k.acts) (same ∙ went) ∙ acts_new t c here told wrote turn.p a turned.0) run in
      subst (λ (k : Core). Wrote S k) (sym (same ∙ went)) (wrote_whole t c here told wrote turn.p a turned.0 runs.1))
      (took S c g (comes S.guests (stands S.guests c turn.p) a))
  wrote_step t c here lines told wrote (Stop p) is m e run whole turned = absurd is
  wrote_step t c here lines told wrote Power is m e run whole turned = absurd is

  module _ (schedule : List Entry) (only : AreTurns schedule) where
    follows : (marks : List Mark) (c : Core) → LeadsTo S schedule (opening (λ p. true)) marks c → Follows S schedule (opening (λ p. true)) marks c
    follows marks c led = leads_follow S sound schedule (opening (λ p. true)) (holds_opened S sound schedule (λ p. true) (λ g p q. refl)) marks c led

    wrote_entry : (marks : List Mark) (c : Core) → LeadsTo S schedule (opening (λ p. true)) marks c → Unstopped marks → Wrote S c → (o : Option Entry) → slice_get schedule (0 + length marks) ≡ o
        → (m : Mark) (e : Core) → IsRun S.guests e.acts → m ≢ mark.Stopped → IsSomeAnd o (λ entry. Turned S (0 + length marks) c entry m e) → Wrote S e
    wrote_entry marks c led whole wrote None is m e run live turned = absurd turned
    wrote_entry marks c led whole wrote (Some entry) is m e run live turned =
        let l : Lead S schedule marks c = lead S schedule only marks c led whole in
        wrote_step (0 + length marks) c l.here l.lines (told_all S sound few schedule only marks c led whole) wrote entry (turn_at S sound few schedule (0 + length marks) entry only is) m e run live turned

    pub wrote_all : (marks : List Mark) (c : Core) → LeadsTo S schedule (opening (λ p. true)) marks c → Unstopped marks → Wrote S c
    wrote_all [] c led whole = subst (λ (k : Core). Wrote S k) (sym led) (record { few = λ q h. refl; counts = record { form = tt; sent = λ p q. refl; taken = λ p q. refl } })
    wrote_all (m ∷ marks) e (c, led, turned) whole = wrote_entry marks c led whole.1 (wrote_all marks c led whole.1) (slice_get schedule (0 + length marks)) refl m e (follows (m ∷ marks) e (c, led, turned)).now.run whole.0 turned

    pub led_journal : (marks : List Mark) (c : Core) → LeadsTo S schedule (opening (λ p. true)) marks c → Unstopped marks → IsJournal S.guests.count (journal_of S c.acts)
    led_journal marks c led whole = let w : Wrote S c = wrote_all marks c led whole in w.counts.form
