-- Wherever marks lead without a stop.
use Rattle.std.proofs.Common.{◌≡◌, ◌≢◌, ◌∙◌, ◌<◌, ◌≤◌, ◌+◌, ◌⊎◌, inl, inr, ⊎_elim, ℕ, zero, suc, Bool, true, false, List, [], ◌∷◌, ◌++◌, length, arith, refl, sym, subst, ap, slice_get, Option, Some, None, IsSomeAnd}
use Rattle.std.proofs.lemmas.Bool.{le-ltb}
use Rattle.dc_audit.specs.Journals.{HasSaveWork}
use Rattle.dc_model.specs.Guests.{Answer, Event}
use Rattle.dc_model.specs.Guests.Event.{AtEnd, AtInternal, AtClock, AtRandom, AtInput, AtReceive, AtSend, AtVisible}
use Rattle.dc_model.specs.Process.{comes}
use Rattle.dc_model.specs.Runs.{Given, own, visibles}
use Rattle.dc_model.specs.declared.mark.Mark.TheVariants as mark
use Rattle.dc_protocols.specs.Rules.{is_cand, is_causal}
use Rattle.dc_model.specs.declared.entry.Entry.{Entry}
use Rattle.dc_model.specs.declared.entry.Entry.TheVariants.{Power, Stop, Turn}
use Rattle.dc_model.specs.declared.mark.Mark.{Mark}
use Rattle.dc_recovery.proofs.Ends.{holds_opened, leads_follow}
use Rattle.dc_recovery.proofs.Follows.{Follows}
use Rattle.dc_recovery.proofs.Unstopping.{AllHere, IsTurn, Lead, lead, step}
use Rattle.dc_recovery.specs.Answers.{answer, is_blocked}
use Rattle.dc_recovery.specs.Core.{Core, opening, stands}
use Rattle.dc_recovery.specs.Parts.Place.{Nowhere}
use Rattle.dc_recovery.specs.Systems.{IsSound, System}
use Rattle.dc_recovery.specs.Turned.{LeadsTo, Turned, after_turn, with_act}
use Rattle.dc_recovery.specs.Unstopped.{AreTurns, Unstopped, taken, taken_or}
use Rattle.dc_savework.proofs.Keeping.{Kept, kept_none, kept_work}
use Rattle.dc_savework.proofs.Turning.{has_unsaved, kept_turn}
use Rattle.dc_savework.specs.Journal.{core_of, journal_of, turn_lines}

-- an entry that nothing stops does nothing, or takes an event whole
took_or : {Mc : Type 0} (S : System Mc) (c : Core) (x : Given) (e : Event) (b : Bool) → ((taken_or b S c x e).1 ≡ c) ⊎ ((taken_or b S c x e).1 ≡ after_turn S x.t c x.p x.answer Nowhere)
took_or S c x e true = inl refl
took_or S c x e false = inr refl

pub took : {Mc : Type 0} (S : System Mc) (c : Core) (x : Given) (e : Event) → ((taken S c x e).1 ≡ c) ⊎ ((taken S c x e).1 ≡ after_turn S x.t c x.p x.answer Nowhere)
took S c x AtEnd = inl refl
took S c x AtInternal = took_or S c x AtInternal (is_blocked S c x.p AtInternal)
took S c x AtClock = took_or S c x AtClock (is_blocked S c x.p AtClock)
took S c x AtRandom = took_or S c x AtRandom (is_blocked S c x.p AtRandom)
took S c x AtInput = took_or S c x AtInput (is_blocked S c x.p AtInput)
took S c x AtReceive = took_or S c x AtReceive (is_blocked S c x.p AtReceive)
took S c x (AtVisible body) = took_or S c x (AtVisible body) (is_blocked S c x.p (AtVisible body))
took S c x (AtSend to message) = took_or S c x (AtSend to message) (is_blocked S c x.p (AtSend to message))

-- what is so of each core that is led to
pub record Told {Mc : Type 0} (S : System Mc) (c : Core) : Type 0 where
  pub by_acts : c ≡ core_of S c.acts
  pub kept : is_causal S.protocol ≡ false → Kept S.protocol S.guests.count (has_unsaved c.procs) (journal_of S c.acts)

module _ {Mc : Type 0} (S : System Mc) (sound : IsSound S) (few : S.guests.count ≤ 16) where
  -- a turn that goes whole
  told_whole : (t : ℕ) (c : Core) → AllHere c → Told S c → (p : ℕ) (a : Answer) → p < S.guests.count → (is_cand S.protocol ≡ true → has_unsaved c.procs p ≡ false) → Told S (after_turn S t c p a Nowhere)
  told_whole t c here told p a inside cand =
      let x : Given = record { t = t; p = p; answer = a } in
      let new : with_act t c p a ≡ x ∷ c.acts = rw (le-ltb (c.procs p).position (length (own p c.acts)) (let k = here.end p in omega arith)) refl in
      record {
        by_acts = ap (λ (k : Core). after_turn S t k p a Nowhere) told.by_acts ∙ ap (λ (acts : List Given). core_of S acts) (sym new);
        kept = λ free. subst (λ (acts : List Given). Kept S.protocol S.guests.count (has_unsaved (after_turn S t c p a Nowhere).procs) (journal_of S acts)) (sym new)
            (subst (λ (k : Core). Kept S.protocol S.guests.count (has_unsaved (after_turn S t c p a Nowhere).procs) (journal_of S c.acts ++ turn_lines S k p a)) told.by_acts
            (kept_turn S sound c p a inside free cand few t (journal_of S c.acts) (told.kept free)));
      }

  -- an entry
  told_step : (t : ℕ) (c : Core) → AllHere c → c.lines ≡ visibles S.guests c.acts → Told S c → ((p : ℕ) → is_cand S.protocol ≡ true → has_unsaved c.procs p ≡ false)
      → (entry : Entry) → IsTurn entry → (m : Mark) (d : Core) → m ≢ mark.Stopped → Turned S t c entry m d → Told S d
  told_step t c here lines told cand (Turn turn) is m d whole turned =
      let a : Answer = answer S.guests c turn.p turn.word turn.clock in
      let x : Given = record { t = t; p = turn.p; answer = a } in
      let s = step S t c here lines (Turn turn) is m d whole turned in
      let same : d ≡ (taken S c x (comes S.guests (stands S.guests c turn.p) a)).1 = (λ i. (s.is i).1) in ⊎_elim
      (λ (idle : (taken S c x (comes S.guests (stands S.guests c turn.p) a)).1 ≡ c). subst (λ (k : Core). Told S k) (sym (same ∙ idle)) told)
      (λ (went : (taken S c x (comes S.guests (stands S.guests c turn.p) a)).1 ≡ after_turn S t c turn.p a Nowhere). subst (λ (k : Core). Told S k) (sym (same ∙ went))
      (told_whole t c here told turn.p a turned.0 (cand turn.p)))
      (took S c x (comes S.guests (stands S.guests c turn.p) a))
  told_step t c here lines told cand (Stop p) is m d whole turned = absurd is
  told_step t c here lines told cand Power is m d whole turned = absurd is

  pub turn_at : (schedule : List Entry) (i : ℕ) (entry : Entry) → AreTurns schedule → slice_get schedule i ≡ Some entry → IsTurn entry
  turn_at [] i entry turns is = let off : ⊥ = cc in absurd off
  turn_at (Turn turn ∷ schedule) zero entry turns is = let e : Turn turn ≡ entry = cc in subst IsTurn e tt
  turn_at (Turn turn ∷ schedule) (suc i) entry turns is = turn_at schedule i entry turns is
  turn_at (Stop p ∷ schedule) i entry turns is = absurd turns
  turn_at (Power ∷ schedule) i entry turns is = absurd turns

  module _ (schedule : List Entry) (only : AreTurns schedule) where
    told_entry : (marks : List Mark) (c : Core) → LeadsTo S schedule (opening (λ p. true)) marks c → Unstopped marks → Told S c → (o : Option Entry) → slice_get schedule (0 + length marks) ≡ o
        → (m : Mark) (d : Core) → m ≢ mark.Stopped → IsSomeAnd o (λ entry. Turned S (0 + length marks) c entry m d) → Told S d
    told_entry marks c led whole told None is m d live turned = absurd turned
    told_entry marks c led whole told (Some entry) is m d live turned =
        let l : Lead S schedule marks c = lead S schedule only marks c led whole in
        let f : Follows S schedule (opening (λ p. true)) marks c = leads_follow S sound schedule (opening (λ p. true)) (holds_opened S sound schedule (λ p. true) (λ g p q. refl)) marks c led in
        told_step (0 + length marks) c l.here l.lines told (λ p is. ((f.now.behind p).running (l.here.up p)).cand is) entry (turn_at schedule (0 + length marks) entry only is) m d live turned

    -- wherever marks lead
    pub told_all : (marks : List Mark) (c : Core) → LeadsTo S schedule (opening (λ p. true)) marks c → Unstopped marks → Told S c
    told_all [] c led whole = subst (λ (k : Core). Told S k) (sym led) (record { by_acts = refl; kept = λ free. kept_none S.protocol S.guests.count })
    told_all (m ∷ marks) d (c, led, turned) whole = told_entry marks c led whole.1 (told_all marks c led whole.1) (slice_get schedule (0 + length marks)) refl m d whole.0 turned

    pub led_work : (marks : List Mark) (c : Core) → LeadsTo S schedule (opening (λ p. true)) marks c → Unstopped marks → is_causal S.protocol ≡ false → HasSaveWork false (journal_of S c.acts)
    led_work marks c led whole free = let told : Told S c = told_all marks c led whole in kept_work S.protocol S.guests.count (has_unsaved c.procs) (journal_of S c.acts) (told.kept free)
