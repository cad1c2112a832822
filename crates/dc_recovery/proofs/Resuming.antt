-- A part of a run that begins with nobody up.
use Rattle.std.proofs.Common.{◌≡◌, ◌≢◌, ◌∙◌, ℕ, ◌+◌, List, [], ◌∷◌, ◌++◌, length, refl, ap, subst, sym, arith, ⊎_elim, inl, inr, Bool, true, false, ◌&&◌, Option, Some, None, slice_get, drop, IsSomeAnd}
use Rattle.std.proofs.lemmas.Bool.{cases_eq, cases_Bool, cond_both, true≢false}
use Rattle.dc_model.specs.Guests.{Answer, Event}
use Rattle.dc_model.specs.Guests.Event.{AtClock, AtEnd, AtInput, AtInternal, AtRandom, AtReceive, AtSend, AtVisible}
use Rattle.dc_model.specs.Process.{comes}
use Rattle.dc_model.specs.Repeats.{Note, noted, notes}
use Rattle.dc_model.specs.Repeats.Note.{Recovers}
use Rattle.dc_model.specs.Runs.{Given}
use Rattle.dc_model.specs.declared.entry.Entry.{Entry}
use Rattle.dc_model.specs.declared.entry.Entry.TheVariants.{Power, Stop, Turn}
use Rattle.dc_model.specs.declared.mark.Idle.TheVariants.{Ended, LinkFull}
use Rattle.dc_model.specs.declared.mark.Mark.{Mark}
use Rattle.dc_model.specs.declared.visible.Visible.{Visible}
use Rattle.dc_protocols.specs.Rules.{is_joint}
use Rattle.dc_protocols.specs.declared.protocol.Protocol.{Protocol}
use Rattle.dc_protocols.specs.declared.protocol.Rule.{Rule}
use Rattle.dc_recovery.proofs.Follows.{quiet_note}
use Rattle.dc_recovery.proofs.Parts.{each_no, turn_beside, turn_other, turn_self, with_none}
use Rattle.dc_recovery.proofs.Sorts.{beside, torn_down}
use Rattle.dc_recovery.proofs.Worlds.{rule}
use Rattle.dc_recovery.specs.Answers.{answer, is_blocked, replays, rule_at}
use Rattle.dc_recovery.specs.Core.{Core, Start, Status, Which, save_of, stands, untied}
use Rattle.dc_recovery.specs.Invariant.{Holds}
use Rattle.dc_recovery.specs.Parts.{Place, each, fallen, first_as, is_with, left, left_as, risen, second_of, third_as}
use Rattle.dc_recovery.specs.Parts.Place.{InAfter, InBefore, InEvent, InLog, Nowhere}
use Rattle.dc_recovery.specs.Recoveries.{AllFollow, CanResume, HasRecovered, resumed_core}
use Rattle.dc_recovery.specs.Saves.{Logged, Save}
use Rattle.dc_recovery.specs.Systems.{System}
use Rattle.dc_recovery.specs.Ties.{company}
use Rattle.dc_recovery.specs.Turned.{LeadsTo, Runs, RunsOr, Takes, TakesOr, Turned, after_rise, after_turn, event_mark}
use Rattle.dc_model.specs.declared.mark.Mark.TheVariants as mark
use Rattle.dc_recovery.proofs.Follows.{get_drop}

-- whoever is up has recovered in this part
abbrev pub UpRecovered : Bool → List Note → Core → Type 0
UpRecovered together ns c = (p : ℕ) → (c.procs p).up ≡ true → HasRecovered together p ns

pub record Resumes (pr : Protocol) (schedule : List Entry) (from : ℕ) (marks : List Mark) (c : Core) : Type 0 where
  pub up : UpRecovered (is_joint pr) (notes (drop from schedule) marks) c
  pub shows : AllFollow (is_joint pr) (notes (drop from schedule) marks)

recovered_more : (together : Bool) (p : ℕ) (o : Option Entry) (m : Mark) (ns : List Note) → HasRecovered together p ns → HasRecovered together p (noted o m ++ ns)
recovered_more together p (Some (Turn turn)) (mark.Showed k) ns h = h
recovered_more together p (Some (Turn turn)) (mark.Recovered at) ns h = inr h
recovered_more together p None m ns h = h
recovered_more together p (Some (Stop q)) m ns h = h
recovered_more together p (Some Power) m ns h = h
recovered_more together p (Some (Turn turn)) (mark.Idle i) ns h = h
recovered_more together p (Some (Turn turn)) mark.Stepped ns h = h
recovered_more together p (Some (Turn turn)) mark.Stopped ns h = h
recovered_more together p (Some (Turn turn)) mark.Marked ns h = h

follow_quiet : (together : Bool) (o : Option Entry) (m : Mark) (ns : List Note) → noted o m ≡ [] → AllFollow together ns → AllFollow together (noted o m ++ ns)
follow_quiet together o m ns none h = rw none h

module _ {Mc : Type 0} (S : System Mc) (schedule : List Entry) (from : ℕ) (marks : List Mark) (c : Core) (r : Resumes S.protocol schedule from marks c) (m : Mark) (d : Core) where
  abbrev ns : List Note
  ns = notes (drop from schedule) marks

  abbrev o : Option Entry
  o = slice_get (drop from schedule) (length marks)

  -- an entry after which no other is up
  no_more_up : ((q : ℕ) → (d.procs q).up ≡ true → (c.procs q).up ≡ true) → UpRecovered (is_joint S.protocol) (noted o m ++ ns) d
  no_more_up same q up = recovered_more (is_joint S.protocol) q o m ns (r.up q (same q up))

  quiet : noted o m ≡ [] → ((q : ℕ) → (d.procs q).up ≡ true → (c.procs q).up ≡ true) → Resumes S.protocol schedule from (m ∷ marks) d
  quiet none same = record { up = no_more_up same; shows = follow_quiet (is_joint S.protocol) o m ns none r.shows }

  module _ (p word clock : ℕ) (is : slice_get schedule (from + length marks) ≡ Some (Turn (record { p = p; word = word; clock = clock }))) where
    entry_is : o ≡ Some (Turn (record { p = p; word = word; clock = clock }))
    entry_is = get_drop schedule from (length marks) ∙ is

    -- a recovery
    risen_up : (k : Which) (at : ℕ) → m ≡ mark.Recovered at → d ≡ after_rise S c p k → Resumes S.protocol schedule from (m ∷ marks) d
    risen_up k at mk is_d = let note : noted o m ≡ Recovers p ∷ [] = ap (λ (x : Option Entry). noted x m) entry_is ∙ ap (λ (y : Mark). noted (Some (Turn (record { p = p; word = word; clock = clock }))) y) mk in record {
      up = λ q up. rw note (⊎_elim
          (λ (g : is_joint S.protocol ≡ true). inl (inl g))
          (λ (alone : is_joint S.protocol ≡ false). ⊎_elim
          (λ (same : p ≡ q). inl (inr same))
          (λ (ne : p ≢ q). inr (r.up q (subst (λ (st : Status). st.up ≡ true) (each_no (is_with S.protocol p) (λ st. risen (save_of k st)) c.procs q (with_none S.protocol p q alone ne)) (subst (λ (x : Core). (x.procs q).up ≡ true) is_d up))))
          (cases_eq p q))
          (cases_Bool (is_joint S.protocol)));
      shows = rw note r.shows;
    }

    -- an event
    note_event : (e : Event) (k : ℕ) → (c.procs p).up ≡ true → m ≡ event_mark e k → AllFollow (is_joint S.protocol) (noted o m ++ ns)
    note_event e k up mk = subst (λ (x : Option Entry). AllFollow (is_joint S.protocol) (noted x m ++ ns)) (sym entry_is) (subst (λ (y : Mark). AllFollow (is_joint S.protocol) (noted (Some (Turn (record { p = p; word = word; clock = clock }))) y ++ ns)) (sym mk) (by_event e))
      where
        by_event : (e : Event) → AllFollow (is_joint S.protocol) (noted (Some (Turn (record { p = p; word = word; clock = clock }))) (event_mark e k) ++ ns)
        by_event (AtVisible body) = (r.up p up, r.shows)
        by_event AtEnd = r.shows
        by_event AtInternal = r.shows
        by_event AtClock = r.shows
        by_event AtRandom = r.shows
        by_event AtInput = r.shows
        by_event AtReceive = r.shows
        by_event (AtSend to message) = r.shows

    part_up : (b : Answer) (rule : Rule) (rep : Bool) (x : Logged) (w : Place) (q : ℕ) → (left rule rep x (company S c p b) p c.procs w q).up ≡ true → (c.procs q).up ≡ true
    part_up b rule rep x w q on = ⊎_elim
        (λ (same : p ≡ q). subst (λ (y : ℕ). (left rule rep x (company S c p b) p c.procs w y).up ≡ true → (c.procs y).up ≡ true) same (λ h. own_up w (subst (λ (st : Status). st.up ≡ true) (turn_self S c p b rule rep x c.procs w) h)) on)
        (λ (ne : p ≢ q). ⊎_elim
        (λ (g : is_joint S.protocol ≡ true). beside_up w (subst (λ (st : Status). st.up ≡ true) (turn_beside S c p b rule rep x c.procs w q g ne) on))
        (λ (alone : is_joint S.protocol ≡ false). subst (λ (st : Status). st.up ≡ true) (turn_other S c p b rule rep x c.procs w q alone ne) on)
        (cases_Bool (is_joint S.protocol)))
        (cases_eq p q)
      where
        first_up : (n : ℕ) (b : Bool) (st : Status) → (first_as b n st).up ≡ true → st.up ≡ true
        first_up n true st h = h
        first_up n false st h = h

        second_up : (b : Bool) (y : Logged) (st : Status) → (second_of b y st).up ≡ true → st.up ≡ true
        second_up true y st h = h
        second_up false y st h = h

        own_up : (w : Place) → (left_as rule rep x ((company S c p b).numbers_before p) ((company S c p b).numbers_after p) (c.procs p) w).up ≡ true → (c.procs p).up ≡ true
        own_up Nowhere h = first_up _ rule.before (c.procs p) (second_up rule.log x (first_as rule.before ((company S c p b).numbers_before p) (c.procs p)) (first_up _ rule.after (third_as rule rep x ((company S c p b).numbers_before p) (c.procs p)) h))
        own_up InBefore h = absurd (true≢false (sym h))
        own_up InLog h = absurd (true≢false (sym h))
        own_up InEvent h = absurd (true≢false (sym h))
        own_up InAfter h = absurd (true≢false (sym h))

        beside_up : (w : Place) → (beside rule ((company S c p b).before q) ((company S c p b).after q) ((company S c p b).numbers_before q) ((company S c p b).numbers_after q) (c.procs q) w).up ≡ true → (c.procs q).up ≡ true
        beside_up Nowhere h = first_up _ (rule.before && (company S c p b).before q) (c.procs q) (first_up _ (rule.after && (company S c p b).after q) (first_as (rule.before && (company S c p b).before q) ((company S c p b).numbers_before q) (c.procs q)) h)
        beside_up InBefore h = absurd (true≢false (sym h ∙ torn_down ((company S c p b).before q) ((company S c p b).numbers_before q) (c.procs q)))
        beside_up InLog h = first_up _ (rule.before && (company S c p b).before q) (c.procs q) h
        beside_up InEvent h = absurd (true≢false (sym h))
        beside_up InAfter h = absurd (true≢false (sym h ∙ torn_down ((company S c p b).after q) ((company S c p b).numbers_after q) (first_as (rule.before && (company S c p b).before q) ((company S c p b).numbers_before q) (c.procs q))))

    abbrev a : Answer
    a = answer S.guests c p word clock

    turn_up : (t : ℕ) (w : Place) → d ≡ after_turn S t c p a w → (q : ℕ) → (d.procs q).up ≡ true → (c.procs q).up ≡ true
    turn_up t w is_d q on = part_up a (rule_at S c p a) (replays (comes S.guests (stands S.guests c p) a) (c.procs p)) (record { position = (c.procs p).position; answer = a }) w q (subst (λ (x : Core). (x.procs q).up ≡ true) is_d on)

    same_up : d ≡ c → (q : ℕ) → (d.procs q).up ≡ true → (c.procs q).up ≡ true
    same_up is_d q on = subst (λ (x : Core). (x.procs q).up ≡ true) is_d on

    takes_up : (t : ℕ) (e : Event) → (c.procs p).up ≡ true → Takes S c (record { t = t; p = p; answer = a }) e m d → Resumes S.protocol schedule from (m ∷ marks) d
    takes_up t e up (Nowhere, may, mk, is_d) = record { up = no_more_up (turn_up t Nowhere is_d); shows = note_event e (stands S.guests c p).visible up mk }
    takes_up t e up (InBefore, may, mk, is_d) = quiet (quiet_note o m (inl mk)) (turn_up t InBefore is_d)
    takes_up t e up (InLog, may, mk, is_d) = quiet (quiet_note o m (inl mk)) (turn_up t InLog is_d)
    takes_up t e up (InEvent, may, mk, is_d) = quiet (quiet_note o m (inl mk)) (turn_up t InEvent is_d)
    takes_up t e up (InAfter, may, mk, is_d) = quiet (quiet_note o m (inl mk)) (turn_up t InAfter is_d)

    block_up : (t : ℕ) (e : Event) (b : Bool) → (c.procs p).up ≡ true → TakesOr b S c (record { t = t; p = p; answer = a }) e m d → Resumes S.protocol schedule from (m ∷ marks) d
    block_up t e true up turned = quiet (quiet_note o m (inr (inr (inr (LinkFull, turned.0))))) (same_up turned.1)
    block_up t e false up turned = takes_up t e up turned

    runs_up : (t : ℕ) (e : Event) → (c.procs p).up ≡ true → Runs S c (record { t = t; p = p; answer = a }) e m d → Resumes S.protocol schedule from (m ∷ marks) d
    runs_up t AtEnd up turned = quiet (quiet_note o m (inr (inr (inr (Ended, turned.0))))) (same_up turned.1)
    runs_up t e up turned = block_up t e (is_blocked S c p e) up turned

    turn_resumes : (t : ℕ) (b : Bool) → (c.procs p).up ≡ b → RunsOr b S c (record { t = t; p = p; answer = a }) m d → Resumes S.protocol schedule from (m ∷ marks) d
    turn_resumes t true up turned = runs_up t (comes S.guests (stands S.guests c p) a) up turned
    turn_resumes t false down (inl (k, mk, is_d)) = risen_up k (save_of k (c.procs p)).position mk is_d
    turn_resumes t false down (inr (mk, is_d)) = quiet (quiet_note o m (inl mk)) (same_up is_d)

  falls_up : (test : ℕ → Bool) → d ≡ record { acts = c.acts; lines = c.lines; procs = each test fallen c.procs; ties = untied } → (q : ℕ) → (d.procs q).up ≡ true → (c.procs q).up ≡ true
  falls_up test is_d q on = let h : (each test fallen c.procs q).up ≡ true = subst (λ (x : Core). (x.procs q).up ≡ true) is_d on in
      cond_both (test q) (fallen (c.procs q)) (c.procs q) (λ (st : Status). st.up ≡ true → (c.procs q).up ≡ true) (λ _ x. absurd (true≢false (sym x))) (λ _ x. x) h

  resumes_next : (t : ℕ) (e : Option Entry) → slice_get schedule (from + length marks) ≡ e → IsSomeAnd e (λ entry. Turned S t c entry m d) → Resumes S.protocol schedule from (m ∷ marks) d
  resumes_next t None is turned = absurd turned
  resumes_next t (Some (Turn turn)) is turned = turn_resumes turn.p turn.word turn.clock is t (c.procs turn.p).up refl turned.1
  resumes_next t (Some (Stop p)) is turned = quiet (quiet_note o m (inr (inl turned.0))) (falls_up (is_with S.protocol p) turned.1)
  resumes_next t (Some Power) is turned = quiet (quiet_note o m (inr (inl turned.0))) (falls_up (λ q. true) turned.1)

-- wherever marks lead from a core with nobody up
pub resumes : {Mc : Type 0} (S : System Mc) (schedule : List Entry) (start : Start) → ((q : ℕ) → (start.core.procs q).up ≡ false) → (marks : List Mark) (d : Core)
    → LeadsTo S schedule start marks d → Resumes S.protocol schedule start.entries marks d
resumes S schedule start down [] d led = record { up = λ q on. absurd (true≢false (sym (subst (λ (x : Core). (x.procs q).up ≡ true) led on) ∙ down q)); shows = tt }
resumes S schedule start down (m ∷ marks) d (c, led, turned) = resumes_next S schedule start.entries marks c (resumes S schedule start down marks c led) m d (start.entries + length marks) (slice_get schedule (start.entries + length marks)) refl turned

pub resumed_follow : {Mc : Type 0} (S : System Mc) (schedule : List Entry) (start : Start) → ((q : ℕ) → (start.core.procs q).up ≡ false) → (marks : List Mark) (d : Core)
    → LeadsTo S schedule start marks d → AllFollow (is_joint S.protocol) (notes (drop start.entries schedule) marks)
resumed_follow S schedule start down marks d led = (resumes S schedule start down marks d led).shows

-- such a core is one from which marks may lead on
pub resumed_holds : {Mc : Type 0} (S : System Mc) (schedule : List Entry) (turn : ℕ) (acts : List Given) (lines : List Visible) (saves : ℕ → Save)
    → CanResume S schedule turn acts lines saves → Holds S schedule turn (resumed_core acts lines saves)
resumed_holds S schedule turn acts lines saves can = record {
  run = can.run;
  drawn = can.drawn;
  shown = can.shown;
  behind = λ p. record { older = can.each p; newer = can.each p; order = omega arith; running = λ on. absurd (true≢false (sym on)) };
  links = can.few;
  joint = λ g. record { together = λ p q. refl; older = can.closed g; newer = can.closed g; ahead = λ p on. absurd (true≢false (sym on)); beyond = λ q h. refl; traced = λ _ p on. absurd (true≢false (sym on)) };
}
