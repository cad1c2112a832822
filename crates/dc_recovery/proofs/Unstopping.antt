-- A run in which nothing stops.
use Rattle.std.proofs.Common.{◌≡◌, ◌≢◌, ◌∙◌, ℕ, ◌+◌, zero, suc, List, [], ◌∷◌, ◌++◌, length, refl, ap, subst, sym, arith, ⊎_elim, Bool, true, false, ◌&&◌, if◌then◌else◌, Option, Some, None, slice_get, map, IsSomeAnd}
use Rattle.std.proofs.lemmas.Bool.{cases_eq, le-ltb, cases_Bool}
use Rattle.dc_model.proofs.Own.{oldest_all, own_no, own_yes}
use Rattle.dc_model.specs.Guests.{Answer, Event}
use Rattle.dc_model.specs.Guests.Event.{AtClock, AtEnd, AtInput, AtInternal, AtRandom, AtReceive, AtSend, AtVisible}
use Rattle.dc_model.specs.Process.{Local, comes, local, shown}
use Rattle.dc_model.specs.Runs.{Given, own, visibles}
use Rattle.dc_model.specs.declared.entry.Entry.{Entry}
use Rattle.dc_model.specs.declared.entry.Entry.TheVariants.{Power, Stop, Turn}
use Rattle.dc_model.specs.declared.mark.Idle.{Idle}
use Rattle.dc_model.specs.declared.mark.Idle.TheVariants.{Ended, LinkFull}
use Rattle.dc_model.specs.declared.mark.Mark.{Mark}
use Rattle.dc_model.specs.declared.visible.Visible.{Visible}
use Rattle.dc_protocols.specs.Rules.{is_joint}
use Rattle.dc_protocols.specs.declared.protocol.Rule.{Rule}
use Rattle.dc_recovery.proofs.Parts.{turn_beside, turn_other, turn_self}
use Rattle.dc_recovery.proofs.Sorts.{beside}
use Rattle.dc_recovery.specs.Answers.{answer, is_blocked, replays, rule_at}
use Rattle.dc_recovery.specs.Core.{Core, Status, opened_core, opening, stands}
use Rattle.dc_recovery.specs.Parts.{first_as, left, left_as, second_of}
use Rattle.dc_recovery.specs.Parts.Place.{InAfter, InBefore, InEvent, InLog, Nowhere}
use Rattle.dc_recovery.specs.Saves.{Logged}
use Rattle.dc_recovery.specs.Systems.{System}
use Rattle.dc_recovery.specs.Ties.{company}
use Rattle.dc_recovery.specs.Turned.{LeadsTo, Runs, RunsOr, Takes, TakesOr, Turned, after_turn, event_mark, with_act}
use Rattle.dc_recovery.specs.Unstopped.{AreTurns, IsDetermined, Unstopped, entry_taken, is_taken, taken, taken_or, taken_turns}
use Rattle.dc_model.specs.declared.mark.Mark.TheVariants as mark

-- all are up, and none is behind
pub record AllHere (c : Core) : Type 0 where
  pub up : (q : ℕ) → (c.procs q).up ≡ true
  pub end : (q : ℕ) → (c.procs q).position ≡ length (own q c.acts)

first_up : (n : ℕ) (b : Bool) (st : Status) → (first_as b n st).up ≡ st.up
first_up n true st = refl
first_up n false st = refl

first_at : (n : ℕ) (b : Bool) (st : Status) → (first_as b n st).position ≡ st.position
first_at n true st = refl
first_at n false st = refl

second_up : (b : Bool) (x : Logged) (st : Status) → (second_of b x st).up ≡ st.up
second_up true x st = refl
second_up false x st = refl

second_at : (b : Bool) (x : Logged) (st : Status) → (second_of b x st).position ≡ st.position
second_at true x st = refl
second_at false x st = refl

whole_up : (f : Rule) (rep : Bool) (x : Logged) (n m : ℕ) (st : Status) → (left_as f rep x n m st Nowhere).up ≡ st.up
whole_up f rep x n m st = first_up m f.after _ ∙ second_up f.log x _ ∙ first_up n f.before st

whole_at : (f : Rule) (rep : Bool) (x : Logged) (n m : ℕ) (st : Status) → (left_as f rep x n m st Nowhere).position ≡ suc st.position
whole_at f rep x n m st = first_at m f.after _ ∙ ap suc (second_at f.log x _ ∙ first_at n f.before st)

beside_up : (f : Rule) (b a : Bool) (n m : ℕ) (st : Status) → (beside f b a n m st Nowhere).up ≡ st.up
beside_up f b a n m st = first_up m (f.after && a) _ ∙ first_up n (f.before && b) st

beside_at : (f : Rule) (b a : Bool) (n m : ℕ) (st : Status) → (beside f b a n m st Nowhere).position ≡ st.position
beside_at f b a n m st = first_at m (f.after && a) _ ∙ first_at n (f.before && b) st

module _ {Mc : Type 0} (S : System Mc) (c : Core) (p : ℕ) (a : Answer) (f : Rule) (rep : Bool) (x : Logged) (procs : ℕ → Status) where
  rest_part : {A : Type 0} (part : Status → A) → ((b d : Bool) (n m : ℕ) (st : Status) → part (beside f b d n m st Nowhere) ≡ part st) → (q : ℕ) → p ≢ q → part (left f rep x (company S c p a) p procs Nowhere q) ≡ part (procs q)
  rest_part part same q ne = ⊎_elim
      (λ (g : is_joint S.protocol ≡ true). ap part (turn_beside S c p a f rep x procs Nowhere q g ne) ∙ same ((company S c p a).before q) ((company S c p a).after q) ((company S c p a).numbers_before q) ((company S c p a).numbers_after q) (procs q))
      (λ (g : is_joint S.protocol ≡ false). ap part (turn_other S c p a f rep x procs Nowhere q g ne))
      (cases_Bool (is_joint S.protocol))

  up_all : (q : ℕ) → (left f rep x (company S c p a) p procs Nowhere q).up ≡ (procs q).up
  up_all q = ⊎_elim
      (λ (same : p ≡ q). subst (λ (y : ℕ). (left f rep x (company S c p a) p procs Nowhere y).up ≡ (procs y).up) same (ap (λ (st : Status). st.up) (turn_self S c p a f rep x procs Nowhere) ∙ whole_up f rep x ((company S c p a).numbers_before p) ((company S c p a).numbers_after p) (procs p)))
      (λ (ne : p ≢ q). rest_part (λ st. st.up) (beside_up f) q ne)
      (cases_eq p q)

module _ {Mc : Type 0} (S : System Mc) (t : ℕ) (c : Core) (here : AllHere c) (p : ℕ) (a : Answer) where
  abbrev this : Given
  this = record { t = t; p = p; answer = a }

  act_new : with_act t c p a ≡ this ∷ c.acts
  act_new = rw (le-ltb (c.procs p).position (length (own p c.acts)) (let k = here.end p in omega arith)) refl

  end_next : (q : ℕ) → ((after_turn S t c p a Nowhere).procs q).position ≡ length (own q (this ∷ c.acts))
  end_next q = ⊎_elim
      (λ (same : p ≡ q). subst (λ (y : ℕ). ((after_turn S t c p a Nowhere).procs y).position ≡ length (own y (this ∷ c.acts))) same
      (ap (λ (st : Status). st.position) (turn_self S c p a (rule_at S c p a) (replays (comes S.guests (stands S.guests c p) a) (c.procs p)) (record { position = (c.procs p).position; answer = a }) c.procs Nowhere)
      ∙ whole_at (rule_at S c p a) _ _ _ _ (c.procs p) ∙ ap suc (here.end p) ∙ sym (ap (λ (ds : List Answer). length ds) (own_yes this c.acts p refl))))
      (λ (ne : p ≢ q). rest_part S c p a (rule_at S c p a) (replays (comes S.guests (stands S.guests c p) a) (c.procs p)) (record { position = (c.procs p).position; answer = a }) c.procs (λ st. st.position) (beside_at (rule_at S c p a)) q ne
      ∙ here.end q ∙ sym (ap (λ (ds : List Answer). length ds) (own_no this c.acts q ne)))
      (cases_eq p q)

  pub here_next : AllHere (after_turn S t c p a Nowhere)
  here_next = record {
    up = λ q. up_all S c p a (rule_at S c p a) (replays (comes S.guests (stands S.guests c p) a) (c.procs p)) (record { position = (c.procs p).position; answer = a }) c.procs q ∙ here.up q;
    end = λ q. subst (λ (ts : List Given). ((after_turn S t c p a Nowhere).procs q).position ≡ length (own q ts)) (sym act_new) (end_next q);
  }

  pub lines_next : c.lines ≡ visibles S.guests c.acts → (after_turn S t c p a Nowhere).lines ≡ visibles S.guests (after_turn S t c p a Nowhere).acts
  lines_next same = ap (λ (ls : List Visible). shown S.guests p (stands S.guests c p) a ++ ls) same
      ∙ ap (λ (l : Local _). shown S.guests p l a ++ visibles S.guests c.acts) (ap (local S.guests p) (oldest_all (c.procs p).position (own p c.acts) (let k = here.end p in omega arith)))
      ∙ ap (visibles S.guests) (sym act_new)

  pub turns_next : map (λ x. x.t) (after_turn S t c p a Nowhere).acts ≡ t ∷ map (λ x. x.t) c.acts
  turns_next = ap (λ (ts : List Given). map (λ x. x.t) ts) act_new

-- one entry: what it does is what the function says, and all are still there
pub record Step {Mc : Type 0} (S : System Mc) (t : ℕ) (c : Core) (entry : Entry) (m : Mark) (d : Core) : Type 0 where
  pub is : (m, d) ≡ entry_taken S t c entry
  pub here : AllHere d
  pub lines : d.lines ≡ visibles S.guests d.acts
  pub turns : map (λ x. x.t) d.acts ≡ (if is_taken m then t ∷ map (λ x. x.t) c.acts else map (λ x. x.t) c.acts)

abbrev pub IsTurn : Entry → Type 0
IsTurn (Turn turn) = Unit {0}
IsTurn _ = ⊥

module _ {Mc : Type 0} (S : System Mc) (t : ℕ) (c : Core) (here : AllHere c) (lines : c.lines ≡ visibles S.guests c.acts) (p : ℕ) (a : Answer) (m : Mark) (d : Core) (whole : m ≢ mark.Stopped) where
  pub record StepBy (e : Event) (result : Mark × Core) : Type 0 where
    pub equal : (m, d) ≡ result
    pub all_here : AllHere d
    pub all_lines : d.lines ≡ visibles S.guests d.acts
    pub all_turns : map (λ x. x.t) d.acts ≡ (if is_taken m then t ∷ map (λ x. x.t) c.acts else map (λ x. x.t) c.acts)

  taken_mark : (e : Event) (k : ℕ) → is_taken (event_mark e k) ≡ true
  taken_mark (AtVisible body) k = refl
  taken_mark AtEnd k = refl
  taken_mark AtInternal k = refl
  taken_mark AtClock k = refl
  taken_mark AtRandom k = refl
  taken_mark AtInput k = refl
  taken_mark AtReceive k = refl
  taken_mark (AtSend to message) k = refl

  idle_step : (e : Event) (i : Idle) → m ≡ mark.Idle i → d ≡ c → StepBy e (mark.Idle i, c)
  idle_step e i mk is = record { equal = λ j. (mk j, is j); all_here = subst AllHere (sym is) here; all_lines = rw is lines; all_turns = rw (mk, is) refl }

  whole_step : (e : Event) → m ≡ event_mark e (stands S.guests c p).visible → d ≡ after_turn S t c p a Nowhere → StepBy e (event_mark e (stands S.guests c p).visible, after_turn S t c p a Nowhere)
  whole_step e mk is = record {
    equal = λ j. (mk j, is j);
    all_here = subst AllHere (sym is) (here_next S t c here p a);
    all_lines = rw is (lines_next S t c here p a lines);
    all_turns = rw (mk, is, taken_mark e (stands S.guests c p).visible) (turns_next S t c here p a);
  }

  takes_step : (e : Event) → Takes S c (record { t = t; p = p; answer = a }) e m d → StepBy e (event_mark e (stands S.guests c p).visible, after_turn S t c p a Nowhere)
  takes_step e (Nowhere, may, mk, is) = whole_step e mk is
  takes_step e (InBefore, may, mk, is) = absurd (whole mk)
  takes_step e (InLog, may, mk, is) = absurd (whole mk)
  takes_step e (InEvent, may, mk, is) = absurd (whole mk)
  takes_step e (InAfter, may, mk, is) = absurd (whole mk)

  block_step : (e : Event) (b : Bool) → TakesOr b S c (record { t = t; p = p; answer = a }) e m d → StepBy e (taken_or b S c (record { t = t; p = p; answer = a }) e)
  block_step e true turned = idle_step e LinkFull turned.0 turned.1
  block_step e false turned = takes_step e turned

  pub event_step : (e : Event) → Runs S c (record { t = t; p = p; answer = a }) e m d → StepBy e (taken S c (record { t = t; p = p; answer = a }) e)
  event_step AtEnd turned = idle_step AtEnd Ended turned.0 turned.1
  event_step AtInternal turned = block_step AtInternal (is_blocked S c p AtInternal) turned
  event_step AtClock turned = block_step AtClock (is_blocked S c p AtClock) turned
  event_step AtRandom turned = block_step AtRandom (is_blocked S c p AtRandom) turned
  event_step AtInput turned = block_step AtInput (is_blocked S c p AtInput) turned
  event_step AtReceive turned = block_step AtReceive (is_blocked S c p AtReceive) turned
  event_step (AtVisible body) turned = block_step (AtVisible body) (is_blocked S c p (AtVisible body)) turned
  event_step (AtSend to message) turned = block_step (AtSend to message) (is_blocked S c p (AtSend to message)) turned

pub step : {Mc : Type 0} (S : System Mc) (t : ℕ) (c : Core) → AllHere c → c.lines ≡ visibles S.guests c.acts → (entry : Entry) → IsTurn entry → (m : Mark) (d : Core) → m ≢ mark.Stopped → Turned S t c entry m d → Step S t c entry m d
step S t c here lines (Turn turn) is m d whole turned =
    let a : Answer = answer S.guests c turn.p turn.word turn.clock in
    let x : Given = record { t = t; p = turn.p; answer = a } in
    let runs : Runs S c x (comes S.guests (stands S.guests c turn.p) a) m d = subst (λ (b : Bool). RunsOr b S c x m d) (here.up turn.p) turned.1 in
    let s = event_step S t c here lines turn.p a m d whole (comes S.guests (stands S.guests c turn.p) a) runs in
    record { is = s.equal; here = s.all_here; lines = s.all_lines; turns = s.all_turns }
step S t c here lines (Stop p) is m d whole turned = absurd is
step S t c here lines Power is m d whole turned = absurd is

turn_at : (schedule : List Entry) (i : ℕ) (entry : Entry) → AreTurns schedule → slice_get schedule i ≡ Some entry → IsTurn entry
turn_at [] i entry turns is = let off : ⊥ = cc in absurd off
turn_at (Turn turn ∷ schedule) zero entry turns is = let e : Turn turn ≡ entry = cc in subst IsTurn e tt
turn_at (Turn turn ∷ schedule) (suc i) entry turns is = turn_at schedule i entry turns is
turn_at (Stop p ∷ schedule) i entry turns is = absurd turns
turn_at (Power ∷ schedule) i entry turns is = absurd turns

-- where marks lead without a stop
pub record Lead {Mc : Type 0} (S : System Mc) (schedule : List Entry) (marks : List Mark) (c : Core) : Type 0 where
  pub here : AllHere c
  pub lines : c.lines ≡ visibles S.guests c.acts
  pub turns : map (λ x. x.t) c.acts ≡ taken_turns marks

module _ {Mc : Type 0} (S : System Mc) (schedule : List Entry) (only : AreTurns schedule) where
  abbrev Leads : List Mark → Core → Type 0
  Leads marks c = LeadsTo S schedule (opening (λ p. true)) marks c

  open_lead : Lead S schedule [] (opened_core (λ p. true))
  open_lead = record { here = record { up = λ q. refl; end = λ q. refl }; lines = refl; turns = refl }

  one_step : (n : ℕ) (marks : List Mark) (c : Core) → Lead S schedule marks c → (o : Option Entry) → slice_get schedule n ≡ o → (m : Mark) (d : Core) → m ≢ mark.Stopped
      → IsSomeAnd o (λ entry. Turned S n c entry m d) → (entry : Entry) × (o ≡ Some entry) × Step S n c entry m d
  one_step n marks c lead None is m d whole turned = absurd turned
  one_step n marks c lead (Some entry) is m d whole turned = (entry, refl, step S n c lead.here lead.lines entry (turn_at schedule n entry only is) m d whole turned)

  pub lead : (marks : List Mark) (c : Core) → Leads marks c → Unstopped marks → Lead S schedule marks c
  lead [] d led whole = rw led open_lead
  lead (m ∷ marks) d (c, led, turned) whole = let l : Lead S schedule marks c = lead marks c led whole.1 in
      let s = one_step (0 + length marks) marks c l (slice_get schedule (0 + length marks)) refl m d whole.0 turned in record {
        here = s.2.here;
        lines = s.2.lines;
        turns = s.2.turns ∙ ap (λ (ts : List ℕ). if is_taken m then (0 + length marks) ∷ ts else ts) l.turns ∙ (let e : 0 + length marks ≡ length marks = omega arith in ap (λ (n : ℕ). if is_taken m then n ∷ taken_turns marks else taken_turns marks) e);
      }

  -- two that are as long are the same
  pub alike : (marks : List Mark) (c : Core) → Leads marks c → Unstopped marks → (others : List Mark) (d : Core) → Leads others d → Unstopped others → length others ≡ length marks → (others ≡ marks) × (d ≡ c)
  alike [] c led whole [] d led2 whole2 same = (refl, led2 ∙ sym led)
  alike [] c led whole (m ∷ others) d led2 whole2 same = absurd (omega arith)
  alike (m ∷ marks) c led whole [] d led2 whole2 same = absurd (omega arith)
  alike (m ∷ marks) c (c0, led, turned) whole (n ∷ others) d (d0, led2, turned2) whole2 same =
      let k : length others ≡ length marks = omega arith in
      let before = alike marks c0 led whole.1 others d0 led2 whole2.1 k in
      let s = one_step (0 + length marks) marks c0 (lead marks c0 led whole.1) (slice_get schedule (0 + length marks)) refl m c whole.0 turned in
      let turned3 : IsSomeAnd (slice_get schedule (0 + length marks)) (λ entry. Turned S (0 + length marks) c0 entry n d) =
      subst (λ (x : Core). IsSomeAnd (slice_get schedule (0 + length marks)) (λ entry. Turned S (0 + length marks) x entry n d)) before.1
      (subst (λ (i : ℕ). IsSomeAnd (slice_get schedule (0 + i)) (λ entry. Turned S (0 + i) d0 entry n d)) k turned2) in
      let r = one_step (0 + length marks) marks c0 (lead marks c0 led whole.1) (slice_get schedule (0 + length marks)) refl n d whole2.0 turned3 in
      let entries : r.0 ≡ s.0 = some_same r.0 s.0 (sym r.1 ∙ s.1) in
      let both : (n, d) ≡ (m, c) = r.2.is ∙ ap (λ (entry : Entry). entry_taken S (0 + length marks) c0 entry) entries ∙ sym s.2.is in
      (λ i. (both i).0 ∷ before.0 i, λ i. (both i).1)
    where
      some_same : (x y : Entry) → Some x ≡ Some y → x ≡ y
      some_same x y e = cc

  pub determined : (marks : List Mark) (c : Core) → Leads marks c → Unstopped marks → IsDetermined S schedule marks c
  determined marks c led whole = let l : Lead S schedule marks c = lead marks c led whole in record {
    same = λ others d led2 whole2 same. alike marks c led whole others d led2 whole2 same;
    lines = l.lines;
    turns = l.turns;
  }
