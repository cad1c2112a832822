-- One entry more: what holds wherever marks have led holds after it.
use Rattle.std.proofs.Common.{◌≡◌, ◌≢◌, ◌∙◌, ℕ, ◌+◌, ◌<◌, ◌≤◌, suc, List, [], ◌∷◌, ◌++◌, length, refl, ap, subst, sym, arith, ⊎_elim, inl, Bool, true, false, ◌&&◌, if◌then◌else◌, Option, Some, slice_get, drop, map, IfSome, reverse}
use Rattle.std.proofs.lemmas.Bool.{cases_eq, cases_Bool, true≢false}
use Rattle.dc_model.proofs.Thinning.{unseen, visibles_distinct}
use Rattle.dc_model.specs.Guests.{Answer, Event}
use Rattle.dc_model.specs.Guests.Event.{AtClock, AtEnd, AtInput, AtInternal, AtRandom, AtReceive, AtSend, AtVisible}
use Rattle.dc_model.specs.Process.{Local, at_position, comes, fits, moved, shows, visible_of}
use Rattle.dc_model.specs.Repeats.{NotSince, Note, RepeatsFirst, RepeatsFollow, noted, notes, numbers}
use Rattle.dc_model.specs.Repeats.Note.{Recovers}
use Rattle.dc_model.specs.Runs.{own, state, visibles}
use Rattle.dc_model.specs.FailureFree.{find}
use Rattle.dc_model.specs.declared.entry.Entry.{Entry}
use Rattle.dc_model.specs.declared.entry.Entry.TheVariants.{Turn}
use Rattle.dc_model.specs.declared.mark.Mark.{Mark}
use Rattle.dc_model.specs.declared.visible.Body.{Body}
use Rattle.dc_model.specs.declared.visible.Visible.{Visible}
use Rattle.dc_protocols.specs.Rules.{is_joint}
use Rattle.dc_protocols.specs.declared.protocol.Rule.{Rule}
use Rattle.dc_recovery.proofs.Given.{IsDrawnAt, IsGiven, IsMailUp, answer_drawn, answer_told}
use Rattle.dc_recovery.proofs.Holding.{holds_falls, holds_idle, holds_rise, holds_turn, rise_own_none}
use Rattle.dc_recovery.proofs.Lines.{find_reverse, found_first, there}
use Rattle.dc_recovery.proofs.Parts.{each_no, turn_beside, turn_other, turn_self, with_none}
use Rattle.dc_recovery.proofs.Sorts.{beside, torn_down}
use Rattle.dc_recovery.proofs.Worlds.{lines_of, own_after_other, stands_last, stands_next}
use Rattle.dc_recovery.specs.Answers.{answer, is_blocked, replays, rule_at, since, stores_at}
use Rattle.dc_recovery.specs.Core.{Core, Start, Status, Which, save_of, stands, untied}
use Rattle.dc_recovery.specs.Invariant.{Holds}
use Rattle.dc_recovery.specs.Parts.{Place, each, fallen, first_as, is_with, left_as, may_stop, risen, second_of}
use Rattle.dc_recovery.specs.Parts.Place.{InAfter, InBefore, InEvent, InLog, Nowhere}
use Rattle.dc_recovery.specs.Saves.{Logged, cut}
use Rattle.dc_recovery.specs.Systems.{IsSound, System}
use Rattle.dc_recovery.specs.Ties.{company}
use Rattle.dc_recovery.specs.Turned.{after_rise, after_turn, event_mark, is_whole, reaches, turn_mark, with_act}
use Rattle.dc_model.specs.declared.mark.Mark.TheVariants as mark
use Rattle.dc_recovery.proofs.Follows.{Follows, get_drop, quiet_note, shown_note}

module _ {Mc : Type 0} (S : System Mc) (sound : IsSound S) (schedule : List Entry) (start : Start) (marks : List Mark) (c : Core)
    (f : Follows S schedule start marks c) where
  abbrev t : ℕ
  t = start.entries + length marks

  abbrev ns : List Note
  ns = notes (drop start.entries schedule) marks

  -- the next turn's number
  abbrev later : (d : Core) → Type 0
  later d = Holds S schedule (suc (start.entries + length marks)) d

  next_turn : (m : Mark) (d : Core) → later d → Holds S schedule (start.entries + length (m ∷ marks)) d
  next_turn m d h = let e : suc (start.entries + length marks) ≡ start.entries + suc (length marks) = omega arith in subst (λ (n : ℕ). Holds S schedule n d) e h

  entry_here : (entry : Entry) → slice_get schedule t ≡ Some entry → slice_get (drop start.entries schedule) (length marks) ≡ Some entry
  entry_here entry is = get_drop schedule start.entries (length marks) ∙ is

  -- an entry of which nothing is noted, and no line is written
  follows_quiet : (m : Mark) (d : Core) → noted (slice_get (drop start.entries schedule) (length marks)) m ≡ [] → later d → d.lines ≡ c.lines
      → ((q : ℕ) → (d.procs q).up ≡ true → ((c.procs q).up ≡ true) × (stands S.guests d q ≡ stands S.guests c q))
      → Follows S schedule start (m ∷ marks) d
  follows_quiet m d none h lines same = record {
    now = next_turn m d h;
    recent = λ p up k past. rw none (f.recent p (same p up).0 k (subst (λ (l : Local _). l.visible ≤ k) (same p up).1 past));
    numbered = rw (none, lines) f.numbered;
    agree = rw lines f.agree;
    follow = rw none f.follow;
  }

  pub follows_idle : (m : Mark) → noted (slice_get (drop start.entries schedule) (length marks)) m ≡ [] → Follows S schedule start (m ∷ marks) c
  follows_idle m none = follows_quiet m c none (holds_idle S sound schedule t c f.now) refl (λ q up. (up, refl))

  -- a fall
  pub follows_falls : (m : Mark) (test : ℕ → Bool) → (is_joint S.protocol ≡ true → (q : ℕ) → test q ≡ true) → noted (slice_get (drop start.entries schedule) (length marks)) m ≡ []
      → Follows S schedule start (m ∷ marks) (record { acts = c.acts; lines = c.lines; procs = each test fallen c.procs; ties = untied })
  follows_falls m test all none = follows_quiet m _ none (holds_falls S sound schedule t c f.now test all) refl
      (λ q. ⊎_elim
      (λ on. λ up. absurd (true≢false (sym up ∙ ap (λ (b : Bool). (if b then fallen (c.procs q) else c.procs q).up) on)))
      (λ off. let e : each test fallen c.procs q ≡ c.procs q = ap (λ (b : Bool). if b then fallen (c.procs q) else c.procs q) off in
      λ up. (subst (λ (st : Status). st.up ≡ true) e up, ap (λ (st : Status). at_position S.guests q st.position (own q c.acts)) e))
      (cases_Bool (test q)))

  -- a recovery
  pub follows_rise : (p word clock : ℕ) → slice_get schedule t ≡ Some (Turn (record { p = p; word = word; clock = clock })) → (down : (c.procs p).up ≡ false) (k : Which) (at : ℕ)
      → Follows S schedule start (mark.Recovered at ∷ marks) (after_rise S c p k)
  follows_rise p word clock is down k at = let note : noted (slice_get (drop start.entries schedule) (length marks)) (mark.Recovered at) ≡ Recovers p ∷ [] = rw (entry_here _ is) refl in record {
    now = next_turn (mark.Recovered at) _ (holds_rise S sound schedule t c f.now p down k);
    recent = λ q up n past. rw note (λ alone ne.
        let off : is_with S.protocol p q ≡ false = with_none S.protocol p q alone ne in
        let same : (after_rise S c p k).procs q ≡ c.procs q = each_no (is_with S.protocol p) (λ st. risen (save_of k st)) c.procs q off in
        let l : stands S.guests (after_rise S c p k) q ≡ stands S.guests c q = ap (λ (st : Status). at_position S.guests q st.position (own q (cut (reaches S c p k) c.acts))) same ∙ ap (λ (ds : List Answer). at_position S.guests q (c.procs q).position ds) (rise_own_none S sound schedule t c f.now p down k q off) in
        f.recent q (subst (λ (st : Status). st.up ≡ true) same up) n (subst (λ (x : Local _). x.visible ≤ n) l past));
    numbered = rw note f.numbered;
    agree = f.agree;
    follow = rw note f.follow;
  }

  -- a turn of a process that is up
  module _ (p word clock : ℕ) (is : slice_get schedule t ≡ Some (Turn (record { p = p; word = word; clock = clock }))) (inside : p < S.guests.count) (up : (c.procs p).up ≡ true)
      (live : comes S.guests (stands S.guests c p) (answer S.guests c p word clock) ≢ AtEnd) (free : is_blocked S c p (comes S.guests (stands S.guests c p) (answer S.guests c p word clock)) ≡ false) where
    abbrev a : Answer
    a = answer S.guests c p word clock

    told : IsGiven S.guests c p (answer S.guests c p word clock)
    told = answer_told S.guests c p word clock ((f.now.behind p).running up).ok.within live

    draws : length (own p c.acts) ≤ (c.procs p).position → IsDrawnAt S.guests.count schedule t p (answer S.guests c p word clock)
    draws h = answer_drawn S.guests c p word clock schedule t is h

    turn_holds : (w : Place) → may_stop (rule_at S c p a) (stores_at S.guests c p a) (comes S.guests (stands S.guests c p) a) a w ≡ true → later (after_turn S t c p a w)
    turn_holds w may = holds_turn S sound schedule t c f.now p (answer S.guests c p word clock) told up inside draws free w may

    abbrev x : Logged
    x = record { position = (c.procs p).position; answer = a }

    abbrev rep : Bool
    rep = replays (comes S.guests (stands S.guests c p) a) (c.procs p)

    -- the others stand where they stood
    beside_same : (fr : Rule) (b d : Bool) (n m : ℕ) (st : Status) (w : Place) → (beside fr b d n m st w).up ≡ true → (st.up ≡ true) × ((beside fr b d n m st w).position ≡ st.position)
    beside_same fr b d n m st Nowhere h = both (fr.before && b) (fr.after && d) st h
      where
        both : (b d : Bool) (st : Status) → (first_as d m (first_as b n st)).up ≡ true → (st.up ≡ true) × ((first_as d m (first_as b n st)).position ≡ st.position)
        both true true st h = (h, refl)
        both true false st h = (h, refl)
        both false true st h = (h, refl)
        both false false st h = (h, refl)
    beside_same fr b d n m st InBefore h = absurd (true≢false (sym h ∙ torn_down b n st))
    beside_same fr b d n m st InLog h = one (fr.before && b) st h
      where
        one : (b : Bool) (st : Status) → (first_as b n st).up ≡ true → (st.up ≡ true) × ((first_as b n st).position ≡ st.position)
        one true st h = (h, refl)
        one false st h = (h, refl)
    beside_same fr b d n m st InEvent h = absurd (true≢false (sym h))
    beside_same fr b d n m st InAfter h = absurd (true≢false (sym h ∙ torn_down d m (first_as (fr.before && b) n st)))

    rest_same : (w : Place) (q : ℕ) → p ≢ q → ((after_turn S t c p a w).procs q).up ≡ true → ((c.procs q).up ≡ true) × (stands S.guests (after_turn S t c p a w) q ≡ stands S.guests c q)
    rest_same w q ne on = ⊎_elim
        (λ (g : is_joint S.protocol ≡ true).
        let e : (after_turn S t c p a w).procs q ≡ beside (rule_at S c p a) ((company S c p a).before q) ((company S c p a).after q) ((company S c p a).numbers_before q) ((company S c p a).numbers_after q) (c.procs q) w = turn_beside S c p a (rule_at S c p a) rep x c.procs w q g ne in
        let k = beside_same (rule_at S c p a) ((company S c p a).before q) ((company S c p a).after q) ((company S c p a).numbers_before q) ((company S c p a).numbers_after q) (c.procs q) w (subst (λ (st : Status). st.up ≡ true) e on) in (
          k.0,
          ap (λ (st : Status). at_position S.guests q st.position (own q (after_turn S t c p a w).acts)) e ∙ ap (λ (n : ℕ). at_position S.guests q n (own q (after_turn S t c p a w).acts)) k.1
              ∙ ap (λ (ds : List Answer). at_position S.guests q (c.procs q).position ds) (own_after_other S sound schedule t c f.now p a told up inside w q ne),
        ))
        (λ (g : is_joint S.protocol ≡ false).
        let e : (after_turn S t c p a w).procs q ≡ c.procs q = turn_other S c p a (rule_at S c p a) rep x c.procs w q g ne in (
          subst (λ (st : Status). st.up ≡ true) e on,
          ap (λ (st : Status). at_position S.guests q st.position (own q (after_turn S t c p a w).acts)) e
              ∙ ap (λ (ds : List Answer). at_position S.guests q (c.procs q).position ds) (own_after_other S sound schedule t c f.now p a told up inside w q ne),
        ))
        (cases_Bool (is_joint S.protocol))

    down_here : (w : Place) → is_whole w ≡ false → ((after_turn S t c p a w).procs p).up ≡ false
    down_here w e = ap (λ (st : Status). st.up) (turn_self S c p a (rule_at S c p a) rep x c.procs w) ∙ fallen_by w e
      where
        fallen_by : (w : Place) → is_whole w ≡ false → (left_as (rule_at S c p a) rep x ((company S c p a).numbers_before p) ((company S c p a).numbers_after p) (c.procs p) w).up ≡ false
        fallen_by Nowhere e = absurd (true≢false e)
        fallen_by InBefore e = refl
        fallen_by InLog e = refl
        fallen_by InEvent e = refl
        fallen_by InAfter e = refl

    follows_stopped : (w : Place) → is_whole w ≡ false → may_stop (rule_at S c p a) (stores_at S.guests c p a) (comes S.guests (stands S.guests c p) a) a w ≡ true → (after_turn S t c p a w).lines ≡ c.lines
        → Follows S schedule start (mark.Stopped ∷ marks) (after_turn S t c p a w)
    follows_stopped w cut_off may lines = follows_quiet mark.Stopped _ (quiet_note _ mark.Stopped (inl refl)) (turn_holds w may) lines
        (λ q on. ⊎_elim
        (λ (same : p ≡ q). absurd (true≢false (sym on ∙ subst (λ (y : ℕ). ((after_turn S t c p a w).procs y).up ≡ false) same (down_here w cut_off))))
        (λ (ne : p ≢ q). rest_same w q ne on)
        (cases_eq p q))

    at_next : (fr : Rule) (n m : ℕ) (st : Status) → (left_as fr rep x n m st Nowhere).position ≡ suc st.position
    at_next fr n m st = last_at_same m fr.after _ ∙ ap suc (second_at_same fr.log x _ ∙ last_at_same n fr.before st)
      where
        last_at_same : (k : ℕ) (b : Bool) (s : Status) → (first_as b k s).position ≡ s.position
        last_at_same k true s = refl
        last_at_same k false s = refl

        second_at_same : (b : Bool) (y : Logged) (s : Status) → (second_of b y s).position ≡ s.position
        second_at_same true y s = refl
        second_at_same false y s = refl

    pub stands_after : stands S.guests (after_turn S t c p a Nowhere) p ≡ moved S.guests (stands S.guests c p) a
    stands_after = ap (λ (n : ℕ). at_position S.guests p n (own p (with_act t c p a))) (ap (λ (st : Status). st.position) (turn_self S c p a (rule_at S c p a) rep x c.procs Nowhere) ∙ at_next (rule_at S c p a) ((company S c p a).numbers_before p) ((company S c p a).numbers_after p) (c.procs p))
        ∙ stands_next S.guests t c p a f.now.run told

    -- the notes of a whole event
    note_of : (ev : Event) (k : ℕ) → noted (slice_get (drop start.entries schedule) (length marks)) (event_mark ev k) ≡ shown_note p k ev
    note_of ev k = ap (λ (o : Option Entry). noted o (event_mark ev k)) (entry_here _ is) ∙ by_event ev
      where
        by_event : (ev : Event) → noted (Some (Turn (record { p = p; word = word; clock = clock }))) (event_mark ev k) ≡ shown_note p k ev
        by_event (AtVisible body) = refl
        by_event AtEnd = refl
        by_event AtInternal = refl
        by_event AtClock = refl
        by_event AtRandom = refl
        by_event AtInput = refl
        by_event AtReceive = refl
        by_event (AtSend to message) = refl

    not_since_other : (q k j : ℕ) (ev : Event) → (p ≡ q → shows ev ≡ 1 → j ≢ k) → NotSince (is_joint S.protocol) q k ns → NotSince (is_joint S.protocol) q k (shown_note p j ev ++ ns)
    not_since_other q k j (AtVisible body) apart rest = (λ same. apart same refl, rest)
    not_since_other q k j _ apart rest = rest

    numbered_more : (ev : Event) (k : ℕ) (lines : List Visible) (more : List (ℕ × ℕ)) → map (λ x. (x.p, x.k)) lines ≡ numbers ns ++ more → map (λ x. (x.p, x.k)) (visible_of p k ev ++ lines) ≡ numbers (shown_note p k ev ++ ns) ++ more
    numbered_more (AtVisible body) k lines more same = ap (λ w. (p, k) ∷ w) same
    numbered_more _ k lines more same = same

    follow_more : (ev : Event) (k : ℕ) → NotSince (is_joint S.protocol) p k ns → RepeatsFollow (is_joint S.protocol) ns → RepeatsFollow (is_joint S.protocol) (shown_note p k ev ++ ns)
    follow_more (AtVisible body) k since follow = (since, follow)
    follow_more _ k since follow = follow

    agree_more : (ev : Event) → comes S.guests (stands S.guests c p) a ≡ ev → RepeatsFirst (length start.core.lines) (visible_of p (stands S.guests c p).visible ev ++ c.lines)
    agree_more (AtVisible body) at = (λ _. new_body, f.agree)
      where
        found_here : find p (stands S.guests c p).visible (reverse c.lines) ≡ find p (stands S.guests c p).visible (visibles S.guests c.acts)
        found_here = found_first c.lines (visibles S.guests c.acts) (lines_of S schedule t c f.now) p (stands S.guests c p).visible ∙ find_reverse (visibles S.guests c.acts) p (stands S.guests c p).visible (visibles_distinct S.guests c.acts)

        new_body : IfSome (find p (stands S.guests c p).visible (reverse c.lines)) (λ b. b ≡ body)
        new_body = subst (λ (y : Option Body). IfSome y (λ b. b ≡ body)) (sym found_here) (⊎_elim
            (λ y. subst (λ (z : Option Body). IfSome z (λ b. b ≡ body)) (sym (there S.guests c.acts p (c.procs p).position a body y.0 y.1 at)) refl)
            (λ (y : ((c.procs p).position ≡ length (own p c.acts)) × (fits S.guests p (stands S.guests c p) a ≡ true) × IsMailUp S.guests c p a). let here : length (own p c.acts) ≤ (c.procs p).position = omega (arith, y.0) in
            let all : stands S.guests c p ≡ state S.guests c.acts p = stands_last S.guests t c p a f.now.run p here in
            subst (λ (z : Option Body). IfSome z (λ b. b ≡ body)) (sym (unseen S.guests c.acts p (stands S.guests c p).visible (rw all (omega arith)))) tt)
            told)
    agree_more AtEnd at = f.agree
    agree_more AtInternal at = f.agree
    agree_more AtClock at = f.agree
    agree_more AtRandom at = f.agree
    agree_more AtInput at = f.agree
    agree_more AtReceive at = f.agree
    agree_more (AtSend to message) at = f.agree

    follows_whole : may_stop (rule_at S c p a) (stores_at S.guests c p a) (comes S.guests (stands S.guests c p) a) a Nowhere ≡ true → Follows S schedule start (event_mark (comes S.guests (stands S.guests c p) a) (stands S.guests c p).visible ∷ marks) (after_turn S t c p a Nowhere)
    follows_whole may = record {
      now = next_turn (event_mark (comes S.guests (stands S.guests c p) a) (stands S.guests c p).visible) _ (turn_holds Nowhere may);
      recent = λ q on k past. rw (note_of (comes S.guests (stands S.guests c p) a) (stands S.guests c p).visible) (⊎_elim
          (λ (same : p ≡ q).
          let l : (stands S.guests c p).visible + shows (comes S.guests (stands S.guests c p) a) ≤ k = subst (λ (y : Local _). y.visible ≤ k) stands_after (subst (λ (z : ℕ). (stands S.guests (after_turn S t c p a Nowhere) z).visible ≤ k) (sym same) past) in
          not_since_other q k (stands S.guests c p).visible (comes S.guests (stands S.guests c p) a) (λ _ one. let apart : (stands S.guests c p).visible ≢ k = omega (arith, one, l) in apart) (subst (λ (z : ℕ). NotSince (is_joint S.protocol) z k ns) same (f.recent p up k (omega (arith, l)))))
          (λ (ne : p ≢ q). let k2 = rest_same Nowhere q ne on in
          not_since_other q k (stands S.guests c p).visible (comes S.guests (stands S.guests c p) a) (λ e. absurd (ne e)) (f.recent q k2.0 k (subst (λ (y : Local _). y.visible ≤ k) k2.1 past)))
          (cases_eq p q));
      numbered = rw (note_of (comes S.guests (stands S.guests c p) a) (stands S.guests c p).visible) (numbered_more (comes S.guests (stands S.guests c p) a) (stands S.guests c p).visible c.lines _ f.numbered);
      agree = agree_more (comes S.guests (stands S.guests c p) a) refl;
      follow = rw (note_of (comes S.guests (stands S.guests c p) a) (stands S.guests c p).visible) (follow_more (comes S.guests (stands S.guests c p) a) (stands S.guests c p).visible (f.recent p up (stands S.guests c p).visible (omega arith)) f.follow);
    }

    pub takes : (w : Place) (m : Mark) (d : Core) → may_stop (rule_at S c p a) (stores_at S.guests c p a) (comes S.guests (stands S.guests c p) a) a w ≡ true → m ≡ turn_mark w (comes S.guests (stands S.guests c p) a) (stands S.guests c p).visible → d ≡ after_turn S t c p a w → Follows S schedule start (m ∷ marks) d
    takes Nowhere m d may mk is = rw (mk, is) (follows_whole may)
    takes InBefore m d may mk is = rw (mk, is) (follows_stopped InBefore refl may refl)
    takes InLog m d may mk is = rw (mk, is) (follows_stopped InLog refl may refl)
    takes InEvent m d may mk is = rw (mk, is) (follows_stopped InEvent refl may refl)
    takes InAfter m d may mk is = rw (mk, is) (follows_stopped InAfter refl may refl)
