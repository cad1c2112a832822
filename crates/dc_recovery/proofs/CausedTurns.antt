-- Nothing unsaved happens before a visible act: entry by entry, and from an opening.
use Rattle.std.proofs.Common.{◌≡◌, ◌≢◌, ◌⊎◌, ◌∙◌, ℕ, ◌+◌, ◌<◌, ◌≤◌, zero, suc, List, [], ◌∷◌, length, refl, ap, subst, sym, arith, ⊎_elim, inl, inr, Bool, true, false, if◌then◌else◌, Option, Some, None, slice_get, IsSomeAnd}
use Rattle.std.proofs.lemmas.Bool.{cases_eq, cases_lt, cases_Bool, cond_both, or_right, or_parts, true≢false}
use Rattle.dc_model.proofs.Own.{own_no, own_yes}
use Rattle.dc_model.specs.Guests.{Answer, Event, is_plain, is_send, is_visible}
use Rattle.dc_model.specs.Guests.Event.{AtEnd}
use Rattle.dc_model.specs.Process.{at_position, comes, local}
use Rattle.dc_model.specs.Runs.{Given, own}
use Rattle.dc_model.specs.declared.entry.Entry.{Entry}
use Rattle.dc_model.specs.declared.entry.Entry.TheVariants.{Power, Stop, Turn}
use Rattle.dc_model.specs.declared.mark.Mark.{Mark}
use Rattle.dc_model.specs.declared.visible.Visible.{Visible}
use Rattle.dc_protocols.specs.Rules.{is_causal, is_global, is_joint}
use Rattle.dc_protocols.specs.declared.protocol.Rule.{Rule}
use Rattle.dc_recovery.proofs.Causing.{before_less, saved_commit, saved_event, sends_less, told_less, told_none, told_within, tracked_commit, tracked_event}
use Rattle.dc_recovery.proofs.Cuts.{oldest_out}
use Rattle.dc_recovery.proofs.Ends.{holds_opened, leads_follow}
use Rattle.dc_recovery.proofs.Given.{IsGiven, answer_told}
use Rattle.dc_recovery.proofs.Holding.{holds_rise, log_off, not_in_log, quiet_here}
use Rattle.dc_recovery.proofs.Joined.{answer_there, first_now, first_position, grown_event, joint_now, loud_sets, plain_send, third_now}
use Rattle.dc_recovery.proofs.Joints.{Grown, JointNow, each_put, members_apart, members_closed, now_if, plain_visible}
use Rattle.dc_recovery.proofs.Parts.{each_yes, members_self, with_all}
use Rattle.dc_recovery.proofs.Pieces.{after_pieces, event_pieces, whole_pieces}
use Rattle.dc_recovery.proofs.Rows.{and_false, global_no_log, visible_clear, visibles_are}
use Rattle.dc_recovery.proofs.Spans.{at_before}
use Rattle.dc_recovery.proofs.Worlds.{more_new, more_old, sort_here, turn_since}
use Rattle.dc_recovery.specs.Answers.{answer, any_of, is_blocked, replays, rule_at, stores_at}
use Rattle.dc_recovery.specs.Causes.{AreSaved, Before, Caused, IsTold, IsTracked, IsVisible, SendsAt}
use Rattle.dc_recovery.specs.Core.{Core, Status, Ties, Which, numbers_of, opened_core, opening, save_of, stands, untied}
use Rattle.dc_recovery.specs.Core.Which.{Newer, Older}
use Rattle.dc_recovery.specs.Invariant.{Holds}
use Rattle.dc_recovery.specs.Parts.{Place, at_one, commit_if, commits_in, committed_as, each, fallen, is_with, left, may_stop, event_later, risen, sets_unlogged, torn_as, torn_in}
use Rattle.dc_recovery.specs.Parts.Place.{InAfter, InBefore, InEvent, InLog, Nowhere}
use Rattle.dc_recovery.specs.Saves.{Logged, answer_at, logged_at, span}
use Rattle.dc_recovery.specs.Systems.{IsSound, System, kind_at}
use Rattle.dc_recovery.specs.Ties.{company, members, next_numbers, numbers_first, tied_event, tied_first, tied_if, tied_left, tied_third}
use Rattle.dc_recovery.specs.Turned.{LeadsTo, Runs, RunsOr, Takes, TakesOr, Turned, after_rise, after_turn, has_act, with_act}

-- nothing is one of them
pub none_of : (n : ℕ) (test : ℕ → Bool) (q : ℕ) → any_of n test ≡ false → q < n → test q ≡ false
none_of zero test q e h = absurd (omega arith)
none_of (suc n) test q e h = let k = or_parts (test n) (any_of n test) e in ⊎_elim
    (λ (same : n ≡ q). subst (λ (y : ℕ). test y ≡ false) same k.0)
    (λ (ne : n ≢ q). none_of n test q k.1 (omega arith))
    (cases_eq n q)

-- with the commit, or without
module _ {Mc : Type 0} (S : System Mc) (acts : List Given) (procs : ℕ → Status) (ties : Ties) (now : JointNow false S acts procs ties)
    (commits : ℕ → Bool) (ns : ℕ → ℕ) (closed : (p q : ℕ) → commits p ≡ true → ties.on p q ≡ true → commits q ≡ true) where
  tracked_if : (b : Bool) → IsTracked S.guests acts procs ties → IsTracked S.guests acts (commit_if b commits ns procs) (tied_if b commits ties)
  tracked_if true tr = tracked_commit false S acts procs ties now commits ns closed tr
  tracked_if false tr = tr

  saved_if : (b : Bool) → AreSaved S.guests acts (λ q. (procs q).older) → AreSaved S.guests acts (λ q. (commit_if b commits ns procs q).older)
  saved_if true saved = saved_commit false S acts procs ties now commits ns closed saved
  saved_if false saved = saved

module _ {Mc : Type 0} (S : System Mc) (sound : IsSound S) (schedule : List Entry) (t : ℕ) (c : Core) (now : Holds S schedule t c)
    (p : ℕ) (a : Answer) (told : IsGiven S.guests c p a) (up : (c.procs p).up ≡ true) (inside : p < S.guests.count) (causal : is_causal S.protocol ≡ true) (so_far : Caused S.guests c) where
  abbrev g : is_joint S.protocol ≡ true
  g = or_right (is_global S.protocol) (is_causal S.protocol) causal

  abbrev f : Rule
  f = rule_at S c p a

  abbrev e : Event
  e = comes S.guests (stands S.guests c p) a

  abbrev rep : Bool
  rep = replays (comes S.guests (stands S.guests c p) a) (c.procs p)

  abbrev sets : Bool
  sets = sets_unlogged f.log rep a

  abbrev jn : JointNow false S c.acts c.procs c.ties
  jn = joint_now S sound schedule t c now p a told up inside g false (λ on. absurd (true≢false (sym on)))

  off : (rule_at S c p a).log ≡ false
  off = log_off S sound schedule t c now p a told up inside g

  quiet : sets_unlogged (rule_at S c p a).log (replays (comes S.guests (stands S.guests c p) a) (c.procs p)) a ≡ false → is_plain a ≡ true
  quiet = quiet_here S sound schedule t c now p a told up inside g

  loud : sets_unlogged (rule_at S c p a).log (replays (comes S.guests (stands S.guests c p) a) (c.procs p)) a ≡ true → is_plain a ≡ false
  loud = loud_sets S sound schedule t c now p a told up inside g false (λ on. absurd (true≢false (sym on))) off quiet (λ on. absurd (true≢false (sym on)))

  abbrev firsts : ℕ → Status
  firsts = commit_if f.before (members S c.ties (numbers_of c.procs) p) (next_numbers S (numbers_of c.procs)) c.procs

  abbrev thirds : ℕ → Status
  thirds = at_one p (event_later rep sets) (commit_if f.before (members S c.ties (numbers_of c.procs) p) (next_numbers S (numbers_of c.procs)) c.procs)

  firsts_now : JointNow false S c.acts firsts (tied_first S c p a)
  firsts_now = first_now S sound schedule t c now p a told up inside g false (λ on. absurd (true≢false (sym on))) off quiet (λ on. absurd (true≢false (sym on)))

  thirds_now : JointNow false S (with_act t c p a) thirds (tied_third S c p a)
  thirds_now = third_now S sound schedule t c now p a told up inside g false (λ on. absurd (true≢false (sym on))) off quiet (λ on. absurd (true≢false (sym on)))

  closed_first : (q s : ℕ) → members S c.ties (numbers_of c.procs) p q ≡ true → c.ties.on q s ≡ true → members S c.ties (numbers_of c.procs) p s ≡ true
  closed_first = members_closed false S c.acts c.procs c.ties (numbers_of c.procs) jn p causal

  closed_third : (q s : ℕ) → members S (tied_third S c p a) (numbers_first S c p a) p q ≡ true → (tied_third S c p a).on q s ≡ true → members S (tied_third S c p a) (numbers_first S c p a) p s ≡ true
  closed_third = members_closed false S (with_act t c p a) thirds (tied_third S c p a) (numbers_first S c p a) thirds_now p causal

  -- after the commit before
  first_tracked : IsTracked S.guests c.acts firsts (tied_first S c p a)
  first_tracked = tracked_if S c.acts c.procs c.ties jn (members S c.ties (numbers_of c.procs) p) (next_numbers S (numbers_of c.procs)) closed_first f.before (so_far.tracked p up)

  first_saved : AreSaved S.guests c.acts (λ q. (firsts q).older)
  first_saved = saved_if S c.acts c.procs c.ties jn (members S c.ties (numbers_of c.procs) p) (next_numbers S (numbers_of c.procs)) closed_first f.before (so_far.shown Older)

  -- at a visible event nothing unsaved is behind its process
  free_by : (b : Bool) → (b ≡ false → (q : ℕ) → c.ties.on p q ≡ false) → (q : ℕ) → (tied_if b (members S c.ties (numbers_of c.procs) p) c.ties).on p q ≡ false
  free_by true none q = let m : members S c.ties (numbers_of c.procs) p p ≡ true = members_self S c.ties (numbers_of c.procs) p in rw m (and_false (c.ties.on p q))
  free_by false none q = none refl q

  clear_on : is_visible e ≡ true → f.before ≡ false → (q : ℕ) → c.ties.on p q ≡ false
  clear_on vis none q = ⊎_elim
      (λ (on : c.ties.on p q ≡ true). let any : any_of S.guests.count (c.ties.on p) ≡ false = rw causal at (visible_clear (kind_at e) (turn_since S sound schedule t c now p a told up inside) S.protocol g (visibles_are e ∙ vis) none) in
      none_of S.guests.count (c.ties.on p) q any ((jn.traced causal).inside p q on).1)
      (λ k. k)
      (cases_Bool (c.ties.on p q))

  same : (q : ℕ) → (firsts q).position ≡ (c.procs q).position
  same = first_position S sound schedule t c now p a told up inside g false (λ on. absurd (true≢false (sym on))) off quiet (λ on. absurd (true≢false (sym on))) f.before (members S c.ties (numbers_of c.procs) p) (next_numbers S (numbers_of c.procs))

  event_same : comes S.guests (at_position S.guests p (firsts p).position (own p c.acts)) a ≡ e
  event_same = ap (λ (i : ℕ). comes S.guests (at_position S.guests p i (own p c.acts)) a) (same p)

  abbrev act : Given
  act = record { t = t; p = p; answer = a }

  less : (n q i r j : ℕ) → Before S.guests (with_act t c p a) n q i r j → j < length (own r c.acts) → Before S.guests c.acts n q i r j
  less n q i r j = ⊎_elim
      (λ x. subst (λ (ts : List Given). Before S.guests ts n q i r j → j < length (own r c.acts) → Before S.guests c.acts n q i r j) (sym (more_old S.guests t c p a now.run x.0)) (λ b h. b))
      (λ x. subst (λ (ts : List Given). Before S.guests ts n q i r j → j < length (own r c.acts) → Before S.guests c.acts n q i r j) (sym (more_new S.guests t c p a now.run (omega (arith, x.0)))) (before_less S.guests act c.acts now.run n q i r j))
      told

  sends_old : (s h r k : ℕ) → h < length (own s c.acts) → SendsAt S.guests (with_act t c p a) s h r k → SendsAt S.guests c.acts s h r k
  sends_old s h r k lt = ⊎_elim
      (λ x. subst (λ (ts : List Given). SendsAt S.guests ts s h r k → SendsAt S.guests c.acts s h r k) (sym (more_old S.guests t c p a now.run x.0)) (λ b. b))
      (λ x. subst (λ (ts : List Given). SendsAt S.guests ts s h r k → SendsAt S.guests c.acts s h r k) (sym (more_new S.guests t c p a now.run (omega (arith, x.0)))) (sends_less S.guests act c.acts now.run s h r k lt))
      told

  told_old : (q i : ℕ) → i < length (own q c.acts) → IsTold (with_act t c p a) q i → IsTold c.acts q i
  told_old q i lt = ⊎_elim
      (λ x. subst (λ (ts : List Given). IsTold ts q i → IsTold c.acts q i) (sym (more_old S.guests t c p a now.run x.0)) (λ b. b))
      (λ x. subst (λ (ts : List Given). IsTold ts q i → IsTold c.acts q i) (sym (more_new S.guests t c p a now.run (omega (arith, x.0)))) (told_less S.guests act c.acts now.run q i lt))
      told

  seen_less : (r j : ℕ) → IsVisible S.guests (act ∷ c.acts) r j → IsVisible S.guests c.acts r j ⊎ ((r ≡ p) × (j ≡ length (own p c.acts)))
  seen_less r j (b, at, vis) = ⊎_elim
      (λ (e : p ≡ r). subst (λ (y : ℕ). answer_at j (own y (act ∷ c.acts)) ≡ Some b → is_visible (comes S.guests (at_position S.guests y j (own y (act ∷ c.acts))) b) ≡ true → IsVisible S.guests c.acts y j ⊎ ((y ≡ p) × (j ≡ length (own p c.acts)))) e
      (λ at1 vis1. let at2 : answer_at j (a ∷ own p c.acts) ≡ Some b = rw (own_yes act c.acts p refl) at at1 in
      let vis2 : is_visible (comes S.guests (at_position S.guests p j (a ∷ own p c.acts)) b) ≡ true = rw (own_yes act c.acts p refl) at vis1 in ⊎_elim
      (λ (k : j < length (own p c.acts)). inl (b, sym (at_before j a (own p c.acts) k) ∙ at2, image_at k vis2))
      (λ (k : length (own p c.acts) ≤ j). let w = told_within (a ∷ own p c.acts) j b at2 in inr (refl, omega arith))
      (cases_lt j (length (own p c.acts))))
      at vis)
      (λ (ne : p ≢ r). inl (b, rw (own_other ne) at at, rw (own_other ne) at vis))
      (cases_eq p r)
    where
      own_other : p ≢ r → own r (act ∷ c.acts) ≡ own r c.acts
      own_other ne = own_no act c.acts r ne

      image_at : j < length (own p c.acts) → is_visible (comes S.guests (at_position S.guests p j (a ∷ own p c.acts)) b) ≡ true → is_visible (comes S.guests (at_position S.guests p j (own p c.acts)) b) ≡ true
      image_at k v = subst (λ (ds : List Answer). is_visible (comes S.guests (local S.guests p ds) b) ≡ true) (oldest_out a (own p c.acts) j (omega arith)) v

  seen_old : (r j : ℕ) → IsVisible S.guests (with_act t c p a) r j → IsVisible S.guests c.acts r j ⊎ ((r ≡ p) × (j ≡ (firsts p).position))
  seen_old r j = ⊎_elim
      (λ x. subst (λ (ts : List Given). IsVisible S.guests ts r j → IsVisible S.guests c.acts r j ⊎ ((r ≡ p) × (j ≡ (firsts p).position))) (sym (more_old S.guests t c p a now.run x.0)) (λ b. inl b))
      (λ x. subst (λ (ts : List Given). IsVisible S.guests ts r j → IsVisible S.guests c.acts r j ⊎ ((r ≡ p) × (j ≡ (firsts p).position))) (sym (more_new S.guests t c p a now.run (omega (arith, x.0))))
      (λ b. ⊎_elim (λ o. inl o) (λ n. inr (n.0, n.1 ∙ sym x.0 ∙ sym (same p))) (seen_less r j b)))
      told

  -- the event
  grown : Grown false S c.acts (with_act t c p a) p a sets firsts
  grown = grown_event S sound schedule t c now p a told up inside g false (λ on. absurd (true≢false (sym on))) firsts (tied_first S c p a) sets same firsts_now quiet loud (λ on. absurd (true≢false (sym on)))

  there : answer_at (firsts p).position (own p (with_act t c p a)) ≡ Some a
  there = answer_there S sound schedule t c now p a told up inside g false (λ on. absurd (true≢false (sym on))) firsts (tied_first S c p a) sets same firsts_now quiet loud (λ on. absurd (true≢false (sym on)))

  sure_send : is_send (comes S.guests (at_position S.guests p (firsts p).position (own p c.acts)) a) ≡ true → is_plain a ≡ true
  sure_send is = plain_send e a (sort_here S.guests t c p a now.run told) (ap is_send (sym event_same) ∙ is)

  seen : is_visible (comes S.guests (at_position S.guests p (firsts p).position (own p c.acts)) a) ≡ true → (is_plain a ≡ true) × ((q : ℕ) → (tied_first S c p a).on p q ≡ false)
  seen is = let vis : is_visible e ≡ true = ap is_visible (sym event_same) ∙ is in
      (plain_visible e a (sort_here S.guests t c p a now.run told) vis, free_by f.before (clear_on vis))

  third_tracked : IsTracked S.guests (with_act t c p a) thirds (tied_third S c p a)
  third_tracked = subst (λ (i : ℕ). IsTracked S.guests (with_act t c p a) thirds (tied_event S.guests p (at_position S.guests p i (own p c.acts)) a sets (tied_first S c p a))) (same p)
      (tracked_event false S c.acts (with_act t c p a) firsts (tied_first S c p a) p a rep sets firsts_now grown quiet sure_send seen there less sends_old told_old seen_old first_tracked)

  event_saved : AreSaved S.guests (with_act t c p a) (λ q. (firsts q).older)
  event_saved = saved_event false S c.acts (with_act t c p a) firsts (tied_first S c p a) p a rep sets firsts_now grown quiet sure_send seen there less sends_old told_old seen_old first_tracked first_saved

  older_same : (q : ℕ) → (thirds q).older ≡ (firsts q).older
  older_same = each_put (λ (q : ℕ) (st : Status). st.older ≡ (firsts q).older) p (event_later rep sets (firsts p)) firsts refl (λ q ne. refl)

  third_saved : AreSaved S.guests (with_act t c p a) (λ q. (thirds q).older)
  third_saved = subst (AreSaved S.guests (with_act t c p a)) (λ i q. sym (older_same q) i) event_saved

  -- all up, by one save each
  whole : (acts : List Given) (lines : List Visible) (procs : ℕ → Status) (ties : Ties) → JointNow false S acts procs ties → IsTracked S.guests acts procs ties → AreSaved S.guests acts (λ q. (procs q).older)
      → Caused S.guests (record { acts = acts; lines = lines; procs = procs; ties = ties })
  whole acts lines procs ties ok tr saved = record { shown = by_which; tracked = λ _ _. tr }
    where
      by_which : (k : Which) → AreSaved S.guests acts (λ q. save_of k (procs q))
      by_which Older = saved
      by_which Newer = subst (AreSaved S.guests acts) (λ i q. sym (ok.one q) i) saved

  -- all down, by two
  down : (acts : List Given) (lines : List Visible) (procs : ℕ → Status) (ties : Ties) → ((q : ℕ) → (procs q).up ≡ false) → AreSaved S.guests acts (λ q. (procs q).older) → AreSaved S.guests acts (λ q. (procs q).newer)
      → Caused S.guests (record { acts = acts; lines = lines; procs = procs; ties = ties })
  down acts lines procs ties off older newer = record { shown = by_which; tracked = λ q on. absurd (true≢false (sym on ∙ off q)) }
    where
      by_which : (k : Which) → AreSaved S.guests acts (λ q. save_of k (procs q))
      by_which Older = older
      by_which Newer = newer

  all_fall : (procs : ℕ → Status) (q : ℕ) → each (is_with S.protocol p) fallen procs q ≡ fallen (procs q)
  all_fall procs q = each_yes (is_with S.protocol p) fallen procs q (with_all S.protocol p q g)

  torn_up : (ties : Ties) (last ns : ℕ → ℕ) (procs : ℕ → Status) (q : ℕ) → (torn_in (is_with S.protocol p) (members S ties last p) ns procs q).up ≡ false
  torn_up ties last ns procs q = cond_both (members S ties last p q) (torn_as (ns q) (procs q)) (each (is_with S.protocol p) fallen procs q) (λ (st : Status). st.up ≡ false) (λ _. refl) (λ _. ap (λ (st : Status). st.up) (all_fall procs q))

  torn_older : (ties : Ties) (last ns : ℕ → ℕ) (procs : ℕ → Status) (q : ℕ) → (torn_in (is_with S.protocol p) (members S ties last p) ns procs q).older ≡ (procs q).older
  torn_older ties last ns procs q = cond_both (members S ties last p q) (torn_as (ns q) (procs q)) (each (is_with S.protocol p) fallen procs q) (λ (st : Status). st.older ≡ (procs q).older) (λ _. refl) (λ _. ap (λ (st : Status). st.older) (all_fall procs q))

  torn_newer : (ties : Ties) (last ns : ℕ → ℕ) (procs : ℕ → Status) (q : ℕ) → (procs q).newer ≡ (procs q).older → (commits_in (members S ties last p) ns procs q).older ≡ (torn_in (is_with S.protocol p) (members S ties last p) ns procs q).newer
  torn_newer ties last ns procs q one = by_flag (members S ties last p q)
    where
      by_flag : (b : Bool) → (if b then committed_as (ns q) (procs q) else procs q).older ≡ (if b then torn_as (ns q) (procs q) else each (is_with S.protocol p) fallen procs q).newer
      by_flag true = refl
      by_flag false = sym (ap (λ (st : Status). st.newer) (all_fall procs q) ∙ one)

  torn_caused : (acts : List Given) (lines : List Visible) (procs : ℕ → Status) (ties after : Ties) (last ns : ℕ → ℕ) → JointNow false S acts procs ties → ((q s : ℕ) → members S ties last p q ≡ true → ties.on q s ≡ true → members S ties last p s ≡ true)
      → AreSaved S.guests acts (λ q. (procs q).older) → Caused S.guests (record { acts = acts; lines = lines; procs = torn_in (is_with S.protocol p) (members S ties last p) ns procs; ties = after })
  torn_caused acts lines procs ties after last ns ok closed saved = down acts lines _ after (torn_up ties last ns procs)
      (subst (AreSaved S.guests acts) (λ i q. sym (torn_older ties last ns procs q) i) saved)
      (subst (AreSaved S.guests acts) (λ i q. torn_newer ties last ns procs q (ok.one q) i) (saved_commit false S acts procs ties ok (members S ties last p) ns closed saved))

  abbrev x : Logged
  x = record { position = (c.procs p).position; answer = a }

  left_caused : (lines : List Visible) (w : Place) → w ≢ InLog → Caused S.guests (record { acts = if has_act w then with_act t c p a else c.acts; lines = lines; procs = left f rep x (company S c p a) p c.procs w; ties = tied_left S c p a w })
  left_caused lines Nowhere apart = subst (λ (h : ℕ → Status). Caused S.guests (record { acts = with_act t c p a; lines = lines; procs = h; ties = tied_left S c p a Nowhere })) (sym (whole_pieces (company S c p a) f off rep x p c.procs))
      (whole (with_act t c p a) lines (commit_if f.after (members S (tied_third S c p a) (numbers_first S c p a) p) (next_numbers S (numbers_first S c p a)) thirds) (tied_left S c p a Nowhere)
      (now_if false S sound (with_act t c p a) thirds (tied_third S c p a) f.after (members S (tied_third S c p a) (numbers_first S c p a) p) (next_numbers S (numbers_first S c p a)) thirds_now (members_apart false S (with_act t c p a) thirds (tied_third S c p a) (numbers_first S c p a) thirds_now g p) (members_closed false S (with_act t c p a) thirds (tied_third S c p a) (numbers_first S c p a) thirds_now p))
      (tracked_if S (with_act t c p a) thirds (tied_third S c p a) thirds_now (members S (tied_third S c p a) (numbers_first S c p a) p) (next_numbers S (numbers_first S c p a)) closed_third f.after third_tracked)
      (saved_if S (with_act t c p a) thirds (tied_third S c p a) thirds_now (members S (tied_third S c p a) (numbers_first S c p a) p) (next_numbers S (numbers_first S c p a)) closed_third f.after third_saved))
  left_caused lines InBefore apart = torn_caused c.acts lines c.procs c.ties (tied_left S c p a InBefore) (numbers_of c.procs) (next_numbers S (numbers_of c.procs)) jn closed_first (so_far.shown Older)
  left_caused lines InLog apart = absurd (apart refl)
  left_caused lines InEvent apart = subst (λ (h : ℕ → Status). Caused S.guests (record { acts = with_act t c p a; lines = lines; procs = h; ties = tied_left S c p a InEvent })) (sym (event_pieces (company S c p a) f off rep x p c.procs))
      (down (with_act t c p a) lines (each (is_with S.protocol p) fallen firsts) (tied_left S c p a InEvent) (λ q. ap (λ (st : Status). st.up) (all_fall firsts q))
      (subst (AreSaved S.guests (with_act t c p a)) (λ i q. (sym (all_fall firsts q) i).older) event_saved)
      (subst (AreSaved S.guests (with_act t c p a)) (λ i q. (sym (ap (λ (st : Status). st.newer) (all_fall firsts q) ∙ firsts_now.one q)) i) event_saved))
  left_caused lines InAfter apart = subst (λ (h : ℕ → Status). Caused S.guests (record { acts = with_act t c p a; lines = lines; procs = h; ties = tied_left S c p a InAfter })) (sym (after_pieces (company S c p a) f off rep x p c.procs))
      (torn_caused (with_act t c p a) lines thirds (tied_third S c p a) (tied_left S c p a InAfter) (numbers_first S c p a) (next_numbers S (numbers_first S c p a)) thirds_now closed_third third_saved)

  pub caused_turn : (w : Place) → may_stop f (stores_at S.guests c p a) e a w ≡ true → Caused S.guests (after_turn S t c p a w)
  caused_turn w may = subst (λ (ties : Ties). Caused S.guests (record { acts = if has_act w then with_act t c p a else c.acts; lines = (after_turn S t c p a w).lines; procs = left f rep x (company S c p a) p c.procs w; ties = ties }))
      (sym (ap (λ (b : Bool). if b then tied_left S c p a w else untied) causal)) (left_caused _ w (not_in_log S sound schedule t c now p a told up inside g w may))

-- nothing, a fall, a recovery
module _ {Mc : Type 0} (S : System Mc) (sound : IsSound S) (schedule : List Entry) (t : ℕ) (c : Core) (now : Holds S schedule t c) (causal : is_causal S.protocol ≡ true) (so_far : Caused S.guests c) where
  abbrev joint : is_joint S.protocol ≡ true
  joint = or_right (is_global S.protocol) (is_causal S.protocol) causal

  caused_falls : (test : ℕ → Bool) → ((q : ℕ) → test q ≡ true) → Caused S.guests (record { acts = c.acts; lines = c.lines; procs = each test fallen c.procs; ties = untied })
  caused_falls test all = record { shown = by_which; tracked = λ q on. absurd (true≢false (sym (subst (λ (st : Status). st.up ≡ true) (each_yes test fallen c.procs q (all q)) on))) }
    where
      by_which : (k : Which) → AreSaved S.guests c.acts (λ q. save_of k (each test fallen c.procs q))
      by_which Older = subst (AreSaved S.guests c.acts) (λ i q. (sym (each_yes test fallen c.procs q (all q)) i).older) (so_far.shown Older)
      by_which Newer = subst (AreSaved S.guests c.acts) (λ i q. (sym (each_yes test fallen c.procs q (all q)) i).newer) (so_far.shown Newer)

  -- after a recovery all that was told is saved
  module _ (p : ℕ) (lost : (c.procs p).up ≡ false) (k : Which) where
    abbrev d : Core
    d = after_rise S c p k

    then_holds : Holds S schedule (suc t) (after_rise S c p k)
    then_holds = holds_rise S sound schedule t c now p lost k

    here : (q : ℕ) → (d.procs q) ≡ risen (save_of k (c.procs q))
    here q = each_yes (is_with S.protocol p) (λ st. risen (save_of k st)) c.procs q (with_all S.protocol p q joint)

    saved_here : (q i : ℕ) → IsTold d.acts q i → i < (save_of k (c.procs q)).position
    saved_here q i (a, e, told) = ⊎_elim
        (λ (ok : i < (save_of k (c.procs q)).position). ok)
        (λ (low : (save_of k (c.procs q)).position ≤ i).
        let up : (d.procs q).up ≡ true = ap (λ (st : Status). st.up) (here q) in
        let ok = ((then_holds.behind q).running up).ok in
        let at : (d.procs q).position ≡ (save_of k (c.procs q)).position = ap (λ (st : Status). st.position) (here q) in
        let none : span (logged_at (own q d.acts)) (d.procs q).position (length (own q d.acts)) ≡ [] = ok.rest ∙ ok.no_log (global_no_log S.protocol joint) in
        absurd (true≢false (sym (told_none (own q d.acts) (d.procs q).position i a none (rw at low) e) ∙ told)))
        (cases_lt i (save_of k (c.procs q)).position)

    older_here : (q : ℕ) → (d.procs q).older ≡ save_of k (c.procs q)
    older_here q = ap (λ (st : Status). st.older) (here q)

    newer_here : (q : ℕ) → (d.procs q).newer ≡ save_of k (c.procs q)
    newer_here q = ap (λ (st : Status). st.newer) (here q)

    caused_rise : Caused S.guests (after_rise S c p k)
    caused_rise = record {
      shown = by_which;
      tracked = λ _ _. record {
        tracks = λ n q i r j bef lt told low. let s = saved_here q i told in let y : (save_of k (c.procs q)).position ≤ i = rw (older_here q) at low in absurd (omega arith);
        mails = λ s h r m n q i snt lt bef told low. let z = saved_here q i told in let y : (save_of k (c.procs q)).position ≤ i = rw (older_here q) at low in absurd (omega arith);
      };
    }
      where
        by_which : (w : Which) → AreSaved S.guests d.acts (λ q. save_of w (d.procs q))
        by_which Older r j vis n q i bef told = rw (older_here q) (saved_here q i told)
        by_which Newer r j vis n q i bef told = rw (newer_here q) (saved_here q i told)

  caused_same : (d : Core) → d ≡ c → Caused S.guests d
  caused_same d e = subst (λ (x : Core). Caused S.guests x) (sym e) so_far

  module _ (p word clock : ℕ) (inside : p < S.guests.count) (m : Mark) (d : Core) where
    abbrev a : Answer
    a = answer S.guests c p word clock

    caused_takes : (up : (c.procs p).up ≡ true) → comes S.guests (stands S.guests c p) (answer S.guests c p word clock) ≢ AtEnd → Takes S c (record { t = t; p = p; answer = a }) (comes S.guests (stands S.guests c p) a) m d → Caused S.guests d
    caused_takes up live (w, may, mk, is) = subst (λ (x : Core). Caused S.guests x) (sym is)
        (caused_turn S sound schedule t c now p a (answer_told S.guests c p word clock ((now.behind p).running up).ok.within live) up inside causal so_far w may)

    caused_block : (up : (c.procs p).up ≡ true) → comes S.guests (stands S.guests c p) (answer S.guests c p word clock) ≢ AtEnd → (b : Bool) → TakesOr b S c (record { t = t; p = p; answer = a }) (comes S.guests (stands S.guests c p) a) m d → Caused S.guests d
    caused_block up live true turned = caused_same d turned.1
    caused_block up live false turned = caused_takes up live turned

    caused_event : (up : (c.procs p).up ≡ true) → (e : Event) → comes S.guests (stands S.guests c p) a ≡ e → Runs S c (record { t = t; p = p; answer = a }) e m d → Caused S.guests d
    caused_event up AtEnd at turned = caused_same d turned.1
    caused_event up e at turned = caused_block up (λ ended. let never : e ≡ AtEnd = sym at ∙ ended in let off : ⊥ = cc in off) (is_blocked S c p e)
        (subst (λ (y : Event). TakesOr (is_blocked S c p e) S c (record { t = t; p = p; answer = a }) y m d) (sym at) turned)

    caused_up : (b : Bool) → (c.procs p).up ≡ b → RunsOr b S c (record { t = t; p = p; answer = a }) m d → Caused S.guests d
    caused_up true up turned = caused_event up (comes S.guests (stands S.guests c p) a) refl turned
    caused_up false lost (inl (k, mk, is)) = subst (λ (x : Core). Caused S.guests x) (sym is) (caused_rise p lost k)
    caused_up false lost (inr (mk, same)) = caused_same d same

  pub caused_next : (entry : Entry) (m : Mark) (d : Core) → Turned S t c entry m d → Caused S.guests d
  caused_next (Turn turn) m d turned = caused_up turn.p turn.word turn.clock turned.0 m d (c.procs turn.p).up refl turned.1
  caused_next (Stop p) m d turned = subst (λ (x : Core). Caused S.guests x) (sym turned.1) (caused_falls (is_with S.protocol p) (λ q. with_all S.protocol p q joint))
  caused_next Power m d turned = subst (λ (x : Core). Caused S.guests x) (sym turned.1) (caused_falls (λ r. true) (λ q. refl))

-- and so from an opening
module _ {Mc : Type 0} (S : System Mc) (sound : IsSound S) (schedule : List Entry) (up : ℕ → Bool) (same : is_joint S.protocol ≡ true → (p q : ℕ) → up p ≡ up q) (causal : is_causal S.protocol ≡ true) where
  caused_opened : Caused S.guests (opened_core up)
  caused_opened = record {
    shown = λ k p j vis n q i bef told. let w = told_within [] i told.0 told.1 in absurd (omega arith);
    tracked = λ _ _. record {
      tracks = λ n q i p j bef lt told low. absurd (omega arith);
      mails = λ s h r k n q i snt lt bef told low. absurd (omega arith);
    };
  }

  caused_entry : (t : ℕ) (c : Core) (now : Holds S schedule t c) → Caused S.guests c → (o : Option Entry) (m : Mark) (d : Core) → IsSomeAnd o (λ entry. Turned S t c entry m d) → Caused S.guests d
  caused_entry t c now caused None m d turned = absurd turned
  caused_entry t c now caused (Some entry) m d turned = caused_next S sound schedule t c now causal caused entry m d turned

  pub caused_leads : (marks : List Mark) (d : Core) → LeadsTo S schedule (opening up) marks d → Caused S.guests d
  caused_leads [] d led = subst (λ (x : Core). Caused S.guests x) (sym led) caused_opened
  caused_leads (m ∷ marks) d (c, led, turned) = caused_entry (0 + length marks) c (leads_follow S sound schedule (opening up) (holds_opened S sound schedule up same) marks c led).now
      (caused_leads marks c led) (slice_get schedule (0 + length marks)) m d turned
