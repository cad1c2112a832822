-- One process through a whole turn, wherever it is stopped.
use Rattle.std.proofs.Common.{◌≡◌, ◌≢◌, ◌⊎◌, ◌∙◌, ℕ, ◌<◌, ◌≤◌, suc, List, [], ◌∷◌, ◌++◌, length, refl, ap, subst, sym, ⊎_elim, inl, inr, Bool, true, false, if◌then◌else◌, Some, not, ◌&&◌, ◌||◌}
use Rattle.std.proofs.lemmas.Bool.{cases_lt, cases_Bool, true≢false, and_parts, or_cases, or_parts}
use Rattle.dc_model.specs.Guests.{Answer, Event, is_plain, is_request}
use Rattle.dc_model.specs.Guests.Answer.{Plain}
use Rattle.dc_model.specs.Process.{comes, local}
use Rattle.dc_protocols.specs.Rules.{has_log, is_cand, row_of, rule_of}
use Rattle.dc_protocols.specs.declared.protocol.Rule.{Rule}
use Rattle.dc_recovery.proofs.Cuts.{hidden}
use Rattle.dc_recovery.proofs.Saves.{exposed}
use Rattle.dc_recovery.proofs.Rows.{and_false, and_yes, asking_after, cand_after, cand_logs, chances_are, early_read, inputs_are, log_facts, no_after_sure, no_before_replay, no_before_told, no_log_replay, no_log_sure, or_none}
use Rattle.dc_recovery.proofs.Spans.{act_there, noted_told, span_none}
use Rattle.dc_recovery.specs.Answers.{makes_most, replays, since}
use Rattle.dc_recovery.specs.Core.{Status}
use Rattle.dc_recovery.specs.Invariant.{Behind, FewOk, Running, UpOk, can_log}
use Rattle.dc_recovery.specs.Parts.{Place, committed_as, first_as, left_as, sets_unlogged}
use Rattle.dc_recovery.specs.Parts.Place.{InAfter, InBefore, InEvent, InLog, Nowhere}
use Rattle.dc_recovery.specs.Saves.{Logged, answer_at, is_empty_log, logged_at, span}
use Rattle.dc_recovery.specs.Systems.{IsSound, System, is_output, kind_at}
use Rattle.dc_recovery.specs.Turned.{has_act}
use Rattle.dc_recovery.proofs.Sorts.{IsAnswer, Sort, beside, empty_is, first_unlogged, first_unread, grown, grown_new, grown_old, hidden_any, outputs_hidden, plain_no_log, second_unread, torn_or}
use Rattle.dc_recovery.proofs.Steps.{PartsOk, SavesOk, asking_log, asking_new, chance_is_last, each_torn, each_up, few_commit, few_first, few_third, last_is_read, most_last, not_most, or_false, rest_told, rule_is, sure_turn, told_again, told_is_last, told_new, up_commit, up_first}
use Rattle.dc_recovery.proofs.Sorts.Sort.{Sure, Asking, Chance}

module _ {Mc : Type 0} (S : System Mc) (sound : IsSound S)
    (n p : ℕ) (ds : List Answer) (st : Status) (a : Answer) (up : UpOk S p ds st) (few : FewOk S p ds st) (cand : is_cand S.protocol ≡ true → st.unlogged ≡ false) (answer : IsAnswer st.position ds a) where
  parts_sure : (b : Bool) → (b ≡ true → st.unread ≡ []) → (st.position ≡ length ds → S.exposes (comes S.guests (local S.guests p ds) a) ≡ true → (st.unlogged && not b) ≡ false) → is_plain a ≡ true
      → PartsOk S sound n p ds st a (record { before = b; log = false; after = false }) false
  parts_sure b early clear plain = record {
    early = early;
    third = rw plain (sure_turn S sound n p ds st a up few b early plain clear answer);
    late = λ e. absurd (true≢false (sym e));
    few = λ _. few_third S sound n p ds st a up few answer b false false (sets_unlogged false false a) early (ap (λ (x : Bool). x && not b) (not_most S sound p ds st a (plain_no_log a plain)));
    cand = λ c _. rw (plain, first_unlogged b n st (cand c)) refl;
    log = λ e. absurd (true≢false (sym e));
  }

  parts_chance : (af : Bool) → (is_cand S.protocol ≡ true → af ≡ true) → is_plain a ≡ false → can_log a ≡ false → (st.position ≡ length ds → exposed S sound (comes S.guests (local S.guests p ds) a) ≡ false)
      → PartsOk S sound n p ds st a (record { before = false; log = false; after = af }) false
  parts_chance af must told can hidden = let last : st.position ≡ length ds = chance_is_last S sound n p ds st a up few answer told can in record {
    early = λ e. absurd (true≢false (sym e));
    third = rw (grown_new st.position ds a last, told) (told_new S sound p ds st a up last (hidden last));
    late = λ _. last_is_read S sound n p ds st a up few last;
    few = λ _. few_third S sound n p ds st a up few answer false false false (sets_unlogged false false a) (λ e. absurd (true≢false (sym e))) (ap (λ (x : Bool). x && true) (not_most S sound p ds st a can));
    cand = λ c e. absurd (true≢false (sym (must c) ∙ e));
    log = λ e. absurd (true≢false (sym e));
  }

  -- asked, with nothing left to read
  parts_asking : (b l af : Bool) → (l ≡ true → (has_log S.protocol ≡ true) × (st.unlogged ≡ false)) → (is_cand S.protocol ≡ true → af ≡ false → l ≡ true) → (af ≡ false → (makes_most S p ds st a && not b) ≡ false)
      → is_plain a ≡ false → can_log a ≡ true → (st.position ≡ length ds → exposed S sound (comes S.guests (local S.guests p ds) a) ≡ false) → st.unread ≡ []
      → PartsOk S sound n p ds st a (record { before = b; log = l; after = af }) false
  parts_asking b l af facts must full told can hidden none =
      let last : st.position ≡ length ds = told_is_last S sound n p ds st a up few answer told none in record {
        early = λ _. none;
        third = asking_new S sound n p ds st a up few b l last told can (hidden last) facts;
        late = λ _. rw (second_unread l (record { position = st.position; answer = a }) (first_as b n st)) (first_unread b n st none);
        few = λ e. few_third S sound n p ds st a up few answer b l false (sets_unlogged l false a) (λ _. none) (full e);
        cand = λ c e. rw (must c e) (rw (told, first_unlogged b n st (cand c)) refl);
        log = λ e. asking_log S sound n p ds st a up few b last told can (hidden last) (facts e);
      }

  -- asked, and answered by the log
  parts_replay : (af : Bool) → (af ≡ true → (has_log S.protocol ≡ false) ⊎ (makes_most S p ds st a ≡ true)) → (af ≡ false → makes_most S p ds st a ≡ false)
      → is_plain a ≡ false → st.unread ≢ [] → PartsOk S sound n p ds st a (record { before = false; log = false; after = af }) true
  parts_replay af when full told some = record {
    early = λ e. absurd (true≢false (sym e));
    third = ⊎_elim
        (λ there. rw (grown_old st.position ds a there.0, told) (told_again S sound p ds st a up there.0 there.1 told))
        (λ last. absurd (some (last_is_read S sound n p ds st a up few last)))
        answer;
    late = λ e. ⊎_elim
        (λ h. absurd (some (up.no_log h)))
        (λ h. let ends : length ds ≤ suc st.position = most_last S sound n p ds st a up few answer h in ⊎_elim
        (λ there. let all : st.unread ≡ record { position = st.position; answer = a } ∷ span (logged_at ds) (suc st.position) (length ds) = sym up.rest ∙ rest_told S sound ds st.position a there.0 there.1 ∙ ap (λ (es : List Logged). es ++ span (logged_at ds) (suc st.position) (length ds)) (noted_told st.position a told) in
        rw (all, span_none (logged_at ds) (suc st.position) (length ds) ends) refl)
        (λ last. absurd (some (last_is_read S sound n p ds st a up few last)))
        answer)
        (when e);
    few = λ e. few_third S sound n p ds st a up few answer false false true (sets_unlogged false true a) (λ x. absurd (true≢false (sym x))) (rw (full e) refl);
    cand = λ c _. rw (told, cand c) refl;
    log = λ e. absurd (true≢false (sym e));
  }

  module _ (e : Event) (any : Bool) (unlogged_any : st.unlogged ≡ true → any ≡ true) (here : st.position ≡ length ds → comes S.guests (local S.guests p ds) a ≡ e) where
    abbrev row : Rule
    row = row_of S.protocol (kind_at e) (since S.log_room e st any (makes_most S p ds st a))

    abbrev rule : Rule
    rule = rule_of S.protocol (kind_at e) (since S.log_room e st any (makes_most S p ds st a))

    row_early : row.before ≡ true → st.unread ≡ []
    row_early on = early_read S.protocol S.log_room e st any (makes_most S p ds st a) up.no_log up.sure on

    row_clear : S.exposes e ≡ true → (st.unlogged && not row.before) ≡ false
    row_clear x = sound.clear e (since S.log_room e st any (makes_most S p ds st a)) x cand unlogged_any

    no_log_here : is_request e ≡ false → rule.log ≡ false
    no_log_here ask = no_log_sure (kind_at e) (since S.log_room e st any (makes_most S p ds st a)) S.protocol (inputs_are e ∙ ask)

    no_replay_here : is_request e ≡ false → replays e st ≡ false
    no_replay_here ask = ap (λ (b : Bool). b && not (is_empty_log st.unread)) ask

    no_most_here : can_log a ≡ false → (makes_most S p ds st a && not row.before) ≡ false
    no_most_here can = ap (λ (b : Bool). b && not row.before) (not_most S sound p ds st a can)

    hidden_here : is_output e ≡ false → st.position ≡ length ds → exposed S sound (comes S.guests (local S.guests p ds) a) ≡ false
    hidden_here hid last = rw (here last) (hidden_any S sound e hid)

    with_replay : (b : Bool) → replays e st ≡ b → PartsOk S sound n p ds st a rule b → PartsOk S sound n p ds st a rule (replays e st)
    with_replay b is ok = subst (λ (x : Bool). PartsOk S sound n p ds st a rule x) (sym is) ok

    pub parts_ok : Sort e a → PartsOk S sound n p ds st a rule (replays e st)
    parts_ok (Sure plain ask chance) = with_replay false (no_replay_here ask)
        (subst (λ (f : Rule). PartsOk S sound n p ds st a f false)
        (sym (rule_is rule row.before false false refl (no_log_here ask) (or_false _ _ (no_after_sure (kind_at e) (since S.log_room e st any (makes_most S p ds st a)) S.protocol (inputs_are e ∙ ask) (chances_are e ∙ chance)) (no_most_here (plain_no_log a plain)))))
        (parts_sure row.before row_early (λ last x. row_clear (subst (λ (m : Event). S.exposes m ≡ true) (here last) x)) plain))
    parts_ok (Chance told can ask chance hid) = with_replay false (no_replay_here ask)
        (subst (λ (f : Rule). PartsOk S sound n p ds st a f false)
        (sym (rule_is rule false false row.after (no_before_told (kind_at e) (since S.log_room e st any (makes_most S p ds st a)) S.protocol (inputs_are e ∙ ask) (outputs_hidden e hid)) (no_log_here ask) (ap (λ (b : Bool). row.after || b) (no_most_here can) ∙ or_none row.after)))
        (parts_chance row.after (λ c. cand_after (kind_at e) (since S.log_room e st any (makes_most S p ds st a)) S.protocol (chances_are e ∙ chance) c) told can (hidden_here hid)))
    parts_ok (Asking told can ask chance hid) = ⊎_elim
        (λ none. let empty : st.unread ≡ [] = empty_is st.unread none in
        let off : replays e st ≡ false = rw empty (and_false (is_request e)) in
        with_replay false off (subst (λ (f : Rule). PartsOk S sound n p ds st a f false)
        (sym (rule_is rule row.before row.log rule.after refl refl refl))
        (parts_asking row.before row.log rule.after
        (λ l. log_facts (kind_at e) (since S.log_room e st any (makes_most S p ds st a)) S.protocol cand l)
        (λ c af. cand_logs (kind_at e) (since S.log_room e st any (makes_most S p ds st a)) S.protocol (inputs_are e ∙ ask) off c (or_parts row.after _ af).0)
        (λ af. (or_parts row.after _ af).1)
        told can (hidden_here hid) empty)))
        (λ some. let on : replays e st ≡ true = ap (λ (b : Bool). b && not (is_empty_log st.unread)) ask ∙ ap not some in
        let before_off : row.before ≡ false = no_before_replay (kind_at e) (since S.log_room e st any (makes_most S p ds st a)) S.protocol (outputs_hidden e hid) on in
        with_replay true on (subst (λ (f : Rule). PartsOk S sound n p ds st a f true)
        (sym (rule_is rule false false rule.after before_off (no_log_replay (kind_at e) (since S.log_room e st any (makes_most S p ds st a)) S.protocol on) refl))
        (parts_replay rule.after
        (λ af. ⊎_elim
        (λ h. inl (asking_after (kind_at e) (since S.log_room e st any (makes_most S p ds st a)) S.protocol (chances_are e ∙ chance) h))
        (λ h. inr (and_parts (makes_most S p ds st a) _ h).0)
        (or_cases row.after _ af))
        (λ af. and_yes (makes_most S p ds st a) (ap (λ (b : Bool). makes_most S p ds st a && not b) (sym before_off) ∙ (or_parts row.after _ af).1))
        told (λ x. true≢false (ap is_empty_log (sym x) ∙ some)))))
        (cases_Bool (is_empty_log st.unread))

-- each stop leaves what a recovery needs
module _ {Mc : Type 0} (S : System Mc) (sound : IsSound S) where
  pub down_from : (p : ℕ) (xs : List Answer) (st : Status) → SavesOk S sound p xs st → st.up ≡ false → Behind S p xs st
  down_from p xs st saves off = record { older = saves.0; newer = saves.1; order = saves.2; running = λ e. absurd (true≢false (sym e ∙ off)) }

  pub up_from : (p : ℕ) (xs : List Answer) (st : Status) → UpOk S p xs st → (is_cand S.protocol ≡ true → st.unlogged ≡ false) → FewOk S p xs st → Behind S p xs st
  up_from p xs st u cand few = let saves = each_up S sound p xs st u in record { older = saves.0; newer = saves.1; order = saves.2; running = λ _. record { ok = u; cand = cand; few = few } }

  behind_last : (n p : ℕ) (af : Bool) (xs : List Answer) (s : Status) → UpOk S p xs s → (af ≡ true → s.unread ≡ []) → (is_cand S.protocol ≡ true → af ≡ false → s.unlogged ≡ false) → (af ≡ false → FewOk S p xs s) → Behind S p xs (first_as af n s)
  behind_last n p true xs s u late cand few = up_from p xs (committed_as n s) (up_commit S sound n p xs s u (late refl)) (λ _. refl) (few_commit S sound n p xs s u (late refl))
  behind_last n p false xs s u late cand few = up_from p xs s u (λ c. cand c refl) (few refl)

  -- the process of the turn
  pub behind_after : (n m p : ℕ) (ds : List Answer) (st : Status) (a : Answer) (f : Rule) (rep : Bool) → UpOk S p ds st → PartsOk S sound n p ds st a f rep
      → (w : Place) → (w ≡ InBefore → f.before ≡ true) → (w ≡ InLog → f.log ≡ true) → (w ≡ InAfter → f.after ≡ true)
      → Behind S p (if has_act w then grown st.position ds a else ds) (left_as f rep (record { position = st.position; answer = a }) n m st w)
  behind_after n m p ds st a f rep up ok Nowhere h1 h2 h3 = behind_last m p f.after (grown st.position ds a) _ ok.third ok.late ok.cand ok.few
  behind_after n m p ds st a f rep up ok InBefore h1 h2 h3 = down_from p ds _ (each_torn S sound n p ds st up (ok.early (h1 refl))) refl
  behind_after n m p ds st a f rep up ok InLog h1 h2 h3 = down_from p (grown st.position ds a) _ (ok.log (h2 refl)) refl
  behind_after n m p ds st a f rep up ok InEvent h1 h2 h3 = down_from p (grown st.position ds a) _ (each_up S sound p (grown st.position ds a) _ ok.third) refl
  behind_after n m p ds st a f rep up ok InAfter h1 h2 h3 = down_from p (grown st.position ds a) _ (each_torn S sound m p (grown st.position ds a) _ ok.third (ok.late (h3 refl))) refl

  -- the others, where all fall together
  pub behind_beside : (n m p : ℕ) (ds : List Answer) (st : Status) (f : Rule) (before after : Bool) → Running S p ds st → st.unread ≡ [] → (w : Place) → Behind S p ds (beside f before after n m st w)
  behind_beside n m p ds st f before after run none w =
      let b : Bool = f.before && before in
      let up1 : UpOk S p ds (first_as b n st) = up_first S sound n p ds st Plain run.ok run.few b (λ _. none) in
      let none1 : (first_as b n st).unread ≡ [] = first_unread b n st none in
      by_place w up1 none1 (λ c. first_unlogged b n st (run.cand c)) (few_first S sound n p ds st Plain run.ok run.few b (λ _. none))
    where
      torn_by : (k : ℕ) (c : Bool) (s : Status) → UpOk S p ds s → s.unread ≡ [] → Behind S p ds (torn_or c k s)
      torn_by k true s u none = down_from p ds _ (each_torn S sound k p ds s u none) refl
      torn_by k false s u none = down_from p ds _ (each_up S sound p ds s u) refl

      by_place : (w : Place) → UpOk S p ds (first_as (f.before && before) n st) → (first_as (f.before && before) n st).unread ≡ [] → (is_cand S.protocol ≡ true → (first_as (f.before && before) n st).unlogged ≡ false) → FewOk S p ds (first_as (f.before && before) n st) → Behind S p ds (beside f before after n m st w)
      by_place Nowhere up1 none1 cand1 few1 = behind_last m p (f.after && after) ds (first_as (f.before && before) n st) up1 (λ _. none1) (λ c _. cand1 c) (λ _. few1)
      by_place InBefore up1 none1 cand1 few1 = torn_by n before st run.ok none
      by_place InLog up1 none1 cand1 few1 = up_from p ds _ up1 cand1 few1
      by_place InEvent up1 none1 cand1 few1 = down_from p ds _ (each_up S sound p ds (first_as (f.before && before) n st) up1) refl
      by_place InAfter up1 none1 cand1 few1 = torn_by m after (first_as (f.before && before) n st) up1 none1

  -- what the log answers is what was told
  pub log_answers : (p : ℕ) (ds : List Answer) (st : Status) (e : Event) (x : Logged) (es : List Logged) → UpOk S p ds st → ((a : Answer) → answer_at st.position ds ≡ Some a → Sort e a) → is_request e ≡ true → st.unread ≡ x ∷ es → (x.position ≡ st.position) × (answer_at st.position ds ≡ Some x.answer)
  log_answers p ds st e x es up sort ask some = ⊎_elim
      (λ (h : st.position < length ds).
      let r = act_there st.position ds h in
      let told : is_plain r.0 ≡ false = asking_told e r.0 (sort r.0 r.1) ask in
      let all : x ∷ es ≡ record { position = st.position; answer = r.0 } ∷ span (logged_at ds) (suc st.position) (length ds) = sym some ∙ sym up.rest ∙ rest_told S sound ds st.position r.0 h r.1 ∙ ap (λ (xs : List Logged). xs ++ span (logged_at ds) (suc st.position) (length ds)) (noted_told st.position r.0 told) in
      let f : x ≡ record { position = st.position; answer = r.0 } = cc in
      (ap (λ (y : Logged). y.position) f, r.1 ∙ ap (λ (y : Answer). Some y) (sym (ap (λ (y : Logged). y.answer) f))))
      (λ (h : length ds ≤ st.position). let none : x ∷ es ≡ [] = sym some ∙ sym up.rest ∙ span_none (logged_at ds) st.position (length ds) h in cc)
      (cases_lt st.position (length ds))
    where
      asking_told : (e : Event) (a : Answer) → Sort e a → is_request e ≡ true → is_plain a ≡ false
      asking_told e a (Sure plain off f) ask = absurd (true≢false (sym ask ∙ off))
      asking_told e a (Asking told y z v w) ask = told
      asking_told e a (Chance told y z v w) ask = told
