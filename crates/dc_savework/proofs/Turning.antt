-- One turn: what is kept of the journal and of who had a chance since its last commit.
use Rattle.std.proofs.Common.{◌≡◌, ◌≢◌, ◌∙◌, ◌<◌, ◌≤◌, ◌⊎◌, ◌&&◌, ◌||◌, inl, inr, ⊎_elim, ℕ, zero, suc, Bool, true, false, not, List, [], ◌∷◌, ◌++◌, length, arith, refl, sym, subst, ap, append_assoc}
use Rattle.std.proofs.lemmas.Bool.{and_cases, cases_Bool, cases_eq, or_left, or_parts, or_right, true≢false, not-false}
use Rattle.std.proofs.lemmas.List.{append-nil}
use Rattle.dc_audit.specs.declared.journal.Deed.{Deed}
use Rattle.dc_audit.specs.declared.journal.Deed.TheVariants.{Visible, Sends, Receives}
use Rattle.dc_audit.specs.declared.journal.Line.{Line}
use Rattle.dc_audit.specs.declared.journal.Line.TheVariants.{Does}
use Rattle.dc_audit.specs.Journals.{is_chance}
use Rattle.dc_audit.specs.Guarded.{is_output, is_visible}
use Rattle.dc_model.proofs.Own.{put_other, put_self}
use Rattle.dc_model.specs.Guests.{Answer, Event}
use Rattle.dc_model.specs.Guests.{is_send, is_visible as shows_users}
use Rattle.dc_model.specs.Guests.Answer.{Plain, Clock, Random, InputNone, InputNext, InputEnd, ReceiveNone, ReceiveFrom}
use Rattle.dc_model.specs.Guests.Event.{AtEnd, AtInternal, AtClock, AtRandom, AtInput, AtReceive, AtSend, AtVisible}
use Rattle.dc_model.specs.Process.{Local, comes}
use Rattle.dc_model.specs.Runs.{own}
use Rattle.dc_protocols.specs.Rules.{is_cand, is_causal, is_joint}
use Rattle.dc_protocols.specs.declared.protocol.Protocol.{Protocol}
use Rattle.dc_protocols.specs.declared.protocol.Rule.{Rule}
use Rattle.dc_protocols.specs.declared.protocol.Since.{Since}
use Rattle.dc_recovery.proofs.Joints.{none_unlogged}
use Rattle.dc_recovery.proofs.Parts.{commits_no, commits_yes, is_company, members_free, with_all}
use Rattle.dc_recovery.proofs.Rows.{visible_clear, visibles_are}
use Rattle.dc_recovery.specs.Answers.{any_at, any_unlogged, makes_most, replays, rule_at, since}
use Rattle.dc_recovery.specs.Core.{Core, Status, numbers_of, stands}
use Rattle.dc_recovery.specs.Parts.{Company, at_one, commit_if, commits_in, first, is_with, log_if, logged, event_later, second, third}
use Rattle.dc_recovery.specs.Parts.Place.{Nowhere}
use Rattle.dc_recovery.specs.Saves.{Logged as Record}
use Rattle.dc_recovery.specs.Systems.{IsSound, System, kind_at}
use Rattle.dc_recovery.specs.Ties.{company, numbers_first, tied_third}
use Rattle.dc_recovery.specs.Turned.{after_turn}
use Rattle.dc_savework.proofs.Keeping.{Kept, kept_commit, kept_event}
use Rattle.dc_savework.specs.Journal.{commit_lines, event_lines, is_chance_at, receipt, told, turn_lines}

-- who had a chance since its last commit
abbrev pub has_unsaved : (ℕ → Status) → ℕ → Bool
has_unsaved procs q = (procs q).unlogged

-- after a commit, if there is one
unsaved_before : (commits : ℕ → Bool) (numbers : ℕ → ℕ) (procs : ℕ → Status) (q : ℕ) → has_unsaved (commits_in commits numbers procs) q ≡ false → (commits q ≡ true) ⊎ (has_unsaved procs q ≡ false)
unsaved_before commits numbers procs q off = ⊎_elim (λ (t : commits q ≡ true). inl t)
    (λ (f : commits q ≡ false). inr (ap (λ (st : Status). st.unlogged) (sym (commits_no commits numbers procs q f)) ∙ off)) (cases_Bool (commits q))

kept_commit_if : (b : Bool) (pr : Protocol) (n p : ℕ) (commits : ℕ → Bool) (numbers : ℕ → ℕ) (procs : ℕ → Status) (journal : List Line) → n ≤ 16 → ((q : ℕ) → commits q ≡ is_with pr p q) → Kept pr n (has_unsaved procs) journal
    → Kept pr n (has_unsaved (commit_if b commits numbers procs)) (journal ++ commit_lines b n commits)
kept_commit_if false pr n p commits numbers procs journal few are k = subst (λ (j : List Line). Kept pr n (has_unsaved procs) j) (sym (append-nil journal)) k
kept_commit_if true pr n p commits numbers procs journal few are k = kept_commit pr n p commits (has_unsaved procs) (has_unsaved (commits_in commits numbers procs)) journal few are (unsaved_before commits numbers procs) k

-- a log record leaves it
log_own : (l : Bool) (x : Record) (p : ℕ) (procs : ℕ → Status) (q : ℕ) → has_unsaved (log_if l x p procs) q ≡ has_unsaved procs q
log_own false x p procs q = refl
log_own true x p procs q = ⊎_elim
    (λ (e : p ≡ q). subst (λ (i : ℕ). has_unsaved (at_one p (logged x) procs) i ≡ has_unsaved procs i) e (ap (λ (st : Status). st.unlogged) (put_self p (logged x (procs p)) procs)))
    (λ (ne : p ≢ q). ap (λ (st : Status). st.unlogged) (put_other p q (logged x (procs p)) procs ne)) (cases_eq p q)

-- an event
event_own : (replay chance : Bool) (p : ℕ) (procs : ℕ → Status) (q : ℕ) → has_unsaved (at_one p (event_later replay chance) procs) q ≡ false → has_unsaved procs q ≡ false
event_own replay chance p procs q off = ⊎_elim
    (λ (e : p ≡ q). subst (λ (i : ℕ). has_unsaved procs i ≡ false) e (or_parts (has_unsaved procs p) chance
    (ap (λ (st : Status). st.unlogged) (sym (put_self p (event_later replay chance (procs p)) procs)) ∙ subst (λ (i : ℕ). has_unsaved (at_one p (event_later replay chance) procs) i ≡ false) (sym e) off)).0)
    (λ (ne : p ≢ q). ap (λ (st : Status). st.unlogged) (sym (put_other p q (event_later replay chance (procs p)) procs ne)) ∙ off) (cases_eq p q)

event_sets : (replay chance : Bool) (p : ℕ) (procs : ℕ → Status) → chance ≡ true → has_unsaved (at_one p (event_later replay chance) procs) p ≡ true
event_sets replay chance p procs on = ap (λ (st : Status). st.unlogged) (put_self p (event_later replay chance (procs p)) procs) ∙ or_right (has_unsaved procs p) chance on

-- what an event finds after the commit before it: at a send nothing unsaved of the process, where each commits by itself; at a visible one nothing of any
pub record Finds (pr : Protocol) (n p : ℕ) (e : Event) (unsaved : ℕ → Bool) : Type 0 where
  pub alone : is_joint pr ≡ false → (is_send e || shows_users e) ≡ true → unsaved p ≡ false
  pub joint : is_joint pr ≡ true → shows_users e ≡ true → (q : ℕ) → q < n → unsaved q ≡ false

chance_of : (p : ℕ) (chance : Bool) → is_chance (Does p (told chance)) ≡ true → chance ≡ true
chance_of p true e = refl
chance_of p false e = absurd (true≢false (sym e))

told_quiet : (p : ℕ) (chance : Bool) → is_output (Does p (told chance)) ≡ false
told_quiet p true = refl
told_quiet p false = refl

told_hidden : (p : ℕ) (chance : Bool) → is_visible (Does p (told chance)) ≡ false
told_hidden p true = refl
told_hidden p false = refl

module _ (pr : Protocol) (n p : ℕ) (unsaved after : ℕ → Bool) (journal : List Line) (chance : Bool) (inside : p < n) (grows : (q : ℕ) → after q ≡ false → unsaved q ≡ false) (sets : chance ≡ true → after p ≡ true)
    (k : Kept pr n unsaved journal) where
  -- a line of something that was told
  kept_told : (deed : Deed) → (is_chance (Does p deed) ≡ true → chance ≡ true) → is_output (Does p deed) ≡ false → is_visible (Does p deed) ≡ false → Kept pr n after (journal ++ Does p deed ∷ [])
  kept_told deed ch out vis = kept_event pr n p unsaved after journal deed inside grows (λ c. sets (ch c)) (λ g o. absurd (true≢false (sym o ∙ out))) (λ g o. absurd (true≢false (sym o ∙ vis))) k

  -- a received message is a chance where it was not logged
  receipt_chance : (s i : ℕ) (c : Bool) → is_chance (Does p (Receives s i (not c))) ≡ true → c ≡ true
  receipt_chance s i true e = refl
  receipt_chance s i false e = absurd (true≢false (sym e))

  kept_receipt : {Mc : Type 0} (l : Local Mc) (a : Answer) → Kept pr n after (journal ++ Does p (receipt l chance a) ∷ [])
  kept_receipt l (ReceiveFrom s m) = kept_told (Receives s (l.received s) (not chance)) (receipt_chance s (l.received s) chance) refl refl
  kept_receipt l Plain = kept_told (told chance) (chance_of p chance) (told_quiet p chance) (told_hidden p chance)
  kept_receipt l (Clock v) = kept_told (told chance) (chance_of p chance) (told_quiet p chance) (told_hidden p chance)
  kept_receipt l (Random v) = kept_told (told chance) (chance_of p chance) (told_quiet p chance) (told_hidden p chance)
  kept_receipt l InputNone = kept_told (told chance) (chance_of p chance) (told_quiet p chance) (told_hidden p chance)
  kept_receipt l (InputNext bytes) = kept_told (told chance) (chance_of p chance) (told_quiet p chance) (told_hidden p chance)
  kept_receipt l InputEnd = kept_told (told chance) (chance_of p chance) (told_quiet p chance) (told_hidden p chance)
  kept_receipt l ReceiveNone = kept_told (told chance) (chance_of p chance) (told_quiet p chance) (told_hidden p chance)

  -- less is said where more had an unlogged chance
  kept_silent : Kept pr n after journal
  kept_silent = record { among = k.among; saved = λ q off. k.saved q (grows q off); alone = k.alone; joint = k.joint }

  pub kept_lines : {Mc : Type 0} (l : Local Mc) (a : Answer) (e : Event) → Finds pr n p e unsaved → Kept pr n after (journal ++ event_lines l p chance a e)
  kept_lines l a AtClock finds = kept_told (told chance) (chance_of p chance) (told_quiet p chance) (told_hidden p chance)
  kept_lines l a AtRandom finds = kept_told (told chance) (chance_of p chance) (told_quiet p chance) (told_hidden p chance)
  kept_lines l a AtInput finds = kept_told (told chance) (chance_of p chance) (told_quiet p chance) (told_hidden p chance)
  kept_lines l a AtReceive finds = kept_receipt l a
  kept_lines l a (AtVisible body) finds = kept_event pr n p unsaved after journal Visible inside grows (λ c. absurd (true≢false (sym c))) (λ g o. finds.alone g refl) (λ g o. finds.joint g refl) k
  kept_lines l a (AtSend q message) finds = kept_event pr n p unsaved after journal (Sends q (length (l.sent q))) inside grows (λ c. absurd (true≢false (sym c))) (λ g o. finds.alone g refl) (λ g o. absurd (true≢false (sym o))) k
  kept_lines l a AtInternal finds = subst (λ (j : List Line). Kept pr n after j) (sym (append-nil journal)) kept_silent
  kept_lines l a AtEnd finds = subst (λ (j : List Line). Kept pr n after j) (sym (append-nil journal)) kept_silent

-- some process had one
any_here : (n q : ℕ) (procs : ℕ → Status) → q < n → has_unsaved procs q ≡ true → any_unlogged n procs ≡ true
any_here zero q procs h on = absurd (omega arith)
any_here (suc n) q procs h on = ⊎_elim
    (λ (same : n ≡ q). or_left (procs n).unlogged (any_unlogged n procs) (subst (λ (i : ℕ). has_unsaved procs i ≡ true) (sym same) on))
    (λ (ne : n ≢ q). or_right (procs n).unlogged (any_unlogged n procs) (any_here n q procs (omega arith) on)) (cases_eq n q)

-- a commit leaves its members without
commit_clears : (commits : ℕ → Bool) (numbers : ℕ → ℕ) (procs : ℕ → Status) (q : ℕ) → commits q ≡ true → has_unsaved (commits_in commits numbers procs) q ≡ false
commit_clears commits numbers procs q w = ap (λ (st : Status). st.unlogged) (commits_yes commits numbers procs q w)

module _ {Mc : Type 0} (S : System Mc) (sound : IsSound S) (c : Core) (p : ℕ) (a : Answer) (inside : p < S.guests.count) (free : is_causal S.protocol ≡ false) (cand : is_cand S.protocol ≡ true → has_unsaved c.procs p ≡ false) where
  abbrev e : Event
  e = comes S.guests (stands S.guests c p) a

  abbrev f : Rule
  f = rule_at S c p a

  abbrev found : Since
  found = since S.log_room e (c.procs p) (any_at S c p) (makes_most S p (own p c.acts) (c.procs p) a)

  abbrev with : Company
  with = company S c p a

  -- where all that fall together commit together, these are the members of each commit
  before_are : (q : ℕ) → with.before q ≡ is_with S.protocol p q
  before_are q = members_free S c.ties (numbers_of c.procs) p free q

  after_are : (q : ℕ) → with.after q ≡ is_with S.protocol p q
  after_are q = members_free S (tied_third S c p a) (numbers_first S c p a) p free q

  any_is : any_at S c p ≡ any_unlogged S.guests.count c.procs
  any_is = rw free refl

  exposed_alone : is_joint S.protocol ≡ false → (is_send e || shows_users e) ≡ true → S.exposes e ≡ true
  exposed_alone g out = ⊎_elim (λ (x : is_send e ≡ true). sound.sent g e x) (λ (x : is_send e ≡ false). sound.visible e (let k : shows_users e ≡ true = subst (λ (b : Bool). (b || shows_users e) ≡ true) x out in k)) (cases_Bool (is_send e))

  clear_alone : S.exposes e ≡ true → (has_unsaved c.procs p && not f.before) ≡ false
  clear_alone ex = sound.clear e found ex cand (λ on. any_is ∙ any_here S.guests.count p c.procs inside on)

  alone_by : (b : Bool) → f.before ≡ b → is_joint S.protocol ≡ false → (is_send e || shows_users e) ≡ true → has_unsaved (commit_if b with.before with.numbers_before c.procs) p ≡ false
  alone_by true is g out = commit_clears with.before with.numbers_before c.procs p (is_company S c p a).before
  alone_by false is g out = ⊎_elim (λ (x : has_unsaved c.procs p ≡ false). x) (λ (x : not f.before ≡ false). absurd (true≢false (sym (not-false f.before x) ∙ is))) (and_cases (has_unsaved c.procs p) (not f.before) (clear_alone (exposed_alone g out)))

  joint_by : (b : Bool) → f.before ≡ b → is_joint S.protocol ≡ true → shows_users e ≡ true → (q : ℕ) → q < S.guests.count → has_unsaved (commit_if b with.before with.numbers_before c.procs) q ≡ false
  joint_by true is g out q h = commit_clears with.before with.numbers_before c.procs q (before_are q ∙ with_all S.protocol p q g)
  joint_by false is g out q h = none_unlogged S.guests.count c.procs q (sym any_is ∙ visible_clear (kind_at e) found S.protocol g (visibles_are e ∙ out) is) h

  finds : Finds S.protocol S.guests.count p e (has_unsaved (first f with c.procs))
  finds = record { alone = alone_by f.before refl; joint = joint_by f.before refl }

  -- the whole turn
  pub kept_turn : S.guests.count ≤ 16 → (t : ℕ) (journal : List Line) → Kept S.protocol S.guests.count (has_unsaved c.procs) journal
      → Kept S.protocol S.guests.count (has_unsaved (after_turn S t c p a Nowhere).procs) (journal ++ turn_lines S c p a)
  kept_turn few t journal k =
      let rep : Bool = replays e (c.procs p) in
      let chance : Bool = is_chance_at S c p a in
      let x : Record = record { position = (c.procs p).position; answer = a } in
      let one = first f with c.procs in
      let two = second f x with p c.procs in
      let three = third f rep x with p c.procs in
      let before : List Line = commit_lines f.before S.guests.count with.before in
      let line : List Line = event_lines (stands S.guests c p) p chance a e in
      let after : List Line = commit_lines f.after S.guests.count with.after in
      let k1 : Kept S.protocol S.guests.count (has_unsaved one) (journal ++ before) = kept_commit_if f.before S.protocol S.guests.count p with.before with.numbers_before c.procs journal few before_are k in
      let k2 : Kept S.protocol S.guests.count (has_unsaved three) ((journal ++ before) ++ line) = kept_lines S.protocol S.guests.count p (has_unsaved one) (has_unsaved three) (journal ++ before) chance inside
      (λ q off. sym (log_own f.log x p one q) ∙ event_own rep chance p two q off) (λ on. event_sets rep chance p two on) k1 (stands S.guests c p) a e finds in
      let k3 : Kept S.protocol S.guests.count (has_unsaved (commit_if f.after with.after with.numbers_after three)) (((journal ++ before) ++ line) ++ after) = kept_commit_if f.after S.protocol S.guests.count p with.after with.numbers_after three ((journal ++ before) ++ line) few after_are k2 in
      let same : ((journal ++ before) ++ line) ++ after ≡ journal ++ turn_lines S c p a = regroup journal before line after in
      subst (λ (j : List Line). Kept S.protocol S.guests.count (has_unsaved (commit_if f.after with.after with.numbers_after three)) j) same k3
    where
      regroup : (j b l m : List Line) → ((j ++ b) ++ l) ++ m ≡ j ++ (b ++ l ++ m)
      regroup j b l m = simp append_assoc
