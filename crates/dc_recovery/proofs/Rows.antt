-- The protocols' rows: the facts by which the table enters.
use Rattle.std.proofs.Common.{◌≡◌, ◌∙◌, ℕ, List, [], ◌∷◌, refl, ap, sym, ⊎_elim, Bool, true, false, not, ◌&&◌, ◌||◌}
use Rattle.std.proofs.lemmas.Bool.{true≢false, and_parts, or_cases, or_parts, or_left, or_right, not-true}
use Rattle.dc_events.specs.declared.event.Kind.{Kind}
use Rattle.dc_model.specs.Guests.{Event, is_clock, is_random, is_request, is_send, is_visible}
use Rattle.dc_model.specs.Guests.Event.{AtClock, AtInput, AtRandom, AtReceive, AtSend, AtVisible}
use Rattle.dc_protocols.specs.Rules.{at_clock_and_random, at_inputs, at_outputs, at_sends, at_visible, has_log, is_cand, is_causal, is_global, is_joint, row_of}
use Rattle.dc_protocols.specs.declared.protocol.Protocol.{Protocol}
use Rattle.dc_protocols.specs.declared.protocol.Protocol.TheVariants.{Cand, CandLog, Cbndv2pc, Cbndv2pcCausal, Cbndvs, CbndvsLog, Cpv2pc, Cpvs}
use Rattle.dc_protocols.specs.declared.protocol.Since.{Since}
use Rattle.dc_recovery.specs.Answers.{is_full, since}
use Rattle.dc_recovery.specs.Core.{Status}
use Rattle.dc_recovery.specs.Saves.{Logged, is_empty_log}
use Rattle.dc_recovery.specs.Systems.{kind_at}
use Rattle.dc_events.specs.declared.event.Kind.TheVariants as kind

-- an event that is a matter of chance, and cannot be logged
abbrev pub is_chance : Event → Bool
is_chance e = is_clock e || is_random e

-- kinds by events
pub inputs_are : (e : Event) → at_inputs (kind_at e) ≡ is_request e
inputs_are AtInput = refl
inputs_are AtReceive = refl
inputs_are _ = refl

pub chances_are : (e : Event) → at_clock_and_random (kind_at e) ≡ is_chance e
chances_are AtClock = refl
chances_are AtRandom = refl
chances_are _ = refl

pub visibles_are : (e : Event) → at_visible (kind_at e) ≡ is_visible e
visibles_are (AtVisible body) = refl
visibles_are _ = refl

pub sends_are : (e : Event) → at_sends (kind_at e) ≡ is_send e
sends_are (AtSend to message) = refl
sends_are _ = refl

pub and_false : (b : Bool) → (b && false) ≡ false
and_false true = refl
and_false false = refl

pub and_not : (b : Bool) → (b && not b) ≡ false
and_not true = refl
and_not false = refl

pub and_not_or : (b c : Bool) → (b && not (b || c)) ≡ false
and_not_or true c = refl
and_not_or false c = refl

pub or_none : (b : Bool) → b || false ≡ b
or_none true = refl
or_none false = refl

pub and_yes : (b : Bool) → (b && true) ≡ false → b ≡ false
and_yes true e = e
and_yes false e = e

unlogged_any : (own any : Bool) → (own ≡ true → any ≡ true) → (own && not any) ≡ false
unlogged_any true any h = rw (h refl) refl
unlogged_any false any h = refl

-- the table's rows, for an event of one kind
module _ (k : Kind) (s : Since) where
  pub no_log_sure : (pr : Protocol) → at_inputs k ≡ false → (row_of pr k s).log ≡ false
  no_log_sure CandLog e = rw e refl
  no_log_sure CbndvsLog e = rw e refl
  no_log_sure Cand e = refl
  no_log_sure Cpvs e = refl
  no_log_sure Cbndvs e = refl
  no_log_sure Cpv2pc e = refl
  no_log_sure Cbndv2pc e = refl
  no_log_sure Cbndv2pcCausal e = refl

  pub no_after_sure : (pr : Protocol) → at_inputs k ≡ false → at_clock_and_random k ≡ false → (row_of pr k s).after ≡ false
  no_after_sure Cand e c = rw (c, e) refl
  no_after_sure CandLog e c = c
  no_after_sure Cpvs e c = refl
  no_after_sure Cbndvs e c = refl
  no_after_sure CbndvsLog e c = refl
  no_after_sure Cpv2pc e c = refl
  no_after_sure Cbndv2pc e c = refl
  no_after_sure Cbndv2pcCausal e c = refl

  pub no_before_told : (pr : Protocol) → at_inputs k ≡ false → at_outputs k ≡ false → (row_of pr k s).before ≡ false
  no_before_told Cand e x = refl
  no_before_told CandLog e x = rw e refl
  no_before_told Cpvs e x = x
  no_before_told Cbndvs e x = rw x refl
  no_before_told CbndvsLog e x = rw (x, e) refl
  no_before_told Cpv2pc e x = (or_parts (at_visible k) _ x).0
  no_before_told Cbndv2pc e x = rw (or_parts (at_visible k) _ x).0 refl
  no_before_told Cbndv2pcCausal e x = rw (or_parts (at_visible k) _ x).0 refl

  pub no_before_replay : (pr : Protocol) → at_outputs k ≡ false → s.replay ≡ true → (row_of pr k s).before ≡ false
  no_before_replay Cand x r = refl
  no_before_replay CandLog x r = rw r (and_false (at_inputs k && s.full))
  no_before_replay Cpvs x r = x
  no_before_replay Cbndvs x r = rw x refl
  no_before_replay CbndvsLog x r = rw (x, r) (and_false (at_inputs k && not s.unlogged && s.full))
  no_before_replay Cpv2pc x r = (or_parts (at_visible k) _ x).0
  no_before_replay Cbndv2pc x r = rw (or_parts (at_visible k) _ x).0 refl
  no_before_replay Cbndv2pcCausal x r = rw (or_parts (at_visible k) _ x).0 refl

  pub no_log_replay : (pr : Protocol) → s.replay ≡ true → (row_of pr k s).log ≡ false
  no_log_replay CandLog r = rw r (and_false (at_inputs k))
  no_log_replay CbndvsLog r = rw r (and_false (at_inputs k && not s.unlogged))
  no_log_replay Cand r = refl
  no_log_replay Cpvs r = refl
  no_log_replay Cbndvs r = refl
  no_log_replay Cpv2pc r = refl
  no_log_replay Cbndv2pc r = refl
  no_log_replay Cbndv2pcCausal r = refl

  -- what is logged is logged with no unlogged event
  pub log_facts : (pr : Protocol) → (is_cand pr ≡ true → s.unlogged ≡ false) → (row_of pr k s).log ≡ true → (has_log pr ≡ true) × (s.unlogged ≡ false)
  log_facts CandLog cand e = (refl, cand refl)
  log_facts CbndvsLog cand e = (refl, not-true s.unlogged (and_parts (at_inputs k) (not s.unlogged) (and_parts (at_inputs k && not s.unlogged) _ e).0).1)
  log_facts Cand cand e = absurd (true≢false (sym e))
  log_facts Cpvs cand e = absurd (true≢false (sym e))
  log_facts Cbndvs cand e = absurd (true≢false (sym e))
  log_facts Cpv2pc cand e = absurd (true≢false (sym e))
  log_facts Cbndv2pc cand e = absurd (true≢false (sym e))
  log_facts Cbndv2pcCausal cand e = absurd (true≢false (sym e))

  -- after the commit before, the mark of an unlogged event is clear at what is exposed
  pub exposed_clear : (pr : Protocol) → (is_cand pr ≡ true → s.unlogged ≡ false) → (s.unlogged ≡ true → s.any ≡ true)
      → (is_joint pr ≡ false → at_outputs k ≡ true) → (is_joint pr ≡ true → at_visible k ≡ true) → (s.unlogged && not (row_of pr k s).before) ≡ false
  exposed_clear Cand cand any out vis = rw (cand refl) refl
  exposed_clear CandLog cand any out vis = rw (cand refl) refl
  exposed_clear Cpvs cand any out vis = rw (out refl) (and_false s.unlogged)
  exposed_clear Cbndvs cand any out vis = rw (out refl) (and_not s.unlogged)
  exposed_clear CbndvsLog cand any out vis = rw (out refl) (and_not_or s.unlogged _)
  exposed_clear Cpv2pc cand any out vis = rw (vis refl) (and_false s.unlogged)
  exposed_clear Cbndv2pc cand any out vis = rw (vis refl) (unlogged_any s.unlogged s.any any)
  exposed_clear Cbndv2pcCausal cand any out vis = rw (vis refl) (unlogged_any s.unlogged s.any any)

  -- and no process has any, where all commit together
  pub visible_clear : (pr : Protocol) → is_joint pr ≡ true → at_visible k ≡ true → (row_of pr k s).before ≡ false → s.any ≡ false
  visible_clear Cpv2pc g vis off = absurd (true≢false (sym vis ∙ off))
  visible_clear Cbndv2pc g vis off = ap (λ (b : Bool). b && s.any) (sym vis) ∙ off
  visible_clear Cbndv2pcCausal g vis off = ap (λ (b : Bool). b && s.any) (sym vis) ∙ off
  visible_clear Cand g vis off = absurd (true≢false (sym g))
  visible_clear CandLog g vis off = absurd (true≢false (sym g))
  visible_clear Cpvs g vis off = absurd (true≢false (sym g))
  visible_clear Cbndvs g vis off = absurd (true≢false (sym g))
  visible_clear CbndvsLog g vis off = absurd (true≢false (sym g))

  pub cand_after : (pr : Protocol) → at_clock_and_random k ≡ true → is_cand pr ≡ true → (row_of pr k s).after ≡ true
  cand_after Cand chance c = or_left (at_clock_and_random k) (at_inputs k) chance
  cand_after CandLog chance c = chance
  cand_after Cpvs chance c = absurd (true≢false (sym c))
  cand_after Cbndvs chance c = absurd (true≢false (sym c))
  cand_after CbndvsLog chance c = absurd (true≢false (sym c))
  cand_after Cpv2pc chance c = absurd (true≢false (sym c))
  cand_after Cbndv2pc chance c = absurd (true≢false (sym c))
  cand_after Cbndv2pcCausal chance c = absurd (true≢false (sym c))

  pub asking_after : (pr : Protocol) → at_clock_and_random k ≡ false → (row_of pr k s).after ≡ true → has_log pr ≡ false
  asking_after Cand chance e = refl
  asking_after CandLog chance e = absurd (true≢false (sym e ∙ chance))
  asking_after Cpvs chance e = refl
  asking_after Cbndvs chance e = refl
  asking_after CbndvsLog chance e = absurd (true≢false (sym e))
  asking_after Cpv2pc chance e = refl
  asking_after Cbndv2pc chance e = refl
  asking_after Cbndv2pcCausal chance e = refl

  -- where CAND and CAND-LOG ask without a commit after, they log
  pub cand_logs : (pr : Protocol) → at_inputs k ≡ true → s.replay ≡ false → is_cand pr ≡ true → (row_of pr k s).after ≡ false → (row_of pr k s).log ≡ true
  cand_logs Cand ask r c e = absurd (true≢false (sym (or_right (at_clock_and_random k) (at_inputs k) ask) ∙ e))
  cand_logs CandLog ask r c e = rw (ask, r) refl
  cand_logs Cpvs ask r c e = absurd (true≢false (sym c))
  cand_logs Cbndvs ask r c e = absurd (true≢false (sym c))
  cand_logs CbndvsLog ask r c e = absurd (true≢false (sym c))
  cand_logs Cpv2pc ask r c e = absurd (true≢false (sym c))
  cand_logs Cbndv2pc ask r c e = absurd (true≢false (sym c))
  cand_logs Cbndv2pcCausal ask r c e = absurd (true≢false (sym c))

  -- a commit after, a log record: at nothing visible
  pub after_unseen : (pr : Protocol) → (row_of pr k s).after ≡ true → at_visible k ≡ false
  after_unseen pr e = unseen pr k s e
    where
      unseen : (pr : Protocol) (k : Kind) (s : Since) → (row_of pr k s).after ≡ true → at_visible k ≡ false
      unseen Cand kind.Visible s e = absurd (true≢false (sym e))
      unseen CandLog kind.Visible s e = absurd (true≢false (sym e))
      unseen Cpvs kind.Visible s e = absurd (true≢false (sym e))
      unseen Cbndvs kind.Visible s e = absurd (true≢false (sym e))
      unseen CbndvsLog kind.Visible s e = absurd (true≢false (sym e))
      unseen Cpv2pc kind.Visible s e = absurd (true≢false (sym e))
      unseen Cbndv2pc kind.Visible s e = absurd (true≢false (sym e))
      unseen Cbndv2pcCausal kind.Visible s e = absurd (true≢false (sym e))
      unseen pr _ s e = refl

  pub log_unseen : (pr : Protocol) → (row_of pr k s).log ≡ true → at_inputs k ≡ true
  log_unseen CandLog e = (and_parts (at_inputs k) _ e).0
  log_unseen CbndvsLog e = (and_parts (at_inputs k) (not s.unlogged) (and_parts (at_inputs k && not s.unlogged) _ e).0).0
  log_unseen Cand e = absurd (true≢false (sym e))
  log_unseen Cpvs e = absurd (true≢false (sym e))
  log_unseen Cbndvs e = absurd (true≢false (sym e))
  log_unseen Cpv2pc e = absurd (true≢false (sym e))
  log_unseen Cbndv2pc e = absurd (true≢false (sym e))
  log_unseen Cbndv2pcCausal e = absurd (true≢false (sym e))

-- no log where all commit together
pub global_no_log : (pr : Protocol) → is_joint pr ≡ true → has_log pr ≡ false
global_no_log Cpv2pc g = refl
global_no_log Cbndv2pc g = refl
global_no_log Cbndv2pcCausal g = refl
global_no_log Cand g = refl
global_no_log Cpvs g = refl
global_no_log Cbndvs g = refl
global_no_log CandLog g = absurd (true≢false (sym g))
global_no_log CbndvsLog g = absurd (true≢false (sym g))

-- where all commit each time
pub global_free : (pr : Protocol) → is_global pr ≡ true → is_causal pr ≡ false
global_free Cpv2pc g = refl
global_free Cbndv2pc g = refl
global_free Cbndv2pcCausal g = absurd (true≢false (sym g))
global_free _ g = refl

pub idle : (e : Event) (es : List Logged) → not (is_request e && not (is_empty_log es)) ≡ true → is_request e ≡ true → es ≡ []
idle e [] h a = refl
idle e (x ∷ es) h a = absurd (true≢false (sym (sym (ap (λ (b : Bool). not (b && true)) a) ∙ h)))

-- a commit before has nothing left to read
pub early_read : (pr : Protocol) (room : ℕ) (e : Event) (st : Status) (any many : Bool) → (has_log pr ≡ false → st.unread ≡ []) → (st.unlogged ≡ true → st.unread ≡ [])
    → (row_of pr (kind_at e) (since room e st any many)).before ≡ true → st.unread ≡ []
early_read Cand room e st any many none sure on = absurd (true≢false (sym on))
early_read Cpvs room e st any many none sure on = none refl
early_read Cbndvs room e st any many none sure on = none refl
early_read Cpv2pc room e st any many none sure on = none refl
early_read Cbndv2pc room e st any many none sure on = none refl
early_read Cbndv2pcCausal room e st any many none sure on = none refl
early_read CandLog room e st any many none sure on = let k = and_parts (at_inputs (kind_at e) && is_full room st.newer) _ on in
    idle e st.unread k.1 (sym (inputs_are e) ∙ (and_parts (at_inputs (kind_at e)) (is_full room st.newer) k.0).0)
early_read CbndvsLog room e st any many none sure on = ⊎_elim
    (λ h. sure (and_parts (at_outputs (kind_at e)) st.unlogged h).1)
    (λ h. let k = and_parts (at_inputs (kind_at e) && not st.unlogged && is_full room st.newer) _ h in
    idle e st.unread k.1 (sym (inputs_are e) ∙ (and_parts (at_inputs (kind_at e)) (not st.unlogged) (and_parts (at_inputs (kind_at e) && not st.unlogged) (is_full room st.newer) k.0).0).0))
    (or_cases _ _ on)
