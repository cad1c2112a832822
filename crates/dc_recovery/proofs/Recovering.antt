-- What a recovery leaves, and what stands unsaved.
use Rattle.std.proofs.Common.{◌≡◌, ◌≢◌, ◌∙◌, ℕ, ◌+◌, ◌<◌, List, [], ◌∷◌, length, refl, subst, sym, inl, inr, Bool, true, false, Option, Some, None, slice_get, IsSomeAnd}
use Rattle.std.proofs.lemmas.Bool.{cond_both, or_left}
use Rattle.dc_model.specs.Guests.{Answer, Event}
use Rattle.dc_model.specs.Guests.Event.{AtEnd}
use Rattle.dc_model.specs.Process.{comes}
use Rattle.dc_model.specs.Runs.{own}
use Rattle.dc_model.specs.declared.entry.Entry.{Entry}
use Rattle.dc_model.specs.declared.entry.Entry.TheVariants.{Power, Stop, Turn}
use Rattle.dc_model.specs.declared.mark.Mark.{Mark}
use Rattle.dc_protocols.specs.Rules.{is_causal, is_global, is_joint}
use Rattle.dc_recovery.proofs.Ends.{holds_opened, leads_follow}
use Rattle.dc_recovery.proofs.Given.{answer_told}
use Rattle.dc_recovery.proofs.Holding.{joint_turn, rise_joint, rise_own_none, rise_well}
use Rattle.dc_recovery.proofs.Joints.{saved_of}
use Rattle.dc_recovery.proofs.Parts.{with_none}
use Rattle.dc_recovery.specs.Answers.{answer, is_blocked}
use Rattle.dc_recovery.specs.Core.{Core, Status, Which, opened_core, opening, save_of, stands, untied}
use Rattle.dc_recovery.specs.Core.Which.{Newer, Older}
use Rattle.dc_recovery.specs.Invariant.{Holds}
use Rattle.dc_recovery.specs.Kept.{saved}
use Rattle.dc_recovery.specs.Parts.{each, fallen, is_with}
use Rattle.dc_recovery.specs.Recoveries.{RecoversWell, SavedBeforeShown, until_shown}
use Rattle.dc_recovery.specs.Saves.{logged_at, span}
use Rattle.dc_recovery.specs.Systems.{IsSound, System}
use Rattle.dc_recovery.specs.Turned.{LeadsTo, Runs, RunsOr, Takes, TakesOr, Turned}

pub recovers_well : {Mc : Type 0} (S : System Mc) (sound : IsSound S) (schedule : List Entry) (t : ℕ) (c : Core) → Holds S schedule t c → (p : ℕ) → (c.procs p).up ≡ false → (k : Which) → RecoversWell S c p k
recovers_well S sound schedule t c now p down k = record {
  well = rise_well S sound schedule t c now p down k;
  others = λ alone q ne. rise_own_none S sound schedule t c now p down k q (with_none S.protocol p q alone ne);
}

-- nothing unsaved comes before a visible act, entry by entry
module _ {Mc : Type 0} (S : System Mc) (sound : IsSound S) (schedule : List Entry) (t : ℕ) (c : Core) (now : Holds S schedule t c) (all : is_global S.protocol ≡ true) (saved : SavedBeforeShown S.guests c) where
  abbrev g : is_joint S.protocol ≡ true
  g = or_left (is_global S.protocol) (is_causal S.protocol) all

  saved_same : (d : Core) → d ≡ c → SavedBeforeShown S.guests d
  saved_same d e = subst (λ (x : Core). SavedBeforeShown S.guests x) (sym e) saved

  saved_falls : (test : ℕ → Bool) → SavedBeforeShown S.guests (record { acts = c.acts; lines = c.lines; procs = each test fallen c.procs; ties = untied })
  saved_falls test k q = cond_both (test q) (fallen (c.procs q)) (c.procs q) (λ (st : Status). span (logged_at (own q c.acts)) (save_of k st).position (until_shown S.guests c.acts q) ≡ []) (λ _. by_which k) (λ _. saved k q)
    where
      by_which : (k : Which) → span (logged_at (own q c.acts)) (save_of k (fallen (c.procs q))).position (until_shown S.guests c.acts q) ≡ []
      by_which Older = saved Older q
      by_which Newer = saved Newer q

  module _ (p word clock : ℕ) (inside : p < S.guests.count) (m : Mark) (d : Core) where
    abbrev a : Answer
    a = answer S.guests c p word clock

    saved_takes : (up : (c.procs p).up ≡ true) → comes S.guests (stands S.guests c p) (answer S.guests c p word clock) ≢ AtEnd → Takes S c (record { t = t; p = p; answer = a }) (comes S.guests (stands S.guests c p) a) m d → SavedBeforeShown S.guests d
    saved_takes up live (w, may, mk, is) = subst (λ (x : Core). SavedBeforeShown S.guests x) (sym is)
        (saved_of S _ (joint_turn S sound schedule t c now p a (answer_told S.guests c p word clock ((now.behind p).running up).ok.within live) up inside g true (λ _. all) (λ _. saved) w may))

    saved_block : (up : (c.procs p).up ≡ true) → comes S.guests (stands S.guests c p) (answer S.guests c p word clock) ≢ AtEnd → (b : Bool) → TakesOr b S c (record { t = t; p = p; answer = a }) (comes S.guests (stands S.guests c p) a) m d → SavedBeforeShown S.guests d
    saved_block up live true turned = saved_same d turned.1
    saved_block up live false turned = saved_takes up live turned

    saved_event : (up : (c.procs p).up ≡ true) → (e : Event) → comes S.guests (stands S.guests c p) a ≡ e → Runs S c (record { t = t; p = p; answer = a }) e m d → SavedBeforeShown S.guests d
    saved_event up AtEnd at turned = saved_same d turned.1
    saved_event up e at turned = saved_block up (λ ended. let never : e ≡ AtEnd = sym at ∙ ended in let off : ⊥ = cc in off) (is_blocked S c p e)
        (subst (λ (y : Event). TakesOr (is_blocked S c p e) S c (record { t = t; p = p; answer = a }) y m d) (sym at) turned)

    saved_up : (b : Bool) → (c.procs p).up ≡ b → RunsOr b S c (record { t = t; p = p; answer = a }) m d → SavedBeforeShown S.guests d
    saved_up true up turned = saved_event up (comes S.guests (stands S.guests c p) a) refl turned
    saved_up false down (inl (k, mk, is)) = subst (λ (x : Core). SavedBeforeShown S.guests x) (sym is) (saved_of S _ (rise_joint S sound schedule t c now p down k g true))
    saved_up false down (inr (mk, same)) = saved_same d same

  pub saved_next : (entry : Entry) (m : Mark) (d : Core) → Turned S t c entry m d → SavedBeforeShown S.guests d
  saved_next (Turn turn) m d turned = saved_up turn.p turn.word turn.clock turned.0 m d (c.procs turn.p).up refl turned.1
  saved_next (Stop p) m d turned = subst (λ (x : Core). SavedBeforeShown S.guests x) (sym turned.1) (saved_falls (is_with S.protocol p))
  saved_next Power m d turned = subst (λ (x : Core). SavedBeforeShown S.guests x) (sym turned.1) (saved_falls (λ r. true))

-- and so from an opening
module _ {Mc : Type 0} (S : System Mc) (sound : IsSound S) (schedule : List Entry) (up : ℕ → Bool) (same : is_joint S.protocol ≡ true → (p q : ℕ) → up p ≡ up q) (g : is_global S.protocol ≡ true) where
  saved_opened : SavedBeforeShown S.guests (opened_core up)
  saved_opened Older q = refl
  saved_opened Newer q = refl

  saved_entry : (t : ℕ) (c : Core) (now : Holds S schedule t c) → SavedBeforeShown S.guests c → (o : Option Entry) (m : Mark) (d : Core) → IsSomeAnd o (λ entry. Turned S t c entry m d) → SavedBeforeShown S.guests d
  saved_entry t c now saved None m d turned = absurd turned
  saved_entry t c now saved (Some entry) m d turned = saved_next S sound schedule t c now g saved entry m d turned

  pub saved_leads : (marks : List Mark) (d : Core) → LeadsTo S schedule (opening up) marks d → SavedBeforeShown S.guests d
  saved_leads [] d led = subst (λ (x : Core). SavedBeforeShown S.guests x) (sym led) saved_opened
  saved_leads (m ∷ marks) d (c, led, turned) = saved_entry (0 + length marks) c (leads_follow S sound schedule (opening up) (holds_opened S sound schedule up same) marks c led).now
      (saved_leads marks c led) (slice_get schedule (0 + length marks)) m d turned
