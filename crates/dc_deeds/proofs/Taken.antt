-- Where nothing stops a turn, whether it takes an event is what the marks that it may have say.
use Rattle.std.proofs.Common.{◌≡◌, ◌∙◌, ℕ, Bool, true, false, Option, None, Some, refl, sym, ap, subst}
use Rattle.std.proofs.lemmas.Bool.{true≢false}
use Rattle.dc_model.specs.Guests.{Event}
use Rattle.dc_model.specs.Guests.Event.{AtEnd, AtInternal, AtClock, AtRandom, AtInput, AtReceive, AtVisible, AtSend}
use Rattle.dc_model.specs.Process.{comes}
use Rattle.dc_model.specs.Runs.{Given}
use Rattle.dc_model.specs.declared.mark.Idle.{Idle}
use Rattle.dc_model.specs.declared.mark.Mark.{Mark}
use Rattle.dc_model.specs.declared.mark.Mark.TheVariants as mark
use Rattle.dc_proc.specs.Turns.{taken_mark}
use Rattle.dc_proc.specs.declared.shown.Shown.{Shown}
use Rattle.dc_recovery.specs.Answers.{is_blocked}
use Rattle.dc_recovery.specs.Core.{Core, stands}
use Rattle.dc_recovery.specs.Parts.{Place}
use Rattle.dc_recovery.specs.Parts.Place.{Nowhere, InBefore, InLog, InEvent, InAfter}
use Rattle.dc_recovery.specs.Systems.{System}
use Rattle.dc_recovery.specs.Turned.{Runs, RunsOr, TakesOr, event_mark, turn_mark}
use Rattle.dc_recovery.specs.Unstopped.{is_taken, taken, taken_or, turn_taken}

-- the mark of an event
event_taken : (e : Event) (k : ℕ) → is_taken (event_mark e k) ≡ true
event_taken (AtVisible body) k = refl
event_taken _ k = refl

-- the mark of a turn that was taken
pub mark_taken : (shown : Option Shown) → is_taken (taken_mark shown) ≡ true
mark_taken None = refl
mark_taken (Some shown) = refl

-- no turn that takes an event is idle
event_busy : (e : Event) (k : ℕ) (i : Idle) → mark.Idle i ≡ event_mark e k → ⊥
event_busy (AtVisible body) k i is = cc
event_busy _ k i is = cc

turn_busy : (w : Place) (e : Event) (k : ℕ) (i : Idle) → mark.Idle i ≡ turn_mark w e k → ⊥
turn_busy Nowhere e k i is = event_busy e k i is
turn_busy InBefore e k i is = cc
turn_busy InLog e k i is = cc
turn_busy InEvent e k i is = cc
turn_busy InAfter e k i is = cc

module _ {Mc : Type 0} (S : System Mc) (c : Core) (x : Given) (m : Mark) (d : Core) where
  module _ (is : is_taken m ≡ true) where
    takes_taken : (b : Bool) (e : Event) → TakesOr b S c x e m d → is_taken (taken_or b S c x e).0 ≡ true
    takes_taken true e ran = absurd (true≢false (sym is ∙ ap is_taken ran.0))
    takes_taken false e ran = event_taken e (stands S.guests c x.p).visible

    runs_taken : (e : Event) → Runs S c x e m d → is_taken (taken S c x e).0 ≡ true
    runs_taken AtEnd ran = absurd (true≢false (sym is ∙ ap is_taken ran.0))
    runs_taken AtInternal ran = takes_taken (is_blocked S c x.p AtInternal) AtInternal ran
    runs_taken AtClock ran = takes_taken (is_blocked S c x.p AtClock) AtClock ran
    runs_taken AtRandom ran = takes_taken (is_blocked S c x.p AtRandom) AtRandom ran
    runs_taken AtInput ran = takes_taken (is_blocked S c x.p AtInput) AtInput ran
    runs_taken AtReceive ran = takes_taken (is_blocked S c x.p AtReceive) AtReceive ran
    runs_taken (AtVisible body) ran = takes_taken (is_blocked S c x.p (AtVisible body)) (AtVisible body) ran
    runs_taken (AtSend to message) ran = takes_taken (is_blocked S c x.p (AtSend to message)) (AtSend to message) ran

    -- a process that is up takes its event where its turn may have such a mark
    pub turn_takes : (up : Bool) → up ≡ true → RunsOr up S c x m d → is_taken (turn_taken S c x).0 ≡ true
    turn_takes up on ran = runs_taken (comes S.guests (stands S.guests c x.p) x.answer) (subst (λ b. RunsOr b S c x m d) on ran)

  module _ (i : Idle) (is : m ≡ mark.Idle i) where
    takes_idle : (b : Bool) (e : Event) → TakesOr b S c x e m d → is_taken (taken_or b S c x e).0 ≡ false
    takes_idle true e ran = refl
    takes_idle false e ran = absurd (turn_busy ran.0 e (stands S.guests c x.p).visible i (sym is ∙ ran.2))

    runs_idle : (e : Event) → Runs S c x e m d → is_taken (taken S c x e).0 ≡ false
    runs_idle AtEnd ran = refl
    runs_idle AtInternal ran = takes_idle (is_blocked S c x.p AtInternal) AtInternal ran
    runs_idle AtClock ran = takes_idle (is_blocked S c x.p AtClock) AtClock ran
    runs_idle AtRandom ran = takes_idle (is_blocked S c x.p AtRandom) AtRandom ran
    runs_idle AtInput ran = takes_idle (is_blocked S c x.p AtInput) AtInput ran
    runs_idle AtReceive ran = takes_idle (is_blocked S c x.p AtReceive) AtReceive ran
    runs_idle (AtVisible body) ran = takes_idle (is_blocked S c x.p (AtVisible body)) (AtVisible body) ran
    runs_idle (AtSend to message) ran = takes_idle (is_blocked S c x.p (AtSend to message)) (AtSend to message) ran

    -- and none where it may be idle
    pub turn_idles : (up : Bool) → up ≡ true → RunsOr up S c x m d → is_taken (turn_taken S c x).0 ≡ false
    turn_idles up on ran = runs_idle (comes S.guests (stands S.guests c x.p) x.answer) (subst (λ b. RunsOr b S c x m d) on ran)
