-- Guests under any of the eight protocols are a sound system.
use Rattle.std.proofs.Common.{◌≡◌, ◌∙◌, ◌<◌, ℕ, Bool, true, false, not, ◌&&◌, ap, sym, refl, if◌then◌else◌, ⊎_elim}
use Rattle.std.proofs.lemmas.Bool.{and_parts, cases_Bool, cond_both, or_left, or_right, true≢false}
use Rattle.dc_model.specs.Guests.{Event, Guests, is_send, is_visible}
use Rattle.dc_model.specs.Guests.Event.{AtSend, AtVisible}
use Rattle.dc_protocols.specs.Rules.{at_outputs, is_cand, is_causal, is_joint, rule_of}
use Rattle.dc_protocols.specs.declared.protocol.Protocol.{Protocol}
use Rattle.dc_protocols.specs.declared.protocol.Since.{Since}
use Rattle.dc_recovery.proofs.Rows.{exposed_clear, visibles_are}
use Rattle.dc_recovery.specs.Systems.{IsSound, exposed_under, is_output, kind_at, sure_under, system_of}

-- what others see is an output of the table
outputs_are : (e : Event) → is_output e ≡ true → at_outputs (kind_at e) ≡ true
outputs_are (AtVisible body) h = refl
outputs_are (AtSend to message) h = refl
outputs_are _ h = absurd (true≢false (sym h))

-- a protocol
module _ (pr : Protocol) where
  -- what is exposed is visible where all recover together, and an output elsewhere
  exposed_as : (together : Bool) → is_joint pr ≡ together → (e : Event) → exposed_under pr e ≡ (if together then is_visible e else is_output e)
  exposed_as together is e = ap (λ (b : Bool). if b then is_visible e else is_output e) is

  visible_is : (e : Event) → is_visible e ≡ true → exposed_under pr e ≡ true
  visible_is e h = cond_both (is_joint pr) (is_visible e) (is_output e) (λ (b : Bool). b ≡ true) (λ _. h) (λ _. or_left (is_visible e) (is_send e) h)

  sent_is : is_joint pr ≡ false → (e : Event) → is_send e ≡ true → exposed_under pr e ≡ true
  sent_is alone e h = exposed_as false alone e ∙ or_right (is_visible e) (is_send e) h

  output_is : (e : Event) → exposed_under pr e ≡ true → is_output e ≡ true
  output_is e h = ⊎_elim
      (λ (g : is_joint pr ≡ true). or_left (is_visible e) (is_send e) (sym (exposed_as true g e) ∙ h))
      (λ (g : is_joint pr ≡ false). sym (exposed_as false g e) ∙ h)
      (cases_Bool (is_joint pr))

  clear_is : (e : Event) (since : Since) → exposed_under pr e ≡ true → (is_cand pr ≡ true → since.unlogged ≡ false) → (since.unlogged ≡ true → since.any ≡ true)
      → (since.unlogged && not (rule_of pr (kind_at e) since).before) ≡ false
  clear_is e since h cand any = exposed_clear (kind_at e) since pr cand any
      (λ alone. outputs_are e (sym (exposed_as false alone e) ∙ h))
      (λ g. visibles_are e ∙ sym (exposed_as true g e) ∙ h)

  sure_sent_is : is_causal pr ≡ true → (e : Event) → is_send e ≡ true → sure_under pr e ≡ true
  sure_sent_is c e h = rw (c, h) refl

  sure_output_is : (e : Event) → sure_under pr e ≡ true → is_output e ≡ true
  sure_output_is e h = or_right (is_visible e) (is_send e) (and_parts (is_causal pr) (is_send e) h).1

-- the eight protocols
pub sound_system : {Mc : Type 0} (G : Guests Mc) (pr : Protocol) (most room : ℕ) → 1 < most → IsSound (system_of G pr most room)
sound_system G pr most room two = record { two = two; visible = visible_is pr; sent = sent_is pr; outputs = output_is pr; sure_sent = sure_sent_is pr; sure_outputs = sure_output_is pr; clear = clear_is pr }
