-- What a guest did last, where that ended it, and what others see of an event.
use Rattle.std.proofs.Common.{◌≡◌, ◌∙◌, Bool, true, false, Option, ap, is_some, refl, sym}
use Rattle.dc_calls.specs.declared.call.Call as calls
use Rattle.dc_events.specs.declared.event.Next.{Next}
use Rattle.dc_events.specs.declared.event.Next.TheVariants as next
use Rattle.dc_calls.specs.declared.call.Call.TheVariants as call
use Rattle.dc_guest.proofs.Coming.{live_coming}
use Rattle.dc_guest.specs.Guest.{Guest, after_next, coming, ends, event_of, next_by, next_of}
use Rattle.dc_guest.specs.Nexts.{called_by}
use Rattle.dc_model.specs.Guests.{Answer, Event, is_send, is_visible}
use Rattle.dc_model.specs.Guests.Event.{AtEnd, AtInternal, AtClock, AtRandom, AtInput, AtReceive, AtVisible, AtSend}
use Rattle.dc_plain.specs.Playing.{body_of, sends_by}
use Rattle.dc_rv32.specs.Machine.{Machine, stepped}
use Rattle.dc_rv32.specs.declared.machine.Stepped.{Stepped}
use Rattle.dc_rv32.specs.declared.machine.Stepped.TheVariants as step

-- a step is the same whether the guest has ended or not
by_step : (s : Stepped) (g : Guest) (b : Bool) → next_by s (record g { ended = b }) ≡ next_by s g
by_step step.Retired g b = refl
by_step step.Call g b = refl
by_step (step.Trap cause) g b = refl

ended_next : (n : Next) (a : Answer) (g : Guest) → ends n ≡ true → n ≡ next_of g → next_of (after_next n a g) ≡ n
ended_next next.Retire a g on is = absurd (let off : ⊥ = cc in off)
ended_next (next.Trap cause) a g on is = by_step (stepped g.machine).1 g true ∙ sym is
ended_next (next.Call (call.Exit code)) a g on is = by_step (stepped g.machine).1 g true ∙ sym is
ended_next (next.Call (call.Output from count)) a g on is = absurd (let off : ⊥ = cc in off)
ended_next (next.Call (call.Input to room)) a g on is = absurd (let off : ⊥ = cc in off)
ended_next (next.Call call.Clock) a g on is = absurd (let off : ⊥ = cc in off)
ended_next (next.Call call.Random) a g on is = absurd (let off : ⊥ = cc in off)
ended_next (next.Call (call.Send q from count)) a g on is = absurd (let off : ⊥ = cc in off)
ended_next (next.Call (call.Receive to room)) a g on is = absurd (let off : ⊥ = cc in off)
ended_next (next.Call call.Number) a g on is = absurd (let off : ⊥ = cc in off)
ended_next (next.Call call.BadArgument) a g on is = absurd (let off : ⊥ = cc in off)
ended_next (next.Call call.Unknown) a g on is = absurd (let off : ⊥ = cc in off)

-- what ended a guest is what it would do next
pub lasts : (n : Next) (a : Answer) (g v : Guest) → v ≡ after_next n a g → n ≡ next_of g → v.ended ≡ true → next_of v ≡ n
lasts n a g v is there on = ap next_of is ∙ ended_next n a g (ap (λ (x : Guest). x.ended) (sym is) ∙ on) there

by_next : (n : Next) (m : Machine) → sends_by (called_by n) ≡ is_send (event_of n m)
by_next next.Retire m = refl
by_next (next.Trap cause) m = refl
by_next (next.Call (call.Exit code)) m = refl
by_next (next.Call (call.Output from count)) m = refl
by_next (next.Call (call.Input to room)) m = refl
by_next (next.Call call.Clock) m = refl
by_next (next.Call call.Random) m = refl
by_next (next.Call (call.Send q from count)) m = refl
by_next (next.Call (call.Receive to room)) m = refl
by_next (next.Call call.Number) m = refl
by_next (next.Call call.BadArgument) m = refl
by_next (next.Call call.Unknown) m = refl

-- whether the next event sends a message, by the call that comes
pub sends_is : (g : Guest) (o : Option calls.Call) → g.ended ≡ false → o ≡ called_by (next_of g) → sends_by o ≡ is_send (coming g)
sends_is g o live is = ap sends_by is ∙ by_next (next_of g) g.machine ∙ ap is_send (sym (live_coming g live))

-- whether an event is visible, by what it shows
pub shows_is : (e : Event) → is_visible e ≡ is_some (body_of e)
shows_is AtEnd = refl
shows_is AtInternal = refl
shows_is AtClock = refl
shows_is AtRandom = refl
shows_is AtInput = refl
shows_is AtReceive = refl
shows_is (AtVisible body) = refl
shows_is (AtSend to message) = refl
