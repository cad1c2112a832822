-- What a protocol asks: never two commits in a turn; and who had an unlogged event has a part in it only where all commit together.
use Rattle.std.proofs.Common.{◌≡◌, ◌∙◌, ◌<◌, ◌||◌, ◌&&◌, ◌∷◌, not, ℕ, zero, suc, List, [], Bool, true, false, Option, None, Some, refl, sym, ap, subst, arith, length, if◌then◌else◌, ⊎_elim}
use Rattle.std.proofs.lemmas.Bool.{cases_Bool, true≢false}
use Rattle.dc_checkpoint.specs.declared.checkpoint.Checkpoint as checkpoint
use Rattle.dc_deeds.specs.Events.{has_unlogged, have_unlogged}
use Rattle.dc_events.specs.declared.event.Kind.{Kind}
use Rattle.dc_events.specs.declared.event.Kind.TheVariants as kind
use Rattle.dc_guest.specs.Guest.{Guest}
use Rattle.dc_model.specs.Guests.{Event}
use Rattle.dc_processes.specs.Slots.{held_in, is_up, slot_at}
use Rattle.dc_processes.specs.Stages.{IsWorld, Stage}
use Rattle.dc_processes.specs.declared.slot.Slot.{Slot}
use Rattle.dc_processes.specs.declared.slot.Slot.TheVariants.{Down, Up}
use Rattle.dc_protocols.specs.Rules.{is_joint, rule_of}
use Rattle.dc_protocols.specs.declared.protocol.Protocol.{Protocol}
use Rattle.dc_protocols.specs.declared.protocol.Protocol.TheVariants.{Cand, CandLog, Cbndv2pc, Cbndv2pcCausal, Cbndvs, CbndvsLog, Cpv2pc, Cpvs}
use Rattle.dc_protocols.specs.declared.protocol.Rule.{Rule}
use Rattle.dc_protocols.specs.declared.protocol.Since.{Since}
use Rattle.dc_recovery.specs.Answers.{any_at, any_of, any_unlogged, since}
use Rattle.dc_recovery.specs.Core.{Core, Status}
use Rattle.dc_recovery.specs.Systems.{System}

-- after a commit before the event the eighth receipt asks for none
spent : (many before : Bool) → before ≡ true → (many && not before) ≡ false
spent many before on = ap (λ b. many && not b) on ∙ both many
  where
    both : (b : Bool) → (b && false) ≡ false
    both true = refl
    both false = refl

-- so in each row
once_row : (pr : Protocol) (k : Kind) (s : Since) → (rule_of pr k s).before ≡ true → (rule_of pr k s).after ≡ false
once_row Cand k s on = absurd (true≢false (sym on))
once_row CandLog kind.Internal s on = absurd (true≢false (sym on))
once_row CandLog kind.Clock s on = absurd (true≢false (sym on))
once_row CandLog kind.Random s on = absurd (true≢false (sym on))
once_row CandLog kind.Input s on = spent s.eighth (rule_of CandLog kind.Input s).before on
once_row CandLog kind.Receive s on = spent s.eighth (rule_of CandLog kind.Receive s).before on
once_row CandLog kind.Visible s on = absurd (true≢false (sym on))
once_row CandLog kind.Send s on = absurd (true≢false (sym on))
once_row Cpvs k s on = spent s.eighth (rule_of Cpvs k s).before on
once_row Cbndvs k s on = spent s.eighth (rule_of Cbndvs k s).before on
once_row CbndvsLog k s on = spent s.eighth (rule_of CbndvsLog k s).before on
once_row Cpv2pc k s on = spent s.eighth (rule_of Cpv2pc k s).before on
once_row Cbndv2pc k s on = spent s.eighth (rule_of Cbndv2pc k s).before on
once_row Cbndv2pcCausal k s on = spent s.eighth (rule_of Cbndv2pcCausal k s).before on

-- a commit comes before an event or after it, and never both
pub once : (pr : Protocol) (k : Kind) (s : Since) (rule : Rule) → rule ≡ rule_of pr k s → rule.before ≡ true → rule.after ≡ false
once pr k s rule is on = ap (λ (r : Rule). r.after) is ∙ once_row pr k s (sym (ap (λ (r : Rule). r.before) is) ∙ on)

-- where each commits by itself, what others did has no part in it
any_aside : (pr : Protocol) (room : ℕ) (k : Kind) (e : Event) (st : Status) (x y many : Bool) → is_joint pr ≡ false → rule_of pr k (since room e st x many) ≡ rule_of pr k (since room e st y many)
any_aside Cand room k e st x y many g = refl
any_aside CandLog room k e st x y many g = refl
any_aside Cpvs room k e st x y many g = refl
any_aside Cbndvs room k e st x y many g = refl
any_aside CbndvsLog room k e st x y many g = refl
any_aside Cpv2pc room k e st x y many g = absurd (true≢false g)
any_aside Cbndv2pc room k e st x y many g = absurd (true≢false g)
any_aside Cbndv2pcCausal room k e st x y many g = absurd (true≢false g)

or_swap : (a b c : Bool) → (a || (b || c)) ≡ (b || (a || c))
or_swap true true c = refl
or_swap true false c = refl
or_swap false true c = refl
or_swap false false c = refl

-- of the first, or of those after it
any_first : (n : ℕ) (procs : ℕ → Status) → any_unlogged (suc n) procs ≡ ((procs 0).unlogged || any_unlogged n (λ i. procs (suc i)))
any_first zero procs = refl
any_first (suc n) procs = ap (λ b. (procs (suc n)).unlogged || b) (any_first n procs) ∙ or_swap (procs (suc n)).unlogged (procs 0).unlogged (any_unlogged n (λ i. procs (suc i)))

any_is : (slots : List (Option Slot)) (procs : ℕ → Status) → ((q : ℕ) → q < length slots → has_unlogged (slot_at slots q) ≡ (procs q).unlogged) → have_unlogged slots ≡ any_unlogged (length slots) procs
any_is [] procs each = refl
any_is (s ∷ slots) procs each = ap (λ b. b || have_unlogged slots) (each 0 (omega arith))
    ∙ ap (λ b. (procs 0).unlogged || b) (any_is slots (λ i. procs (suc i)) (λ q less. each (suc q) (omega (arith, less)))) ∙ sym (any_first (length slots) procs)

unlogged_held : (s : Option Slot) → is_up s ≡ true → has_unlogged s ≡ (held_in s).unlogged
unlogged_held None on = absurd (true≢false (sym on))
unlogged_held (Some (Up u)) on = refl
unlogged_held (Some (Down d)) on = absurd (true≢false (sym on))

module _ {C D : Type 0} (g : checkpoint.Ghosts C D) (S : System Guest) (c : Core) (x : Stage C D) (world : IsWorld g S c x) where
  -- where all are up, the code finds what the theory does
  any_found : ((q : ℕ) → (c.procs q).up ≡ true) → have_unlogged x.slots ≡ any_unlogged S.guests.count c.procs
  any_found up = any_is x.slots c.procs (λ q less. let inside : q < S.guests.count = subst (λ m. q < m) (sym world.count_is) less in
      unlogged_held (slot_at x.slots q) (sym (world.up_are q inside) ∙ up q) ∙ (world.stands.each q inside (up q)).here.unlogged_is)
      ∙ ap (λ n. any_unlogged n c.procs) (sym world.count_is)

  -- so the rule is the theory's, whichever way its process commits
  pub any_ruled : (is_joint S.protocol ≡ true → (q : ℕ) → (c.procs q).up ≡ true) → (p room : ℕ) (k : Kind) (e : Event) (st : Status) (many : Bool)
      → rule_of S.protocol k (since room e st (have_unlogged x.slots) many) ≡ rule_of S.protocol k (since room e st (any_at S c p) many)
  any_ruled up p room k e st many = ⊎_elim
      (λ (together : is_joint S.protocol ≡ true). ap (λ (b : Bool). rule_of S.protocol k (since room e st b many))
      (any_found (up together) ∙ sym (ap (λ f. if f then any_of S.guests.count (c.ties.on p) else any_unlogged S.guests.count c.procs) world.seven.0)))
      (λ (alone : is_joint S.protocol ≡ false). any_aside S.protocol room k e st (have_unlogged x.slots) (any_at S c p) many alone)
      (cases_Bool (is_joint S.protocol))
