-- Whether any process had an unlogged nondeterministic event, as the code looks for it and as the theory has it.
use Rattle.std.proofs.Common.{◌≡◌, ◌∙◌, ◌<◌, ◌||◌, ◌&&◌, ◌∷◌, not, ℕ, zero, suc, List, [], Bool, true, false, Option, None, Some, refl, sym, ap, subst, arith, length, nat_eq, slice_index, if◌then◌else◌}
use Rattle.std.proofs.lemmas.Bool.{true≢false}
use Rattle.dc_checkpoint.specs.declared.checkpoint.Checkpoint as checkpoint
use Rattle.dc_elf.specs.Images.{Image}
use Rattle.dc_events.specs.Kinds.{kind_of}
use Rattle.dc_events.specs.declared.event.Kind.{Kind}
use Rattle.dc_guest.specs.Guest.{Guest, next_of, over}
use Rattle.dc_model.specs.Guests.{Answer}
use Rattle.dc_model.specs.Process.{comes}
use Rattle.dc_model.specs.Runs.{own}
use Rattle.dc_proc.proofs.Ruling.{asked_is}
use Rattle.dc_proc.proofs.Saving.{stands_later}
use Rattle.dc_proc.specs.Carried.{IsIn, process, system}
use Rattle.dc_proc.specs.Events.{IsSender}
use Rattle.dc_proc.specs.Turns.{is_none, makes_eight}
use Rattle.dc_proc.specs.Processes.{Held, IsAt, IsProcess}
use Rattle.dc_proc.specs.Ups.{IsWhole, held}
use Rattle.dc_proc.specs.declared.up.Up.{Up as Process}
use Rattle.dc_processes.specs.Worlds.{IsUp, others_of}
use Rattle.dc_protocols.specs.Rules.{at_inputs, is_joint, rule_of}
use Rattle.dc_protocols.specs.declared.protocol.Rule.{Rule}
use Rattle.dc_protocols.specs.declared.protocol.Since.{Since}
use Rattle.dc_recovery.specs.Answers.{any_of, any_unlogged, makes_most, rule_at, since}
use Rattle.dc_recovery.specs.Core.{Core, Status, stands}
use Rattle.dc_recovery.specs.Systems.{System, kind_at}
use Rattle.dc_together.proofs.Acknowledged.{numbers_stand}
use Rattle.dc_processes.proofs.Beside.{and_some}
use Rattle.dc_together.specs.Joints.{has_unlogged, have_unlogged}
use Rattle.dc_processes.specs.Slots.{held_in, is_up, slot_at}
use Rattle.dc_processes.specs.Stages.{IsWorld, Stage, memory_of, numbers_of, store_of, words_of}
use Rattle.dc_together.specs.Together.{AllGo}
use Rattle.dc_processes.specs.declared.slot.Slot.{Slot}
use Rattle.dc_processes.specs.declared.slot.Slot.TheVariants.{Down, Up}

or_swap : (a b c : Bool) → (a || (b || c)) ≡ (b || (a || c))
or_swap true true c = refl
or_swap true false c = refl
or_swap false true c = refl
or_swap false false c = refl

-- of the first, or of those after it
any_first : (n : ℕ) (procs : ℕ → Status) → any_unlogged (suc n) procs ≡ ((procs 0).unlogged || any_unlogged n (λ i. procs (suc i)))
any_first zero procs = refl
any_first (suc n) procs = ap (λ b. (procs (suc n)).unlogged || b) (any_first n procs) ∙ or_swap (procs (suc n)).unlogged (procs 0).unlogged (any_unlogged n (λ i. procs (suc i)))

any_is : (slots : List (Option Slot)) (procs : ℕ → Status) → ((q : ℕ) → q < length slots → has_unlogged (slot_at slots q) ≡ (procs q).unlogged) → have_unlogged slots ≡ any_unlogged (length slots) procs
any_is [] procs each = refl
any_is (s ∷ slots) procs each = ap (λ b. b || have_unlogged slots) (each 0 (omega arith))
    ∙ ap (λ b. (procs 0).unlogged || b) (any_is slots (λ i. procs (suc i)) (λ q less. each (suc q) (omega (arith, less)))) ∙ sym (any_first (length slots) procs)

unlogged_held : (s : Option Slot) → is_up s ≡ true → has_unlogged s ≡ (held_in s).unlogged
unlogged_held None on = absurd (true≢false (sym on))
unlogged_held (Some (Up u)) on = refl
unlogged_held (Some (Down d)) on = absurd (true≢false (sym on))

-- where each goes on
pub any_unlogged_is : {C D : Type 0} (g : checkpoint.Ghosts C D) (S : System Guest) (c : Core) (x : Stage C D) → AllGo S c → IsWorld g S c x → have_unlogged x.slots ≡ any_unlogged S.guests.count c.procs
any_unlogged_is g S c x go world = any_is x.slots c.procs (λ q less. let inside : q < S.guests.count = subst (λ m. q < m) (sym world.count_is) less in
    unlogged_held (slot_at x.slots q) (sym (world.up_are q inside) ∙ (go.going q).up) ∙ (world.stands.each q inside (go.going q).up).here.unlogged_is)
    ∙ ap (λ n. any_unlogged n c.procs) (sym world.count_is)

-- a process that goes on, in its slot
module _ {C D : Type 0} (g : checkpoint.Ghosts C D) (S : System Guest) (c : Core) (x : Stage C D) (go : AllGo S c) (world : IsWorld g S c x)
    (p : ℕ) (inside : p < S.guests.count) (c0 : C) (at0 : store_of x p ≡ Some c0) (u : Process) (slot0 : slot_at x.slots p ≡ Some (Up u)) (words : List ℕ) (told : g.contents c0 x.dev ≡ Some words) where
  was : IsUp S c p (record { words = words; held = held u })
  was = subst (λ ws. IsUp S c p (record { words = ws; held = held u })) (ap words_of (ap (λ o. memory_of g o x.dev) at0 ∙ told))
      (subst (λ (h : Held). IsUp S c p (record { words = words_of (memory_of g (store_of x p) x.dev); held = h })) (ap held_in slot0) (world.stands.each p inside (go.going p).up))

  pub here_going : IsAt S p (own p c.acts) (c.procs p) words (held u)
  here_going = was.here

  pub known_going : (q : ℕ) → q < S.guests.count → slice_index (held u).others q ≡ others_of S.guests c p q
  known_going = was.known

-- where all commit together, under a decided number
pub over_going : {C D : Type 0} (g : checkpoint.Ghosts C D) (S : System Guest) (together : is_joint S.protocol ≡ true) (c : Core) (x : Stage C D) (go : AllGo S c) (world : IsWorld g S c x)
    (p : ℕ) (inside : p < S.guests.count) (c0 : C) (at0 : store_of x p ≡ Some c0) (u : Process) (slot0 : slot_at x.slots p ≡ Some (Up u)) (words : List ℕ) (told : g.contents c0 x.dev ≡ Some words)
    (n : ℕ) → numbers_of g x n → IsIn g S p (own p c.acts) (c.procs p) n (process c0 x.dev (held u))
over_going g S together c x go world p inside c0 at0 u slot0 words told n is = record {
  going = go.going p;
  process = subst (λ o. IsProcess S p (own p c.acts) (c.procs p) o (held u)) (sym told) (here_going g S c x go world p inside c0 at0 u slot0 words told);
  stands = stands_later S.guests p (own p c.acts) (others_of S.guests c p) (slice_index (held u).others) (c.procs p) (λ r. g.leaves c0 x.dev n r) (g.leaves c0 x.dev n)
      (λ q less. let e = known_going g S c x go world p inside c0 at0 u slot0 words told q less in omega (arith, e)) (λ r l. l)
      (λ r l. (numbers_stand g S c x together world.stands).stores.one p inside n is r (and_some (λ z. g.leaves z x.dev n r) (store_of x p) c0 at0 l));
}

-- what the code asks at a process's next event is what the theory's rule asks of all
module _ {C D : Type 0} (g : checkpoint.Ghosts C D) (images : List Image) (c : Core) (x : Stage C D) (go : AllGo (system images x.inputs x.protocol) c) (world : IsWorld g (system images x.inputs x.protocol) c x)
    (p : ℕ) (inside : p < (system images x.inputs x.protocol).guests.count) (c0 : C) (at0 : store_of x p ≡ Some c0) (u : Process) (slot0 : slot_at x.slots p ≡ Some (Up u)) (words : List ℕ) (told : g.contents c0 x.dev ≡ Some words) where
  abbrev S : System Guest
  S = system images x.inputs x.protocol

  here : IsAt S p (own p c.acts) (c.procs p) words (held u)
  here = here_going g S c x go world p inside c0 at0 u slot0 words told

  -- what the code finds
  abbrev found : Answer → Kind → Bool → Since
  found a k b = record { unlogged = u.unlogged; any = b; full = nat_eq u.log_left 0; eighth = makes_eight u.kernel.received u.based a; replay = at_inputs k && not (is_none (held u).unread) }

  pub asked_at : (whole : IsWhole u) (runs : u.guest.ended ≡ false) (a : Answer) (sender : IsSender u.kernel a) (kind : Kind) → kind ≡ kind_of (next_of (over u.guest words)) → (any : Bool) → any ≡ have_unlogged x.slots → (rule : Rule) → u.protocol ≡ x.protocol
      → rule ≡ rule_of u.protocol kind (record { unlogged = u.unlogged; any = any; full = nat_eq u.log_left 0; eighth = makes_eight u.kernel.received u.based a; replay = at_inputs kind && not (is_none (held u).unread) })
      → rule ≡ rule_at S c p a
  asked_at whole runs a sender kind kind_is any any_is rule protocol rule_is = rule_is
      ∙ ap (λ pr. rule_of pr kind (found a kind any)) protocol
      ∙ ap (λ k. rule_of x.protocol k (found a k any)) kind_is
      ∙ asked_is images x.inputs x.protocol p (own p c.acts) (c.procs p) words u whole here runs a (go.going p) sender any
      ∙ ap (λ b. rule_of x.protocol (kind_at (comes S.guests (stands S.guests c p) a)) (since 64 (comes S.guests (stands S.guests c p) a) (c.procs p) b (makes_most S p (own p c.acts) (c.procs p) a))) (any_is ∙ any_unlogged_is g S c x go world ∙ sym (ap (λ f. if f then any_of S.guests.count (c.ties.on p) else any_unlogged S.guests.count c.procs) world.seven.0))
