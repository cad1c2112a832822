-- Processes that commit, fall and recover together, and their stores.
use Rattle.std.specs.Prelude.{◌≡◌, ◌⊎◌, ◌<◌, ◌≤◌, ◌+◌, ◌*◌, ◌^◌, ℕ, zero, suc, List, [], Bool, true, false, Option, Some, length, map, max, slice_get, slice_index}
use Rattle.std.specs.List.{list_any}
use Rattle.dc_limits.specs.declared.bounds.TheConstants.{LOGGED_EVENTS}
use Rattle.dc_acts.specs.Counted.{cut_acts}
use Rattle.dc_checkpoint.specs.declared.checkpoint.Checkpoint as checkpoint
use Rattle.dc_kernel.specs.Layout.{kernel_words}
use Rattle.dc_kernel.specs.declared.saved.Saved.{Saved}
use Rattle.dc_links.specs.Links.{link_to}
use Rattle.dc_model.specs.declared.act.Taken.{Taken}
use Rattle.dc_proc.specs.Downs.{RisesAt}
use Rattle.dc_proc.specs.Events.{HasCountsFor}
use Rattle.dc_proc.specs.Processes.{Held, IsCopied, logged_of}
use Rattle.dc_proc.specs.Ups.{IsFit}
use Rattle.dc_recovery.specs.Saves.{log_end}
use Rattle.dc_twophase.specs.Recoveries.{AreFit as AreFilled}
use Rattle.dc_processes.specs.Slots.{Falls, based_in, held_in, is_up, size_in, slot_at}
use Rattle.dc_processes.specs.declared.joint.Joint.{Joint}
use Rattle.dc_processes.specs.declared.processes.Processes.{Processes}
use Rattle.dc_processes.specs.declared.slot.Slot.{Slot}
use Rattle.dc_processes.specs.declared.slot.Slot.TheVariants.{Down, Up}
use Rattle.dc_checkpoint.specs.Calls.{FallsStore}
use Rattle.dc_checkpoint.specs.Handles.{showing_of}
use Rattle.dc_checkpoint.specs.States.{Form}
use Rattle.dc_protocols.specs.Rules.{is_joint}
use Rattle.dc_protocols.specs.declared.protocol.Protocol.{Protocol}
use Rattle.dc_twophase.specs.Stores.{EachPair}

-- it is up, and holds what this makes of what it held
pub record IsMade (made : Held → Held) (old new : Option Slot) : Type 0 where
  pub up : is_up new ≡ true
  pub held_is : held_in new ≡ made (held_in old)
  pub size_same : size_in new ≡ size_in old

-- of the commit of this number
abbrev pub numbered : ℕ → Held → Held
numbered number h = record h { kernel = record h.kernel { commit = number } }

-- its machine and whose it is are as they were, and no link keeps more
pub record GoesAlike (old new : Option Slot) : Type 0 where
  pub registers_same : (held_in new).kernel.regs.x ≡ (held_in old).kernel.regs.x
  pub pc_same : (held_in new).kernel.regs.pc ≡ (held_in old).kernel.regs.pc
  pub status_same : (held_in new).kernel.status ≡ (held_in old).kernel.status
  pub n_same : (held_in new).kernel.n ≡ (held_in old).kernel.n
  pub p_same : (held_in new).kernel.p ≡ (held_in old).kernel.p
  pub visible_same : (held_in new).kernel.visible ≡ (held_in old).kernel.visible
  pub kept_less : (q : ℕ) → length (link_to (held_in new).kernel.links q).kept ≤ length (link_to (held_in old).kernel.links q).kept

-- nothing is left to read, the mark of an unlogged event is clear, the log is empty, and this was received
abbrev pub settled : List ℕ → Held → Held
settled based h = record h { unread = []; unlogged = false; log_left = LOGGED_EVENTS; based = based }

-- its commit was acknowledged
pub record IsSettled (old new : Option Slot) : Type 0 where
  pub made : IsMade (settled (based_in new)) old new
  pub copied : IsCopied (held_in old).kernel (based_in new)

-- each of these processes is up
abbrev pub AreUp : List (Option Slot) → Type 0
AreUp slots = (p : ℕ) → p < length slots → is_up (slot_at slots p) ≡ true

-- a process and its store that may take a turn
abbrev pub IsFitAt : {C D : Type 0} → checkpoint.Ghosts C D → C → D → Option Slot → Type 0
IsFitAt g c dev (Some (Up u)) = IsFit g u c dev
IsFitAt g c dev _ = ⊥

-- each is
abbrev pub AreFit : {C D : Type 0} → checkpoint.Ghosts C D → List C → D → List (Option Slot) → Type 0
AreFit g stores dev slots = (p : ℕ) (c : _) → slice_get stores p ≡ Some c → IsFitAt g c dev (slot_at slots p)

-- the counts of each have room for so many commits and events
abbrev pub HaveCounts : ℕ → List (Option Slot) → Type 0
HaveCounts m slots = (p : ℕ) → p < length slots → HasCountsFor m (held_in (slot_at slots p)).kernel

-- the store of a process is its own
pub record Belongs {C D : Type 0} (g : checkpoint.Ghosts C D) (n p : ℕ) (c : C) : Type 0 where
  pub index_is : g.index c ≡ p
  pub form_n : (g.form c).n ≡ n
  pub form_p : (g.form c).p ≡ p

-- each store is the own one of the process of its slot, of so many
abbrev pub AllBelong : {C D : Type 0} → checkpoint.Ghosts C D → ℕ → List C → Type 0
AllBelong g n stores = (p : ℕ) (c : _) → slice_get stores p ≡ Some c → Belongs g n p c

-- a process that is down, with its store
abbrev pub IsDownAt : {C D : Type 0} → checkpoint.Ghosts C D → C → D → Option Slot → Type 0
IsDownAt g c dev (Some (Down d)) = g.lent c dev × (d.size ≡ 4 * g.size c)
IsDownAt g c dev _ = ⊥

-- each is
abbrev pub AreDown : {C D : Type 0} → checkpoint.Ghosts C D → List C → D → List (Option Slot) → Type 0
AreDown g stores dev slots = (p : ℕ) (c : _) → slice_get stores p ≡ Some c → IsDownAt g c dev (slot_at slots p)

-- all are up, with room in their counts for a commit and an event in each of so many turns; or all are down
abbrev pub AreReady : {C D : Type 0} → checkpoint.Ghosts C D → ℕ → List C → D → List (Option Slot) → Type 0
AreReady g turns stores dev slots = (AreFit g stores dev slots × HaveCounts (2 * turns) slots) ⊎ AreDown g stores dev slots

-- the room of their commits and recoveries
pub record IsRoomFor {C D : Type 0} (g : checkpoint.Ghosts C D) (stores : List C) (n : ℕ) (joint : Joint) : Type 0 where
  pub texts : length joint.texts.items ≡ kernel_words n * n
  pub saved_long : length joint.saved.items ≡ n
  pub saved_fit : AreFilled g stores joint.saved.items

-- a process that rose at what was read for it
pub record IsRisenFrom (saved : Saved) (old new : Option Slot) : Type 0 where
  pub up : is_up new ≡ true
  pub kernel_is : (held_in new).kernel ≡ saved.kernel
  pub unread_is : (held_in new).unread ≡ saved.log.items
  pub unlogged_is : (held_in new).unlogged ≡ false
  pub left_is : (held_in new).log_left + length saved.log.items ≡ LOGGED_EVENTS
  pub based_is : IsCopied saved.kernel (based_in new)
  pub risen : RisesAt saved (held_in new)
  pub size_same : size_in new ≡ size_in old

-- one past the last position in what a process has yet to read
abbrev pub end_in : Option Slot → ℕ
end_in slot = log_end (map logged_of (held_in slot).unread)

-- how far a process that came back is sure to come again
abbrev pub reach_in : Processes → ℕ → ℕ
reach_in w p = let slot = slot_at w.slots.items p in max (max (held_in slot).kernel.position (end_in slot)) (slice_index w.exposed.items p)

-- the acts with those of each process below this one cut, of one after the other
abbrev pub cut_below : ℕ → (ℕ → ℕ) → List Taken → List Taken
cut_below zero reach acts = acts
cut_below (suc p) reach acts = cut_acts p (reach p) (cut_below p reach acts)

-- those of all processes are
abbrev pub AreCut : Processes → Processes → Type 0
AreCut old new = ((p : ℕ) → p < length old.slots.items → end_in (slot_at old.slots.items p) < 2 ^ 32) → new.acts.items ≡ cut_below (length old.slots.items) (reach_in old) old.acts.items

-- it is up, and had an unlogged nondeterministic event since its last commit
abbrev pub has_unlogged : Option Slot → Bool
has_unlogged (Some (Up u)) = u.unlogged
has_unlogged _ = false

-- one of them is, and had
abbrev pub have_unlogged : List (Option Slot) → Bool
have_unlogged slots = list_any has_unlogged slots

-- process p of n
abbrev pub whose : ℕ → ℕ → Form
whose n p = record { n = n; p = p }

-- all fell, as one of them was down
pub record HaveFallen {C D : Type 0} (g : checkpoint.Ghosts C D) (slots slots1 : List (Option Slot)) (stores stores1 : List C) : Type 0 where
  pub one : (q : ℕ) × (q < length slots) × (is_up (slot_at slots q) ≡ false)
  pub falls : (p : ℕ) → p < length slots → Falls (slot_at slots p) (slot_at slots1 p)
  pub pairs : EachPair stores stores1 (λ i. FallsStore (showing_of g))

-- they are as they were, where each commits by itself or all are up; else all fell
abbrev pub FallTogether : {C D : Type 0} → checkpoint.Ghosts C D → Protocol → List (Option Slot) → List (Option Slot) → List C → List C → Type 0
FallTogether g protocol slots slots1 stores stores1 = ((slots1 ≡ slots) × (stores1 ≡ stores) × (is_joint protocol ≡ true → AreUp slots)) ⊎ ((is_joint protocol ≡ true) × HaveFallen g slots slots1 stores stores1)
