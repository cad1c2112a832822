-- A recovery of all processes of a world that stands for a core: refused, stopped, or done.
use Rattle.std.proofs.Common.{◌≡◌, ◌∙◌, ◌-◌, ◌+◌, ◌*◌, ◌^◌, ◌<◌, ◌≤◌, ℕ, List, Option, None, Some, IsErrOf, IsSome, IsSomeAnd, Result, true, false, refl, sym, ap, subst, length, max, slice_get, slice_index}
use Rattle.std.proofs.lemmas.Option.{slice_get_within}
use Rattle.dc_checkpoint.specs.Calls.{AreAll}
use Rattle.dc_checkpoint.specs.States.{Reading}
use Rattle.dc_checkpoint.specs.declared.checkpoint.Checkpoint as checkpoint
use Rattle.dc_elf.specs.Images.{Image}
use Rattle.dc_guest.specs.Guest.{Guest}
use Rattle.dc_kernel.specs.Kernels.{Kernel}
use Rattle.dc_checkpoint.specs.declared.faults.StoreFault.{StoreFault}
use Rattle.dc_checkpoint.specs.declared.faults.StoreFault.TheVariants as faults
use Rattle.dc_proc.proofs.Rising.{given_kernel}
use Rattle.dc_processes.proofs.Refusing.{uncounted_reason}
use Rattle.dc_kernel.specs.declared.saved.Saved.{Saved}
use Rattle.dc_model.specs.declared.entry.Entry.{Entry}
use Rattle.dc_model.specs.declared.entry.Entry.TheVariants as entry
use Rattle.dc_model.specs.declared.entry.Turn.{Turn}
use Rattle.dc_model.specs.declared.mark.Mark.TheVariants as mark
use Rattle.dc_proc.specs.Carried.{system}
use Rattle.dc_proc.specs.Events.{HasCountsFor}
use Rattle.dc_proc.specs.Processes.{Held}
use Rattle.dc_protocols.specs.Rules.{is_joint}
use Rattle.dc_recovery.specs.Core.{Core}
use Rattle.dc_recovery.specs.Invariant.{Holds}
use Rattle.dc_recovery.specs.Systems.{System}
use Rattle.dc_twophase.specs.Commits.{AllOld}
use Rattle.dc_twophase.specs.Recoveries.{AreRecovered, IsCause}
use Rattle.dc_twophase.specs.Stores.{AtPair, on}
use Rattle.dc_twophase.specs.declared.faults.JointFault.{JointFault}
use Rattle.dc_twophase.specs.declared.faults.JointFault.TheVariants as joint
use Rattle.dc_processes.proofs.Beside.{some_and}
use Rattle.dc_together.proofs.Choosing.{counts_left, decided_risen, end_low, none_refused, rejoined_so, stopped_so}
use Rattle.dc_together.proofs.Fitting.{down_each, up_based}
use Rattle.dc_together.proofs.Reread.{fewer_read, floor_read, given_read, narrow_read, number_is_read, number_read, numbers_first, of_first, only_read, read_at, read_for, reading_read, steady_read, told_read}
use Rattle.dc_together.specs.Joints.{AreDown, AllBelong, IsRisenFrom, cut_below, end_in}
use Rattle.dc_processes.specs.Processes.{LearnsBelow}
use Rattle.dc_processes.specs.Slots.{based_in, held_in, is_up, slot_at}
use Rattle.dc_processes.specs.Stages.{AreDecided, IsWorld, Stage, leaves_of, memory_of, numbers_of, store_of, words_of}
use Rattle.dc_processes.specs.Turns.{IsTurned, marked}
use Rattle.dc_processes.specs.declared.slot.Slot.{Slot}
use Rattle.dc_checkpoint.specs.Calls.{FallsStore}
use Rattle.dc_checkpoint.specs.Handles.{IsSame, showing_of}
use Rattle.dc_proc.specs.Ups.{IsWhole}
use Rattle.dc_proc.specs.declared.up.Up.{Up as Process}
use Rattle.dc_processes.specs.Slots.{Falls, size_in}
use Rattle.dc_processes.specs.declared.slot.Slot.TheVariants.{Up}
use Rattle.dc_twophase.proofs.Pairs.{before_it, known}
use Rattle.dc_twophase.specs.Stores.{EachPair}
use Rattle.dc_together.proofs.Fitting.{DownAt, counts_risen, down_at, down_there, fit_risen, up_there}
use Rattle.dc_together.specs.Joints.{AreFit}
use Rattle.dc_checkpoint.specs.States.{IsFit}
use Rattle.dc_kernel.specs.Kernels.{IsKernel}
use Rattle.dc_twophase.specs.Recoveries.{AreFit as AreFilled}
use Rattle.dc_together.proofs.Fitting.{down_still, own_form}
use Rattle.dc_together.specs.Joints.{whose}
use Rattle.dc_processes.specs.Processes.{IsWell}
use Rattle.dc_processes.specs.Stages.{stage_of}
use Rattle.dc_processes.specs.Turns.{GoesOn, HasNoRun, IsRefused, later}
use Rattle.dc_processes.specs.declared.processes.Processes.{Processes}
use Rattle.dc_together.specs.Joints.{HaveCounts, reach_in}
use Rattle.dc_words.specs.Lists.{lists_of}
use Rattle.std.proofs.Common.{arith, rules}
use Rattle.dc_processes.specs.declared.joint.Joint.{Joint}
use Rattle.dc_together.proofs.Fitting.{filled_same, room_filled}
use Rattle.dc_together.specs.Joints.{IsRoomFor}
use Rattle.dc_model.specs.declared.mark.Mark.{Mark}

-- what each learned, of processes that are those
pub learns_there : (n : ℕ) (mid slots new : List (Option Slot)) → mid ≡ slots → length slots ≡ n
    → ((q : ℕ) → q < length mid → LearnsBelow (length mid) (λ r. slice_index (based_in (slot_at mid r)) q) (slot_at mid q) (slot_at new q))
    → (q : ℕ) → q < n → LearnsBelow n (λ r. slice_index (based_in (slot_at slots r)) q) (slot_at slots q) (slot_at new q)
learns_there n mid slots new same long learns q less = subst (λ m. LearnsBelow m (λ r. slice_index (based_in (slot_at slots r)) q) (slot_at slots q) (slot_at new q)) long
    (subst (λ xs. LearnsBelow (length xs) (λ r. slice_index (based_in (slot_at xs r)) q) (slot_at xs q) (slot_at new q)) same
    (learns q (subst (λ m. q < m) (sym (ap (λ xs. length xs) same ∙ long)) less)))

-- stores that were read, all at once, for processes that are down
pub record Reads {C D : Type 0} (g : checkpoint.Ghosts C D) (old : Stage C D) (stores : List C) (dev : D) : Type 0 where
  pub some : 0 < length old.slots
  pub stored : length old.stores ≡ length old.slots
  pub as_many : length stores ≡ length old.stores
  pub same : EachPair old.stores stores (λ i. IsSame g)
  pub lent : (i : ℕ) (x : C) → slice_get stores i ≡ Some x → g.lent x dev
  pub belong : AllBelong g (length old.slots) stores
  pub down : AreDown g old.stores old.dev old.slots
  pub stands : AtPair 0 old.stores stores (λ b z. g.steady b old.dev → (d : ℕ) → g.numbers z dev d → g.numbers b old.dev d × AllOld g (on old.stores old.dev) (on stores dev) d)
  pub steady : AtPair 0 old.stores stores (λ b z. g.steady b old.dev → g.steady z dev)

-- each under one number, and each process rose at what was read
pub record Rises {C D : Type 0} (g : checkpoint.Ghosts C D) (old : Stage C D) (stores : List C) (dev : D) (d : ℕ) (saved : List Saved) (mid : List (Option Slot)) : Type 0 where
  pub filled : length saved ≡ length old.slots
  pub recovered : AreRecovered g d (on stores dev) saved
  pub all : AtPair 0 old.stores stores (λ b z. g.steady b old.dev → AreAll d (g.numbers z dev))
  pub risen : (q : ℕ) (v : Saved) → slice_get saved q ≡ Some v → IsRisenFrom v (slot_at old.slots q) (slot_at mid q)
  pub few : length old.acts ≤ old.entries
  pub room : old.entries + old.left ≤ 1000000
  pub some_left : 0 < old.left

-- what a device that tells shows
pub record Tells {C D : Type 0} (g : checkpoint.Ghosts C D) : Type 0 where
  pub some_reading : (x : C) (dev : D) → g.told dev (g.index x) → (d : ℕ) → (r : Reading) × g.leaves x dev d r
  pub some_number : (x : C) (dev : D) → g.told dev (g.index x) → (e : ℕ) × g.numbers x dev e
  pub told_contents : (x : C) (dev : D) → g.ready x dev → g.told dev (g.index x) → IsSome (g.contents x dev)

module _ {C D : Type 0} (g : checkpoint.Ghosts C D) (images : List Image) (c : Core) (old new : Stage C D) (together : is_joint old.protocol ≡ true) (world : IsWorld g (system images old.inputs old.protocol) c old)
    (reads : Reads g old new.stores new.dev) (long : length new.slots ≡ length old.slots) where
  abbrev S : System Guest
  S = system images old.inputs old.protocol

  was : IsSomeAnd (store_of old 0) (λ z. g.steady z old.dev)
  was = (world.decided together).steady

  still : IsSomeAnd (store_of new 0) (λ z. g.steady z new.dev)
  still = steady_read g old new reads.some reads.stored reads.as_many was reads.steady

  fewer : (n : ℕ) → numbers_of g new n → numbers_of g old n
  fewer = fewer_read g old new reads.some reads.stored reads.as_many was reads.stands

  narrow : (q n : ℕ) → numbers_of g new n → (r : Reading) → leaves_of g new q n r → leaves_of g old q n r
  narrow = narrow_read g old new reads.some reads.stored reads.as_many was reads.stands

  off : (q : ℕ) → q < length old.slots → is_up (slot_at old.slots q) ≡ false
  off q less = (down_each g old.stores old.dev old.slots reads.stored reads.down q less).0

  inside : (q : ℕ) → q < length old.slots → q < S.guests.count
  inside q less = subst (λ m. q < m) (sym world.count_is) less

  within : (q : ℕ) → q < S.guests.count → q < length old.slots
  within q less = subst (λ m. q < m) world.count_is less

  -- stopped, all are down as they were
  pub recovery_stopped : (turn : Turn) (there : turn.p < length old.slots) → new.slots ≡ old.slots → new.protocol ≡ old.protocol → new.inputs ≡ old.inputs → new.acts ≡ old.acts → new.exposed ≡ old.exposed → new.lines ≡ old.lines → new.left ≤ old.left
      → IsTurned g images c old new (entry.Turn turn) (marked mark.Stopped None)
  recovery_stopped turn there slots protocol inputs acts exposed lines left = stopped_so g images old new together c world fewer narrow still long turn there off slots protocol inputs acts exposed lines left

  -- where the devices tell
  module _ (told : (q : ℕ) → q < length old.slots → g.told new.dev q) (tells : Tells g) where
    reading : (q n : ℕ) → q < length old.slots → (r : Reading) × leaves_of g new q n r
    reading = reading_read g old new reads.some reads.stored reads.as_many was reads.belong told tells.some_reading

    -- no store is refused by what it holds
    pub recovery_refused : {T : Type 0} (result : Result T JointFault) → AtPair 0 old.stores new.stores (λ b z. g.steady b old.dev → (d : ℕ) → g.numbers z new.dev d → IsCause g d (on new.stores new.dev) result)
        → (i : ℕ) (why : StoreFault) → IsErrOf result (joint.Refused i why) → ⊥
    recovery_refused result causes i why e =
        let n = number_read g old new reads.some reads.stored reads.as_many was reads.belong told tells.some_number in
        let cause = of_first g old new reads.some reads.stored reads.as_many was (λ b z. (d : ℕ) → g.numbers z new.dev d → IsCause g d (on new.stores new.dev) result) causes n.0 (numbers_first g old new reads.some reads.stored reads.as_many was n.0 n.1) i why e in
        let less : i < length old.slots = subst (λ m. i < m) (reads.as_many ∙ reads.stored) (slice_get_within new.stores i cause.0 cause.1) in
        let r = reading i n.0 less in
        none_refused g images old new together c world fewer narrow still long i n.0 (inside i less) n.1 r.0 r.1 why (cause.2 r.0 (some_and (λ z. g.leaves z new.dev n.0 r.0) (store_of new i) cause.0 cause.1 r.1))

    -- each store was recovered under one number, and each process rose at what was read
    module _ (schedule : List Entry) (now : Holds S schedule old.entries c) (d : ℕ) (saved : List Saved) (mid : List (Option Slot)) (rises : Rises g old new.stores new.dev d saved mid) where
      abbrev read : ℕ → Saved
      read = read_for g old new reads.some reads.stored reads.as_many was d saved rises.filled rises.recovered

      abbrev held : ℕ → Held
      held q = held_in (slot_at mid q)

      rose : (q : ℕ) → q < length old.slots → IsRisenFrom (read q) (slot_at old.slots q) (slot_at mid q)
      rose q less = rises.risen q (read q) (read_at g old new reads.some reads.stored reads.as_many was d saved rises.filled rises.recovered q less)

      is : numbers_of g new d
      is = number_is_read g old new reads.some reads.stored reads.as_many was reads.belong told tells.some_number d rises.all

      only : (e : ℕ) → numbers_of g new e → e ≡ d
      only = only_read g old new reads.some reads.stored reads.as_many was d rises.all

      told_new : (q : ℕ) → q < S.guests.count → memory_of g (store_of new q) new.dev ≡ Some (words_of (memory_of g (store_of new q) new.dev))
      told_new q less = told_read g old new reads.some reads.stored reads.as_many was d saved rises.filled rises.recovered reads.belong told tells.told_contents q (within q less)

      -- its counts have room for the turns that are left
      pub recovery_counts : (q : ℕ) → q < length old.slots → HasCountsFor (2 * (old.left - 1)) (held_in (slot_at mid q)).kernel
      recovery_counts q less = counts_left g images old new together c world fewer narrow still long d is only read (λ r there. reading r d (within r there))
          (λ r there x left. given_read g old new reads.some reads.stored reads.as_many was d saved rises.filled rises.recovered r (within r there) x left) schedule now held (λ r there. (rose r (within r there)).risen) told_new
          off rises.few rises.room rises.some_left q (inside q less) (rose q less).kernel_is

      -- what it has yet to read ends at a position that is small
      recovery_ends : (q : ℕ) → q < length old.slots → end_in (slot_at mid q) < 2 ^ 32
      recovery_ends q less = end_low g images old new together c world fewer narrow still long d is only read (λ r there. reading r d (within r there))
          (λ r there x left. given_read g old new reads.some reads.stored reads.as_many was d saved rises.filled rises.recovered r (within r there) x left) schedule now held (λ r there. (rose r (within r there)).risen) told_new
          off rises.few rises.room rises.some_left q (inside q less)

      module _ (learns : (q : ℕ) → q < length old.slots → LearnsBelow (length old.slots) (λ r. slice_index (based_in (slot_at mid r)) q) (slot_at mid q) (slot_at new.slots q)) where
        position_is : (q : ℕ) → q < length old.slots → (held_in (slot_at new.slots q)).kernel.position ≡ (held q).kernel.position
        position_is q less = ap (λ (h : Held). h.kernel.position) (learns q less).rest

        decided : AreDecided g new
        decided = decided_risen g images old new together c world fewer narrow still long d is only read (λ r there. reading r d (within r there))
            (λ r there x left. given_read g old new reads.some reads.stored reads.as_many was d saved rises.filled rises.recovered r (within r there) x left)
            (λ q less. (learns q less).up_same ∙ (rose q less).up)
            (λ q less. ap (λ (h : Held). h.kernel.commit) (learns q less).rest ∙ ap (λ (k : Kernel). k.commit) (rose q less).kernel_is)
            (λ q less. floor_read g old new reads.some reads.stored reads.as_many was d saved rises.filled rises.recovered q less)

        -- done: each is up, and has learned what the others had received
        pub recovery_done : (turn : Turn) (there : turn.p < length old.slots) (reach_of : ℕ → ℕ)
            → ((q : ℕ) → q < length old.slots → reach_of q ≡ max (max (held_in (slot_at mid q)).kernel.position (end_in (slot_at mid q))) (slice_index old.exposed q)) → (((q : ℕ) → q < length old.slots → end_in (slot_at mid q) < 2 ^ 32) → new.acts ≡ cut_below (length old.slots) reach_of old.acts)
            → new.protocol ≡ old.protocol → new.inputs ≡ old.inputs → new.exposed ≡ old.exposed → new.lines ≡ old.lines
            → IsTurned g images c old new (entry.Turn turn) (marked (mark.Recovered (held_in (slot_at new.slots turn.p)).kernel.position) None)
        recovery_done turn there reach_of reach_is acts protocol inputs exposed lines =
            subst (λ k. IsTurned g images c old new (entry.Turn turn) (marked (mark.Recovered k) None)) (sym (position_is turn.p there))
            (rejoined_so g images old new together c world fewer narrow still long d is only read (λ r there. reading r d (within r there))
            (λ r there x left. given_read g old new reads.some reads.stored reads.as_many was d saved rises.filled rises.recovered r (within r there) x left) schedule now held (λ r there. (rose r (within r there)).risen) told_new
            off rises.few rises.room rises.some_left turn there (λ q. slot_at mid q) (λ q less. (rose q (within q less)).up) (λ q less. refl) (λ q less. up_based (slot_at mid q) (rose q (within q less)).up)
            (λ q less. subst (λ m. LearnsBelow m (λ r. slice_index (based_in (slot_at mid r)) q) (slot_at mid q) (slot_at new.slots q)) (sym world.count_is) (learns q (within q less)))
            reach_of (λ q less. reach_is q (within q less)) (acts recovery_ends) protocol inputs exposed lines decided)

-- what was read, all at once
module _ {C D : Type 0} {g : checkpoint.Ghosts C D} {old : Stage C D} {stores : List C} {dev : D} (reads : Reads g old stores dev) where
  -- each is down still
  pub down_read : AreDown g stores dev old.slots
  down_read p x at =
      let a = before_it old.stores stores p x reads.as_many at in
      let was = down_there g a.0 old.dev (slot_at old.slots p) (reads.down p a.0 a.1) in
      down_still g x dev (slot_at old.slots p) was.down was.there (reads.lent p x at) (was.sized ∙ ap (λ n. 4 * n) (sym (reads.same p a.0 x a.1 at).size_same))

  -- it is fit for the stores, so they have room
  pub filled_read : (saved : List Saved) → AreFilled g old.stores saved → AreFilled g stores saved
  filled_read saved = filled_same g old.stores stores saved reads.as_many reads.same

  pub room_read : (was now : Joint) → length now.texts.items ≡ length was.texts.items → length now.saved.items ≡ length was.saved.items → AreFilled g stores now.saved.items → IsRoomFor g old.stores (length old.slots) was → IsRoomFor g stores (length old.slots) now
  room_read was now = room_filled g old.stores stores (length old.slots) was now

  -- it fits its process
  pub fit_read : (d : ℕ) (saved : List Saved) → AreRecovered g d (on stores dev) saved → length saved ≡ length old.slots → AreFilled g stores saved → (p : ℕ) (v : Saved) → slice_get saved p ≡ Some v
      → IsFit (whose (length old.slots) p) v × IsKernel (length old.slots) p v.kernel × (length v.log.items ≤ 64)
  fit_read d saved recovered long fit p v at =
      let n = length old.slots in
      let b = known stores p (subst (λ m. p < m) (long ∙ sym (reads.as_many ∙ reads.stored)) (slice_get_within saved p v at)) in
      let own = reads.belong p b.0 b.1 in
      let read = (recovered p b.0 v b.1 at).read in
      (subst (λ f. IsFit f v) (own_form g n p b.0 own) (fit p b.0 v b.1 at), subst (λ m. IsKernel n m v.kernel) own.form_p (subst (λ m. IsKernel m (g.form b.0).p v.kernel) own.form_n read.kernel), read.few)

-- each with its store, as it was read and rose
module _ {C D : Type 0} {g : checkpoint.Ghosts C D} {old : Stage C D} {stores : List C} {dev : D} {d : ℕ} {saved : List Saved} {mid : List (Option Slot)} (reads : Reads g old stores dev) (rises : Rises g old stores dev d saved mid) where
  before : (p : ℕ) (x : C) → slice_get stores p ≡ Some x → (a : C) × (slice_get old.stores p ≡ Some a)
  before p x at = before_it old.stores stores p x reads.as_many at

  there : (p : ℕ) (x : C) → slice_get old.stores p ≡ Some x → p < length old.slots
  there p x at = subst (λ m. p < m) reads.stored (slice_get_within old.stores p x at)

  read_at_it : (p : ℕ) → p < length old.slots → (v : Saved) × (slice_get saved p ≡ Some v)
  read_at_it p less = known saved p (subst (λ m. p < m) (sym rises.filled) less)

  fallen : (p : ℕ) (a : C) → slice_get old.stores p ≡ Some a → DownAt g a old.dev (slot_at old.slots p)
  fallen p a at = down_there g a old.dev (slot_at old.slots p) (reads.down p a at)

  -- they may fall again
  pub down_risen : (stores2 : List C) → length stores2 ≡ length stores → EachPair stores stores2 (λ i. FallsStore (showing_of g)) → (slots2 : List (Option Slot)) → ((q : ℕ) → q < length old.slots → Falls (slot_at mid q) (slot_at slots2 q)) → AreDown g stores2 dev slots2
  down_risen stores2 as_many2 fell slots2 falls p x at =
      let b = before_it stores stores2 p x as_many2 at in
      let a = before p b.0 b.1 in
      let v = read_at_it p (there p a.0 a.1) in
      let rose = rises.risen p v.0 v.1 in
      let was = fallen p a.0 a.1 in
      down_at g b.0 x dev (slot_at mid p) (slot_at slots2 p) (falls p (there p a.0 a.1)) (up_there (slot_at mid p) rose.up) (fell p b.0 x b.1 at) (reads.lent p b.0 b.1)
      (rose.size_same ∙ ap size_in was.there ∙ was.sized ∙ ap (λ n. 4 * n) (sym (reads.same p a.0 b.0 a.1 b.1).size_same))

  -- and once each has learned, each is fit, with the counts that it had
  module _ (slots2 : List (Option Slot)) (learns : (q : ℕ) → q < length old.slots → LearnsBelow (length old.slots) (λ r. slice_index (based_in (slot_at mid r)) q) (slot_at mid q) (slot_at slots2 q)) where
    pub fit_recovered : ((p : ℕ) (v : Process) → p < length old.slots → slot_at slots2 p ≡ Some (Up v) → IsWhole v) → AreFit g stores dev slots2
    fit_recovered whole p x at =
        let a = before p x at in
        let less = there p a.0 a.1 in
        let v = read_at_it p less in
        fit_risen g a.0 x old.dev dev d (length old.slots) _ v.0 (slot_at old.slots p) (slot_at mid p) (slot_at slots2 p) (fallen p a.0 a.1) (rises.risen p v.0 v.1) (learns p less) (λ u e. whole p u less e)
        (reads.same p a.0 x a.1 at) (reads.lent p x at) (rises.recovered p x v.0 at v.1)

    pub counts_recovered : (m : ℕ) → ((p : ℕ) → p < length old.slots → HasCountsFor m (held_in (slot_at mid p)).kernel) → (p : ℕ) → p < length old.slots → HasCountsFor m (held_in (slot_at slots2 p)).kernel
    counts_recovered m have p less =
        let a = known old.stores p (subst (λ k. p < k) (sym reads.stored) less) in
        let b = known stores p (subst (λ k. p < k) (sym (reads.as_many ∙ reads.stored)) less) in
        let v = read_at_it p less in
        counts_risen g a.0 b.0 old.dev dev d (length old.slots) _ v.0 (slot_at old.slots p) (slot_at mid p) (slot_at slots2 p) (fallen p a.0 a.1) (rises.risen p v.0 v.1) (learns p less) m (have p less)
        ((rises.recovered p b.0 v.0 b.1 v.1).read.kernel.n_is ∙ (reads.belong p b.0 b.1).form_n)

-- they rose, their acts were cut, and each learned
pub record Cuts (w0 w1 w2 w3 : Processes) : Type 0 where
  pub rose : w1 ≡ record w0 { slots = w1.slots; joint = w1.joint }
  pub cut : w2 ≡ record w1 { acts = w2.acts }
  pub learned : w3 ≡ record w2 { slots = w3.slots }
  pub rose_long : length w1.slots.items ≡ length w0.slots.items
  pub learned_long : length w3.slots.items ≡ length w2.slots.items
  pub acts : ((q : ℕ) → q < length w1.slots.items → end_in (slot_at w1.slots.items q) < 2 ^ 32) → w2.acts.items ≡ cut_below (length w1.slots.items) (reach_in w1) w1.acts.items
  pub learns : (q : ℕ) → q < length w2.slots.items → LearnsBelow (length w2.slots.items) (λ r. slice_index (based_in (slot_at w2.slots.items r)) q) (slot_at w2.slots.items q) (slot_at w3.slots.items q)

module _ {w0 w1 w2 w3 : Processes} (cuts : Cuts w0 w1 w2 w3) where
  slots_cut : w2.slots.items ≡ w1.slots.items
  slots_cut = ap (λ (w : Processes). w.slots.items) cuts.cut

  long_cut : length w3.slots.items ≡ length w0.slots.items
  long_cut = cuts.learned_long ∙ ap (λ xs. length xs) slots_cut ∙ cuts.rose_long

  pub learns_cut : (q : ℕ) → q < length w0.slots.items → LearnsBelow (length w0.slots.items) (λ r. slice_index (based_in (slot_at w1.slots.items r)) q) (slot_at w1.slots.items q) (slot_at w3.slots.items q)
  learns_cut = learns_there (length w0.slots.items) w2.slots.items w1.slots.items w3.slots.items slots_cut cuts.rose_long cuts.learns

  module _ {C D : Type 0} {g : checkpoint.Ghosts C D} {stores0 stores : List C} {dev0 dev : D} {d : ℕ} {saved : List Saved} (reads : Reads g (stage_of stores0 dev0 w0) stores dev) (rises : Rises g (stage_of stores0 dev0 w0) stores dev d saved w1.slots.items) where
    -- each is fit, with counts for the turns that are left
    pub ready_cut : IsWell w3 → HaveCounts (2 * (w1.left - 1)) w1.slots.items → AreFit g stores dev w3.slots.items × HaveCounts (2 * (w0.left - 1)) w3.slots.items
    ready_cut well have = (
      fit_recovered reads rises w3.slots.items learns_cut (λ p u less e. (well.each p (Up u) (subst (λ m. p < m) (sym long_cut) less) e).0),
      λ p less. counts_recovered reads rises w3.slots.items learns_cut (2 * (w0.left - 1))
          (λ q low. subst (λ l. HasCountsFor (2 * (l - 1)) (held_in (slot_at w1.slots.items q)).kernel) (ap (λ (w : Processes). w.left) cuts.rose) (have q (subst (λ m. q < m) (sym cuts.rose_long) low))) p (subst (λ m. p < m) long_cut less),
    )

    -- and the turn is a recovery
    pub done_cut : Tells g → is_joint w0.protocol ≡ true → (turn : Turn) → turn.p < length w0.slots.items → (m : Mark) → m ≡ mark.Recovered (held_in (slot_at w3.slots.items turn.p)).kernel.position
        → GoesOn g (stage_of stores0 dev0 w0) (later 0 (stage_of stores dev w3)) (entry.Turn turn) m None
    done_cut tells together turn low m m_is images schedule core told telling now world =
        let rest : w3 ≡ record w0 { slots = w3.slots; joint = w1.joint; acts = w3.acts } = search rules in
        let acts : w3.acts.items ≡ w2.acts.items = ap (λ (w : Processes). w.acts.items) cuts.learned in
        let lines : w3.lines ≡ w0.lines = ap (λ (w : Processes). w.lines) rest in
        subst (λ z. IsTurned g images core (stage_of stores0 dev0 w0) (later 0 (stage_of stores dev w3)) (entry.Turn turn) (marked z None)) (sym m_is)
        (recovery_done g images core (stage_of stores0 dev0 w0) (later 0 (stage_of stores dev w3)) together world reads long_cut (λ q less. telling.told q (subst (λ k. q < k) (sym long_cut) less)) tells schedule now d saved w1.slots.items rises learns_cut turn low (reach_in w1)
        (λ q less. ap (λ xs. max (max (held_in (slot_at w1.slots.items q)).kernel.position (end_in (slot_at w1.slots.items q))) (slice_index xs q)) (ap (λ (w : Processes). w.exposed.items) cuts.rose))
        (λ ends. acts ∙ cuts.acts (λ q less. ends q (subst (λ m. q < m) cuts.rose_long less)) ∙ ap (λ m. cut_below m (reach_in w1) w1.acts.items) cuts.rose_long ∙ ap (cut_below (length w0.slots.items) (reach_in w1)) (ap (λ (w : Processes). w.acts.items) cuts.rose))
        (ap (λ (w : Processes). w.protocol) rest) (ap (λ (w : Processes). lists_of w.inputs.items) rest) (ap (λ (w : Processes). w.exposed.items) rest) (omega (arith, lines)))

-- where they rose, and one has no counts for the turns that are left, no run has come to this
pub none_uncounted : {C D : Type 0} {g : checkpoint.Ghosts C D} (w0 w1 : Processes) {stores0 stores : List C} {dev0 dev : D} {d : ℕ} {saved : List Saved} → Reads g (stage_of stores0 dev0 w0) stores dev → Rises g (stage_of stores0 dev0 w0) stores dev d saved w1.slots.items
    → Tells g → is_joint w0.protocol ≡ true → w1.left ≡ w0.left → length w1.slots.items ≡ length w0.slots.items → (p : ℕ) → p < length w1.slots.items → (HasCountsFor (2 * (w1.left - 1)) (held_in (slot_at w1.slots.items p)).kernel → ⊥)
    → (w : Processes) (later_stores : List C) → length w.slots.items ≡ length w1.slots.items → HasNoRun g (stage_of stores0 dev0 w0) (later 0 (stage_of later_stores dev w))
none_uncounted {g = g} w0 w1 {stores0 = stores0} {stores = stores} {dev0 = dev0} {dev = dev} {d = d} {saved = saved} reads rises tells together left_is long p less uncounted w later_stores as_long images schedule core told telling now world =
    uncounted (subst (λ l. HasCountsFor (2 * (l - 1)) (held_in (slot_at w1.slots.items p)).kernel) (sym left_is)
    (recovery_counts g images core (stage_of stores0 dev0 w0) (stage_of stores dev w1) together world reads long (λ q inside. telling.told q (subst (λ m. q < m) (sym (as_long ∙ long)) inside)) tells schedule now d saved w1.slots.items rises p (subst (λ m. p < m) long less)))

-- one whose counts have no room is refused for what it stands for, once all fell again
pub uncounted_refused : {C D : Type 0} {g : checkpoint.Ghosts C D} (old : Stage C D) {stores : List C} {dev : D} {d : ℕ} {saved : List Saved} (mid : List (Option Slot)) → Reads g old stores dev → Rises g old stores dev d saved mid
    → (fallen : List C) → length fallen ≡ length stores → EachPair stores fallen (λ i. FallsStore (showing_of g)) → (turns p : ℕ) → p < length old.slots → (HasCountsFor turns (held_in (slot_at mid p)).kernel → ⊥)
    → (c : C) × (slice_get fallen p ≡ Some c) × IsRefused g turns d c dev faults.Kernel
uncounted_refused {g = g} old {stores = stores} {dev = dev} {d = d} {saved = saved} mid reads rises fallen as_many fell turns p less uncounted =
    let x = known fallen p (subst (λ m. p < m) (sym (as_many ∙ reads.as_many ∙ reads.stored)) less) in
    let z = before_it stores fallen p x.0 as_many x.1 in
    let v = known saved p (subst (λ m. p < m) (sym rises.filled) less) in (
      x.0,
      x.1,
      λ reading left. uncounted_reason turns faults.Kernel (held_in (slot_at mid p)).kernel reading refl uncounted
          (given_kernel (g.contents z.0 dev) v.0 (held_in (slot_at mid p)).kernel reading (rises.risen p v.0 v.1).kernel_is
          ((rises.recovered p z.0 v.0 z.1 v.1).gives reading ((fell p z.0 x.0 z.1 x.1).stands dev d reading (omega arith) left))),
    )

-- read or not, no store was refused where a run has come to this; and where that was stopped, the turn was
module _ {C D : Type 0} {g : checkpoint.Ghosts C D} {stores0 stores : List C} {dev0 dev : D} (w : Processes) (reads : Reads g (stage_of stores0 dev0 w) stores dev) (together : is_joint w.protocol ≡ true) where
  pub stopped_read : (turn : Turn) → turn.p < length w.slots.items → GoesOn g (stage_of stores0 dev0 w) (later 0 (stage_of stores dev w)) (entry.Turn turn) mark.Stopped None
  stopped_read turn low images schedule core told telling now world =
      recovery_stopped g images core (stage_of stores0 dev0 w) (later 0 (stage_of stores dev w)) together world reads refl turn low refl refl refl refl refl (omega arith) (omega arith)

  pub unrefused_read : {T : Type 0} → Tells g → (result : Result T JointFault) → AtPair 0 stores0 stores (λ b z. g.steady b dev0 → (d : ℕ) → g.numbers z dev d → IsCause g d (on stores dev) result)
      → (i : ℕ) (why : StoreFault) → IsErrOf result (joint.Refused i why) → HasNoRun g (stage_of stores0 dev0 w) (later 0 (stage_of stores dev w))
  unrefused_read tells result causes i why e images schedule core told telling now world =
      recovery_refused g images core (stage_of stores0 dev0 w) (stage_of stores dev w) together world reads refl telling.told tells result causes i why e
