-- Processes that are fit for a turn or a commit, with their stores.
use Rattle.dc_checkpoint.specs.Calls.{FallsStore}
use Rattle.std.proofs.Common.{◌≡◌, ◌≢◌, ◌∙◌, ◌/◌, ◌*◌, ◌+◌, ◌^◌, ◌<◌, ◌-◌, ◌≤◌, ℕ, List, true, Option, None, Some, IsSome, false, is_some, refl, sym, ap, subst, arith, length, set, slice_get, slice_index, max, ⊎_elim, Bool, if◌then◌else◌}
use Rattle.std.proofs.lemmas.Bool.{cases_eq, cases_lt, true≢false}
use Rattle.std.proofs.lemmas.List.{length-drop}
use Rattle.std.proofs.lemmas.Nat.{div-mul-add}
use Rattle.dc_checkpoint.specs.Handles.{IsSame, showing_of}
use Rattle.dc_checkpoint.specs.States.{Form, IsFit}
use Rattle.dc_checkpoint.specs.declared.checkpoint.Checkpoint as checkpoint
use Rattle.dc_kernel.specs.Kernels.{Kernel}
use Rattle.dc_kernel.specs.declared.saved.Saved.{Saved}
use Rattle.dc_links.specs.Links.{Link, link_to, number_of_first}
use Rattle.dc_proc.specs.Events.{HasCountsFor}
use Rattle.dc_proc.specs.Processes.{Held}
use Rattle.dc_proc.specs.Ups.{IsFit as IsFitUp, IsWhole, held}
use Rattle.dc_proc.specs.declared.down.Down.{Down as Fallen}
use Rattle.dc_proc.specs.declared.up.Up.{Up as Process}
use Rattle.dc_twophase.proofs.Laws.{Laws}
use Rattle.dc_twophase.proofs.Pairs.{at_other, at_same, before_it, known}
use Rattle.dc_twophase.specs.Commits.{IsCommitted}
use Rattle.dc_twophase.specs.Recoveries.{AreFit as AreFilled, IsRecovered}
use Rattle.dc_twophase.specs.Stores.{AreApart, EachPair}
use Rattle.dc_processes.proofs.Handling.{counts_less}
use Rattle.dc_together.specs.Joints.{AreDown, AreFit, AllBelong, AreReady, GoesAlike, HaveCounts, IsDownAt, IsFitAt, IsMade, Belongs, IsRisenFrom, IsRoomFor, IsSettled, numbered, settled, whose}
use Rattle.dc_processes.specs.Processes.{LearnsBelow}
use Rattle.dc_processes.specs.Slots.{Falls, based_in, held_in, is_up, size_in, slot_at}
use Rattle.dc_processes.specs.declared.joint.Joint.{Joint}
use Rattle.dc_processes.specs.declared.slot.Slot.{Slot}
use Rattle.dc_processes.specs.declared.slot.Slot.TheVariants.{Down, Up}

-- what is so of one, and of each other
pub by_other : (p : ℕ) (P : ℕ → Type 0) → P p → ((q : ℕ) → p ≢ q → P q) → (q : ℕ) → P q
by_other p P self other q = ⊎_elim (λ (same : p ≡ q). subst P same self) (other q) (cases_eq p q)

-- of one that was set, and of each other that is there
pub each_set : {X : Type 0} (xs : List X) (p : ℕ) (y : X) (P : ℕ → X → Type 0) → P p y → ((q : ℕ) (x : X) → slice_get xs q ≡ Some x → p ≢ q → P q x) → (q : ℕ) (x : X) → slice_get (set xs p y) q ≡ Some x → P q x
each_set {X} xs p y P self other = by_other p (λ q. (x : X) → slice_get (set xs p y) q ≡ Some x → P q x)
    (λ x at. subst (P p) (sym (at_same xs p y x at)) self)
    (λ q ne x at. other q x (sym (at_other xs p q y (λ e. ne (sym e))) ∙ at) ne)

-- a process that is fit for its store
pub record FitAt {C D : Type 0} (g : checkpoint.Ghosts C D) (c : C) (dev : D) (slot : Option Slot) : Type 0 where
  pub up : Process
  pub there : slot ≡ Some (Up up)
  pub fit : IsFitUp g up c dev

pub fit_there : {C D : Type 0} (g : checkpoint.Ghosts C D) (c : C) (dev : D) (slot : Option Slot) → IsFitAt g c dev slot → FitAt g c dev slot
fit_there g c dev None is = absurd is
fit_there g c dev (Some (Down d)) is = absurd is
fit_there g c dev (Some (Up u)) is = record { up = u; there = refl; fit = is }

pub fit_at : {C D : Type 0} (g : checkpoint.Ghosts C D) (c : C) (dev : D) (slot : Option Slot) (u : Process) → slot ≡ Some (Up u) → IsFitUp g u c dev → IsFitAt g c dev slot
fit_at g c dev slot u at is = subst (IsFitAt g c dev) (sym at) is

-- its store was not called
pub fit_still : {C D : Type 0} (g : checkpoint.Ghosts C D) (laws : Laws g) (c : C) (old new : D) (slot : Option Slot) → g.untouched old new (g.index c) → IsFitAt g c old slot → IsFitAt g c new slot
fit_still g laws c old new slot still is = let f = fit_there g c old slot is in fit_at g c new slot f.up f.there (record {
  lent = laws.lent_still c old new still f.fit.lent;
  ready = laws.ready_still c old new still f.fit.ready;
  sized = f.fit.sized;
  paired = f.fit.paired;
  whole = f.fit.whole;
})

module _ {C D : Type 0} (g : checkpoint.Ghosts C D) (stores : List C) (dev : D) (slots : List (Option Slot)) (long : length stores ≡ length slots) (fit : AreFit g stores dev slots) where
  -- each is up
  pub fit_up : (p : ℕ) → p < length slots → is_up (slot_at slots p) ≡ true
  fit_up p less = let store = known stores p (subst (λ m. p < m) (sym long) less) in ap is_up (fit_there g store.0 dev (slot_at slots p) (fit p store.0 store.1)).there

  -- the number of its last commit is its store's
  pub fit_number : (p : ℕ) (c : C) → slice_get stores p ≡ Some c → g.number c ≡ (held_in (slot_at slots p)).kernel.commit
  fit_number p c at = let x = fit_there g c dev (slot_at slots p) (fit p c at) in x.fit.paired.number_is ∙ ap (λ s. (held_in s).kernel.commit) (sym x.there)

-- whose a store is
pub own_form : {C D : Type 0} (g : checkpoint.Ghosts C D) (n p : ℕ) (c : C) → Belongs g n p c → g.form c ≡ whose n p
own_form g n p c own = λ i. record { n = own.form_n i; p = own.form_p i }

-- stores that are their processes' own lie apart
pub own_apart : {C D : Type 0} (g : checkpoint.Ghosts C D) (n : ℕ) (stores : List C) → AllBelong g n stores → AreApart g stores
own_apart g n stores own i j b c at there ne same = ne (sym (own i b at).index_is ∙ same ∙ (own j c there).index_is)

-- texts in a row of n, each of so many words
pub row_size : (size n m : ℕ) → 0 < n → m ≡ size * n → m / n ≡ size
row_size size n m some is = ap (λ k. k / n) (is ∙ omega arith) ∙ div-mul-add size n 0 some

-- what one that fell needs to recover
pub down_at : {C D : Type 0} (g : checkpoint.Ghosts C D) (c0 c1 : C) (dev : D) (old new : Option Slot) → Falls old new → IsSome old → FallsStore (showing_of g) c0 c1 → g.lent c0 dev → size_in old ≡ 4 * g.size c0 → IsDownAt g c1 dev new
down_at g c0 c1 dev old None falls some store lent sized = absurd (true≢false (sym (falls.there some)))
down_at g c0 c1 dev old (Some (Up v)) falls some store lent sized = absurd (true≢false falls.down)
down_at g c0 c1 dev old (Some (Down d)) falls some store lent sized = (store.lent dev lent, falls.size_same ∙ sized ∙ ap (λ n. 4 * n) (sym store.same.size_same))

-- the room stays, whatever is written to it
pub room_filled : {C D : Type 0} (g : checkpoint.Ghosts C D) (stores stores1 : List C) (n : ℕ) (joint joint1 : Joint) → length joint1.texts.items ≡ length joint.texts.items → length joint1.saved.items ≡ length joint.saved.items
    → AreFilled g stores1 joint1.saved.items → IsRoomFor g stores n joint → IsRoomFor g stores1 n joint1
room_filled g stores stores1 n joint joint1 texts saved filled is = record { texts = texts ∙ is.texts; saved_long = saved ∙ is.saved_long; saved_fit = filled }

-- stores that are the same are filled by the same
pub filled_same : {C D : Type 0} (g : checkpoint.Ghosts C D) (stores stores1 : List C) (saved : List Saved) → length stores1 ≡ length stores → EachPair stores stores1 (λ i. IsSame g) → AreFilled g stores saved → AreFilled g stores1 saved
filled_same g stores stores1 saved as_many same fit i c v at there = let b = before_it stores stores1 i c as_many at in subst (λ f. IsFit f v) (sym (same i b.0 c b.1 at).form_same) (fit i b.0 v b.1 there)

pub room_same : {C D : Type 0} (g : checkpoint.Ghosts C D) (stores stores1 : List C) (n : ℕ) (joint joint1 : Joint) → length stores1 ≡ length stores → EachPair stores stores1 (λ i. IsSame g)
    → length joint1.texts.items ≡ length joint.texts.items → joint1.saved ≡ joint.saved → IsRoomFor g stores n joint → IsRoomFor g stores1 n joint1
room_same g stores stores1 n joint joint1 as_many same texts saved is = room_filled g stores stores1 n joint joint1 texts (ap (λ v. length v.items) saved)
    (filled_same g stores stores1 joint1.saved.items as_many same (subst (λ v. AreFilled g stores v.items) (sym saved) is.saved_fit)) is

-- what is fit for each process is for its store
pub filled_own : {C D : Type 0} (g : checkpoint.Ghosts C D) (stores : List C) (n : ℕ) (saved : List Saved) → AllBelong g n stores → ((p : ℕ) (v : Saved) → slice_get saved p ≡ Some v → IsFit (whose n p) v) → AreFilled g stores saved
filled_own g stores n saved own fit i c v at there = subst (λ f. IsFit f v) (sym (own_form g n i c (own i c at))) (fit i v there)

-- stores that are the same are the own ones
pub own_same : {C D : Type 0} (g : checkpoint.Ghosts C D) (stores stores1 : List C) (n : ℕ) → length stores1 ≡ length stores → EachPair stores stores1 (λ i. IsSame g) → AllBelong g n stores → AllBelong g n stores1
own_same g stores stores1 n as_many same own p c at = let b = before_it stores stores1 p c as_many at in let is = same p b.0 c b.1 at in let was = own p b.0 b.1 in record {
  index_is = is.index_same ∙ was.index_is;
  form_n = ap (λ (f : Form). f.n) is.form_same ∙ was.form_n;
  form_p = ap (λ (f : Form). f.p) is.form_same ∙ was.form_p;
}

-- one that is up is there
pub up_there : (s : Option Slot) → is_up s ≡ true → IsSome s
up_there None on = absurd (true≢false (sym on))
up_there (Some s) on = refl

-- a process after a commit of all, with its store
module _ {C D : Type 0} (g : checkpoint.Ghosts C D) (c0 c1 : C) (d0 d1 : D) (number n : ℕ) (upto : ℕ → ℕ) (s0 s1 s2 s3 : Option Slot) (was : FitAt g c0 d0 s0) (made : IsMade (numbered number) s0 s1) (settles : IsSettled s1 s2)
    (learns : LearnsBelow n upto s2 s3) where
  held_mid : held_in s2 ≡ settled (based_in s2) (numbered number (held was.up))
  held_mid = settles.made.held_is ∙ ap (settled (based_in s2)) (made.held_is ∙ ap (λ s. numbered number (held_in s)) was.there)

  -- of what it holds all but its messages, and what it knows of others, is as the commit left it
  pub held_after : record (held_in s3) { kernel = record (held_in s3).kernel { links = (held_in s2).kernel.links }; others = (held_in s2).others } ≡ settled (based_in s2) (numbered number (held was.up))
  held_after = learns.rest ∙ held_mid

  pub fit_after : ((v : Process) → s3 ≡ Some (Up v) → IsWhole v) → IsSame g c0 c1 → g.lent c1 d1 → IsCommitted g number d1 c1 → IsFitAt g c1 d1 s3
  fit_after whole same lent done = by_slot s3 refl
    where
      by_slot : (x : Option Slot) → s3 ≡ x → IsFitAt g c1 d1 x
      by_slot None e = absurd (true≢false (sym settles.made.up ∙ sym learns.up_same ∙ ap is_up e))
      by_slot (Some (Down d)) e = absurd (true≢false (sym settles.made.up ∙ sym learns.up_same ∙ ap is_up e))
      by_slot (Some (Up v)) e = record {
        lent = lent;
        ready = done.ready;
        sized = ap size_in (sym e) ∙ learns.size_same ∙ settles.made.size_same ∙ made.size_same ∙ ap size_in was.there ∙ was.fit.sized ∙ ap (λ m. 4 * m) (sym same.size_same);
        paired = record {
          form_is = same.form_same ∙ was.fit.paired.form_is ∙ (λ i. record { n = (sym n_is) i; p = (sym p_is) i });
          number_is = done.number ∙ sym (ap (λ s. (held_in s).kernel.commit) (sym e) ∙ ap (λ (h : Held). h.kernel.commit) held_after);
          logged_is = (let l = done.logged in let k = ap (λ s. (held_in s).log_left) (sym e) ∙ ap (λ (h : Held). h.log_left) held_after in omega (arith, l, k));
        };
        whole = whole v e;
      }
        where
          n_is : (held v).kernel.n ≡ (held was.up).kernel.n
          n_is = ap (λ s. (held_in s).kernel.n) (sym e) ∙ ap (λ (h : Held). h.kernel.n) held_after

          p_is : (held v).kernel.p ≡ (held was.up).kernel.p
          p_is = ap (λ s. (held_in s).kernel.p) (sym e) ∙ ap (λ (h : Held). h.kernel.p) held_after

  -- its counts, of which the commit's alone rose
  pub counts_after : (m : ℕ) → HasCountsFor (m + 1) (held was.up).kernel → (held was.up).kernel.n ≡ n → number + 2 * m < 2 ^ 32 → HasCountsFor m (held_in s3).kernel
  counts_after m has n_is low = record {
    position = (let e = ap (λ (h : Held). h.kernel.position) held_after in let a = has.position in omega (arith, e, a));
    visible = (let e = ap (λ (h : Held). h.kernel.visible) held_after in let a = has.visible in omega (arith, e, a));
    inputs_taken = (let e = ap (λ (h : Held). h.kernel.inputs_taken) held_after in let a = has.inputs_taken in omega (arith, e, a));
    received = λ s less. (let e = ap (λ (h : Held). slice_index h.kernel.received s) held_after in let a = has.received s (subst (λ k. s < k) (ap (λ (h : Held). h.kernel.n) held_after) less) in omega (arith, e, a));
    sent = λ q less. (let inside : q < n = subst (λ k. q < k) (ap (λ (h : Held). h.kernel.n) held_after ∙ n_is) less in
        let e = ap (λ (l : Link). l.sent) (learns.links settles.made.up q inside) ∙ ap (λ (h : Held). (link_to h.kernel.links q).sent) held_mid in
        let a = has.sent q (subst (λ k. q < k) (ap (λ (h : Held). h.kernel.n) held_after) less) in omega (arith, e, a));
    commit = (let e = ap (λ (h : Held). h.kernel.commit) held_after in omega (arith, e, low));
  }

  -- it goes on as it did
  pub alike_after : GoesAlike s0 s3
  alike_after = record {
    registers_same = ap (λ (h : Held). h.kernel.regs.x) held_after ∙ sym (ap (λ s. (held_in s).kernel.regs.x) was.there);
    pc_same = ap (λ (h : Held). h.kernel.regs.pc) held_after ∙ sym (ap (λ s. (held_in s).kernel.regs.pc) was.there);
    status_same = ap (λ (h : Held). h.kernel.status) held_after ∙ sym (ap (λ s. (held_in s).kernel.status) was.there);
    n_same = ap (λ (h : Held). h.kernel.n) held_after ∙ sym (ap (λ s. (held_in s).kernel.n) was.there);
    p_same = ap (λ (h : Held). h.kernel.p) held_after ∙ sym (ap (λ s. (held_in s).kernel.p) was.there);
    visible_same = ap (λ (h : Held). h.kernel.visible) held_after ∙ sym (ap (λ s. (held_in s).kernel.visible) was.there);
    kept_less = kept_after;
  }
    where
      mid_same : (q : ℕ) → link_to (held_in s2).kernel.links q ≡ link_to (held_in s0).kernel.links q
      mid_same q = ap (λ (h : Held). link_to h.kernel.links q) held_mid ∙ sym (ap (λ s. link_to (held_in s).kernel.links q) was.there)

      kept_after : (q : ℕ) → length (link_to (held_in s3).kernel.links q).kept ≤ length (link_to (held_in s0).kernel.links q).kept
      kept_after q = ⊎_elim
          (λ (low : q < n). let e = ap (λ (l : Link). length l.kept) (learns.links settles.made.up q low) in let d = length-drop (max (slice_index (held_in s2).others q) (upto q) - number_of_first (link_to (held_in s2).kernel.links q)) (link_to (held_in s2).kernel.links q).kept in
          let m = ap (λ (l : Link). length l.kept) (mid_same q) in omega (arith, e, d, m))
          (λ (high : n ≤ q). let e = ap (λ (l : Link). length l.kept) ((learns.later q high).0 ∙ mid_same q) in omega (arith, e))
          (cases_lt q n)

-- what one that is up had received by its last commit
pub up_based : (s : Option Slot) → is_up s ≡ true → based_in s ≡ (held_in s).based
up_based None on = absurd (true≢false (sym on))
up_based (Some (Down d)) on = absurd (true≢false (sym on))
up_based (Some (Up u)) on = refl

-- a process that is down, with its store
pub record DownAt {C D : Type 0} (g : checkpoint.Ghosts C D) (c : C) (dev : D) (slot : Option Slot) : Type 0 where
  pub down : Fallen
  pub there : slot ≡ Some (Down down)
  pub lent : g.lent c dev
  pub sized : down.size ≡ 4 * g.size c

pub down_there : {C D : Type 0} (g : checkpoint.Ghosts C D) (c : C) (dev : D) (slot : Option Slot) → IsDownAt g c dev slot → DownAt g c dev slot
down_there g c dev None is = absurd is
down_there g c dev (Some (Up u)) is = absurd is
down_there g c dev (Some (Down d)) is = record { down = d; there = refl; lent = is.0; sized = is.1 }

pub down_still : {C D : Type 0} (g : checkpoint.Ghosts C D) (c : C) (dev : D) (slot : Option Slot) (d : Fallen) → slot ≡ Some (Down d) → g.lent c dev → d.size ≡ 4 * g.size c → IsDownAt g c dev slot
down_still g c dev slot d at lent sized = subst (IsDownAt g c dev) (sym at) (lent, sized)

-- each is down, and there
pub down_each : {C D : Type 0} (g : checkpoint.Ghosts C D) (stores : List C) (dev : D) (slots : List (Option Slot)) → length stores ≡ length slots → AreDown g stores dev slots → (p : ℕ) → p < length slots
    → (is_up (slot_at slots p) ≡ false) × IsSome (slot_at slots p)
down_each g stores dev slots long down p less =
    let store = known stores p (subst (λ m. p < m) (sym long) less) in
    let x = down_there g store.0 dev (slot_at slots p) (down p store.0 store.1) in
    (ap is_up x.there, ap is_some x.there)

-- a process after a recovery of all, with its store
module _ {C D : Type 0} (g : checkpoint.Ghosts C D) (c0 c1 : C) (d0 d1 : D) (d n : ℕ) (upto : ℕ → ℕ) (saved : Saved) (s0 s1 s2 : Option Slot) (was : DownAt g c0 d0 s0) (risen : IsRisenFrom saved s0 s1) (learns : LearnsBelow n upto s1 s2) where
  kernel_of : record (held_in s2).kernel { links = (held_in s1).kernel.links } ≡ saved.kernel
  kernel_of = ap (λ (h : Held). h.kernel) learns.rest ∙ risen.kernel_is

  pub fit_risen : ((v : Process) → s2 ≡ Some (Up v) → IsWhole v) → IsSame g c0 c1 → g.lent c1 d1 → IsRecovered g d d1 c1 saved → IsFitAt g c1 d1 s2
  fit_risen whole same lent done = by_slot s2 refl
    where
      by_slot : (x : Option Slot) → s2 ≡ x → IsFitAt g c1 d1 x
      by_slot None e = absurd (true≢false (sym risen.up ∙ sym learns.up_same ∙ ap is_up e))
      by_slot (Some (Down v)) e = absurd (true≢false (sym risen.up ∙ sym learns.up_same ∙ ap is_up e))
      by_slot (Some (Up v)) e = record {
        lent = lent;
        ready = done.ready;
        sized = ap size_in (sym e) ∙ learns.size_same ∙ risen.size_same ∙ ap size_in was.there ∙ was.sized ∙ ap (λ m. 4 * m) (sym same.size_same);
        paired = record {
          form_is = λ i. record { n = (sym done.read.kernel.n_is ∙ sym n_is) i; p = (sym done.read.kernel.p_is ∙ sym p_is) i };
          number_is = done.number ∙ sym (ap (λ s. (held_in s).kernel.commit) (sym e) ∙ ap (λ (k : Kernel). k.commit) kernel_of);
          logged_is = (let l = done.logged in let a = risen.left_is in let k = ap (λ s. (held_in s).log_left) (sym e) ∙ ap (λ (h : Held). h.log_left) learns.rest in omega (arith, l, a, k));
        };
        whole = whole v e;
      }
        where
          n_is : (held v).kernel.n ≡ saved.kernel.n
          n_is = ap (λ s. (held_in s).kernel.n) (sym e) ∙ ap (λ (k : Kernel). k.n) kernel_of

          p_is : (held v).kernel.p ≡ saved.kernel.p
          p_is = ap (λ s. (held_in s).kernel.p) (sym e) ∙ ap (λ (k : Kernel). k.p) kernel_of

  -- its counts are those of what was read
  pub counts_risen : (m : ℕ) → HasCountsFor m (held_in s1).kernel → saved.kernel.n ≡ n → HasCountsFor m (held_in s2).kernel
  counts_risen m has n_is = record {
    position = (let e = ap (λ (h : Held). h.kernel.position) learns.rest in let a = has.position in omega (arith, e, a));
    visible = (let e = ap (λ (h : Held). h.kernel.visible) learns.rest in let a = has.visible in omega (arith, e, a));
    inputs_taken = (let e = ap (λ (h : Held). h.kernel.inputs_taken) learns.rest in let a = has.inputs_taken in omega (arith, e, a));
    received = λ s less. (let e = ap (λ (h : Held). slice_index h.kernel.received s) learns.rest in let a = has.received s (subst (λ k. s < k) (ap (λ (h : Held). h.kernel.n) learns.rest) less) in omega (arith, e, a));
    sent = λ q less. (let inside : q < n = subst (λ k. q < k) (ap (λ (k : Kernel). k.n) kernel_of ∙ n_is) less in
        let e = ap (λ (l : Link). l.sent) (learns.links risen.up q inside) in
        let a = has.sent q (subst (λ k. q < k) (ap (λ (h : Held). h.kernel.n) learns.rest) less) in omega (arith, e, a));
    commit = (let e = ap (λ (h : Held). h.kernel.commit) learns.rest in let a = has.commit in omega (arith, e, a));
  }

-- counts of all in a turn: a commit of all takes one, and the event one
pub counts_fewer : (m k : ℕ) (slots : List (Option Slot)) → k ≤ m → HaveCounts m slots → HaveCounts k slots
counts_fewer m k slots less have q there = counts_less m k (held_in (slot_at slots q)).kernel less (have q there)

module _ (left : ℕ) (some : 0 < left) (b : Bool) (s0 s1 s2 : List (Option Slot)) (first : (m : ℕ) → HaveCounts (m + (if b then 1 else 0)) s0 → HaveCounts m s1) (event : (m : ℕ) → HaveCounts (m + 1) s1 → HaveCounts m s2) (have : HaveCounts (2 * left) s0) where
  pub counts_mid : HaveCounts (2 * left - 1) s1
  counts_mid = by_bool b first
    where
      by_bool : (x : Bool) → ((m : ℕ) → HaveCounts (m + (if x then 1 else 0)) s0 → HaveCounts m s1) → HaveCounts (2 * left - 1) s1
      by_bool true step = step (2 * left - 1) (counts_fewer (2 * left) (2 * left - 1 + 1) s0 (omega (arith, some)) have)
      by_bool false step = step (2 * left - 1) (counts_fewer (2 * left) (2 * left - 1 + 0) s0 (omega (arith, some)) have)

  pub counts_gone : (a : Bool) → (b ≡ true → a ≡ false) → HaveCounts (2 * (left - 1) + (if a then 1 else 0)) s2
  counts_gone false once = event (2 * (left - 1) + 0) (counts_fewer (2 * left - 1) (2 * (left - 1) + 0 + 1) s1 (omega (arith, some)) counts_mid)
  counts_gone true once = by_bool b refl first
    where
      by_bool : (x : Bool) → b ≡ x → ((m : ℕ) → HaveCounts (m + (if x then 1 else 0)) s0 → HaveCounts m s1) → HaveCounts (2 * (left - 1) + 1) s2
      by_bool true e step = absurd (true≢false (once e))
      by_bool false e step = event (2 * (left - 1) + 1) (step (2 * (left - 1) + 1 + 1) (counts_fewer (2 * left) (2 * (left - 1) + 1 + 1 + 0) s0 (omega (arith, some)) have))

-- where one is up all are fit, and where one is down all are down
module _ {C D : Type 0} (g : checkpoint.Ghosts C D) (turns : ℕ) (stores : List C) (dev : D) (slots : List (Option Slot)) (long : length stores ≡ length slots) (ready : AreReady g turns stores dev slots) (p : ℕ) (less : p < length slots) where
  pub ready_up : is_up (slot_at slots p) ≡ true → AreFit g stores dev slots × HaveCounts (2 * turns) slots
  ready_up on = ⊎_elim (λ fit. fit) (λ down. absurd (true≢false (sym on ∙ (down_each g stores dev slots long down p less).0))) ready

  pub ready_down : is_up (slot_at slots p) ≡ false → AreDown g stores dev slots
  ready_down off = ⊎_elim (λ fit. absurd (true≢false (sym (fit_up g stores dev slots long fit.0 p less) ∙ off))) (λ down. down) ready
