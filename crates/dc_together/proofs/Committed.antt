-- A commit of all, from the texts that are written for it on: what it finds, what it makes of each process and its store, and what it leaves where it was refused.
use Rattle.std.proofs.Common.{◌≡◌, ◌∙◌, ◌/◌, ◌*◌, ◌+◌, ◌-◌, ◌^◌, ◌<◌, ◌≤◌, ℕ, refl, ap, arith, inl, inr, ⊎_elim, length, slice_index, subst, sym, Some}
use Rattle.std.proofs.lemmas.Option.{slice_get_within}
use Rattle.dc_checkpoint.specs.States.{IsSaved, IsText, Reading, number_in}
use Rattle.dc_kernel.specs.Kernels.{IsKernel}
use Rattle.dc_kernel.specs.Layout.{kernel_words}
use Rattle.dc_kernel.specs.Texts.{text_of}
use Rattle.dc_proc.proofs.Texts.{number_is}
use Rattle.dc_twophase.specs.Stores.{text_at}
use Rattle.dc_proc.specs.Events.{HasCountsFor}
use Rattle.dc_twophase.proofs.Pairs.{before_it, known}
use Rattle.dc_together.proofs.Fitting.{alike_after, counts_after, down_at, fit_after, fit_number, fit_there, fit_up, own_form, row_size, up_based, up_there}
use Rattle.dc_proc.specs.Carried.{system}
use Rattle.dc_proc.specs.Processes.{Held, IsCopied}
use Rattle.dc_together.specs.Joints.{numbered, settled, whose}
use Rattle.dc_processes.specs.Processes.{LearnsBelow}
use Rattle.dc_processes.specs.Stages.{leaves_of, memory_of, stage_of, store_of, words_of}
use Rattle.dc_processes.specs.Turns.{later}
use Rattle.dc_processes.specs.Slots.{based_in, held_in, size_in, slot_at}
use Rattle.dc_processes.specs.declared.slot.Slot.TheVariants.{Up}
use Rattle.dc_together.proofs.Acknowledged.{world_committed, world_torn}
use Rattle.dc_processes.proofs.Beside.{and_some, some_and}
use Rattle.dc_together.proofs.Joining.{least_low, number_low, number_next, room_for, told_same, told_words}
use Rattle.std.proofs.Common.{◌⊎◌, List, Option, IsSome, slice_get, true}
use Rattle.dc_checkpoint.specs.Calls.{AreAll, FallsStore}
use Rattle.dc_checkpoint.specs.Handles.{IsSame, showing_of}
use Rattle.dc_checkpoint.specs.declared.checkpoint.Checkpoint as checkpoint
use Rattle.dc_elf.specs.Images.{Image}
use Rattle.dc_guest.specs.Guest.{Guest}
use Rattle.dc_proc.specs.Ups.{IsWhole}
use Rattle.dc_proc.specs.declared.up.Up.{Up as Process}
use Rattle.dc_processes.specs.Processes.{IsWell}
use Rattle.dc_processes.specs.Slots.{Falls}
use Rattle.dc_processes.specs.Stages.{IsTold, IsWorld, Stage}
use Rattle.dc_processes.specs.declared.processes.Processes.{Processes}
use Rattle.dc_processes.specs.declared.slot.Slot.{Slot}
use Rattle.dc_protocols.specs.Rules.{is_joint}
use Rattle.dc_recovery.specs.Core.{Core}
use Rattle.dc_recovery.specs.Parts.{number_after}
use Rattle.dc_recovery.specs.Systems.{System}
use Rattle.dc_together.proofs.Downed.{leaves_fell, numbers_fell, steady_fell}
use Rattle.dc_together.proofs.Fitting.{FitAt}
use Rattle.dc_together.specs.Joints.{AllBelong, AreDown, AreFit, GoesAlike, HaveCounts, IsMade, IsSettled}
use Rattle.dc_together.specs.Together.{AllGo, all_committed, all_torn}
use Rattle.dc_twophase.specs.Commits.{AllNew, AllOld, HasRoom, IsCommitted, IsSameMemory}
use Rattle.dc_twophase.specs.Counts.{IsCalm}
use Rattle.dc_twophase.specs.Stores.{At, AtPair, EachPair, on}
use Rattle.dc_words.specs.Lists.{lists_of}

-- what stands before the stores are called
pub record Writes {C D : Type 0} (g : checkpoint.Ghosts C D) (w : Processes) (stores : List C) (dev : D) (number : ℕ) (slots1 : List (Option Slot)) (words : List ℕ) : Type 0 where
  pub well : IsWell w
  pub long : length stores ≡ length w.slots.items
  pub belongs : AllBelong g (length w.slots.items) stores
  pub fit : AreFit g stores dev w.slots.items
  pub over : (p : ℕ) → p < length w.slots.items → (held_in (slot_at w.slots.items p)).kernel.commit < number
  pub next : (m : ℕ) → ((p : ℕ) → p < length w.slots.items → (held_in (slot_at w.slots.items p)).kernel.commit ≤ m) → number ≤ m + 1
  pub made : (p : ℕ) → p < length w.slots.items → IsMade (numbered number) (slot_at w.slots.items p) (slot_at slots1 p)
  pub slots_long : length slots1 ≡ length w.slots.items
  pub words_long : length words ≡ kernel_words (length w.slots.items) * length w.slots.items
  pub text : (p : ℕ) → p < length w.slots.items → text_at (kernel_words (length w.slots.items)) words p ≡ text_of (numbered number (held_in (slot_at w.slots.items p))).kernel
  pub faultless : (p : ℕ) → p < length w.slots.items → IsText (whose (length w.slots.items) p) (text_at (kernel_words (length w.slots.items)) words p)
  pub kernel : (p : ℕ) → p < length w.slots.items → IsKernel (length w.slots.items) p (numbered number (held_in (slot_at w.slots.items p))).kernel

module _ {C D : Type 0} {g : checkpoint.Ghosts C D} {w : Processes} {stores : List C} {dev : D} {number : ℕ} {slots1 : List (Option Slot)} {words : List ℕ} (is : Writes g w stores dev number slots1 words) where
  abbrev n : ℕ
  n = length w.slots.items

  inside : (i : ℕ) (x : C) → slice_get stores i ≡ Some x → i < n
  inside i x at = subst (λ k. i < k) is.long (slice_get_within stores i x at)

  -- the texts stand in a row
  row : length words / length stores ≡ kernel_words n
  row = let e = is.long in let some = is.well.some in row_size (kernel_words n) (length stores) (length words) (omega (arith, some, e)) (is.words_long ∙ ap (λ k. kernel_words n * k) (sym is.long))

  pub in_row : length words ≡ length words / length stores * length stores
  in_row = is.words_long ∙ ap (λ k. kernel_words n * k) (sym is.long) ∙ ap (λ k. k * length stores) (sym row)

  -- that of each is one that its store takes, under this number
  text_is : (p : ℕ) → p < n → text_at (length words / length stores) words p ≡ text_of (numbered number (held_in (slot_at w.slots.items p))).kernel
  text_is p less = ap (λ k. text_at k words p) row ∙ is.text p less

  pub takes_text : (i : ℕ) (x : C) → slice_get stores i ≡ Some x → IsText (g.form x) (text_at (length words / length stores) words i) × (number_in (text_at (length words / length stores) words i) ≡ number)
  takes_text i x at = (
    subst (λ f. IsText f (text_at (length words / length stores) words i)) (sym (own_form g n i x (is.belongs i x at))) (subst (IsText (whose n i)) (ap (λ k. text_at k words i) (sym row)) (is.faultless i (inside i x at))),
    ap number_in (text_is i (inside i x at)) ∙ number_is (numbered number (held_in (slot_at w.slots.items i))).kernel,
  )

  pub below_number : (i : ℕ) (x : C) → slice_get stores i ≡ Some x → g.number x < number
  below_number i x at = let e = fit_number g stores dev w.slots.items is.long is.fit i x at in let over = is.over i (inside i x at) in omega (arith, e, over)

  -- the stores were called
  module _ (stores1 : List C) (dev1 : D) (as_many : length stores1 ≡ length stores) (same : EachPair stores stores1 (λ i. IsSame g)) (lent : (i : ℕ) (x : C) → slice_get stores1 i ≡ Some x → g.lent x dev1) where
    store_at : (p : ℕ) → p < n → (x : C) × (slice_get stores p ≡ Some x)
    store_at p less = known stores p (subst (λ k. p < k) (sym is.long) less)

    store1_at : (p : ℕ) → p < n → (x : C) × (slice_get stores1 p ≡ Some x)
    store1_at p less = known stores1 p (subst (λ k. p < k) (sym (as_many ∙ is.long)) less)

    fit_at_first : (p : ℕ) (x : C) → slice_get stores p ≡ Some x → FitAt g x dev (slot_at w.slots.items p)
    fit_at_first p x at = fit_there g x dev (slot_at w.slots.items p) (is.fit p x at)

    -- refused, each has what it needs to fall
    pub down_refused : (stores2 : List C) → length stores2 ≡ length stores1 → EachPair stores1 stores2 (λ i. FallsStore (showing_of g)) → (slots2 : List (Option Slot)) → ((q : ℕ) → q < length slots1 → Falls (slot_at slots1 q) (slot_at slots2 q))
        → AreDown g stores2 dev1 slots2
    down_refused stores2 as_many2 fell slots2 falls p x at =
        let b = before_it stores1 stores2 p x as_many2 at in
        let a = before_it stores stores1 p b.0 as_many b.1 in
        let f = fit_at_first p a.0 a.1 in
        let made = is.made p (inside p a.0 a.1) in
        down_at g b.0 x dev1 (slot_at slots1 p) (slot_at slots2 p) (falls p (subst (λ k. p < k) (sym is.slots_long) (inside p a.0 a.1))) (up_there (slot_at slots1 p) made.up) (fell p b.0 x b.1 at)
        (lent p b.0 b.1) (made.size_same ∙ ap size_in f.there ∙ f.fit.sized ∙ ap (λ k. 4 * k) (sym (same p a.0 b.0 a.1 b.1).size_same))

    -- acknowledged, settled and learned
    module _ (slots2 slots3 : List (Option Slot)) (settles : (p : ℕ) → p < length slots1 → IsSettled (slot_at slots1 p) (slot_at slots2 p)) (long2 : length slots2 ≡ length slots1)
        (learns : (p : ℕ) → p < length slots2 → LearnsBelow (length slots2) (λ q. slice_index (based_in (slot_at slots2 q)) p) (slot_at slots2 p) (slot_at slots3 p)) (long3 : length slots3 ≡ length slots2) where
      within1 : (p : ℕ) → p < n → p < length slots1
      within1 p less = subst (λ k. p < k) (sym is.slots_long) less

      within2 : (p : ℕ) → p < n → p < length slots2
      within2 p less = subst (λ k. p < k) (sym long2) (within1 p less)

      pub fit_committed : ((p : ℕ) (v : Process) → p < length slots3 → slot_at slots3 p ≡ Some (Up v) → IsWhole v) → ((i : ℕ) (x : C) → slice_get stores1 i ≡ Some x → IsCommitted g number dev1 x) → AreFit g stores1 dev1 slots3
      fit_committed whole committed p x at =
          let a = before_it stores stores1 p x as_many at in
          let less = inside p a.0 a.1 in
          fit_after g a.0 x dev dev1 number (length slots2) _ (slot_at w.slots.items p) (slot_at slots1 p) (slot_at slots2 p) (slot_at slots3 p) (fit_at_first p a.0 a.1) (is.made p less) (settles p (within1 p less)) (learns p (within2 p less))
          (λ v e. whole p v (subst (λ k. p < k) (sym long3) (within2 p less)) e) (same p a.0 x a.1 at) (lent p x at) (committed p x at)

      pub alike_committed : (p : ℕ) → p < n → GoesAlike (slot_at w.slots.items p) (slot_at slots3 p)
      alike_committed p less = let a = store_at p less in let b = store1_at p less in
          alike_after g a.0 b.0 dev dev1 number (length slots2) _ (slot_at w.slots.items p) (slot_at slots1 p) (slot_at slots2 p) (slot_at slots3 p) (fit_at_first p a.0 a.1) (is.made p less) (settles p (within1 p less)) (learns p (within2 p less))

      pub counts_committed : (m : ℕ) → HaveCounts (m + 1) w.slots.items → HaveCounts m slots3
      counts_committed m have p less3 =
          let less : p < n = subst (λ k. p < k) (long3 ∙ long2 ∙ is.slots_long) less3 in
          let a = store_at p less in
          let b = store1_at p less in
          let was = fit_at_first p a.0 a.1 in
          let low = is.next (2 ^ 32 - 1 - 2 * (m + 1)) (λ q there. (let h = (have q there).commit in omega (arith, h))) in
          let some = (have p less).commit in
          counts_after g a.0 b.0 dev dev1 number (length slots2) _ (slot_at w.slots.items p) (slot_at slots1 p) (slot_at slots2 p) (slot_at slots3 p) was (is.made p less) (settles p (within1 p less)) (learns p (within2 p less)) m
          (subst (λ s. HasCountsFor (m + 1) (held_in s).kernel) was.there (have p less)) ((is.well.each p (Up was.up) less was.there).1 ∙ sym (long2 ∙ is.slots_long)) (omega (arith, low, some))

    -- in a world that stands for a core
    module _ (told_contents : (x : C) (d : D) → g.ready x d → g.told d (g.index x) → IsSome (g.contents x d)) (some_number : (x : C) (d : D) → g.told d (g.index x) → (e : ℕ) × g.numbers x d e)
        (images : List Image) (core : Core) (together : is_joint w.protocol ≡ true) (told : IsTold g (stage_of stores dev w)) (go : AllGo (system images (lists_of w.inputs.items) w.protocol) core)
        (world : IsWorld g (system images (lists_of w.inputs.items) w.protocol) core (stage_of stores dev w)) where
      abbrev S : System Guest
      S = system images (lists_of w.inputs.items) w.protocol

      abbrev old : Stage C D
      old = stage_of stores dev w

      abbrev text : ℕ → List ℕ
      text = text_at (length words / length stores) words

      abbrev memory : ℕ → List ℕ
      memory p = words_of (memory_of g (store_of old p) dev)

      there : (p : ℕ) → p < S.guests.count → p < n
      there p less = subst (λ k. p < k) world.count_is less

      room : HasRoom g number (on stores dev)
      room = room_for g told_contents some_number S together core old world told is.long is.belongs is.fit number is.well.some is.over

      told_old : (p : ℕ) → p < n → memory_of g (store_of old p) dev ≡ Some (memory p)
      told_old p less = told_words g told_contents some_number S together core old world told is.long is.belongs is.fit p less

      least : (world.decided together).least ≤ number
      least = least_low g told_contents some_number S together core old world told is.long is.belongs is.fit number is.well.some is.over

      kernels : (p : ℕ) → p < S.guests.count → IsKernel S.guests.count p (numbered number (held_in (slot_at w.slots.items p))).kernel
      kernels p less = subst (λ k. IsKernel k p (numbered number (held_in (slot_at w.slots.items p))).kernel) (sym world.count_is) (is.kernel p (there p less))

      numbers_after : (p : ℕ) → p < S.guests.count → number ≡ number_after (core.procs p)
      numbers_after = number_next g told_contents some_number S together core old world told is.long is.belongs is.fit number is.well.some is.over is.next (λ p less. (go.going p).up)

      -- what was saved is the memory as it was, with its text
      saved_as : (d p : ℕ) (a : C) → slice_get stores p ≡ Some a → (r : Reading) → IsSaved (g.contents a dev) (text p) r → IsSaved (memory_of g (store_of old p) dev) (text p) r
      saved_as d p a at r = subst (λ o. IsSaved (memory_of g o dev) (text p) r) (sym at)

      first : (x : C) × (slice_get stores 0 ≡ Some x)
      first = store_at 0 is.well.some

      first1 : (x : C) × (slice_get stores1 0 ≡ Some x)
      first1 = store1_at 0 is.well.some

      pub committed : (w2 w3 : Processes) → ((p : ℕ) → p < length slots1 → IsSettled (slot_at slots1 p) (slot_at w2.slots.items p)) → length w2.slots.items ≡ length slots1
          → ((p : ℕ) → p < length w2.slots.items → LearnsBelow (length w2.slots.items) (λ q. slice_index (based_in (slot_at w2.slots.items q)) p) (slot_at w2.slots.items p) (slot_at w3.slots.items p)) → length w3.slots.items ≡ length w2.slots.items
          → w3 ≡ record w { slots = w3.slots; joint = w3.joint } → ((q : ℕ) → IsCalm g dev dev1 q) → EachPair stores stores1 (λ i. IsSameMemory g dev dev1) → ((i : ℕ) (x : C) → slice_get stores1 i ≡ Some x → IsCommitted g number dev1 x)
          → (HasRoom g number (on stores dev) → At 0 stores1 (λ c. AreAll number (g.numbers c dev1))) → (HasRoom g number (on stores dev) → At 0 stores1 (λ c. g.steady c dev1))
          → (HasRoom g number (on stores dev) → At 0 stores1 (λ c. (d : ℕ) → g.numbers c dev1 d → AllNew g text (on stores dev) (on stores1 dev1) d))
          → IsWorld g S (all_committed core) (stage_of stores1 dev1 w3)
      committed w2 w3 settles long2 learns long3 rest calm same_memory are_committed decided steady stands =
          let new = stage_of stores1 dev1 w3 in
          let within : (p : ℕ) → p < S.guests.count → p < length slots1 = λ p less. subst (λ k. p < k) (sym is.slots_long) (there p less) in
          let told_new : (p : ℕ) → p < S.guests.count → memory_of g (store_of new p) dev1 ≡ Some (memory p) = λ p less.
          (let a = store_at p (there p less) in
          let b = store1_at p (there p less) in
          let index : g.index b.0 ≡ p = (same p a.0 b.0 a.1 b.1).index_same ∙ (is.belongs p a.0 a.1).index_is in
          let stops = told.stops p (there p less) in let faults = told.faults p (there p less) in
          let device = (calm p).tells (let e = (calm p).stops_same in omega (arith, stops, e)) (let e = (calm p).faults_same in omega (arith, faults, e)) (told.told p (there p less)) in
          ap (λ o. memory_of g o dev1) b.1 ∙ told_same (g.contents a.0 dev) (g.contents b.0 dev1) (memory p) (same_memory p a.0 b.0 a.1 b.1) (ap (λ o. memory_of g o dev) (sym a.1) ∙ told_old p (there p less))
          (told_contents b.0 dev1 (are_committed p b.0 b.1).ready (subst (g.told dev1) (sym index) device))) in
          world_committed g S together refl core old new world go number text memory (λ p less. told_old p (there p less)) (λ p less. text_is p (there p less)) kernels numbers_after
          (λ p. based_in (slot_at w2.slots.items p)) (λ p. slot_at w2.slots.items p) (long3 ∙ long2 ∙ is.slots_long)
          (λ p less. (settles p (within p less)).made.held_is ∙ ap (settled (based_in (slot_at w2.slots.items p))) (is.made p (there p less)).held_is)
          (λ p less. (settles p (within p less)).made.up)
          (λ p q less low. subst (λ (h : Held). IsCopied h.kernel (based_in (slot_at w2.slots.items p))) (is.made p (there p less)).held_is (settles p (within p less)).copied q (subst (λ k. q < k) (sym (is.kernel p (there p less)).n_is) (there q low)))
          (λ p less. refl)
          (λ p less. subst (λ k. LearnsBelow k (λ q. slice_index (based_in (slot_at w2.slots.items q)) p) (slot_at w2.slots.items p) (slot_at w3.slots.items p)) (long2 ∙ is.slots_long ∙ sym world.count_is) (learns p (subst (λ k. p < k) (sym long2) (within p less))))
          told_new
          (λ d p r counts less left. let a = store_at p (there p less) in let b = store1_at p (there p less) in
          saved_as d p a.0 a.1 r (stands room first1.0 first1.1 d (some_and (λ z. g.numbers z dev1 d) (store_of new 0) first1.0 first1.1 counts) p a.0 b.0 a.1 b.1 r (some_and (λ z. g.leaves z dev1 d r) (store_of new p) b.0 b.1 left)))
          least (ap (λ (v : Processes). v.protocol) rest) (ap (λ (v : Processes). lists_of v.inputs.items) rest) (ap (λ (v : Processes). v.acts.items) rest) (ap (λ (v : Processes). v.exposed.items) rest) (ap (λ (v : Processes). v.lines) rest)
          (and_some (λ z. g.steady z dev1) (store_of new 0) first1.0 first1.1 (steady room first1.0 first1.1))
          (λ d counts. decided room first1.0 first1.1 d (some_and (λ z. g.numbers z dev1 d) (store_of new 0) first1.0 first1.1 counts))
          (λ p less. let b = store1_at p (there p less) in and_some (λ z. g.floor z ≤ number) (store_of new p) b.0 b.1 (are_committed p b.0 b.1).floor)

      pub torn_all : (w2 : Processes) (stores2 : List C) → length stores2 ≡ length stores1 → EachPair stores1 stores2 (λ i. FallsStore (showing_of g)) → ((p : ℕ) → p < length slots1 → Falls (slot_at slots1 p) (slot_at w2.slots.items p)) → length w2.slots.items ≡ length slots1
          → w2 ≡ record w { slots = w2.slots; joint = w2.joint } → 0 < w.left → HaveCounts (2 * w.left - 1) w.slots.items
          → (HasRoom g number (on stores dev) → AtPair 0 stores stores1 (λ b c. (d : ℕ) → g.numbers c dev1 d → (g.numbers b dev d × AllOld g (on stores dev) (on stores1 dev1) d) ⊎ ((d ≡ number) × AllNew g text (on stores dev) (on stores1 dev1) d)))
          → (HasRoom g number (on stores dev) → At 0 stores1 (λ c. g.steady c dev1))
          → IsWorld g S (all_torn core) (later 0 (stage_of stores2 dev1 w2))
      torn_all w2 stores2 as_many2 fell falls long2 rest some have between steady =
          let new = later 0 (stage_of stores2 dev1 w2) in
          let within : (p : ℕ) → p < S.guests.count → p < length slots1 = λ p less. subst (λ k. p < k) (sym is.slots_long) (there p less) in
          let before : (d p : ℕ) (r : Reading) (b : C) → slice_get stores1 p ≡ Some b → leaves_of g new p d r → g.leaves b dev1 d r = λ d p r b at left. some_and (λ z. g.leaves z dev1 d r) (slice_get stores1 p) b at (leaves_fell g stores1 stores2 dev1 as_many2 fell p d r left) in
          let low = is.next (2 ^ 32 - 1 - 2 * (2 * w.left - 1)) (λ q less. (let h = (have q less).commit in omega (arith, h))) in
          let one = (have 0 is.well.some).commit in
          let left_is : w2.left ≡ w.left = ap (λ (v : Processes). v.left) rest in
          let lines_are : w2.lines ≡ w.lines = ap (λ (v : Processes). v.lines) rest in
          world_torn g S together refl core old new world go number text memory (λ p less. told_old p (there p less)) (λ p less. text_is p (there p less)) kernels numbers_after
          (λ d counts. ⊎_elim
          (λ x. inl (
            and_some (λ z. g.numbers z dev d) (store_of old 0) first.0 first.1 x.0,
            λ p r less left. (let a = store_at p (there p less) in let b = store1_at p (there p less) in and_some (λ z. g.leaves z dev d r) (store_of old p) a.0 a.1 (x.1 p a.0 b.0 a.1 b.1 r (before d p r b.0 b.1 left))),
          ))
          (λ x. inr (
            x.0,
            λ p r less left. (let a = store_at p (there p less) in let b = store1_at p (there p less) in saved_as d p a.0 a.1 r (x.1 p a.0 b.0 a.1 b.1 r (before d p r b.0 b.1 left))),
          ))
          (between room first.0 first1.0 first.1 first1.1 d (some_and (λ z. g.numbers z dev1 d) (slice_get stores1 0) first1.0 first1.1 (numbers_fell g stores1 stores2 dev1 as_many2 fell d counts))))
          (λ p less. (falls p (within p less)).down)
          (λ p less. let made = is.made p (there p less) in (falls p (within p less)).based_same ∙ up_based (slot_at slots1 p) made.up ∙ ap (λ (h : Held). h.based) made.held_is
          ∙ sym (up_based (slot_at w.slots.items p) (fit_up g stores dev w.slots.items is.long is.fit p (there p less))))
          least (long2 ∙ is.slots_long) (ap (λ (v : Processes). v.protocol) rest) (ap (λ (v : Processes). lists_of v.inputs.items) rest) (ap (λ (v : Processes). v.acts.items) rest) (ap (λ (v : Processes). v.exposed.items) rest) (omega (arith, lines_are))
          (steady_fell g stores1 stores2 dev1 as_many2 fell (and_some (λ z. g.steady z dev1) (slice_get stores1 0) first1.0 first1.1 (steady room first1.0 first1.1)))
          (omega (arith, low, one, left_is, some))
          (number_low g told_contents some_number S together core old world told is.long is.belongs is.fit number is.well.some is.over)
