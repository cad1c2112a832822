-- A process that goes on after a commit of all as it did before: it makes the same call, and shows the same.
use Rattle.std.proofs.Common.{◌≡◌, ◌∙◌, ◌≤◌, ℕ, List, Option, None, Some, IfSome, sym, ap, subst, arith, length}
use Rattle.dc_calls.specs.declared.call.Call.{Call}
use Rattle.dc_calls.specs.declared.call.Call.TheVariants as calls
use Rattle.dc_checkpoint.specs.declared.checkpoint.Checkpoint as checkpoint
use Rattle.dc_guest.specs.Answers.{effect_of}
use Rattle.dc_guest.specs.Guest.{Guest, event_of, machine_over, next_of, over}
use Rattle.dc_guest.specs.Nexts.{called_by}
use Rattle.dc_kernel.specs.Kernels.{Kernel}
use Rattle.dc_links.specs.Links.{link_to}
use Rattle.dc_media.specs.Told.{Becomes}
use Rattle.dc_proc.specs.Processes.{has_ended}
use Rattle.dc_proc.specs.Turns.{shown_of}
use Rattle.dc_proc.specs.Ups.{IsFit, IsWhole}
use Rattle.dc_proc.specs.declared.shown.Shown.{Shown}
use Rattle.dc_proc.specs.declared.up.Up.{Up as Process}
use Rattle.dc_processes.proofs.Allowing.{where_told}
use Rattle.dc_processes.proofs.Slots.{up_same}
use Rattle.dc_processes.proofs.Telling.{told_at}
use Rattle.dc_words.specs.Words.{bytes_in}
use Rattle.dc_processes.specs.Answers.{HasCallRoom}
use Rattle.dc_together.specs.Joints.{GoesAlike}
use Rattle.dc_processes.specs.Taking.{MakesCall, ShowsNext}
use Rattle.dc_processes.specs.declared.slot.Slot.{Slot}
use Rattle.dc_processes.specs.declared.slot.Slot.TheVariants.{Up}
use Rattle.dc_elf.specs.Images.{Image}
use Rattle.dc_model.specs.Guests.{Answer}
use Rattle.dc_model.specs.Process.{shown}
use Rattle.dc_model.specs.declared.mark.Mark.{Mark}
use Rattle.dc_model.specs.declared.visible.Visible.{Visible}
use Rattle.dc_proc.specs.Carried.{system}
use Rattle.dc_processes.proofs.Telling.{shown_is}
use Rattle.dc_processes.specs.Slots.{slot_at}
use Rattle.dc_processes.specs.Stages.{IsTold, IsWorld, Stage, store_of}
use Rattle.dc_processes.specs.Turns.{lines_of}
use Rattle.dc_recovery.specs.Core.{Core, stands}
use Rattle.dc_together.proofs.Owns.{here_going}
use Rattle.dc_together.specs.Together.{AllGo, ShowsTold}
use Rattle.std.proofs.Common.{◌<◌, IsSome, length, refl}
use Rattle.dc_processes.proofs.Beside.{some_there}
use Rattle.dc_together.proofs.Fitting.{fit_there}
use Rattle.dc_together.proofs.Joining.{told_same}
use Rattle.dc_together.proofs.Leading.{Leads, told_later}
use Rattle.dc_together.specs.Joints.{AllBelong, AreFit}
use Rattle.dc_twophase.proofs.Pairs.{known}
use Rattle.dc_twophase.specs.Commits.{IsSameMemory}
use Rattle.dc_twophase.specs.Stores.{At, EachPair}

-- a memory that is told now was told so
pub told_before : (old new : Option (List ℕ)) (words : List ℕ) → Becomes old new (λ b a. a ≡ b) → new ≡ Some words → old ≡ Some words
told_before old None words same e = absurd (let n : ⊥ = cc in n)
told_before None (Some a) words same e = absurd same
told_before (Some b) (Some a) words same e = ap Some (sym same) ∙ e

module _ (u v : Process) (whole_old : IsWhole u) (whole_new : IsWhole v) (alike : GoesAlike (Some (Up u)) (Some (Up v))) where
  number : v.guest.number ≡ u.guest.number
  number = whole_new.number ∙ alike.p_same ∙ sym whole_old.number

  count : v.guest.count ≡ u.guest.count
  count = whole_new.count ∙ alike.n_same ∙ sym whole_old.count

  pub ended_same : v.guest.ended ≡ u.guest.ended
  ended_same = whole_new.ended ∙ ap has_ended alike.status_same ∙ sym whole_old.ended

  pub over_same : (words : List ℕ) → over v.guest words ≡ over u.guest words
  over_same words = λ i. record { number = number i; count = count i; machine = record { registers = alike.registers_same i; pc = alike.pc_same i; memory = bytes_in words }; ended = ended_same i }

room_less : (k l : Kernel) (call : Option Call) → ((q : ℕ) → length (link_to l.links q).kept ≤ length (link_to k.links q).kept) → HasCallRoom k call → HasCallRoom l call
room_less k l None less room = tt
room_less k l (Some (calls.Exit code)) less room = tt
room_less k l (Some (calls.Output from count)) less room = tt
room_less k l (Some (calls.Input to size)) less room = tt
room_less k l (Some calls.Clock) less room = tt
room_less k l (Some calls.Random) less room = tt
room_less k l (Some (calls.Send q from count)) less room = let m = less q in omega (arith, m, room)
room_less k l (Some (calls.Receive to size)) less room = tt
room_less k l (Some calls.Number) less room = tt
room_less k l (Some calls.BadArgument) less room = tt
room_less k l (Some calls.Unknown) less room = tt

module _ {C D : Type 0} (g : checkpoint.Ghosts C D) (c0 c1 : C) (d0 d1 : D) (s0 s1 : Option Slot) (call : Option Call) (makes : MakesCall g c0 d0 s0 call) (v : Process) (there : s1 ≡ Some (Up v)) (fit : IsFit g v c1 d1)
    (alike : GoesAlike s0 s1) (memory : Becomes (g.contents c0 d0) (g.contents c1 d1) (λ b a. a ≡ b)) where
  both : GoesAlike (Some (Up makes.up)) (Some (Up v))
  both = subst (GoesAlike (Some (Up makes.up))) there (subst (λ s. GoesAlike s s1) makes.there alike)

  pub makes_alike : MakesCall g c1 d1 s1 call
  makes_alike = record {
    up = v;
    there = there;
    fit = fit;
    runs = ended_same makes.up v makes.fit.whole fit.whole both ∙ makes.runs;
    room = room_less makes.up.kernel v.kernel call both.kept_less makes.room;
    found = where_told (λ ws. call ≡ called_by (next_of (over v.guest ws))) (g.contents c1 d1) (λ words told. told_at (λ ws. call ≡ called_by (next_of (over makes.up.guest ws))) (g.contents c0 d0) words (told_before (g.contents c0 d0) (g.contents c1 d1) words memory told) makes.found
        ∙ ap (λ x. called_by (next_of x)) (sym (over_same makes.up v makes.fit.whole fit.whole both words)));
  }

  -- what it shows after it is what it shows before, where its memory is told
  pub shows_alike : (done : Option Shown) (words : List ℕ) → g.contents c0 d0 ≡ Some words → g.contents c1 d1 ≡ Some words → ShowsNext g c1 d1 s1 done → ShowsNext g c0 d0 s0 done
  shows_alike done words told0 told1 shows u at =
      let same : makes.up ≡ u = up_same makes.up u (sym makes.there ∙ at) in
      subst (λ (x : Process). IfSome (g.contents c0 d0) (λ ws. done ≡ shown_of (effect_of (event_of (next_of (over x.guest ws)) (machine_over x.guest ws))) x.kernel.visible)) same
      (subst (λ o. IfSome o (λ ws. done ≡ shown_of (effect_of (event_of (next_of (over makes.up.guest ws)) (machine_over makes.up.guest ws))) makes.up.kernel.visible)) (sym told0)
      (told_at (λ ws. done ≡ shown_of (effect_of (event_of (next_of (over v.guest ws)) (machine_over v.guest ws))) v.kernel.visible) (g.contents c1 d1) words told1 (shows v there)
      ∙ ap (λ (x : Guest). shown_of (effect_of (event_of (next_of x) x.machine)) v.kernel.visible) (over_same makes.up v makes.fit.whole fit.whole both words)
      ∙ ap (shown_of (effect_of (event_of (next_of (over makes.up.guest words)) (machine_over makes.up.guest words)))) both.visible_same))

-- in a world that stands for a core, where the memory is told, so many lines are shown
pub lines_told : {C D : Type 0} (g : checkpoint.Ghosts C D) (old : Stage C D) (images : List Image) (c : Core) (a : Answer) {mark : Mark} {lines : Option Visible} (told : IsTold g old) (go : AllGo (system images old.inputs old.protocol) c) (p : ℕ)
    (inside : p < (system images old.inputs old.protocol).guests.count) (world : IsWorld g (system images old.inputs old.protocol) c old) (x : C) (at : store_of old p ≡ Some x) (call : Option Call) (next : MakesCall g x old.dev (slot_at old.slots p) call)
    (words : List ℕ) → g.contents x old.dev ≡ Some words → ShowsTold g old p mark lines
    → length (shown (system images old.inputs old.protocol).guests p (stands (system images old.inputs old.protocol).guests c p) a) ≡ length (lines_of lines)
lines_told g old images c a told go p inside world x at call next words memory shows =
    let u = next.up in
    let here = here_going g (system images old.inputs old.protocol) c old go world p inside x at u next.there words memory in
    let showed = told_at (λ ws. shows.done ≡ shown_of (effect_of (event_of (next_of (over u.guest ws)) (machine_over u.guest ws))) u.kernel.visible) (g.contents x old.dev) words memory (shows.showed told x at u next.there) in
    ap (λ vs. length vs) (shown_is images old.inputs old.protocol p _ (c.procs p) words u next.fit.whole here next.runs a (called_by (next_of (over u.guest words))) shows.done refl showed) ∙ ap (λ v. length (lines_of v)) (sym shows.shown_is)

-- what is shown after a commit of all is what was to be shown before it, where the devices are told
module _ {C D : Type 0} (g : checkpoint.Ghosts C D) (told_contents : (x : C) (dev : D) → g.ready x dev → g.told dev (g.index x) → IsSome (g.contents x dev)) {old mid : Stage C D} (leads : Leads g old mid) (p : ℕ) (inside : p < length old.slots)
    (stored : length old.stores ≡ length old.slots) (belongs : AllBelong g (length old.slots) old.stores) (call : Option Call) (z : C) (at : store_of old p ≡ Some z) (next : MakesCall g z old.dev (slot_at old.slots p) call) (told : IsTold g old) where
  pub memory_told : (ws : List ℕ) × (g.contents z old.dev ≡ Some ws)
  memory_told = some_there (g.contents z old.dev) (told_contents z old.dev next.fit.ready (subst (g.told old.dev) (sym (belongs p z at).index_is) (told.told p inside)))

  pub shows_told : AreFit g mid.stores mid.dev mid.slots → GoesAlike (slot_at old.slots p) (slot_at mid.slots p) → EachPair old.stores mid.stores (λ i. IsSameMemory g old.dev mid.dev) → (done : Option Shown)
      → At p mid.stores (λ x. ShowsNext g x mid.dev (slot_at mid.slots p) done) → ShowsNext g z old.dev (slot_at old.slots p) done
  shows_told fit alike memory done shows =
      let x = known mid.stores p (subst (λ m. p < m) (sym (leads.as_many ∙ stored)) inside) in
      let f = fit_there g x.0 mid.dev (slot_at mid.slots p) (fit p x.0 x.1) in
      let index : g.index x.0 ≡ p = (leads.same p z x.0 at x.1).index_same ∙ (belongs p z at).index_is in
      let device = subst (g.told mid.dev) (sym index) ((told_later leads told).told p (subst (λ m. p < m) (sym leads.long) inside)) in
      let kept = memory p z x.0 at x.1 in
      shows_alike g z x.0 old.dev mid.dev (slot_at old.slots p) (slot_at mid.slots p) call next f.up f.there f.fit alike kept done memory_told.0 memory_told.1
      (told_same (g.contents z old.dev) (g.contents x.0 mid.dev) memory_told.0 kept memory_told.1 (told_contents x.0 mid.dev f.fit.ready device)) (shows x.0 x.1)
