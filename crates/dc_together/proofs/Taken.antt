-- One process's event where all commit together: what the call for its store leaves of all, whole or refused.
use Rattle.dc_checkpoint.specs.Handles.{IsSame, same_start}
use Rattle.std.proofs.Common.{◌≡◌, ◌≢◌, ◌∙◌, ◌<◌, ◌≤◌, ◌+◌, ◌-◌, ◌*◌, ◌^◌, ◌&&◌, ℕ, List, true, Option, Some, IfSome, IsSomeAnd, if◌then◌else◌, is_some, nat_lt, ap, arith, length, refl, slice_get, slice_index, slice_set, subst, sym}
use Rattle.std.proofs.lemmas.List.{length-set}
use Rattle.std.proofs.lemmas.Option.{slice_get_within}
use Rattle.dc_acts.specs.Counted.{acts_of}
use Rattle.dc_checkpoint.specs.declared.checkpoint.Checkpoint as checkpoint
use Rattle.dc_events.specs.Kinds.{kind_of}
use Rattle.dc_guest.specs.Answers.{effect_of, may_answer}
use Rattle.dc_guest.specs.Nexts.{called_by}
use Rattle.dc_model.specs.Runs.{own}
use Rattle.dc_model.specs.FailureFree.{reported}
use Rattle.dc_words.specs.Lists.{lists_of}
use Rattle.dc_proc.proofs.Ruling.{event_is}
use Rattle.dc_proc.specs.Carried.{process, system}
use Rattle.dc_proc.specs.Processes.{IsAt}
use Rattle.dc_proc.specs.Ups.{held}
use Rattle.dc_protocols.specs.Rules.{is_joint}
use Rattle.dc_recovery.proofs.Single.{acts_alone}
use Rattle.dc_recovery.proofs.Worlds.{own_more_other}
use Rattle.dc_recovery.specs.Alone.{answers_alone, event_alone}
use Rattle.dc_recovery.specs.Core.{learned}
use Rattle.dc_recovery.specs.Parts.Place.{InEvent}
use Rattle.dc_recovery.specs.Saves.{last_at}
use Rattle.dc_recovery.specs.Turned.{has_act}
use Rattle.dc_guest.specs.Guest.{event_of, machine_over, next_of, over}
use Rattle.dc_proc.specs.Events.{HasCountsFor}
use Rattle.dc_proc.specs.Turns.{StopsTurn, TakesTurn, acts_with, shown_of}
use Rattle.dc_twophase.proofs.Calling.{One, call_at, call_each, pair_at}
use Rattle.dc_twophase.proofs.Laws.{Laws}
use Rattle.dc_twophase.proofs.Pairs.{before_it}
use Rattle.dc_processes.proofs.Acts.{acts_turned}
use Rattle.dc_processes.proofs.Beside.{leaves_narrow, numbers_stay, some_and, some_there, steady_stays}
use Rattle.dc_together.proofs.Downed.{world_broken}
use Rattle.dc_together.proofs.Happened.{event_place, learned_stopped, world_happened}
use Rattle.dc_together.proofs.Joining.{one_number}
use Rattle.dc_processes.proofs.Outputs.{last_stays}
use Rattle.dc_together.proofs.Owns.{here_going, over_going}
use Rattle.dc_processes.proofs.Telling.{exposes_output, exposes_shown, told_at}
use Rattle.dc_together.proofs.Fitting.{down_at, fit_at, fit_still, fit_there, own_apart, up_there}
use Rattle.dc_processes.proofs.Handling.{counts_held, counts_less, counts_up}
use Rattle.dc_together.specs.Joints.{IsFitAt}
use Rattle.dc_processes.proofs.Slots.{put_other, put_same, well_put}
use Rattle.dc_processes.specs.Slots.{Falls, IsOf, based_in, held_in, is_up, size_in, slot_at}
use Rattle.dc_processes.specs.Stages.{numbers_of, stage_of, store_of}
use Rattle.dc_together.specs.Together.{after_broken_event}
use Rattle.dc_processes.specs.Turns.{later}
use Rattle.dc_processes.specs.declared.processes.Processes.{Processes}
use Rattle.dc_processes.specs.declared.slot.Slot.TheVariants.{Up}
use Rattle.dc_processes.specs.declared.slot.Slot.{Slot}
use Rattle.dc_model.specs.Guests.{Answer}
use Rattle.dc_twophase.proofs.Calling.{Stood, stores_after}
use Rattle.dc_twophase.specs.Stores.{EachPair}
use Rattle.dc_processes.proofs.Allowing.{MayAt}
use Rattle.dc_processes.specs.Taking.{HasTaken, attempt}
use Rattle.dc_processes.specs.Processes.{IsWell}
use Rattle.dc_checkpoint.specs.Calls.{on}
use Rattle.dc_processes.specs.Stages.{Stage, IsTold, IsWorld}
use Rattle.dc_together.specs.Together.{AllGo}
use Rattle.dc_elf.specs.Images.{Image}
use Rattle.dc_recovery.specs.Systems.{System}
use Rattle.dc_guest.specs.Guest.{Guest}
use Rattle.dc_recovery.specs.Core.{Core}
use Rattle.std.proofs.Common.{OnOk, OnErr}
use Rattle.std.proofs.Common.{Result, Ok, Err, IfOk, IsSome, max}
use Rattle.dc_model.specs.declared.act.Taken.{Taken}
use Rattle.dc_model.specs.declared.mark.Mark.{Mark}
use Rattle.dc_model.specs.declared.visible.Visible.{Visible}
use Rattle.dc_processes.proofs.Marking.{some_shown}
use Rattle.dc_proc.specs.declared.up.Up.{Up as Process}
use Rattle.dc_checkpoint.specs.declared.faults.CheckFault.{CheckFault}
use Rattle.dc_checkpoint.specs.Calls.{IsCall, FallsStore}
use Rattle.dc_checkpoint.specs.Handles.{showing_of}
use Rattle.dc_together.specs.Joints.{AllBelong, AreFit, AreDown, HaveCounts}
use Rattle.dc_together.proofs.Fitting.{by_other, each_set}
use Rattle.dc_together.proofs.Downed.{leaves_fell, numbers_fell, steady_fell}
use Rattle.dc_recovery.specs.Alone.{IsAnswerAlone}
use Rattle.dc_together.specs.Together.{after_event}
use Rattle.dc_recovery.specs.Parts.{may_store}
use Rattle.dc_recovery.specs.Answers.{stores_at}
use Rattle.dc_recovery.specs.Core.{stands}
use Rattle.dc_model.specs.Process.{comes}
use Rattle.dc_proc.specs.Turns.{IsShown, IsStopped, Written}

-- what the call needs, and what it says
pub record Takes {C D : Type 0} (g : checkpoint.Ghosts C D) (one : One C D) (w : Processes) (a : Answer) (slot : Option Slot) (acts : List Taken) (shown : Option Visible) (result : Result Mark CheckFault) : Type 0 where
  pub laws : Laws g
  pub well : IsWell w
  pub process : one.k < length w.slots.items
  pub long : length one.stores ≡ length w.slots.items
  pub belongs : AllBelong g (length w.slots.items) one.stores
  pub fit : AreFit g one.stores one.old w.slots.items
  pub stood : Stood one
  pub may : MayAt g one.before one.old a (slot_at w.slots.items one.k)
  pub taken : HasTaken g (on one.before one.old) (on one.after one.new) (attempt w.entries a w.acts.items acts shown) result may.up slot
  pub call : IsCall (showing_of g) (on one.before one.old) (on one.after one.new) result

module _ {C D : Type 0} {g : checkpoint.Ghosts C D} {one : One C D} {w : Processes} {a : Answer} {slot : Option Slot} {acts : List Taken} {shown : Option Visible} {result : Result Mark CheckFault} (is : Takes g one w a slot acts shown result) where
  abbrev slots1 : List (Option Slot)
  slots1 = slice_set w.slots.items one.k slot

  abbrev u0 : Process
  u0 = is.may.up

  abbrev u1 : Process
  u1 = is.taken.up

  index_of : (q : ℕ) (x : C) → slice_get one.stores q ≡ Some x → g.index x ≡ q
  index_of q x at = (is.belongs q x at).index_is

  -- the stores of others are as they were
  beside : (q : ℕ) (x : C) → slice_get one.stores q ≡ Some x → one.k ≢ q → g.untouched one.old one.new (g.index x)
  beside q x at ne = is.call.touches.others (g.index x) (λ e. ne (sym (index_of one.k one.before is.stood) ∙ sym e ∙ index_of q x at))

  pub stores_taken : EachPair one.stores (stores_after one) (λ i. IsSame g)
  stores_taken = call_each g (IsSame g) (slice_get_within one.stores one.k one.before is.stood) (own_apart g (length w.slots.items) one.stores is.belongs)
      (call_at one g is.stood is.call.touches.others is.call.touches.continues) (λ b still. same_start b) (pair_at one (IsSame g) is.stood is.call.touches.same)

  is_of : IsOf w.protocol (length w.slots.items) one.k (Up u0)
  is_of = is.well.each one.k (Up u0) is.process is.may.there

  -- its slot, and each other
  slot_self : slot_at slots1 one.k ≡ Some (Up u1)
  slot_self = put_same w.slots.items one.k slot is.process ∙ is.taken.there

  slot_other : (q : ℕ) → one.k ≢ q → slot_at slots1 q ≡ slot_at w.slots.items q
  slot_other q ne = put_other w.slots.items one.k q slot (λ e. ne (sym e))

  slots_long : length slots1 ≡ length w.slots.items
  slots_long = length-set w.slots.items one.k slot

  sized : size_in (Some (Up u1)) ≡ 4 * g.size one.after
  sized = is.taken.same.size_same ∙ is.may.may.fit.sized ∙ ap (λ n. 4 * n) (sym is.call.touches.same.size_same)

  -- with these slots processes are well
  pub well_taken : (w2 : Processes) → w2.slots.items ≡ slots1 → w2.protocol ≡ w.protocol → w2.inputs ≡ w.inputs → length w2.exposed.items ≡ length w.exposed.items → IsWell w2
  well_taken w2 slots = well_put w w2 one.k (Up u1) is.well is.process (is.taken.whole, is.taken.same.n_same ∙ is_of.1, is.taken.same.p_same ∙ is_of.2, is.taken.same.protocol_same ∙ is_of.3)
      (slots ∙ ap (slice_set w.slots.items one.k) is.taken.there)

  -- refused, each has what it needs to fall
  pub down_taken : (stores2 : List C) → length stores2 ≡ length (stores_after one) → EachPair (stores_after one) stores2 (λ i. FallsStore (showing_of g)) → (slots2 : List (Option Slot))
      → ((q : ℕ) → q < length slots1 → Falls (slot_at slots1 q) (slot_at slots2 q)) → AreDown g stores2 one.new slots2
  down_taken stores2 as_many fell slots2 falls q x at =
      let b = before_it (stores_after one) stores2 q x as_many at in
      let less : q < length slots1 = subst (λ k. q < k) (as_many ∙ length-set one.stores one.k one.after ∙ is.long ∙ sym slots_long) (slice_get_within stores2 q x at) in
      let ready = each_set one.stores one.k one.after (λ i z. g.lent z one.new × (is_up (slot_at slots1 i) ≡ true) × (size_in (slot_at slots1 i) ≡ 4 * g.size z))
      (is.call.touches.lent, ap is_up slot_self, ap size_in slot_self ∙ sized)
      (λ i z there ne. let f = fit_there g z one.old (slot_at w.slots.items i) (is.fit i z there) in let up : slot_at slots1 i ≡ Some (Up f.up) = slot_other i ne ∙ f.there in
      (is.laws.lent_still z one.old one.new (beside i z there ne) f.fit.lent, ap is_up up, ap size_in up ∙ f.fit.sized)) q b.0 b.1 in
      down_at g b.0 x one.new (slot_at slots1 q) (slot_at slots2 q) (falls q less) (up_there (slot_at slots1 q) ready.1) (fell q b.0 x b.1 at) ready.0 ready.2

  -- what is said of an Ok
  so : {X : Type 0} (mark : Mark) → result ≡ Ok mark → OnOk result X → X
  so {X} _ is_ok = subst (λ r. OnOk r X) is_ok

  -- so each is fit, with one count less
  module _ (mark : Mark) (is_ok : result ≡ Ok mark) (slots2 : List (Option Slot)) (slots_are : slots2 ≡ slots1) where
    now_self : slot_at slots2 one.k ≡ Some (Up u1)
    now_self = ap (λ xs. slot_at xs one.k) slots_are ∙ slot_self

    now_other : (q : ℕ) → one.k ≢ q → slot_at slots2 q ≡ slot_at w.slots.items q
    now_other q ne = ap (λ xs. slot_at xs q) slots_are ∙ slot_other q ne

    pub fit_taken : g.ready one.after one.new → AreFit g (stores_after one) one.new slots2
    fit_taken ready = each_set one.stores one.k one.after (λ q x. IsFitAt g x one.new (slot_at slots2 q))
        (fit_at g one.after one.new (slot_at slots2 one.k) u1 now_self (record { lent = is.call.touches.lent; ready = ready; sized = sized; paired = so mark is_ok is.taken.paired; whole = is.taken.whole }))
        (λ q x at ne. subst (IsFitAt g x one.new) (sym (now_other q ne)) (fit_still g is.laws x one.old one.new (slot_at w.slots.items q) (beside q x at ne) (is.fit q x at)))

    pub counts_taken : (m : ℕ) → HaveCounts (m + 1) w.slots.items → HaveCounts m slots2
    counts_taken m have q less = by_other one.k (λ y. y < length w.slots.items → HasCountsFor m (held_in (slot_at slots2 y)).kernel)
        (λ there. subst (λ s. HasCountsFor m (held_in s).kernel) (sym now_self) (counts_up u1 m (so mark is_ok is.taken.counts m (counts_held u0 (m + 1) (subst (λ s. HasCountsFor (m + 1) (held_in s).kernel) is.may.there (have one.k there))))))
        (λ y ne there. subst (λ s. HasCountsFor m (held_in s).kernel) (sym (now_other y ne)) (counts_less (m + 1) m (held_in (slot_at w.slots.items y)).kernel (omega arith) (have y there)))
        q (subst (λ k. q < k) (ap (λ xs. length xs) slots_are ∙ slots_long) less)

  -- in a world that stands for a core
  module _ (told_contents : (x : C) (dev : D) → g.ready x dev → g.told dev (g.index x) → IsSome (g.contents x dev)) (some_number : (x : C) (dev : D) → g.told dev (g.index x) → (e : ℕ) × g.numbers x dev e)
      (images : List Image) (core : Core) (together : is_joint w.protocol ≡ true) (told : IsTold g (stage_of one.stores one.old w)) (go : AllGo (system images (lists_of w.inputs.items) w.protocol) core)
      (inside : one.k < (system images (lists_of w.inputs.items) w.protocol).guests.count) (given : IsAnswerAlone (system images (lists_of w.inputs.items) w.protocol).guests one.k (own one.k core.acts) (core.procs one.k) a)
      (world : IsWorld g (system images (lists_of w.inputs.items) w.protocol) core (stage_of one.stores one.old w)) where
    abbrev S : System Guest
    S = system images (lists_of w.inputs.items) w.protocol

    abbrev old : Stage C D
    old = stage_of one.stores one.old w

    abbrev mid : Stage C D
    mid = stage_of (stores_after one) one.new w

    -- its device, its memory, and a decided number
    device : g.told one.old (g.index one.before) × (g.stops one.old (g.index one.before) < 2 ^ 64 - 1) × (g.faults one.old (g.index one.before) < 2 ^ 64 - 1)
    device = subst (λ i. g.told one.old i × (g.stops one.old i < 2 ^ 64 - 1) × (g.faults one.old i < 2 ^ 64 - 1)) (sym (index_of one.k one.before is.stood)) (told.told one.k is.process, told.stops one.k is.process, told.faults one.k is.process)

    words : (ws : List ℕ) × (g.contents one.before one.old ≡ Some ws)
    words = some_there (g.contents one.before one.old) (told_contents one.before one.old is.may.may.fit.ready device.0)

    number : (n : ℕ) × numbers_of g old n
    number = one_number g told_contents some_number S together core old world told is.long is.belongs is.fit is.well.some

    joint : is_joint u0.protocol ≡ true
    joint = ap is_joint is_of.3 ∙ together

    here : IsAt S one.k (own one.k core.acts) (core.procs one.k) words.0 (held u0)
    here = here_going g S core old go world one.k inside one.before is.stood u0 is.may.there words.0 words.1

    -- the decided numbers, and what its store leaves under them
    held_by : (n : ℕ) → numbers_of g old n → ((held_in (slot_at w.slots.items one.k)).kernel.commit ≡ max (world.decided together).least n) × (g.floor one.before ≤ n)
    held_by n counts = let h = (world.decided together).held n one.k counts is.process (ap is_up is.may.there) in (h.0, some_and (λ z. g.floor z ≤ n) (store_of old one.k) one.before is.stood h.1)

    fewer : (n : ℕ) → numbers_of g mid n → numbers_of g old n
    fewer = numbers_stay g is.laws old mid one.k one.before one.after refl index_of is.stood is.call.touches.others
        (λ same. (is.taken.steady joint (some_and (λ z. g.steady z one.old) (store_of old 0) one.before (subst (λ y. store_of old y ≡ Some one.before) same is.stood) (world.decided together).steady)).1)

    steady : IsSomeAnd (store_of mid 0) (λ z. g.steady z one.new)
    steady = steady_stays g is.laws old mid one.k one.before one.after refl index_of is.stood is.call.touches.others (λ on. (is.taken.steady joint on).0) (world.decided together).steady

    -- Ok, the world stands for the core after it
    pub happened : (mark : Mark) → result ≡ Ok mark → g.ready one.after one.new → (w2 : Processes) → w2 ≡ record w { slots = w2.slots; acts = w2.acts; exposed = w2.exposed } → w2.slots.items ≡ slots1 → w2.acts.items ≡ acts
        → w2.exposed.items ≡ (if is_some shown && nat_lt (acts_of one.k w.acts.items) (acts_of one.k w2.acts.items) then slice_set w.exposed.items one.k (acts_of one.k w2.acts.items) else w.exposed.items)
        → IsWorld g S (after_event S w.entries core one.k a) (stage_of (stores_after one) one.new w2)
    happened mark is_ok ready w2 rest slots acts_are exposed =
        let calm = so mark is_ok is.call.touches.counts.calm in
        let now = subst (g.told one.new) (sym is.call.touches.same.index_same) (is.call.touches.counts.tells (omega (arith, calm.0, device.1)) (omega (arith, calm.1, device.2)) device.0) in
        let words1 = some_there (g.contents one.after one.new) (told_contents one.after one.new ready now) in
        let shows = subst (λ r. IfOk r (λ m. IsShown u0.kernel.p m shown (λ done. IfSome (g.contents one.before one.old) (λ ws. done ≡ shown_of (effect_of (event_of (next_of (over u0.guest ws)) (machine_over u0.guest ws))) u0.kernel.visible)))) is_ok is.taken.showed in
        let done = shows.done in
        let showed = told_at (λ ws. done ≡ shown_of (effect_of (event_of (next_of (over u0.guest ws)) (machine_over u0.guest ws))) u0.kernel.visible) (g.contents one.before one.old) words.0 words.1 shows.showed in
        let some_is : is_some shown ≡ is_some done = ap (λ (v : Option Visible). is_some v) shows.shown_is ∙ some_shown u0.kernel.p done in
        world_happened g is.laws images old.inputs w.protocol together w.entries core old (stage_of (stores_after one) one.new w2) world go one.k inside one.before one.after is.stood u0 u1 is.may.there words.0 words1.0 words.1 words1.1 a given number.0 number.1
        refl index_of is.call.touches.others (is.taken.narrows joint) fewer
        (subst (λ pr. TakesTurn g pr a (process one.before one.old (held u0)) (process one.after one.new (held u1))) is_of.3 (so mark is_ok is.taken.goes))
        (now_self mark is_ok w2.slots.items slots) (λ q ne. now_other mark is_ok w2.slots.items slots q (λ e. ne (sym e))) is.taken.same.others_same
        (ap (λ xs. length xs) slots ∙ slots_long) (ap (λ (v : Processes). v.protocol) rest) (ap (λ (v : Processes). lists_of v.inputs.items) rest)
        (acts_are ∙ told_at (λ ws. acts ≡ acts_with w.acts.items u0.kernel w.entries a) (g.contents one.before one.old) words.0 words.1 (so mark is_ok is.taken.acts)) (is_some shown)
        (λ _. exposes_shown images old.inputs w.protocol one.k (own one.k core.acts) (core.procs one.k) words.0 u0 is_of.0 here is.may.may.runs a (called_by (next_of (over u0.guest words.0))) done refl showed together ∙ sym some_is)
        is.well.exposed_long exposed (ap (λ (v : Processes). v.lines) rest) (so mark is_ok (is.taken.uncommitted joint)) is.call.floor steady

    -- refused, it was stopped in a part of its turn
    abbrev acts_by : Written
    acts_by = record { before = w.acts.items; more = acts_with w.acts.items u0.kernel w.entries a; after = acts }

    stopped : (why : CheckFault) → result ≡ Err why → IsStopped S (record { p = one.k; answers = own one.k core.acts; st = core.procs one.k }) a (slice_index (held u0).others) (g.leaves one.after one.new number.0) acts_by (held u1).based
    stopped why is_err = subst (λ pr. StopsTurn g pr a (process one.before one.old (held u0)) (process one.after one.new (held u1)) acts_by) is_of.3
        (subst (λ r. OnErr r (StopsTurn g u0.protocol a (process one.before one.old (held u0)) (process one.after one.new (held u1)) acts_by)) is_err is.taken.stopped)
        images old.inputs one.k (own one.k core.acts) (core.procs one.k) number.0 words.0 (held_by number.0 number.1).1 words.1 (over_going g S together core old go world one.k inside one.before is.stood u0 is.may.there words.0 words.1 number.0 number.1) given

    -- that is its event, and where all fell the world stands for the core after it
    pub broken : (why : CheckFault) → result ≡ Err why → (w2 : Processes) → w2 ≡ record w { slots = w2.slots; acts = w2.acts; exposed = w.exposed } → length w2.slots.items ≡ length slots1 → w2.acts.items ≡ acts
        → ((q : ℕ) → q < length slots1 → Falls (slot_at slots1 q) (slot_at w2.slots.items q)) → (stores2 : List C) → length stores2 ≡ length (stores_after one) → EachPair (stores_after one) stores2 (λ i. FallsStore (showing_of g))
        → 0 < w.left → HaveCounts (2 * w.left - 1) w.slots.items
        → ((stores_at S.guests core one.k a && may_store (comes S.guests (stands S.guests core one.k) a) a) ≡ true) × IsWorld g S (after_broken_event w.entries core one.k a) (later 0 (stage_of stores2 one.new w2))
    broken why is_err w2 rest long acts_are falls stores2 as_many fell some have =
        let p = one.k in
        let new = later 0 (stage_of stores2 one.new w2) in
        let d = after_broken_event w.entries core p a in
        let stop = stopped why is_err in
        let place = event_place w.protocol together _ _ (stores_at S.guests core p a) (event_alone S.guests p (own p core.acts) (core.procs p) a) a stop.place stop.somewhere stop.may in
        let kind = told_at (λ ws. may_answer a (kind_of (next_of (over u0.guest ws))) ≡ true) (g.contents one.before one.old) words.0 words.1 is.may.may.kind in
        let written : acts ≡ reported d.acts = stop.written ∙ ap (λ z. if has_act z then acts_by.more else acts_by.before) place.0
        ∙ sym (acts_turned w.entries core p a w.acts.items u0.kernel here.kernel_is.position here.kernel_is.p_is world.acts_are (go.going p).within) in
        let still : (q : ℕ) → last_at S.exposes S.guests q (own q d.acts) ≡ last_at S.exposes S.guests q (own q core.acts) = by_other p (λ q. last_at S.exposes S.guests q (own q d.acts) ≡ last_at S.exposes S.guests q (own q core.acts))
        (ap (last_at S.exposes S.guests p) (acts_alone S w.entries core p a InEvent ∙ ap (answers_alone (own p core.acts) (core.procs p) a) (sym place.0))
        ∙ last_stays S p (own p core.acts) (core.procs p) a stop.place (next_of (over u0.guest words.0)) (machine_over u0.guest words.0) (go.going p).within
        (event_is images old.inputs w.protocol p (own p core.acts) (core.procs p) words.0 u0 is_of.0 here is.may.may.runs a) kind (exposes_output w.protocol) stop.may stop.somewhere)
        (λ q ne. ap (last_at S.exposes S.guests q) (own_more_other S.guests w.entries core p a go.run q ne)) in
        let within : (q : ℕ) → q < S.guests.count → q < length slots1 = λ q less. subst (λ m. q < m) (world.count_is ∙ sym slots_long) less in
        let based : (q s : ℕ) → q < S.guests.count → s < S.guests.count → slice_index (based_in (slot_at w2.slots.items q)) s ≡ learned S.guests core q s = λ q s less there. ap (λ xs. slice_index xs s) (falls q (within q less)).based_same
        ∙ by_other p (λ y. y < S.guests.count → slice_index (based_in (slot_at slots1 y)) s ≡ learned S.guests core y s)
        (λ _. ap (λ z. slice_index (based_in z) s) slot_self ∙ stop.based_is s there ∙ learned_stopped S w.entries core go p a together stop.place place.0 s)
        (λ y ne low. ap (λ z. slice_index (based_in z) s) (slot_other y ne) ∙ world.based_are y s low there) q less in
        let fallen_fewer : (n : ℕ) → numbers_of g new n → numbers_of g old n = λ n counts. fewer n (numbers_fell g (stores_after one) stores2 one.new as_many fell n counts) in
        let left_is : w2.left ≡ w.left = ap (λ (v : Processes). v.left) rest in
        let lines_are : w2.lines ≡ w.lines = ap (λ (v : Processes). v.lines) rest in
        let room = (have p is.process).commit in (
          place.1,
          world_broken g S together core old new world fallen_fewer
              (λ q n counts r leaves. leaves_narrow g is.laws old mid p one.before one.after refl index_of is.stood is.call.touches.others (is.taken.narrows joint) q n (held_by n (fallen_fewer n counts)).1 r (leaves_fell g (stores_after one) stores2 one.new as_many fell q n r leaves))
              (λ q less. (falls q (within q less)).down) based (long ∙ slots_long) (ap (λ (v : Processes). v.protocol) rest) (ap (λ (v : Processes). lists_of v.inputs.items) rest) (ap (λ (v : Processes). v.exposed.items) rest) (omega (arith, lines_are))
              (steady_fell g (stores_after one) stores2 one.new as_many fell steady)
              (λ n counts. let h = (held_by n counts).0 in omega (arith, h, room, left_is, some))
              go w.entries p a (acts_are ∙ written) (λ q less. still q),
        )
