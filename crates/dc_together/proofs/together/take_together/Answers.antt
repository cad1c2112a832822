use Rattle.std.proofs.Common.{◌≡◌, ◌∙◌, ◌<◌, ◌+◌, ◌-◌, ◌*◌, Some, ap, arith, if◌then◌else◌, length, rules, slice_get, subst, sym}
use Rattle.std.proofs.lemmas.Result.{err_from_is_err_and}
use Rattle.dc_guest.specs.Answers.{answer_of}
use Rattle.dc_proc.proofs.Texts.{any_err}
use Rattle.dc_proc.specs.Events.{HasCountsFor}
use Rattle.dc_twophase.proofs.Pairs.{known}
use Rattle.dc_processes.proofs.Allowing.{may_turn}
use Rattle.dc_processes.proofs.Handling.{counts_held}
use Rattle.dc_processes.specs.Slots.{held_in, is_up, slot_at}
use Rattle.dc_processes.specs.Stages.{IsTold, stage_of}
use Rattle.dc_processes.specs.Taking.{MayTake, ShowsNext}
use Rattle.dc_processes.specs.Turns.{later, lines_of}
use Rattle.dc_processes.specs.declared.processes.Processes.{Processes}
use Rattle.dc_together.proofs.Alike.{lines_told, makes_alike, memory_told, shows_told}
use Rattle.dc_together.proofs.Composed.{Asks, fell_after, fell_before, fell_event, went_whole}
use Rattle.dc_together.proofs.Fitting.{counts_fewer, counts_gone, counts_mid, fit_there, room_same}
use Rattle.dc_together.proofs.Leading.{Leads, joint_later, leads_of, leads_then, others_later, own_later, same_later}
use Rattle.dc_together.specs.Joints.{HaveCounts, IsRoomFor}
use Rattle.dc_together.proofs.together.take_together.Given.{Over}
use Rattle.dc_together.proofs.together.take_together.Goals.{After-asked-asked, In_ok-commit_if, After-take_event, In_ok-mark}
use Rattle.dc_together.proofs.together.take_together.Goals as goal

-- before it: the process has a store, and the code asks what the theory asks
module _ (g : Over) (c : After-asked-asked g) where
  store : (x : g.row.C.Denot) × (slice_get c.args.stores.now c.args.p ≡ Some x)
  store = known c.args.stores.now c.args.p (subst (λ m. c.args.p < m) (sym c.requires.stores) c.requires.process)

  asks : Asks g.C.Checkpoint (stage_of c.args.stores.now c.args.dev.now c.args.processes.now) c.args.p (answer_of c.args.answer.now) c.asked-asked.result
  asks = record { asked_at = c.asked-asked.ensures.asked; on = ap is_up (c.requires.next store.0 store.1).there }

-- after the commit before the event
module _ (g : Over) (c : In_ok-commit_if g) where
  first : Leads g.C.Checkpoint (stage_of c.args.stores.now c.args.dev.now c.args.processes.now) (stage_of c.commit_if.new.stores c.commit_if.new.dev c.commit_if.new.processes)
  first = leads_of c.args.processes.now c.commit_if.new.processes (search rules) c.commit_if.ensures.long c.commit_if.ensures.as_many c.commit_if.ensures.stores c.commit_if.ensures.others c.in_ok-commit_if.ensures.joint.calm

  counts_first : HaveCounts (2 * c.args.processes.now.left - 1) c.commit_if.new.processes.slots.items
  counts_first = let slots1 = c.commit_if.new.processes.slots.items in
      counts_mid c.args.processes.now.left c.requires.left c.asked-asked.result.before c.args.processes.now.slots.items slots1 slots1 c.in_ok-commit_if.ensures.counts (λ m have. counts_fewer (m + 1) m slots1 (omega arith) have) c.requires.counts

-- after the event, whole or refused
room_event : (g : Over) (c : After-take_event g) → IsRoomFor g.C.Checkpoint c.take_event.new.stores (length c.args.processes.now.slots.items) c.take_event.new.processes.joint
room_event g c = room_same g.C.Checkpoint c.commit_if.new.stores c.take_event.new.stores (length c.args.processes.now.slots.items) c.commit_if.new.processes.joint c.take_event.new.processes.joint c.take_event.ensures.as_many c.take_event.ensures.stores
    (ap (λ (w : Processes). length w.joint.texts.items) c.take_event.ensures.rest) (ap (λ (w : Processes). w.joint.saved) c.take_event.ensures.rest) c.commit_if.ensures.room

-- after the event
module _ (g : Over) (c : In_ok-mark g) where
  begun : Leads g.C.Checkpoint (stage_of c.args.stores.now c.args.dev.now c.args.processes.now) (stage_of c.commit_if.new.stores c.commit_if.new.dev c.commit_if.new.processes)
  begun = leads_of c.args.processes.now c.commit_if.new.processes (search rules) c.commit_if.ensures.long c.commit_if.ensures.as_many c.commit_if.ensures.stores c.commit_if.ensures.others c.in_ok-commit_if.ensures.joint.calm

  second : Leads g.C.Checkpoint (stage_of c.commit_if.new.stores c.commit_if.new.dev c.commit_if.new.processes) (stage_of c.take_event.new.stores c.take_event.new.dev c.take_event.new.processes)
  second = leads_of c.commit_if.new.processes c.take_event.new.processes (search rules) c.take_event.ensures.long c.take_event.ensures.as_many c.take_event.ensures.stores c.take_event.ensures.others c.in_ok-mark.ensures.joint.calm

  two : Leads g.C.Checkpoint (stage_of c.args.stores.now c.args.dev.now c.args.processes.now) (stage_of c.take_event.new.stores c.take_event.new.dev c.take_event.new.processes)
  two = leads_then (g.met.C.Checkpoint.untouched_on c.args.dev.now c.commit_if.new.dev c.take_event.new.dev) begun second

  counts_second : HaveCounts (2 * (c.args.processes.now.left - 1) + (if c.asked-asked.result.after then 1 else 0)) c.take_event.new.processes.slots.items
  counts_second = counts_gone c.args.processes.now.left c.requires.left c.asked-asked.result.before c.args.processes.now.slots.items c.commit_if.new.processes.slots.items c.take_event.new.processes.slots.items
      c.in_ok-commit_if.ensures.counts c.in_ok-mark.ensures.counts c.requires.counts c.asked-asked.result.after (c.asked-asked.ensures.once c.requires.together)

pub asked-asked-requires-clause-next : goal.asked-asked-requires-clause-next
asked-asked-requires-clause-next g c x at = (c.args.call, c.requires.next x at)

pub returns-in_err-commit_if-clause-fell : goal.returns-in_err-commit_if-clause-fell
returns-in_err-commit_if-clause-fell g c =
    let broke = c.in_err-commit_if.ensures in
    any_err c.from_residual.result (fell_before (asks g (goal.at.returns-in_err-commit_if-clause-fell g c).After-asked-asked) (later 0 (stage_of c.commit_if.new.stores c.commit_if.new.dev c.commit_if.new.processes)) broke.due
    (broke.torn (counts_fewer (2 * c.args.processes.now.left) (2 * c.args.processes.now.left - 1) c.args.processes.now.slots.items (omega arith) c.requires.counts)))

pub take_event-requires-clause-belongs : goal.take_event-requires-clause-belongs
take_event-requires-clause-belongs g c = own_later (first g (goal.at.take_event-requires-clause-belongs g c).In_ok-commit_if) c.requires.belongs

pub take_event-requires-clause-may : goal.take_event-requires-clause-may
take_event-requires-clause-may g c x at =
    let G = g.C.Checkpoint in
    let p = c.args.p in
    let slots1 = c.commit_if.new.processes.slots.items in
    let dev1 = c.commit_if.new.dev in
    let left = c.args.processes.now.left in
    let ok = c.in_ok-commit_if.ensures in
    let y = store g (goal.at.take_event-requires-clause-may g c).After-asked-asked in
    let f = fit_there G x dev1 (slot_at slots1 p) (ok.fit p x at) in
    let makes = makes_alike G y.0 x c.args.dev.now dev1 (slot_at c.args.processes.now.slots.items p) (slot_at slots1 p) c.args.call (c.requires.next y.0 y.1) f.up f.there f.fit (ok.alike p c.requires.process) (ok.memory p y.0 x y.1 at) in
    let there : p < length slots1 = subst (λ m. p < m) (sym ok.long) c.requires.process in
    let of = ok.well.each p _ there makes.there in
    let counts : HasCountsFor (2 * left - 1) makes.up.kernel = counts_held makes.up (2 * left - 1) (subst (λ s. HasCountsFor (2 * left - 1) (held_in s).kernel) makes.there (counts_first g (goal.at.take_event-requires-clause-may g c).In_ok-commit_if p there)) in
    subst (MayTake G x dev1 (answer_of c.args.answer.now)) (sym makes.there) (may_turn G (2 * left - 1) x dev1 (slot_at slots1 p) c.args.call (answer_of c.args.answer.now) (length c.args.processes.now.slots.items) p makes counts
    (let l = c.requires.left in omega (arith, l)) (of.1 ∙ ok.long) of.2 c.requires.kind c.requires.plain c.requires.sender)

pub returns-in_err-mark-clause-stores : goal.returns-in_err-mark-clause-stores
returns-in_err-mark-clause-stores g c = same_later (first g (goal.at.returns-in_err-mark-clause-stores g c).In_ok-commit_if) c.take_event.new.stores c.take_event.ensures.stores

pub returns-in_err-mark-clause-room : goal.returns-in_err-mark-clause-room
returns-in_err-mark-clause-room g c = room_event g (goal.at.returns-in_err-mark-clause-room g c).After-take_event

pub returns-in_err-mark-clause-joint : goal.returns-in_err-mark-clause-joint
returns-in_err-mark-clause-joint g c =
    let fault = err_from_is_err_and c.from_residual-in_err-mark.result c.from_residual-in_err-mark.ensures.1 in
    rw (fault.1, fault.2) (joint_later (first g (goal.at.returns-in_err-mark-clause-joint g c).In_ok-commit_if) c.take_event.new.dev _ c.in_err-mark.ensures.joint)

pub returns-in_err-mark-clause-others : goal.returns-in_err-mark-clause-others
returns-in_err-mark-clause-others g c = others_later (first g (goal.at.returns-in_err-mark-clause-others g c).In_ok-commit_if) c.take_event.new.dev (g.met.C.Checkpoint.untouched_on c.args.dev.now c.commit_if.new.dev c.take_event.new.dev) c.take_event.ensures.others

pub returns-in_err-mark-clause-fell : goal.returns-in_err-mark-clause-fell
returns-in_err-mark-clause-fell g c =
    let at = goal.at.returns-in_err-mark-clause-fell g c in
    let f = at.In_ok-commit_if in
    any_err c.from_residual-in_err-mark.result (fell_event (asks g at.After-asked-asked) c.in_ok-commit_if.ensures.goes (first g f) (later 0 (stage_of c.take_event.new.stores c.take_event.new.dev c.take_event.new.processes))
    (c.in_err-mark.ensures.broken (subst (λ k. HaveCounts (2 * k - 1) c.commit_if.new.processes.slots.items) (sym (first g f).left) (counts_first g f))))

pub commit_if-requires-2-clause-belongs : goal.commit_if-requires-2-clause-belongs
commit_if-requires-2-clause-belongs g c = own_later (two g (goal.at.commit_if-requires-2-clause-belongs g c).In_ok-mark) c.requires.belongs

pub commit_if-requires-2-clause-counts : goal.commit_if-requires-2-clause-counts
commit_if-requires-2-clause-counts g c due =
    let left = c.args.processes.now.left in
    let slots2 = c.take_event.new.processes.slots.items in
    counts_fewer (2 * (left - 1) + 1) 1 slots2 (omega arith) (subst (λ b. HaveCounts (2 * (left - 1) + (if b then 1 else 0)) slots2) due (counts_second g (goal.at.commit_if-requires-2-clause-counts g c).In_ok-mark))

pub commit_if-requires-2-clause-room : goal.commit_if-requires-2-clause-room
commit_if-requires-2-clause-room g c = subst (λ m. IsRoomFor g.C.Checkpoint c.take_event.new.stores m c.take_event.new.processes.joint) (sym (c.take_event.ensures.long ∙ c.commit_if.ensures.long)) (room_event g (goal.at.commit_if-requires-2-clause-room g c).After-take_event)

pub returns-in-Err-clause-stores : goal.returns-in-Err-clause-stores
returns-in-Err-clause-stores g c = same_later (two g (goal.at.returns-in-Err-clause-stores g c).In_ok-mark) c.commit_if-2.new.stores c.commit_if-2.ensures.stores

pub returns-in-Err-clause-joint : goal.returns-in-Err-clause-joint
returns-in-Err-clause-joint g c =
    joint_later (two g (goal.at.returns-in-Err-clause-joint g c).In_ok-mark) c.commit_if-2.new.dev _ c.in-Err.ensures.joint

pub returns-in-Err-clause-others : goal.returns-in-Err-clause-others
returns-in-Err-clause-others g c = others_later (two g (goal.at.returns-in-Err-clause-others g c).In_ok-mark) c.commit_if-2.new.dev (g.met.C.Checkpoint.untouched_on c.args.dev.now c.take_event.new.dev c.commit_if-2.new.dev) c.commit_if-2.ensures.others

pub returns-in-Err-clause-fell : goal.returns-in-Err-clause-fell
returns-in-Err-clause-fell g c =
    let at = goal.at.returns-in-Err-clause-fell g c in
    let e = at.In_ok-mark in
    let left = c.args.processes.now.left in
    let slots2 = c.take_event.new.processes.slots.items in
    let broke = c.in-Err.ensures in
    let left_is : c.take_event.new.processes.left ≡ left = (two g e).left in
    let counts : HaveCounts (2 * c.take_event.new.processes.left - 1) slots2 = counts_fewer (2 * (left - 1) + 1) (2 * c.take_event.new.processes.left - 1) slots2 (let l = c.requires.left in omega (arith, l, left_is))
    (subst (λ b. HaveCounts (2 * (left - 1) + (if b then 1 else 0)) slots2) broke.due (counts_second g e)) in
    fell_after (asks g at.After-asked-asked) c.in_ok-commit_if.ensures.goes (begun g e) c.in_ok-mark.ensures.happens (second g e)
    (later 0 (stage_of c.commit_if-2.new.stores c.commit_if-2.new.dev c.commit_if-2.new.processes)) broke.due (broke.torn counts)

pub returns-in-Ok-clause-stores : goal.returns-in-Ok-clause-stores
returns-in-Ok-clause-stores g c = same_later (two g (goal.at.returns-in-Ok-clause-stores g c).In_ok-mark) c.commit_if-2.new.stores c.commit_if-2.ensures.stores

pub returns-in-Ok-clause-fit : goal.returns-in-Ok-clause-fit
returns-in-Ok-clause-fit g c = (c.in-Ok.ensures.fit, c.in-Ok.ensures.counts (2 * (c.args.processes.now.left - 1)) (counts_second g (goal.at.returns-in-Ok-clause-fit g c).In_ok-mark))

pub returns-in-Ok-clause-others : goal.returns-in-Ok-clause-others
returns-in-Ok-clause-others g c = others_later (two g (goal.at.returns-in-Ok-clause-others g c).In_ok-mark) c.commit_if-2.new.dev (g.met.C.Checkpoint.untouched_on c.args.dev.now c.take_event.new.dev c.commit_if-2.new.dev) c.commit_if-2.ensures.others

-- what it showed is what it was to show before the commit
shows : (g : Over) (c : In_ok-mark g) → IsTold g.C.Checkpoint (stage_of c.args.stores.now c.args.dev.now c.args.processes.now) → (z : g.row.C.Denot) → slice_get c.args.stores.now c.args.p ≡ Some z
    → ShowsNext g.C.Checkpoint z c.args.dev.now (slot_at c.args.processes.now.slots.items c.args.p) c.in_ok-mark.ensures.showed.done
shows g c told z at = let ok = c.in_ok-commit_if.ensures in
    shows_told g.C.Checkpoint g.met.C.Checkpoint.told_contents (begun g c) c.args.p c.requires.process c.requires.stores c.requires.belongs c.args.call z at (c.requires.next z at) told
    ok.fit (ok.alike c.args.p c.requires.process) ok.memory c.in_ok-mark.ensures.showed.done c.in_ok-mark.ensures.showed.showed

pub returns-in-Ok-clause-showed : goal.returns-in-Ok-clause-showed
returns-in-Ok-clause-showed g c = let s = c.in_ok-mark.ensures.showed in record { done = s.done; mark_is = s.mark_is; shown_is = s.shown_is; showed = shows g (goal.at.returns-in-Ok-clause-showed g c).In_ok-mark }

pub returns-in-Ok-clause-went : goal.returns-in-Ok-clause-went
returns-in-Ok-clause-went g c =
    let at = goal.at.returns-in-Ok-clause-went g c in
    let s = at.After-asked-asked in
    let e = at.In_ok-mark in
    let y = store g s in
    went_whole (asks g s) c.in_ok-commit_if.ensures.goes (begun g e) c.in_ok-mark.ensures.happens (second g e) (stage_of c.commit_if-2.new.stores c.commit_if-2.new.dev c.commit_if-2.new.processes) (length (lines_of c.take_event.new.shown)) c.in-Ok.ensures.goes
    (λ images core told go inside world. let words = memory_told g.C.Checkpoint g.met.C.Checkpoint.told_contents (begun g e) c.args.p c.requires.process c.requires.stores c.requires.belongs c.args.call y.0 y.1 (c.requires.next y.0 y.1) told in
    lines_told g.C.Checkpoint (stage_of c.args.stores.now c.args.dev.now c.args.processes.now) images core (answer_of c.args.answer.now) told go c.args.p inside world y.0 y.1 c.args.call (c.requires.next y.0 y.1) words.0 words.1 (returns-in-Ok-clause-showed g c))
