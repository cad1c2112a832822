use Rattle.std.proofs.Common.{◌≡◌, ◌∙◌, ◌++◌, ◌<◌, ℕ, List, [], IfSome, Option, Some, ap, length, subst, sym}
use Rattle.std.proofs.lemmas.List.{append-nil}
use Rattle.dc_audit.specs.declared.journal.Line.{Line}
use Rattle.dc_calls.specs.declared.call.Call.{Call}
use Rattle.dc_calls.specs.declared.call.Call.TheVariants as calls
use Rattle.dc_deeds.proofs.Left.{left_ended, left_full, left_whole}
use Rattle.dc_deeds.proofs.Ruled.{once}
use Rattle.dc_deeds.specs.Events.{HasReceiver}
use Rattle.dc_events.specs.declared.event.Next.TheVariants as next
use Rattle.dc_guest.specs.Answers.{answer_of}
use Rattle.dc_guest.specs.Nexts.{NextFits}
use Rattle.dc_kernel.specs.Kernels.{Kernel}
use Rattle.dc_proc.specs.Events.{IsSender}
use Rattle.dc_proc.specs.Turns.{since_of}
use Rattle.dc_proc.specs.declared.up.Up.{Up as Process}
use Rattle.dc_processes.proofs.Allowing.{sender_is}
use Rattle.dc_processes.proofs.Drawing.{items_are}
use Rattle.dc_processes.specs.Slots.{IsOf}
use Rattle.dc_processes.specs.Stages.{stage_of}
use Rattle.dc_processes.specs.declared.slot.Slot.TheVariants.{Up}
use Rattle.dc_deeds.proofs.leaving.leave_up.Goals as goal

-- a send goes to a process that is there
receives : (k : Kernel) (size number count : ℕ) → count ≡ k.n → (call : Option Call) → IfSome call (λ it. NextFits size number count (next.Call it)) → HasReceiver k call
receives k size number count is (Some (calls.Send q from long)) fits = subst (λ n. q < n) is fits.0
receives k size number count is _ fits = tt

-- nothing was left
same : (lines : List Line) (more : List Line) → more ≡ [] → lines ≡ lines ++ more
same lines more none = sym (append-nil lines) ∙ ap (λ ys. lines ++ ys) (sym none)

-- what was left is this
behind : (lines more these new : List Line) → new ≡ lines ++ more → more ≡ these → new ≡ lines ++ these
behind lines more these new is are = is ∙ ap (λ ys. lines ++ ys) are

pub returns-then-has_ended-clause-left : goal.returns-then-has_ended-clause-left
returns-then-has_ended-clause-left g c stores at index images schedule core told now world up = same c.args.lines.now.items _
    (left_ended g.C.Checkpoint g.met.C.Checkpoint.told_contents images schedule core (stage_of stores c.args.dev.now c.args.processes.now) told now world c.args.turn.now c.requires.process
    c.args.store.now at index c.args.up.now c.requires.there c.requires.fit (sym c.has_ended.ensures ∙ c.if-has_ended.true))

pub returns-then-is_blocked-clause-left : goal.returns-then-is_blocked-clause-left
returns-then-is_blocked-clause-left g c stores at index images schedule core told now world up = same c.args.lines.now.items _
    (left_full g.C.Checkpoint g.met.C.Checkpoint.told_contents images schedule core (stage_of stores c.args.dev.now c.args.processes.now) told now world c.args.turn.now c.requires.process
    c.args.store.now at index c.args.up.now c.requires.there c.requires.fit (sym c.has_ended.ensures ∙ c.if-has_ended.false) c.next_call-call.result c.next_call-call.ensures.exact
    (c.is_blocked.ensures.blocked c.if-is_blocked.true))

pub answer-answer-requires-clause-of : goal.answer-answer-requires-clause-of
answer-answer-requires-clause-of g c = c.requires.well.each c.args.turn.now.p (Up c.args.up.now) c.requires.process c.requires.there

pub asked-asked-requires : goal.asked-asked-requires
asked-asked-requires g c =
    let of : IsOf c.args.processes.now.protocol (length c.args.processes.now.slots.items) c.args.turn.now.p (Up c.args.up.now) = c.requires.well.each c.args.turn.now.p (Up c.args.up.now) c.requires.process c.requires.there in
    sender_is c.args.up.now.kernel (length c.args.processes.now.slots.items) c.args.turn.now.p of.1 of.2 (answer_of c.answer-answer.result) c.answer-answer.ensures.sender

pub event_deed-deed-requires-clause-sender : goal.event_deed-deed-requires-clause-sender
event_deed-deed-requires-clause-sender g c =
    let of : IsOf c.args.processes.now.protocol (length c.args.processes.now.slots.items) c.args.turn.now.p (Up c.args.up.now) = c.requires.well.each c.args.turn.now.p (Up c.args.up.now) c.requires.process c.requires.there in
    sender_is c.args.up.now.kernel (length c.args.processes.now.slots.items) c.args.turn.now.p of.1 of.2 (answer_of c.answer-answer.result) c.answer-answer.ensures.sender

pub leave_turn-requires-clause-once : goal.leave_turn-requires-clause-once
leave_turn-requires-clause-once g c =
    let u : Process = c.args.up.now in
    let kind = c.next_kind-kind.result in
    once u.protocol kind (since_of u kind (answer_of c.answer-answer.result) c.any_unlogged.result) c.asked-asked.result c.asked-asked.ensures

pub returns-clause-left : goal.returns-clause-left
returns-clause-left g c stores at index images schedule core told now world up =
    let p = c.args.turn.now.p in
    let u : Process = c.args.up.now in
    let x = stage_of stores c.args.dev.now c.args.processes.now in
    let of : IsOf c.args.processes.now.protocol (length c.args.processes.now.slots.items) p (Up u) = c.requires.well.each p (Up u) c.requires.process c.requires.there in
    let a = answer_of c.answer-answer.result in
    let sender : IsSender u.kernel a = sender_is u.kernel (length c.args.processes.now.slots.items) p of.1 of.2 a c.answer-answer.ensures.sender in
    let receiver : HasReceiver u.kernel c.next_call-call.result = receives u.kernel _ _ _ c.requires.fit.whole.count c.next_call-call.result c.next_call-call.ensures.fits in
    behind c.args.lines.now.items _ _ c.leave_turn.new.lines.items c.leave_turn.ensures.lines
    (left_whole g.C.Checkpoint g.met.C.Checkpoint.told_contents images schedule core x told now world c.args.turn.now c.requires.process
    c.args.store.now at index u c.requires.there c.requires.fit (sym c.has_ended.ensures ∙ c.if-has_ended.false) c.next_call-call.result c.next_call-call.ensures.exact
    (c.is_blocked.ensures.room c.if-is_blocked.false) _ (items_are c.args.processes.now.inputs.items p) a c.answer-answer.ensures.told c.answer-answer.ensures.drawn c.answer-answer.ensures.asked
    sender receiver c.next_kind-kind.result c.next_kind-kind.ensures of.3 c.any_unlogged.result c.any_unlogged.ensures c.asked-asked.result c.asked-asked.ensures
    c.is_chance-chance.result c.is_chance-chance.ensures c.event_deed-deed.result c.event_deed-deed.ensures c.count.result c.count.ensures c.members_with-members.result c.members_with-members.ensures.members)
