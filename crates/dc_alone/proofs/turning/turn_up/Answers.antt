use Rattle.std.proofs.Common.{◌≡◌, ◌<◌, ◌+◌, ◌-◌, ◌∙◌, Some, IfSome, ap, arith, length, refl, slice_set, subst, sym}
use Rattle.std.proofs.lemmas.Result.{IfOk-weaker, on_err_weaker}
use Rattle.dc_guest.specs.Answers.{answer_of}
use Rattle.dc_model.specs.declared.entry.Entry.TheVariants as entry
use Rattle.dc_model.specs.declared.mark.Mark.TheVariants as mark
use Rattle.dc_proc.specs.declared.up.Up.{Up as Process}
use Rattle.dc_proc.specs.Turns.{taken_mark, visible_shown}
use Rattle.dc_processes.proofs.Answered.{answered_idle, answered_stopped, answered_whole, same_stage}
use Rattle.dc_processes.proofs.Beside.{set_same, store_set}
use Rattle.dc_processes.proofs.Drawing.{items_are}
use Rattle.dc_processes.proofs.Handling.{handled_less}
use Rattle.dc_processes.proofs.Marking.{if_ok_three, taken_shows, taken_whole}
use Rattle.dc_processes.specs.Slots.{slot_at}
use Rattle.dc_processes.specs.Stages.{IsHandled, Stage, stage_of}
use Rattle.dc_processes.specs.Turns.{IsTurned, later, lines_of, marked}
use Rattle.dc_processes.specs.declared.slot.Slot.TheVariants.{Up}
use Rattle.dc_alone.proofs.turning.turn_up.Goals as goal

pub next_call-requires : goal.next_call-requires
next_call-requires g c =
    let p = c.args.turn.now.p in
    let slots0 = c.args.processes.now.slots.items in
    let u : Process = c.in-Some.up.now in
    let there : slot_at slots0 p ≡ Some (Up u) = c.in-Some.ensures.up in
    let handled : IsHandled g.C.Checkpoint c.args.processes.now.left c.args.store.now c.args.dev.now (Some (Up u)) = subst (IsHandled g.C.Checkpoint c.args.processes.now.left c.args.store.now c.args.dev.now) there c.requires.handled in
    record { fit = handled.0 }

pub answer-answer-requires-clause-of : goal.answer-answer-requires-clause-of
answer-answer-requires-clause-of g c =
    let p = c.args.turn.now.p in
    let slots0 = c.args.processes.now.slots.items in
    let u : Process = c.in-Some.up.now in
    let there : slot_at slots0 p ≡ Some (Up u) = c.in-Some.ensures.up in
    c.requires.well.each p (Up u) c.requires.process there

pub take-requires-clause-next : goal.take-requires-clause-next
take-requires-clause-next g c =
    let p = c.args.turn.now.p in
    let slots0 = c.args.processes.now.slots.items in
    let u : Process = c.in-Some.up.now in
    let there : slot_at slots0 p ≡ Some (Up u) = c.in-Some.ensures.up in
    let handled : IsHandled g.C.Checkpoint c.args.processes.now.left c.args.store.now c.args.dev.now (Some (Up u)) = subst (IsHandled g.C.Checkpoint c.args.processes.now.left c.args.store.now c.args.dev.now) there c.requires.handled in
    record { up = u; there = there; fit = handled.0; counts = handled.1; floor = handled.2; runs = c.in-Ok.ensures.runs; room = c.in-Ok.ensures.room; found = c.in-Ok.ensures.found }

pub returns-in-Ok-clause-whole : goal.returns-in-Ok-clause-whole
returns-in-Ok-clause-whole g c = IfOk-weaker c.take.result _ _ (λ did shows e. taken_whole shows.done (sym shows.mark_is ∙ e)) c.take.ensures.showed

pub returns-in-Ok-clause-shows : goal.returns-in-Ok-clause-shows
returns-in-Ok-clause-shows g c = IfOk-weaker c.take.result _ _ (λ did shows. subst (λ v. IfSome v (λ visible. did ≡ mark.Showed visible.k)) (sym shows.shown_is)
    (subst (λ m. IfSome (visible_shown c.args.turn.now.p shows.done) (λ visible. m ≡ mark.Showed visible.k)) (sym shows.mark_is) (taken_shows shows.done c.args.turn.now.p))) c.take.ensures.showed

pub returns-in-Ok-clause-turned : goal.returns-in-Ok-clause-turned
returns-in-Ok-clause-turned g c = if_ok_three _ _ _ _ c.take.result c.take.ensures.ready c.take.ensures.went c.take.ensures.showed (λ did ready went shows stores at index images schedule core told_old told_new now world.
    let p = c.args.turn.now.p in
    let slots0 = c.args.processes.now.slots.items in
    let u : Process = c.in-Some.up.now in
    let there : slot_at slots0 p ≡ Some (Up u) = c.in-Some.ensures.up in
    let handled : IsHandled g.C.Checkpoint c.args.processes.now.left c.args.store.now c.args.dev.now (Some (Up u)) = subst (IsHandled g.C.Checkpoint c.args.processes.now.left c.args.store.now c.args.dev.now) there c.requires.handled in
    let old = stage_of stores c.args.dev.now c.args.processes.now in
    let new = later (length (lines_of c.take.new.shown)) (stage_of (slice_set stores p c.take.new.store) c.take.new.dev c.take.new.processes) in
    let index1 : g.C.Checkpoint.index c.take.new.store ≡ p = c.take.ensures.call.same.index_same ∙ index p c.args.store.now at in
    let turned : IsTurned g.C.Checkpoint images core old new (entry.Turn c.args.turn.now) (marked (taken_mark shows.done) (visible_shown p shows.done)) =
    answered_whole g.C.Checkpoint g.met.C.Checkpoint.told_contents images schedule core old new told_old now world c.args.turn.now c.requires.process
    c.args.store.now at (index p c.args.store.now at) u there handled.0 c.in-Ok.call c.in-Ok.ensures.found c.in-Ok.ensures.runs c.in-Ok.ensures.room
    _ (items_are c.args.processes.now.inputs.items p) (answer_of c.answer-answer.result) c.answer-answer.ensures.told c.answer-answer.ensures.drawn c.answer-answer.ensures.asked c.requires.alone
    shows.done (shows.showed u there) c.take.new.store (store_set stores p c.args.store.now c.take.new.store at) ready
    (subst (g.C.Checkpoint.told c.take.new.dev) (sym index1) (told_new.told p (subst (λ m. p < m) (sym c.take.ensures.long) c.requires.process))) (went stores at index) in
    subst (λ v. IsTurned g.C.Checkpoint images core old new (entry.Turn c.args.turn.now) (marked did v)) (sym shows.shown_is)
    (subst (λ m. IsTurned g.C.Checkpoint images core old new (entry.Turn c.args.turn.now) (marked m (visible_shown p shows.done))) (sym shows.mark_is) turned))

pub returns-in-Ok-clause-stopped : goal.returns-in-Ok-clause-stopped
returns-in-Ok-clause-stopped g c = on_err_weaker c.take.result (λ fell stores at index images schedule core told_old told_new now world.
    let p = c.args.turn.now.p in
    let slots0 = c.args.processes.now.slots.items in
    let u : Process = c.in-Some.up.now in
    let there : slot_at slots0 p ≡ Some (Up u) = c.in-Some.ensures.up in
    let handled : IsHandled g.C.Checkpoint c.args.processes.now.left c.args.store.now c.args.dev.now (Some (Up u)) = subst (IsHandled g.C.Checkpoint c.args.processes.now.left c.args.store.now c.args.dev.now) there c.requires.handled in
    let old = stage_of stores c.args.dev.now c.args.processes.now in
    let new = later 0 (stage_of (slice_set stores p c.take.new.store) c.take.new.dev c.take.new.processes) in
    answered_stopped g.C.Checkpoint g.met.C.Checkpoint.told_contents images schedule core old new told_old now world c.args.turn.now c.requires.process
    c.args.store.now at (index p c.args.store.now at) u there handled.0 c.in-Ok.call c.in-Ok.ensures.found c.in-Ok.ensures.runs c.in-Ok.ensures.room
    _ (items_are c.args.processes.now.inputs.items p) (answer_of c.answer-answer.result) c.answer-answer.ensures.told c.answer-answer.ensures.drawn c.answer-answer.ensures.asked c.requires.alone (fell stores at index)) c.take.ensures.fell

pub returns-in-Err-clause-handled : goal.returns-in-Err-clause-handled
returns-in-Err-clause-handled g c = handled_less g.C.Checkpoint c.args.processes.now.left (c.args.processes.now.left - 1) c.args.store.now c.args.dev.now (slot_at c.args.processes.now.slots.items c.args.turn.now.p) (omega arith) c.requires.handled

pub returns-in-Err-clause-turned : goal.returns-in-Err-clause-turned
returns-in-Err-clause-turned g c stores at index images schedule core told_old told_new now world =
    let p = c.args.turn.now.p in
    let slots0 = c.args.processes.now.slots.items in
    let u : Process = c.in-Some.up.now in
    let there : slot_at slots0 p ≡ Some (Up u) = c.in-Some.ensures.up in
    let handled : IsHandled g.C.Checkpoint c.args.processes.now.left c.args.store.now c.args.dev.now (Some (Up u)) = subst (IsHandled g.C.Checkpoint c.args.processes.now.left c.args.store.now c.args.dev.now) there c.requires.handled in
    let old = stage_of stores c.args.dev.now c.args.processes.now in
    let new : Stage _ _ = later (length (lines_of c.args.shown.now)) (stage_of (slice_set stores p c.args.store.now) c.args.dev.now c.args.processes.now) in
    let none : length (lines_of c.args.shown.now) ≡ 0 = ap (λ v. length (lines_of v)) c.requires.nothing in
    let no_more : c.args.processes.now.lines + length (lines_of c.args.shown.now) ≡ c.args.processes.now.lines = omega (arith, none) in
    let same = same_stage old new refl (set_same stores p c.args.store.now at) refl refl refl refl refl no_more in
    subst (λ v. IsTurned g.C.Checkpoint images core old new (entry.Turn c.args.turn.now) (marked (mark.Idle c.in-Err.idle) v)) (sym c.requires.nothing)
    (answered_idle g.C.Checkpoint g.met.C.Checkpoint.told_contents images schedule core old new told_old now world c.args.turn.now c.requires.process
    c.args.store.now at (index p c.args.store.now at) u there handled.0 c.in-Err.idle c.in-Err.ensures.idle same (omega arith))
