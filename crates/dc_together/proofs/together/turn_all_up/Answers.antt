use Rattle.dc_checkpoint.specs.Handles.{IsSame, same_start}
use Rattle.std.proofs.Common.{◌≡◌, ◌<◌, ◌+◌, ◌-◌, ◌*◌, ◌∙◌, ℕ, List, true, Some, IfSome, ap, arith, get_or, inl, length, refl, slice_get, subst, sym}
use Rattle.std.proofs.lemmas.Option.{slice_get-get_or}
use Rattle.std.proofs.lemmas.Result.{IfOk-weaker, on_err_weaker}
use Rattle.dc_guest.specs.Answers.{answer_of}
use Rattle.dc_guest.specs.Guest.{event_of, machine_over, next_of, over}
use Rattle.dc_model.specs.Runs.{own}
use Rattle.dc_model.specs.declared.entry.Entry.TheVariants as entry
use Rattle.dc_model.specs.declared.mark.Mark.TheVariants as mark
use Rattle.dc_words.specs.Lists.{lists_of}
use Rattle.dc_proc.proofs.Ruling.{event_is}
use Rattle.dc_proc.specs.Carried.{system}
use Rattle.dc_proc.specs.Ups.{IsFit}
use Rattle.dc_proc.specs.declared.up.Up.{Up as Process}
use Rattle.dc_recovery.specs.Answers.{rule_at, stores_at}
use Rattle.dc_recovery.specs.Parts.{may_stop}
use Rattle.dc_twophase.proofs.Counting.{calm_start, joint_calm}
use Rattle.dc_twophase.proofs.Pairs.{one_only}
use Rattle.dc_proc.specs.Turns.{taken_mark, visible_shown}
use Rattle.dc_processes.proofs.Answered.{answered_as, answered_idle, given, same_stage, stopped_as}
use Rattle.dc_processes.proofs.Drawing.{items_are}
use Rattle.dc_together.proofs.Fitting.{counts_fewer}
use Rattle.dc_processes.proofs.Marking.{either_way, if_ok_three, taken_shows, taken_whole}
use Rattle.dc_processes.proofs.Standing.{at_now}
use Rattle.dc_together.specs.Joints.{IsFitAt}
use Rattle.dc_processes.specs.Slots.{slot_at}
use Rattle.dc_processes.specs.Stages.{Stage, stage_of}
use Rattle.dc_processes.specs.Taking.{MakesCall}
use Rattle.dc_processes.specs.Turns.{IsTurned, later, lines_of, marked}
use Rattle.dc_processes.specs.declared.slot.Slot.TheVariants.{Up}
use Rattle.dc_together.proofs.together.turn_all_up.Goals as goal

pub next_call-requires : goal.next_call-requires
next_call-requires g c =
    let G = g.C.Checkpoint in
    let p = c.args.turn.now.p in
    let slots0 = c.args.processes.now.slots.items in
    let stores0 = c.args.stores.now in
    let dev0 = c.args.dev.now in
    let store = get_or stores0 p c.index-stores-turn.result in
    let at : slice_get stores0 p ≡ Some store = slice_get-get_or stores0 p c.index-stores-turn.result (subst (λ m. p < m) (sym c.requires.stores) c.requires.process) in
    let u : Process = c.in-Some.up.now in
    let there : slot_at slots0 p ≡ Some (Up u) = c.in-Some.ensures.up in
    let fit : IsFit G u store dev0 = subst (IsFitAt G store dev0) there (c.requires.fit p store at) in
    record { fit = fit }

pub answer-answer-requires-clause-of : goal.answer-answer-requires-clause-of
answer-answer-requires-clause-of g c = c.requires.well.each c.args.turn.now.p (Up c.in-Some.up.now) c.requires.process c.in-Some.ensures.up

pub take_together-requires-clause-next : goal.take_together-requires-clause-next
take_together-requires-clause-next g c x is =
    let G = g.C.Checkpoint in
    let p = c.args.turn.now.p in
    let slots0 = c.args.processes.now.slots.items in
    let stores0 = c.args.stores.now in
    let dev0 = c.args.dev.now in
    let store = get_or stores0 p c.index-stores-turn.result in
    let at : slice_get stores0 p ≡ Some store = slice_get-get_or stores0 p c.index-stores-turn.result (subst (λ m. p < m) (sym c.requires.stores) c.requires.process) in
    let u : Process = c.in-Some.up.now in
    let there : slot_at slots0 p ≡ Some (Up u) = c.in-Some.ensures.up in
    let fit : IsFit G u store dev0 = subst (IsFitAt G store dev0) there (c.requires.fit p store at) in
    subst (λ z. MakesCall G z dev0 (slot_at slots0 p) c.in-Ok.call) (one_only stores0 p x store is at) (record { up = u; there = there; fit = fit; runs = c.in-Ok.ensures.runs; room = c.in-Ok.ensures.room; found = c.in-Ok.ensures.found })

pub returns-in-Ok-clause-whole : goal.returns-in-Ok-clause-whole
returns-in-Ok-clause-whole g c = IfOk-weaker c.take_together.result _ _ (λ did shows e. taken_whole shows.done (sym shows.mark_is ∙ e)) c.take_together.ensures.showed

pub returns-in-Ok-clause-shows : goal.returns-in-Ok-clause-shows
returns-in-Ok-clause-shows g c = IfOk-weaker c.take_together.result _ _ (λ did shows. subst (λ v. IfSome v (λ visible. did ≡ mark.Showed visible.k)) (sym shows.shown_is)
    (subst (λ m. IfSome (visible_shown c.args.turn.now.p shows.done) (λ visible. m ≡ mark.Showed visible.k)) (sym shows.mark_is) (taken_shows shows.done c.args.turn.now.p))) c.take_together.ensures.showed

pub returns-in-Ok-clause-ready : goal.returns-in-Ok-clause-ready
returns-in-Ok-clause-ready g c = either_way c.take_together.result c.take_together.ensures.fit c.take_together.ensures.down

pub returns-in-Ok-clause-turned : goal.returns-in-Ok-clause-turned
returns-in-Ok-clause-turned g c = if_ok_three _ _ _ _ c.take_together.result c.take_together.ensures.fit c.take_together.ensures.went c.take_together.ensures.showed (λ did ready went shows images schedule core told_old told_new now world.
    let G = g.C.Checkpoint in
    let p = c.args.turn.now.p in
    let slots0 = c.args.processes.now.slots.items in
    let stores0 = c.args.stores.now in
    let dev0 = c.args.dev.now in
    let store = get_or stores0 p c.index-stores-turn.result in
    let at : slice_get stores0 p ≡ Some store = slice_get-get_or stores0 p c.index-stores-turn.result (subst (λ m. p < m) (sym c.requires.stores) c.requires.process) in
    let u : Process = c.in-Some.up.now in
    let there : slot_at slots0 p ≡ Some (Up u) = c.in-Some.ensures.up in
    let fit : IsFit G u store dev0 = subst (IsFitAt G store dev0) there (c.requires.fit p store at) in
    let old = stage_of stores0 dev0 c.args.processes.now in
    let new = later (length (lines_of c.take_together.new.shown)) (stage_of c.take_together.new.stores c.take_together.new.dev c.take_together.new.processes) in
    let index : G.index store ≡ p = (c.requires.belongs p store at).index_is in
    let inside : p < (system images (lists_of c.args.processes.now.inputs.items) c.args.processes.now.protocol).guests.count = subst (λ m. p < m) (sym world.count_is) c.requires.process in
    let is = given G g.met.C.Checkpoint.told_contents images schedule core old new told_old now world c.args.turn.now c.requires.process store at index u there fit c.in-Ok.call c.in-Ok.ensures.found c.in-Ok.ensures.runs c.in-Ok.ensures.room
    _ (items_are c.args.processes.now.inputs.items p) (answer_of c.answer-answer.result) c.answer-answer.ensures.told c.answer-answer.ensures.drawn c.answer-answer.ensures.asked in
    let turned : IsTurned G images core old new (entry.Turn c.args.turn.now) (marked (taken_mark shows.done) (visible_shown p shows.done)) =
    answered_as G g.met.C.Checkpoint.told_contents images schedule core old new told_old now world c.args.turn.now c.requires.process store at index u there fit c.in-Ok.call c.in-Ok.ensures.found c.in-Ok.ensures.runs c.in-Ok.ensures.room
    _ (items_are c.args.processes.now.inputs.items p) (answer_of c.answer-answer.result) c.answer-answer.ensures.told c.answer-answer.ensures.drawn c.answer-answer.ensures.asked
    shows.done (shows.showed told_old store at u there) (went images schedule core c.requires.together told_old now world inside is) in
    subst (λ v. IsTurned G images core old new (entry.Turn c.args.turn.now) (marked did v)) (sym shows.shown_is)
    (subst (λ m. IsTurned G images core old new (entry.Turn c.args.turn.now) (marked m (visible_shown p shows.done))) (sym shows.mark_is) turned))

pub returns-in-Ok-clause-stopped : goal.returns-in-Ok-clause-stopped
returns-in-Ok-clause-stopped g c = on_err_weaker c.take_together.result (λ fell images schedule core told_old told_new now world.
    let G = g.C.Checkpoint in
    let p = c.args.turn.now.p in
    let slots0 = c.args.processes.now.slots.items in
    let stores0 = c.args.stores.now in
    let dev0 = c.args.dev.now in
    let store = get_or stores0 p c.index-stores-turn.result in
    let at : slice_get stores0 p ≡ Some store = slice_get-get_or stores0 p c.index-stores-turn.result (subst (λ m. p < m) (sym c.requires.stores) c.requires.process) in
    let u : Process = c.in-Some.up.now in
    let there : slot_at slots0 p ≡ Some (Up u) = c.in-Some.ensures.up in
    let fit : IsFit G u store dev0 = subst (IsFitAt G store dev0) there (c.requires.fit p store at) in
    let old = stage_of stores0 dev0 c.args.processes.now in
    let new = later 0 (stage_of c.take_together.new.stores c.take_together.new.dev c.take_together.new.processes) in
    let index : G.index store ≡ p = (c.requires.belongs p store at).index_is in
    let inputs = lists_of c.args.processes.now.inputs.items in
    let pr = c.args.processes.now.protocol in
    let S = system images inputs pr in
    let a = answer_of c.answer-answer.result in
    let inside : p < S.guests.count = subst (λ m. p < m) (sym world.count_is) c.requires.process in
    let is = given G g.met.C.Checkpoint.told_contents images schedule core old new told_old now world c.args.turn.now c.requires.process store at index u there fit c.in-Ok.call c.in-Ok.ensures.found c.in-Ok.ensures.runs c.in-Ok.ensures.room
    _ (items_are c.args.processes.now.inputs.items p) (answer_of c.answer-answer.result) c.answer-answer.ensures.told c.answer-answer.ensures.drawn c.answer-answer.ensures.asked in
    let x = fell images schedule core c.requires.together told_old now world inside is in
    let may : (ws : List ℕ) → G.contents store dev0 ≡ Some ws → may_stop (rule_at S core p a) (stores_at S.guests core p a) (event_of (next_of (over u.guest ws)) (machine_over u.guest ws)) a x.0 ≡ true = λ ws told. subst (λ e. may_stop (rule_at S core p a) (stores_at S.guests core p a) e a x.0 ≡ true)
    (event_is images inputs pr p (own p core.acts) (core.procs p) ws u fit.whole (at_now G S schedule c.args.processes.now.entries core now old world p store at u there inside ws told) c.in-Ok.ensures.runs a) x.2 in
    stopped_as G g.met.C.Checkpoint.told_contents images schedule core old new told_old now world c.args.turn.now c.requires.process store at index u there fit c.in-Ok.call c.in-Ok.ensures.found c.in-Ok.ensures.runs c.in-Ok.ensures.room
    _ (items_are c.args.processes.now.inputs.items p) (answer_of c.answer-answer.result) c.answer-answer.ensures.told c.answer-answer.ensures.drawn c.answer-answer.ensures.asked x.0 x.1 may x.3) c.take_together.ensures.fell

pub returns-in-Err-clause-ready : goal.returns-in-Err-clause-ready
returns-in-Err-clause-ready g c = inl (c.requires.fit, counts_fewer (2 * c.args.processes.now.left) (2 * (c.args.processes.now.left - 1)) c.args.processes.now.slots.items (omega arith) c.requires.counts)

pub returns-in-Err-clause-turned : goal.returns-in-Err-clause-turned
returns-in-Err-clause-turned g c images schedule core told_old told_new now world =
    let G = g.C.Checkpoint in
    let p = c.args.turn.now.p in
    let slots0 = c.args.processes.now.slots.items in
    let stores0 = c.args.stores.now in
    let dev0 = c.args.dev.now in
    let store = get_or stores0 p c.index-stores-turn.result in
    let at : slice_get stores0 p ≡ Some store = slice_get-get_or stores0 p c.index-stores-turn.result (subst (λ m. p < m) (sym c.requires.stores) c.requires.process) in
    let u : Process = c.in-Some.up.now in
    let there : slot_at slots0 p ≡ Some (Up u) = c.in-Some.ensures.up in
    let fit : IsFit G u store dev0 = subst (IsFitAt G store dev0) there (c.requires.fit p store at) in
    let old = stage_of stores0 dev0 c.args.processes.now in
    let new : Stage _ _ = later (length (lines_of c.args.shown.now)) (stage_of stores0 dev0 c.args.processes.now) in
    let index : G.index store ≡ p = (c.requires.belongs p store at).index_is in
    let none : length (lines_of c.args.shown.now) ≡ 0 = ap (λ v. length (lines_of v)) c.requires.nothing in
    let no_more : c.args.processes.now.lines + length (lines_of c.args.shown.now) ≡ c.args.processes.now.lines = omega (arith, none) in
    let same = same_stage old new refl refl refl refl refl refl refl no_more in
    subst (λ v. IsTurned G images core old new (entry.Turn c.args.turn.now) (marked (mark.Idle c.in-Err.idle) v)) (sym c.requires.nothing)
    (answered_idle G g.met.C.Checkpoint.told_contents images schedule core old new told_old now world c.args.turn.now c.requires.process store at index u there fit c.in-Err.idle c.in-Err.ensures.idle same (omega arith))

pub returns-in-Err-clause-stores : goal.returns-in-Err-clause-stores
returns-in-Err-clause-stores g c i b x at now = subst (λ z. IsSame g.C.Checkpoint b z) (sym (one_only c.args.stores.now i b x at now)) (same_start b)

pub returns-in-Err-clause-joint : goal.returns-in-Err-clause-joint
returns-in-Err-clause-joint g c = joint_calm g.C.Checkpoint c.args.stores.now c.args.dev.now c.args.dev.now (mark.Idle c.in-Err.idle) (calm_start g.C.Checkpoint c.args.dev.now)

pub returns-in-Err-clause-others : goal.returns-in-Err-clause-others
returns-in-Err-clause-others g c q none = g.met.C.Checkpoint.untouched_self c.args.dev.now q

pub returns-in-Err-clause-continues : goal.returns-in-Err-clause-continues
returns-in-Err-clause-continues g c = g.met.C.Checkpoint.continues_self c.args.dev.now
