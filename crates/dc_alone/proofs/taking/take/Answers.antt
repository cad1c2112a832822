use Rattle.std.proofs.Common.{◌≡◌, ◌∙◌, ◌<◌, ◌-◌, ◌+◌, ◌*◌, ◌^◌, ◌&&◌, Some, IfSome, IsSome, if◌then◌else◌, nat_lt, true, ap, arith, length, refl, slice_get, slice_index, slice_set, subst, sym}
use Rattle.std.proofs.lemmas.List.{length-set}
use Rattle.dc_acts.specs.Counted.{acts_of}
use Rattle.dc_guest.specs.Answers.{answer_of, effect_of, may_answer}
use Rattle.dc_guest.specs.Guest.{event_of, machine_over, next_of, over}
use Rattle.dc_guest.specs.Nexts.{called_by}
use Rattle.dc_model.specs.Runs.{own}
use Rattle.dc_words.specs.Lists.{lists_of}
use Rattle.dc_proc.proofs.Numbers.{numbered_less, numbered_more}
use Rattle.dc_proc.proofs.Ruling.{event_is}
use Rattle.dc_proc.specs.Carried.{process, system}
use Rattle.dc_proc.specs.Events.{HasCountsFor}
use Rattle.dc_proc.specs.Processes.{IsAt}
use Rattle.dc_proc.specs.Turns.{IsStopped, StopsTurn, TakesTurn, acts_with, shown_of, visible_shown}
use Rattle.dc_proc.specs.Ups.{held}
use Rattle.dc_recovery.proofs.Single.{acts_alone}
use Rattle.dc_recovery.specs.Saves.{last_at}
use Rattle.dc_twophase.proofs.Laws.{Laws}
use Rattle.dc_processes.proofs.Allowing.{may_turn}
use Rattle.dc_processes.proofs.Beside.{and_some, memory_set}
use Rattle.dc_alone.proofs.Going.{world_next}
use Rattle.dc_alone.proofs.Halting.{handled_down, world_stopped}
use Rattle.dc_alone.proofs.Hearing.{handled_told, hears_fallen, keeps_all, learns_each, others_fallen, others_hear, still_there}
use Rattle.dc_processes.proofs.Marking.{exposed_shown}
use Rattle.dc_processes.proofs.Outputs.{last_stays}
use Rattle.dc_processes.proofs.Slots.{inside_each, noted_long, there_read, up_same, well_put}
use Rattle.dc_processes.proofs.Standing.{alone_given, at_now, over_now}
use Rattle.dc_processes.proofs.Telling.{exposes_is, exposes_output, kind_called, lines_count, lines_is, lines_kept, told_at}
use Rattle.dc_processes.specs.Answers.{exposed_by, kind_by}
use Rattle.dc_processes.specs.Slots.{IsOf, based_in, held_in, size_in, slot_at}
use Rattle.dc_processes.specs.Stages.{IsHandled, leaves_of, memory_of, stage_of}
use Rattle.dc_processes.specs.Taking.{MayTake}
use Rattle.dc_processes.specs.Turns.{later, line_count, lines_of}
use Rattle.dc_processes.specs.declared.processes.Processes.{Processes}
use Rattle.dc_processes.specs.declared.slot.Slot.TheVariants.{Up}
use Rattle.dc_alone.proofs.taking.take.Goals as goal

pub take_in-requires-clause-may : goal.take_in-requires-clause-may
take_in-requires-clause-may g c =
    let p = c.args.p in
    let u0 = c.requires.next.up in
    let slots0 = c.args.processes.now.slots.items in
    let there : slot_at slots0 p ≡ Some (Up u0) = c.requires.next.there in
    let of : IsOf c.args.processes.now.protocol (length slots0) p (Up u0) = c.requires.well.each p (Up u0) c.requires.process there in
    let read : c.index_mut-slot.result.now ≡ Some (Up u0) = there_read slots0 p c.index_mut-slot.result.now (Some (Up u0)) c.requires.process c.index_mut-slot.ensures.value there in
    subst (MayTake g.C.Checkpoint c.args.store.now c.args.dev.now (answer_of c.args.answer.now)) (sym read)
    (may_turn g.C.Checkpoint c.args.processes.now.left c.args.store.now c.args.dev.now (slot_at slots0 p) c.args.call (answer_of c.args.answer.now) (length slots0) p (record { up = u0; there = there; fit = c.requires.next.fit; runs = c.requires.next.runs; room = c.requires.next.room; found = c.requires.next.found }) c.requires.next.counts c.requires.left of.1 of.2 c.requires.kind c.requires.plain c.requires.sender)

pub returns-in-Ok-clause-went : goal.returns-in-Ok-clause-went
returns-in-Ok-clause-went g c stores at index images schedule core words words1 alone told0 told1 now world inside given =
    let met = g.met.C.Checkpoint in
    let laws : Laws g.C.Checkpoint = record {
      untouched_self = met.untouched_self;
      untouched_on = met.untouched_on;
      untouched_back = met.untouched_back;
      lent_still = met.lent_still;
      ready_still = met.ready_still;
      prepared_still = met.prepared_still;
      decidable_still = met.decidable_still;
      steady_still = met.steady_still;
      leaves_still = met.leaves_still;
      numbers_still = met.numbers_still;
      contents_still = met.contents_still;
      continues_self = met.continues_self;
      continues_on = met.continues_on;
    } in
    let p = c.args.p in
    let u0 = c.requires.next.up in
    let slots0 = c.args.processes.now.slots.items in
    let there : slot_at slots0 p ≡ Some (Up u0) = c.requires.next.there in
    let of : IsOf c.args.processes.now.protocol (length slots0) p (Up u0) = c.requires.well.each p (Up u0) c.requires.process there in
    let t = c.in-Ok.ensures.taken u0 (there_read slots0 p c.index_mut-slot.result.now (Some (Up u0)) c.requires.process c.index_mut-slot.ensures.value there) in
    let u1 = t.up in
    let p_same : u1.kernel.p ≡ p = t.same.p_same ∙ of.2 in
    let n_is : u1.kernel.n ≡ length slots0 = t.same.n_same ∙ of.1 in
    let put_is : slice_set slots0 p c.take_in.new.slot ≡ slice_set slots0 p (Some (Up u1)) = ap (slice_set slots0 p) t.there in
    let slots_note : c.note_exposed.new.self.slots.items ≡ slice_set slots0 p (Some (Up u1)) = ap (λ (w : Processes). w.slots.items) c.note_exposed.ensures.rest ∙ put_is in
    let commit_is : c.commit_of-commit.result ≡ u0.kernel.commit = c.commit_of-commit.ensures ∙ ap (λ s. (held_in s).kernel.commit) there in
    let long : length c.tell.new.processes.slots.items ≡ length slots0 = c.tell.ensures.long ∙ ap (λ xs. length xs) slots_note ∙ length-set slots0 p (Some (Up u1)) in
    let old = stage_of stores c.args.dev.now c.args.processes.now in
    let new = later (length (lines_of c.take_in.new.shown)) (stage_of (slice_set stores p c.take_in.new.store) c.take_in.new.dev c.tell.new.processes) in
    let inputs = lists_of c.args.processes.now.inputs.items in
    let pr = c.args.processes.now.protocol in
    let a = answer_of c.args.answer.now in
    let left_is : c.tell.new.processes.left ≡ c.args.processes.now.left = ap (λ (w : Processes). w.left) c.tell.ensures.rest ∙ ap (λ (w : Processes). w.left) c.note_exposed.ensures.rest in
    let told_old : g.C.Checkpoint.contents c.args.store.now c.args.dev.now ≡ Some words = ap (λ o. memory_of g.C.Checkpoint o c.args.dev.now) (sym at) ∙ told0 in
    let goes : TakesTurn g.C.Checkpoint pr a (process c.args.store.now c.args.dev.now (held u0)) (process c.take_in.new.store c.take_in.new.dev (held u1)) =
    subst (λ q. TakesTurn g.C.Checkpoint q a (process c.args.store.now c.args.dev.now (held u0)) (process c.take_in.new.store c.take_in.new.dev (held u1))) of.3 t.goes in
    let here : IsAt (system images inputs pr) p (own p core.acts) (core.procs p) words (held u0) =
    at_now g.C.Checkpoint (system images inputs pr) schedule c.args.processes.now.entries core now old world p c.args.store.now at u0 there inside words told_old in
    let called = told_at (λ ws. c.args.call ≡ called_by (next_of (over u0.guest ws))) (g.C.Checkpoint.contents c.args.store.now c.args.dev.now) words told_old c.requires.next.found in
    let done = t.showed.done in
    let showed = told_at (λ ws. done ≡ shown_of (effect_of (event_of (next_of (over u0.guest ws)) (machine_over u0.guest ws))) u0.kernel.visible) (g.C.Checkpoint.contents c.args.store.now c.args.dev.now) words told_old t.showed.showed in
    let exposed_is : c.is_exposed.result ≡ exposed_by c.args.call done = c.is_exposed.ensures ∙ ap (exposed_by c.args.call) t.showed.shown_is ∙ exposed_shown c.args.call u0.kernel.p done in
    let acts_is = told_at (λ ws. c.take_in.new.acts.items ≡ acts_with c.args.processes.now.acts.items u0.kernel c.args.processes.now.entries a) (g.C.Checkpoint.contents c.args.store.now c.args.dev.now) words told_old t.acts in
    let acts_new : c.tell.new.processes.acts.items ≡ c.take_in.new.acts.items = ap (λ (w : Processes). w.acts.items) c.tell.ensures.rest ∙ ap (λ (w : Processes). w.acts.items) c.note_exposed.ensures.rest in
    let xs = c.args.processes.now.exposed.items in
    let ts = c.take_in.new.acts.items in
    let exposed_as = ap (λ b. if b && nat_lt c.count_of-acts.result (acts_of p ts) then slice_set xs p (acts_of p ts) else xs) exposed_is
    ∙ ap (λ n. if exposed_by c.args.call done && nat_lt n (acts_of p ts) then slice_set xs p (acts_of p ts) else xs) c.count_of-acts.ensures
    ∙ ap (λ zs. if exposed_by c.args.call done && nat_lt (acts_of p c.args.processes.now.acts.items) (acts_of p zs) then slice_set xs p (acts_of p zs) else xs) (sym acts_new) in
    let count_is : length (lines_of c.take_in.new.shown) ≡ line_count done = ap (λ v. length (lines_of v)) t.showed.shown_is ∙ lines_count u0.kernel.p done in
    world_next g.C.Checkpoint laws images inputs pr alone schedule c.args.processes.now.entries core now old new world p inside
    c.args.store.now c.take_in.new.store at u0 u1 there words words1
    told_old (memory_set g.C.Checkpoint stores p c.args.store.now c.take_in.new.store c.take_in.new.dev words1 at told1)
    a given c.requires.next.floor goes
    refl index c.in-Ok.ensures.call.touches.others t.same.others_same t.quiet
    (keeps_all slots0 c.note_exposed.new.self.slots.items c.tell.new.processes.slots.items p u1 c.requires.process slots_note u0 c.commit_of-commit.result commit_is (λ e. ap (λ (w : Processes). w.slots.items) (c.tell.ensures.quiet e)) c.tell.ensures.learns)
    (learns_each slots0 c.note_exposed.new.self.slots.items c.tell.new.processes.slots.items p u1 c.requires.process slots_note u0 c.commit_of-commit.result commit_is (λ e. ap (λ (w : Processes). w.slots.items) (c.tell.ensures.quiet e)) c.tell.ensures.learns)
    (λ q less up. inside_each c.args.processes.now q p c.requires.well less c.requires.process up)
    (subst (λ m. p < m) (sym (t.whole.others_long ∙ n_is)) c.requires.process, subst (λ m. p < m) (sym (t.whole.links_long ∙ n_is)) c.requires.process)
    long
    (ap (λ (w : Processes). w.protocol) c.tell.ensures.rest ∙ ap (λ (w : Processes). w.protocol) c.note_exposed.ensures.rest)
    (ap (λ (w : Processes). lists_of w.inputs.items) c.tell.ensures.rest ∙ ap (λ (w : Processes). lists_of w.inputs.items) c.note_exposed.ensures.rest)
    (acts_new ∙ acts_is)
    (exposed_by c.args.call done)
    (λ e. exposes_is images inputs pr p (own p core.acts) (core.procs p) words u0 c.requires.next.fit.whole here c.requires.next.runs a c.args.call done called showed alone)
    c.requires.well.exposed_long
    (ap (λ (w : Processes). w.exposed.items) c.tell.ensures.rest ∙ c.note_exposed.ensures.exposed ∙ exposed_as)
    (ap (λ (w : Processes). w.lines + length (lines_of c.take_in.new.shown)) c.tell.ensures.rest ∙ ap (λ (w : Processes). w.lines + length (lines_of c.take_in.new.shown)) c.note_exposed.ensures.rest ∙ ap (λ n. c.args.processes.now.lines + n) count_is
    ∙ sym (lines_is images inputs pr p (own p core.acts) (core.procs p) words u0 c.requires.next.fit.whole here c.requires.next.runs a c.args.call done called showed core.lines ∙ ap (λ n. n + line_count done) world.lines_are))
    (omega (arith, c.requires.left, left_is))
    (numbered_more (2 ^ 32 - 1 - 2 * c.args.processes.now.left + 2) (2 ^ 32 - 1 - 2 * (c.tell.new.processes.left - 1)) (g.C.Checkpoint.leaves c.take_in.new.store c.take_in.new.dev 0) (omega (arith, c.requires.left, left_is, c.requires.next.counts.commit))
    (t.numbered 0 (2 ^ 32 - 1 - 2 * c.args.processes.now.left) c.requires.next.floor (omega (arith, c.requires.next.counts.commit))
    (numbered_less (2 ^ 32 - 1 - 2 * c.args.processes.now.left) (leaves_of g.C.Checkpoint old p 0) (g.C.Checkpoint.leaves c.args.store.now c.args.dev.now 0) (λ r l. and_some (λ x. g.C.Checkpoint.leaves x c.args.dev.now 0 r) (slice_get stores p) c.args.store.now at l) (world.numbered alone p inside))))
    c.in-Ok.ensures.call.no_higher

pub returns-in-Err-clause-fell : goal.returns-in-Err-clause-fell
returns-in-Err-clause-fell g c stores at index images schedule core words alone told0 now world inside given =
    let met = g.met.C.Checkpoint in
    let laws : Laws g.C.Checkpoint = record {
      untouched_self = met.untouched_self;
      untouched_on = met.untouched_on;
      untouched_back = met.untouched_back;
      lent_still = met.lent_still;
      ready_still = met.ready_still;
      prepared_still = met.prepared_still;
      decidable_still = met.decidable_still;
      steady_still = met.steady_still;
      leaves_still = met.leaves_still;
      numbers_still = met.numbers_still;
      contents_still = met.contents_still;
      continues_self = met.continues_self;
      continues_on = met.continues_on;
    } in
    let p = c.args.p in
    let u0 = c.requires.next.up in
    let slots0 = c.args.processes.now.slots.items in
    let there : slot_at slots0 p ≡ Some (Up u0) = c.requires.next.there in
    let of : IsOf c.args.processes.now.protocol (length slots0) p (Up u0) = c.requires.well.each p (Up u0) c.requires.process there in
    let t = c.in-Err.ensures.taken u0 (there_read slots0 p c.index_mut-slot.result.now (Some (Up u0)) c.requires.process c.index_mut-slot.ensures.value there) in
    let u1 = t.up in
    let p_same : u1.kernel.p ≡ p = t.same.p_same ∙ of.2 in
    let n_is : u1.kernel.n ≡ length slots0 = t.same.n_same ∙ of.1 in
    let put_is : slice_set slots0 p c.take_in.new.slot ≡ slice_set slots0 p (Some (Up u1)) = ap (slice_set slots0 p) t.there in
    let old = stage_of stores c.args.dev.now c.args.processes.now in
    let new = later 0 (stage_of (slice_set stores p c.fall.new.store) c.take_in.new.dev c.fall.new.processes) in
    let no_more : c.args.processes.now.lines + 0 ≡ c.args.processes.now.lines = omega arith in
    let left_is : c.fall.new.processes.left ≡ c.args.processes.now.left = ap (λ (w : Processes). w.left) c.fall.ensures.rest in
    let inputs = lists_of c.args.processes.now.inputs.items in
    let pr = c.args.processes.now.protocol in
    let S = system images inputs pr in
    let a = answer_of c.args.answer.now in
    let told_old : g.C.Checkpoint.contents c.args.store.now c.args.dev.now ≡ Some words = ap (λ o. memory_of g.C.Checkpoint o c.args.dev.now) (sym at) ∙ told0 in
    let here = at_now g.C.Checkpoint S schedule c.args.processes.now.entries core now old world p c.args.store.now at u0 there inside words told_old in
    let is_in = over_now g.C.Checkpoint S schedule c.args.processes.now.entries core now old world p c.args.store.now at u0 there inside words told_old alone in
    let alone_is = alone_given g.C.Checkpoint S schedule c.args.processes.now.entries core now old world p c.args.store.now at u0 there inside words told_old a given in
    let called = told_at (λ ws. c.args.call ≡ called_by (next_of (over u0.guest ws))) (g.C.Checkpoint.contents c.args.store.now c.args.dev.now) words told_old c.requires.next.found in
    let acts_fall : c.fall.new.processes.acts.items ≡ c.take_in.new.acts.items = ap (λ (w : Processes). w.acts.items) c.fall.ensures.rest in
    let stopped : IsStopped S (record { p = p; answers = own p core.acts; st = core.procs p }) a (slice_index u0.others) (g.C.Checkpoint.leaves c.take_in.new.store c.take_in.new.dev 0)
    (record { before = c.args.processes.now.acts.items; more = acts_with c.args.processes.now.acts.items u0.kernel c.args.processes.now.entries a; after = c.take_in.new.acts.items }) u1.based =
    subst (λ q. StopsTurn g.C.Checkpoint q a (process c.args.store.now c.args.dev.now (held u0)) (process c.take_in.new.store c.take_in.new.dev (held u1))
    (record { before = c.args.processes.now.acts.items; more = acts_with c.args.processes.now.acts.items u0.kernel c.args.processes.now.entries a; after = c.take_in.new.acts.items })) of.3 t.stopped
    images inputs p (own p core.acts) (core.procs p) 0 words c.requires.next.floor told_old is_in alone_is in
    let down : IsStopped S (record { p = p; answers = own p core.acts; st = core.procs p }) a (slice_index u0.others) (g.C.Checkpoint.leaves c.fall.new.store c.take_in.new.dev 0)
    (record { before = c.args.processes.now.acts.items; more = acts_with c.args.processes.now.acts.items u0.kernel c.args.processes.now.entries a; after = c.fall.new.processes.acts.items }) u1.based = record {
      place = stopped.place;
      somewhere = stopped.somewhere;
      may = stopped.may;
      stands = λ r l. stopped.stands r (c.fall.ensures.store.stands c.take_in.new.dev 0 r (omega arith) l);
      written = acts_fall ∙ stopped.written;
      based_is = stopped.based_is;
    } in (
      stopped.place,
      stopped.somewhere,
      stopped.may,
      world_stopped g.C.Checkpoint laws images inputs pr alone schedule c.args.processes.now.entries core now old new world p inside c.args.store.now c.fall.new.store at u0 there words told_old a given u1.based down
          refl index c.in-Err.ensures.call.touches.others c.fall.ensures.falls.down
          (c.fall.ensures.falls.based_same ∙ ap based_in (still_there slots0 (slice_set slots0 p c.take_in.new.slot) c.fall.new.processes.slots.items p u1 c.requires.process put_is))
          (hears_fallen slots0 (slice_set slots0 p c.take_in.new.slot) c.fall.new.processes.slots.items p u1 c.requires.process put_is c.fall.ensures.learns)
          (λ q less up. inside_each c.args.processes.now q p c.requires.well less c.requires.process up)
          (c.fall.ensures.long ∙ length-set slots0 p c.take_in.new.slot) (ap (λ (w : Processes). w.protocol) c.fall.ensures.rest) (ap (λ (w : Processes). lists_of w.inputs.items) c.fall.ensures.rest) (ap (λ (w : Processes). w.exposed.items) c.fall.ensures.rest)
          (ap (last_at S.exposes S.guests p) (acts_alone S c.args.processes.now.entries core p a stopped.place) ∙ last_stays S p (own p core.acts) (core.procs p) a stopped.place (next_of (over u0.guest words)) (machine_over u0.guest words)
          is_in.going.within (event_is images inputs pr p (own p core.acts) (core.procs p) words u0 c.requires.next.fit.whole here c.requires.next.runs a)
          (kind_called a (next_of (over u0.guest words)) (subst (λ z. may_answer a (kind_by z) ≡ true) called c.requires.kind) (λ e. c.requires.plain (called ∙ e))) (exposes_output pr) stopped.may stopped.somewhere)
          (ap (λ (w : Processes). w.lines + 0) c.fall.ensures.rest ∙ no_more ∙ sym world.lines_are ∙ ap (λ xs. length xs) (sym (lines_kept stopped.place stopped.somewhere _ core.lines)))
          (omega (arith, c.requires.left, left_is))
          (numbered_more (2 ^ 32 - 1 - 2 * c.args.processes.now.left + 2) (2 ^ 32 - 1 - 2 * (c.fall.new.processes.left - 1)) (g.C.Checkpoint.leaves c.fall.new.store c.take_in.new.dev 0) (omega (arith, c.requires.left, left_is, c.requires.next.counts.commit))
          (numbered_less (2 ^ 32 - 1 - 2 * c.args.processes.now.left + 2) (g.C.Checkpoint.leaves c.take_in.new.store c.take_in.new.dev 0) (g.C.Checkpoint.leaves c.fall.new.store c.take_in.new.dev 0) (λ r l. c.fall.ensures.store.stands c.take_in.new.dev 0 r (omega arith) l)
          (t.numbered 0 (2 ^ 32 - 1 - 2 * c.args.processes.now.left) c.requires.next.floor (omega (arith, c.requires.next.counts.commit))
          (numbered_less (2 ^ 32 - 1 - 2 * c.args.processes.now.left) (leaves_of g.C.Checkpoint old p 0) (g.C.Checkpoint.leaves c.args.store.now c.args.dev.now 0) (λ r l. and_some (λ x. g.C.Checkpoint.leaves x c.args.dev.now 0 r) (slice_get stores p) c.args.store.now at l) (world.numbered alone p inside)))))
          (λ m below e has. c.in-Err.ensures.call.no_higher m below e (c.fall.ensures.store.numbers c.take_in.new.dev e has)),
    )

-- the others, and what its own store needs
pub returns-in-Ok-clause-others : goal.returns-in-Ok-clause-others
returns-in-Ok-clause-others g c =
    let p = c.args.p in
    let u0 = c.requires.next.up in
    let slots0 = c.args.processes.now.slots.items in
    let there : slot_at slots0 p ≡ Some (Up u0) = c.requires.next.there in
    let t = c.in-Ok.ensures.taken u0 (there_read slots0 p c.index_mut-slot.result.now (Some (Up u0)) c.requires.process c.index_mut-slot.ensures.value there) in
    let u1 = t.up in
    let put_is : slice_set slots0 p c.take_in.new.slot ≡ slice_set slots0 p (Some (Up u1)) = ap (slice_set slots0 p) t.there in
    let slots_note : c.note_exposed.new.self.slots.items ≡ slice_set slots0 p (Some (Up u1)) = ap (λ (w : Processes). w.slots.items) c.note_exposed.ensures.rest ∙ put_is in
    let commit_is : c.commit_of-commit.result ≡ u0.kernel.commit = c.commit_of-commit.ensures ∙ ap (λ s. (held_in s).kernel.commit) there in
    let long : length c.tell.new.processes.slots.items ≡ length slots0 = c.tell.ensures.long ∙ ap (λ xs. length xs) slots_note ∙ length-set slots0 p (Some (Up u1)) in
    others_hear slots0 c.note_exposed.new.self.slots.items c.tell.new.processes.slots.items p u1 c.requires.process slots_note u0 c.commit_of-commit.result commit_is (λ e. ap (λ (w : Processes). w.slots.items) (c.tell.ensures.quiet e)) c.tell.ensures.learns c.tell.ensures.long

pub returns-in-Err-clause-others : goal.returns-in-Err-clause-others
returns-in-Err-clause-others g c =
    let p = c.args.p in
    let u0 = c.requires.next.up in
    let slots0 = c.args.processes.now.slots.items in
    let there : slot_at slots0 p ≡ Some (Up u0) = c.requires.next.there in
    let t = c.in-Err.ensures.taken u0 (there_read slots0 p c.index_mut-slot.result.now (Some (Up u0)) c.requires.process c.index_mut-slot.ensures.value there) in
    let u1 = t.up in
    let put_is : slice_set slots0 p c.take_in.new.slot ≡ slice_set slots0 p (Some (Up u1)) = ap (slice_set slots0 p) t.there in
    others_fallen slots0 (slice_set slots0 p c.take_in.new.slot) c.fall.new.processes.slots.items p u1 c.requires.process put_is c.fall.ensures.learns c.fall.ensures.long

pub returns-in-Err-clause-handled : goal.returns-in-Err-clause-handled
returns-in-Err-clause-handled g c =
    let p = c.args.p in
    let u0 = c.requires.next.up in
    let slots0 = c.args.processes.now.slots.items in
    let there : slot_at slots0 p ≡ Some (Up u0) = c.requires.next.there in
    let t = c.in-Err.ensures.taken u0 (there_read slots0 p c.index_mut-slot.result.now (Some (Up u0)) c.requires.process c.index_mut-slot.ensures.value there) in
    let u1 = t.up in
    let put_is : slice_set slots0 p c.take_in.new.slot ≡ slice_set slots0 p (Some (Up u1)) = ap (slice_set slots0 p) t.there in
    let still : slot_at (slice_set slots0 p c.take_in.new.slot) p ≡ Some (Up u1) = still_there slots0 (slice_set slots0 p c.take_in.new.slot) c.fall.new.processes.slots.items p u1 c.requires.process put_is in
    handled_down g.C.Checkpoint (c.args.processes.now.left - 1) c.take_in.new.store c.fall.new.store c.take_in.new.dev (slot_at (slice_set slots0 p c.take_in.new.slot) p) (slot_at c.fall.new.processes.slots.items p) c.fall.ensures.falls (subst IsSome (sym still) refl) c.fall.ensures.store
    c.in-Err.ensures.call.touches.lent (ap size_in still ∙ t.same.size_same ∙ c.requires.next.fit.sized ∙ ap (λ n. 4 * n) (sym c.in-Err.ensures.call.touches.same.size_same))

pub returns-in-Ok-clause-handled : goal.returns-in-Ok-clause-handled
returns-in-Ok-clause-handled g c =
    let p = c.args.p in
    let u0 = c.requires.next.up in
    let slots0 = c.args.processes.now.slots.items in
    let there : slot_at slots0 p ≡ Some (Up u0) = c.requires.next.there in
    let of : IsOf c.args.processes.now.protocol (length slots0) p (Up u0) = c.requires.well.each p (Up u0) c.requires.process there in
    let t = c.in-Ok.ensures.taken u0 (there_read slots0 p c.index_mut-slot.result.now (Some (Up u0)) c.requires.process c.index_mut-slot.ensures.value there) in
    let u1 = t.up in
    let p_same : u1.kernel.p ≡ p = t.same.p_same ∙ of.2 in
    let n_is : u1.kernel.n ≡ length slots0 = t.same.n_same ∙ of.1 in
    let put_is : slice_set slots0 p c.take_in.new.slot ≡ slice_set slots0 p (Some (Up u1)) = ap (slice_set slots0 p) t.there in
    let slots_note : c.note_exposed.new.self.slots.items ≡ slice_set slots0 p (Some (Up u1)) = ap (λ (w : Processes). w.slots.items) c.note_exposed.ensures.rest ∙ put_is in
    let commit_is : c.commit_of-commit.result ≡ u0.kernel.commit = c.commit_of-commit.ensures ∙ ap (λ s. (held_in s).kernel.commit) there in
    let long : length c.tell.new.processes.slots.items ≡ length slots0 = c.tell.ensures.long ∙ ap (λ xs. length xs) slots_note ∙ length-set slots0 p (Some (Up u1)) in
    let one_more : (c.args.processes.now.left - 1) + 1 ≡ c.args.processes.now.left = omega (arith, c.requires.left) in
    let fit : IsHandled g.C.Checkpoint (c.args.processes.now.left - 1) c.take_in.new.store c.take_in.new.dev (Some (Up u1)) = (
      record {
        lent = c.in-Ok.ensures.call.touches.lent;
        ready = c.in-Ok.ensures.ready;
        sized = t.same.size_same ∙ c.requires.next.fit.sized ∙ ap (λ n. 4 * n) (sym c.in-Ok.ensures.call.touches.same.size_same);
        paired = t.paired;
        whole = t.whole;
      },
      t.counts (c.args.processes.now.left - 1) (subst (λ n. HasCountsFor n u0.kernel) (sym one_more) c.requires.next.counts),
      (let a = c.in-Ok.ensures.call.floor in let b = c.requires.next.floor in omega (arith, a, b)),
    ) in
    handled_told slots0 c.note_exposed.new.self.slots.items c.tell.new.processes.slots.items p u1 c.requires.process slots_note u0 c.commit_of-commit.result commit_is (λ e. ap (λ (w : Processes). w.slots.items) (c.tell.ensures.quiet e)) c.tell.ensures.learns
    g.C.Checkpoint (c.args.processes.now.left - 1) c.take_in.new.store c.take_in.new.dev (subst (λ m. p < m) (sym (t.whole.links_long ∙ n_is)) c.requires.process)
    (λ u is. (c.tell.ensures.well.each p (Up u) (subst (λ m. p < m) (sym long) c.requires.process) is).0) fit

pub returns-in-Ok-clause-showed : goal.returns-in-Ok-clause-showed
returns-in-Ok-clause-showed g c =
    let slots0 = c.args.processes.now.slots.items in
    let u0 = c.requires.next.up in
    let there : slot_at slots0 c.args.p ≡ Some (Up u0) = c.requires.next.there in
    let of : IsOf c.args.processes.now.protocol (length slots0) c.args.p (Up u0) = c.requires.well.each c.args.p (Up u0) c.requires.process there in
    let t = c.in-Ok.ensures.taken u0 (there_read slots0 c.args.p c.index_mut-slot.result.now (Some (Up u0)) c.requires.process c.index_mut-slot.ensures.value there) in
    record {
      done = t.showed.done;
      mark_is = t.showed.mark_is;
      shown_is = t.showed.shown_is ∙ ap (λ q. visible_shown q t.showed.done) of.2;
      showed = λ u at. subst (λ v. IfSome (g.C.Checkpoint.contents c.args.store.now c.args.dev.now) (λ ws. t.showed.done ≡ shown_of (effect_of (event_of (next_of (over v.guest ws)) (machine_over v.guest ws))) v.kernel.visible)) (up_same u0 u (sym there ∙ at)) t.showed.showed;
    }

-- what each of them requires of the processes
pub tell-requires-clause-well : goal.tell-requires-clause-well
tell-requires-clause-well g c =
    let p = c.args.p in
    let u0 = c.requires.next.up in
    let slots0 = c.args.processes.now.slots.items in
    let there : slot_at slots0 p ≡ Some (Up u0) = c.requires.next.there in
    let of : IsOf c.args.processes.now.protocol (length slots0) p (Up u0) = c.requires.well.each p (Up u0) c.requires.process there in
    let t = c.in-Ok.ensures.taken u0 (there_read slots0 p c.index_mut-slot.result.now (Some (Up u0)) c.requires.process c.index_mut-slot.ensures.value there) in
    let u1 = t.up in
    let p_same : u1.kernel.p ≡ p = t.same.p_same ∙ of.2 in
    let n_is : u1.kernel.n ≡ length slots0 = t.same.n_same ∙ of.1 in
    let put_is : slice_set slots0 p c.take_in.new.slot ≡ slice_set slots0 p (Some (Up u1)) = ap (slice_set slots0 p) t.there in
    let slots_note : c.note_exposed.new.self.slots.items ≡ slice_set slots0 p (Some (Up u1)) = ap (λ (w : Processes). w.slots.items) c.note_exposed.ensures.rest ∙ put_is in
    well_put c.args.processes.now c.note_exposed.new.self p (Up u1) c.requires.well c.requires.process (t.whole, n_is, p_same, t.same.protocol_same ∙ of.3) slots_note (ap (λ (w : Processes). w.protocol) c.note_exposed.ensures.rest) (ap (λ (w : Processes). w.inputs) c.note_exposed.ensures.rest)
    (ap (λ xs. length xs) c.note_exposed.ensures.exposed ∙ noted_long _ c.args.processes.now.exposed.items p _)

pub fall-requires-clause-well : goal.fall-requires-clause-well
fall-requires-clause-well g c =
    let p = c.args.p in
    let u0 = c.requires.next.up in
    let slots0 = c.args.processes.now.slots.items in
    let there : slot_at slots0 p ≡ Some (Up u0) = c.requires.next.there in
    let of : IsOf c.args.processes.now.protocol (length slots0) p (Up u0) = c.requires.well.each p (Up u0) c.requires.process there in
    let t = c.in-Err.ensures.taken u0 (there_read slots0 p c.index_mut-slot.result.now (Some (Up u0)) c.requires.process c.index_mut-slot.ensures.value there) in
    let u1 = t.up in
    let p_same : u1.kernel.p ≡ p = t.same.p_same ∙ of.2 in
    let n_is : u1.kernel.n ≡ length slots0 = t.same.n_same ∙ of.1 in
    let put_is : slice_set slots0 p c.take_in.new.slot ≡ slice_set slots0 p (Some (Up u1)) = ap (slice_set slots0 p) t.there in
    well_put c.args.processes.now _ p (Up u1) c.requires.well c.requires.process (t.whole, n_is, p_same, t.same.protocol_same ∙ of.3) put_is refl refl refl
