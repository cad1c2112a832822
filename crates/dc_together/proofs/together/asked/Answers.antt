use Rattle.std.proofs.Common.{◌≡◌, ◌<◌, ◌∙◌, Some, ap, false, length, refl, slice_get, subst, sym}
use Rattle.std.proofs.lemmas.Bool.{true≢false}
use Rattle.std.proofs.lemmas.Option.{slice_get_read}
use Rattle.dc_events.specs.Kinds.{kind_of}
use Rattle.dc_guest.specs.Answers.{answer_of}
use Rattle.dc_guest.specs.Guest.{next_of, over}
use Rattle.dc_proc.specs.declared.up.Up.{Up as Process}
use Rattle.dc_twophase.proofs.Pairs.{known}
use Rattle.dc_processes.proofs.Allowing.{sender_is}
use Rattle.dc_processes.proofs.Beside.{some_there}
use Rattle.dc_together.proofs.Owns.{asked_at}
use Rattle.dc_processes.proofs.Slots.{up_same}
use Rattle.dc_processes.proofs.Telling.{told_at}
use Rattle.dc_processes.specs.Slots.{IsOf, is_up, slot_at}
use Rattle.dc_processes.specs.Stages.{stage_of}
use Rattle.dc_processes.specs.declared.slot.Slot.TheVariants.{Up}
use Rattle.dc_together.proofs.together.asked.Goals as goal

pub unreachable-requires : goal.unreachable-requires
unreachable-requires g c =
    let store = known c.args.stores.now c.args.p (subst (λ m. c.args.p < m) (sym c.requires.stores) c.requires.process) in
    let next = (c.requires.next store.0 store.1).1 in
    absurd (true≢false (sym (ap is_up next.there) ∙ c.up.ensures.none c.in-None.is))

pub returns-clause-asked : goal.returns-clause-asked
returns-clause-asked g c images core together told go inside world =
    let p = c.args.p in
    let store = c.index-stores-p.result in
    let dev = c.args.dev.now in
    let slots = c.args.processes.now.slots.items in
    let u = c.in-Some.up.now in
    let at : slice_get c.args.stores.now p ≡ Some store = slice_get_read c.args.stores.now (length c.args.stores.now) p store refl (subst (λ m. p < m) (sym c.requires.stores) c.requires.process) c.index-stores-p.is in
    let next = (c.requires.next store at).1 in
    let there : slot_at slots p ≡ Some (Up u) = c.in-Some.ensures.up in
    let same : next.up ≡ u = up_same next.up u (sym next.there ∙ there) in
    let of : IsOf c.args.processes.now.protocol (length slots) p (Up u) = c.requires.well.each p (Up u) c.requires.process there in
    let words = some_there (g.C.Checkpoint.contents store dev) (g.met.C.Checkpoint.told_contents store dev next.fit.ready (subst (g.C.Checkpoint.told dev) (sym (c.requires.belongs p store at).index_is) (told.told p c.requires.process))) in
    let kind_is = told_at (λ ws. c.next_kind-kind.result ≡ kind_of (next_of (over u.guest ws))) (g.C.Checkpoint.contents store dev) words.0 words.1 c.next_kind-kind.ensures in
    asked_at g.C.Checkpoint images core (stage_of c.args.stores.now dev c.args.processes.now) go world p inside store at u there words.0 words.1 of.0 (subst (λ (v : Process). v.guest.ended ≡ false) same next.runs)
    (answer_of c.args.answer.now) (sender_is u.kernel (length slots) p of.1 of.2 (answer_of c.args.answer.now) c.requires.sender)
    c.next_kind-kind.result kind_is c.any_unlogged.result c.any_unlogged.ensures c.asked.result of.3 c.asked.ensures
