use Rattle.std.proofs.Common.{◌∙◌, rules, sym, subst, length, IfSome, ◌<◌}
use Rattle.std.specs.Vec.{vec_capacity}
use Rattle.std.proofs.lemmas.Option.{slice_get_read}
use Rattle.dc_plain.proofs.Moving.{counted, moved_sending, moved_showing, moved_unseen, one_more, sending}
use Rattle.dc_guest.specs.Guest.{coming}
use Rattle.dc_guest.specs.Nexts.{IsToAnother}
use Rattle.dc_plain.specs.Playing.{RoomAt, local_of}
use Rattle.dc_plain.proofs.process.Process.turn.Goals as goal

pub returns-in-Nothing-clause-moved : goal.returns-in-Nothing-clause-moved
returns-in-Nothing-clause-moved c = λ images inputs. moved_unseen images inputs (local_of c.args.self.now) _ _ _ _
    c.turn-effect.ensures.after
    c.count_taken.ensures
    (counted c.args.self.now.received _ _ _ c.deref_mut.ensures.value c.count_received.ensures.each c.count_received.ensures.counted)
    (sym c.in-Nothing.is ∙ c.turn-effect.ensures.effect)

pub returns-in-Shows-clause-moved : goal.returns-in-Shows-clause-moved
returns-in-Shows-clause-moved c = λ images inputs. moved_showing images inputs (local_of c.args.self.now) _ _ _ _
    c.turn-effect.ensures.after
    c.count_taken.ensures
    (counted c.args.self.now.received _ _ _ c.deref_mut.ensures.value c.count_received.ensures.each c.count_received.ensures.counted)
    c.in-Shows.body (sym c.in-Shows.is ∙ c.turn-effect.ensures.effect)

pub returns-in-Sends-clause-moved : goal.returns-in-Sends-clause-moved
returns-in-Sends-clause-moved c =
    let another = subst (IsToAnother c.args.self.now.guest) c.in-Sends.is c.turn-effect.ensures.receiver in
    let there = slice_get_read c.args.self.now.sent.items c.args.self.now.guest.count c.in-Sends.to c.index_mut.result.now (sym c.args.self.now.sent_to_each) another.0 c.index_mut.ensures.value in
    let at = sending (coming c.args.self.now.guest) c.in-Sends.to c.in-Sends.message (sym c.turn-effect.ensures.effect ∙ c.in-Sends.is) in
    let room = subst (λ v. IfSome v (λ w. length w.items < vec_capacity w)) there (subst (RoomAt c.args.self.now) at c.requires.room) in
    let succeeds = c.push.ensures.succeeds in
    let items = c.push.ensures.items in
    λ images inputs. moved_sending images inputs (local_of c.args.self.now) _ _ _ _
    c.turn-effect.ensures.after
    c.count_taken.ensures
    (counted c.args.self.now.received _ _ _ c.deref_mut.ensures.value c.count_received.ensures.each c.count_received.ensures.counted)
    c.in-Sends.to c.in-Sends.message _ (sym c.in-Sends.is ∙ c.turn-effect.ensures.effect)
    (one_more c.args.self.now.sent.items c.in-Sends.to c.index_mut.result.now c.push.new.self c.in-Sends.message there (search (rules, room, succeeds, items)))
