use Rattle.std.proofs.Common.{◌≡◌, ◌∙◌, ◌++◌, [], ◌∷◌, arith, ap, map, rules, sym}
use Rattle.dc_guest.specs.Answers.{answer_of}
use Rattle.dc_resume.specs.Deciding.{told_of}
use Rattle.dc_resume.specs.declared.told.Told.{Told}
use Rattle.dc_retrace.proofs.Keeping.{kept_full, kept_more, kept_plain}
use Rattle.dc_retrace.proofs.trail.Trail.keep.Goals as goal

pub returns-then-not-is_told-clause-told : goal.returns-then-not-is_told-clause-told
returns-then-not-is_told-clause-told c = λ answers count was. kept_plain answers c.args.self.now.position (answer_of c.args.answer.now) c.args.self.now.told.items was (search rules)

pub returns-then-len-ge-TOLD_ROOM-clause-told : goal.returns-then-len-ge-TOLD_ROOM-clause-told
returns-then-len-ge-TOLD_ROOM-clause-told c = λ answers count was. kept_full answers c.args.self.now.position (answer_of c.args.answer.now) c.args.self.now.told.items was (omega (arith, c.len.ensures, c.if-len-ge-TOLD_ROOM.true, c.args.self.now.few))

pub returns-clause-told : goal.returns-clause-told
returns-clause-told c = λ answers count was.
    let t : Told = record { position = c.args.self.now.count; answer = c.args.answer.now } in
    let succeeds = c.push.ensures.succeeds in
    let items = c.push.ensures.items in
    let room = c.args.self.now.room in
    let length_is = c.len.ensures in
    let less = c.if-len-ge-TOLD_ROOM.false in
    let pushed : c.push.new.self.items ≡ c.args.self.now.told.items ++ t ∷ [] = search (rules, room, succeeds, items, length_is, less) in
    ap (λ xs. map told_of xs) pushed ∙ kept_more answers c.args.self.now.position (answer_of c.args.answer.now) c.args.self.now.told.items was t (omega (arith, count, c.if-self.false)) (search rules) (omega (arith, length_is, less))
    (λ i. record { position = sym count i; answer = answer_of c.args.answer.now })
