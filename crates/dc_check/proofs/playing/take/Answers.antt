use Rattle.std.proofs.Common.{◌∙◌, ◌++◌, ◌+◌, arith, ap, sym, length, length-append, [], rules}
use Rattle.dc_acts.specs.Lines.{text_of}
use Rattle.dc_guest.specs.Guest.{guests_of}
use Rattle.dc_plain.specs.Playing.{world_in}
use Rattle.dc_check.proofs.Applied.{at_most_one, behind, refused, taken, texts_behind}
use Rattle.dc_check.proofs.playing.take.Goals as goal

pub returns-in-Err-clause-illegal : goal.returns-in-Err-clause-illegal
returns-in-Err-clause-illegal c = λ is images w stands. refused (guests_of images c.args.plain.now.inputs) w c.args.taken.now.p c.args.taken.now.act (world_in c.args.plain.now) stands.world ((c.in-Err.ensures.illegal images).0 (search rules))

pub add_lines-requires : goal.add_lines-requires
add_lines-requires c = let one = (at_most_one (guests_of [] c.args.plain.now.inputs) (world_in c.args.plain.now) c.args.taken.now.p c.args.taken.now.act _ (c.in-Ok.ensures.applied [])).records in
    omega (arith, one, ap length c.requires.bare, c.requires.lines, ap length c.visibles.ensures)

pub returns-clause-applied : goal.returns-clause-applied
returns-clause-applied c = λ images w stands. (
  behind w.visibles (world_in c.apply.new.self),
  taken (guests_of images c.args.plain.now.inputs) w c.args.taken.now.p c.args.taken.now.act (world_in c.args.plain.now) (world_in c.apply.new.self) stands.world (c.in-Ok.ensures.applied images),
  record {
    world = c.forget_visibles.ensures.world;
    text = c.in-Ok-add_lines.ensures.text ∙ ap (λ v. v ++ text_of c.visibles.result.now) stands.text ∙ ap (λ v. text_of w.visibles ++ text_of v) c.visibles.ensures ∙ texts_behind w.visibles c.apply.new.self.visibles;
    count = c.in-Ok-add_lines.ensures.count ∙ ap (λ n. n + length c.visibles.result.now) stands.count ∙ ap (λ v. length w.visibles + length v) c.visibles.ensures ∙ sym (length-append w.visibles c.apply.new.self.visibles);
  },
)
