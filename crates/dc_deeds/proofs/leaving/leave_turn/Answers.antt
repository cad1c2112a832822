use Rattle.std.proofs.Common.{◌∙◌, ◌++◌, ap, append_assoc}
use Rattle.dc_deeds.proofs.Marks.{lines_sixteen}
use Rattle.dc_deeds.specs.Events.{deed_lines, marked_lines}
use Rattle.dc_deeds.proofs.leaving.leave_turn.Goals as goal

pub returns-clause-sixteen : goal.returns-clause-sixteen
returns-clause-sixteen c =
    let old = c.args.lines.now.items in
    let before = marked_lines c.args.asked.before c.args.members.now in
    let event = deed_lines c.args.p c.args.deed in
    let after = marked_lines c.args.asked.after c.args.members.now in
    lines_sixteen c.args.p c.args.members.now c.requires.sixteen.0 c.requires.sixteen.1 c.args.asked c.args.deed old _
    (c.leave_commit-2.ensures.lines ∙ ap (λ xs. xs ++ after) (c.leave_event.ensures.lines ∙ ap (λ xs. xs ++ event) c.leave_commit.ensures.lines ∙ append_assoc old before event) ∙ append_assoc old (before ++ event) after)
