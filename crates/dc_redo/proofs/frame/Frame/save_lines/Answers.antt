use Rattle.std.proofs.Common.{subst}
use Rattle.dc_redo.specs.Entries.Entry.{Lines}
use Rattle.dc_redo.specs.Gathered.{gathered}
use Rattle.dc_redo.specs.Handles.{shape_of}
use Rattle.dc_redo.specs.Marking.{Adds}
use Rattle.dc_redo.proofs.frame.Frame.save_lines.Goals as goal

pub returns-clause-adds : goal.returns-clause-adds
returns-clause-adds g c =
    let sh = shape_of c.args.self.now in
    let marks = c.args.marks.now in
    let old = g.D.Disks.told c.args.dev.now c.args.self.now.index in
    let new = g.D.Disks.told c.add_lines.new.dev c.args.self.now.index in
    subst (λ v. Adds sh marks.at marks.end (Lines c.args.prepared c.args.number (gathered 0 v.items marks.body.items)) old new) c.sort.ensures.same c.in_ok-add_lines.ensures.adds
