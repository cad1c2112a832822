use Rattle.dc_asm.proofs.Counts.{none_given, some_given}
use Rattle.dc_asm.proofs.forms.bare_form.Goals as goal

pub returns-then-is_empty-clause-exact : goal.returns-then-is_empty-clause-exact
returns-then-is_empty-clause-exact c = none_given c.args.meant c.args.text.now c.is_empty.result c.is_empty.ensures c.if-is_empty.true

pub returns-else-is_empty-clause-exact : goal.returns-else-is_empty-clause-exact
returns-else-is_empty-clause-exact c = some_given c.args.meant c.args.text.now c.is_empty.result c.is_empty.ensures c.if-is_empty.false
