use Rattle.std.proofs.Common.{rules}
use Rattle.dc_asm.proofs.Counts.{one_more, one_none, one_ok}
use Rattle.dc_asm.proofs.forms.one.Goals as goal

pub returns-then-is_empty : goal.returns-then-is_empty
returns-then-is_empty c = one_none c.args.text.now c.is_empty.result c.is_empty.ensures c.if-is_empty.true

pub returns-in-Some : goal.returns-in-Some
returns-in-Some c = one_more c.args.text.now c.in-Some.field-0.0.now c.in-Some.field-0.1.now c.in-Some.ensures.some

pub returns-in-None : goal.returns-in-None
returns-in-None c = rw c.without_blanks.ensures (one_ok c.args.text.now c.is_empty.result c.is_empty.ensures c.if-is_empty.false (search rules))
