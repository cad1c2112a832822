use Rattle.std.proofs.Common.{rules}
use Rattle.dc_asm.proofs.Counts.{two_alone, two_more, two_ok}
use Rattle.dc_asm.proofs.forms.two.Goals as goal

pub returns-in_default : goal.returns-in_default
returns-in_default c = two_alone c.args.text.now (search rules)

pub returns-in-Some-first_field : goal.returns-in-Some-first_field
returns-in-Some-first_field c = two_more c.args.text.now c.in-Some.first.now c.in-Some.rest.now c.in-Some-first_field.field-0.0.now c.in-Some-first_field.field-0.1.now
    c.in-Some.ensures.some c.in-Some-first_field.ensures.some

pub returns-in-None : goal.returns-in-None
returns-in-None c = rw (c.without_blanks.ensures, c.without_blanks-in-None.ensures) (two_ok c.args.text.now c.in-Some.first.now c.in-Some.rest.now c.in-Some.ensures.some (search rules))
