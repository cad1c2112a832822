use Rattle.std.proofs.Common.{rules}
use Rattle.dc_asm.proofs.Counts.{three_alone, three_more, three_ok, three_short}
use Rattle.dc_asm.proofs.forms.three.Goals as goal

pub returns-in_default : goal.returns-in_default
returns-in_default c = three_alone c.args.text.now (search rules)

pub returns-in_default-first_field : goal.returns-in_default-first_field
returns-in_default-first_field c = three_short c.args.text.now c.in-Some.first.now c.in-Some.rest.now c.in-Some.ensures.some (search rules)

pub returns-in-Some-first_field-2 : goal.returns-in-Some-first_field-2
returns-in-Some-first_field-2 c = three_more c.args.text.now c.in-Some.first.now c.in-Some-first_field.second.now c.in-Some.rest.now c.in-Some-first_field.rest.now
    c.in-Some-first_field-2.field-0.0.now c.in-Some-first_field-2.field-0.1.now c.in-Some.ensures.some c.in-Some-first_field.ensures.some c.in-Some-first_field-2.ensures.some

pub returns-in-None : goal.returns-in-None
returns-in-None c = rw (c.without_blanks.ensures, c.without_blanks-in-None.ensures, c.without_blanks-in-None-2.ensures)
    (three_ok c.args.text.now c.in-Some.first.now c.in-Some-first_field.second.now c.in-Some.rest.now c.in-Some-first_field.rest.now c.in-Some.ensures.some c.in-Some-first_field.ensures.some (search rules))
