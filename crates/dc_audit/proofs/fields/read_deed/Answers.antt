use Rattle.dc_audit.proofs.Fielding.{too_much_done}
use Rattle.dc_audit.proofs.fields.read_deed.Goals as goal

pub returns-in-Some-first_field-2 : goal.returns-in-Some-first_field-2
returns-in-Some-first_field-2 c = too_much_done c.args.text.now c.in-Some.name.now c.in-Some.rest.now c.in_ok-second.second.now c.in_ok-second.rest.now c.in-Some-first_field.third.now c.in-Some-first_field.rest.now
    c.in-Some-first_field-2.field-0.0.now c.in-Some-first_field-2.field-0.1.now c.in-Some.ensures.some c.in_ok-second.ensures.some c.in-Some-first_field.ensures.some c.in-Some-first_field-2.ensures.some
