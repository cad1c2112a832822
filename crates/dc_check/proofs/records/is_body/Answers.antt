use Rattle.dc_check.proofs.Fields.{no_body}
use Rattle.dc_check.proofs.records.is_body.Goals as goal

pub returns-in-Some-first_field : goal.returns-in-Some-first_field
returns-in-Some-first_field c = no_body c.args.name.now c.args.body.now c.in-Some.cause.now c.in-Some.pc.now c.in-Some-first_field.field-0.0.now c.in-Some-first_field.field-0.1.now
    c.in-Some.ensures.some c.in-Some-first_field.ensures.some
