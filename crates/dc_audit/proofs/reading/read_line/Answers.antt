use Rattle.std.proofs.Common.{◌∙◌, sym}
use Rattle.dc_audit.proofs.Fielding.{said_many}
use Rattle.dc_audit.proofs.reading.read_line.Goals as goal

pub returns-clause-exact : goal.returns-clause-exact
returns-clause-exact c = c.read_event_line.ensures.exact ∙ sym (said_many c.args.n c.args.text.now c.in-Some.name.now c.in-Some.rest.now c.in-Some-first_field.p.now c.in-Some-first_field.did.now c.in-Some.ensures.some c.in-Some-first_field.ensures.some)
