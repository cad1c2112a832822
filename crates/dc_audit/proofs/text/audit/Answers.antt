use Rattle.dc_audit.proofs.Auditing.{no_heading, whole_text}
use Rattle.dc_audit.proofs.text.audit.Goals as goal

pub returns-in_default-heading : goal.returns-in_default-heading
returns-in_default-heading c = no_heading c.args.bytes.now c.in-Some.first.now c.in-Some.rest.now c.refused.result c.in-Some.ensures.some c.in_default-heading.ensures.exact c.refused.ensures

pub returns : goal.returns
returns c = whole_text c.args.bytes.now c.in-Some.first.now c.in-Some.rest.now c.in-Some-heading.n c.in-Some-heading.causal c.read_lines.result c.in-Some.ensures.some c.in-Some-heading.ensures.exact c.read_lines.ensures
