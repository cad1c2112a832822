use Rattle.std.proofs.Common.{◌∙◌, sym}
use Rattle.dc_audit.proofs.Auditing.{late_cut}
use Rattle.dc_audit.proofs.text.cut_off.Goals as goal

pub returns : goal.returns
returns c = late_cut c.args.line c.args.rest.now c.fault_at.result (sym c.is_empty.ensures ∙ c.if-is_empty.false) c.fault_at.ensures
