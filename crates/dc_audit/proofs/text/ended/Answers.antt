use Rattle.std.proofs.Common.{◌∙◌, sym}
use Rattle.dc_audit.proofs.Auditing.{good_end, late_end}
use Rattle.dc_audit.proofs.text.ended.Goals as goal

pub returns-then-not-is_empty : goal.returns-then-not-is_empty
returns-then-not-is_empty c = late_end c.args.number c.args.after.now c.args.failure c.args.events c.fault_at.result (sym c.is_empty.ensures ∙ c.if-not-is_empty.true) c.fault_at.ensures

pub returns : goal.returns
returns c = good_end c.args.number c.args.after.now c.args.failure c.args.events c.verdict.result (sym c.is_empty.ensures ∙ c.if-not-is_empty.false) c.verdict.ensures
