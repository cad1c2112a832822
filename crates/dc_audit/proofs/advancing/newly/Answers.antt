use Rattle.std.proofs.Common.{◌≡◌, ◌∙◌, sym, true, false}
use Rattle.dc_audit.specs.Journals.{is_firm}
use Rattle.dc_audit.proofs.Judging.{judged_clear, judged_first, judged_other}
use Rattle.dc_audit.proofs.advancing.newly.Goals as goal

pub returns-then-not-is_firm : goal.returns-then-not-is_firm
returns-then-not-is_firm c = judged_other c.args.index c.args.line.now c.args.clock.now (let e : is_firm c.args.line.now ≡ false = sym c.is_firm.ensures ∙ c.if-not-is_firm.true in e)

pub returns-in-Some : goal.returns-in-Some
returns-in-Some c = judged_first c.args.index c.args.line.now c.args.clock.now c.in-Some.event (let e : is_firm c.args.line.now ≡ true = sym c.is_firm.ensures ∙ c.if-not-is_firm.false in e) c.in-Some.ensures

pub returns-in-None : goal.returns-in-None
returns-in-None c = judged_clear c.args.index c.args.line.now c.args.clock.now c.in-None.ensures
