use Rattle.std.proofs.Common.{◌∙◌}
use Rattle.dc_run.specs.Checking.{found_view, passed_by}
use Rattle.dc_command.specs.Command.{names_view}
use Rattle.dc_run.specs.Refusals.{verdict_of}
use Rattle.dc_run.proofs.Checks.{found_exact}
use Rattle.dc_run.proofs.Works.{for_known, refused_exact, told_before, told_verdict}
use Rattle.dc_run.proofs.checking.check_output.Goals as goal

pub returns-in-Ok-clause-refused : goal.returns-in-Ok-clause-refused
returns-in-Ok-clause-refused g c = λ refusal is. for_known _ (λ files here. found_exact files (names_view c.args.names.now) (found_view c.in-Ok.found) c.conclude_check.result _ _ refusal
    (c.in-Ok.ensures.told files here) is c.conclude_check.ensures.exact)

pub returns-in-Err-clause-refused : goal.returns-in-Err-clause-refused
returns-in-Err-clause-refused g c = λ refusal is. for_known _ (λ files here. refused_exact (verdict_of c.in-Err.refusal) c.idle.result.verdict refusal _ (c.idle.ensures.verdict ∙ c.verdict_of.ensures) is
    (told_before (verdict_of c.in-Err.refusal) _ passed_by (told_verdict c.in-Err.refusal _ (c.in-Err.ensures.told files here))))
