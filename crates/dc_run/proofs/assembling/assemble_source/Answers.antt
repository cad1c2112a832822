use Rattle.std.proofs.Common.{sym, subst}
use Rattle.dc_run.specs.Assembling.{program_in}
use Rattle.dc_run.specs.Commands.{IsExact}
use Rattle.dc_run.proofs.Works.{exact_refusal, for_known}
use Rattle.dc_run.proofs.assembling.assemble_source.Goals as goal

pub returns-in-Err-clause-refused : goal.returns-in-Err-clause-refused
returns-in-Err-clause-refused g c = λ refusal is. for_known _ (λ files here. subst (λ v. IsExact v refusal (program_in files c.args.source.now)) (sym c.idle.ensures.verdict)
    (exact_refusal c.in-Err.verdict refusal (program_in files c.args.source.now) is (c.in-Err.ensures.told files here)))
