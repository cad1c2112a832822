use Rattle.std.proofs.Common.{inl, sym, subst}
use Rattle.dc_run.specs.Auditing.{journal_in}
use Rattle.dc_run.specs.Commands.{IsExact}
use Rattle.dc_run.proofs.Audits.{judged_told}
use Rattle.dc_run.proofs.Works.{exact_refusal, exact_work, for_known}
use Rattle.dc_run.proofs.auditing.audit_journal.Goals as goal

pub returns-in-Err-clause-refused : goal.returns-in-Err-clause-refused
returns-in-Err-clause-refused g c = λ refusal is. for_known _ (λ files here. subst (λ v. IsExact v refusal (journal_in files c.args.journal.now)) (sym c.idle.ensures.verdict)
    (exact_refusal c.in-Err.verdict refusal (journal_in files c.args.journal.now) is (c.in-Err.ensures.told files here)))

pub returns-in-Ok-clause-refused : goal.returns-in-Ok-clause-refused
returns-in-Ok-clause-refused g c = λ refusal is. for_known _ (λ files here.
    let told = judged_told c.in-Ok.finding (journal_in files c.args.journal.now) (c.in-Ok.ensures.told files here) in
    exact_work c.conclude_audit.result.verdict refusal (journal_in files c.args.journal.now) told.0 is told.1 (inl c.conclude_audit.ensures.ended))
