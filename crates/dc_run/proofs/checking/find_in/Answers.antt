use Rattle.std.proofs.Common.{◌∙◌, ap, rules, sym}
use Rattle.std.proofs.lemmas.Result.{err_from_is_err_and}
use Rattle.dc_report.specs.Reads.{seen}
use Rattle.dc_words.specs.Results.{◌>>=◌}
use Rattle.dc_run.specs.Checking.{found_at_end}
use Rattle.dc_command.specs.Command.{names_view}
use Rattle.dc_run.specs.Settings.{setting_of}
use Rattle.dc_run.specs.declared.refusal.Refusal.TheVariants.{Library}
use Rattle.dc_run.proofs.Checks.{asked_of_run, asked_output, found_by, read_for}
use Rattle.dc_run.proofs.Openings.{same_refusal, told_on}
use Rattle.dc_run.proofs.checking.find_in.Goals as goal

pub returns-in_err-opened-clause-reached : goal.returns-in_err-opened-clause-reached
returns-in_err-opened-clause-reached g c = λ files w known fault.
    let p = err_from_is_err_and c.from_residual.result c.from_residual.ensures.1 in
    let failed = same_refusal c.in_err-opened.field-0.0 (Library w) (rw (p.1, p.2) at fault) in
    asked_of_run files (names_view c.args.names.now) w (c.in_err-opened.ensures.reached files w known failed)

pub returns-in_err-out-clause-told : goal.returns-in_err-out-clause-told
returns-in_err-out-clause-told g c = λ files known.
    let p = err_from_is_err_and c.from_residual-in_err-out.result c.from_residual-in_err-out.ensures.1 in
    let opened = c.in_ok-opened.ensures.files ∙ known in
    let setting = setting_of c.in_ok-opened.opened in
    let report = seen c.in_ok-report.report in
    let reads = read_for files c.in_ok-opened.opened _ _ _ (search rules) (c.in_ok-report.ensures.told files opened) in
    rw (p.1, p.2) (told_on c.in_err-out.field-0.0 _ _ (λ e. found_by files (names_view c.args.names.now) setting report (c.in_ok-opened.ensures.told files known) reads
    ∙ ap (λ out. out >>= found_at_end setting report) e) (c.in_err-out.ensures.told files (c.in_ok-report.ensures.files ∙ opened)))

pub returns-in_err-out-clause-reached : goal.returns-in_err-out-clause-reached
returns-in_err-out-clause-reached g c = λ files w known fault.
    let p = err_from_is_err_and c.from_residual-in_err-out.result c.from_residual-in_err-out.ensures.1 in
    let failed = same_refusal c.in_err-out.field-0.0 (Library w) (rw (p.1, p.2) at fault) in
    let opened = c.in_ok-opened.ensures.files ∙ known in
    asked_output files (names_view c.args.names.now) (setting_of c.in_ok-opened.opened) (seen c.in_ok-report.report) w (c.in_ok-opened.ensures.told files known)
    (read_for files c.in_ok-opened.opened _ _ _ (search rules) (c.in_ok-report.ensures.told files opened)) (c.in_err-out.ensures.which w failed)
    (c.in_err-out.ensures.there files w (c.in_ok-report.ensures.files ∙ opened) failed)

pub returns-in-Ok-clause-told : goal.returns-in-Ok-clause-told
returns-in-Ok-clause-told g c = λ files known.
    let opened = c.in_ok-opened.ensures.files ∙ known in
    let setting = setting_of c.in_ok-opened.opened in
    let report = seen c.in_ok-report.report in
    found_by files (names_view c.args.names.now) setting report (c.in_ok-opened.ensures.told files known)
    (read_for files c.in_ok-opened.opened _ _ _ (search rules) (c.in_ok-report.ensures.told files opened))
    ∙ ap (λ out. out >>= found_at_end setting report) (c.in_ok-out.ensures.told files (c.in_ok-report.ensures.files ∙ opened))
    ∙ ap (found_at_end setting report) (sym c.deref.ensures.value) ∙ sym c.in-Ok.ensures
