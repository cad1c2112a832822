use Rattle.std.proofs.Common.{◌∙◌, ◌≤◌, length, rules, subst, sym}
use Rattle.dc_command.specs.Command.{halted_view}
use Rattle.dc_model.proofs.Rising.{TurnsBelow}
use Rattle.dc_report.specs.Reads.{seen}
use Rattle.dc_run.specs.Again.{going_of}
use Rattle.dc_run.specs.Settings.{Answers, setting_of}
use Rattle.dc_run.specs.declared.resuming.Going.{Going}
use Rattle.dc_run.proofs.Checks.{read_for}
use Rattle.dc_run.proofs.Goings.{asked_to_open, going_is, halted_below, library_of, ok_by}
use Rattle.dc_run.proofs.Halts.{acts_below_few}
use Rattle.dc_run.proofs.resuming.going_at.Goals as goal

pub returns-in-Err-clause-reached : goal.returns-in-Err-clause-reached
returns-in-Err-clause-reached g c files w known fault = asked_to_open files (halted_view c.args.names.now) w (c.in-Err.ensures.reached files w known (library_of c.in-Err.refusal c.verdict_of.result w c.verdict_of.ensures fault))

pub returns-clause-told : goal.returns-clause-told
returns-clause-told g c files known =
    let reads = read_for files c.in-Ok.opened _ _ _ (search rules) (c.in-Ok-report_at.ensures.told files (c.in-Ok.ensures.files ∙ known)) in
    subst (Answers going_of c.going_with.result) (sym (going_is files (halted_view c.args.names.now) (setting_of c.in-Ok.opened) c.in-Ok.opened.halt (seen c.in-Ok-report_at.report) (c.in-Ok.ensures.told files known) (c.in-Ok.ensures.halt files known) reads)) c.going_with.ensures.told

pub returns-clause-acts : goal.returns-clause-acts
returns-clause-acts g c = ok_by c.going_with.result c.going_with.ensures.same c.going_with.ensures.halted (λ (x : Going) same halted.
    let below = halted_below c.len-n.result c.in-Ok.opened.setting.scheduled.schedule.items (seen c.in-Ok-report_at.report) c.in-Ok-report_at.ensures.is halted in
    subst (λ r. length r.acts.items ≤ r.entries) (sym same.1) (acts_below_few c.len-n.result c.in-Ok-report_at.report.entries c.in-Ok-report_at.report.acts.items c.in-Ok-report_at.ensures.is.acts below))

pub returns-clause-before : goal.returns-clause-before
returns-clause-before g c = ok_by c.going_with.result c.going_with.ensures.same c.going_with.ensures.halted (λ (x : Going) same halted.
    subst (λ r. TurnsBelow r.entries r.acts.items) (sym same.1) (halted_below c.len-n.result c.in-Ok.opened.setting.scheduled.schedule.items (seen c.in-Ok-report_at.report) c.in-Ok-report_at.ensures.is halted))

pub returns-clause-reached : goal.returns-clause-reached
returns-clause-reached g c files w known fault = absurd (c.going_with.ensures.own w fault)

pub returns-clause-fault : goal.returns-clause-fault
returns-clause-fault g c w fault = absurd (c.going_with.ensures.own w fault)
