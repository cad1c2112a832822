use Rattle.std.proofs.Common.{◌∙◌, ap, refl, sym}
use Rattle.std.specs.Option.{option_map}
use Rattle.std.proofs.lemmas.Option.{slice_get_read}
use Rattle.dc_guest.specs.Answers.{answer_of}
use Rattle.dc_plain.proofs.Fitting.{answer_fits, no_answer}
use Rattle.dc_plain.proofs.plain.fitting.Goals as goal

pub returns-in_err-answer-clause-exact : goal.returns-in_err-answer-clause-exact
returns-in_err-answer-clause-exact c = λ images visibles. ap (option_map answer_of) c.from_residual.ensures
    ∙ no_answer images c.args.inputs.now c.args.processes.now visibles c.args.p c.args.act.now
    (sym (c.answer_for.ensures.exact images visibles) ∙ ap (option_map answer_of) c.in_err-answer.was)

pub returns-then-fits-clause-exact : goal.returns-then-fits-clause-exact
returns-then-fits-clause-exact c = λ images visibles. answer_fits images c.args.inputs.now c.args.processes.now visibles c.args.p c.args.act.now
    (answer_of c.in_ok-answer.answer) c.index-processes-p.result c.next_input-next.result _
    (sym (c.answer_for.ensures.exact images visibles) ∙ ap (option_map answer_of) c.in_ok-answer.was)
    (slice_get_read c.args.processes.now _ c.args.p c.index-processes-p.result refl c.requires.process c.index-processes-p.is)
    c.next_input-next.ensures.exact c.if-fits.ensures

pub returns-else-fits-clause-exact : goal.returns-else-fits-clause-exact
returns-else-fits-clause-exact c = λ images visibles. answer_fits images c.args.inputs.now c.args.processes.now visibles c.args.p c.args.act.now
    (answer_of c.in_ok-answer.answer) c.index-processes-p.result c.next_input-next.result _
    (sym (c.answer_for.ensures.exact images visibles) ∙ ap (option_map answer_of) c.in_ok-answer.was)
    (slice_get_read c.args.processes.now _ c.args.p c.index-processes-p.result refl c.requires.process c.index-processes-p.is)
    c.next_input-next.ensures.exact c.if-fits.ensures
