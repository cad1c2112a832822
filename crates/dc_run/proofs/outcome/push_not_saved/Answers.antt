use Rattle.std.proofs.Common.{◌∙◌, ◌++◌, ap, append_assoc, codes, decimal}
use Rattle.dc_run.proofs.outcome.push_not_saved.Goals as goal

pub returns-clause-text : goal.returns-clause-text
returns-clause-text c =
    let was = c.args.line.now in
    let says = codes "not saved: line " in
    let before = codes " before line " in
    let event = decimal c.args.event in
    let at = decimal c.args.at in
    c.push_number-2.ensures.text ∙ ap (λ l. l ++ at) (c.push-2.ensures.text ∙ ap (λ l. l ++ before) (c.push_number.ensures.text ∙ ap (λ l. l ++ event) c.push.ensures.text))
    ∙ ap (λ l. (l ++ before) ++ at) (append_assoc was says event)
    ∙ ap (λ l. l ++ at) (append_assoc was (says ++ event) before)
    ∙ append_assoc was ((says ++ event) ++ before) at
