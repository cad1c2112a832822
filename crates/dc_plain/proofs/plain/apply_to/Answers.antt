use Rattle.std.proofs.Common.{◌∙◌, Some, ap, refl, sym}
use Rattle.std.specs.Option.{option_map}
use Rattle.dc_guest.specs.Answers.{answer_of}
use Rattle.dc_guest.specs.Guest.{guests_of}
use Rattle.dc_words.specs.Lists.{lists_of}
use Rattle.dc_plain.specs.Playing.{world_at}
use Rattle.dc_plain.proofs.Applying.{applies, refused}
use Rattle.dc_plain.proofs.plain.apply_to.Goals as goal

pub returns-in_default-clause-illegal : goal.returns-in_default-clause-illegal
returns-in_default-clause-illegal c = λ images. (
  λ e. refused (guests_of images (lists_of c.args.inputs.now)) (world_at c.args.processes.now c.args.visibles.now.items) c.args.p c.args.act.now
      (sym (ap (option_map answer_of) c.in_default.is) ∙ c.fitting.ensures.exact images c.args.visibles.now.items),
  λ e. refl,
)

pub returns-in_default-play-clause-illegal : goal.returns-in_default-play-clause-illegal
returns-in_default-play-clause-illegal c = λ images.
    let some = applies (guests_of images (lists_of c.args.inputs.now)) (world_at c.args.processes.now c.args.visibles.now.items) c.args.p c.args.act.now (answer_of c.in-Some.answer)
    (sym (ap (option_map answer_of) c.in-Some.is) ∙ c.fitting.ensures.exact images c.args.visibles.now.items) in
    (λ e. absurd cc, λ none. let never = sym some ∙ none in absurd cc)

pub returns-clause-applied : goal.returns-clause-applied
returns-clause-applied c = λ images.
    let some = applies (guests_of images (lists_of c.args.inputs.now)) (world_at c.args.processes.now c.args.visibles.now.items) c.args.p c.args.act.now (answer_of c.in-Some.answer)
    (sym (ap (option_map answer_of) c.in-Some.is) ∙ c.fitting.ensures.exact images c.args.visibles.now.items) in
    some ∙ ap (λ w. Some w) (sym (c.in-Ok.ensures.happened images (lists_of c.args.inputs.now)))

pub returns-clause-illegal : goal.returns-clause-illegal
returns-clause-illegal c = λ images.
    let some = applies (guests_of images (lists_of c.args.inputs.now)) (world_at c.args.processes.now c.args.visibles.now.items) c.args.p c.args.act.now (answer_of c.in-Some.answer)
    (sym (ap (option_map answer_of) c.in-Some.is) ∙ c.fitting.ensures.exact images c.args.visibles.now.items) in
    (λ e. absurd cc, λ none. let never = sym some ∙ none in absurd cc)

pub returns-clause-happens : goal.returns-clause-happens
returns-clause-happens c = λ images. record {
  answered = sym (sym (ap (option_map answer_of) c.in-Some.is) ∙ c.fitting.ensures.exact images c.args.visibles.now.items);
  new_is = c.in-Ok.ensures.happened images (lists_of c.args.inputs.now);
  shows = c.in-Ok.ensures.shows;
  sends = c.in-Ok.ensures.sends;
}
