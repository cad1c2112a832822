use Rattle.std.proofs.Common.{◌≡◌, ◌∙◌, ap, ◌+◌, ◌-◌, ◌*◌, false, true, get_or, refl, rules, subst, sym, ◌<◌}
use Rattle.std.proofs.lemmas.Bool.{lt-leb, true≢false}
use Rattle.dc_words.specs.Numbers.{is_digit}
use Rattle.dc_words.proofs.Leading.{found_here, none_here, none_left, none_up_to}
use Rattle.dc_words.proofs.numbers.number_up_to.Goals as goal

pub returns-then-c-stop-clause-some : goal.returns-then-c-stop-clause-some
returns-then-c-stop-clause-some c =
    let on = found_here c.args.stop c.args.max c.loop-rest.value c.args.text.now c.loop-rest.rest.now c.in-len1-up.len_at_least c.if-c-stop.true c.loop-rest.invariant.small c.loop-rest.invariant.decides in
    (on.digits, on.all, on.text_is, on.value_is, on.small)

pub returns-else-c-stop-clause-none : goal.returns-else-c-stop-clause-none
returns-else-c-stop-clause-none c = λ e digits rest all small is.
    let no : is_digit (get_or c.loop-rest.rest.now 0 0) ≡ false = search rules in
    none_up_to c.args.stop c.args.max c.args.text.now digits rest c.requires.apart (sym c.loop-rest.invariant.decides
    ∙ none_here c.args.stop c.args.max c.loop-rest.value c.loop-rest.rest.now c.in-len1-up.len_at_least c.if-c-stop.false (rw no refl)) all small is

pub returns-then-value-max-clause-none : goal.returns-then-value-max-clause-none
returns-then-value-max-clause-none c = λ e digits rest all small is.
    let yes : is_digit (get_or c.loop-rest.rest.now 0 0) ≡ true = search rules in
    let digit : c.from.result ≡ get_or c.loop-rest.rest.now 0 0 - 48 = search rules in
    none_up_to c.args.stop c.args.max c.args.text.now digits rest c.requires.apart (sym c.loop-rest.invariant.decides
    ∙ none_here c.args.stop c.args.max c.loop-rest.value c.loop-rest.rest.now c.in-len1-up.len_at_least (λ at. true≢false (sym yes ∙ ap is_digit at ∙ c.requires.apart))
    (rw (yes, lt-leb (c.loop-rest.value * 10 + (get_or c.loop-rest.rest.now 0 0 - 48)) c.args.max (subst (λ k. c.args.max < c.loop-rest.value * 10 + k) digit c.if-value-max.true)) refl)) all small is

pub returns-clause-none : goal.returns-clause-none
returns-clause-none c = λ e digits rest all small is.
    none_up_to c.args.stop c.args.max c.args.text.now digits rest c.requires.apart (sym c.loop-rest.invariant.decides
    ∙ none_left c.args.stop c.args.max c.loop-rest.value c.loop-rest.rest.now c.in_default.len_below) all small is
