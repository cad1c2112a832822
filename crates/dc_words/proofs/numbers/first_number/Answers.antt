use Rattle.std.proofs.Common.{◌≡◌, ◌∙◌, ◌++◌, ◌∷◌, None, ap, arith, decimal, false, true, get_or, rules, sym}
use Rattle.std.proofs.lemmas.Bool.{true≢false}
use Rattle.std.proofs.lemmas.Option.{IfSome_then}
use Rattle.dc_words.specs.Numbers.{is_digit}
use Rattle.dc_words.proofs.Leading.{as_written, begins, behind_zero, first_digit, written, zero_first}
use Rattle.dc_words.proofs.numbers.first_number.Goals as goal

pub returns-in_err-behind-clause-none : goal.returns-in_err-behind-clause-none
returns-in_err-behind-clause-none c = λ e n rest small is.
    let none : c.behind.result ≡ None = search rules in
    c.behind.ensures.none none rest (behind_zero c.args.stop n c.args.text.now rest (omega (arith, small, c.requires.short)) c.in-len1-up.len_at_least c.if-c-eq48.true is)

pub returns-then-c-eq48-clause-some : goal.returns-then-c-eq48-clause-some
returns-then-c-eq48-clause-some c = (zero_first c.args.stop c.args.text.now c.in_ok-behind.field-0.now c.in-len1-up.len_at_least c.if-c-eq48.true c.in_ok-behind.ensures.some, omega arith)

pub returns-then-not-is_digit-clause-none : goal.returns-then-not-is_digit-clause-none
returns-then-not-is_digit-clause-none c = λ e n rest small is.
    let no : is_digit (get_or c.args.text.now 0 0) ≡ false = search rules in
    true≢false (sym (first_digit c.args.stop n c.args.text.now rest (omega (arith, small, c.requires.short)) is) ∙ no)

pub returns-clause-some : goal.returns-clause-some
returns-clause-some c = IfSome_then c.number_up_to.result c.number_up_to.ensures.some (λ x on.
    let yes : is_digit (get_or c.args.text.now 0 0) ≡ true = search rules in
    let front = begins c.args.stop c.args.text.now on.0 x.1.now c.requires.apart yes on.2 in
    let is = as_written on.0 front.0 on.1 (λ e. c.if-c-eq48.false (sym front.1 ∙ e)) (omega (arith, on.3, on.4, c.requires.short)) in
    (on.2 ∙ ap (λ xs. xs ++ c.args.stop ∷ x.1.now) (is ∙ ap decimal on.3), on.4))

pub returns-clause-none : goal.returns-clause-none
returns-clause-none c = λ e n rest small is.
    let w = written n (omega (arith, small, c.requires.short)) in
    c.number_up_to.ensures.none e (decimal n) rest w.0 (rw w.1 small) is
