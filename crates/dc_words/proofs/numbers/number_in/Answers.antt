use Rattle.std.proofs.Common.{◌∙◌, Err, ap, rules}
use Rattle.dc_words.proofs.Digits.{past}
use Rattle.dc_words.specs.declared.numbers.NumberFault.{NumberFault}
use Rattle.dc_words.proofs.numbers.number_in.Goals as goal

pub returns-in_default-with_digit : goal.returns-in_default-with_digit
returns-in_default-with_digit c = ap (λ (f : NumberFault). Err f) c.past.ensures ∙ past c.args.max c.loop-rest.value c.args.text.now c.loop-rest.rest.now c.if-not-can_begin.ensures c.loop-rest.invariant.digits
    c.if-not-is_digit.ensures c.loop-rest.invariant.value c.in-len1-up.len_at_least (search rules)
