use Rattle.std.proofs.Common.{◌≡◌, ◌∙◌, ap, sym, arith, Result, Ok, Err, IfOk, ℕ, List, decimal, ◌<◌, ◌≤◌, ◌^◌}
use Rattle.dc_words.specs.Numbers.{number_of}
use Rattle.dc_words.specs.declared.numbers.NumberFault.{NumberFault}
use Rattle.dc_words.proofs.Spelling.{number_spelled, number_again}
use Rattle.dc_words.proofs.numbers.read_number.Goals as goal

-- what is read is written so
found : (max : ℕ) (text : List ℕ) (r : Result ℕ NumberFault) → max < 2 ^ 64 → r ≡ number_of max text
    → IfOk r (λ n. (text ≡ decimal n) × (n ≤ max))
found max text (Ok n) small e = number_spelled max n text small (sym e)
found max text (Err f) small e = tt

pub returns : goal.returns
returns c = record {
  found = found c.args.max c.args.text.now _ (omega (arith, c.ranges.max)) c.number_in.ensures;
  only = λ n le e. c.number_in.ensures ∙ ap (number_of c.args.max) e ∙ number_again c.args.max n le (omega (arith, le, c.ranges.max));
  exact = c.number_in.ensures;
}
