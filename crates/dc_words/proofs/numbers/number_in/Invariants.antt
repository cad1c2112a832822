use Rattle.std.proofs.Common.{◌≡◌, ◌≤◌, length}
use Rattle.std.specs.List.{list_all}
use Rattle.std.specs.Str.Parse.{digits_value, digits_value_after}
use Rattle.dc_words.specs.Numbers.{is_digit}
use Rattle.dc_words.proofs.numbers.number_in.Given as goal

-- what is left goes on from the value so far
abbrev pub invariant-loop-rest : goal.invariant-loop-rest
invariant-loop-rest l = record {
  value : digits_value_after 10 l.value l.rest ≡ digits_value 10 l.text;
  digits : list_all is_digit l.rest ≡ list_all is_digit l.text;
  small : l.value ≤ l.max;
}

abbrev pub decreases-loop-rest : goal.decreases-loop-rest
decreases-loop-rest l = length l.rest
