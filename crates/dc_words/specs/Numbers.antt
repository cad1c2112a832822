-- Numbers as digits, with no sign and no leading zero.
use Rattle.std.specs.Prelude.{ℕ, Bool, false, List, [], ◌∷◌, ◌&&◌, ◌||◌, ◌==◌, not, length, nat_le, nat_lt, Result, Ok, Err, if◌then◌else◌}
use Rattle.std.specs.List.{list_all}
use Rattle.std.specs.Str.Parse.{digits_value}
use Rattle.dc_words.specs.declared.numbers.NumberFault.{NumberFault}
use Rattle.dc_words.specs.declared.numbers.NumberFault.TheVariants.{NotNumber, Range}

-- a digit from 0 to 9
abbrev pub is_digit : ℕ → Bool
is_digit c = nat_le 48 c && nat_le c 57

-- the digits of a number: at least one, and no zero in front of others
abbrev pub is_number : List ℕ → Bool
is_number [] = false
is_number (c ∷ cs) = list_all is_digit (c ∷ cs) && (length cs == 0 || not (c == 48))

-- a number can begin so: with a byte, and with no zero in front of others
abbrev pub can_begin : List ℕ → Bool
can_begin [] = false
can_begin (c ∷ cs) = length cs == 0 || not (c == 48)

-- what is wrong with one that is past the greatest, by whether digits alone come behind it
abbrev pub past_by : Bool → NumberFault
past_by digits = if digits then Range else NotNumber

-- the number of a text, up to the greatest, or what is wrong
abbrev pub number_of : ℕ → List ℕ → Result ℕ NumberFault
number_of max text = if is_number text
    then (if nat_le (digits_value 10 text) max then Ok (digits_value 10 text) else Err Range)
    else Err NotNumber

-- the number that digits are
abbrev pub value : List ℕ → ℕ
value text = digits_value 10 text

-- a number below this bound
abbrev pub is_below : ℕ → List ℕ → Bool
is_below bound text = is_number text && nat_lt (value text) bound
