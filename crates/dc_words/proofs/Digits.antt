-- A number that is read digit by digit.
use Rattle.std.proofs.Common.{◌≡◌, ℕ, ◌+◌, ◌-◌, ◌*◌, ◌<◌, ◌≤◌, ◌∙◌, Bool, true, false, List, [], ◌∷◌, length, drop, take, get_or, Err, ap, arith, sym, refl, ⊎_elim}
use Rattle.std.specs.Char.{digit_value}
use Rattle.std.specs.List.{list_all}
use Rattle.std.specs.Str.Parse.{digits_value, digits_value_after}
use Rattle.std.proofs.Math.Bool.{and-true}
use Rattle.std.proofs.lemmas.Bool.{cases_Bool, lt-leb, true≢false}
use Rattle.std.proofs.lemmas.Bool.Decides.{nat_tests}
use Rattle.std.proofs.lemmas.List.{take_all}
use Rattle.std.proofs.lemmas.Str.{digit_value_digit}
use Rattle.dc_words.specs.Numbers.{can_begin, is_digit, is_number, number_of, past_by}
use Rattle.dc_words.specs.declared.numbers.NumberFault.TheVariants.{NotNumber, Range}

-- digits only add to a value
pub after_ge : (n : ℕ) (cs : List ℕ) → n ≤ digits_value_after 10 n cs
after_ge n [] = omega arith
after_ge n (c ∷ cs) = let h = after_ge (n * 10 + digit_value c) cs in omega (arith, h)

-- the value of a digit
pub digit_is : (c : ℕ) → 48 ≤ c → c ≤ 57 → digit_value c ≡ c - 48
digit_is c low high = let h : digit_value c + 48 ≡ c = digit_value_digit c (low, high) in omega (arith, h)

-- the first of some digits
pub first_is : (c : ℕ) (cs : List ℕ) → list_all is_digit (c ∷ cs) ≡ true → (48 ≤ c) × (c ≤ 57)
first_is c cs h = grind (arith, nat_tests)

-- a number over the greatest is out of range
range_of : (max : ℕ) (text : List ℕ) → is_number text ≡ true → max < digits_value 10 text → Err Range ≡ number_of max text
range_of max text form large = rw (form, lt-leb (digits_value 10 text) max large) refl

-- what can begin a number is one where all of it are digits
begun : (text : List ℕ) → can_begin text ≡ true → is_number text ≡ list_all is_digit text
begun [] can = absurd (true≢false (sym can))
begun (c ∷ cs) can = rw can (and-true (list_all is_digit (c ∷ cs)))

-- a byte that is no digit makes none
none_of : (max : ℕ) (text : List ℕ) → can_begin text ≡ true → list_all is_digit text ≡ false → Err NotNumber ≡ number_of max text
none_of max text can none = rw (begun text can, none) refl

-- digits behind a digit
digits_on : (c : ℕ) (cs : List ℕ) → is_digit c ≡ true → list_all is_digit (c ∷ cs) ≡ list_all is_digit cs
digits_on c cs is = rw is refl

-- where the next digit passes the greatest, so does the number, or it is none
pub past : (max value : ℕ) (text rest : List ℕ) → true ≡ can_begin text → list_all is_digit rest ≡ list_all is_digit text → true ≡ is_digit (get_or rest 0 0)
    → digits_value_after 10 value rest ≡ digits_value 10 text → 1 ≤ length rest → max < value * 10 + (get_or rest 0 0 - 48) → Err (past_by (list_all is_digit (take (length rest - 1) (drop 1 rest)))) ≡ number_of max text
past max value text [] can digits is same some large = absurd (omega (arith, some))
past max value text (c ∷ after) can digits is same some large = ap (λ (cs : List ℕ). Err (past_by (list_all is_digit cs))) (take_all (length (c ∷ after) - 1) after (omega arith)) ∙ ⊎_elim
    (λ (all : list_all is_digit after ≡ true).
    let whole : list_all is_digit text ≡ true = sym digits ∙ digits_on c after (sym is) ∙ all in
    let within = first_is c [] (rw (sym is) refl) in
    let e = digit_is c within.0 within.1 in
    let g = after_ge (value * 10 + digit_value c) after in
    ap (λ (b : Bool). Err (past_by b)) all ∙ range_of max text (begun text (sym can) ∙ whole) (omega (arith, large, e, g, same)))
    (λ (some_not : list_all is_digit after ≡ false). ap (λ (b : Bool). Err (past_by b)) some_not ∙ none_of max text (sym can) (sym digits ∙ digits_on c after (sym is) ∙ some_not))
    (cases_Bool (list_all is_digit after))
