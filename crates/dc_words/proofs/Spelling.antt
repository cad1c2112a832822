-- A number has one text.
use Rattle.std.proofs.Common.{◌≡◌, ◌∙◌, ℕ, ◌+◌, ◌^◌, ◌<◌, ◌≤◌, ◌⊎◌, inl, inr, ◌||◌, ◌==◌, not, Bool, true, false, List, []}
use Rattle.std.proofs.Common.{◌∷◌, length, get_or, nat_le, Ok, Err, if◌then◌else◌, arith, ap, sym, refl, decimal, zero, suc}
use Rattle.std.specs.Char.{digit_value}
use Rattle.std.specs.List.{list_all}
use Rattle.std.specs.Str.Parse.{digits_value, AllDigits}
use Rattle.std.proofs.Math.Bool.{or-true}
use Rattle.std.proofs.lemmas.Bool.{and_parts, leb-true, le-leb, eq-eqb}
use Rattle.std.proofs.lemmas.Bool.Decides.{nat_tests}
use Rattle.std.proofs.lemmas.Str.{digit_value_digit}
use Rattle.std.proofs.lemmas.Str.Parse.{IsNumeralModel, digit_from_value}
use Rattle.std.proofs.lemmas.Fmt.{decimal-digits_value, decimal_is_IsNumeral, first_decimal, decimal_digit}
use Rattle.dc_words.specs.Numbers.{is_digit, is_number, number_of}
use Rattle.dc_words.specs.declared.numbers.NumberFault.TheVariants.{Range, NotNumber}

-- the digits and the value that std's lemmas speak of are these
own : IsNumeralModel (AllDigits 10) (digits_value 10)
own = record { to = λ _ d. d; from = λ _ d. d; same = λ _ _. refl }

digit_bounds : (c : ℕ) → is_digit c ≡ true → (48 ≤ c) × (c ≤ 57)
digit_bounds c h = grind (arith, nat_tests)

all_digits : (cs : List ℕ) → list_all is_digit cs ≡ true → AllDigits 10 cs
all_digits [] h = tt
all_digits (c ∷ cs) h =
    let p = and_parts (is_digit c) (list_all is_digit cs) h in
    let b = digit_bounds c p.0 in
    let e : digit_value c + 48 ≡ c = digit_value_digit c b in
    (omega (arith, e, b.1), all_digits cs p.1)

-- where the first digit is 0 it is the only one
leading : (c : ℕ) (cs : List ℕ) → (length cs == 0 || not (c == 48)) ≡ true → c ≡ 48 → length (c ∷ cs) ≡ 1
leading c [] h e = refl
leading c (d ∷ ds) h e = grind (arith, nat_tests)

-- a number's text is the one that its value is written as
pub spelled : (text : List ℕ) → is_number text ≡ true → digits_value 10 text < 2 ^ 64 → decimal (digits_value 10 text) ≡ text
spelled [] h small = absurd (let e : ⊥ = cc in e)
spelled (c ∷ cs) h small = let p = and_parts (list_all is_digit (c ∷ cs)) (length cs == 0 || not (c == 48)) h in
    decimal-digits_value own (c ∷ cs) (all_digits (c ∷ cs) p.0) (omega arith) (leading c cs p.1) small

-- where a reading gives a number, both of its tests hold
pick : (f r : Bool) (v n : ℕ) → (if f then (if r then Ok v else Err Range) else Err NotNumber) ≡ Ok n → (f ≡ true) × (r ≡ true) × (v ≡ n)
pick true true v n h = (refl, refl, cc)
pick true false v n h = absurd (let e : ⊥ = cc in e)
pick false r v n h = absurd (let e : ⊥ = cc in e)

-- what is read is written so
pub number_spelled : (max n : ℕ) (text : List ℕ) → max < 2 ^ 64 → number_of max text ≡ Ok n → (text ≡ decimal n) × (n ≤ max)
number_spelled max n text small h =
    let p = pick (is_number text) (nat_le (digits_value 10 text) max) (digits_value 10 text) n h in
    let le = leb-true (digits_value 10 text) max p.1 in
    (sym (spelled text p.0 (omega (arith, le))) ∙ ap decimal p.2, omega (arith, le, p.2))

-- digits are digits by our test
digits_back : (cs : List ℕ) → AllDigits 10 cs → list_all is_digit cs ≡ true
digits_back [] d = refl
digits_back (c ∷ cs) d = let b = digit_from_value c d.0 in rw (is_digit_from c b.0 b.1, digits_back cs d.1) refl
  where
    is_digit_from : (c : ℕ) → 48 ≤ c → c ≤ 57 → is_digit c ≡ true
    is_digit_from c low high = rw (le-leb 48 c low, le-leb c 57 high) refl

-- digits with no leading zero have the form of a number
number_from : (cs : List ℕ) → 0 < length cs → AllDigits 10 cs → (length cs ≡ 1) ⊎ (48 < get_or cs 0 0) → is_number cs ≡ true
number_from [] some d first = absurd (omega arith)
number_from (c ∷ cs) some d (inl one) = rw (digits_back (c ∷ cs) d, eq-eqb (length cs) 0 (omega (arith, one))) refl
number_from (c ∷ cs) some d (inr later) = rw (digits_back (c ∷ cs) d, not_48 c later) (or-true (length cs == 0))
  where
    not_48 : (c : ℕ) → 48 < c → (c == 48) ≡ false
    not_48 c h = grind (arith, nat_tests)

-- what is written is read again
pub number_again : (max n : ℕ) → n ≤ max → n < 2 ^ 64 → number_of max (decimal n) ≡ Ok n
number_again max n le small =
    let d = decimal_is_IsNumeral n small in
    rw (number_from (decimal n) d.0.0 d.0.1 (first n small), d.1, le-leb n max le) refl
  where
    first : (n : ℕ) → n < 2 ^ 64 → (length (decimal n) ≡ 1) ⊎ (48 < get_or (decimal n) 0 0)
    first zero small = inl (ap length (decimal_digit 0 (omega arith)))
    first (suc n) small = inr (first_decimal (suc n) (omega arith) small)
