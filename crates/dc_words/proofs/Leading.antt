-- The number that a text begins with, up to a byte, digit by digit.
use Rattle.std.proofs.Common.{◌≡◌, ◌∙◌, ℕ, ◌+◌, ◌-◌, ◌*◌, ◌^◌, ◌<◌, ◌≤◌, ◌==◌, ◌&&◌, ◌||◌, not, Bool, true, false, List, [], ◌∷◌, ◌++◌, Option, None, Some, ap, sym, subst, refl, arith, decimal, length, nat_le, get_or, drop, take, if◌then◌else◌}
use Rattle.std.specs.Char.{digit_value}
use Rattle.std.specs.List.{list_all}
use Rattle.std.specs.Str.Parse.{digits_value, digits_value_after}
use Rattle.std.proofs.Math.Bool.{or-true}
use Rattle.std.proofs.lemmas.Bool.{and_parts, eq-eqb, eqb-true, le-leb, leb-true, ne_eqb, true≢false}
use Rattle.std.proofs.lemmas.Bool.Decides.{nat_tests}
use Rattle.std.proofs.lemmas.List.{take_all}
use Rattle.std.proofs.lemmas.Fmt.{decimal_digit}
use Rattle.dc_words.specs.Numbers.{is_digit, is_number, value}
use Rattle.dc_words.proofs.Reading.{decimal_reads, value_writes}
use Rattle.dc_words.proofs.Digits.{after_ge, digit_is, first_is}

-- the number of these digits behind a value, up to that byte, and what stands behind the byte
abbrev pub number_up_to : ℕ → ℕ → ℕ → List ℕ → Option (ℕ × List ℕ)
number_up_to stop max v [] = None
number_up_to stop max v (c ∷ cs) = if c == stop then Some (v, cs)
    else (if is_digit c && nat_le (v * 10 + (c - 48)) max then number_up_to stop max (v * 10 + (c - 48)) cs else None)

-- digits that stand behind a value, up to that byte
pub record IsUpTo (stop max v : ℕ) (text : List ℕ) (n : ℕ) (rest : List ℕ) : Type 0 where
  pub digits : List ℕ
  pub all : list_all is_digit digits ≡ true
  pub text_is : text ≡ digits ++ stop ∷ rest
  pub value_is : digits_value_after 10 v digits ≡ n
  pub small : n ≤ max

-- what is found, by its parts
same_found : (v n : ℕ) (cs rest : List ℕ) → ◌≡◌ {A = Option (ℕ × List ℕ)} (Some (v, cs)) (Some (n, rest)) → (v ≡ n) × (cs ≡ rest)
same_found v n cs rest e = (ap (λ (x : Option (ℕ × List ℕ)). number x) e, ap (λ (x : Option (ℕ × List ℕ)). others x) e)
  where
    number : Option (ℕ × List ℕ) → ℕ
    number None = 0
    number (Some x) = x.0

    others : Option (ℕ × List ℕ) → List ℕ
    others None = []
    others (Some x) = x.1

-- what is found are its digits
pub up_to : (stop max v : ℕ) (text : List ℕ) (n : ℕ) (rest : List ℕ) → v ≤ max → number_up_to stop max v text ≡ Some (n, rest) → IsUpTo stop max v text n rest
up_to stop max v [] n rest small e = absurd (let never : ⊥ = cc in never)
up_to stop max v (c ∷ cs) n rest small e = by (c == stop) (is_digit c) (nat_le (v * 10 + (c - 48)) max) refl refl refl e (λ fits on. up_to stop max (v * 10 + (c - 48)) cs n rest fits on)
  where
    by : (a b d : Bool) → (c == stop) ≡ a → is_digit c ≡ b → nat_le (v * 10 + (c - 48)) max ≡ d
        → (if a then Some (v, cs) else (if b && d then number_up_to stop max (v * 10 + (c - 48)) cs else None)) ≡ Some (n, rest)
        → (v * 10 + (c - 48) ≤ max → number_up_to stop max (v * 10 + (c - 48)) cs ≡ Some (n, rest) → IsUpTo stop max (v * 10 + (c - 48)) cs n rest) → IsUpTo stop max v (c ∷ cs) n rest
    by true b d at is fits e next = let p = same_found v n cs rest e in
        record { digits = []; all = refl; text_is = ap (λ x. x ∷ cs) (eqb-true c stop at) ∙ ap (λ xs. stop ∷ xs) p.1; value_is = p.0; small = subst (λ k. k ≤ max) p.0 small }
    by false false d at is fits e next = absurd (let never : ⊥ = cc in never)
    by false true false at is fits e next = absurd (let never : ⊥ = cc in never)
    by false true true at is fits e next =
        let on = next (leb-true (v * 10 + (c - 48)) max fits) e in
        let within = first_is c [] (rw is refl) in
        record { digits = c ∷ on.digits; all = rw (is, on.all) refl; text_is = ap (λ xs. c ∷ xs) on.text_is; value_is = rw (digit_is c within.0 within.1) on.value_is; small = on.small }

-- a byte that is no digit is another than one
apart : (c stop : ℕ) → is_digit stop ≡ false → is_digit c ≡ true → (c == stop) ≡ false
apart c stop free is = grind (arith, nat_tests)

same_byte : (c : ℕ) → (c == c) ≡ true
same_byte c = eq-eqb c c refl

-- and digits that are there are found
pub found_up_to : (stop max v : ℕ) (digits rest : List ℕ) → is_digit stop ≡ false → list_all is_digit digits ≡ true → digits_value_after 10 v digits ≤ max
    → number_up_to stop max v (digits ++ stop ∷ rest) ≡ Some (digits_value_after 10 v digits, rest)
found_up_to stop max v [] rest free all small = rw (same_byte stop) refl
found_up_to stop max v (c ∷ cs) rest free all small =
    let p = and_parts (is_digit c) (list_all is_digit cs) all in
    let within = first_is c [] (rw p.0 refl) in
    let d = digit_is c within.0 within.1 in
    let ge = after_ge (v * 10 + digit_value c) cs in
    rw (apart c stop free p.0, p.0, le-leb (v * 10 + (c - 48)) max (omega (arith, d, ge, small)))
    (subst (λ k. number_up_to stop max (v * 10 + k) (cs ++ stop ∷ rest) ≡ Some (digits_value_after 10 (v * 10 + digit_value c) cs, rest)) d (found_up_to stop max (v * 10 + digit_value c) cs rest free p.1 small))

-- where nothing is found there are none
pub none_up_to : (stop max : ℕ) (text digits rest : List ℕ) → is_digit stop ≡ false → number_up_to stop max 0 text ≡ None → list_all is_digit digits ≡ true → digits_value 10 digits ≤ max → text ≡ digits ++ stop ∷ rest → ⊥
none_up_to stop max text digits rest free none all small is = never (sym none ∙ ap (number_up_to stop max 0) is ∙ found_up_to stop max 0 digits rest free all small)
  where
    never : {x : ℕ × List ℕ} → ◌≡◌ {A = Option (ℕ × List ℕ)} None (Some x) → ⊥
    never e = cc

-- the byte stands at the front of what is left
pub found_here : (stop max v : ℕ) (text rest : List ℕ) → 1 ≤ length rest → get_or rest 0 0 ≡ stop → v ≤ max → number_up_to stop max v rest ≡ number_up_to stop max 0 text
    → IsUpTo stop max 0 text v (take (length rest - 1) (drop 1 rest))
found_here stop max v text [] some at small same = absurd (omega (arith, some))
found_here stop max v text (c ∷ after) some at small same = up_to stop max 0 text v (take (length (c ∷ after) - 1) after) (omega arith)
    (sym same ∙ rw (at, same_byte stop) (ap (λ (xs : List ℕ). Some (v, xs)) (sym (take_all (length (c ∷ after) - 1) after (omega arith)))))

-- no digit stands there, or one that is too much
pub none_here : (stop max v : ℕ) (rest : List ℕ) → 1 ≤ length rest → (get_or rest 0 0 ≡ stop → ⊥) → (is_digit (get_or rest 0 0) && nat_le (v * 10 + (get_or rest 0 0 - 48)) max) ≡ false → number_up_to stop max v rest ≡ None
none_here stop max v [] some other past = absurd (omega (arith, some))
none_here stop max v (c ∷ after) some other past = rw (ne_eqb c stop other, past) refl

-- nothing is left
pub none_left : (stop max v : ℕ) (rest : List ℕ) → length rest < 1 → number_up_to stop max v rest ≡ None
none_left stop max v [] none = refl
none_left stop max v (c ∷ after) none = absurd (omega (arith, none))

-- what a number is written in
pub written : (n : ℕ) → n < 2 ^ 64 → (list_all is_digit (decimal n) ≡ true) × (value (decimal n) ≡ n)
written n small = let reads = decimal_reads n small in (all_of (decimal n) reads.0, reads.1)
  where
    all_of : (cs : List ℕ) → is_number cs ≡ true → list_all is_digit cs ≡ true
    all_of [] form = refl
    all_of (c ∷ cs) form = (and_parts (list_all is_digit (c ∷ cs)) (length cs == 0 || not (c == 48)) form).0

-- digits whose first is another than 0 are a number, as it is written
pub as_written : (digits : List ℕ) → 1 ≤ length digits → list_all is_digit digits ≡ true → (get_or digits 0 0 ≡ 48 → ⊥) → value digits < 2 ^ 64 → digits ≡ decimal (value digits)
as_written [] some all other small = absurd (omega (arith, some))
as_written (c ∷ cs) some all other small = sym (value_writes (c ∷ cs) (rw (all, ne_eqb c 48 other) (or-true (length cs == 0))) small)

-- digits with this text behind them, where its first byte is a digit and the byte behind them is none
pub begins : (stop : ℕ) (text digits rest : List ℕ) → is_digit stop ≡ false → is_digit (get_or text 0 0) ≡ true → text ≡ digits ++ stop ∷ rest → (1 ≤ length digits) × (get_or digits 0 0 ≡ get_or text 0 0)
begins stop text [] rest free first is = absurd (true≢false (sym first ∙ ap (λ (xs : List ℕ). is_digit (get_or xs 0 0)) is ∙ free))
begins stop text (c ∷ cs) rest free first is = (omega arith, sym (ap (λ (xs : List ℕ). get_or xs 0 0) is))

-- a text that begins with a number begins with a digit
pub first_digit : (stop n : ℕ) (text rest : List ℕ) → n < 2 ^ 64 → text ≡ decimal n ++ stop ∷ rest → is_digit (get_or text 0 0) ≡ true
first_digit stop n text rest small is = ap (λ (xs : List ℕ). is_digit (get_or xs 0 0)) is ∙ by (decimal n) (decimal_reads n small).0
  where
    by : (cs : List ℕ) → is_number cs ≡ true → is_digit (get_or (cs ++ stop ∷ rest) 0 0) ≡ true
    by [] form = absurd (true≢false (sym form))
    by (c ∷ cs) form = (and_parts (is_digit c) (list_all is_digit cs) (and_parts (list_all is_digit (c ∷ cs)) (length cs == 0 || not (c == 48)) form).0).0

-- and where that is 0 it is 0
pub behind_zero : (stop n : ℕ) (text rest : List ℕ) → n < 2 ^ 64 → 1 ≤ length text → get_or text 0 0 ≡ 48 → text ≡ decimal n ++ stop ∷ rest → take (length text - 1) (drop 1 text) ≡ stop ∷ rest
behind_zero stop n text rest small some zero is = by text (decimal n) some zero (decimal_reads n small).0 is
  where
    by : (text cs : List ℕ) → 1 ≤ length text → get_or text 0 0 ≡ 48 → is_number cs ≡ true → text ≡ cs ++ stop ∷ rest → take (length text - 1) (drop 1 text) ≡ stop ∷ rest
    by text [] some zero form is = absurd (true≢false (sym form))
    by text (c ∷ []) some zero form is = ap (λ (xs : List ℕ). take (length xs - 1) (drop 1 xs)) is ∙ take_all (length (c ∷ stop ∷ rest) - 1) (stop ∷ rest) (omega arith)
    by text (c ∷ d ∷ cs) some zero form is = absurd (true≢false (sym (and_parts (list_all is_digit (c ∷ d ∷ cs)) (length (d ∷ cs) == 0 || not (c == 48)) form).1
        ∙ rw (ne_eqb (length (d ∷ cs)) 0 (λ e. omega (arith, e)), eq-eqb c 48 (sym (ap (λ (xs : List ℕ). get_or xs 0 0) is) ∙ zero)) refl))

-- a zero in front
pub zero_first : (stop : ℕ) (text rest : List ℕ) → 1 ≤ length text → get_or text 0 0 ≡ 48 → take (length text - 1) (drop 1 text) ≡ stop ∷ rest → text ≡ decimal 0 ++ stop ∷ rest
zero_first stop [] rest some zero is = absurd (omega (arith, some))
zero_first stop (c ∷ after) rest some zero is = rw (zero, decimal_digit 0 (omega arith)) (ap (λ xs. 48 ∷ xs) (sym (take_all (length (c ∷ after) - 1) after (omega arith)) ∙ is))
