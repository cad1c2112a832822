-- Numbers that are read up to a greatest one, as numbers below the next; and how numbers are written.
use Rattle.std.proofs.Common.{◌≡◌, ◌∙◌, ◌^◌, ◌<◌, ◌≤◌, ◌==◌, ◌&&◌, ℕ, suc, Bool, true, false, List, [], ◌∷◌, Result, Ok, Err, sym, refl, arith, decimal, if◌then◌else◌, nat_lt, nat_le, ⊎_elim}
use Rattle.std.specs.Str.Parse.{AllDigits}
use Rattle.std.proofs.lemmas.Bool.{leb-true, lt-ltb, le-leb, le-ltb, ltb-true, true≢false, cases_lt}
use Rattle.std.proofs.lemmas.Bool.Decides.{nat_tests}
use Rattle.std.proofs.lemmas.Str.Parse.{digit_from_value}
use Rattle.std.proofs.lemmas.Fmt.{decimal_is_IsNumeral}
use Rattle.dc_words.specs.Numbers.{is_number, is_below, number_of, value}
use Rattle.dc_words.specs.Texts.{has_no}
use Rattle.dc_words.specs.declared.numbers.NumberFault.{NumberFault}
use Rattle.dc_words.specs.declared.numbers.NumberFault.TheVariants.{NotNumber, Range}
use Rattle.dc_words.proofs.Spelling.{number_again, spelled}

-- what reading a number says
picked : (f r : Bool) (v n : ℕ) → ◌≡◌ {A = Result ℕ NumberFault} (Ok n) (if f then (if r then Ok v else Err Range) else Err NotNumber) → (f ≡ true) × (r ≡ true) × (v ≡ n)
picked true true v n e = (refl, refl, cc)
picked true false v n e = absurd (let never : ⊥ = cc in never)
picked false r v n e = absurd (let never : ⊥ = cc in never)

refused : (f r : Bool) (v : ℕ) → ◌≡◌ {A = Result ℕ NumberFault} (Err NotNumber) (if f then (if r then Ok v else Err Range) else Err NotNumber) → f ≡ false
refused true true v e = absurd (let never : ⊥ = cc in never)
refused true false v e = absurd (let never : ⊥ = cc in never)
refused false r v e = refl

too_great : (f r : Bool) (v : ℕ) → ◌≡◌ {A = Result ℕ NumberFault} (Err Range) (if f then (if r then Ok v else Err Range) else Err NotNumber) → (f ≡ true) × (r ≡ false)
too_great true true v e = absurd (let never : ⊥ = cc in never)
too_great true false v e = (refl, refl)
too_great false r v e = absurd (let never : ⊥ = cc in never)

below_true : (v max bound : ℕ) → bound ≡ suc max → nat_le v max ≡ true → nat_lt v bound ≡ true
below_true v max bound e h = lt-ltb v bound (omega (arith, leb-true v max h, e))

below_false : (v max bound : ℕ) → bound ≡ suc max → nat_le v max ≡ false → nat_lt v bound ≡ false
below_false v max bound e h = ⊎_elim
    (λ (k : max < v). le-ltb v bound (omega (arith, k, e)))
    (λ (k : v ≤ max). absurd (true≢false (sym (le-leb v max k) ∙ h)))
    (cases_lt max v)

-- no number was read
pub not_number : (text : List ℕ) (max : ℕ) → Err NotNumber ≡ number_of max text → is_number text ≡ false
not_number text max found = refused (is_number text) (nat_le (value text) max) (value text) found

-- a number over the greatest was read
pub over_range : (text : List ℕ) (max bound : ℕ) → bound ≡ suc max → Err Range ≡ number_of max text → (is_number text ≡ true) × (nat_lt (value text) bound ≡ false)
over_range text max bound e found = let parts = too_great (is_number text) (nat_le (value text) max) (value text) found in
    (parts.0, below_false (value text) max bound e parts.1)

-- a number up to the greatest was read
pub below_is : (text : List ℕ) (max bound n : ℕ) → bound ≡ suc max → Ok n ≡ number_of max text → (is_number text ≡ true) × (nat_lt (value text) bound ≡ true) × (value text ≡ n)
below_is text max bound n e found = let parts = picked (is_number text) (nat_le (value text) max) (value text) n found in
    (parts.0, below_true (value text) max bound e parts.1, parts.2)

pub is_below_is : (text : List ℕ) (max bound n : ℕ) → bound ≡ suc max → Ok n ≡ number_of max text → is_below bound text ≡ true
is_below_is text max bound n e found = let parts = below_is text max bound n e found in rw (parts.0, parts.1) refl

-- none below the bound was read, whatever the fault
pub below_not : (text : List ℕ) (max bound : ℕ) (fault : NumberFault) → bound ≡ suc max → Err fault ≡ number_of max text → is_below bound text ≡ false
below_not text max bound NotNumber e found = rw (not_number text max found) refl
below_not text max bound Range e found = let parts = over_range text max bound e found in rw (parts.0, parts.1) refl

-- a number below a bound, by its two tests
pub is_below_parts : (bound : ℕ) (text : List ℕ) → is_below bound text ≡ true → (is_number text ≡ true) × (value text < bound)
is_below_parts bound text h = by (is_number text) (nat_lt (value text) bound) h refl refl
  where
    by : (a b : Bool) → (a && b) ≡ true → is_number text ≡ a → nat_lt (value text) bound ≡ b → (is_number text ≡ true) × (value text < bound)
    by true true h first second = (first, ltb-true (value text) bound second)
    by true false h first second = absurd (true≢false (sym h))
    by false b h first second = absurd (true≢false (sym h))

-- digits of a number that was written
digits_free : (stop : ℕ) (cs : List ℕ) → stop < 48 → AllDigits 10 cs → has_no stop cs ≡ true
digits_free stop [] low digits = refl
digits_free stop (c ∷ cs) low digits = let from = digit_from_value c digits.0 in
    rw (apart c from.0, digits_free stop cs low digits.1) refl
  where
    apart : (c : ℕ) → 48 ≤ c → (c == stop) ≡ false
    apart c high = grind (arith, nat_tests)

-- a number is written in digits alone
pub decimal_has_no : (stop n : ℕ) → stop < 48 → n < 2 ^ 64 → has_no stop (decimal n) ≡ true
decimal_has_no stop n low small = digits_free stop (decimal n) low (decimal_is_IsNumeral n small).0.1

-- what is written of a number is a number, and it is the one
pub decimal_reads : (n : ℕ) → n < 2 ^ 64 → (is_number (decimal n) ≡ true) × (value (decimal n) ≡ n)
decimal_reads n small = let parts = picked (is_number (decimal n)) (nat_le (value (decimal n)) n) (value (decimal n)) n (sym (number_again n n (omega arith) small)) in (parts.0, parts.2)

-- a number that was read is written so
pub value_writes : (text : List ℕ) → is_number text ≡ true → value text < 2 ^ 64 → decimal (value text) ≡ text
value_writes text form small = spelled text form small

-- what is written of a number below a bound
pub decimal_below : (bound n : ℕ) → n < bound → n < 2 ^ 64 → is_below bound (decimal n) ≡ true
decimal_below bound n low small = let reads = decimal_reads n small in rw (reads.0, reads.1, lt-ltb n bound low) refl
