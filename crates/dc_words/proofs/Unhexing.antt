-- Hexadecimal texts and their bytes, both ways.
use Rattle.std.proofs.Common.{◌≡◌, ◌∙◌, ◌+◌, ◌-◌, ◌*◌, ◌/◌, ◌%◌, ◌^◌, ◌<◌, ◌≤◌, ℕ, List, [], ◌∷◌, ◌++◌, length, drop, take, set, get_or, Option, None, Some, ap, sym, refl, arith}
use Rattle.std.proofs.lemmas.Bool.Decides.{nat_tests}
use Rattle.std.proofs.lemmas.List.{take_all, take_more_set, append_assoc}
use Rattle.dc_words.specs.Hex.{byte_before, byte_of_digits, bytes_before, bytes_of_hex, hex_byte, hex_digit, hex_of, value_of}
use Rattle.dc_words.specs.Words.{AllBelow}

-- a digit and its value
digit_back : (c n : ℕ) → value_of c ≡ Some n → (hex_digit n ≡ c) × (n < 16)
digit_back c n e = grind (arith, nat_tests)

digit_again : (n : ℕ) → n < 16 → value_of (hex_digit n) ≡ Some n
digit_again n small = grind (arith, nat_tests)

-- the first two digits of a text
hex_two : (rest : List ℕ) (n : ℕ) → 2 ≤ length rest → length rest - 2 ≤ n
    → bytes_of_hex rest ≡ byte_before (byte_of_digits (value_of (get_or rest 0 0)) (value_of (get_or rest 1 0))) (bytes_of_hex (take n (drop 2 rest)))
hex_two [] n two long = absurd (omega arith)
hex_two (c ∷ []) n two long = absurd (omega arith)
hex_two (high ∷ low ∷ rest) n two long = rw (take_all n rest (omega (arith, long))) refl

moved : (front : List ℕ) (b : ℕ) (rest : Option (List ℕ)) → bytes_before front (byte_before (Some b) rest) ≡ bytes_before (front ++ b ∷ []) rest
moved front b None = refl
moved front b (Some bytes) = ap Some (sym (append_assoc front (b ∷ []) bytes))

-- one byte more is read
pub one_read : (text to rest : List ℕ) (count b n : ℕ) → 2 ≤ length rest → length rest - 2 ≤ n → count < length to
    → bytes_of_hex text ≡ bytes_before (take count to) (bytes_of_hex rest)
    → byte_of_digits (value_of (get_or rest 0 0)) (value_of (get_or rest 1 0)) ≡ Some b
    → bytes_of_hex text ≡ bytes_before (take (count + 1) (set to count b)) (bytes_of_hex (take n (drop 2 rest)))
one_read text to rest count b n two long within so_far is =
    so_far ∙ ap (bytes_before (take count to)) (hex_two rest n two long ∙ ap (λ x. byte_before x (bytes_of_hex (take n (drop 2 rest)))) is)
    ∙ moved (take count to) b (bytes_of_hex (take n (drop 2 rest)))
    ∙ ap (λ front. bytes_before front (bytes_of_hex (take n (drop 2 rest)))) (sym (take_more_set to count b within))

-- two characters that are no digits
pub none_read : (text to rest : List ℕ) (count : ℕ) → 2 ≤ length rest
    → bytes_of_hex text ≡ bytes_before (take count to) (bytes_of_hex rest)
    → byte_of_digits (value_of (get_or rest 0 0)) (value_of (get_or rest 1 0)) ≡ None
    → bytes_of_hex text ≡ None
none_read text to rest count two so_far is =
    so_far ∙ ap (bytes_before (take count to)) (hex_two rest (length rest) two (omega arith) ∙ ap (λ x. byte_before x (bytes_of_hex (take (length rest) (drop 2 rest)))) is)

-- the parts of the bytes of a text
record AreParts (x y : Option ℕ) (rest : Option (List ℕ)) (bytes : List ℕ) : Type 0 where
  high : ℕ
  low : ℕ
  more : List ℕ
  high_is : x ≡ Some high
  low_is : y ≡ Some low
  more_is : rest ≡ Some more
  bytes_are : bytes ≡ (16 * high + low) ∷ more

taken_apart : (x y : Option ℕ) (rest : Option (List ℕ)) (bytes : List ℕ) → byte_before (byte_of_digits x y) rest ≡ Some bytes → AreParts x y rest bytes
taken_apart None y rest bytes e = absurd (let never : ⊥ = cc in never)
taken_apart (Some high) None rest bytes e = absurd (let never : ⊥ = cc in never)
taken_apart (Some high) (Some low) None bytes e = absurd (let never : ⊥ = cc in never)
taken_apart (Some high) (Some low) (Some more) bytes e = record { high = high; low = low; more = more; high_is = refl; low_is = refl; more_is = refl; bytes_are = cc }

byte_back : (high low : ℕ) → high < 16 → low < 16 → hex_byte (16 * high + low) ≡ hex_digit high ∷ hex_digit low ∷ []
byte_back high low small less =
    let first : (16 * high + low) / 16 ≡ high = omega (arith, less) in
    let second : (16 * high + low) % 16 ≡ low = omega (arith, less) in
    rw (first, second) refl

pub hex_back : (text bytes : List ℕ) → bytes_of_hex text ≡ Some bytes → text ≡ hex_of bytes
hex_back [] bytes e = let none : [] ≡ bytes = cc in ap hex_of none
hex_back (c ∷ []) bytes e = absurd (let never : ⊥ = cc in never)
hex_back (c ∷ d ∷ text) bytes e =
    let parts = taken_apart (value_of c) (value_of d) (bytes_of_hex text) bytes e in
    let first = digit_back c parts.high parts.high_is in
    let second = digit_back d parts.low parts.low_is in
    let more : text ≡ hex_of parts.more = hex_back text parts.more parts.more_is in
    ap (λ x. x ∷ d ∷ text) (sym first.0) ∙ ap (λ x. hex_digit parts.high ∷ x ∷ text) (sym second.0) ∙ ap (λ xs. hex_digit parts.high ∷ hex_digit parts.low ∷ xs) more
    ∙ ap (λ xs. xs ++ hex_of parts.more) (sym (byte_back parts.high parts.low first.1 second.1))
    ∙ ap hex_of (sym parts.bytes_are)

-- what is written is read
pub hex_again : (bytes : List ℕ) → AllBelow (2 ^ 8) bytes → bytes_of_hex (hex_of bytes) ≡ Some bytes
hex_again [] small = refl
hex_again (b ∷ bytes) small =
    let below : b < 256 = small.0 in
    let sum : 16 * (b / 16) + b % 16 ≡ b = omega arith in
    ap (λ x. byte_before (byte_of_digits x (value_of (hex_digit (b % 16)))) (bytes_of_hex (hex_of bytes))) (digit_again (b / 16) (omega (arith, below)))
    ∙ ap (λ x. byte_before (byte_of_digits (Some (b / 16)) x) (bytes_of_hex (hex_of bytes))) (digit_again (b % 16) (omega arith))
    ∙ ap (byte_before (Some (16 * (b / 16) + b % 16))) (hex_again bytes small.1)
    ∙ ap (λ x. Some (x ∷ bytes)) sum

-- before the first byte
pub nothing_before : (rest : Option (List ℕ)) → rest ≡ bytes_before [] rest
nothing_before None = refl
nothing_before (Some bytes) = refl
