-- The first byte of a kind, as memchr says where it stands.
use Rattle.std.proofs.Common.{◌≡◌, ◌==◌, ◌<◌, ℕ, List, Option, None, Some, IfSome, arith, length, refl, slice_index}
use Rattle.std.specs.List.{position, position_or_len}
use Rattle.std.proofs.lemmas.Bool.{lt-ltb, le-ltb, false_from_ne_true}
use Rattle.std.proofs.lemmas.List.Sums.{position_or_len_is}
use Rattle.memchr.specs.Find.{IsFirstByte, is_byte}

-- where none stands
nowhere : (stop : ℕ) (text : List ℕ) → IsFirstByte (is_byte stop) text None → None ≡ position (λ c. c == stop) text
nowhere stop text none =
    let far : position_or_len (λ c. c == stop) text ≡ length text = position_or_len_is (λ c. c == stop) text (length text) 0 (omega arith) (λ k less. false_from_ne_true (slice_index text k == stop) (none k (omega arith) less)) (λ less. absurd (omega (arith, less))) in
    rw (far, le-ltb (length text) (length text) (omega arith)) refl

-- where the first stands
somewhere : (stop k : ℕ) (text : List ℕ) → IsFirstByte (is_byte stop) text (Some k) → Some k ≡ position (λ c. c == stop) text
somewhere stop k text first =
    let far : position_or_len (λ c. c == stop) text ≡ k = position_or_len_is (λ c. c == stop) text k 0 (let high = first.0.high in omega (arith, high)) (λ j less. false_from_ne_true (slice_index text j == stop) (first.0.before j (omega arith) less)) (λ less. first.1) in
    rw (far, lt-ltb k (length text) first.0.high) refl

pub is_position : (stop : ℕ) (text : List ℕ) (r : Option ℕ) → IsFirstByte (is_byte stop) text r → r ≡ position (λ c. c == stop) text
is_position stop text None none = nowhere stop text none
is_position stop text (Some k) first = somewhere stop k text first

pub first_within : (stop : ℕ) (text : List ℕ) (r : Option ℕ) → IsFirstByte (is_byte stop) text r → IfSome r (λ i. i < length text)
first_within stop text None none = tt
first_within stop text (Some k) first = first.0.high
