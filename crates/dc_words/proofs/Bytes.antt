-- Words and their bytes.
use Rattle.std.proofs.Common.{◌≡◌, ◌∙◌, ◌+◌, ◌*◌, ◌/◌, ◌%◌, ◌^◌, ◌<◌, ◌≤◌, ℕ, suc, List, [], ◌∷◌, ◌++◌, length, drop, slice_index}
use Rattle.std.proofs.Common.{ap, sym, refl, arith, set, take, length-append, length-take-le, length-drop, drop-drop, add-one, ◌-◌}
use Rattle.std.proofs.Math.Seq.{set-append_seam, take-suc}
use Rattle.std.proofs.lemmas.List.{append_assoc}
use Rattle.byteorder.specs.Endian.{IsRead, little_number}
use Rattle.dc_words.specs.Hex.{hex_digit, hex_byte, hex_of}
use Rattle.dc_words.specs.Words.{word_of_bytes, words_in, bytes_in, AllBelow}

-- the word of the bytes of a word
pub word_again : (w : ℕ) → w < 2 ^ 32 → word_of_bytes (w % 256) (w / 2 ^ 8 % 256) (w / 2 ^ 16 % 256) (w / 2 ^ 24 % 256) ≡ w
word_again w small = omega (arith, small)

-- the words of the bytes of words
pub words_again : (words : List ℕ) → AllBelow (2 ^ 32) words → words_in (bytes_in words) ≡ words
words_again [] small = refl
words_again (w ∷ words) small =
    ap (λ x. x ∷ words_in (bytes_in words)) (word_again w small.0) ∙ ap (λ xs. w ∷ xs) (words_again words small.1)

-- the bytes of the words of whole words
pub bytes_again : (bytes : List ℕ) → AllBelow (2 ^ 8) bytes → length bytes % 4 ≡ 0 → bytes_in (words_in bytes) ≡ bytes
bytes_again [] small whole = refl
bytes_again (a ∷ []) small whole = absurd (omega arith)
bytes_again (a ∷ b ∷ []) small whole = absurd (omega arith)
bytes_again (a ∷ b ∷ c ∷ []) small whole = absurd (omega arith)
bytes_again (a ∷ b ∷ c ∷ d ∷ bytes) small whole =
    let low : a < 256 = small.0 in
    let second : b < 256 = small.1.0 in
    let third : c < 256 = small.1.1.0 in
    let high : d < 256 = small.1.1.1.0 in
    let w : ℕ = word_of_bytes a b c d in
    let rest : length bytes % 4 ≡ 0 = omega arith in
    let one : w % 256 ≡ a = omega arith in
    let two : w / 2 ^ 8 % 256 ≡ b = omega arith in
    let three : w / 2 ^ 16 % 256 ≡ c = omega arith in
    let four : w / 2 ^ 24 % 256 ≡ d = omega arith in
    rw (one, two, three, four) (ap (λ (xs : List ℕ). a ∷ b ∷ c ∷ d ∷ xs) (bytes_again bytes small.1.1.1.1 rest))

pub bytes_long : (words : List ℕ) → length (bytes_in words) ≡ 4 * length words
bytes_long [] = refl
bytes_long (w ∷ words) = omega (arith, bytes_long words)

-- numbers that are each below a bound
pub all_below : (bound : ℕ) (xs : List ℕ) → ((k : ℕ) → k < length xs → slice_index xs k < bound) → AllBelow bound xs
all_below bound [] below = tt
all_below bound (x ∷ xs) below = (below 0 (omega arith), all_below bound xs (λ k within. below (suc k) (omega (arith, within))))

-- the first number of four bytes
first_word : (a b c d : ℕ) (rest : List ℕ) → little_number 4 (a ∷ b ∷ c ∷ d ∷ rest) ≡ word_of_bytes a b c d
first_word a b c d rest = omega arith

-- what is read four bytes at a time
pub words_read : (bytes words : List ℕ) → length bytes ≡ 4 * length words → IsRead little_number 4 bytes words → words ≡ words_in bytes
words_read [] [] long read = refl
words_read [] (w ∷ words) long read = absurd (omega arith)
words_read (a ∷ bytes) [] long read = absurd (omega arith)
words_read (a ∷ []) (w ∷ words) long read = absurd (omega arith)
words_read (a ∷ b ∷ []) (w ∷ words) long read = absurd (omega arith)
words_read (a ∷ b ∷ c ∷ []) (w ∷ words) long read = absurd (omega arith)
words_read (a ∷ b ∷ c ∷ d ∷ bytes) (w ∷ words) long read =
    ap (λ x. x ∷ words) (read 0 (omega arith) ∙ first_word a b c d bytes)
    ∙ ap (λ xs. word_of_bytes a b c d ∷ xs) (words_read bytes words (omega (arith, long)) later)
  where
    next : (k : ℕ) → 4 * suc k ≡ suc (suc (suc (suc (4 * k))))
    next k = omega arith

    later : IsRead little_number 4 bytes words
    later k within = read (suc k) (omega (arith, within)) ∙ ap (λ n. little_number 4 (drop n (a ∷ b ∷ c ∷ d ∷ bytes))) (next k)

-- two items set behind a front
set_both : (done rest : List ℕ) (p q x y : ℕ)
    → set (set (done ++ p ∷ q ∷ rest) (length done) x) (length done + 1) y ≡ done ++ x ∷ y ∷ rest
set_both done rest p q x y =
    ap (λ xs. set xs (length done + 1) y) (set-append_seam done p (q ∷ rest) x ∙ sym (append_assoc done (x ∷ []) (q ∷ rest)))
    ∙ ap (λ n. set ((done ++ x ∷ []) ++ q ∷ rest) n y) (sym (length-append done (x ∷ [])))
    ∙ set-append_seam (done ++ x ∷ []) q rest y ∙ append_assoc done (x ∷ []) (y ∷ rest)

-- two items set at the end of what is done
two_more : (done rest : List ℕ) (i x y : ℕ) → length done ≡ 2 * i → 2 ≤ length rest
    → set (set (done ++ rest) (2 * i) x) (2 * i + 1) y ≡ (done ++ x ∷ y ∷ []) ++ drop 2 rest
two_more done [] i x y long some = absurd (omega arith)
two_more done (p ∷ []) i x y long some = absurd (omega arith)
two_more done (p ∷ q ∷ rest) i x y long some =
    ap (λ n. set (set (done ++ p ∷ q ∷ rest) n x) (n + 1) y) (sym long)
    ∙ set_both done rest p q x y ∙ sym (append_assoc done (x ∷ y ∷ []) rest)

hex_end : (bytes : List ℕ) (b : ℕ) → hex_of (bytes ++ b ∷ []) ≡ hex_of bytes ++ hex_byte b
hex_end [] b = refl
hex_end (c ∷ bytes) b = ap (λ xs. hex_byte c ++ xs) (hex_end bytes b) ∙ sym (append_assoc (hex_byte c) (hex_of bytes) (hex_byte b))

-- two digits for each byte
pub hex_length : (bytes : List ℕ) → length (hex_of bytes) ≡ 2 * length bytes
hex_length [] = refl
hex_length (b ∷ bytes) = omega (arith, hex_length bytes)

-- one byte more in hexadecimal
pub hex_more : (bytes to old : List ℕ) (i : ℕ) → i < length bytes → length old ≡ 2 * length bytes
    → to ≡ hex_of (take i bytes) ++ drop (2 * i) old
    → set (set to (2 * i) (hex_digit (slice_index bytes i / 16))) (2 * i + 1) (hex_digit (slice_index bytes i % 16))
    ≡ hex_of (take (i + 1) bytes) ++ drop (2 * (i + 1)) old
hex_more bytes to old i within long so_far =
    let b : ℕ = slice_index bytes i in
    let done : List ℕ = hex_of (take i bytes) in
    let done_long : length done ≡ 2 * i =
    hex_length (take i bytes) ∙ ap (λ n. 2 * n) (length-take-le i bytes (omega (arith, within))) in
    let rest_long : length (drop (2 * i) old) ≡ length old - 2 * i = length-drop (2 * i) old in
    let next : take (i + 1) bytes ≡ take i bytes ++ b ∷ [] = ap (λ n. take n bytes) (add-one i) ∙ take-suc bytes i 0 within in
    let left : drop 2 (drop (2 * i) old) ≡ drop (2 * (i + 1)) old = drop-drop 2 (2 * i) old ∙ ap (λ n. drop n old) (omega arith) in
    ap (λ xs. set (set xs (2 * i) (hex_digit (b / 16))) (2 * i + 1) (hex_digit (b % 16))) so_far
    ∙ two_more done (drop (2 * i) old) i (hex_digit (b / 16)) (hex_digit (b % 16)) done_long (omega (arith, rest_long, long, within))
    ∙ ap (λ xs. xs ++ drop 2 (drop (2 * i) old)) (sym (ap hex_of next ∙ hex_end (take i bytes) b))
    ∙ ap (λ xs. hex_of (take (i + 1) bytes) ++ xs) left
