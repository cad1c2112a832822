-- Bytes copied one after the other.
use Rattle.std.proofs.Common.{Option, None, Some, IfSome, ◌*◌, ◌≡◌, ◌∙◌, ◌+◌, ◌-◌, ◌<◌, ◌≤◌, ◌∷◌, ◌++◌, ℕ, List, [], length, drop, take, set, slice_index, ap, sym, arith, length-append, length-drop, length-take-le}
use Rattle.std.proofs.lemmas.List.{append-nil, append_assoc, drop-drop, drop_at, drop_more, get_or-drop, set_at, take-append-drop, take_at, take_more}
use Rattle.dc_words.specs.Words.{bytes_in}
use Rattle.dc_words.proofs.Bytes.{bytes_long}
use Rattle.dc_media.specs.Told.{Becomes}
use Rattle.dc_rv32.specs.Bytes.{with_bytes}

-- one byte more
pub read_more : (bytes to old : List ℕ) (from i x : ℕ) → i < length old → from + length old ≤ length bytes → x ≡ slice_index bytes (from + i)
    → to ≡ take i (drop from bytes) ++ drop i old → set to i x ≡ take (i + 1) (drop from bytes) ++ drop (i + 1) old
read_more bytes to old from i x more within is so_far =
    ap (λ xs. set xs i x) (so_far ∙ ap (λ xs. take i (drop from bytes) ++ xs) (drop_more old i 0 more))
    ∙ set_at (take i (drop from bytes)) (slice_index old i) (drop (i + 1) old) x i long
    ∙ sym (append_assoc (take i (drop from bytes)) (x ∷ []) (drop (i + 1) old))
    ∙ ap (λ xs. xs ++ drop (i + 1) old) (ap (λ y. take i (drop from bytes) ++ y ∷ []) (is ∙ sym (get_or-drop from bytes i 0)) ∙ sym (take_more (drop from bytes) i 0 inside))
  where
    left : length (drop from bytes) ≡ length bytes - from
    left = length-drop from bytes

    inside : i < length (drop from bytes)
    inside = omega (arith, left, more, within)

    long : length (take i (drop from bytes)) ≡ i
    long = length-take-le i (drop from bytes) (omega (arith, inside))

-- bytes written in two parts
pub with_more : (memory front rest : List ℕ) (a : ℕ) → a + length front ≤ length memory
    → with_bytes memory a (front ++ rest) ≡ with_bytes (with_bytes memory a front) (a + length front) rest
with_more memory front rest a within =
    ap (λ xs. xs ++ drop (a + length (front ++ rest)) memory) (sym (append_assoc (take a memory) front rest))
    ∙ ap (λ xs. (take a memory ++ front) ++ rest ++ xs) (ap (λ n. drop n memory) ends ∙ sym left)
    ∙ ap (λ xs. xs ++ rest ++ drop (a + length front + length rest) (with_bytes memory a front)) (sym (take_at (take a memory ++ front) _ _ begins))
  where
    begins : length (take a memory ++ front) ≡ a + length front
    begins = length-append (take a memory) front ∙ ap (λ n. n + length front) (length-take-le a memory (omega (arith, within)))

    ends : a + length (front ++ rest) ≡ a + length front + length rest
    ends = omega (arith, length-append front rest)

    left : drop (a + length front + length rest) (with_bytes memory a front) ≡ drop (a + length front + length rest) memory
    left = sym (drop-drop (length rest) (a + length front) (with_bytes memory a front))
        ∙ ap (drop (length rest)) (drop_at (take a memory ++ front) (drop (a + length front) memory) (a + length front) begins)
        ∙ drop-drop (length rest) (a + length front) memory

-- the next part written
pub part_written : (first now new bytes rest front back : List ℕ) (start at count : ℕ)
    → with_bytes first start bytes ≡ with_bytes now at rest → rest ≡ front ++ back → length front ≡ count → at + length front ≤ length now
    → new ≡ with_bytes now at front → with_bytes first start bytes ≡ with_bytes new (at + count) back
part_written first now new bytes rest front back start at count whole parts long within written =
    whole ∙ ap (with_bytes now at) parts ∙ with_more now front back at within
    ∙ ap (λ m. with_bytes m (at + length front) back) (sym written) ∙ ap (λ n. with_bytes new (at + n) back) long

-- nothing written
pub nothing_left : (memory : List ℕ) (a : ℕ) → with_bytes memory a [] ≡ memory
nothing_left memory a = ap (λ n. take a memory ++ [] ++ drop n memory) none ∙ ap (λ xs. xs ++ drop a memory) (append-nil (take a memory)) ∙ take-append-drop a memory
  where
    none : a + 0 ≡ a
    none = omega arith

-- the same where the memory is told
pub read_told : (told : Option (List ℕ)) (count : ℕ) (to old : List ℕ) (from i x : ℕ) → i < length old → from + length old ≤ 4 * count
    → IfSome told (λ words. length words ≡ count) → IfSome told (λ words. x ≡ slice_index (bytes_in words) (from + i))
    → IfSome told (λ words. to ≡ take i (drop from (bytes_in words)) ++ drop i old)
    → IfSome told (λ words. set to i x ≡ take (i + 1) (drop from (bytes_in words)) ++ drop (i + 1) old)
read_told None count to old from i x more within long is so_far = tt
read_told (Some words) count to old from i x more within long is so_far =
    read_more (bytes_in words) to old from i x more (omega (arith, bytes_long words, within, long)) is so_far

pub part_told : (first now new : Option (List ℕ)) (count : ℕ) (bytes rest front back : List ℕ) (start at n : ℕ)
    → Becomes first now (λ f w. with_bytes (bytes_in f) start bytes ≡ with_bytes (bytes_in w) at rest)
    → rest ≡ front ++ back → length front ≡ n → at + length front ≤ 4 * count → IfSome now (λ words. length words ≡ count)
    → Becomes now new (λ w v. bytes_in v ≡ with_bytes (bytes_in w) at front)
    → Becomes first new (λ f v. with_bytes (bytes_in f) start bytes ≡ with_bytes (bytes_in v) (at + n) back)
part_told first now None count bytes rest front back start at n whole parts size within long written = tt
part_told first None (Some v) count bytes rest front back start at n whole parts size within long written = absurd written
part_told None (Some w) (Some v) count bytes rest front back start at n whole parts size within long written = absurd whole
part_told (Some f) (Some w) (Some v) count bytes rest front back start at n whole parts size within long written =
    part_written (bytes_in f) (bytes_in w) (bytes_in v) bytes rest front back start at n whole parts size (omega (arith, bytes_long w, within, long)) written
