-- Words set one after the other.
use Rattle.std.proofs.Common.{◌≡◌, ◌⊎◌, ⊎_elim, ℕ, ◌+◌, ◌-◌, ◌^◌, min, ◌<◌, ◌≤◌, List, Option, None, Some, Result, Ok, Err, length, slice_index, slice_set, refl, true, false, arith, add-one, ◌∙◌, zero, suc, length-set}
use Rattle.std.specs.Result.{is_err}
use Rattle.dc_media.specs.declared.faults.DeviceFault.{DeviceFault}
use Rattle.dc_media.specs.Causes.{AreCounted, counted, counted_by}
use Rattle.dc_media.specs.Stores.{SetsWord, SetsWords, set_words}
use Rattle.dc_media.specs.Told.{Becomes}

-- as many words as before
pub length-set_words : (k i : ℕ) (ws words : List ℕ) → length (set_words k i ws words) ≡ length words
length-set_words zero i ws words = refl
length-set_words (suc k) i ws words = length-set (set_words k i ws words) (i + k) (slice_index ws k) ∙ length-set_words k i ws words

-- one word more
pub set_more : (k i w : ℕ) (ws xs ys : List ℕ) → ys ≡ set_words k i ws xs → w ≡ slice_index ws k → slice_set ys (i + k) w ≡ set_words (k + 1) i ws xs
set_more k i w ws xs ys is read = rw (add-one k, is, read) refl

pub counted_more : (k n m l : ℕ) → m ≡ counted_by k n → l ≡ counted m → l ≡ counted_by (k + 1) n
counted_more k n m l is more = rw (add-one k, more, is) refl

module _ (k i w : ℕ) (ws : List ℕ) (within : k < length ws) (read : w ≡ slice_index ws k) where
  set_next : (a b c : Option (List ℕ)) → Becomes a b (λ before after. after ≡ set_words k i ws before) → Becomes b c (λ before after. after ≡ slice_set before (i + k) w)
      → Becomes a c (λ before after. after ≡ set_words (k + 1) i ws before)
  set_next a b None one two = tt
  set_next a None (Some z) one two = absurd two
  set_next None (Some y) (Some z) one two = absurd one
  set_next (Some x) (Some y) (Some z) one two = rw two (set_more k i w ws x y one read)

  set_torn : (a b c : Option (List ℕ)) → Becomes a b (λ before after. after ≡ set_words k i ws before)
      → Becomes b c (λ before after. (after ≡ before) ⊎ (after ≡ slice_set before (i + k) w))
      → Becomes a c (λ before after. (j : ℕ) × (j ≤ length ws) × (after ≡ set_words j i ws before))
  set_torn a b None one two = tt
  set_torn a None (Some z) one two = absurd two
  set_torn None (Some y) (Some z) one two = absurd one
  set_torn (Some x) (Some y) (Some z) one two = ⊎_elim
      (λ (same : z ≡ y). (k, omega (arith, within), rw same one))
      (λ (set : z ≡ slice_set y (i + k) w). (k + 1, omega (arith, within), rw set (set_more k i w ws x y one read)))
      two

  -- after a store that was made
  pub word_made : (r : Result (Unit {0}) DeviceFault) (a b c : Option (List ℕ)) → false ≡ is_err r → Becomes a b (λ before after. after ≡ set_words k i ws before) → SetsWord (i + k) w r b c
      → Becomes a c (λ before after. after ≡ set_words (k + 1) i ws before)
  word_made (Ok x) a b c ok one two = set_next a b c one two
  word_made (Err e) a b c ok one two = absurd cc

  -- after one that was refused
  pub word_refused : (r : Result (Unit {0}) DeviceFault) (a b c : Option (List ℕ)) → true ≡ is_err r → Becomes a b (λ before after. after ≡ set_words k i ws before) → SetsWord (i + k) w r b c
      → SetsWords i ws r a c
  word_refused (Ok x) a b c err one two = absurd cc
  word_refused (Err e) a b c err one two = set_torn a b c one two

-- a count that is at most its last value
pub counted_at_most : (k n : ℕ) → n ≤ 2 ^ 64 - 1 → counted_by k n ≡ min (n + k) (2 ^ 64 - 1)
counted_at_most zero n fits = omega (arith, fits)
counted_at_most (suc k) n fits = let so_far = counted_at_most k n fits in omega (arith, so_far, fits)

-- the calls up to one that was refused
pub counted_refused : (k most n m l : ℕ) (r : Result (Unit {0}) DeviceFault) → true ≡ is_err r → k < most → m ≡ counted_by k n → l ≡ counted m → AreCounted most r n l
counted_refused k most n m l (Ok x) err within is more = absurd cc
counted_refused k most n m l (Err e) err within is more = record { made = k + 1; few = omega (arith, within); all = tt; count = counted_more k n m l is more }
