-- A line copied word by word.
use Rattle.std.proofs.Common.{◌≡◌, ◌⊎◌, ⊎_elim, ℕ, ◌+◌, ◌<◌, ◌≤◌, List, Option, None, Some, IfSome, Result, Ok, Err, OnOk, refl, slice_index, slice_set, true, false, arith}
use Rattle.std.specs.Result.{is_err}
use Rattle.std.proofs.lemmas.Bool.{lt-ltb}
use Rattle.dc_armed.proofs.Counting.{IsInCalls-then}
use Rattle.dc_media.specs.declared.faults.DeviceFault.{DeviceFault}
use Rattle.dc_media.specs.declared.tear.Tear.{Tear}
use Rattle.dc_media.specs.Stores.{AreSameOrApart, CopiesLine, SetsWord, copied}
use Rattle.dc_media.specs.Told.{Becomes, Device}
use Rattle.dc_media.proofs.Copying.{one_more}
use Rattle.dc_armed.specs.Laws.{GoesOn}
use Rattle.dc_armed.specs.Torn.{IsInCalls, IsTornCopy, kept_words}

module _ (k from to w : ℕ) (low : k < 16) (apart : AreSameOrApart from to) where
  -- one word more
  pub copied-next : (a b c : Option (List ℕ)) → IfSome b (λ words. w ≡ slice_index words (from + k))
      → Becomes a b (λ before after. after ≡ copied k from to before) → Becomes b c (λ before after. after ≡ slice_set before (to + k) w)
      → Becomes a c (λ before after. after ≡ copied (k + 1) from to before)
  copied-next a b None word one two = tt
  copied-next a None (Some z) word one two = absurd two
  copied-next None (Some y) (Some z) word one two = absurd one
  copied-next (Some x) (Some y) (Some z) word one two = rw two (one_more k 16 from to w x y low apart one word)

  -- a word that may be copied or not
  pub copied-torn : (a b c : Option (List ℕ)) → IfSome b (λ words. w ≡ slice_index words (from + k))
      → Becomes a b (λ before after. after ≡ copied k from to before)
      → Becomes b c (λ before after. (after ≡ before) ⊎ (after ≡ slice_set before (to + k) w))
      → Becomes a c (λ before after. (j : ℕ) × (j ≤ 16) × (after ≡ copied j from to before))
  copied-torn a b None word one two = tt
  copied-torn a None (Some z) word one two = absurd two
  copied-torn None (Some y) (Some z) word one two = absurd one
  copied-torn (Some x) (Some y) (Some z) word one two = ⊎_elim
      (λ (same : z ≡ y). (k, omega arith, rw same one))
      (λ (set : z ≡ slice_set y (to + k) w). (k + 1, omega arith, rw set (one_more k 16 from to w x y low apart one word)))
      two

on_ok : {T E : Type 0} (r : Result T E) (P : Type 0) → P → OnOk r P
on_ok (Ok x) P holds = holds
on_ok (Err e) P holds = tt

module _ {S T : Type 0} (device : Device S (List ℕ)) (p from to : ℕ) where
  full_copy : (count : ℕ) (r : Result T DeviceFault) (a b : S) → 16 ≡ count
      → CopiesLine from to r (device.told a p) (device.told b p) → IsInCalls device p 1 r a b
      → IsTornCopy device p (record { from = from; to = to; count = count }) r a b
  full_copy count r a b all line lawful = rw (← all) (record {
    words = line;
    unmade = λ none. absurd (omega (arith, none));
    made = 1;
    few = omega arith;
    all = on_ok r (1 ≡ 1) refl;
    lawful = lawful;
  })

  -- a whole line by one call
  pub whole_copy : (tear : Tear) (r : Result T DeviceFault) (a b : S) → 16 ≤ tear.keep
      → CopiesLine from to r (device.told a p) (device.told b p) → IsInCalls device p 1 r a b
      → IsTornCopy device p (record { from = from; to = to; count = kept_words tear }) r a b
  whole_copy tear r a b keeps line lawful = full_copy (kept_words tear) r a b (omega arith) line lawful

module _ {S : Type 0} (device : Device S (List ℕ)) (on : GoesOn device) (p from to k w : ℕ) (low : k < 16) (apart : AreSameOrApart from to) (a b c : S)
    (word : IfSome (device.told b p) (λ words. w ≡ slice_index words (from + k)))
    (so_far : Becomes (device.told a p) (device.told b p) (λ before after. after ≡ copied k from to before)) (calls : IsInCalls {T = Unit {0}} device p k (Ok tt) a b) where
  -- after a store that was made
  pub next_word : (r : Result (Unit {0}) DeviceFault) → false ≡ is_err r → SetsWord (to + k) w r (device.told b p) (device.told c p)
      → Becomes (device.told a p) (device.told c p) (λ before after. after ≡ copied (k + 1) from to before)
  next_word (Ok x) ok set = copied-next k from to w low apart (device.told a p) (device.told b p) (device.told c p) word so_far set
  next_word (Err e) ok set = absurd cc

  pub next_calls : (r : Result (Unit {0}) DeviceFault) → false ≡ is_err r → IsInCalls device p 1 r b c → IsInCalls {T = Unit {0}} device p (k + 1) (Ok tt) a c
  next_calls (Ok x) ok one = IsInCalls-then device on p k 1 (Ok tt) (Ok x) a b c calls one
  next_calls (Err e) ok one = absurd cc

  -- after one that was refused
  pub refused_word : (count : ℕ) (r : Result (Unit {0}) DeviceFault) → true ≡ is_err r → k < count → count < 16
      → SetsWord (to + k) w r (device.told b p) (device.told c p) → IsInCalls device p 1 r b c → IsTornCopy device p (record { from = from; to = to; count = count }) r a c
  refused_word count (Ok x) err within few set one = absurd cc
  refused_word count (Err e) err within few set one = record {
    words = copied-torn k from to w low apart (device.told a p) (device.told b p) (device.told c p) word so_far set;
    unmade = λ none. absurd (omega (arith, none, within));
    made = k + 1;
    few = rw (lt-ltb count 16 few) (omega (arith, within));
    all = tt;
    lawful = IsInCalls-then device on p k 1 (Ok tt) (Err e) a b c calls one;
  }
