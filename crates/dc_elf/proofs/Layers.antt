-- The byte of the last part that covers an address, and memories that are filled from the last part on.
use Rattle.std.proofs.Common.{◌≡◌, ◌≢◌, ◌∙◌, ◌+◌, ◌<◌, ◌≤◌, ◌⊎◌, ◌||◌, ◌∷◌, ◌++◌, ℕ, Bool, true, false, List, [], Option, Some, None}
use Rattle.std.proofs.Common.{length, take, drop, map, replicate, reverse, find, set, slice_index, ap, sym, subst, refl, arith, ⊎_elim}
use Rattle.std.proofs.Common.{nat_le}
use Rattle.std.specs.List.{list_any, range_with_len}
use Rattle.std.specs.Option.{option_or}
use Rattle.std.proofs.lemmas.Bool.{cases_Bool, cases_lt, lt-ltb, le-ltb, le-leb, lt-leb, true≢false}
use Rattle.std.proofs.lemmas.List.{ext_get_or, get_or-replicate, get_or-set_same, get_or-set_other, length-replicate, length-set}
use Rattle.std.proofs.Math.Seq.{take-append_seam}
use Rattle.std.proofs.lemmas.List.FromFn.{get_or-map-range_with_len, length-map-range_with_len}
use Rattle.std.proofs.lemmas.Grind.{reverse_onto}
use Rattle.std.proofs.lemmas.List.Sorted.{IsPermutation-reverse, list_any-IsPermutation}
use Rattle.std.proofs.lemmas.List.Folds.{find-append}
use Rattle.dc_elf.specs.declared.part.Part.{Part}
use Rattle.std.proofs.Math.Bool.{and-false}
use Rattle.dc_elf.specs.Files.{is_loaded, parts_of}
use Rattle.dc_words.specs.Words.{word_at}
use Rattle.dc_elf.specs.Images.{byte_in, byte_of, covers, image_of}
use Rattle.dc_elf.specs.Filling.{Filled, below, everywhere, is_covered}

or_left : (a b : Bool) → a ≡ true → (a || b) ≡ true
or_left a b e = rw e refl

or_right : (a b : Bool) → b ≡ true → (a || b) ≡ true
or_right true b e = refl
or_right false b e = e

or_none : (a b : Bool) → a ≡ false → (a || b) ≡ b
or_none a b e = rw e refl

-- the first of the parts from the last on, and one before all of them
found : (f : Part → Bool) (xs : List Part) (other : Option Part) → list_any f xs ≡ true → option_or (find f xs) other ≡ find f xs
found f [] other e = absurd (true≢false (sym e))
found f (x ∷ xs) other e =
    ⊎_elim (λ here. rw here refl) (λ past. rw past (found f xs other (sym (or_none (f x) (list_any f xs) past) ∙ e))) (cases_Bool (f x))

unfound : (f : Part → Bool) (xs : List Part) → list_any f xs ≡ false → find f xs ≡ None
unfound f [] e = refl
unfound f (x ∷ xs) e =
    ⊎_elim (λ here. absurd (true≢false (sym (or_left (f x) (list_any f xs) here) ∙ e)))
    (λ past. rw past (unfound f xs (sym (or_none (f x) (list_any f xs) past) ∙ e))) (cases_Bool (f x))

any_last : (f : Part → Bool) (xs : List Part) → list_any f xs ≡ list_any f (reverse xs)
any_last f xs = list_any-IsPermutation f xs (reverse xs) (IsPermutation-reverse xs)

-- the last part that holds of one more: of the others, else it
one_more : (f : Part → Bool) (x : Part) (xs : List Part) → find f (reverse (x ∷ xs)) ≡ option_or (find f (reverse xs)) (find f (x ∷ []))
one_more f x xs = ap (find f) (reverse_onto xs x []) ∙ find-append f (reverse xs) (x ∷ [])

none_else : (o : Option Part) → option_or o None ≡ o
none_else None = refl
none_else (Some x) = refl

-- the byte at an address when a part is laid below the others
module _ (file : List ℕ) (part : Part) (parts : List Part) (a : ℕ) where
  byte_kept : is_covered parts a ≡ true → byte_of file (part ∷ parts) a ≡ byte_of file parts a
  byte_kept e = ap (byte_in file a)
      (one_more (covers a) part parts ∙ found (covers a) (reverse parts) _ (sym (any_last (covers a) parts) ∙ e))

  byte_aside : covers a part ≡ false → byte_of file (part ∷ parts) a ≡ byte_of file parts a
  byte_aside e = ap (byte_in file a) (one_more (covers a) part parts ∙ rw e (none_else (find (covers a) (reverse parts))))

  byte_free : is_covered parts a ≡ false → covers a part ≡ true → byte_of file (part ∷ parts) a ≡ byte_in file a (Some part)
  byte_free free e = ap (byte_in file a) (one_more (covers a) part parts ∙ first)
    where
      first : option_or (find (covers a) (reverse parts)) (find (covers a) (part ∷ [])) ≡ Some part
      first = rw (unfound (covers a) (reverse parts) (sym (any_last (covers a) parts) ∙ free), e) refl

-- which addresses a part covers
covers_in : (a : ℕ) (part : Part) → is_loaded part ≡ true → part.address ≤ a → a < part.address + part.sized → covers a part ≡ true
covers_in a part loaded from to = rw (loaded, le-leb part.address a from, lt-ltb a (part.address + part.sized) to) refl

covers_low : (a : ℕ) (part : Part) → a < part.address → covers a part ≡ false
covers_low a part low = rw (lt-leb part.address a low) (and-false (is_loaded part))

covers_high : (a : ℕ) (part : Part) → part.address + part.sized ≤ a → covers a part ≡ false
covers_high a part high = rw (le-ltb a (part.address + part.sized) high, and-false (nat_le part.address a)) (and-false (is_loaded part))

-- what lies below an address
laid_low : (at a : ℕ) (part : Part) (parts : List Part) → a < at → below at part parts a ≡ part ∷ parts
laid_low at a part parts low = rw (lt-ltb a at low) refl

laid_high : (at a : ℕ) (part : Part) (parts : List Part) → at ≤ a → below at part parts a ≡ parts
laid_high at a part parts high = rw (le-ltb a at high) refl

or_less : (a b : Bool) → (a || b) ≡ true → a ≡ false → b ≡ true
or_less a b e no_a = sym (or_none a b no_a) ∙ e

module _ (file : List ℕ) (size : ℕ) (part : Part) (parts : List Part) where
  abbrev pub start : ℕ
  start = part.address

  abbrev pub end : ℕ
  end = part.address + part.sized

  -- before the part is laid
  pub begins : (memory next : List ℕ) → Filled file size (everywhere parts) memory next
      → Filled file size (below start part parts) memory next
  begins memory next filled = record {
    memory_long = filled.memory_long;
    next_long = filled.next_long;
    bytes = λ a within. ⊎_elim
        (λ low. filled.bytes a within ∙ sym (byte_aside file part parts a (covers_low a part low))
        ∙ ap (λ ps. byte_of file ps a) (sym (laid_low start a part parts low)))
        (λ high. filled.bytes a within ∙ ap (λ ps. byte_of file ps a) (sym (laid_high start a part parts high)))
        (cases_lt a start);
    covered = λ a b within from to. ⊎_elim
        (λ low. ap (λ ps. is_covered ps b) (laid_low start a part parts low)
        ∙ or_right (covers b part) (is_covered parts b) (filled.covered a b within from to))
        (λ high. ap (λ ps. is_covered ps b) (laid_high start a part parts high) ∙ filled.covered a b within from to)
        (cases_lt a start);
    past = λ a within is. ⊎_elim
        (λ low. filled.past a within
        (or_less (covers a part) (is_covered parts a) (ap (λ ps. is_covered ps a) (sym (laid_low start a part parts low)) ∙ is)
        (covers_low a part low)))
        (λ high. filled.past a within (ap (λ ps. is_covered ps a) (sym (laid_high start a part parts high)) ∙ is))
        (cases_lt a start);
  }

  -- past the end of the part
  pub ends : (at : ℕ) (memory next : List ℕ) → end ≤ at → Filled file size (below at part parts) memory next
      → Filled file size (everywhere (part ∷ parts)) memory next
  ends at memory next past filled = record {
    memory_long = filled.memory_long;
    next_long = filled.next_long;
    bytes = λ a within. ⊎_elim
        (λ low. filled.bytes a within ∙ ap (λ ps. byte_of file ps a) (laid_low at a part parts low))
        (λ high. filled.bytes a within ∙ ap (λ ps. byte_of file ps a) (laid_high at a part parts high)
        ∙ sym (byte_aside file part parts a (covers_high a part (omega (arith, past, high)))))
        (cases_lt a at);
    covered = λ a b within from to. ⊎_elim
        (λ low. ap (λ ps. is_covered ps b) (sym (laid_low at a part parts low)) ∙ filled.covered a b within from to)
        (λ high. or_right (covers b part) (is_covered parts b)
        (ap (λ ps. is_covered ps b) (sym (laid_high at a part parts high)) ∙ filled.covered a b within from to))
        (cases_lt a at);
    past = λ a within is. ⊎_elim
        (λ low. filled.past a within (ap (λ ps. is_covered ps a) (laid_low at a part parts low) ∙ is))
        (λ high. filled.past a within
        (ap (λ ps. is_covered ps a) (laid_high at a part parts high)
        ∙ or_less (covers a part) (is_covered parts a) is (covers_high a part (omega (arith, past, high)))))
        (cases_lt a at);
  }

  module _ (at : ℕ) (memory next : List ℕ) (filled : Filled file size (below at part parts) memory next) (loaded : is_loaded part ≡ true)
      (from : start ≤ at) (to : at < end) (room : end ≤ size) where
    here : at < size
    here = omega (arith, to, room)

    set_here : (reach : ℕ) → slice_index (set next at reach) at ≡ reach
    set_here reach = get_or-set_same next at reach 0 (omega (arith, here, filled.next_long))

    set_there : (reach a : ℕ) → a ≢ at → slice_index (set next at reach) a ≡ slice_index next a
    set_there reach a other = get_or-set_other next at a reach 0 other

    -- what stands from here on is that of the other parts
    bytes_on : (a : ℕ) → a < size → at ≤ a → slice_index memory a ≡ byte_of file parts a
    bytes_on a within on = filled.bytes a within ∙ ap (λ ps. byte_of file ps a) (laid_high at a part parts on)

    covered_on : (a b : ℕ) → a < size → at ≤ a → a ≤ b → b < slice_index next a → is_covered parts b ≡ true
    covered_on a b within on up down = ap (λ ps. is_covered ps b) (sym (laid_high at a part parts on)) ∙ filled.covered a b within up down

    past_on : (a : ℕ) → a < size → at ≤ a → is_covered parts a ≡ true → a < slice_index next a
    past_on a within on is = filled.past a within (ap (λ ps. is_covered ps a) (laid_high at a part parts on) ∙ is)

    -- what stands before is that of this part too
    bytes_back : (a : ℕ) → a < size → a < at → slice_index memory a ≡ byte_of file (part ∷ parts) a
    bytes_back a within back = filled.bytes a within ∙ ap (λ ps. byte_of file ps a) (laid_low at a part parts back)

    covered_back : (a b : ℕ) → a < size → a < at → a ≤ b → b < slice_index next a → is_covered (part ∷ parts) b ≡ true
    covered_back a b within back up down = ap (λ ps. is_covered ps b) (sym (laid_low at a part parts back))
        ∙ filled.covered a b within up down

    past_back : (a : ℕ) → a < size → a < at → is_covered (part ∷ parts) a ≡ true → a < slice_index next a
    past_back a within back is = filled.past a within (ap (λ ps. is_covered ps a) (laid_low at a part parts back) ∙ is)

    -- the part covers what is up to its end
    covered_new : (b : ℕ) → at ≤ b → b < end → is_covered (part ∷ parts) b ≡ true
    covered_new b up down = or_left (covers b part) (is_covered parts b) (covers_in b part loaded (omega (arith, from, up)) down)

    module _ (past reach : ℕ) (past_is : slice_index next at ≡ past) (either : (b : ℕ) → b < reach → (b < past) ⊎ (b < end)) where
      covered_here : (b : ℕ) → at ≤ b → b < reach → is_covered (part ∷ parts) b ≡ true
      covered_here b up down = ⊎_elim
          (λ old. or_right (covers b part) (is_covered parts b)
          (covered_on at b here (omega arith) up (subst (λ n. b < n) (sym past_is) old)))
          (λ new. covered_new b up new)
          (either b down)

      -- where `next` was not set
      covered_before : (a b : ℕ) → a < size → a < at → a ≤ b → b < slice_index (set next at reach) a → is_covered (part ∷ parts) b ≡ true
      covered_before a b within back up down =
          covered_back a b within back up (subst (λ n. b < n) (set_there reach a (λ e. omega (arith, e, back))) down)

      covered_after : (a b : ℕ) → a < size → at < a → a ≤ b → b < slice_index (set next at reach) a → is_covered parts b ≡ true
      covered_after a b within on up down =
          covered_on a b within (omega (arith, on)) up (subst (λ n. b < n) (set_there reach a (λ e. omega (arith, e, on))) down)

      covered_at : (a b : ℕ) → a ≡ at → a ≤ b → b < slice_index (set next at reach) a → is_covered (part ∷ parts) b ≡ true
      covered_at a b is up down =
          covered_here b (omega (arith, is, up)) (subst (λ n. b < n) (ap (slice_index (set next at reach)) is ∙ set_here reach) down)

      covered_upto : (a b : ℕ) → a < size → a ≤ b → b < slice_index (set next at reach) a → is_covered (part ∷ parts) b ≡ true
      covered_upto a b within up down = ⊎_elim
          (λ back. covered_before a b within back up down)
          (λ on. ⊎_elim
          (λ after. or_right (covers b part) (is_covered parts b) (covered_after a b within after up down))
          (λ under. covered_at a b (omega (arith, on, under)) up down)
          (cases_lt at a))
          (cases_lt a at)

      passed_before : (a : ℕ) → a < size → a < at → is_covered (part ∷ parts) a ≡ true → a < slice_index (set next at reach) a
      passed_before a within back is =
          subst (λ n. a < n) (sym (set_there reach a (λ e. omega (arith, e, back)))) (past_back a within back is)

      passed_after : (a : ℕ) → a < size → at < a → is_covered parts a ≡ true → a < slice_index (set next at reach) a
      passed_after a within on is =
          subst (λ n. a < n) (sym (set_there reach a (λ e. omega (arith, e, on)))) (past_on a within (omega (arith, on)) is)

      passed_at : (a : ℕ) → a ≡ at → end ≤ reach → a < slice_index (set next at reach) a
      passed_at a is far = subst (λ n. a < n) (sym (ap (slice_index (set next at reach)) is ∙ set_here reach)) (omega (arith, is, to, far))

      -- over what is filled already
      module _ (over : at < past) (far : end ≤ reach) where
        was_covered : (a : ℕ) → at ≤ a → a < past → is_covered parts a ≡ true
        was_covered a on under = covered_on at a here (omega arith) on (subst (λ n. a < n) (sym past_is) under)

        bytes_hopped : (a : ℕ) → a < size → a < past → slice_index memory a ≡ byte_of file (part ∷ parts) a
        bytes_hopped a within under = ⊎_elim
            (λ back. bytes_back a within back)
            (λ on. bytes_on a within on ∙ sym (byte_kept file part parts a (was_covered a on under)))
            (cases_lt a at)

        passed_hopped : (a : ℕ) → a < size → a < past → is_covered (part ∷ parts) a ≡ true → a < slice_index (set next at reach) a
        passed_hopped a within under is = ⊎_elim
            (λ back. passed_before a within back is)
            (λ on. ⊎_elim
            (λ after. passed_after a within after (was_covered a on under))
            (λ same. passed_at a (omega (arith, on, same)) far)
            (cases_lt at a))
            (cases_lt a at)

        pub hops : Filled file size (below past part parts) memory (set next at reach)
        hops = record {
          memory_long = filled.memory_long;
          next_long = length-set next at reach ∙ filled.next_long;
          bytes = λ a within. ⊎_elim
              (λ low. bytes_hopped a within low ∙ ap (λ ps. byte_of file ps a) (sym (laid_low past a part parts low)))
              (λ high. bytes_on a within (omega (arith, over, high))
              ∙ ap (λ ps. byte_of file ps a) (sym (laid_high past a part parts high)))
              (cases_lt a past);
          covered = λ a b within up down. ⊎_elim
              (λ low. ap (λ ps. is_covered ps b) (laid_low past a part parts low) ∙ covered_upto a b within up down)
              (λ high. ap (λ ps. is_covered ps b) (laid_high past a part parts high)
              ∙ covered_after a b within (omega (arith, over, high)) up down)
              (cases_lt a past);
          past = λ a within is. ⊎_elim
              (λ low. passed_hopped a within low (ap (λ ps. is_covered ps a) (sym (laid_low past a part parts low)) ∙ is))
              (λ high. passed_after a within (omega (arith, over, high))
              (ap (λ ps. is_covered ps a) (sym (laid_high past a part parts high)) ∙ is))
              (cases_lt a past);
        }

      -- one byte of the part
      module _ (free : past ≤ at) (far : end ≤ reach) (byte : ℕ) (byte_is : byte ≡ byte_in file at (Some part)) where
        not_covered : is_covered parts at ≡ false
        not_covered = ⊎_elim
            (λ was. absurd (omega (arith, free, past_is, past_on at here (omega arith) was)))
            (λ not. not)
            (cases_Bool (is_covered parts at))

        byte_there : (a : ℕ) → a ≢ at → slice_index (set memory at byte) a ≡ slice_index memory a
        byte_there a other = get_or-set_other memory at a byte 0 other

        byte_here : slice_index (set memory at byte) at ≡ byte_of file (part ∷ parts) at
        byte_here = get_or-set_same memory at byte 0 (omega (arith, here, filled.memory_long)) ∙ byte_is
            ∙ sym (byte_free file part parts at not_covered (covers_in at part loaded from to))

        bytes_written : (a : ℕ) → a < size → a ≤ at → slice_index (set memory at byte) a ≡ byte_of file (part ∷ parts) a
        bytes_written a within upto = ⊎_elim
            (λ back. byte_there a (λ e. omega (arith, e, back)) ∙ bytes_back a within back)
            (λ on. subst (λ x. slice_index (set memory at byte) x ≡ byte_of file (part ∷ parts) x)
            (let same : at ≡ a = omega (arith, on, upto) in same) byte_here)
            (cases_lt a at)

        passed_written : (a : ℕ) → a < size → a ≤ at → is_covered (part ∷ parts) a ≡ true → a < slice_index (set next at reach) a
        passed_written a within upto is = ⊎_elim
            (λ back. passed_before a within back is)
            (λ on. passed_at a (omega (arith, on, upto)) far)
            (cases_lt a at)

        pub writes : Filled file size (below (at + 1) part parts) (set memory at byte) (set next at reach)
        writes = record {
          memory_long = length-set memory at byte ∙ filled.memory_long;
          next_long = length-set next at reach ∙ filled.next_long;
          bytes = λ a within. ⊎_elim
              (λ low. bytes_written a within (omega (arith, low))
              ∙ ap (λ ps. byte_of file ps a) (sym (laid_low (at + 1) a part parts low)))
              (λ high. byte_there a (λ e. omega (arith, e, high)) ∙ bytes_on a within (omega (arith, high))
              ∙ ap (λ ps. byte_of file ps a) (sym (laid_high (at + 1) a part parts high)))
              (cases_lt a (at + 1));
          covered = λ a b within up down. ⊎_elim
              (λ low. ap (λ ps. is_covered ps b) (laid_low (at + 1) a part parts low) ∙ covered_upto a b within up down)
              (λ high. ap (λ ps. is_covered ps b) (laid_high (at + 1) a part parts high)
              ∙ covered_after a b within (omega (arith, high)) up down)
              (cases_lt a (at + 1));
          past = λ a within is. ⊎_elim
              (λ low. passed_written a within (omega (arith, low))
              (ap (λ ps. is_covered ps a) (sym (laid_low (at + 1) a part parts low)) ∙ is))
              (λ high. passed_after a within (omega (arith, high))
              (ap (λ ps. is_covered ps a) (sym (laid_high (at + 1) a part parts high)) ∙ is))
              (cases_lt a (at + 1));
        }

-- a part that covers nothing
pub aside : (file : List ℕ) (size : ℕ) (part : Part) (parts : List Part) (memory next : List ℕ) → ((a : ℕ) → covers a part ≡ false)
    → Filled file size (everywhere parts) memory next → Filled file size (everywhere (part ∷ parts)) memory next
aside file size part parts memory next unseen filled = record {
  memory_long = filled.memory_long;
  next_long = filled.next_long;
  bytes = λ a within. filled.bytes a within ∙ sym (byte_aside file part parts a (unseen a));
  covered = λ a b within up down. or_right (covers b part) (is_covered parts b) (filled.covered a b within up down);
  past = λ a within is. filled.past a within (or_less (covers a part) (is_covered parts a) is (unseen a));
}

pub not_loaded : (part : Part) → is_loaded part ≡ false → (a : ℕ) → covers a part ≡ false
not_loaded part e a = rw e refl

pub without_bytes : (part : Part) → part.sized ≡ 0 → (a : ℕ) → covers a part ≡ false
without_bytes part e a =
    ⊎_elim (λ low. covers_low a part low) (λ high. covers_high a part (omega (arith, e, high))) (cases_lt a part.address)

-- no part yet
pub empty : (file : List ℕ) (size : ℕ) (memory next : List ℕ) → memory ≡ replicate size 0 → next ≡ replicate size 0
    → Filled file size (everywhere []) memory next
empty file size memory next memory_is next_is = record {
  memory_long = ap length memory_is ∙ length-replicate size 0;
  next_long = ap length next_is ∙ length-replicate size 0;
  bytes = λ a within. ap (λ xs. slice_index xs a) memory_is ∙ get_or-replicate size a 0 0 within;
  covered = λ a b within up down. absurd
      (omega (arith, subst (λ n. b < n) (ap (λ xs. slice_index xs a) next_is ∙ get_or-replicate size a 0 0 within) down));
  past = λ a within is. absurd (true≢false (sym is));
}

-- all parts
pub whole : (file : List ℕ) (size : ℕ) (parts : List Part) (memory next : List ℕ) → Filled file size (everywhere parts) memory next
    → memory ≡ map (byte_of file parts) (range_with_len 0 size)
whole file size parts memory next filled = ext_get_or 0 memory (map (byte_of file parts) (range_with_len 0 size))
    (filled.memory_long ∙ sym (length-map-range_with_len (byte_of file parts) 0 size))
    (λ a within. let inside : a < size = omega (arith, within, filled.memory_long) in filled.bytes a inside
    ∙ sym (get_or-map-range_with_len (byte_of file parts) 0 size a a 0 inside (omega arith)))

pub image_is : (file memory : List ℕ) (size entry : ℕ) → memory ≡ map (byte_of file (parts_of file)) (range_with_len 0 size)
    → entry ≡ word_at file 24 → record { memory = memory; entry = entry } ≡ image_of size file
unfolding image_of
image_is file memory size entry memory_is entry_is = rw (memory_is, entry_is) refl

-- what a vector holds after its slice was filled
pub written_back : (file : List ℕ) (size : ℕ) (parts : List Part) (items memory next : List ℕ) (len : ℕ)
    → Filled file size (everywhere parts) memory next → len ≡ size
    → take len (memory ++ drop (length memory) items) ≡ map (byte_of file parts) (range_with_len 0 size)
written_back file size parts items memory next len filled e =
    ap (λ n. take n (memory ++ drop (length memory) items)) (e ∙ sym filled.memory_long)
    ∙ take-append_seam memory (drop (length memory) items) ∙ whole file size parts memory next filled
