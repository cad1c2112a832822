-- Slots and entries written one after the other.
use Rattle.std.proofs.Common.{◌≡◌, ◌∙◌, ◌+◌, ◌-◌, ◌*◌, ◌<◌, ◌≤◌, ℕ, zero, suc, List, [], ◌∷◌, ◌++◌, length, take, drop, replicate, slice_index}
use Rattle.std.proofs.Common.{ap, sym, arith, add-one, length-append, length-drop, length-take-le, Some, None}
use Rattle.std.proofs.Common.{◌⊎◌, inl, inr}
use Rattle.std.proofs.lemmas.Bool.{cases_lt}
use Rattle.std.proofs.lemmas.List.{append-nil, append_assoc, drop-drop, drop-replicate, flat_map_more, length-replicate, take_all, take_at, take_more}
use Rattle.std.proofs.lemmas.Option.{get_or_from_slice_get, slice_get-get_or, slice_get_within}
use Rattle.std.specs.List.{AllByRecursion, flat_map, slice_get}
use borrow.Rule.Slice.PartMut.{put_mid}
use Rattle.dc_links.specs.Links.{Link, link_to, unused}
use Rattle.dc_kernel.specs.Kernels.{IsLink, IsMessage}
use Rattle.dc_kernel.specs.Layout.{entries_at, entry_words, register_count, registers_at, slot_count, slot_words}
use Rattle.dc_kernel.specs.Texts.{entries_text, entry_text, slot_text, slots_text}
use Rattle.dc_kernel.proofs.Parts.{piece_written, put_behind, texts_long}
use Rattle.dc_kernel.proofs.Slots.{messages_long}

-- what holds of each, and of one more
push_each : {X : Type 0} (P : X → Type 0) (xs : List X) (x : X) → AllByRecursion P xs → P x → AllByRecursion P (xs ++ x ∷ [])
push_each P [] x all one = (one, tt)
push_each P (y ∷ xs) x all one = (all.0, push_each P xs x all.1 one)

-- one message more in its slot
module _ (kept : List (List ℕ)) (j : ℕ) (message : List ℕ) (is : slice_get kept j ≡ Some message) where
  one_more : take (j + 1) kept ≡ take j kept ++ message ∷ []
  one_more = take_more kept j message (slice_get_within kept j message is)
      ∙ ap (λ m. take j kept ++ m ∷ []) (get_or_from_slice_get kept j message message is)

  pub messages_more : AllByRecursion IsMessage (take j kept) → IsMessage message → AllByRecursion IsMessage (take (j + 1) kept)
  messages_more all one = rw one_more (push_each IsMessage (take j kept) message all one)

  pub slots_more : (slots new : List ℕ) (size : ℕ) → j < slot_count → size ≡ slot_words → AllByRecursion IsMessage (take j kept) → new ≡ slot_text message
      → slots ≡ flat_map slot_text (take j kept) ++ replicate {A = ℕ} (slot_words * (slot_count - j)) 0
      → put_mid (j * slot_words) size slots new ≡ flat_map slot_text (take (j + 1) kept) ++ replicate {A = ℕ} (slot_words * (slot_count - (j + 1))) 0
  slots_more slots new size few whole all is_text so_far =
      ap (λ n. put_mid (j * slot_words) n slots new) whole ∙ ap (λ s. put_mid (j * slot_words) slot_words s new) so_far
      ∙ piece_written (flat_map slot_text (take j kept)) new (replicate {A = ℕ} (slot_words * (slot_count - j)) 0) (j * slot_words) slot_words long
      ∙ ap (λ xs. (flat_map slot_text (take j kept) ++ new) ++ xs) left
      ∙ ap (λ xs. xs ++ replicate {A = ℕ} (slot_words * (slot_count - (j + 1))) 0) written
    where
      long : length (flat_map slot_text (take j kept)) ≡ j * slot_words
      long = texts_long slot_text slot_words (take j kept) (messages_long (take j kept) all)
          ∙ (let within : j < length kept = slice_get_within kept j message is in
          let count : length (take j kept) ≡ j = length-take-le j kept (omega (arith, within)) in
          let same : slot_words * length (take j kept) ≡ j * slot_words = omega (arith, count) in same)

      left : drop slot_words (replicate {A = ℕ} (slot_words * (slot_count - j)) 0) ≡ replicate {A = ℕ} (slot_words * (slot_count - (j + 1))) 0
      left = drop-replicate slot_words (slot_words * (slot_count - j)) 0 ∙ ap (λ n. replicate {A = ℕ} n 0) (let same : slot_words * (slot_count - j) - slot_words ≡ slot_words * (slot_count - (j + 1)) = omega (arith, few) in same)

      written : flat_map slot_text (take j kept) ++ new ≡ flat_map slot_text (take (j + 1) kept)
      written = ap (λ xs. flat_map slot_text (take j kept) ++ xs) is_text
          ∙ flat_map_more slot_text [] (take j kept) message ∙ ap (flat_map slot_text) (sym one_more)

-- all messages in their slots
module _ (kept : List (List ℕ)) (j : ℕ) (within : j ≤ length kept) (none : slice_get kept j ≡ None) where
  past : length kept ≤ j
  past = not_within (cases_lt j (length kept))
    where
      not_within : (j < length kept) ⊎ (length kept ≤ j) → length kept ≤ j
      not_within (inl inside) = absurd (let never : ⊥ = cc (slice_get-get_or kept j [] inside) in never)
      not_within (inr outside) = outside

  pub messages_all : AllByRecursion IsMessage (take j kept) → AllByRecursion IsMessage kept
  messages_all all = rw (take_all j kept past) at all

  pub slots_all : (slots : List ℕ) → slots ≡ flat_map slot_text (take j kept) ++ replicate {A = ℕ} (slot_words * (slot_count - j)) 0 → slots ≡ slots_text kept
  slots_all slots so_far = so_far ∙ ap (λ ms. flat_map slot_text ms ++ replicate {A = ℕ} (slot_words * (slot_count - j)) 0) (take_all j kept past)
      ∙ ap (λ n. flat_map slot_text kept ++ replicate {A = ℕ} (slot_words * (slot_count - n)) 0) (let same : j ≡ length kept = omega (arith, within, past) in same)

-- an entry's size
slots_long : (kept : List (List ℕ)) → length kept ≤ slot_count → AllByRecursion IsMessage kept → length (slots_text kept) ≡ slot_words * slot_count
slots_long kept few all = length-append (flat_map slot_text kept) (replicate {A = ℕ} (slot_words * (slot_count - length kept)) 0)
    ∙ ap (λ n. n + length (replicate {A = ℕ} (slot_words * (slot_count - length kept)) 0)) (texts_long slot_text slot_words kept (messages_long kept all))
    ∙ ap (λ n. slot_words * length kept + n) (length-replicate {A = ℕ} (slot_words * (slot_count - length kept)) 0)
    ∙ (let whole : slot_words * length kept + slot_words * (slot_count - length kept) ≡ slot_words * slot_count = omega (arith, few) in whole)

pub entry_long : (received : ℕ) (link : Link) → IsLink link → length (entry_text received link) ≡ entry_words
entry_long received link is = ap (λ n. suc (suc (suc n))) (slots_long link.kept is.few is.messages)

pub entries_long : (received : List ℕ) (links : List Link) → length links ≡ length received → AllByRecursion IsLink links
    → length (entries_text received links) ≡ entry_words * length received
entries_long [] [] same all = let none : 0 ≡ entry_words * 0 = omega arith in none
entries_long [] (l ∷ links) same all = absurd (omega (arith, same))
entries_long (r ∷ received) [] same all = absurd (omega (arith, same))
entries_long (r ∷ received) (l ∷ links) same all = length-append (entry_text r l) (entries_text received links)
    ∙ ap (λ n. n + length (entries_text received links)) (entry_long r l all.0)
    ∙ ap (λ n. entry_words + n) (entries_long received links (omega (arith, same)) all.1)
    ∙ (let more : entry_words + entry_words * length received ≡ entry_words * suc (length received) = omega arith in more)

-- one entry more
entries_next : (received : List ℕ) (links : List Link) (q : ℕ) → q < length received → q < length links
    → entries_text (take (suc q) received) (take (suc q) links) ≡ entries_text (take q received) (take q links) ++ entry_text (slice_index received q) (link_to links q)
entries_next [] links q a b = absurd (omega (arith, a))
entries_next (r ∷ received) [] q a b = absurd (omega (arith, b))
entries_next (r ∷ received) (l ∷ links) zero a b = append-nil (entry_text r l)
entries_next (r ∷ received) (l ∷ links) (suc q) a b =
    ap (λ xs. entry_text r l ++ xs) (entries_next received links q (omega (arith, a)) (omega (arith, b)))
    ∙ sym (append_assoc (entry_text r l) (entries_text (take q received) (take q links)) (entry_text (slice_index received q) (link_to links q)))

module _ (received : List ℕ) (links : List Link) (q : ℕ) (same : length links ≡ length received) (within : q < length received)
    (all : AllByRecursion IsLink (take q links)) where
  inside : q < length links
  inside = omega (arith, same, within)

  pub links_more : IsLink (link_to links q) → AllByRecursion IsLink (take (q + 1) links)
  links_more one = rw (take_more links q unused inside) (push_each IsLink (take q links) (link_to links q) all one)

  pub entries_more : (old entries new : List ℕ) (size : ℕ) → size ≡ entry_words → new ≡ entry_text (slice_index received q) (link_to links q)
      → entries ≡ entries_text (take q received) (take q links) ++ drop (entry_words * q) old
      → put_mid (q * entry_words) size entries new ≡ entries_text (take (q + 1) received) (take (q + 1) links) ++ drop (entry_words * (q + 1)) old
  entries_more old entries new size whole is so_far =
      ap (λ n. put_mid (q * entry_words) n entries new) whole ∙ ap (λ s. put_mid (q * entry_words) entry_words s new) so_far
      ∙ piece_written (entries_text (take q received) (take q links)) new (drop (entry_words * q) old) (q * entry_words) entry_words long
      ∙ ap (λ xs. (entries_text (take q received) (take q links) ++ new) ++ xs) left
      ∙ ap (λ xs. xs ++ drop (entry_words * (q + 1)) old) written
    where
      front_long : length (take q received) ≡ q
      front_long = length-take-le q received (omega (arith, within))

      links_long : length (take q links) ≡ q
      links_long = length-take-le q links (omega (arith, inside))

      long : length (entries_text (take q received) (take q links)) ≡ q * entry_words
      long = entries_long (take q received) (take q links) (links_long ∙ sym front_long) all
          ∙ (let same : entry_words * length (take q received) ≡ q * entry_words = omega (arith, front_long) in same)

      left : drop entry_words (drop (entry_words * q) old) ≡ drop (entry_words * (q + 1)) old
      left = drop-drop entry_words (entry_words * q) old ∙ ap (λ n. drop n old) (let same : entry_words * q + entry_words ≡ entry_words * (q + 1) = omega arith in same)

      written : entries_text (take q received) (take q links) ++ new ≡ entries_text (take (q + 1) received) (take (q + 1) links)
      written = ap (λ xs. entries_text (take q received) (take q links) ++ xs) is
          ∙ sym (entries_next received links q within inside)
          ∙ ap (λ n. entries_text (take n received) (take n links)) (sym (add-one q))

-- a header, registers and entries, each behind the other
pub text_written : (to header registers entries : List ℕ) → entries_at ≤ length to → length header ≡ registers_at → length registers ≡ register_count
    → put_mid entries_at (length (put_mid registers_at register_count (header ++ drop registers_at to) registers) - entries_at) (put_mid registers_at register_count (header ++ drop registers_at to) registers) entries ≡ (header ++ registers) ++ entries
text_written to header registers entries long ten more =
    put_behind entries_at (put_mid registers_at register_count (header ++ drop registers_at to) registers) entries (omega (arith, ap length front, ahead, left, long, both))
    ∙ ap (λ xs. xs ++ entries) (ap (take entries_at) front ∙ take_at (header ++ registers) (drop register_count (drop registers_at to)) entries_at both)
  where
    front : put_mid registers_at register_count (header ++ drop registers_at to) registers ≡ (header ++ registers) ++ drop register_count (drop registers_at to)
    front = piece_written header registers (drop registers_at to) registers_at register_count ten

    both : length (header ++ registers) ≡ entries_at
    both = length-append header registers ∙ (let same : length header + length registers ≡ entries_at = omega (arith, ten, more) in same)

    ahead : length ((header ++ registers) ++ drop register_count (drop registers_at to)) ≡ length (header ++ registers) + length (drop register_count (drop registers_at to))
    ahead = length-append (header ++ registers) (drop register_count (drop registers_at to))

    left : length (drop register_count (drop registers_at to)) ≡ length to - registers_at - register_count
    left = length-drop register_count (drop registers_at to) ∙ ap (λ n. n - register_count) (length-drop registers_at to)
