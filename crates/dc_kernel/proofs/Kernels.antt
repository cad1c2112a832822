-- Kernels and their texts, both ways.
use Rattle.std.proofs.Common.{◌≡◌, ◌≢◌, ◌∙◌, ◌+◌, ◌-◌, ◌*◌, ◌%◌, ◌^◌, ◌<◌, ◌≤◌, ◌||◌, ◌⊎◌, ◌==◌, inl, inr, ℕ, suc, not, Bool, true, false, List, ◌∷◌, ◌++◌, length, map, take, drop, eqb, slice_index, Option, Some, None, if◌then◌else◌}
use Rattle.std.proofs.Common.{ap, sym, refl, arith, length-append, length-drop, length-take-le}
use Rattle.std.proofs.lemmas.Bool.{and_parts, cases_eq, eq-eqb, eqb-true, le-leb, leb-true, ne_eqb}
use Rattle.std.proofs.lemmas.List.{drop-drop, drop_at, drop_more, length-map, take-append-drop, take_at}
use Rattle.std.specs.List.{AllByRecursion, list_all}
use Rattle.dc_isa.specs.declared.regs.Regs.{Regs}
use Rattle.dc_links.specs.Links.{Link, link_to, unused}
use Rattle.dc_words.specs.Words.{AllBelow}
use Rattle.dc_kernel.specs.declared.faults.KernelFault.{KernelFault}
use Rattle.dc_kernel.specs.declared.faults.KernelFault.TheVariants as fault
use Rattle.dc_kernel.specs.declared.status.Status.{Status}
use Rattle.dc_kernel.specs.declared.status.Status.TheVariants.{Running, Exited, Trapped}
use Rattle.dc_kernel.specs.Faults.{kernel_fault, has_counts, has_status, is_entry, is_status, is_zero}
use Rattle.dc_kernel.specs.Kernels.{IsKernel, IsLink, IsProcess, IsStatus, Kernel}
use Rattle.dc_kernel.specs.Layout.{entries_at, entries_of, entry_of, entry_words, kernel_words, parts, register_count, registers_at}
use Rattle.dc_kernel.specs.Readings.{kernel_in, link_in, received_in, regs_in, status_in}
use Rattle.dc_kernel.specs.Texts.{entries_text, entry_text, status_code, status_word, text_of}
use Rattle.dc_kernel.proofs.Entries.{entries_again, entries_right, entry_at, links_again, none_received_in, none_sent_in, received_again, zero_entry}
use Rattle.dc_kernel.proofs.Parts.{below-drop, length-parts}
use Rattle.dc_kernel.proofs.Written.{entries_long}

-- a status and its words
pub status_right : (s : Status) → IsStatus s → is_status (status_word s) (status_code s) ≡ true
status_right Running is = refl
status_right (Exited code) is = refl
status_right (Trapped cause) is = le-leb cause 7 is

pub status_told : (s : Status) → status_in (status_word s) (status_code s) ≡ s
status_told Running = refl
status_told (Exited code) = refl
status_told (Trapped cause) = refl

status_zero : (c : ℕ) → is_status 0 c ≡ true → (status_word (status_in 0 c) ≡ 0) × (status_code (status_in 0 c) ≡ c) × IsStatus (status_in 0 c)
status_zero c right = (refl, sym (eqb-true c 0 (only (eqb c 0) right)), tt)
  where
    only : (b : Bool) → (b || false) ≡ true → b ≡ true
    only true e = refl
    only false e = e

pub status_again : (w c : ℕ) → is_status w c ≡ true
    → (status_word (status_in w c) ≡ w) × (status_code (status_in w c) ≡ c) × IsStatus (status_in w c)
status_again w c right = none (cases_eq w 0)
  where
    two : (w ≡ 2) ⊎ (w ≡ 2 → ⊥) → w ≢ 0 → w ≢ 1 → (status_word (status_in w c) ≡ w) × (status_code (status_in w c) ≡ c) × IsStatus (status_in w c)
    two (inl e) not_none not_one = rw e (refl, refl, leb-true c 7 (rw e at right))
    two (inr other) not_none not_one = absurd (let never : false ≡ true = rw (ne_eqb w 0 not_none, ne_eqb w 1 not_one, ne_eqb w 2 other) at right in let wrong : ⊥ = cc in wrong)

    one : (w ≡ 1) ⊎ (w ≡ 1 → ⊥) → w ≢ 0 → (status_word (status_in w c) ≡ w) × (status_code (status_in w c) ≡ c) × IsStatus (status_in w c)
    one (inl e) not_none = rw e (refl, refl, tt)
    one (inr other) not_none = two (cases_eq w 2) not_none other

    none : (w ≡ 0) ⊎ (w ≡ 0 → ⊥) → (status_word (status_in w c) ≡ w) × (status_code (status_in w c) ≡ c) × IsStatus (status_in w c)
    none (inl e) = rw e (status_zero c (rw e at right))
    none (inr other) = one (cases_eq w 1) other

-- where nothing is wrong, each test passed
passed : (b : Bool) (f : KernelFault) (later : Option KernelFault) → (if not b then Some f else later) ≡ None → (b ≡ true) × (later ≡ None)
passed true f later e = (refl, e)
passed false f later e = absurd (let never : ⊥ = cc in never)

pub record IsRight (n p : ℕ) (words : List ℕ) : Type 0 where
  pub long : length words ≡ kernel_words n
  pub version_is : slice_index words 0 ≡ 1
  pub n_is : slice_index words 1 ≡ n
  pub p_is : slice_index words 2 ≡ p
  pub entries : list_all is_entry (entries_of n words) ≡ true
  pub own : is_zero (entry_of p words) ≡ true
  pub status : is_status (slice_index words 3) (slice_index words 4) ≡ true
  pub aligned : slice_index words 9 % 4 ≡ 0

pub right_from : (n p : ℕ) (words : List ℕ) → kernel_fault n p words ≡ None → IsRight n p words
unfolding kernel_fault
right_from n p words e =
    let size = passed (length words == kernel_words n) fault.Size _ e in
    let version = passed (slice_index words 0 == 1) fault.Version _ size.1 in
    let count = passed (has_counts n p words) fault.Count _ version.1 in
    let status = passed (has_status words) fault.Status None count.1 in
    let one = and_parts (slice_index words 1 == n) _ count.0 in
    let two = and_parts (slice_index words 2 == p) _ one.1 in
    let three = and_parts (list_all is_entry (entries_of n words)) _ two.1 in
    let four = and_parts (is_status (slice_index words 3) (slice_index words 4)) _ status.0 in
    record {
      long = eqb-true (length words) (kernel_words n) size.0;
      version_is = eqb-true (slice_index words 0) 1 version.0;
      n_is = eqb-true (slice_index words 1) n one.0;
      p_is = eqb-true (slice_index words 2) p two.0;
      entries = three.0;
      own = three.1;
      status = four.0;
      aligned = eqb-true (slice_index words 9 % 4) 0 four.1;
    }

pub none_from : (n p : ℕ) (words : List ℕ) → IsRight n p words → kernel_fault n p words ≡ None
unfolding kernel_fault
none_from n p words is = rw (
  eq-eqb (length words) (kernel_words n) is.long,
  eq-eqb (slice_index words 0) 1 is.version_is,
  eq-eqb (slice_index words 1) n is.n_is,
  eq-eqb (slice_index words 2) p is.p_is,
  is.entries,
  is.own,
  is.status,
  eq-eqb (slice_index words 9 % 4) 0 is.aligned,
) refl

-- right words are a kernel's
module _ (n p : ℕ) (words : List ℕ) (few : n ≤ 8) (one_of : p < n) (is : IsRight n p words) where
  registers_long : length (take register_count (drop registers_at words)) ≡ register_count
  registers_long = length-take-le register_count (drop registers_at words) (omega (arith, length-drop registers_at words, is.long))

  entries_size : length (drop entries_at words) ≡ entry_words * n
  entries_size = length-drop entries_at words ∙ (let same : length words - entries_at ≡ entry_words * n = omega (arith, is.long) in same)

  own_zero : is_zero (take entry_words (drop (entry_words * p) (drop entries_at words))) ≡ true
  own_zero = ap (λ ws. is_zero (take entry_words ws)) (drop-drop (entry_words * p) entries_at words) ∙ is.own

  status_is : (status_word (status_in (slice_index words 3) (slice_index words 4)) ≡ slice_index words 3)
      × (status_code (status_in (slice_index words 3) (slice_index words 4)) ≡ slice_index words 4) × IsStatus (status_in (slice_index words 3) (slice_index words 4))
  status_is = status_again (slice_index words 3) (slice_index words 4) is.status

  pub process_in : IsProcess n p (status_in (slice_index words 3) (slice_index words 4)) (regs_in words) (map received_in (entries_of n words)) (map link_in (entries_of n words))
  process_in = record {
    few = few;
    one_of = one_of;
    status_is = status_is.2;
    regs_are = record { count = ap suc registers_long; zero = refl; aligned = is.aligned };
    received_from = length-map (entries_of n words) received_in ∙ length-parts n entry_words (drop entries_at words);
    sent_to = length-map (entries_of n words) link_in ∙ length-parts n entry_words (drop entries_at words);
    none_received = none_received_in n p (drop entries_at words) one_of entries_size own_zero;
    none_sent = none_sent_in n p (drop entries_at words) one_of entries_size own_zero;
  }

  ten : words ≡ slice_index words 0 ∷ slice_index words 1 ∷ slice_index words 2 ∷ slice_index words 3 ∷ slice_index words 4 ∷ slice_index words 5 ∷ slice_index words 6 ∷ slice_index words 7 ∷ slice_index words 8 ∷ slice_index words 9 ∷ drop registers_at words
  ten =
      let w = slice_index words in
      let next : (i : ℕ) → i < registers_at → drop i words ≡ slice_index words i ∷ drop (i + 1) words = λ i below. drop_more words i 0 (omega (arith, is.long, below)) in
      next 0 (omega arith) ∙ ap (λ xs. w 0 ∷ xs) (next 1 (omega arith)
      ∙ ap (λ xs. w 1 ∷ xs) (next 2 (omega arith) ∙ ap (λ xs. w 2 ∷ xs) (next 3 (omega arith)
      ∙ ap (λ xs. w 3 ∷ xs) (next 4 (omega arith) ∙ ap (λ xs. w 4 ∷ xs) (next 5 (omega arith)
      ∙ ap (λ xs. w 5 ∷ xs) (next 6 (omega arith) ∙ ap (λ xs. w 6 ∷ xs) (next 7 (omega arith)
      ∙ ap (λ xs. w 7 ∷ xs) (next 8 (omega arith) ∙ ap (λ xs. w 8 ∷ xs) (next 9 (omega arith))))))))))

  module _ (small : AllBelow (2 ^ 32) words) where
    entries_are : (entries_text (map received_in (entries_of n words)) (map link_in (entries_of n words)) ≡ drop entries_at words) × AllByRecursion IsLink (map link_in (entries_of n words))
    entries_are = entries_again n (drop entries_at words) entries_size (below-drop (2 ^ 32) entries_at words small) is.entries

    rest : take register_count (drop registers_at words) ++ entries_text (map received_in (entries_of n words)) (map link_in (entries_of n words)) ≡ drop registers_at words
    rest = ap (λ xs. take register_count (drop registers_at words) ++ xs) (entries_are.0 ∙ sym (drop-drop register_count registers_at words)) ∙ take-append-drop register_count (drop registers_at words)

    pub kernel_is : IsKernel n p (kernel_in n p words)
    unfolding kernel_in
    kernel_is = record { n_is = refl; p_is = refl; process = process_in; links_are = entries_are.1 }

    pub text_is : words ≡ text_of (kernel_in n p words)
    unfolding kernel_in text_of
    text_is = ten ∙ rw (is.version_is, is.n_is, is.p_is, status_is.0, status_is.1, rest) refl

-- and a kernel's text is right, with that kernel in it
module _ (n p : ℕ) (k : Kernel) (is : IsKernel n p k) where
  same : length k.links ≡ length k.received
  same = is.process.sent_to ∙ sym is.process.received_from

  registers : length (drop 1 k.regs.x) ≡ register_count
  registers = length-drop 1 k.regs.x ∙ (let left : length k.regs.x - 1 ≡ register_count = omega (arith, is.process.regs_are.count) in left)

  entries_size_of : length (entries_text k.received k.links) ≡ entry_words * n
  entries_size_of = entries_long k.received k.links same is.links_are ∙ ap (λ m. entry_words * m) (is.process.received_from ∙ is.n_is)

  size : length (text_of k) ≡ kernel_words n
  unfolding text_of
  size = let both : length (drop 1 k.regs.x ++ entries_text k.received k.links) ≡ length (drop 1 k.regs.x) + length (entries_text k.received k.links)
      = length-append (drop 1 k.regs.x) (entries_text k.received k.links) in omega (arith, both, registers, entries_size_of)

  entries_behind : drop entries_at (text_of k) ≡ entries_text k.received k.links
  unfolding text_of
  entries_behind = drop_at (drop 1 k.regs.x) (entries_text k.received k.links) register_count registers

  parts_behind : entries_of n (text_of k) ≡ parts (length k.received) entry_words (entries_text k.received k.links)
  parts_behind = ap (parts n entry_words) entries_behind ∙ ap (λ m. parts m entry_words (entries_text k.received k.links)) (sym (is.process.received_from ∙ is.n_is))

  own_behind : entry_of p (text_of k) ≡ entry_text 0 unused
  own_behind = ap (take entry_words) (sym (drop-drop (entry_words * p) entries_at (text_of k))) ∙ ap (λ ws. take entry_words (drop (entry_words * p) ws)) entries_behind
      ∙ entry_at k.received k.links p (omega (arith, is.process.one_of, is.process.received_from, is.p_is)) same is.links_are
      ∙ ap (λ r. entry_text r (link_to k.links p)) (ap (slice_index k.received) (sym is.p_is) ∙ is.process.none_received)
      ∙ ap (entry_text 0) (ap (link_to k.links) (sym is.p_is) ∙ is.process.none_sent)

  pub text_right : IsRight n p (text_of k)
  unfolding text_of
  text_right = record {
    long = size;
    version_is = refl;
    n_is = is.n_is;
    p_is = is.p_is;
    entries = ap (list_all is_entry) parts_behind ∙ entries_right k.received k.links same is.links_are;
    own = ap is_zero own_behind ∙ zero_entry;
    status = status_right k.status is.process.status_is;
    aligned = is.process.regs_are.aligned;
  }

  x_again : 0 ∷ take register_count (drop 1 k.regs.x ++ entries_text k.received k.links) ≡ k.regs.x
  x_again = ap (λ xs. 0 ∷ xs) (take_at (drop 1 k.regs.x) (entries_text k.received k.links) register_count registers)
      ∙ ap (λ z. z ∷ drop 1 k.regs.x) (sym is.process.regs_are.zero)
      ∙ sym (drop_more k.regs.x 0 0 (omega (arith, is.process.regs_are.count)))

  pub kernel_again : kernel_in n p (text_of k) ≡ k
  unfolding kernel_in text_of
  kernel_again = rw (status_told k.status, x_again, parts_behind, received_again k.received k.links same is.links_are, links_again k.received k.links same is.links_are, sym is.n_is, sym is.p_is) refl

-- one text has one kernel
pub one_kernel : (n p : ℕ) (a b : Kernel) → IsKernel n p a → IsKernel n p b → text_of a ≡ text_of b → a ≡ b
one_kernel n p a b a_is b_is same = sym (kernel_again n p a a_is) ∙ ap (kernel_in n p) same ∙ kernel_again n p b b_is

-- the values read from words are those of the kernel in them
pub read_values : (n p : ℕ) (words : List ℕ) (status : Status) (regs : Regs) (received : List ℕ) (links : List Link)
    → status ≡ status_in (slice_index words 3) (slice_index words 4) → regs ≡ regs_in words
    → received ≡ map received_in (entries_of n words) → links ≡ map link_in (entries_of n words)
    → record {
      n = n;
      p = p;
      status = status;
      commit = slice_index words 5;
      position = slice_index words 6;
      visible = slice_index words 7;
      inputs_taken = slice_index words 8;
      regs = regs;
      received = received;
      links = links;
    } ≡ kernel_in n p words
unfolding kernel_in
read_values n p words status regs received links a b c d = rw (a, b, c, d) refl

-- what is read is a kernel with these words as its text, and the only one
module _ (n p : ℕ) (words : List ℕ) (few : n ≤ 8) (one_of : p < n) (small : AllBelow (2 ^ 32) words) (new : Kernel) (read : new ≡ kernel_in n p words) where
  pub read_is : kernel_fault n p words ≡ None → IsKernel n p new × (words ≡ text_of new)
  read_is none = let right = right_from n p words none in rw read (kernel_is n p words few one_of right small, text_is n p words few one_of right small)

pub read_only : (n p : ℕ) (words : List ℕ) (new kernel : Kernel) → new ≡ kernel_in n p words → IsKernel n p kernel → words ≡ text_of kernel → new ≡ kernel
read_only n p words new kernel read is text = read ∙ ap (kernel_in n p) text ∙ kernel_again n p kernel is

-- and what is refused is no kernel's text
pub refused_none : (n p : ℕ) (words : List ℕ) (kernel : Kernel) (f : KernelFault) → kernel_fault n p words ≡ Some f → IsKernel n p kernel → words ≡ text_of kernel → ⊥
refused_none n p words kernel f refused is text =
    let none : kernel_fault n p words ≡ None = ap (kernel_fault n p) text ∙ none_from n p (text_of kernel) (text_right n p kernel is) in
    let never : ⊥ = cc in never
