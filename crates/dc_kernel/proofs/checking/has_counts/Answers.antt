use Rattle.std.proofs.Common.{◌≡◌, ◌∙◌, ◌+◌, ◌-◌, ◌*◌, ℕ, List, Bool, ap, sym, arith, true, false, drop, take, slice_index}
use Rattle.std.proofs.lemmas.Bool.{eq-eqb}
use Rattle.std.proofs.lemmas.List.{take_rest}
use Rattle.std.specs.List.{list_all}
use Rattle.dc_kernel.specs.Faults.{has_counts, is_entry, is_zero}
use Rattle.dc_kernel.specs.Layout.{entries_at, entries_of, entry_words, parts}
use Rattle.dc_kernel.proofs.checking.has_counts.Goals as goal

module _ (n p : ℕ) (words : List ℕ) (n_is : slice_index words 1 ≡ n) (p_is : slice_index words 2 ≡ p) where
  counts_right : list_all is_entry (entries_of n words) ≡ true → is_zero (take entry_words (drop (entries_at + p * entry_words) words)) ≡ has_counts n p words
  counts_right right = rw (eq-eqb (slice_index words 1) n n_is, eq-eqb (slice_index words 2) p p_is, right)
      (ap (λ at. is_zero (take entry_words (drop at words))) (let same : entries_at + p * entry_words ≡ entries_at + entry_words * p = omega arith in same))

  counts_wrong : (told : Bool) → told ≡ list_all is_entry (entries_of n words) → told ≡ false → told ≡ has_counts n p words
  counts_wrong told is wrong = rw (eq-eqb (slice_index words 1) n n_is, eq-eqb (slice_index words 2) p p_is, sym is ∙ wrong) wrong

pub returns-then-are_entries : goal.returns-then-are_entries
returns-then-are_entries c = c.is_zero.ensures ∙ ap (λ size. is_zero (take size (drop (entries_at + c.args.p * entry_words) c.args.words.now))) size
    ∙ counts_right c.args.n c.args.p c.args.words.now c.if-words-n.false c.if-words-p.false (sym entries ∙ c.if-are_entries.true)
  where
    size : entries_at + c.args.p * entry_words + entry_words - (entries_at + c.args.p * entry_words) ≡ entry_words
    size = omega arith

    entries : c.are_entries.result ≡ list_all is_entry (entries_of c.args.n c.args.words.now)
    entries = c.are_entries.ensures ∙ ap (λ ws. list_all is_entry (parts c.args.n entry_words ws)) (take_rest c.args.words.now entries_at)

pub returns-else-are_entries : goal.returns-else-are_entries
returns-else-are_entries c = counts_wrong c.args.n c.args.p c.args.words.now c.if-words-n.false c.if-words-p.false c.are_entries.result
    (c.are_entries.ensures ∙ ap (λ ws. list_all is_entry (parts c.args.n entry_words ws)) (take_rest c.args.words.now entries_at)) c.if-are_entries.false
