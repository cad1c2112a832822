-- A commit's members are read from their list.
use Rattle.std.proofs.Common.{◌≡◌, ◌∙◌, ◌^◌, ◌+◌, ◌-◌, ◌<◌, ◌≤◌, ℕ, zero, suc, Bool, true, false, List, [], ◌∷◌, ◌++◌, length, map, replicate, decimal, Option, Some, Ok, ap, sym, refl, arith, nat_lt, append_assoc, length-append}
use Rattle.std.specs.List.{AllByRecursion, list_all}
use Rattle.std.proofs.Math.ListN.{set}
use Rattle.std.proofs.Math.Nat.{min-eq_left}
use Rattle.std.proofs.Math.Seq.{set-append_seam}
use Rattle.std.proofs.lemmas.Bool.{le-leb, lt-ltb, ne_eqb, true≢false}
use Rattle.dc_words.specs.Texts.{fields_of, has_no, joined}
use Rattle.dc_words.proofs.Joining.{fields_last, fields_then, none_in_both}
use Rattle.dc_words.proofs.Reading.{decimal_has_no, decimal_reads}
use Rattle.dc_audit.specs.declared.journal.Line.TheVariants.{Commits}
use Rattle.dc_audit.specs.declared.said.Said.TheVariants.{Says}
use Rattle.dc_audit.specs.Journals.{marked}
use Rattle.dc_audit.specs.Reading.{capped, commit_of, marks_at, rising, rising_then}
use Rattle.dc_journal.specs.Texts.{members_from}

-- a number of a journal is read as it was written
pub capped_again : (k : ℕ) → k ≤ 2 ^ 32 - 1 → capped (decimal k) ≡ Some k
capped_again k small = let reads = decimal_reads k (omega (arith, small)) in rw (reads.0, reads.1, min-eq_left small) refl

-- numbers of processes
abbrev pub AreFew : List ℕ → Type 0
AreFew ps = AllByRecursion (λ p. p < 16) ps

pub members_few : (q : ℕ) (marks : List Bool) → q + length marks ≤ 16 → AreFew (members_from q marks)
members_few q [] few = tt
members_few q (true ∷ marks) few = (omega (arith, few), members_few (suc q) marks (omega (arith, few)))
members_few q (false ∷ marks) few = members_few (suc q) marks (omega (arith, few))

-- a list of numbers has no other byte of a kind below the digits than its commas
pub list_free : (stop : ℕ) (ps : List ℕ) → stop < 44 → AreFew ps → has_no stop (joined 44 (map decimal ps)) ≡ true
list_free stop [] low few = refl
list_free stop (p ∷ []) low few = decimal_has_no stop p (omega (arith, low)) (let h = few.0 in omega (arith, h))
list_free stop (p ∷ q ∷ ps) low few = none_in_both stop (decimal p) (44 ∷ joined 44 (map decimal (q ∷ ps)))
    (decimal_has_no stop p (omega (arith, low)) (let h = few.0 in omega (arith, h)))
    (none_in_both stop (44 ∷ []) (joined 44 (map decimal (q ∷ ps))) (rw (ne_eqb 44 stop (λ e. omega (arith, e, low))) refl) (list_free stop (q ∷ ps) low few.1))

-- and its fields are the numbers
pub list_fields : (p : ℕ) (ps : List ℕ) → AreFew (p ∷ ps) → fields_of 44 (joined 44 (map decimal (p ∷ ps))) ≡ map decimal (p ∷ ps)
list_fields p [] few = fields_last 44 (decimal p) (decimal_has_no 44 p (omega arith) (let h = few.0 in omega (arith, h)))
list_fields p (q ∷ ps) few = fields_then 44 (decimal p) (joined 44 (map decimal (q ∷ ps))) (decimal_has_no 44 p (omega arith) (let h = few.0 in omega (arith, h)))
    ∙ ap (λ parts. decimal p ∷ parts) (list_fields q ps few.1)

-- they rise
rises : (low q : ℕ) (rest : ℕ → Option (List ℕ)) (ps : List ℕ) → low ≤ q → rest q ≡ Some ps → rising_then low (Some q) rest ≡ Some (q ∷ ps)
rises low q rest ps from e = rw (le-leb low q from, e) refl

pub rises_again : (low q : ℕ) (marks : List Bool) → low ≤ q → q + length marks ≤ 16 → rising low (map decimal (members_from q marks)) ≡ Some (members_from q marks)
rises_again low q [] from few = refl
rises_again low q (true ∷ marks) from few =
    ap (λ (p : Option ℕ). rising_then low p (λ n. rising (suc n) (map decimal (members_from (suc q) marks)))) (capped_again q (omega (arith, few)))
    ∙ rises low q (λ n. rising (suc n) (map decimal (members_from (suc q) marks))) (members_from (suc q) marks) from (rises_again (suc q) (suc q) marks (omega arith) (omega (arith, few)))
rises_again low q (false ∷ marks) from few = rises_again low (suc q) marks (omega (arith, from)) (omega (arith, few))

-- marked one after the other they are the marks
marks_behind : (front marks : List Bool) (q : ℕ) → length front ≡ q → marks_at (members_from q marks) (front ++ replicate (length marks) false) ≡ front ++ marks
marks_behind front [] q long = refl
marks_behind front (true ∷ marks) q long =
    ap (λ xs. marks_at (members_from (suc q) marks) xs) (ap (λ k. set (front ++ false ∷ replicate (length marks) false) k true) (sym long)
    ∙ set-append_seam front false (replicate (length marks) false) true ∙ sym (append_assoc front (true ∷ []) (replicate (length marks) false)))
    ∙ marks_behind (front ++ true ∷ []) marks (suc q) (omega (arith, length-append front (true ∷ []), long)) ∙ append_assoc front (true ∷ []) marks
marks_behind front (false ∷ marks) q long =
    ap (λ xs. marks_at (members_from (suc q) marks) xs) (sym (append_assoc front (false ∷ []) (replicate (length marks) false)))
    ∙ marks_behind (front ++ false ∷ []) marks (suc q) (omega (arith, length-append front (false ∷ []), long)) ∙ append_assoc front (false ∷ []) marks

pub marks_again : (marks : List Bool) → length marks ≡ 16 → marks_at (members_from 0 marks) (replicate 16 false) ≡ marks
marks_again marks long = ap (λ n. marks_at (members_from 0 marks) (replicate n false)) (sym long) ∙ marks_behind [] marks 0 refl

-- all are below n
pub below_again : (n q : ℕ) (marks : List Bool) → ((i : ℕ) → marked marks i ≡ true → q + i < n) → list_all (λ p. nat_lt p n) (members_from q marks) ≡ true
below_again n q [] below = refl
below_again n q (true ∷ marks) below = rw (lt-ltb q n (let h = below 0 refl in omega (arith, h)), below_again n (suc q) marks (λ i on. let h = below (suc i) on in omega (arith, h))) refl
below_again n q (false ∷ marks) below = below_again n (suc q) marks (λ i on. let h = below (suc i) on in omega (arith, h))

-- somebody is among them
pub some_member : (q i : ℕ) (marks : List Bool) → marked marks i ≡ true → 0 < length (members_from q marks)
some_member q i [] on = absurd (true≢false (sym on))
some_member q i (true ∷ marks) on = omega arith
some_member q zero (false ∷ marks) on = absurd (true≢false (sym on))
some_member q (suc i) (false ∷ marks) on = some_member (suc q) i marks on

-- a commit
module _ (n : ℕ) (members : List Bool) (long : length members ≡ 16) (below : (p : ℕ) → marked members p ≡ true → p < n) (p : ℕ) (on : marked members p ≡ true) where
  listed : fields_of 44 (joined 44 (map decimal (members_from 0 members))) ≡ map decimal (members_from 0 members)
  listed = by (members_from 0 members) (some_member 0 p members on) (members_few 0 members (omega (arith, long)))
    where
      by : (ps : List ℕ) → 0 < length ps → AreFew ps → fields_of 44 (joined 44 (map decimal ps)) ≡ map decimal ps
      by [] some few = absurd (omega arith)
      by (q ∷ ps) some few = list_fields q ps few

  marked_by : (ps : List ℕ) → list_all (λ q. nat_lt q n) ps ≡ true → marks_at ps (replicate 16 false) ≡ members → commit_of n (Some ps) ≡ Ok (Says (Commits members))
  marked_by ps inside is = rw (inside, is) refl

  pub commit_again : commit_of n (rising 0 (fields_of 44 (joined 44 (map decimal (members_from 0 members))))) ≡ Ok (Says (Commits members))
  commit_again = ap (λ parts. commit_of n (rising 0 parts)) listed ∙ ap (commit_of n) (rises_again 0 0 members (omega arith) (omega (arith, long)))
      ∙ marked_by (members_from 0 members) (below_again n 0 members (λ i h. let inside = below i h in omega (arith, inside))) (marks_again members long)
