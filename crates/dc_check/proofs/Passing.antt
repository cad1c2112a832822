-- The lines of a run's records, with repeats that agree, differ nowhere from those that the run shows.
use Rattle.std.proofs.Common.{◌≡◌, ◌∙◌, ◌^◌, ◌<◌, ◌==◌, ◌&&◌, ℕ, suc, Bool, true, false, List, [], ◌∷◌, ◌++◌, Option, Some, None, IfSome, ap, sym, refl, subst, arith, append_assoc, decimal, if◌then◌else◌, length, map, option_map, reverse, ⊎_elim}
use Rattle.std.specs.List.{AllByRecursion}
use Rattle.std.specs.Str.{bytes_eq}
use Rattle.std.proofs.lemmas.Bool.{and_parts, cases_Bool, eqb-true}
use Rattle.std.proofs.lemmas.List.{append-nil, reverse-append}
use Rattle.std.proofs.lemmas.Slice.Eq.{bytes_eq-Decides}
use Rattle.dc_acts.specs.Lines.{text_of}
use Rattle.dc_model.specs.Drawn.{Drawn}
use Rattle.dc_model.specs.Guests.{Guests}
use Rattle.dc_model.specs.Repeats.{RepeatsAgree}
use Rattle.dc_model.specs.FailureFree.{FailureFree, find, run, thin, thin_after}
use Rattle.dc_model.specs.declared.act.Taken.{Taken}
use Rattle.dc_model.specs.declared.entry.Entry.{Entry}
use Rattle.dc_model.specs.declared.visible.Body.{Body}
use Rattle.dc_model.specs.declared.visible.Visible.{Visible}
use Rattle.dc_words.specs.Numbers.{value}
use Rattle.dc_words.specs.Texts.{fields_of, lines_of}
use Rattle.dc_words.proofs.Joining.{fields_last, fields_then, lines_then}
use Rattle.dc_words.proofs.Reading.{decimal_has_no, decimal_reads}
use Rattle.dc_check.specs.Differences.{Seen, difference_from, difference_of, noted, repeated}
use Rattle.dc_check.specs.Findings.{finding_of}
use Rattle.dc_check.specs.Findings.Finding.{Passes}
use Rattle.dc_check.specs.Records.{CanShow, IsWritten, numbers_in}
use Rattle.dc_check.proofs.Drawing.{played_when_drawn}
use Rattle.dc_check.proofs.Meaning.{same_is, some_is}
use Rattle.dc_check.proofs.Numbering.{bare, line_fed, line_is, record_numbers}
use Rattle.dc_check.proofs.Thinned.{difference_on}

-- the line of a record without its line feed
abbrev bare_of : Visible → List ℕ
bare_of x = bare x.p x.k x.body

-- its numbers
abbrev num : ℕ → ℕ → List ℕ
num p k = decimal p ++ 32 ∷ decimal k

has_num : (x : Visible) → IsWritten x → numbers_in (bare_of x) ≡ Some (num x.p x.k)
has_num x is = record_numbers x (bare_of x) is.process is.number is.shown (line_is x.p x.k x.body)

num_fields : (p k : ℕ) → p < 2 ^ 32 → k < 2 ^ 32 → fields_of 32 (num p k) ≡ decimal p ∷ decimal k ∷ []
num_fields p k small few = fields_then 32 (decimal p) (decimal k) (decimal_has_no 32 p (omega arith) (omega (arith, small)))
    ∙ ap (λ xs. decimal p ∷ xs) (fields_last 32 (decimal k) (decimal_has_no 32 k (omega arith) (omega (arith, few))))

first_of_two : (a b c d : List ℕ) → a ∷ b ∷ [] ≡ c ∷ d ∷ [] → (a ≡ c) × (b ≡ d)
first_of_two a b c d e = (cc, cc)

same_numbers : (p k q j : ℕ) → p < 2 ^ 32 → k < 2 ^ 32 → q < 2 ^ 32 → j < 2 ^ 32 → num p k ≡ num q j → (p ≡ q) × (k ≡ j)
same_numbers p k q j a b c d e =
    let parts = first_of_two (decimal p) (decimal k) (decimal q) (decimal j) (sym (num_fields p k a b) ∙ ap (fields_of 32) e ∙ num_fields q j c d) in (
      sym (decimal_reads p (omega (arith, a))).1 ∙ ap value parts.0 ∙ (decimal_reads q (omega (arith, c))).1,
      sym (decimal_reads k (omega (arith, b))).1 ∙ ap value parts.1 ∙ (decimal_reads j (omega (arith, d))).1,
    )

both_equal : (p k q j : ℕ) → (p == q && k == j) ≡ true → (p ≡ q) × (k ≡ j)
both_equal p k q j e = let parts = and_parts (p == q) (k == j) e in (eqb-true p q parts.0, eqb-true k j parts.1)

-- texts of numbers are the same exactly where the numbers are
same_test : (p k q j : ℕ) → p < 2 ^ 32 → k < 2 ^ 32 → q < 2 ^ 32 → j < 2 ^ 32 → bytes_eq (num p k) (num q j) ≡ (p == q && k == j)
same_test p k q j a b c d = ⊎_elim
    (λ yes. let is = both_equal p k q j yes in (bytes_eq-Decides (num p k) (num q j)).1 (ap (λ x. num x k) is.0 ∙ ap (num q) is.1) ∙ sym yes)
    (λ no. ⊎_elim
    (λ yes. let is = same_numbers p k q j a b c d ((bytes_eq-Decides (num p k) (num q j)).0 yes) in yes ∙ sym (alike p k q j is.0 is.1))
    (λ not_so. not_so ∙ sym no)
    (cases_Bool (bytes_eq (num p k) (num q j))))
    (cases_Bool (p == q && k == j))
  where
    alike : (p k q j : ℕ) → p ≡ q → k ≡ j → (p == q && k == j) ≡ true
    alike p k q j e f = grind (arith, e, f)

-- the first lines that were seen are those of the records before
abbrev Matches : List Visible → Seen → Type 0
Matches before seen = (p k : ℕ) → p < 2 ^ 32 → k < 2 ^ 32 → seen (num p k) ≡ option_map (bare p k) (find p k before)

-- a record that comes again agrees with the one that came, the first record first
abbrev AgreeAfter : List Visible → List Visible → Type 0
AgreeAfter before [] = Unit {0}
AgreeAfter before (x ∷ records) = IfSome (find x.p x.k before) (λ body. body ≡ x.body) × AgreeAfter (x ∷ before) records

agrees_behind : (front back : List Visible) → RepeatsAgree (front ++ back) → RepeatsAgree back
agrees_behind [] back agree = agree
agrees_behind (x ∷ front) back agree = agrees_behind front back agree.1

in_turn : (before records : List Visible) → RepeatsAgree (reverse records ++ before) → AgreeAfter before records
in_turn before [] agree = tt
in_turn before (x ∷ records) agree = let moved : RepeatsAgree (reverse records ++ (x ∷ before)) = subst RepeatsAgree (ap (λ (l : List Visible). l ++ before) (reverse-append (x ∷ []) records) ∙ append_assoc (reverse records) (x ∷ []) before) agree in
    ((agrees_behind (reverse records) (x ∷ before) moved).0, in_turn (x ∷ before) records moved)

-- where the records that come first can be written, all can
abbrev WrittenIn : List Visible → Type 0
WrittenIn before = (p k : ℕ) (body : Body) → find p k before ≡ Some body → IsWritten (record { p = p; k = k; body = body })

module _ (before : List Visible) (x : Visible) where
  -- one that was not there
  thin_new : find x.p x.k before ≡ None → (records : List Visible) → thin_after before (x ∷ records) ≡ x ∷ thin_after (x ∷ before) records
  thin_new none records = rw none refl

  thin_old : (body : Body) → find x.p x.k before ≡ Some body → (records : List Visible) → thin_after before (x ∷ records) ≡ thin_after (x ∷ before) records
  thin_old body was records = rw was refl

  found_here : (p k : ℕ) → (x.p == p && x.k == k) ≡ true → find p k (x ∷ before) ≡ Some x.body
  found_here p k so = rw so refl

  found_there : (p k : ℕ) → (x.p == p && x.k == k) ≡ false → find p k (x ∷ before) ≡ find p k before
  found_there p k so = rw so refl

  written_more : IsWritten x → WrittenIn before → WrittenIn (x ∷ before)
  written_more is all p k body e = ⊎_elim
      (λ yes. let same = both_equal x.p x.k p k yes in let shown = some_is x.body body (sym (found_here p k yes) ∙ e) in
      let process : p < 2 ^ 32 = subst (λ (n : ℕ). n < 2 ^ 32) same.0 is.process in
      let number : k < 2 ^ 32 = subst (λ (n : ℕ). n < 2 ^ 32) same.1 is.number in
      record { process = process; number = number; shown = subst CanShow shown is.shown })
      (λ no. all p k body (sym (found_there p k no) ∙ e))
      (cases_Bool (x.p == p && x.k == k))

  matches_new : (seen : Seen) → IsWritten x → Matches before seen → Matches (x ∷ before) (noted (Some (num x.p x.k)) (bare_of x) seen)
  matches_new seen is matches p k small few = ap (λ (b : Bool). if b then Some (bare_of x) else seen (num p k)) (same_test x.p x.k p k is.process is.number small few) ∙ ⊎_elim
      (λ yes. let same = both_equal x.p x.k p k yes in rw yes (ap (λ (l : List ℕ). Some l) (ap (λ q. bare q x.k x.body) same.0 ∙ ap (λ j. bare p j x.body) same.1)))
      (λ no. rw no (matches p k small few))
      (cases_Bool (x.p == p && x.k == k))

  matches_old : (seen : Seen) → find x.p x.k before ≡ Some x.body → Matches before seen → Matches (x ∷ before) seen
  matches_old seen was matches p k small few = matches p k small few ∙ ap (option_map (bare p k)) (⊎_elim
      (λ yes. let same = both_equal x.p x.k p k yes in sym (ap (λ j. find p j before) same.1) ∙ sym (ap (λ q. find q x.k before) same.0) ∙ was ∙ sym (found_here p k yes))
      (λ no. sym (found_there p k no))
      (cases_Bool (x.p == p && x.k == k)))

agreed : (o : Option Body) (a b : Body) → o ≡ Some a → IfSome o (λ body. body ≡ b) → a ≡ b
agreed o a b is holds = rw is at holds

all_written : (before records : List Visible) → WrittenIn before → AgreeAfter before records → AllByRecursion IsWritten (thin_after before records) → AllByRecursion IsWritten records
all_written before [] all agree thinned = tt
all_written before (x ∷ records) all agree thinned = by_found (λ is more. all_written (x ∷ before) records (written_more before x is all) agree.1 more) (find x.p x.k before) refl
  where
    by_found : (IsWritten x → AllByRecursion IsWritten (thin_after (x ∷ before) records) → AllByRecursion IsWritten records) → (o : Option Body) → find x.p x.k before ≡ o → AllByRecursion IsWritten (x ∷ records)
    by_found rest None none = let parts : AllByRecursion IsWritten (x ∷ thin_after (x ∷ before) records) = subst (AllByRecursion IsWritten) (thin_new before x none records) thinned in (parts.0, rest parts.0 parts.1)
    by_found rest (Some body) was = let same = agreed (find x.p x.k before) body x.body was agree.0 in
        let is : IsWritten x = all x.p x.k x.body (was ∙ ap (λ (b : Body). Some b) same) in
        (is, rest is (subst (AllByRecursion IsWritten) (thin_old before x body was records) thinned))

-- the walk over the lines of records
walked : (number : ℕ) (seen : Seen) (before records : List Visible) → Matches before seen → AgreeAfter before records → AllByRecursion IsWritten records
    → difference_from number seen (map bare_of (thin_after before records)) (map bare_of records ++ [] ∷ []) ≡ None
walked number seen before [] matches agree all = refl
walked number seen before (x ∷ records) matches agree all = by_found
    (λ s on. walked (suc number) s (x ∷ before) records on agree.1 all.1) (find x.p x.k before) refl
  where
    numbers : numbers_in (bare_of x) ≡ Some (num x.p x.k)
    numbers = has_num x all.0

    earlier : repeated seen (bare_of x) ≡ option_map (bare x.p x.k) (find x.p x.k before)
    earlier = rw numbers (matches x.p x.k all.0.process all.0.number)

    by_found : ((s : Seen) → Matches (x ∷ before) s → difference_from (suc number) s (map bare_of (thin_after (x ∷ before) records)) (map bare_of records ++ [] ∷ []) ≡ None)
        → (o : Option Body) → find x.p x.k before ≡ o → difference_from number seen (map bare_of (thin_after before (x ∷ records))) (map bare_of (x ∷ records) ++ [] ∷ []) ≡ None
    by_found rest None none = ap (λ (l : List Visible). difference_from number seen (map bare_of l) (map bare_of (x ∷ records) ++ [] ∷ [])) (thin_new before x none records)
        ∙ difference_on number seen (bare_of x ∷ map bare_of (thin_after (x ∷ before) records)) (map bare_of records) (bare_of x)
        ∙ rw (earlier ∙ ap (option_map (bare x.p x.k)) none, numbers, same_is (bare_of x)) (rest (noted (Some (num x.p x.k)) (bare_of x) seen) (matches_new before x seen all.0 matches))
    by_found rest (Some body) was = let same = agreed (find x.p x.k before) body x.body was agree.0 in
        let was' : find x.p x.k before ≡ Some x.body = was ∙ ap (λ (b : Body). Some b) same in
        ap (λ (l : List Visible). difference_from number seen (map bare_of l) (map bare_of (x ∷ records) ++ [] ∷ [])) (thin_old before x body was records)
        ∙ difference_on number seen (map bare_of (thin_after (x ∷ before) records)) (map bare_of records) (bare_of x)
        ∙ rw (earlier ∙ ap (option_map (bare x.p x.k)) was', same_is (bare_of x)) (rest seen (matches_old before x seen was' matches))

-- texts of records by their lines
text_is : (x : Visible) (records : List Visible) → text_of (x ∷ records) ≡ bare_of x ++ 10 ∷ text_of records
text_is x records = ap (λ l. l ++ text_of records) (line_is x.p x.k x.body) ∙ append_assoc (bare_of x) (10 ∷ []) (text_of records)

parts_are : (records : List Visible) → AllByRecursion IsWritten records → fields_of 10 (text_of records) ≡ map bare_of records ++ [] ∷ []
parts_are [] all = refl
parts_are (x ∷ records) all = ap (fields_of 10) (text_is x records) ∙ fields_then 10 (bare_of x) (text_of records) (line_fed x.p x.k x.body all.0.process all.0.number all.0.shown)
    ∙ ap (λ xs. bare_of x ∷ xs) (parts_are records all.1)

lines_are : (records : List Visible) → AllByRecursion IsWritten records → lines_of (text_of records) ≡ map bare_of records
lines_are [] all = refl
lines_are (x ∷ records) all = ap lines_of (text_is x records) ∙ lines_then (bare_of x) (text_of records) (line_fed x.p x.k x.body all.0.process all.0.number all.0.shown)
    ∙ ap (λ xs. bare_of x ∷ xs) (lines_are records all.1)

pub none_differs : (records visibles : List Visible) → thin records ≡ visibles → RepeatsAgree (reverse records) → AllByRecursion IsWritten visibles → difference_of (text_of visibles) (text_of records) ≡ None
none_differs records visibles thinned agree all =
    let agrees = in_turn [] records (subst RepeatsAgree (sym (append-nil (reverse records))) agree) in
    let written = all_written [] records (λ p k body e. absurd (let never : ⊥ = cc in never)) agrees (subst (AllByRecursion IsWritten) (sym thinned) all) in
    ap (λ wanted. difference_from 1 (λ numbers. None) wanted (fields_of 10 (text_of records))) (lines_are visibles all)
    ∙ ap (difference_from 1 (λ numbers. None) (map bare_of visibles)) (parts_are records written)
    ∙ ap (λ (l : List Visible). difference_from 1 (λ numbers. None) (map bare_of l) (map bare_of records ++ [] ∷ [])) (sym thinned)
    ∙ walked 1 (λ numbers. None) [] records (λ p k small few. refl) agrees written

pub records_pass : {Mc : Type 0} (G : Guests Mc) (schedule : List Entry) (acts : List Taken) (w : FailureFree Mc) (records : List Visible) → Drawn G.count schedule acts → run G acts ≡ Some w
    → thin records ≡ w.visibles → RepeatsAgree (reverse records) → AllByRecursion IsWritten w.visibles → finding_of G schedule acts (text_of records) ≡ Passes (length w.visibles)
records_pass G schedule acts w records drawn ran thinned agree all = rw (played_when_drawn G schedule acts w drawn ran, none_differs records w.visibles thinned agree all) refl
