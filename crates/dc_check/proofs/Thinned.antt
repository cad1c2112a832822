-- An output without a difference, its repeats dropped, is the run's lines.
use Rattle.std.proofs.Common.{◌≡◌, ◌∙◌, ◌==◌, ℕ, suc, List, [], ◌∷◌, ◌++◌, Option, Some, None, ap, sym, refl, drop, if◌then◌else◌, is_some, slice_get, ⊎_elim}
use Rattle.std.specs.Str.{bytes_eq}
use Rattle.std.proofs.lemmas.Bool.{cases_Bool}
use Rattle.std.proofs.lemmas.Slice.Eq.{bytes_eq-Decides}
use Rattle.dc_words.specs.Texts.{ended, fields_of, in_front, lines_of}
use Rattle.dc_check.specs.Differences.{Difference, Seen, difference_from, difference_of, missing, noted, or_else, repeated, thinned, unlike}
use Rattle.dc_check.specs.Records.{numbers_in}

-- a difference that is not there
pub none_of : (a b : Option Difference) → or_else a b ≡ None → (a ≡ None) × (b ≡ None)
none_of None b e = (refl, e)
none_of (Some d) b e = absurd (let never : ⊥ = cc in never)

-- nothing is missing
none_missing : (number : ℕ) (wanted : List (List ℕ)) → missing number wanted ≡ None → wanted ≡ []
none_missing number [] e = refl
none_missing number (line ∷ wanted) e = absurd (let never : ⊥ = cc in never)

-- a line is the next that is wanted
pub like : (number : ℕ) (line next : List ℕ) → unlike number line (Some next) ≡ None → line ≡ next
like number line next e = ⊎_elim
    (λ yes. (bytes_eq-Decides line next).0 yes)
    (λ other. absurd (let never : unlike number line (Some next) ≡ Some (record { line = number; found = line; wanted = next }) = rw other refl in let no_way : ⊥ = cc in no_way))
    (cases_Bool (bytes_eq line next))

is_next : (number : ℕ) (line : List ℕ) (wanted : List (List ℕ)) → unlike number line (slice_get wanted 0) ≡ None → line ∷ drop 1 wanted ≡ wanted
is_next number line [] e = absurd (let never : ⊥ = cc in never)
is_next number line (next ∷ wanted) e = ap (λ l. l ∷ wanted) (like number line next e)

-- a line in front of others, and of the empty part behind them
pub difference_on : (number : ℕ) (seen : Seen) (wanted lines : List (List ℕ)) (line : List ℕ) → difference_from number seen wanted (line ∷ (lines ++ [] ∷ []))
    ≡ (if is_some (repeated seen line) then or_else (unlike number line (repeated seen line)) (difference_from (suc number) seen wanted (lines ++ [] ∷ []))
    else or_else (unlike number line (slice_get wanted 0)) (difference_from (suc number) (noted (numbers_in line) line seen) (drop 1 wanted) (lines ++ [] ∷ [])))
difference_on number seen wanted [] line = refl
difference_on number seen wanted (next ∷ lines) line = refl

pub thinned_is : (number : ℕ) (seen : Seen) (wanted lines : List (List ℕ)) → difference_from number seen wanted (lines ++ [] ∷ []) ≡ None → thinned seen lines ≡ wanted
thinned_is number seen wanted [] e = sym (none_missing number wanted e)
thinned_is number seen wanted (line ∷ lines) e = ⊎_elim
    (λ came. let parts = none_of (unlike number line (repeated seen line)) (difference_from (suc number) seen wanted (lines ++ [] ∷ [])) (sym (difference_on number seen wanted lines line ∙ rw came refl) ∙ e) in
    rw came (thinned_is (suc number) seen wanted lines parts.1))
    (λ new. let parts = none_of (unlike number line (slice_get wanted 0)) (difference_from (suc number) (noted (numbers_in line) line seen) (drop 1 wanted) (lines ++ [] ∷ [])) (sym (difference_on number seen wanted lines line ∙ rw new refl) ∙ e) in
    rw new (ap (λ xs. line ∷ xs) (thinned_is (suc number) (noted (numbers_in line) line seen) (drop 1 wanted) lines parts.1) ∙ is_next number line wanted parts.0))
    (cases_Bool (is_some (repeated seen line)))

-- the parts of a text whose lines all end
behind_front : {A : Type 0} (a b : A) (xs ys : List A) → a ∷ xs ≡ b ∷ ys → xs ≡ ys
behind_front a b xs ys e = cc

parts_more : (c : ℕ) (text : List ℕ) (lines : List (List ℕ)) → lines_of text ≡ lines → c ∷ text ≡ ended (in_front c lines)
    → (text ≡ ended lines → fields_of 10 text ≡ lines ++ [] ∷ []) → in_front c (fields_of 10 text) ≡ in_front c lines ++ [] ∷ []
parts_more c text [] is e rest = let one : text ≡ 10 ∷ [] = behind_front c c text (10 ∷ []) e in
    absurd (let lines : lines_of (10 ∷ []) ≡ [] = ap lines_of (sym one) ∙ is in let never : ⊥ = cc in never)
parts_more c text (line ∷ lines) is e rest = ap (in_front c) (rest (behind_front c c text (ended (line ∷ lines)) e))

pub all_ended : (text : List ℕ) → text ≡ ended (lines_of text) → fields_of 10 text ≡ lines_of text ++ [] ∷ []
all_ended [] e = refl
all_ended (c ∷ text) e = ⊎_elim
    (λ feed. rw feed (ap (λ xs. [] ∷ xs) (all_ended text (behind_front c 10 text (ended (lines_of text)) (rw feed at e)))))
    (λ other. rw other (parts_more c text (lines_of text) refl (rw other at e) (λ is. all_ended text is)))
    (cases_Bool (c == 10))

pub thins_to_the_run : (text out : List ℕ) → out ≡ ended (lines_of out) → difference_of text out ≡ None → thinned (λ numbers. None) (lines_of out) ≡ lines_of text
thins_to_the_run text out whole e = thinned_is 1 (λ numbers. None) (lines_of text) (lines_of out) (ap (difference_from 1 (λ numbers. None) (lines_of text)) (sym (all_ended out whole)) ∙ e)
