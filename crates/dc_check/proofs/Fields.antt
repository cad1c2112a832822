-- The fields of a record's line, and what is kept of lines.
use Rattle.std.proofs.Common.{◌≡◌, ◌∙◌, ◌+◌, ◌<◌, ◌≤◌, ℕ, suc, Bool, true, false, cond, subst, Result, Err, add-one, List, [], ◌∷◌, ◌++◌, Option, Some, Bor, ap, sym, refl, arith, length, length-append, take, option_map, if◌then◌else◌}
use Rattle.std.proofs.Common.{append_assoc}
use Rattle.std.proofs.Math.Seq.{take-append_seam}
use Rattle.dc_words.specs.Texts.{fields_of, joined}
use Rattle.dc_words.proofs.Joining.{fields_joined}
use Rattle.dc_words.proofs.Splitting.{fields_some}
use Rattle.dc_check.specs.Compared.{IfDiffers}
use Rattle.dc_check.specs.Differences.{Difference, Seen, difference_from}
use Rattle.dc_check.specs.declared.comparing.Unlike.{Unlike}
use Rattle.dc_check.specs.declared.comparing.Unlike.TheVariants.{Differs, Memory}
use Rattle.dc_check.specs.Records.{is_body, is_word, numbers_by, numbers_in}

-- fields more than a record has
too_many : (name cause pc : List ℕ) (more : List (List ℕ)) → 0 < length more → false ≡ is_body name (cause ∷ pc ∷ more)
too_many name cause pc [] some = absurd (omega (arith, some))
too_many name cause pc (x ∷ more) some = refl

pub no_body : (name body cause pc a b : List ℕ) → fields_of 32 body ≡ cause ∷ fields_of 32 pc → fields_of 32 pc ≡ a ∷ fields_of 32 b → false ≡ is_body name (fields_of 32 body)
no_body name body cause pc a b e f = too_many name cause a (fields_of 32 b) (fields_some 32 b) ∙ sym (ap (is_body name) (e ∙ ap (λ xs. cause ∷ xs) f))

-- a text by its first field and the rest
in_front_of : (stop : ℕ) (part : List ℕ) (parts : List (List ℕ)) → 0 < length parts → joined stop (part ∷ parts) ≡ part ++ stop ∷ joined stop parts
in_front_of stop part [] some = absurd (omega (arith, some))
in_front_of stop part (next ∷ parts) some = refl

pub by_field : (stop : ℕ) (text part rest : List ℕ) → fields_of stop text ≡ part ∷ fields_of stop rest → text ≡ part ++ stop ∷ rest
by_field stop text part rest e = sym (fields_joined stop text) ∙ ap (joined stop) e ∙ in_front_of stop part (fields_of stop rest) (fields_some stop rest)
    ∙ ap (λ xs. part ++ stop ∷ xs) (fields_joined stop rest)

-- two fields, as they stand in front of a third
two_fields : (rest p after k body : List ℕ) → fields_of 32 rest ≡ p ∷ fields_of 32 after → fields_of 32 after ≡ k ∷ fields_of 32 body → rest ≡ (p ++ 32 ∷ k) ++ 32 ∷ body
two_fields rest p after k body e f = by_field 32 rest p after e ∙ ap (λ xs. p ++ 32 ∷ xs) (by_field 32 after k body f) ∙ sym (append_assoc p (32 ∷ k) (32 ∷ body))

numbers_long : (p k : List ℕ) → length (p ++ 32 ∷ k) ≡ length p + 1 + length k
numbers_long p k = let h = length-append p (32 ∷ k) in omega (arith, h)

pub numbers_front : (rest p after k body : List ℕ) → fields_of 32 rest ≡ p ∷ fields_of 32 after → fields_of 32 after ≡ k ∷ fields_of 32 body → take (length p + 1 + length k) rest ≡ p ++ 32 ∷ k
numbers_front rest p after k body e f = ap (λ n. take n rest) (sym (numbers_long p k)) ∙ ap (take (length (p ++ 32 ∷ k))) (two_fields rest p after k body e f) ∙ take-append_seam (p ++ 32 ∷ k) (32 ∷ body)

pub numbers_within : (rest p after k body : List ℕ) → fields_of 32 rest ≡ p ∷ fields_of 32 after → fields_of 32 after ≡ k ∷ fields_of 32 body → length p + 1 + length k ≤ length rest
numbers_within rest p after k body e f = let whole = ap length (two_fields rest p after k body e f) in
    let parts = length-append (p ++ 32 ∷ k) (32 ∷ body) in omega (arith, whole, parts, numbers_long p k)

-- the numbers of a record's line
pub numbers_are : (line name rest p after k body : List ℕ) → fields_of 32 line ≡ name ∷ fields_of 32 rest → fields_of 32 rest ≡ p ∷ fields_of 32 after → fields_of 32 after ≡ k ∷ fields_of 32 body
    → is_word p ≡ true → is_word k ≡ true → is_body name (fields_of 32 body) ≡ true → numbers_in line ≡ Some (take (length p + 1 + length k) rest)
numbers_are line name rest p after k body d e f word word' shows = ap numbers_by (d ∙ ap (λ xs. name ∷ xs) (e ∙ ap (λ xs. p ∷ xs) f)) ∙ rw (word, word', shows) refl
    ∙ ap (λ (xs : List ℕ). Some xs) (sym (numbers_front rest p after k body e f))

-- what a map says of a line that was put into it
pub kept : (f g : Option (Bor (List ℕ))) (same : Bool) (line : Bor (List ℕ)) → g ≡ cond same (Some line) f
    → option_map (λ (l : Bor (List ℕ)). l.now) g ≡ (if same then Some line.now else option_map (λ (l : Bor (List ℕ)). l.now) f)
kept f g true line e = ap (option_map (λ (l : Bor (List ℕ)). l.now)) e
kept f g false line e = ap (option_map (λ (l : Bor (List ℕ)). l.now)) e

-- whatever holds of parts, where there are some
by_parts : (Q : List (List ℕ) → Type 0) (xs : List (List ℕ)) → 0 < length xs → ((part : List ℕ) (parts : List (List ℕ)) → Q (part ∷ parts)) → Q xs
by_parts Q [] some all = absurd (omega (arith, some))
by_parts Q (part ∷ parts) some all = all part parts

-- an output by its first line and the rest
module _ (told : Option Difference) (number : ℕ) (seen : Seen) (wanted : List (List ℕ)) (rest line after : List ℕ)
    (stands : told ≡ difference_from number seen wanted (fields_of 10 rest)) (is : fields_of 10 rest ≡ line ∷ fields_of 10 after) where
  here : told ≡ difference_from number seen wanted (line ∷ fields_of 10 after)
  here = stands ∙ ap (difference_from number seen wanted) is

  pub line_on : (seen' : Seen) (wanted' : List (List ℕ)) → ((part : List ℕ) (parts : List (List ℕ)) → difference_from number seen wanted (line ∷ part ∷ parts) ≡ difference_from (suc number) seen' wanted' (part ∷ parts))
      → told ≡ difference_from (number + 1) seen' wanted' (fields_of 10 after)
  line_on seen' wanted' on = here ∙ by_parts (λ xs. difference_from number seen wanted (line ∷ xs) ≡ difference_from (suc number) seen' wanted' xs) (fields_of 10 after) (fields_some 10 after) on
      ∙ ap (λ n. difference_from n seen' wanted' (fields_of 10 after)) (sym (add-one number))

  pub line_off : (A : Type 0) (result : Result A Unlike) → ((part : List ℕ) (parts : List (List ℕ)) → IfDiffers result (difference_from number seen wanted (line ∷ part ∷ parts))) → IfDiffers result told
  line_off A result off = subst (λ d. IfDiffers result d) (sym here) (by_parts (λ xs. IfDiffers result (difference_from number seen wanted (line ∷ xs))) (fields_of 10 after) (fields_some 10 after) off)

-- a difference under another type of values
pub handed_on : (A B : Type 0) (why : Unlike) (told : Option Difference) → IfDiffers {A = A} (Err why) told → IfDiffers {A = B} (Err why) told
handed_on A B (Differs found) told is = is
handed_on A B Memory told is = tt
