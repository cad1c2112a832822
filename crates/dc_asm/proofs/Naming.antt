-- Names and their first definitions.
use Rattle.std.proofs.Common.{◌≡◌, ◌∙◌, ◌+◌, ◌++◌, ℕ, suc, cond, List, [], ◌∷◌, Option, None, Some, length, arith, ap, sym, refl, ⊎_elim, add-one}
use Rattle.std.specs.Str.{bytes_eq}
use Rattle.std.proofs.lemmas.Bool.{cases_Bool}
use Rattle.std.proofs.lemmas.Slice.Eq.{bytes_eq-Decides}
use Rattle.dc_words.specs.Texts.{lines_of}
use Rattle.dc_asm.specs.declared.names.Definition.{Definition}
use Rattle.dc_asm.specs.Source.{bare, defined}
use Rattle.dc_asm.specs.Names.{definition, definitions_from, first_of, definition_in, words_in_line}
use Rattle.std.specs.Option.{option_or}

or_none : (p : Option Definition) → p ≡ option_or p None
or_none None = refl
or_none (Some definition) = refl

-- a name that has no definition gets one
pub added : (f : List ℕ → Option Definition) (name other : List ℕ) (definition : Definition) → f name ≡ None
    → cond (bytes_eq name other) (Some definition) (f other) ≡ option_or (f other) (cond (bytes_eq name other) (Some definition) None)
added f name other definition none = ⊎_elim
    (λ yes. rw (yes, sym (ap f ((bytes_eq-Decides name other).0 yes)) ∙ none) refl)
    (λ no. rw no (or_none (f other)))
    (cases_Bool (bytes_eq name other))

or_first : (name : List ℕ) (front back : List (List ℕ × Definition)) → first_of (front ++ back) name ≡ option_or (first_of front name) (first_of back name)
or_first name [] back = refl
or_first name (x ∷ front) back = ⊎_elim (λ yes. rw yes refl) (λ no. rw no (or_first name front back)) (cases_Bool (bytes_eq x.0 name))

or_assoc : (p q r : Option Definition) → option_or (option_or p q) r ≡ option_or p (option_or q r)
or_assoc None q r = refl
or_assoc (Some definition) q r = refl

-- a line more is read
pub line_named : (old new : List ℕ → Option Definition) (line word count : ℕ) (first rest after : List ℕ) (name : List ℕ) (told : Option Definition)
    → lines_of rest ≡ first ∷ lines_of after → new name ≡ option_or (old name) (first_of (definition line word (defined (bare first))) name)
    → count ≡ words_in_line (bare first) → option_or (old name) (first_of (definitions_from line word (lines_of rest)) name) ≡ told
    → option_or (new name) (first_of (definitions_from (line + 1) (word + count) (lines_of after)) name) ≡ told
unfolding definitions_from
line_named old new line word count first rest after name told lines step counted e =
    let next : List (List ℕ × Definition) = definitions_from (suc line) (word + words_in_line (bare first)) (lines_of after) in
    let here : List (List ℕ × Definition) = definition line word (defined (bare first)) in
    rw (add-one line, counted, step) (or_assoc (old name) (first_of here name) (first_of next name))
    ∙ ap (option_or (old name)) (sym (or_first name here next))
    ∙ ap (λ xs. option_or (old name) (first_of (definitions_from line word xs) name)) (sym lines)
    ∙ e

pub all_lines : (source : List ℕ) (f : List ℕ → Option Definition) (name : List ℕ) → f name ≡ None → option_or (f name) (first_of (definitions_from 1 0 (lines_of source)) name) ≡ definition_in source name
unfolding definition_in
all_lines source f name none = rw none refl

pub no_more : (line word : ℕ) (f : List ℕ → Option Definition) (rest name : List ℕ) (told : Option Definition) → length rest ≡ 0
    → option_or (f name) (first_of (definitions_from line word (lines_of rest)) name) ≡ told → f name ≡ told
unfolding definitions_from
no_more line word f [] name told none e = or_none (f name) ∙ e
no_more line word f (c ∷ rest) name told none e = absurd (omega arith)
