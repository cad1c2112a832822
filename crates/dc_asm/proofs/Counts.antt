-- Texts with so many operands, and with others.
use Rattle.std.proofs.Common.{◌≡◌, ◌∙◌, ◌<◌, ◌==◌, ℕ, Bool, true, false, List, [], ◌∷◌, length, map, Ok, Err, ap, sym, refl, arith}
use Rattle.std.proofs.lemmas.Bool.{eqb-true}
use Rattle.dc_words.specs.Texts.{fields_of}
use Rattle.dc_words.proofs.Splitting.{fields_some}
use Rattle.dc_asm.specs.declared.faults.AsmKind.TheVariants as kind
use Rattle.dc_asm.specs.declared.forms.Meant.{Meant}
use Rattle.dc_asm.specs.Source.{operands_of, without_blanks}
use Rattle.dc_words.specs.Results.{◌>>=◌}
use Rattle.dc_asm.specs.Forms.{bare_form, no_operands, one, two, three}

abbrev parts : List ℕ → List (List ℕ)
parts text = fields_of 44 text

-- the operands of a text with a comma
split : (text first rest : List ℕ) → parts text ≡ first ∷ parts rest → operands_of text ≡ without_blanks first ∷ map without_blanks (parts rest)
unfolding operands_of
split [] first rest e = absurd (omega (arith, ap length e, fields_some 44 rest))
split (c ∷ text) first rest e = ap (map without_blanks) e

empty : (text : List ℕ) (b : Bool) → b ≡ (length text == 0) → b ≡ true → operands_of text ≡ []
unfolding operands_of
empty [] b e full = refl
empty (c ∷ text) b e full = let h : length (c ∷ text) ≡ 0 = eqb-true (length (c ∷ text)) 0 (sym e ∙ full) in absurd (omega arith)

filled : (text : List ℕ) (b : Bool) → b ≡ (length text == 0) → b ≡ false → operands_of text ≡ map without_blanks (parts text)
unfolding operands_of
filled [] b e less = absurd (let never : true ≡ false = sym e ∙ less in cc)
filled (c ∷ text) b e less = refl

module _ (meant : Meant) where
  some_parts : (texts : List (List ℕ)) → 0 < length texts → Err kind.Word ≡ (no_operands (map without_blanks texts) >>= λ _. Ok meant)
  unfolding no_operands
  some_parts [] some = absurd (omega arith)
  some_parts (text ∷ texts) some = refl

  pub none_given : (text : List ℕ) (b : Bool) → b ≡ (length text == 0) → b ≡ true → Ok meant ≡ bare_form meant (operands_of text)
  unfolding bare_form no_operands
  none_given text b e full = rw (empty text b e full) refl

  pub some_given : (text : List ℕ) (b : Bool) → b ≡ (length text == 0) → b ≡ false → Err kind.Word ≡ bare_form meant (operands_of text)
  unfolding bare_form
  some_given text b e less = rw (filled text b e less) (some_parts (parts text) (fields_some 44 text))

-- one operand
pub one_none : (text : List ℕ) (b : Bool) → b ≡ (length text == 0) → b ≡ true → Err kind.Word ≡ one (operands_of text)
unfolding one
one_none text b e full = rw (empty text b e full) refl

pub one_ok : (text : List ℕ) (b : Bool) → b ≡ (length text == 0) → b ≡ false → parts text ≡ text ∷ [] → Ok (without_blanks text) ≡ one (operands_of text)
unfolding one
one_ok text b e less last = rw (filled text b e less, last) refl

after_one : (first : List ℕ) (texts : List (List ℕ)) → 0 < length texts → Err kind.Word ≡ one (without_blanks first ∷ map without_blanks texts)
unfolding one
after_one first [] some = absurd (omega arith)
after_one first (text ∷ texts) some = refl

pub one_more : (text first rest : List ℕ) → parts text ≡ first ∷ parts rest → Err kind.Word ≡ one (operands_of text)
one_more text first rest e = rw (split text first rest e) (after_one first (parts rest) (fields_some 44 rest))

-- two operands
pub two_alone : (text : List ℕ) → parts text ≡ text ∷ [] → Err kind.Word ≡ two (operands_of text)
unfolding two operands_of
two_alone [] last = refl
two_alone (c ∷ text) last = rw last refl

pub two_ok : (text first second : List ℕ) → parts text ≡ first ∷ parts second → parts second ≡ second ∷ [] → Ok (without_blanks first, without_blanks second) ≡ two (operands_of text)
unfolding two
two_ok text first second e last = rw (split text first second e, last) refl

after_two : (first second : List ℕ) (texts : List (List ℕ)) → 0 < length texts → Err kind.Word ≡ two (without_blanks first ∷ without_blanks second ∷ map without_blanks texts)
unfolding two
after_two first second [] some = absurd (omega arith)
after_two first second (text ∷ texts) some = refl

pub two_more : (text first behind second rest : List ℕ) → parts text ≡ first ∷ parts behind → parts behind ≡ second ∷ parts rest → Err kind.Word ≡ two (operands_of text)
two_more text first behind second rest e f = rw (split text first behind e, f) (after_two first second (parts rest) (fields_some 44 rest))

-- three operands
pub three_alone : (text : List ℕ) → parts text ≡ text ∷ [] → Err kind.Word ≡ three (operands_of text)
unfolding three operands_of
three_alone [] last = refl
three_alone (c ∷ text) last = rw last refl

module _ (text first second : List ℕ) where
  pub three_short : parts text ≡ first ∷ parts second → parts second ≡ second ∷ [] → Err kind.Word ≡ three (operands_of text)
  unfolding three
  three_short e last = rw (split text first second e, last) refl

  pub three_ok : (behind third : List ℕ) → parts text ≡ first ∷ parts behind → parts behind ≡ second ∷ parts third → parts third ≡ third ∷ []
      → Ok (without_blanks first, without_blanks second, without_blanks third) ≡ three (operands_of text)
  unfolding three
  three_ok behind third e f last = rw (split text first behind e, f, last) refl

  after_three : (third : List ℕ) (texts : List (List ℕ)) → 0 < length texts → Err kind.Word ≡ three (without_blanks first ∷ without_blanks second ∷ without_blanks third ∷ map without_blanks texts)
  unfolding three
  after_three third [] some = absurd (omega arith)
  after_three third (more ∷ texts) some = refl

  pub three_more : (behind later third rest : List ℕ) → parts text ≡ first ∷ parts behind → parts behind ≡ second ∷ parts later → parts later ≡ third ∷ parts rest
      → Err kind.Word ≡ three (operands_of text)
  three_more behind later third rest e f g = rw (split text first behind e, f, g) (after_three third (parts rest) (fields_some 44 rest))
