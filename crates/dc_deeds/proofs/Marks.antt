-- Marks by a test, and the line of a commit.
use Rattle.std.proofs.Common.{◌≡◌, ◌∙◌, ◌<◌, ◌&&◌, ◌∷◌, ◌++◌, ℕ, All, Option, None, Some, subst, sym, zero, suc, List, [], Bool, true, false, refl, ap, arith, get_or, length, nat_lt}
use Rattle.std.proofs.lemmas.List.Elements.{All-append, All-cons, All-nil}
use Rattle.dc_audit.specs.Journals.{IsOfSixteen}
use Rattle.dc_audit.specs.declared.journal.Deed.{Deed}
use Rattle.dc_audit.specs.declared.journal.Line.{Line}
use Rattle.dc_audit.specs.declared.journal.Line.TheVariants.{Commits, Does}
use Rattle.dc_deeds.specs.Events.{deed_lines, lines_by, marked_lines}
use Rattle.dc_protocols.specs.declared.protocol.Rule.{Rule}
use Rattle.dc_savework.specs.Journal.{commit_lines, marks_by}

-- a list whose marks pass the test
pub marks_are : (n : ℕ) (test : ℕ → Bool) (xs : List Bool) → length xs ≡ n → ((i : ℕ) → i < n → get_or xs i false ≡ test i) → xs ≡ marks_by n test
marks_are zero test [] long each = refl
marks_are zero test (x ∷ xs) long each = absurd (omega (arith, long))
marks_are (suc n) test [] long each = absurd (omega (arith, long))
marks_are (suc n) test (x ∷ xs) long each = ap (λ b. b ∷ xs) (each 0 (omega arith))
    ∙ ap (λ ys. test 0 ∷ ys) (marks_are n (λ i. test (suc i)) xs (omega (arith, long)) (λ i less. each (suc i) (omega (arith, less))))

-- a commit of those that pass the test
pub commit_is : (b : Bool) (n : ℕ) (commits : ℕ → Bool) (members : List Bool) → members ≡ marks_by 16 (λ q. commits q && nat_lt q n) → marked_lines b members ≡ commit_lines b n commits
commit_is false n commits members is = refl
commit_is true n commits members is = ap (λ marks. Commits marks ∷ []) is

-- the lines of a turn are of the sixteen processes that there may be
module _ (p : ℕ) (members : List Bool) (less : p < 16) (long : length members ≡ 16) where
  -- a commit
  commit_sixteen : (due : Bool) → All IsOfSixteen (marked_lines due members)
  commit_sixteen false = All-nil IsOfSixteen
  commit_sixteen true = All-cons IsOfSixteen (Commits members) [] long (All-nil IsOfSixteen)

  -- an event
  deed_sixteen : (deed : Option Deed) → All IsOfSixteen (deed_lines p deed)
  deed_sixteen None = All-nil IsOfSixteen
  deed_sixteen (Some deed) = All-cons IsOfSixteen (Does p deed) [] less (All-nil IsOfSixteen)

  -- all of them, behind others
  pub lines_sixteen : (rule : Rule) (deed : Option Deed) (before after : List Line) → after ≡ before ++ lines_by p members rule deed → All IsOfSixteen before → All IsOfSixteen after
  lines_sixteen rule deed before after is all = subst (All IsOfSixteen) (sym is) (All-append IsOfSixteen before (lines_by p members rule deed) all
      (All-append IsOfSixteen (marked_lines rule.before members ++ deed_lines p deed) (marked_lines rule.after members)
      (All-append IsOfSixteen (marked_lines rule.before members) (deed_lines p deed) (commit_sixteen rule.before) (deed_sixteen deed)) (commit_sixteen rule.after)))
