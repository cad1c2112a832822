-- A journal is read from its text.
use Rattle.std.proofs.Common.{◌≡◌, ◌∙◌, ◌+◌, ◌<◌, ◌≤◌, ℕ, suc, Bool, true, false, List, [], ◌∷◌, ◌++◌, length, decimal, codes, Option, Some, Result, Ok, ap, sym, refl, arith, if◌then◌else◌, bytes_eq, None, append_assoc, append-nil, length-append}
use Rattle.std.specs.List.{All, AllByRecursion, flat_map}
use Rattle.std.proofs.lemmas.Bool.{le-ltb, lt-ltb}
use Rattle.std.proofs.lemmas.List.Elements.{recursion_from_All}
use Rattle.dc_words.specs.Texts.{fields_of, has_no}
use Rattle.dc_words.proofs.Joining.{fields_then, none_in_both}
use Rattle.dc_words.proofs.Reading.{decimal_has_no}
use Rattle.dc_words.proofs.Splitting.{fields_some}
use Rattle.dc_audit.specs.declared.fault.AuditKind.{AuditKind}
use Rattle.dc_audit.specs.declared.journal.Line.{Line}
use Rattle.dc_audit.specs.declared.said.Said.{Said}
use Rattle.dc_audit.specs.Keeping.{CanFollow, HasMembers, IsJournal}
use Rattle.dc_audit.specs.Reading.{ends, heading_by, heading_of, journal_by, journal_of, journal_then, journal_with, line_then, lines_from}
use Rattle.dc_audit.proofs.Fielding.{at_line}
use Rattle.dc_journal.specs.Texts.{heading_text, line_text, whole_text}
use Rattle.dc_journal.proofs.LineTexts.{IsRead, line_body, line_read}
use Rattle.dc_journal.proofs.Members.{capped_again}

-- the last line
abbrev last : List ℕ
last = codes "end" ++ 10 ∷ []

-- a line and what follows it
module _ (n number : ℕ) (done : List Line) (line : Line) (rest : List ℕ) (read : IsRead n done line) (within : number ≤ 4000000) where
  split : fields_of 10 (line_text line ++ rest) ≡ line_body line ∷ fields_of 10 rest
  split = ap (λ w. fields_of 10 (w ++ rest)) read.text ∙ ap (fields_of 10) (append_assoc (line_body line) (10 ∷ []) rest) ∙ fields_then 10 (line_body line) rest read.free

  line_goes : lines_from n number done (fields_of 10 (line_text line ++ rest)) ≡ lines_from n (suc number) (done ++ line ∷ []) (fields_of 10 rest)
  line_goes = at_line n number done (line_text line ++ rest) (line_body line) rest split ∙ rw (le-ltb 4000000 number within)
      (ap (λ (r : Result Said AuditKind). line_then number r (λ l. lines_from n (suc number) (done ++ l ∷ []) (fields_of 10 rest)) (ends (suc number) done (fields_of 10 rest))) read.again)

from_lines : (n number : ℕ) (done more : List Line) → n ≤ 16 → number ≡ length done + 2 → length done + length more + 2 ≤ 4000000 → CanFollow n done more → AllByRecursion HasMembers more
    → lines_from n number done (fields_of 10 (flat_map line_text more ++ last)) ≡ Ok (done ++ more)
from_lines n number done [] few here within follow some = rw (le-ltb 4000000 number (omega (arith, here, within))) (ap Ok (sym (append-nil done)))
from_lines n number done (x ∷ more) few here within follow some =
    ap (λ w. lines_from n number done (fields_of 10 w)) (append_assoc (line_text x) (flat_map line_text more) last)
    ∙ line_goes n number done x (flat_map line_text more ++ last) (line_read n done x few (omega (arith, within)) follow.0 some.0) (omega (arith, here, within))
    ∙ from_lines n (suc number) (done ++ x ∷ []) more few (omega (arith, here, length-append done (x ∷ []))) (omega (arith, within, length-append done (x ∷ []))) follow.1 some.1
    ∙ ap Ok (append_assoc done (x ∷ []) more)

-- the first line
abbrev form_text : Bool → List ℕ
form_text causal = if causal then codes "causal" else codes "plain"

abbrev heading_body : ℕ → Bool → List ℕ
heading_body n causal = codes "dc-journal 1 " ++ (decimal n ++ 32 ∷ form_text causal)

module _ (n : ℕ) (causal : Bool) (some : 0 < n) (few : n ≤ 16) where
  heading_is : heading_text n causal ≡ heading_body n causal ++ 10 ∷ []
  heading_is = by causal
    where
      by : (causal : Bool) → heading_text n causal ≡ heading_body n causal ++ 10 ∷ []
      by true = simp append_assoc
      by false = simp append_assoc

  heading_free : has_no 10 (heading_body n causal) ≡ true
  heading_free = none_in_both 10 (decimal n) (32 ∷ form_text causal) (decimal_has_no 10 n (omega arith) (omega (arith, few))) (by causal)
    where
      by : (causal : Bool) → has_no 10 (32 ∷ form_text causal) ≡ true
      by true = refl
      by false = refl

  heading_fields : fields_of 32 (heading_body n causal) ≡ codes "dc-journal" ∷ codes "1" ∷ decimal n ∷ form_text causal ∷ []
  heading_fields = ap (λ xs. codes "dc-journal" ∷ codes "1" ∷ xs) (fields_then 32 (decimal n) (form_text causal) (decimal_has_no 32 n (omega arith) (omega (arith, few)))
      ∙ ap (λ xs. decimal n ∷ xs) (by causal))
    where
      by : (causal : Bool) → fields_of 32 (form_text causal) ≡ form_text causal ∷ []
      by true = refl
      by false = refl

  form_again : heading_of (Some n) (form_text causal) ≡ Some (n, causal)
  form_again = rw (lt-ltb 0 n some, lt-ltb n 17 (omega (arith, few))) (by causal)
    where
      by : (causal : Bool) → if◌then◌else◌ {A = Option (ℕ × Bool)} (bytes_eq (form_text causal) (codes "plain")) (Some (n, false)) (if bytes_eq (form_text causal) (codes "causal") then Some (n, true) else None) ≡ Some (n, causal)
      by true = refl
      by false = refl

  heading_again : heading_by (fields_of 32 (heading_body n causal)) ≡ Some (n, causal)
  heading_again = ap heading_by heading_fields ∙ ap (λ (o : Option ℕ). heading_of o (form_text causal)) (capped_again n (omega (arith, few))) ∙ form_again

-- a text by its first line
by_parts : (first : List ℕ) (parts : List (List ℕ)) → 0 < length parts → journal_by (first ∷ parts) ≡ journal_then (heading_by (fields_of 32 first)) parts
by_parts first [] some = absurd (omega arith)
by_parts first (part ∷ parts) some = refl

behind_feed : (a b c d : List ℕ) → a ++ 10 ∷ [] ++ b ++ c ++ d ≡ a ++ 10 ∷ (b ++ (c ++ d))
behind_feed a b c d = simp append_assoc

pub text_again : (n : ℕ) (causal : Bool) (lines : List Line) → 0 < n → n ≤ 16 → IsJournal n lines → All HasMembers lines → length lines + 2 ≤ 4000000
    → journal_of (whole_text n causal lines) ≡ Ok (record { n = n; causal = causal; lines = lines })
text_again n causal lines some few is members within = ap journal_by split ∙ by_parts first (fields_of 10 rest) (fields_some 10 rest)
    ∙ ap (λ (o : Option (ℕ × Bool)). journal_then o (fields_of 10 rest)) (heading_again n causal some few)
    ∙ ap (journal_with n causal) (from_lines n 2 [] lines few refl (omega (arith, within)) is (recursion_from_All HasMembers lines members))
  where
    first : List ℕ
    first = heading_body n causal

    rest : List ℕ
    rest = flat_map line_text lines ++ last

    split : fields_of 10 (whole_text n causal lines) ≡ first ∷ fields_of 10 rest
    split = ap (λ w. fields_of 10 (w ++ flat_map line_text lines ++ codes "end" ++ 10 ∷ [])) (heading_is n causal some few)
        ∙ ap (fields_of 10) (behind_feed first (flat_map line_text lines) (codes "end") (10 ∷ [])) ∙ fields_then 10 first rest (heading_free n causal some few)
