-- Lines with more fields than any has, and texts of lines.
use Rattle.std.proofs.Common.{◌≡◌, ◌∙◌, ◌<◌, ◌==◌, ⊎_elim, ℕ, suc, true, false, List, [], ◌∷◌, ◌++◌, length, arith, refl, sym, ap, None, Result, Err, if◌then◌else◌, nat_lt, codes, bytes_eq}
use Rattle.std.proofs.lemmas.Bool.{cases_Bool}
use Rattle.dc_words.proofs.Splitting.{fields_some}
use Rattle.dc_words.specs.Texts.{fields_of, in_front}
use Rattle.dc_audit.specs.declared.fault.AuditFault.{AuditFault}
use Rattle.dc_audit.specs.declared.fault.AuditKind.TheVariants.{TooMany, Form}
use Rattle.dc_audit.specs.declared.journal.Line.{Line}
use Rattle.dc_audit.specs.Reading.{event_of, said_by, capped, deed_of, ends, fault_at, heading_by, line_by, line_then, lines_from}

five_fields : (a b d e : List ℕ) (more : List (List ℕ)) → 0 < length more → None ≡ deed_of (a ∷ b ∷ d ∷ e ∷ more)
five_fields a b d e [] some = absurd (omega arith)
five_fields a b d e (x ∷ more) some = refl

pub too_much_done : (text a t1 b t2 d t3 e t4 : List ℕ) → fields_of 32 text ≡ a ∷ fields_of 32 t1 → fields_of 32 t1 ≡ b ∷ fields_of 32 t2 → fields_of 32 t2 ≡ d ∷ fields_of 32 t3 → fields_of 32 t3 ≡ e ∷ fields_of 32 t4
    → None ≡ deed_of (fields_of 32 text)
too_much_done text a t1 b t2 d t3 e t4 x1 x2 x3 x4 = five_fields a b d e (fields_of 32 t4) (fields_some 32 t4)
    ∙ sym (ap deed_of (x1 ∙ ap (λ xs. a ∷ xs) (x2 ∙ ap (λ xs. b ∷ xs) (x3 ∙ ap (λ xs. d ∷ xs) x4))))

five_headings : (a b d e : List ℕ) (more : List (List ℕ)) → 0 < length more → None ≡ heading_by (a ∷ b ∷ d ∷ e ∷ more)
five_headings a b d e [] some = absurd (omega arith)
five_headings a b d e (x ∷ more) some = refl

pub too_much_said : (text a t1 b t2 d t3 e t4 : List ℕ) → fields_of 32 text ≡ a ∷ fields_of 32 t1 → fields_of 32 t1 ≡ b ∷ fields_of 32 t2 → fields_of 32 t2 ≡ d ∷ fields_of 32 t3 → fields_of 32 t3 ≡ e ∷ fields_of 32 t4
    → None ≡ heading_by (fields_of 32 text)
too_much_said text a t1 b t2 d t3 e t4 x1 x2 x3 x4 = five_headings a b d e (fields_of 32 t4) (fields_some 32 t4)
    ∙ sym (ap heading_by (x1 ∙ ap (λ xs. a ∷ xs) (x2 ∙ ap (λ xs. b ∷ xs) (x3 ∙ ap (λ xs. d ∷ xs) x4))))

-- a line with something behind its line feed
abbrev pub after_line : ℕ → ℕ → List Line → List ℕ → List (List ℕ) → Result (List Line) AuditFault
after_line n number done text rest = if nat_lt 4000000 number then Err (record { line = number; kind = TooMany })
    else line_then number (line_by n done text) (λ line. lines_from n (suc number) (done ++ line ∷ []) rest) (ends (suc number) done rest)

at_parts : (n number : ℕ) (done : List Line) (text : List ℕ) (rest : List (List ℕ)) → 0 < length rest → lines_from n number done (text ∷ rest) ≡ after_line n number done text rest
at_parts n number done text [] some = absurd (omega arith)
at_parts n number done text (part ∷ parts) some = refl

pub at_line : (n number : ℕ) (done : List Line) (rest line after : List ℕ) → fields_of 10 rest ≡ line ∷ fields_of 10 after → lines_from n number done (fields_of 10 rest) ≡ after_line n number done line (fields_of 10 after)
at_line n number done rest line after e = ap (λ (parts : List (List ℕ)). lines_from n number done parts) e ∙ at_parts n number done line (fields_of 10 after) (fields_some 10 after)

-- something behind the last line is a line too many
ends_two : (number : ℕ) (done : List Line) (first : List ℕ) (parts : List (List ℕ)) → 0 < length parts → ends number done (first ∷ parts) ≡ fault_at number Form
ends_two number done first [] some = absurd (omega arith)
ends_two number done [] (x ∷ parts) some = refl
ends_two number done (c ∷ cs) (x ∷ parts) some = refl

ends_front : (number : ℕ) (done : List Line) (c : ℕ) (parts : List (List ℕ)) → ends number done (in_front c parts) ≡ fault_at number Form
ends_front number done c [] = refl
ends_front number done c (part ∷ parts) = refl

pub left_over : (number : ℕ) (done : List Line) (after : List ℕ) → 0 < length after → ends number done (fields_of 10 after) ≡ fault_at number Form
left_over number done [] some = absurd (omega arith)
left_over number done (c ∷ after) some = ⊎_elim
    (λ (e : (c == 10) ≡ true). rw e (ends_two number done [] (fields_of 10 after) (fields_some 10 after)))
    (λ (e : (c == 10) ≡ false). rw e (ends_front number done c (fields_of 10 after))) (cases_Bool (c == 10))

-- a line of three fields and more
said_three : (n : ℕ) (name p : List ℕ) (more : List (List ℕ)) → 0 < length more → said_by n (name ∷ p ∷ more) ≡ (if bytes_eq name (codes "e") then event_of (capped p) (deed_of more) else Err Form)
said_three n name p [] some = absurd (omega arith)
said_three n name p (x ∷ more) some = refl

pub said_many : (n : ℕ) (text name t1 p did : List ℕ) → fields_of 32 text ≡ name ∷ fields_of 32 t1 → fields_of 32 t1 ≡ p ∷ fields_of 32 did
    → said_by n (fields_of 32 text) ≡ (if bytes_eq name (codes "e") then event_of (capped p) (deed_of (fields_of 32 did)) else Err Form)
said_many n text name t1 p did a b = ap (said_by n) (a ∙ ap (λ xs. name ∷ xs) b) ∙ said_three n name p (fields_of 32 did) (fields_some 32 did)
