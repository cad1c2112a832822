-- A line of a journal is read from its text.
use Rattle.std.proofs.Common.{◌≡◌, ◌∙◌, ◌^◌, ◌-◌, ◌<◌, ◌≤◌, ◌≢◌, ℕ, suc, Bool, true, false, List, [], ◌∷◌, ◌++◌, length, map, decimal, codes, Some, Result, Ok, ap, sym, refl, arith, if◌then◌else◌, append_assoc}
use Rattle.std.proofs.lemmas.Bool.{eq-eqb, lt-ltb, ne_eqb}
use Rattle.dc_words.specs.Results.{◌>>=◌}
use Rattle.dc_words.specs.Texts.{fields_of, has_no, joined}
use Rattle.dc_words.proofs.Joining.{fields_last, fields_then, none_in_both}
use Rattle.dc_words.proofs.Reading.{decimal_has_no}
use Rattle.dc_audit.specs.declared.fault.AuditKind.{AuditKind}
use Rattle.dc_audit.specs.declared.journal.Deed.{Deed}
use Rattle.dc_audit.specs.declared.journal.Deed.TheVariants.{Chance, Logged, Visible, Sends, Receives}
use Rattle.dc_audit.specs.declared.journal.Line.{Line}
use Rattle.dc_audit.specs.declared.journal.Line.TheVariants.{Does, Commits}
use Rattle.dc_audit.specs.declared.said.Said.{Said}
use Rattle.dc_audit.specs.declared.said.Said.TheVariants.{Says}
use Rattle.dc_audit.specs.Journals.{sends, takes}
use Rattle.dc_audit.specs.Keeping.{HasMembers, IsNext, count}
use Rattle.dc_audit.specs.Reading.{are_two, capped, checked, deed_of, line_by, logging_of, said_by}
use Rattle.dc_journal.specs.Texts.{deed_text, line_text, logging_text, members_from}
use Rattle.dc_journal.proofs.Members.{capped_again, commit_again, list_free, members_few}

-- no more lines pass than there are
count_few : (test : Line → Bool) (journal : List Line) → count test journal ≤ length journal
count_few test [] = omega arith
count_few test (x ∷ journal) = by (test x) (count_few test journal)
  where
    by : (b : Bool) → count test journal ≤ length journal → (if b then suc (count test journal) else count test journal) ≤ suc (length journal)
    by true few = omega (arith, few)
    by false few = omega (arith, few)

-- numbers that are read as they are
abbrev IsSmall : Deed → Type 0
IsSmall (Sends q k) = (q ≤ 2 ^ 32 - 1) × (k ≤ 2 ^ 32 - 1)
IsSmall (Receives s k logged) = (s ≤ 2 ^ 32 - 1) × (k ≤ 2 ^ 32 - 1)
IsSmall _ = Unit {0}

-- what a process did, its numbers to the right
abbrev deed_body : Deed → List ℕ
deed_body (Sends q k) = codes "send " ++ (decimal q ++ 32 ∷ decimal k)
deed_body (Receives s k logged) = codes "receive " ++ (decimal s ++ 32 ∷ (decimal k ++ 32 ∷ logging_text logged))
deed_body deed = deed_text deed

abbrev deed_fields : Deed → List (List ℕ)
deed_fields (Sends q k) = codes "send" ∷ decimal q ∷ decimal k ∷ []
deed_fields (Receives s k logged) = codes "receive" ∷ decimal s ∷ decimal k ∷ logging_text logged ∷ []
deed_fields deed = deed_text deed ∷ []

record IsAgain (deed : Deed) : Type 0 where
  text : deed_text deed ≡ deed_body deed
  fields : fields_of 32 (deed_body deed) ≡ deed_fields deed
  free : has_no 10 (deed_body deed) ≡ true
  again : deed_of (deed_fields deed) ≡ Some deed

logging_free : (stop : ℕ) (logged : Bool) → stop < 48 → has_no stop (logging_text logged) ≡ true
logging_free stop true low = rw (ne_eqb 108 stop (λ e. omega (arith, e, low)), ne_eqb 111 stop (λ e. omega (arith, e, low)), ne_eqb 103 stop (λ e. omega (arith, e, low)), ne_eqb 101 stop (λ e. omega (arith, e, low)), ne_eqb 100 stop (λ e. omega (arith, e, low))) refl
logging_free stop false low = rw (ne_eqb 110 stop (λ e. omega (arith, e, low)), ne_eqb 100 stop (λ e. omega (arith, e, low))) refl

logging_again : (logged : Bool) → logging_of (logging_text logged) ≡ Some logged
logging_again true = refl
logging_again false = refl

module _ (stop n : ℕ) (low : stop < 48) (small : n ≤ 2 ^ 32 - 1) where
  number_free : has_no stop (decimal n) ≡ true
  number_free = decimal_has_no stop n low (omega (arith, small))

deed_again : (deed : Deed) → IsSmall deed → IsAgain deed
deed_again Chance small = record { text = refl; fields = refl; free = refl; again = refl }
deed_again Logged small = record { text = refl; fields = refl; free = refl; again = refl }
deed_again Visible small = record { text = refl; fields = refl; free = refl; again = refl }
deed_again (Sends q k) small = record {
  text = simp append_assoc;
  fields = ap (λ xs. codes "send" ∷ xs) (fields_then 32 (decimal q) (decimal k) (number_free 32 q (omega arith) small.0)
      ∙ ap (λ xs. decimal q ∷ xs) (fields_last 32 (decimal k) (number_free 32 k (omega arith) small.1)));
  free = none_in_both 10 (decimal q) (32 ∷ decimal k) (number_free 10 q (omega arith) small.0) (number_free 10 k (omega arith) small.1);
  again = rw (capped_again q small.0, capped_again k small.1) refl;
}
deed_again (Receives s k logged) small = record {
  text = simp append_assoc;
  fields = ap (λ xs. codes "receive" ∷ xs) (fields_then 32 (decimal s) (decimal k ++ 32 ∷ logging_text logged) (number_free 32 s (omega arith) small.0)
      ∙ ap (λ xs. decimal s ∷ xs) (fields_then 32 (decimal k) (logging_text logged) (number_free 32 k (omega arith) small.1)
      ∙ ap (λ xs. decimal k ∷ xs) (fields_last 32 (logging_text logged) (logging_free 32 logged (omega arith)))));
  free = none_in_both 10 (decimal s) (32 ∷ (decimal k ++ 32 ∷ logging_text logged)) (number_free 10 s (omega arith) small.0)
      (none_in_both 10 (decimal k) (32 ∷ logging_text logged) (number_free 10 k (omega arith) small.1) (logging_free 10 logged (omega arith)));
  again = rw (capped_again s small.0, capped_again k small.1, logging_again logged) refl;
}

-- a line without its line feed
abbrev pub line_body : Line → List ℕ
line_body (Does p deed) = codes "e " ++ (decimal p ++ 32 ∷ deed_body deed)
line_body (Commits members) = codes "commit " ++ joined 44 (map decimal (members_from 0 members))

-- a line that is written is read again
pub record IsRead (n : ℕ) (done : List Line) (line : Line) : Type 0 where
  pub text : line_text line ≡ line_body line ++ 10 ∷ []
  pub free : has_no 10 (line_body line) ≡ true
  pub again : line_by n done (line_body line) ≡ Ok (Says line)

-- an event, where what is read of it can come next
said_event : (n p : ℕ) (deed : Deed) (name : List ℕ) (fields : List (List ℕ)) → deed_fields deed ≡ name ∷ fields → capped (decimal p) ≡ Some p → deed_of (deed_fields deed) ≡ Some deed
    → said_by n (codes "e" ∷ decimal p ∷ deed_fields deed) ≡ Ok (Says (Does p deed))
said_event n p deed name fields some process did = ap (λ xs. said_by n (codes "e" ∷ decimal p ∷ xs)) some
    ∙ rw (process, sym (ap deed_of some) ∙ did) refl

event_read : (n p : ℕ) (done : List Line) (deed : Deed) (name : List ℕ) (fields : List (List ℕ)) → deed_fields deed ≡ name ∷ fields → p ≤ 2 ^ 32 - 1 → IsSmall deed
    → checked n done (Says (Does p deed)) ≡ Ok (Says (Does p deed)) → IsRead n done (Does p deed)
event_read n p done deed name fields some small numbers can = let did = deed_again deed numbers in record {
  text = ap (λ w. codes "e " ++ decimal p ++ codes " " ++ w ++ 10 ∷ []) did.text ∙ simp append_assoc;
  free = none_in_both 10 (decimal p) (32 ∷ deed_body deed) (number_free 10 p (omega arith) small) did.free;
  again = ap (λ xs. said_by n xs >>= checked n done) (ap (λ xs. codes "e" ∷ xs) (fields_then 32 (decimal p) (deed_body deed) (number_free 32 p (omega arith) small) ∙ ap (λ xs. decimal p ∷ xs) did.fields))
      ∙ ap (λ (r : Result Said AuditKind). r >>= checked n done) (said_event n p deed name fields some (capped_again p small) did.again) ∙ can;
}

two_again : (n p q : ℕ) → p < n → q < n → q ≢ p → are_two n p q ≡ true
two_again n p q first second other = rw (lt-ltb p n first, lt-ltb q n second, ne_eqb q p other) refl

pub line_read : (n : ℕ) (done : List Line) (line : Line) → n ≤ 16 → length done ≤ 2 ^ 32 - 1 → IsNext n done line → HasMembers line → IsRead n done line
line_read n done (Does p Chance) few short is some = event_read n p done Chance _ _ refl (omega (arith, is, few)) tt (rw (lt-ltb p n is) refl)
line_read n done (Does p Logged) few short is some = event_read n p done Logged _ _ refl (omega (arith, is, few)) tt (rw (lt-ltb p n is) refl)
line_read n done (Does p Visible) few short is some = event_read n p done Visible _ _ refl (omega (arith, is, few)) tt (rw (lt-ltb p n is) refl)
line_read n done (Does p (Sends q k)) few short is some = let counted = count_few (sends p q) done in let first = is.0 in let second = is.1 in let number = is.3 in
    event_read n p done (Sends q k) _ _ refl (omega (arith, first, few)) (omega (arith, second, few), omega (arith, number, counted, short))
    (rw (two_again n p q is.0 is.1 is.2, eq-eqb k (count (sends p q) done) is.3) refl)
line_read n done (Does p (Receives s k logged)) few short is some = let counted = count_few (sends s p) done in let first = is.0 in let second = is.1 in let sent = is.4 in
    event_read n p done (Receives s k logged) _ _ refl (omega (arith, first, few)) (omega (arith, second, few), omega (arith, sent, counted, short))
    (rw (two_again n p s is.0 is.1 is.2, eq-eqb k (count (takes s p) done) is.3, lt-ltb k (count (sends s p) done) is.4) refl)
line_read n done (Commits members) few short is some = let long = is.0 in record {
  text = refl;
  free = list_free 10 (members_from 0 members) (omega arith) (members_few 0 members (omega (arith, long)));
  again = ap (λ xs. said_by n (codes "commit" ∷ xs) >>= checked n done) (fields_last 32 (joined 44 (map decimal (members_from 0 members))) (list_free 32 (members_from 0 members) (omega arith) (members_few 0 members (omega (arith, long)))))
      ∙ ap (λ (r : Result Said AuditKind). r >>= checked n done) (commit_again n members is.0 is.1 some.0 some.1);
}
