-- What is kept of a journal, line by line: where a process had no unlogged chance since its last commit all its chances are saved.
use Rattle.std.proofs.Common.{◌≡◌, ◌∙◌, ◌<◌, ◌≤◌, ◌⊎◌, ◌&&◌, ⊎_elim, ℕ, zero, suc, Bool, true, false, List, [], ◌∷◌, ◌++◌, length, arith, refl, sym, subst, nat_lt, nat_eq, Some, None}
use Rattle.std.proofs.lemmas.Bool.{and_from, and_parts, cases_Bool, cases_lt, eqb-true, lt-ltb, ltb-true, or_cases, true≢false}
use Rattle.dc_audit.specs.declared.journal.Deed.{Deed}
use Rattle.dc_audit.specs.declared.journal.Line.{Line}
use Rattle.dc_audit.specs.declared.journal.Line.TheVariants.{Does, Commits}
use Rattle.dc_audit.specs.Journals.{At, HasSaveWork, is_chance, is_commit, is_of, marked}
use Rattle.dc_audit.specs.Guarded.{AllGuarded, AllSaved, AreGuarded, AreJoint, AreSingle, is_output, is_visible}
use Rattle.dc_audit.proofs.Orders.{at_less, at_new, old_or_new}
use Rattle.dc_audit.proofs.Guarding.{all_guarded_more, guarded_more, guarded_work, joint_more, joint_work, saved_commit, saved_other, single_more}
use Rattle.dc_protocols.specs.Rules.{is_joint}
use Rattle.dc_protocols.specs.declared.protocol.Protocol.{Protocol}
use Rattle.dc_recovery.proofs.Parts.{with_all}
use Rattle.dc_recovery.specs.Parts.{is_with}
use Rattle.dc_savework.specs.Journal.{commit_of, marks_by}

-- a mark is its test, within its places
pub mark_is : (n : ℕ) (test : ℕ → Bool) (i : ℕ) → i < n → marked (marks_by n test) i ≡ test i
mark_is zero test i h = absurd (omega arith)
mark_is (suc n) test zero h = refl
mark_is (suc n) test (suc i) h = mark_is n (λ j. test (suc j)) i (omega arith)

pub mark_in : (n : ℕ) (test : ℕ → Bool) (i : ℕ) → marked (marks_by n test) i ≡ true → i < n
mark_in zero test i e = absurd (true≢false (sym e))
mark_in (suc n) test zero e = omega arith
mark_in (suc n) test (suc i) e = let h : i < n = mark_in n (λ j. test (suc j)) i e in omega arith

mark_holds : (n : ℕ) (test : ℕ → Bool) (i : ℕ) → marked (marks_by n test) i ≡ true → test i ≡ true
mark_holds n test i e = sym (mark_is n test i (mark_in n test i e)) ∙ e

-- who takes part in a commit
pub in_commit : (n : ℕ) (commits : ℕ → Bool) (q : ℕ) → n ≤ 16 → q < n → commits q ≡ true → is_of q (commit_of n commits) ≡ true
in_commit n commits q few h w = mark_is 16 (λ i. commits i && nat_lt i n) q (omega arith) ∙ and_from (commits q) (nat_lt q n) w (lt-ltb q n h)

pub of_commit : (n : ℕ) (commits : ℕ → Bool) (q : ℕ) → is_of q (commit_of n commits) ≡ true → (commits q ≡ true) × (q < n)
of_commit n commits q e = let both = and_parts (commits q) (nat_lt q n) (mark_holds 16 (λ i. commits i && nat_lt i n) q e) in (both.0, ltb-true q n both.1)

-- what is kept
pub record Kept (pr : Protocol) (n : ℕ) (unsaved : ℕ → Bool) (journal : List Line) : Type 0 where
  pub among : (p i : ℕ) (x : Line) → At journal i x → is_commit x ≡ false → is_of p x ≡ true → p < n
  pub saved : (p : ℕ) → unsaved p ≡ false → AllSaved journal p
  pub alone : is_joint pr ≡ false → AreSingle journal × AreGuarded journal
  pub joint : is_joint pr ≡ true → AreJoint (λ p. p < n) journal × AllGuarded journal

among_more : (n : ℕ) (journal : List Line) (y : Line) → ((p : ℕ) → is_commit y ≡ false → is_of p y ≡ true → p < n)
    → ((p i : ℕ) (x : Line) → At journal i x → is_commit x ≡ false → is_of p x ≡ true → p < n) → (p i : ℕ) (x : Line) → At (journal ++ y ∷ []) i x → is_commit x ≡ false → is_of p x ≡ true → p < n
among_more n journal y here among p i x at out of = ⊎_elim
    (λ (old : i < length journal). among p i x (at_less journal y i x old at) out of)
    (λ (new : i ≡ length journal). let same : x ≡ y = at_new journal y i x new at in here p (subst (λ (z : Line). is_commit z ≡ false) same out) (subst (λ (z : Line). is_of p z ≡ true) same of))
    (old_or_new journal y i x at)

-- of a process past the last there are no chances
chance_plain : (z : Line) → is_chance z ≡ true → is_commit z ≡ false
chance_plain (Does p deed) e = refl
chance_plain (Commits members) e = absurd (true≢false (sym e))

saved_far : (n : ℕ) (journal : List Line) → ((p i : ℕ) (x : Line) → At journal i x → is_commit x ≡ false → is_of p x ≡ true → p < n) → (p : ℕ) → n ≤ p → AllSaved journal p
saved_far n journal among p h e is = let l : p < n = among p e is.0 is.1 (chance_plain is.0 is.3) is.2 in absurd (omega arith)

-- a commit of p, alone or with all
pub kept_commit : (pr : Protocol) (n p : ℕ) (commits unsaved after : ℕ → Bool) (journal : List Line) → n ≤ 16 → ((q : ℕ) → commits q ≡ is_with pr p q) → ((q : ℕ) → after q ≡ false → (commits q ≡ true) ⊎ (unsaved q ≡ false))
    → Kept pr n unsaved journal → Kept pr n after (journal ++ commit_of n commits ∷ [])
kept_commit pr n p commits unsaved after journal few are clears k = let y : Line = commit_of n commits in record {
  among = among_more n journal y (λ q out of. absurd (true≢false out)) k.among;
  saved = λ q off. ⊎_elim
      (λ (h : q < n). ⊎_elim (λ (w : commits q ≡ true). saved_commit journal y q refl (in_commit n commits q few h w))
      (λ (o : unsaved q ≡ false). saved_other journal y q (λ of. refl) (k.saved q o)) (clears q off))
      (λ (h : n ≤ q). saved_other journal y q (λ of. refl) (saved_far n journal k.among q h)) (cases_lt q n);
  alone = λ g. let was = k.alone g in (
    single_more journal y (λ c a b oa ob. only g a (of_commit n commits a oa).0 ∙ sym (only g b (of_commit n commits b ob).0)) was.0,
    guarded_more journal y (λ q of out. absurd (true≢false (sym out))) was.1,
  );
  joint = λ g. let was = k.joint g in (
    joint_more (λ q. q < n) journal y (λ c q h. in_commit n commits q few h (are q ∙ with_all pr p q g)) was.0,
    all_guarded_more journal y (λ out. absurd (true≢false (sym out))) was.1,
  );
}
  where
    only : is_joint pr ≡ false → (q : ℕ) → commits q ≡ true → q ≡ p
    only g q w = ⊎_elim (λ (a : is_joint pr ≡ true). absurd (true≢false (sym a ∙ g))) (λ (b : nat_eq p q ≡ true). sym (eqb-true p q b)) (or_cases (is_joint pr) (nat_eq p q) (sym (are q) ∙ w))

-- an event of p
pub kept_event : (pr : Protocol) (n p : ℕ) (unsaved after : ℕ → Bool) (journal : List Line) (deed : Deed) → p < n → ((q : ℕ) → after q ≡ false → unsaved q ≡ false)
    → (is_chance (Does p deed) ≡ true → after p ≡ true) → (is_joint pr ≡ false → is_output (Does p deed) ≡ true → unsaved p ≡ false)
    → (is_joint pr ≡ true → is_visible (Does p deed) ≡ true → (q : ℕ) → q < n → unsaved q ≡ false) → Kept pr n unsaved journal → Kept pr n after (journal ++ Does p deed ∷ [])
kept_event pr n p unsaved after journal deed inside grows chance alone joint k = let y : Line = Does p deed in record {
  among = among_more n journal y (λ q out of. subst (λ (i : ℕ). i < n) (eqb-true p q of) inside) k.among;
  saved = λ q off. saved_other journal y q (λ of. ⊎_elim
      (λ (yes' : is_chance y ≡ true). let same : p ≡ q = eqb-true p q of in absurd (true≢false (sym (chance yes') ∙ subst (λ (i : ℕ). after i ≡ false) (sym same) off)))
      (λ (not' : is_chance y ≡ false). not') (cases_Bool (is_chance y))) (k.saved q (grows q off));
  alone = λ g. let was = k.alone g in (
    single_more journal y (λ c. absurd (true≢false (sym c))) was.0,
    guarded_more journal y (λ q of out. let same : p ≡ q = eqb-true p q of in subst (λ (i : ℕ). AllSaved journal i) same (k.saved p (alone g out))) was.1,
  );
  joint = λ g. let was = k.joint g in (
    joint_more (λ q. q < n) journal y (λ c. absurd (true≢false (sym c))) was.0,
    all_guarded_more journal y (λ out q. ⊎_elim (λ (h : q < n). k.saved q (joint g out q h)) (λ (h : n ≤ q). saved_far n journal k.among q h) (cases_lt q n)) was.1,
  );
}

-- where this is kept there is Save-work
pub kept_work : (pr : Protocol) (n : ℕ) (unsaved : ℕ → Bool) (journal : List Line) → Kept pr n unsaved journal → HasSaveWork false journal
kept_work pr n unsaved journal k = ⊎_elim
    (λ (g : is_joint pr ≡ true). let both = k.joint g in joint_work false (λ p. p < n) journal k.among both.0 both.1)
    (λ (g : is_joint pr ≡ false). let both = k.alone g in guarded_work journal both.0 both.1) (cases_Bool (is_joint pr))

-- at the beginning
pub kept_none : (pr : Protocol) (n : ℕ) → Kept pr n (λ p. false) []
kept_none pr n = record {
  among = λ p i x at. absurd (nothing_at i x at);
  saved = λ p off e is. absurd (nothing_at e is.0 is.1);
  alone = λ g. (λ i x at. absurd (nothing_at i x at), λ p e x is. absurd (nothing_at e is.0 is.1));
  joint = λ g. (λ i x at. absurd (nothing_at i x at), λ p q e x is. absurd (nothing_at e is.0 is.1));
}
  where
    nothing_at : (i : ℕ) (x : Line) → At [] i x → ⊥
    nothing_at i x at = let bad : None ≡ Some x = at in cc bad
