-- The clock of a new line, from what is known of what happens before it.
use Rattle.std.proofs.Common.{◌≡◌, ◌∙◌, ◌<◌, ◌≤◌, inl, inr, ⊎_elim, ℕ, suc, Bool, true, false, List, [], ◌∷◌, ◌++◌, length, arith, refl, sym, subst, nat_lt}
use Rattle.std.proofs.lemmas.Bool.{cases_Bool, ltb-true, ltb-false, true≢false}
use Rattle.dc_audit.specs.declared.clock.Known.{Known}
use Rattle.dc_audit.specs.declared.journal.Line.{Line}
use Rattle.dc_audit.specs.declared.journal.Line.TheVariants.{Does, Commits}
use Rattle.dc_audit.specs.Journals.{Is, is_chance, is_commit, is_of}
use Rattle.dc_audit.specs.Journals.Leads.{Order}
use Rattle.dc_audit.specs.Clocks.{Earlier, IsClock, IsOf, Sound, UpTo, clear_after, known_at, raised}
use Rattle.dc_audit.proofs.Orders.{at_last, before_less, is_less, is_more, is_new, longer, of_less, of_new, of_past, old_or_new, up_to_less}
use Rattle.dc_audit.proofs.Knowing.{sound_more}

-- a commit is no chance
true_apart : (z : Line) → is_commit z ≡ true → is_chance z ≡ true → ⊥
true_apart (Does p deed) a b = true≢false (sym a)
true_apart (Commits members) a b = true≢false (sym b)

-- after a line of p that leaves something unsaved, or nothing
section_saved : (journal : List Line) (y : Line) (p : ℕ) (known : Known) → Sound journal p known → (e : ℕ) → Is is_chance journal p e → e < known.clear
    → (c : ℕ) × (e < c) × (c < suc (length journal)) × Is is_commit (journal ++ y ∷ []) p c
section_saved journal y p known s e is h = let found : (c : ℕ) × (e < c) × (c < known.end) × Is is_commit journal p c = s.saved e is h in
    (found.0, found.1, omega (arith, found.2, s.within), is_more is_commit journal y p found.0 found.3)

raised_by : (commit some chance : Bool) (journal : List Line) (y : Line) (p : ℕ) (known : Known) → is_commit y ≡ commit → nat_lt known.clear known.end ≡ some → is_chance y ≡ chance
    → Sound journal p known → ((i : ℕ) → IsOf journal p i → i < known.end) → is_of p y ≡ true
    → Sound (journal ++ y ∷ []) p (record { end = suc (length journal); clear = clear_after commit some chance (length journal) known.clear })
raised_by true some chance journal y p known ec eo eh s all of = record {
  within = omega (arith, longer journal y);
  order = omega arith;
  saved = λ e is h. let l : e < length journal = ⊎_elim (λ (k : e < length journal). k)
      (λ (k : e ≡ length journal). absurd (true_apart y ec (is_new is_chance journal y p e k is).1)) (old_or_new journal y e is.0 is.1) in
      (length journal, l, omega arith, (y, at_last journal y, of, ec));
  chance = λ h. absurd (omega (arith, h));
  unsaved = λ h. absurd (omega (arith, h));
}
raised_by false true chance journal y p known ec eo eh s all of = let some : known.clear < known.end = ltb-true known.clear known.end eo in record {
  within = omega (arith, longer journal y);
  order = omega (arith, s.within, some);
  saved = λ e is h. section_saved journal y p known s e (is_less is_chance journal y p e (omega (arith, s.within, some, h)) is) h;
  chance = λ h. is_more is_chance journal y p known.clear (s.chance some);
  unsaved = λ h c is l k. ⊎_elim
      (λ (old : c < length journal). let before : Is is_commit journal p c = is_less is_commit journal y p c old is in s.unsaved some c before l (all c (before.0, before.1, before.2)))
      (λ (new : c ≡ length journal). true≢false (sym (is_new is_commit journal y p c new is).1 ∙ ec)) (old_or_new journal y c is.0 is.1);
}
raised_by false false true journal y p known ec eo eh s all of = let shut : known.end ≤ known.clear = ltb-false known.clear known.end eo in record {
  within = omega (arith, longer journal y);
  order = omega arith;
  saved = λ e is h. let was : Is is_chance journal p e = is_less is_chance journal y p e h is in
      section_saved journal y p known s e was (omega (arith, shut, all e (was.0, was.1, was.2)));
  chance = λ h. (y, at_last journal y, of, eh);
  unsaved = λ h c is l k. omega (arith, l, k);
}
raised_by false false false journal y p known ec eo eh s all of = let shut : known.end ≤ known.clear = ltb-false known.clear known.end eo in record {
  within = omega (arith, longer journal y);
  order = omega arith;
  saved = λ e is h. ⊎_elim
      (λ (old : e < length journal). let was : Is is_chance journal p e = is_less is_chance journal y p e old is in
      section_saved journal y p known s e was (omega (arith, shut, all e (was.0, was.1, was.2))))
      (λ (new : e ≡ length journal). absurd (true≢false (sym (is_new is_chance journal y p e new is).1 ∙ eh))) (old_or_new journal y e is.0 is.1);
  chance = λ h. absurd (omega (arith, h));
  unsaved = λ h. absurd (omega (arith, h));
}

pub sound_raised : (journal : List Line) (y : Line) (p : ℕ) (known : Known) → Sound journal p known → ((i : ℕ) → IsOf journal p i → i < known.end) → is_of p y ≡ true
    → Sound (journal ++ y ∷ []) p (raised (length journal) y known)
sound_raised journal y p known s all of = raised_by (is_commit y) (nat_lt known.clear known.end) (is_chance y) journal y p known refl refl refl s all of

at_of : (m : ℕ) (y : Line) (past : ℕ → Known) (p : ℕ) → is_of p y ≡ true → known_at m y past p ≡ raised m y (past p)
at_of m y past p e = rw e refl

at_others : (m : ℕ) (y : Line) (past : ℕ → Known) (p : ℕ) → is_of p y ≡ false → known_at m y past p ≡ past p
at_others m y past p e = rw e refl

-- the clock of the new line
pub clock_at : (causal : Bool) (journal : List Line) (y : Line) (past : ℕ → Known) → IsClock journal (Earlier causal journal y) past
    → IsClock (journal ++ y ∷ []) (λ i. UpTo causal (journal ++ y ∷ []) i (length journal)) (known_at (length journal) y past)
clock_at causal journal y past c = record {
  sound = λ p. ⊎_elim
      (λ (of : is_of p y ≡ true). subst (λ (k : Known). Sound (journal ++ y ∷ []) p k) (sym (at_of (length journal) y past p of))
      (sound_raised journal y p (past p) (c.sound p) (λ i is. c.only p i is (of_past causal journal y i i is.0 is.1 (Order p is.2 of) (inl refl))) of))
      (λ (no_of : is_of p y ≡ false). subst (λ (k : Known). Sound (journal ++ y ∷ []) p k) (sym (at_others (length journal) y past p no_of)) (sound_more journal y p (past p) (c.sound p)))
      (cases_Bool (is_of p y));
  knows = λ p i is h. ⊎_elim
      (λ (old : i < length journal). inr (⊎_elim
      (λ (of : is_of p y ≡ true). let was : IsOf journal p i = of_less journal y p i old is in of_past causal journal y i i was.0 was.1 (Order p was.2 of) (inl refl))
      (λ (no_of : is_of p y ≡ false). c.knows p i (of_less journal y p i old is) (subst (λ (k : Known). i < k.end) (at_others (length journal) y past p no_of) h))
      (cases_Bool (is_of p y))))
      (λ (new : i ≡ length journal). inl new) (old_or_new journal y i is.0 is.1);
  only = λ p i is h. let low : i ≤ length journal = up_to_less causal (journal ++ y ∷ []) i (length journal) h in ⊎_elim
      (λ (of : is_of p y ≡ true). subst (λ (k : Known). i < k.end) (sym (at_of (length journal) y past p of)) (omega arith))
      (λ (no_of : is_of p y ≡ false). subst (λ (k : Known). i < k.end) (sym (at_others (length journal) y past p no_of)) (⊎_elim
      (λ (new : i ≡ length journal). absurd (true≢false (sym (of_new journal y p i new is) ∙ no_of)))
      (λ (b : Earlier causal journal y i). c.only p i (of_less journal y p i (before_less causal (journal ++ y ∷ []) i (length journal) b) is) b) h))
      (cases_Bool (is_of p y));
}
