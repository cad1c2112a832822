-- Clocks over a journal with one line more.
use Rattle.std.proofs.Common.{◌≡◌, ◌∙◌, ◌<◌, ◌≤◌, ◌⊎◌, inl, inr, ⊎_elim, ℕ, Bool, true, false, List, [], ◌∷◌, ◌++◌, length, arith, refl, sym, subst}
use Rattle.std.proofs.lemmas.Bool.{true≢false, eqb-true, eq-eqb}
use Rattle.dc_audit.specs.declared.clock.Known.{Known}
use Rattle.dc_audit.specs.declared.journal.Deed.{Deed}
use Rattle.dc_audit.specs.declared.journal.Deed.TheVariants.{Sends, Receives}
use Rattle.dc_audit.specs.declared.journal.Line.{Line}
use Rattle.dc_audit.specs.declared.journal.Line.TheVariants.{Does, Commits}
use Rattle.dc_audit.specs.Journals.{At, Leads, is_commit, is_of, marked}
use Rattle.dc_audit.specs.Journals.Leads.{Decision, Message, Order}
use Rattle.dc_audit.specs.Clocks.{Carried, Decided, Earlier, Gathered, IsClock, IsOf, Reached, UpTo, later}
use Rattle.dc_audit.proofs.Orders.{Past, at_last, at_less, at_more, at_new, of_less, of_more, of_new, of_past, old_or_new, past_of, up_to_before, up_to_less, up_to_more, up_to_within}
use Rattle.dc_audit.proofs.Knowing.{clock_more, clock_same, joined}

-- what happens before an event of p that receives nothing
plain_past : (causal : Bool) (journal : List Line) (p : ℕ) (deed : Deed) → ((s k : ℕ) (logged : Bool) → deed ≡ Receives s k logged → ⊥) → (i : ℕ) → (past : Past causal journal (Does p deed) i)
    → Leads causal past.x (Does p deed) → Reached causal journal p i
plain_past causal journal p deed none i past (Order r x y) = (past.k, (past.x, past.at, subst (λ (n : ℕ). is_of n past.x ≡ true) (sym (eqb-true p r y)) x), past.up_to)
plain_past causal journal p deed none i past (Message a q k logged x y) = absurd (none a k logged (cc y))
plain_past causal journal p deed none i past (Decision e x y) = absurd (true≢false (sym y))

pub past_plain : (causal : Bool) (journal : List Line) (p : ℕ) (deed : Deed) (reached : ℕ → Known) → ((s k : ℕ) (logged : Bool) → deed ≡ Receives s k logged → ⊥)
    → IsClock journal (Reached causal journal p) reached → IsClock journal (Earlier causal journal (Does p deed)) reached
past_plain causal journal p deed reached none c = clock_same journal (Reached causal journal p) (Earlier causal journal (Does p deed)) reached
    (λ i r. of_past causal journal (Does p deed) i r.0 (r.1).0 (r.1).1 (Order p (r.1).2 (eq-eqb p p refl)) r.2)
    (λ i b. let past : Past causal journal (Does p deed) i = past_of causal journal (Does p deed) i b in plain_past causal journal p deed none i past past.leads) c

-- what happens before p receives message k of s
receive_past : (causal : Bool) (journal : List Line) (p s k : ℕ) (logged : Bool) (i : ℕ) → (past : Past causal journal (Does p (Receives s k logged)) i)
    → Leads causal past.x (Does p (Receives s k logged)) → Reached causal journal p i ⊎ Carried causal journal s p k i
receive_past causal journal p s k logged i past (Order r x y) = inl (past.k, (past.x, past.at, subst (λ (n : ℕ). is_of n past.x ≡ true) (sym (eqb-true p r y)) x), past.up_to)
receive_past causal journal p s k logged i past (Message a q n l x y) = let es : s ≡ a = cc y in let eq : p ≡ q = cc y in let ek : k ≡ n = cc y in
    inr (past.k, subst (λ (z : Line). At journal past.k z) (let e : Does a (Sends q n) ≡ Does s (Sends p k) = cc (es, eq, ek) in x ∙ e) past.at, past.up_to)
receive_past causal journal p s k logged i past (Decision e x y) = absurd (true≢false (sym y))

pub past_receive : (causal : Bool) (journal : List Line) (p s k : ℕ) (logged : Bool) (reached carried : ℕ → Known)
    → IsClock journal (Reached causal journal p) reached → IsClock journal (Carried causal journal s p k) carried
    → IsClock journal (Earlier causal journal (Does p (Receives s k logged))) (λ r. later (reached r) (carried r))
past_receive causal journal p s k logged reached carried c d = let y : Line = Does p (Receives s k logged) in
    clock_same journal (λ i. Reached causal journal p i ⊎ Carried causal journal s p k i) (Earlier causal journal y) (λ r. later (reached r) (carried r))
    (λ i h. ⊎_elim (λ (r : Reached causal journal p i). of_past causal journal y i r.0 (r.1).0 (r.1).1 (Order p (r.1).2 (eq-eqb p p refl)) r.2)
    (λ (r : Carried causal journal s p k i). of_past causal journal y i r.0 (Does s (Sends p k)) r.1 (Message s p k logged refl refl) r.2) h)
    (λ i b. let past : Past causal journal y i = past_of causal journal y i b in receive_past causal journal p s k logged i past past.leads)
    (joined journal (Reached causal journal p) (Carried causal journal s p k) reached carried c d)

-- what happens before a commit
commit_past : (causal : Bool) (journal : List Line) (members : List Bool) (i : ℕ) → (past : Past causal journal (Commits members) i) → Leads causal past.x (Commits members) → Gathered causal journal members i
commit_past causal journal members i past (Order r x y) = inl (r, y, (past.k, (past.x, past.at, x), past.up_to))
commit_past causal journal members i past (Message a q n l x y) = let bad : Commits members ≡ Does q (Receives a n l) = y in absurd (cc bad)
commit_past causal journal members i past (Decision e x y) = inr (e, (past.k, past.x, past.at, x, past.up_to))

pub past_commit : (causal : Bool) (journal : List Line) (members : List Bool) (past : ℕ → Known) → IsClock journal (Gathered causal journal members) past → IsClock journal (Earlier causal journal (Commits members)) past
past_commit causal journal members past c = clock_same journal (Gathered causal journal members) (Earlier causal journal (Commits members)) past
    (λ i h. ⊎_elim (λ (r : (q : ℕ) × (marked members q ≡ true) × Reached causal journal q i). let reached : Reached causal journal r.0 i = r.2 in
    of_past causal journal (Commits members) i reached.0 (reached.1).0 (reached.1).1 (Order r.0 (reached.1).2 r.1) reached.2)
    (λ (r : (causal ≡ true) × Decided causal journal i). let was : Decided causal journal i = r.1 in of_past causal journal (Commits members) i was.0 was.1 was.2 (Decision r.0 was.3 refl) was.4) h)
    (λ i b. let past : Past causal journal (Commits members) i = past_of causal journal (Commits members) i b in commit_past causal journal members i past past.leads) c

-- what a process that has part in the new line has reached
pub reached_new : (causal : Bool) (journal : List Line) (y : Line) (p : ℕ) (clock : ℕ → Known) → is_of p y ≡ true
    → IsClock (journal ++ y ∷ []) (λ i. UpTo causal (journal ++ y ∷ []) i (length journal)) clock → IsClock (journal ++ y ∷ []) (Reached causal (journal ++ y ∷ []) p) clock
reached_new causal journal y p clock of c = clock_same (journal ++ y ∷ []) (λ i. UpTo causal (journal ++ y ∷ []) i (length journal)) (Reached causal (journal ++ y ∷ []) p) clock
    (λ i h. (length journal, (y, at_last journal y, of), h))
    (λ i r. ⊎_elim
    (λ (old : r.0 < length journal). let was : IsOf journal p r.0 = of_less journal y p r.0 old r.1 in
    inr (up_to_before causal (journal ++ y ∷ []) i r.0 (length journal) r.2 (of_past causal journal y r.0 r.0 was.0 was.1 (Order p was.2 of) (inl refl))))
    (λ (new : r.0 ≡ length journal). subst (λ (n : ℕ). UpTo causal (journal ++ y ∷ []) i n) new r.2) (old_or_new journal y r.0 (r.1).0 (r.1).1)) c

-- the others have reached what they had
pub reached_other : (causal : Bool) (journal : List Line) (y : Line) (p : ℕ) (clock : ℕ → Known) → is_of p y ≡ false
    → IsClock journal (Reached causal journal p) clock → IsClock (journal ++ y ∷ []) (Reached causal (journal ++ y ∷ []) p) clock
reached_other causal journal y p clock out c = clock_more journal y (Reached causal journal p) (Reached causal (journal ++ y ∷ []) p) clock
    (λ i r. let l : r.0 < length journal = old r.0 r.1 in let h : i ≤ r.0 = up_to_less causal (journal ++ y ∷ []) i r.0 r.2 in omega arith)
    (λ i r. (r.0, of_more journal y p r.0 r.1, up_to_more causal journal y i r.0 r.2))
    (λ i r. (r.0, of_less journal y p r.0 (old r.0 r.1) r.1, up_to_within causal journal y i r.0 (old r.0 r.1) r.2)) c
  where
    old : (k : ℕ) → IsOf (journal ++ y ∷ []) p k → k < length journal
    old k is = ⊎_elim (λ (h : k < length journal). h) (λ (e : k ≡ length journal). absurd (true≢false (sym (of_new journal y p k e is) ∙ out))) (old_or_new journal y k is.0 is.1)

-- what a message carries that is sent by the new line
pub carried_new : (causal : Bool) (journal : List Line) (p q k : ℕ) (clock : ℕ → Known)
    → IsClock (journal ++ Does p (Sends q k) ∷ []) (λ i. UpTo causal (journal ++ Does p (Sends q k) ∷ []) i (length journal)) clock
    → IsClock (journal ++ Does p (Sends q k) ∷ []) (Carried causal (journal ++ Does p (Sends q k) ∷ []) p q k) clock
carried_new causal journal p q k clock c = let y : Line = Does p (Sends q k) in
    clock_same (journal ++ y ∷ []) (λ i. UpTo causal (journal ++ y ∷ []) i (length journal)) (Carried causal (journal ++ y ∷ []) p q k) clock
    (λ i h. (length journal, at_last journal y, h))
    (λ i r. ⊎_elim
    (λ (old : r.0 < length journal). inr (up_to_before causal (journal ++ y ∷ []) i r.0 (length journal) r.2
    (of_past causal journal y r.0 r.0 y (at_less journal y r.0 y old r.1) (Order p (eq-eqb p p refl) (eq-eqb p p refl)) (inl refl))))
    (λ (new : r.0 ≡ length journal). subst (λ (n : ℕ). UpTo causal (journal ++ y ∷ []) i n) new r.2) (old_or_new journal y r.0 y r.1)) c

-- other messages carry what they did
pub carried_other : (causal : Bool) (journal : List Line) (y : Line) (p q k : ℕ) (clock : ℕ → Known) → (Does p (Sends q k) ≡ y → ⊥)
    → IsClock journal (Carried causal journal p q k) clock → IsClock (journal ++ y ∷ []) (Carried causal (journal ++ y ∷ []) p q k) clock
carried_other causal journal y p q k clock out c = clock_more journal y (Carried causal journal p q k) (Carried causal (journal ++ y ∷ []) p q k) clock
    (λ i r. let l : r.0 < length journal = old r.0 r.1 in let h : i ≤ r.0 = up_to_less causal (journal ++ y ∷ []) i r.0 r.2 in omega arith)
    (λ i r. (r.0, at_more journal y r.0 (Does p (Sends q k)) r.1, up_to_more causal journal y i r.0 r.2))
    (λ i r. (r.0, at_less journal y r.0 (Does p (Sends q k)) (old r.0 r.1) r.1, up_to_within causal journal y i r.0 (old r.0 r.1) r.2)) c
  where
    old : (s : ℕ) → At (journal ++ y ∷ []) s (Does p (Sends q k)) → s < length journal
    old s at = ⊎_elim (λ (h : s < length journal). h) (λ (e : s ≡ length journal). absurd (out (at_new journal y s (Does p (Sends q k)) e at))) (old_or_new journal y s (Does p (Sends q k)) at)

-- what is decided by a new commit, of a causal journal
pub last_new : (causal : Bool) (journal : List Line) (y : Line) (clock : ℕ → Known) → causal ≡ true → is_commit y ≡ true
    → IsClock (journal ++ y ∷ []) (λ i. UpTo causal (journal ++ y ∷ []) i (length journal)) clock → IsClock (journal ++ y ∷ []) (Decided causal (journal ++ y ∷ [])) clock
last_new causal journal y clock e is c = clock_same (journal ++ y ∷ []) (λ i. UpTo causal (journal ++ y ∷ []) i (length journal)) (Decided causal (journal ++ y ∷ [])) clock
    (λ i h. (length journal, y, at_last journal y, is, h))
    (λ i r. ⊎_elim
    (λ (old : r.0 < length journal). inr (up_to_before causal (journal ++ y ∷ []) i r.0 (length journal) r.4
    (of_past causal journal y r.0 r.0 r.1 (at_less journal y r.0 r.1 old r.2) (Decision e r.3 is) (inl refl))))
    (λ (new : r.0 ≡ length journal). subst (λ (n : ℕ). UpTo causal (journal ++ y ∷ []) i n) new r.4) (old_or_new journal y r.0 r.1 r.2)) c

pub last_other : (causal : Bool) (journal : List Line) (y : Line) (clock : ℕ → Known) → is_commit y ≡ false
    → IsClock journal (Decided causal journal) clock → IsClock (journal ++ y ∷ []) (Decided causal (journal ++ y ∷ [])) clock
last_other causal journal y clock out c = clock_more journal y (Decided causal journal) (Decided causal (journal ++ y ∷ [])) clock
    (λ i r. let l : r.0 < length journal = old r.0 r.1 r.2 r.3 in let h : i ≤ r.0 = up_to_less causal (journal ++ y ∷ []) i r.0 r.4 in omega arith)
    (λ i r. (r.0, r.1, at_more journal y r.0 r.1 r.2, r.3, up_to_more causal journal y i r.0 r.4))
    (λ i r. (r.0, r.1, at_less journal y r.0 r.1 (old r.0 r.1 r.2 r.3) r.2, r.3, up_to_within causal journal y i r.0 (old r.0 r.1 r.2 r.3) r.4)) c
  where
    old : (k : ℕ) (x : Line) → At (journal ++ y ∷ []) k x → is_commit x ≡ true → k < length journal
    old k x at is = ⊎_elim (λ (h : k < length journal). h) (λ (e : k ≡ length journal). absurd (true≢false (sym (subst (λ (z : Line). is_commit z ≡ true) (at_new journal y k x e at) is) ∙ out))) (old_or_new journal y k x at)
