-- Journals that have Save-work, since each process, or all, saved what could have come otherwise before others saw something.
use Rattle.std.proofs.Common.{◌≡◌, ◌∙◌, ◌<◌, ◌≤◌, ◌⊎◌, inl, inr, ⊎_elim, ℕ, zero, suc, Bool, true, false, List, [], ◌∷◌, ◌++◌, length, arith, refl, sym, subst, ap}
use Rattle.std.proofs.lemmas.Bool.{true≢false, eqb-true, eq-eqb}
use Rattle.dc_audit.specs.declared.journal.Deed.TheVariants.{Chance, Logged, Visible, Sends, Receives}
use Rattle.dc_audit.specs.declared.journal.Line.{Line}
use Rattle.dc_audit.specs.declared.journal.Line.TheVariants.{Does, Commits}
use Rattle.dc_audit.specs.Journals.{At, Before, HasSaveWork, Is, is_chance, is_commit, is_firm, is_of}
use Rattle.dc_audit.specs.Journals.Before.{Next, Through}
use Rattle.dc_audit.specs.Journals.Leads.{Decision, Message, Order}
use Rattle.dc_audit.specs.Clocks.{IsOf, UpTo}
use Rattle.dc_audit.specs.Guarded.{AllGuarded, AllSaved, AreGuarded, AreJoint, AreSingle, is_output, is_visible}
use Rattle.dc_audit.proofs.Orders.{at_last, at_less, at_new, at_one, at_within, before_less, is_less, is_more, is_new, old_or_new}

-- a line of one process alone
same_process : (journal : List Line) → AreSingle journal → (i : ℕ) (x : Line) → At journal i x → (p q : ℕ) → is_of p x ≡ true → is_of q x ≡ true → p ≡ q
same_process journal single i (Does r deed) at p q a b = let e : r ≡ p = eqb-true r p a in let f : r ≡ q = eqb-true r q b in sym e ∙ f
same_process journal single i (Commits members) at p q a b = single i (Commits members) at refl p q a b

-- what a line of p happens before is of p, or comes after something that p sent
pub leaves : (journal : List Line) → AreSingle journal → (p i x : ℕ) → Before false journal i x → IsOf journal p i
    → IsOf journal p x ⊎ ((s : ℕ) × (i ≤ s) × Is is_output journal p s × UpTo false journal s x)
leaves journal single p i x (Next a b h ai bx (Order r oa ob)) of =
    let e : r ≡ p = same_process journal single i a ai r p oa (subst (λ (z : Line). is_of p z ≡ true) (at_one journal i of.0 a of.1 ai) of.2) in
    inl (b, bx, subst (λ (n : ℕ). is_of n b ≡ true) e ob)
leaves journal single p i x (Next a b h ai bx (Message s q k l ea eb)) of = let same : of.0 ≡ a = at_one journal i of.0 a of.1 ai in
    inr (i, omega arith, (a, ai, subst (λ (z : Line). is_of p z ≡ true) same of.2, subst (λ (z : Line). is_output z ≡ true) (sym ea) refl), inr (Next a b h ai bx (Message s q k l ea eb)))
leaves journal single p i x (Next a b h ai bx (Decision e oa ob)) of = absurd (true≢false (sym e))
leaves journal single p i x (Through k one two) of = ⊎_elim
    (λ (mid : IsOf journal p k). ⊎_elim (λ (end : IsOf journal p x). inl end)
    (λ (s : (s : ℕ) × (k ≤ s) × Is is_output journal p s × UpTo false journal s x). let l : i < k = before_less false journal i k one in inr (s.0, omega (arith, l, s.1), s.2, s.3)) (leaves journal single p k x two mid))
    (λ (s : (s : ℕ) × (i ≤ s) × Is is_output journal p s × UpTo false journal s k). inr (
      s.0,
      s.1,
      s.2,
      ⊎_elim (λ (e : s.0 ≡ k). inr (subst (λ (n : ℕ). Before false journal n x) (sym e) two)) (λ (b : Before false journal s.0 k). inr (Through k b two)) s.3,
    ))
    (leaves journal single p i k one of)

-- lines of a process happen before its later ones
in_order : (causal : Bool) (journal : List Line) (p c x : ℕ) → c < x → IsOf journal p c → IsOf journal p x → Before causal journal c x
in_order causal journal p c x h a b = Next a.0 b.0 h a.1 b.1 (Order p a.2 b.2)

-- a chance is no output
unlike : (z : Line) → is_chance z ≡ true → is_output z ≡ true → ⊥
unlike (Does p Chance) a b = true≢false (sym b)
unlike (Does p Logged) a b = true≢false (sym a)
unlike (Does p Visible) a b = true≢false (sym a)
unlike (Does p (Sends q k)) a b = true≢false (sym a)
unlike (Does p (Receives s k l)) a b = true≢false (sym b)
unlike (Commits members) a b = true≢false (sym a)

-- something firm is visible or a commit
firm_is : (z : Line) → is_firm z ≡ true → (is_visible z ≡ true) ⊎ (is_commit z ≡ true)
firm_is (Does p Visible) f = inl refl
firm_is (Does p Chance) f = absurd (true≢false (sym f))
firm_is (Does p Logged) f = absurd (true≢false (sym f))
firm_is (Does p (Sends q k)) f = absurd (true≢false (sym f))
firm_is (Does p (Receives s k l)) f = absurd (true≢false (sym f))
firm_is (Commits members) f = inr refl

visible_out : (z : Line) → is_visible z ≡ true → is_output z ≡ true
visible_out (Does p Visible) f = refl
visible_out (Does p Chance) f = absurd (true≢false (sym f))
visible_out (Does p Logged) f = absurd (true≢false (sym f))
visible_out (Does p (Sends q k)) f = absurd (true≢false (sym f))
visible_out (Does p (Receives s k l)) f = absurd (true≢false (sym f))
visible_out (Commits members) f = absurd (true≢false (sym f))

-- where each process saves its clocks before others see something of it
pub guarded_work : (journal : List Line) → AreSingle journal → AreGuarded journal → HasSaveWork false journal
guarded_work journal single guarded p e x m = let chance : Is is_chance journal p e = m.chance in ⊎_elim
    (λ (end : IsOf journal p x). let of : is_of p m.line ≡ true = subst (λ (z : Line). is_of p z ≡ true) (at_one journal x end.0 m.line end.1 m.at) end.2 in ⊎_elim
    (λ (shown : is_visible m.line ≡ true). let found : (c : ℕ) × (e < c) × (c < x) × Is is_commit journal p c = guarded p e x chance (before_less false journal e x m.before) (m.line, m.at, of, visible_out m.line shown) in
    let c : Is is_commit journal p found.0 = found.3 in (found.0, (found.1, c, inr (in_order false journal p found.0 x found.2 (c.0, c.1, c.2) end))))
    (λ (commit : is_commit m.line ≡ true). (x, (before_less false journal e x m.before, (m.line, m.at, of, commit), inl refl))) (firm_is m.line m.firm))
    (λ (s : (s : ℕ) × (e ≤ s) × Is is_output journal p s × UpTo false journal s x). let out : Is is_output journal p s.0 = s.2 in
    let l : e < s.0 = ⊎_elim (λ (h : e < s.0). h) (λ (h : e ≡ s.0). absurd (let same : chance.0 ≡ out.0 = at_one journal s.0 chance.0 out.0 (subst (λ (n : ℕ). At journal n chance.0) h chance.1) out.1 in
    unlike out.0 (subst (λ (z : Line). is_chance z ≡ true) same chance.3) out.3)) (split e s.0 s.1) in
    let found : (c : ℕ) × (e < c) × (c < s.0) × Is is_commit journal p c = guarded p e s.0 chance l out in let c : Is is_commit journal p found.0 = found.3 in
    let before : Before false journal found.0 s.0 = in_order false journal p found.0 s.0 found.2 (c.0, c.1, c.2) (out.0, out.1, out.2) in
    (found.0, (found.1, c, ⊎_elim (λ (h : s.0 ≡ x). inr (subst (λ (n : ℕ). Before false journal found.0 n) h before)) (λ (b : Before false journal s.0 x). inr (Through s.0 before b)) s.3)))
    (leaves journal single p e x m.before (chance.0, chance.1, chance.2))
  where
    split : (a b : ℕ) → a ≤ b → (a < b) ⊎ (a ≡ b)
    split zero zero h = inr refl
    split zero (suc b) h = inl (omega arith)
    split (suc a) zero h = absurd (omega arith)
    split (suc a) (suc b) h = ⊎_elim (λ (l : a < b). inl (omega arith)) (λ (e : a ≡ b). inr (ap suc e)) (split a b (omega arith))

-- where all commit together, and save what is theirs before users see something
pub joint_work : (causal : Bool) (Among : ℕ → Type 0) (journal : List Line) → ((p i : ℕ) (x : Line) → At journal i x → is_commit x ≡ false → is_of p x ≡ true → Among p)
    → AreJoint Among journal → AllGuarded journal → HasSaveWork causal journal
joint_work causal Among journal among joint guarded p e x m = let chance : Is is_chance journal p e = m.chance in ⊎_elim
    (λ (shown : is_visible m.line ≡ true). let q : (q : ℕ) × (is_of q m.line ≡ true) = whose m.line shown in
    let found : (c : ℕ) × (e < c) × (c < x) × Is is_commit journal p c = guarded p q.0 e x chance (before_less causal journal e x m.before) (m.line, m.at, q.1, shown) in let c : Is is_commit journal p found.0 = found.3 in
    (found.0, (found.1, c, inr (in_order causal journal q.0 found.0 x found.2 (c.0, c.1, joint found.0 c.0 c.1 c.3 q.0 (among q.0 x m.line m.at (shown_no_commit m.line shown) q.1)) (m.line, m.at, q.1)))))
    (λ (commit : is_commit m.line ≡ true). (x, (before_less causal journal e x m.before, (m.line, m.at, joint x m.line m.at commit p (among p e chance.0 chance.1 (chance_no_commit chance.0 chance.3) chance.2), commit), inl refl)))
    (firm_is m.line m.firm)
  where
    whose : (z : Line) → is_visible z ≡ true → (q : ℕ) × (is_of q z ≡ true)
    whose (Does q deed) f = (q, eq-eqb q q refl)
    whose (Commits members) f = absurd (true≢false (sym f))

    shown_no_commit : (z : Line) → is_visible z ≡ true → is_commit z ≡ false
    shown_no_commit (Does q deed) f = refl
    shown_no_commit (Commits members) f = absurd (true≢false (sym f))

    chance_no_commit : (z : Line) → is_chance z ≡ true → is_commit z ≡ false
    chance_no_commit (Does q deed) f = refl
    chance_no_commit (Commits members) f = absurd (true≢false (sym f))

-- one line more
pub saved_other : (journal : List Line) (y : Line) (p : ℕ) → (is_of p y ≡ true → is_chance y ≡ false) → AllSaved journal p → AllSaved (journal ++ y ∷ []) p
saved_other journal y p no_chance saved e is = ⊎_elim
    (λ (old : e < length journal). let found : (c : ℕ) × (e < c) × Is is_commit journal p c = saved e (is_less is_chance journal y p e old is) in (found.0, found.1, is_more is_commit journal y p found.0 found.2))
    (λ (new : e ≡ length journal). let at : (is_of p y ≡ true) × (is_chance y ≡ true) = is_new is_chance journal y p e new is in absurd (true≢false (sym at.1 ∙ no_chance at.0))) (old_or_new journal y e is.0 is.1)

no_commit_chance : (z : Line) → is_commit z ≡ true → is_chance z ≡ false
no_commit_chance (Does p deed) f = absurd (true≢false (sym f))
no_commit_chance (Commits members) f = refl

pub saved_commit : (journal : List Line) (y : Line) (p : ℕ) → is_commit y ≡ true → is_of p y ≡ true → AllSaved (journal ++ y ∷ []) p
saved_commit journal y p commit of e is = ⊎_elim
    (λ (old : e < length journal). (length journal, old, (y, at_last journal y, of, commit)))
    (λ (new : e ≡ length journal). absurd (true≢false (sym (is_new is_chance journal y p e new is).1 ∙ no_commit_chance y commit))) (old_or_new journal y e is.0 is.1)

-- a line is guarded by what was saved before it
pub guarded_more : (journal : List Line) (y : Line) → ((p : ℕ) → is_of p y ≡ true → is_output y ≡ true → AllSaved journal p) → AreGuarded journal → AreGuarded (journal ++ y ∷ [])
guarded_more journal y saved guarded p e x chance h out = ⊎_elim
    (λ (old : x < length journal). let found : (c : ℕ) × (e < c) × (c < x) × Is is_commit journal p c = guarded p e x (is_less is_chance journal y p e (omega arith) chance) h (is_less is_output journal y p x old out) in
    (found.0, found.1, found.2, is_more is_commit journal y p found.0 found.3))
    (λ (new : x ≡ length journal). let at : (is_of p y ≡ true) × (is_output y ≡ true) = is_new is_output journal y p x new out in
    let found : (c : ℕ) × (e < c) × Is is_commit journal p c = saved p at.0 at.1 e (is_less is_chance journal y p e (omega arith) chance) in let commit : Is is_commit journal p found.0 = found.2 in
    (found.0, found.1, (let l : found.0 < length journal = at_within journal found.0 commit.0 commit.1 in omega arith), is_more is_commit journal y p found.0 commit))
    (old_or_new journal y x out.0 out.1)

pub all_guarded_more : (journal : List Line) (y : Line) → (is_visible y ≡ true → (p : ℕ) → AllSaved journal p) → AllGuarded journal → AllGuarded (journal ++ y ∷ [])
all_guarded_more journal y saved guarded p q e x chance h out = ⊎_elim
    (λ (old : x < length journal). let found : (c : ℕ) × (e < c) × (c < x) × Is is_commit journal p c = guarded p q e x (is_less is_chance journal y p e (omega arith) chance) h (is_less is_visible journal y q x old out) in
    (found.0, found.1, found.2, is_more is_commit journal y p found.0 found.3))
    (λ (new : x ≡ length journal). let at : (is_of q y ≡ true) × (is_visible y ≡ true) = is_new is_visible journal y q x new out in
    let found : (c : ℕ) × (e < c) × Is is_commit journal p c = saved at.1 p e (is_less is_chance journal y p e (omega arith) chance) in let commit : Is is_commit journal p found.0 = found.2 in
    (found.0, found.1, (let l : found.0 < length journal = at_within journal found.0 commit.0 commit.1 in omega arith), is_more is_commit journal y p found.0 commit))
    (old_or_new journal y x out.0 out.1)

pub single_more : (journal : List Line) (y : Line) → (is_commit y ≡ true → (p q : ℕ) → is_of p y ≡ true → is_of q y ≡ true → p ≡ q) → AreSingle journal → AreSingle (journal ++ y ∷ [])
single_more journal y one single i x at commit p q a b = ⊎_elim
    (λ (old : i < length journal). single i x (at_less journal y i x old at) commit p q a b)
    (λ (new : i ≡ length journal). let same : x ≡ y = at_new journal y i x new at in
    one (subst (λ (z : Line). is_commit z ≡ true) same commit) p q (subst (λ (z : Line). is_of p z ≡ true) same a) (subst (λ (z : Line). is_of q z ≡ true) same b)) (old_or_new journal y i x at)

pub joint_more : (Among : ℕ → Type 0) (journal : List Line) (y : Line) → (is_commit y ≡ true → (p : ℕ) → Among p → is_of p y ≡ true) → AreJoint Among journal → AreJoint Among (journal ++ y ∷ [])
joint_more Among journal y all joint i x at commit p among = ⊎_elim
    (λ (old : i < length journal). joint i x (at_less journal y i x old at) commit p among)
    (λ (new : i ≡ length journal). let same : x ≡ y = at_new journal y i x new at in
    subst (λ (z : Line). is_of p z ≡ true) (sym same) (all (subst (λ (z : Line). is_commit z ≡ true) same commit) p among)) (old_or_new journal y i x at)
