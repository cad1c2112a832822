-- What happens before what, in a journal with one line more.
use Rattle.std.proofs.Common.{◌≡◌, ◌∙◌, ◌<◌, ◌≤◌, ◌⊎◌, inl, inr, ⊎_elim, ℕ, zero, suc, Bool, true, List, [], ◌∷◌, ◌++◌, Some, None, length, arith, refl, sym, subst, ap}
use Rattle.std.proofs.lemmas.Bool.{cases_lt}
use Rattle.std.proofs.lemmas.Option.{slice_get_within}
use Rattle.dc_audit.specs.declared.journal.Line.{Line}
use Rattle.dc_audit.specs.Journals.{At, Before, Is, Leads, is_of}
use Rattle.dc_audit.specs.Journals.Before.{Next, Through}
use Rattle.dc_audit.specs.Clocks.{IsOf, UpTo}

-- a line stays where it is
pub at_more : (journal : List Line) (y : Line) (i : ℕ) (x : Line) → At journal i x → At (journal ++ y ∷ []) i x
at_more [] y i x at = let bad : None ≡ Some x = at in absurd (cc bad)
at_more (z ∷ journal) y zero x at = at
at_more (z ∷ journal) y (suc i) x at = at_more journal y i x at

-- and what stands before the new line stood there
pub at_less : (journal : List Line) (y : Line) (i : ℕ) (x : Line) → i < length journal → At (journal ++ y ∷ []) i x → At journal i x
at_less [] y i x h at = absurd (omega arith)
at_less (z ∷ journal) y zero x h at = at
at_less (z ∷ journal) y (suc i) x h at = at_less journal y i x (omega arith) at

-- the new line
pub at_last : (journal : List Line) (y : Line) → At (journal ++ y ∷ []) (length journal) y
at_last [] y = refl
at_last (z ∷ journal) y = at_last journal y

pub longer : (journal : List Line) (y : Line) → length (journal ++ y ∷ []) ≡ suc (length journal)
longer [] y = refl
longer (z ∷ journal) y = ap suc (longer journal y)

pub at_within : (journal : List Line) (i : ℕ) (x : Line) → At journal i x → i < length journal
at_within journal i x at = slice_get_within journal i x at

-- there is one line under each number
pub at_one : (journal : List Line) (i : ℕ) (x y : Line) → At journal i x → At journal i y → x ≡ y
at_one journal i x y a b = let both : Some x ≡ Some y = sym a ∙ b in cc both

-- what stands under the new line's number is the new line
pub at_new : (journal : List Line) (y : Line) (i : ℕ) (x : Line) → i ≡ length journal → At (journal ++ y ∷ []) i x → x ≡ y
at_new journal y i x e at = at_one (journal ++ y ∷ []) (length journal) x y (subst (λ (n : ℕ). At (journal ++ y ∷ []) n x) e at) (at_last journal y)

-- each line of the longer journal is an old one or the new one
pub old_or_new : (journal : List Line) (y : Line) (i : ℕ) (x : Line) → At (journal ++ y ∷ []) i x → (i < length journal) ⊎ (i ≡ length journal)
old_or_new journal y i x at = let h : i < length (journal ++ y ∷ []) = at_within (journal ++ y ∷ []) i x at in
    ⊎_elim (λ (k : i < length journal). inl k) (λ (k : length journal ≤ i). let e : i ≡ length journal = omega (arith, longer journal y) in inr e) (cases_lt i (length journal))

pub before_less : (causal : Bool) (journal : List Line) (i j : ℕ) → Before causal journal i j → i < j
before_less causal journal i j (Next x y h a b leads) = h
before_less causal journal i j (Through k one two) = let h : i < k = before_less causal journal i k one in let l : k < j = before_less causal journal k j two in omega arith

pub before_more : (causal : Bool) (journal : List Line) (z : Line) (i j : ℕ) → Before causal journal i j → Before causal (journal ++ z ∷ []) i j
before_more causal journal z i j (Next x y h a b leads) = Next x y h (at_more journal z i x a) (at_more journal z j y b) leads
before_more causal journal z i j (Through k one two) = Through k (before_more causal journal z i k one) (before_more causal journal z k j two)

pub before_within : (causal : Bool) (journal : List Line) (z : Line) (i j : ℕ) → j < length journal → Before causal (journal ++ z ∷ []) i j → Before causal journal i j
before_within causal journal z i j l (Next x y h a b leads) = Next x y h (at_less journal z i x (omega arith) a) (at_less journal z j y l b) leads
before_within causal journal z i j l (Through k one two) = let h : k < j = before_less causal (journal ++ z ∷ []) k j two in
    Through k (before_within causal journal z i k (omega arith) one) (before_within causal journal z k j l two)

-- what happens before a line of the journal is a line of it
pub before_at : (causal : Bool) (journal : List Line) (i j : ℕ) → Before causal journal i j → j < length journal
before_at causal journal i j (Next x y h a b leads) = at_within journal j y b
before_at causal journal i j (Through k one two) = before_at causal journal k j two

pub up_to_less : (causal : Bool) (journal : List Line) (i k : ℕ) → UpTo causal journal i k → i ≤ k
up_to_less causal journal i k up = ⊎_elim (λ (e : i ≡ k). omega arith) (λ (b : Before causal journal i k). let h : i < k = before_less causal journal i k b in omega arith) up

pub up_to_more : (causal : Bool) (journal : List Line) (z : Line) (i k : ℕ) → UpTo causal journal i k → UpTo causal (journal ++ z ∷ []) i k
up_to_more causal journal z i k up = ⊎_elim (λ (e : i ≡ k). inl e) (λ (b : Before causal journal i k). inr (before_more causal journal z i k b)) up

pub up_to_within : (causal : Bool) (journal : List Line) (z : Line) (i k : ℕ) → k < length journal → UpTo causal (journal ++ z ∷ []) i k → UpTo causal journal i k
up_to_within causal journal z i k l up = ⊎_elim (λ (e : i ≡ k). inl e) (λ (b : Before causal (journal ++ z ∷ []) i k). inr (before_within causal journal z i k l b)) up

-- along to a line that this one leads to
pub up_to_before : (causal : Bool) (journal : List Line) (i k j : ℕ) → UpTo causal journal i k → Before causal journal k j → Before causal journal i j
up_to_before causal journal i k j up b = ⊎_elim (λ (e : i ≡ k). subst (λ (n : ℕ). Before causal journal n j) (sym e) b) (λ (a : Before causal journal i k). Through k a b) up

-- the last step to a line
pub record Step (causal : Bool) (journal : List Line) (i j : ℕ) : Type 0 where
  pub k : ℕ
  pub x : Line
  pub y : Line
  pub less : k < j
  pub from : At journal k x
  pub to : At journal j y
  pub leads : Leads causal x y
  pub up_to : UpTo causal journal i k

pub last_step : (causal : Bool) (journal : List Line) (i j : ℕ) → Before causal journal i j → Step causal journal i j
last_step causal journal i j (Next x y h a b leads) = record { k = i; x = x; y = y; less = h; from = a; to = b; leads = leads; up_to = inl refl }
last_step causal journal i j (Through k one two) = let s : Step causal journal k j = last_step causal journal k j two in
    record {
      k = s.k;
      x = s.x;
      y = s.y;
      less = s.less;
      from = s.from;
      to = s.to;
      leads = s.leads;
      up_to = ⊎_elim (λ (e : k ≡ s.k). inr (subst (λ (n : ℕ). Before causal journal i n) e one)) (λ (b : Before causal journal k s.k). inr (Through k one b)) s.up_to;
    }

-- what leads to a new line y
pub record Past (causal : Bool) (journal : List Line) (y : Line) (i : ℕ) : Type 0 where
  pub k : ℕ
  pub x : Line
  pub at : At journal k x
  pub leads : Leads causal x y
  pub up_to : UpTo causal journal i k

-- what happens before the new line is what leads to it
pub past_of : (causal : Bool) (journal : List Line) (y : Line) (i : ℕ) → Before causal (journal ++ y ∷ []) i (length journal) → Past causal journal y i
past_of causal journal y i b = let s : Step causal (journal ++ y ∷ []) i (length journal) = last_step causal (journal ++ y ∷ []) i (length journal) b in
    record {
      k = s.k;
      x = s.x;
      at = at_less journal y s.k s.x s.less s.from;
      leads = subst (λ (z : Line). Leads causal s.x z) (at_one (journal ++ y ∷ []) (length journal) s.y y s.to (at_last journal y)) s.leads;
      up_to = up_to_within causal journal y i s.k s.less s.up_to;
    }

pub of_past : (causal : Bool) (journal : List Line) (y : Line) (i k : ℕ) (x : Line) → At journal k x → Leads causal x y → UpTo causal journal i k → Before causal (journal ++ y ∷ []) i (length journal)
of_past causal journal y i k x at leads up = up_to_before causal (journal ++ y ∷ []) i k (length journal) (up_to_more causal journal y i k up)
    (Next x y (at_within journal k x at) (at_more journal y k x at) (at_last journal y) leads)

-- lines of a process that pass a test
pub is_more : (test : Line → Bool) (journal : List Line) (y : Line) (p i : ℕ) → Is test journal p i → Is test (journal ++ y ∷ []) p i
is_more test journal y p i is = (is.0, at_more journal y i is.0 is.1, is.2, is.3)

pub is_less : (test : Line → Bool) (journal : List Line) (y : Line) (p i : ℕ) → i < length journal → Is test (journal ++ y ∷ []) p i → Is test journal p i
is_less test journal y p i h is = (is.0, at_less journal y i is.0 h is.1, is.2, is.3)

pub is_new : (test : Line → Bool) (journal : List Line) (y : Line) (p i : ℕ) → i ≡ length journal → Is test (journal ++ y ∷ []) p i → (is_of p y ≡ true) × (test y ≡ true)
is_new test journal y p i e is = let same : is.0 ≡ y = at_new journal y i is.0 e is.1 in
    (subst (λ (z : Line). is_of p z ≡ true) same is.2, subst (λ (z : Line). test z ≡ true) same is.3)

pub of_more : (journal : List Line) (y : Line) (p i : ℕ) → IsOf journal p i → IsOf (journal ++ y ∷ []) p i
of_more journal y p i is = (is.0, at_more journal y i is.0 is.1, is.2)

pub of_less : (journal : List Line) (y : Line) (p i : ℕ) → i < length journal → IsOf (journal ++ y ∷ []) p i → IsOf journal p i
of_less journal y p i h is = (is.0, at_less journal y i is.0 h is.1, is.2)

pub of_new : (journal : List Line) (y : Line) (p i : ℕ) → i ≡ length journal → IsOf (journal ++ y ∷ []) p i → is_of p y ≡ true
of_new journal y p i e is = subst (λ (z : Line). is_of p z ≡ true) (at_new journal y i is.0 e is.1) is.2
