-- Where Save-work fails, found from the clock of each line.
use Rattle.std.proofs.Common.{◌≡◌, ◌∙◌, ◌<◌, ◌≤◌, ◌⊎◌, inl, inr, ⊎_elim, ℕ, Bool, true, false, List, [], ◌∷◌, ◌++◌, length, arith, sym, subst, Some, None}
use Rattle.std.proofs.lemmas.Bool.{cases_lt, true≢false}
use Rattle.dc_audit.specs.declared.clock.Known.{Known}
use Rattle.dc_audit.specs.declared.journal.Deed.TheVariants.{Chance, Logged, Visible, Sends, Receives}
use Rattle.dc_audit.specs.declared.journal.Line.{Line}
use Rattle.dc_audit.specs.declared.journal.Line.TheVariants.{Does, Commits}
use Rattle.dc_audit.specs.Journals.{Before, Fails, FailsFirst, HasSaveWork, Is, Matters, Saves, is_chance, is_commit, is_firm}
use Rattle.dc_audit.specs.Clocks.{IsClock, IsFirstOpen, IsOpen, UpTo}
use Rattle.dc_audit.proofs.Orders.{at_last, at_less, at_more, at_new, at_within, before_less, before_more, before_within, is_less, is_more, is_new, old_or_new, up_to_less, up_to_more, up_to_within}

-- what stands before the new line is as it was
pub matters_more : (causal : Bool) (journal : List Line) (y : Line) (p e x : ℕ) → Matters causal journal p e x → Matters causal (journal ++ y ∷ []) p e x
matters_more causal journal y p e x m = record { chance = is_more is_chance journal y p e m.chance; line = m.line; at = at_more journal y x m.line m.at; firm = m.firm; before = before_more causal journal y e x m.before }

pub matters_less : (causal : Bool) (journal : List Line) (y : Line) (p e x : ℕ) → x < length journal → Matters causal (journal ++ y ∷ []) p e x → Matters causal journal p e x
matters_less causal journal y p e x h m = record {
  chance = is_less is_chance journal y p e (let l : e < x = before_less causal (journal ++ y ∷ []) e x m.before in omega arith) m.chance;
  line = m.line;
  at = at_less journal y x m.line h m.at;
  firm = m.firm;
  before = before_within causal journal y e x h m.before;
}

pub saves_more : (causal : Bool) (journal : List Line) (y : Line) (p e x c : ℕ) → Saves causal journal p e x c → Saves causal (journal ++ y ∷ []) p e x c
saves_more causal journal y p e x c s = (s.0, is_more is_commit journal y p c s.1, up_to_more causal journal y c x s.2)

pub saves_less : (causal : Bool) (journal : List Line) (y : Line) (p e x c : ℕ) → x < length journal → Saves causal (journal ++ y ∷ []) p e x c → Saves causal journal p e x c
saves_less causal journal y p e x c h s = let l : c ≤ x = up_to_less causal (journal ++ y ∷ []) c x s.2 in
    (s.0, is_less is_commit journal y p c (omega arith) s.1, up_to_within causal journal y c x h s.2)

pub fails_more : (causal : Bool) (journal : List Line) (y : Line) (e x : ℕ) → Fails causal journal e x → Fails causal (journal ++ y ∷ []) e x
fails_more causal journal y e x f = let m : Matters causal journal f.0 e x = f.1 in
    (f.0, matters_more causal journal y f.0 e x m, λ c s. f.2 c (saves_less causal journal y f.0 e x c (at_within journal x m.line m.at) s))

pub fails_less : (causal : Bool) (journal : List Line) (y : Line) (e x : ℕ) → x < length journal → Fails causal (journal ++ y ∷ []) e x → Fails causal journal e x
fails_less causal journal y e x h f = (f.0, matters_less causal journal y f.0 e x h f.1, λ c s. f.2 c (saves_more causal journal y f.0 e x c s))

-- what fails first goes on failing first
pub first_more : (causal : Bool) (journal : List Line) (y : Line) (e x : ℕ) → FailsFirst causal journal e x → FailsFirst causal (journal ++ y ∷ []) e x
first_more causal journal y e x f = let there : Fails causal journal e x = f.0 in let m : Matters causal journal there.0 e x = there.1 in let h : x < length journal = at_within journal x m.line m.at in (
  fails_more causal journal y e x there,
  λ d z l bad. f.1 d z l (fails_less causal journal y d z (omega arith) bad),
  λ d l bad. f.2 d l (fails_less causal journal y d x h bad),
)

-- a chance is nothing firm
not_firm : (z : Line) → is_chance z ≡ true → is_firm z ≡ true → ⊥
not_firm (Does p Chance) a b = true≢false (sym b)
not_firm (Does p Logged) a b = true≢false (sym a)
not_firm (Does p Visible) a b = true≢false (sym a)
not_firm (Does p (Sends q k)) a b = true≢false (sym a)
not_firm (Does p (Receives s k l)) a b = true≢false (sym b)
not_firm (Commits members) a b = true≢false (sym a)

-- what the clock of a firm line knows as unsaved fails there
pub open_fails : (causal : Bool) (journal : List Line) (y : Line) (clock : ℕ → Known) → is_firm y ≡ true
    → IsClock (journal ++ y ∷ []) (λ i. UpTo causal (journal ++ y ∷ []) i (length journal)) clock → (p : ℕ) → IsOpen (clock p) → Fails causal (journal ++ y ∷ []) (clock p).clear (length journal)
open_fails causal journal y clock firm c p h = let chance : Is is_chance (journal ++ y ∷ []) p (clock p).clear = (c.sound p).chance h in (
  p,
  record {
    chance = chance;
    line = y;
    at = at_last journal y;
    firm = firm;
    before = ⊎_elim (λ (e : (clock p).clear ≡ length journal). absurd (not_firm y (is_new is_chance journal y p (clock p).clear e chance).1 firm))
        (λ (b : Before causal (journal ++ y ∷ []) (clock p).clear (length journal)). b) (c.knows p (clock p).clear (chance.0, chance.1, chance.2) h);
  },
  λ k s. let commit : Is is_commit (journal ++ y ∷ []) p k = s.1 in (c.sound p).unsaved h k commit s.0 (c.only p k (commit.0, commit.1, commit.2) s.2),
)

-- what fails at a firm line its clock knows as unsaved, or something before it
pub saved_or_open : (causal : Bool) (journal : List Line) (y : Line) (clock : ℕ → Known)
    → IsClock (journal ++ y ∷ []) (λ i. UpTo causal (journal ++ y ∷ []) i (length journal)) clock → (p e : ℕ) → Matters causal (journal ++ y ∷ []) p e (length journal)
    → ((k : ℕ) × Saves causal (journal ++ y ∷ []) p e (length journal) k) ⊎ (IsOpen (clock p) × ((clock p).clear ≤ e))
saved_or_open causal journal y clock c p e m = let chance : Is is_chance (journal ++ y ∷ []) p e = m.chance in let h : e < (clock p).end = c.only p e (chance.0, chance.1, chance.2) (inr m.before) in
    ⊎_elim (λ (l : e < (clock p).clear). let found : (k : ℕ) × (e < k) × (k < (clock p).end) × Is is_commit (journal ++ y ∷ []) p k = (c.sound p).saved e chance l in
    let commit : Is is_commit (journal ++ y ∷ []) p found.0 = found.3 in
    inl (found.0, (found.1, commit, c.knows p found.0 (commit.0, commit.1, commit.2) found.2)))
    (λ (l : (clock p).clear ≤ e). inr (omega arith, l)) (cases_lt e (clock p).clear)

-- what matters is old, or stands at the new line
matters_where : (causal : Bool) (journal : List Line) (y : Line) (p e x : ℕ) → Matters causal (journal ++ y ∷ []) p e x → (x < length journal) ⊎ ((x ≡ length journal) × (is_firm y ≡ true))
matters_where causal journal y p e x m = ⊎_elim (λ (h : x < length journal). inl h)
    (λ (h : x ≡ length journal). inr (h, subst (λ (z : Line). is_firm z ≡ true) (at_new journal y x m.line h m.at) m.firm)) (old_or_new journal y x m.line m.at)

-- a line that is not firm changes nothing
pub work_other : (causal : Bool) (journal : List Line) (y : Line) → is_firm y ≡ false → HasSaveWork causal journal → HasSaveWork causal (journal ++ y ∷ [])
work_other causal journal y no_firm work p e x m = ⊎_elim
    (λ (h : x < length journal). let s : (c : ℕ) × Saves causal journal p e x c = work p e x (matters_less causal journal y p e x h m) in (s.0, saves_more causal journal y p e x s.0 s.1))
    (λ (h : (x ≡ length journal) × (is_firm y ≡ true)). absurd (true≢false (sym h.1 ∙ no_firm))) (matters_where causal journal y p e x m)

-- nor one whose clock knows nothing unsaved
pub work_clear : (causal : Bool) (journal : List Line) (y : Line) (clock : ℕ → Known) → ((p : ℕ) → 16 ≤ p → IsOpen (clock p) → ⊥)
    → IsClock (journal ++ y ∷ []) (λ i. UpTo causal (journal ++ y ∷ []) i (length journal)) clock → IsFirstOpen 16 clock None → HasSaveWork causal journal → HasSaveWork causal (journal ++ y ∷ [])
work_clear causal journal y clock far c none work p e x m = ⊎_elim
    (λ (h : x < length journal). let s : (c : ℕ) × Saves causal journal p e x c = work p e x (matters_less causal journal y p e x h m) in (s.0, saves_more causal journal y p e x s.0 s.1))
    (λ (h : (x ≡ length journal) × (is_firm y ≡ true)). let here : Matters causal (journal ++ y ∷ []) p e (length journal) = subst (λ (n : ℕ). Matters causal (journal ++ y ∷ []) p e n) h.0 m in
    let P : ℕ → Type 0 = λ n. (k : ℕ) × Saves causal (journal ++ y ∷ []) p e n k in
    subst P (sym h.0) (⊎_elim (λ (s : P (length journal)). s) (λ (o : IsOpen (clock p) × ((clock p).clear ≤ e)). absurd (⊎_elim (λ (k : p < 16). none p k o.0) (λ (k : 16 ≤ p). far p k o.0) (cases_lt p 16))) (saved_or_open causal journal y clock c p e here)))
    (matters_where causal journal y p e x m)

-- nothing fails where all is saved
pub work_fails : (causal : Bool) (journal : List Line) → HasSaveWork causal journal → (e x : ℕ) → Fails causal journal e x → ⊥
work_fails causal journal work e x f = let s : (c : ℕ) × Saves causal journal f.0 e x c = work f.0 e x f.1 in f.2 s.0 s.1

-- the first event that a firm line's clock knows as unsaved is the first that fails, where nothing failed before
pub work_first : (causal : Bool) (journal : List Line) (y : Line) (clock : ℕ → Known) (e : ℕ) → ((p : ℕ) → 16 ≤ p → IsOpen (clock p) → ⊥) → is_firm y ≡ true
    → IsClock (journal ++ y ∷ []) (λ i. UpTo causal (journal ++ y ∷ []) i (length journal)) clock → IsFirstOpen 16 clock (Some e) → HasSaveWork causal journal → FailsFirst causal (journal ++ y ∷ []) e (length journal)
work_first causal journal y clock e far firm c first work = let there : (p : ℕ) × IsOpen (clock p) × ((clock p).clear ≡ e) = first.0 in (
  subst (λ (n : ℕ). Fails causal (journal ++ y ∷ []) n (length journal)) there.2 (open_fails causal journal y clock firm c there.0 there.1),
  λ d z l bad. work_fails causal journal work d z (fails_less causal journal y d z l bad),
  λ d l bad. ⊎_elim (λ (s : (k : ℕ) × Saves causal (journal ++ y ∷ []) bad.0 d (length journal) k). bad.2 s.0 s.1)
      (λ (o : IsOpen (clock bad.0) × ((clock bad.0).clear ≤ d)). let low : e ≤ (clock bad.0).clear = ⊎_elim (λ (k : bad.0 < 16). first.1 bad.0 k o.0) (λ (k : 16 ≤ bad.0). absurd (far bad.0 k o.0)) (cases_lt bad.0 16) in absurd (omega (arith, low, o.1, l)))
      (saved_or_open causal journal y clock c bad.0 d bad.1),
)
