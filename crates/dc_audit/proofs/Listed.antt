-- Clocks as lists.
use Rattle.std.proofs.Common.{◌≡◌, ◌∙◌, ◌<◌, ◌≤◌, ◌+◌, ◌≢◌, ⊎_elim, ℕ, false, List, length, arith, refl, sym, subst, ap, get_or-set_other, get_or-set_same}
use Rattle.std.proofs.Math.ListN.{set}
use Rattle.std.proofs.lemmas.Bool.{ne_eqb, cases_eq, cases_lt}
use Rattle.std.proofs.lemmas.List.{get_or_past}
use Rattle.dc_audit.specs.declared.clock.Known.{Known}
use Rattle.dc_audit.specs.declared.journal.Line.{Line}
use Rattle.dc_audit.specs.declared.journal.Line.TheVariants.{Does, Commits}
use Rattle.dc_audit.specs.Journals.{IsOfSixteen, is_of}
use Rattle.dc_audit.specs.Clocks.{nothing, known_at, later, view}

-- past its end a clock knows nothing
pub view_past : (clock : List Known) (p : ℕ) → length clock ≤ p → view clock p ≡ nothing
view_past clock p h = get_or_past clock p nothing h

pub view_set : (clock : List Known) (n : ℕ) (known : Known) → n < length clock → view (set clock n known) n ≡ known
view_set clock n known h = rw get_or-set_same refl

pub view_aside : (clock : List Known) (n p : ℕ) (known : Known) → p ≢ n → view (set clock n known) p ≡ view clock p
view_aside clock n p known ne = rw get_or-set_other refl

-- one process more of a clock is joined with another's
pub join_next : (clock start other : List Known) (n : ℕ) (known : Known) → n < length clock → known ≡ later (view clock n) (view other n)
    → ((p : ℕ) → p < n → view clock p ≡ later (view start p) (view other p)) → ((p : ℕ) → n ≤ p → view clock p ≡ view start p)
    → ((p : ℕ) → p < n + 1 → view (set clock n known) p ≡ later (view start p) (view other p)) × ((p : ℕ) → n + 1 ≤ p → view (set clock n known) p ≡ view start p)
join_next clock start other n known h is changed same = (
  λ p l. ⊎_elim (λ (e : p ≡ n). subst (λ (k : ℕ). view (set clock n known) k ≡ later (view start k) (view other k)) (sym e)
      (view_set clock n known h ∙ is ∙ ap (λ (k : Known). later k (view other n)) (same n (omega arith))))
      (λ (ne : p ≡ n → ⊥). view_aside clock n p known ne ∙ changed p (omega (arith, l, ne))) (cases_eq p n),
  λ p l. view_aside clock n p known (λ e. omega (arith, e, l)) ∙ same p (omega (arith, l)),
)

-- and at the end all are, those past it too
pub join_whole : (clock start other : List Known) (n : ℕ) → length clock ≤ n → length start ≤ n → length other ≤ n
    → ((p : ℕ) → p < n → view clock p ≡ later (view start p) (view other p)) → (p : ℕ) → view clock p ≡ later (view start p) (view other p)
join_whole clock start other n a b d changed p = ⊎_elim (λ (h : p < n). changed p h)
    (λ (h : n ≤ p). rw (view_past clock p (omega arith), view_past start p (omega arith), view_past other p (omega arith)) refl) (cases_lt p n)

-- no line is of a process past the sixteen
pub not_past_sixteen : (line : Line) (p : ℕ) → 16 ≤ p → IsOfSixteen line → is_of p line ≡ false
not_past_sixteen (Does q deed) p h sixteen = ne_eqb q p (λ e. omega (arith, e, h, sixteen))
not_past_sixteen (Commits members) p h sixteen = get_or_past members p false (omega (arith, h, sixteen))

pub raise_past : (clock start : List Known) (m : ℕ) (line : Line) (p : ℕ) → 16 ≤ p → length clock ≤ 16 → length start ≤ 16 → IsOfSixteen line
    → view clock p ≡ known_at m line (view start) p
raise_past clock start m line p h a b sixteen = rw (view_past clock p (omega arith), not_past_sixteen line p h sixteen, view_past start p (omega arith)) refl
