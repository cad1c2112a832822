-- What is found at a line, and what is known of what happens before it, over whatever journal the clocks stand.
use Rattle.std.proofs.Common.{◌≡◌, ◌∙◌, ◌<◌, ◌≤◌, ◌+◌, inl, inr, ⊎_elim, ℕ, Bool, true, false, List, [], ◌∷◌, ◌++◌, length, get_or, arith, refl, sym, subst, Some, None}
use Rattle.std.proofs.lemmas.Bool.{cases_Bool, cases_lt, true≢false}
use Rattle.std.proofs.lemmas.List.{get_or_past}
use Rattle.dc_audit.specs.declared.clock.Known.{Known}
use Rattle.dc_audit.specs.declared.failure.Failure.{Failure}
use Rattle.dc_audit.specs.declared.journal.Deed.{Deed}
use Rattle.dc_audit.specs.declared.journal.Deed.TheVariants.{Chance, Logged, Visible, Sends, Receives}
use Rattle.dc_audit.specs.declared.journal.Line.{Line}
use Rattle.dc_audit.specs.declared.journal.Line.TheVariants.{Does, Commits}
use Rattle.dc_audit.specs.Journals.{FailsFirst, is_firm, marked}
use Rattle.dc_audit.specs.Clocks.{Carried, Decided, Earlier, Gathered, GatheredBelow, Gathers, IsClock, IsDue, IsFirstOpen, IsOpen, JudgesNext, KnowsPast, Reached, Way, later, nothing, view, view_of, way}
use Rattle.dc_audit.proofs.Gathering.{clock_alike}
use Rattle.dc_audit.proofs.Knowing.{clock_same, knows_nothing}
use Rattle.dc_audit.proofs.Listed.{view_past}
use Rattle.dc_audit.proofs.Standing.{past_commit, past_plain, past_receive}
use Rattle.dc_audit.proofs.Verdicts.{first_more, work_clear, work_first, work_other}

pub judged_some : (m : ℕ) (line : Line) (clock : List Known) (f : Failure) → JudgesNext m line clock (Some f) (Some f)
judged_some m line clock f causal journal e long c before = first_more causal journal line f.event f.line before

pub judged_other : (m : ℕ) (line : Line) (clock : List Known) → is_firm line ≡ false → JudgesNext m line clock None None
judged_other m line clock out causal journal e long c before = work_other causal journal line out before

-- of processes past its end a clock knows nothing
far_shut : (clock : List Known) → length clock ≡ 16 → (p : ℕ) → 16 ≤ p → IsOpen (view clock p) → ⊥
far_shut clock long p h shown = let e : view clock p ≡ nothing = view_past clock p (omega arith) in let bad : IsOpen nothing = subst (λ (k : Known). IsOpen k) e shown in omega (arith, bad)

pub judged_clear : (m : ℕ) (line : Line) (clock : List Known) → IsFirstOpen 16 (view clock) None → JudgesNext m line clock None None
judged_clear m line clock none causal journal e long c before = work_clear causal journal line (view clock) (far_shut clock long) c none before

pub judged_first : (m : ℕ) (line : Line) (clock : List Known) (event : ℕ) → is_firm line ≡ true → IsFirstOpen 16 (view clock) (Some event) → JudgesNext m line clock None (Some (record { event = event; line = m }))
judged_first m line clock event firm first causal journal e long c before = subst (λ (n : ℕ). FailsFirst causal (journal ++ line ∷ []) event n) e
    (work_first causal journal line (view clock) event (far_shut clock long) firm c first before)

is_receipt : Deed → Bool
is_receipt (Receives s k logged) = true
is_receipt _ = false

plain_none : (deed : Deed) → is_receipt deed ≡ false → (s k : ℕ) (logged : Bool) → deed ≡ Receives s k logged → ⊥
unfolding is_receipt
plain_none (Receives s k logged) out r n l e = true≢false out
plain_none Chance out r n l e = cc e
plain_none Logged out r n l e = cc e
plain_none Visible out r n l e = cc e
plain_none (Sends q k) out r n l e = cc e

knows_plain : (causal : Bool) (clocks : List (List Known)) (links : List Way) (last : List Known) (p : ℕ) (deed : Deed) → is_receipt deed ≡ false → KnowsPast causal clocks links last (Does p deed) (get_or clocks p [])
knows_plain causal clocks links last p deed out journal s = past_plain causal journal p deed (view_of clocks p) (plain_none deed out) (s.processes p)

pub knows_chance : (causal : Bool) (clocks : List (List Known)) (links : List Way) (last : List Known) (p : ℕ) → KnowsPast causal clocks links last (Does p Chance) (get_or clocks p [])
unfolding is_receipt
knows_chance causal clocks links last p = knows_plain causal clocks links last p Chance refl

pub knows_logged : (causal : Bool) (clocks : List (List Known)) (links : List Way) (last : List Known) (p : ℕ) → KnowsPast causal clocks links last (Does p Logged) (get_or clocks p [])
unfolding is_receipt
knows_logged causal clocks links last p = knows_plain causal clocks links last p Logged refl

pub knows_visible : (causal : Bool) (clocks : List (List Known)) (links : List Way) (last : List Known) (p : ℕ) → KnowsPast causal clocks links last (Does p Visible) (get_or clocks p [])
unfolding is_receipt
knows_visible causal clocks links last p = knows_plain causal clocks links last p Visible refl

pub knows_send : (causal : Bool) (clocks : List (List Known)) (links : List Way) (last : List Known) (p q k : ℕ) → KnowsPast causal clocks links last (Does p (Sends q k)) (get_or clocks p [])
unfolding is_receipt
knows_send causal clocks links last p q k = knows_plain causal clocks links last p (Sends q k) refl

pub knows_receive : (causal : Bool) (clocks : List (List Known)) (links : List Way) (last : List Known) (p s k : ℕ) (logged : Bool) (past carried : List Known) → p < 16 → IsDue links (Does p (Receives s k logged))
    → carried ≡ get_or (way links s p).waiting 0 [] → ((r : ℕ) → view past r ≡ later (view_of clocks p r) (view carried r)) → KnowsPast causal clocks links last (Does p (Receives s k logged)) past
knows_receive causal clocks links last p s k logged past carried hp due is same journal st = let y : Line = Does p (Receives s k logged) in
    clock_alike journal (Earlier causal journal y) (λ r. later (view_of clocks p r) (view carried r)) (view past) same
    (past_receive causal journal p s k logged (view_of clocks p) (view carried) (st.processes p)
    (let e : (way links s p).taken + 0 ≡ k = omega (arith, due.1) in
    subst (λ (n : ℕ). IsClock journal (Carried causal journal s p n) (view carried)) e
    (subst (λ (held : List Known). IsClock journal (Carried causal journal s p ((way links s p).taken + 0)) (view held)) (sym is) (st.messages s p 0 due.0 hp due.2))))

pub knows_commit : (causal : Bool) (clocks : List (List Known)) (links : List Way) (last : List Known) (members : List Bool) (start past : List Known) → length members ≡ 16
    → (causal ≡ true → start ≡ last) → (causal ≡ false → (p : ℕ) → view start p ≡ nothing) → Gathers 16 clocks members start past → KnowsPast causal clocks links last (Commits members) past
knows_commit causal clocks links last members start past long known empty gathers journal st = past_commit causal journal members (view past)
    (clock_same journal (GatheredBelow 16 causal journal members) (Gathered causal journal members) (view past)
    (λ i h. ⊎_elim (λ (r : (q : ℕ) × (q < 16) × (marked members q ≡ true) × Reached causal journal q i). inl (r.0, r.2, r.3)) (λ (r : (causal ≡ true) × Decided causal journal i). inr r) h)
    (λ i h. ⊎_elim (λ (r : (q : ℕ) × (marked members q ≡ true) × Reached causal journal q i). inl (r.0, within r.0 r.1, r.1, r.2)) (λ (r : (causal ≡ true) × Decided causal journal i). inr r) h)
    (gathers causal journal begun st.processes))
  where
    within : (q : ℕ) → marked members q ≡ true → q < 16
    within q e = ⊎_elim (λ (h : q < 16). h) (λ (h : 16 ≤ q). absurd (true≢false (sym e ∙ get_or_past members q false (omega (arith, long, h))))) (cases_lt q 16)

    begun : IsClock journal (λ i. (causal ≡ true) × Decided causal journal i) (view start)
    begun = ⊎_elim
        (λ (on : causal ≡ true). subst (λ (held : List Known). IsClock journal (λ i. (causal ≡ true) × Decided causal journal i) (view held)) (sym (known on))
        (clock_same journal (Decided causal journal) (λ i. (causal ≡ true) × Decided causal journal i) (view last) (λ i d. (on, d)) (λ i d. d.1) (st.commits on)))
        (λ (off : causal ≡ false). clock_alike journal (λ i. (causal ≡ true) × Decided causal journal i) (λ p. nothing) (view start) (empty off)
        (knows_nothing journal (λ i. (causal ≡ true) × Decided causal journal i) (λ i d. true≢false (sym d.0 ∙ off))))
        (cases_Bool causal)
