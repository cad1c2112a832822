-- What the clocks of a journal are after one line more.
use Rattle.std.proofs.Common.{◌≡◌, ◌≢◌, ◌∙◌, ◌<◌, ◌≤◌, ◌+◌, ◌*◌, ⊎_elim, ℕ, suc, Bool, true, false, List, [], ◌∷◌, ◌++◌, length, drop, get_or, arith, refl, sym, subst, ap, get_or-set_other, get_or-set_same, length-append, if◌then◌else◌}
use Rattle.std.proofs.Math.ListN.{set, get_or-append}
use Rattle.std.proofs.Math.Seq.{get_or-append_seam}
use Rattle.std.proofs.lemmas.Bool.{cases_Bool, cases_eq, cases_lt}
use Rattle.dc_audit.specs.declared.clock.Known.{Known}
use Rattle.dc_audit.specs.declared.journal.Deed.TheVariants.{Chance, Logged, Visible, Sends, Receives}
use Rattle.dc_audit.specs.declared.journal.Line.{Line}
use Rattle.dc_audit.specs.declared.journal.Line.TheVariants.{Does, Commits}
use Rattle.dc_audit.specs.Journals.{IsOfSixteen, is_commit, is_of}
use Rattle.dc_audit.specs.Clocks.{Advances, KnowsPast, known_at, Carried, IsClock, IsDue, IsNoted, Reached, Stands, UpToNext, Way, ledger, links_sent, links_taken, sent_on, view, view_of, way, with_sent, with_taken}
use Rattle.dc_audit.proofs.Gathering.{clock_alike}
use Rattle.dc_audit.proofs.Raising.{clock_at}
use Rattle.dc_audit.proofs.Standing.{carried_new, carried_other, last_new, last_other, reached_new, reached_other}

-- the messages between two processes, where those between these two changed
pub way_here : (links : List Way) (p q : ℕ) (w : Way) → length links ≡ 256 → p < 16 → q < 16 → way (set links (16 * p + q) w) p q ≡ w
way_here links p q w e hp hq = let h : 16 * p + q < length links = omega arith in rw get_or-set_same refl

pub way_there : (links : List Way) (p q r s : ℕ) (w : Way) → q < 16 → s < 16 → ((p ≡ r) × (q ≡ s) → ⊥) → way (set links (16 * p + q) w) r s ≡ way links r s
way_there links p q r s w hq hs ne = let far : 16 * r + s ≢ 16 * p + q = (λ e. ne (omega (arith, e), omega (arith, e))) in rw get_or-set_other refl

-- what is kept of the messages between two processes
abbrev Kept : Bool → List Line → ℕ → ℕ → Way → Type 0
Kept causal journal p q w = (j : ℕ) → j < length w.waiting → IsClock journal (Carried causal journal p q (w.taken + j)) (view_of w.waiting j)

-- a line that sends nothing from p to q leaves it
kept_other : (causal : Bool) (journal : List Line) (y : Line) (p q : ℕ) (w : Way) → ((k : ℕ) → Does p (Sends q k) ≡ y → ⊥) → Kept causal journal p q w → Kept causal (journal ++ y ∷ []) p q w
kept_other causal journal y p q w out kept j h = carried_other causal journal y p q (w.taken + j) (view_of w.waiting j) (out (w.taken + j)) (kept j h)

-- one that was taken is no more
kept_taken : (causal : Bool) (journal : List Line) (p q : ℕ) (w : Way) → 0 < length w.waiting → Kept causal journal p q w → Kept causal journal p q (with_taken w)
kept_taken causal journal p q w some kept = taken_from w.waiting some kept
  where
    taken_from : (waiting : List (List Known)) → 0 < length waiting → Kept causal journal p q (record { taken = w.taken; waiting = waiting }) → Kept causal journal p q (record { taken = w.taken + 1; waiting = drop 1 waiting })
    taken_from [] h k = absurd (omega arith)
    taken_from (clock ∷ waiting) h k = λ j l. let e : w.taken + suc j ≡ w.taken + 1 + j = omega arith in
        subst (λ (n : ℕ). IsClock journal (Carried causal journal p q n) (view_of waiting j)) e (k (suc j) (omega arith))

-- one that is sent has its clock
kept_sent : (causal : Bool) (journal : List Line) (p q k : ℕ) (clock : List Known) (w : Way) → k ≡ sent_on w
    → IsClock (journal ++ Does p (Sends q k) ∷ []) (UpToNext causal journal (Does p (Sends q k))) (view clock) → Kept causal journal p q w → Kept causal (journal ++ Does p (Sends q k) ∷ []) p q (with_sent clock w)
kept_sent causal journal p q k clock w e c kept j h = let y : Line = Does p (Sends q k) in let P : ℕ → List Known → Type 0 = λ n held. IsClock (journal ++ y ∷ []) (Carried causal (journal ++ y ∷ []) p q n) (view held) in
    ⊎_elim (λ (old : j < length w.waiting). subst (λ (held : List Known). P (w.taken + j) held) (sym (get_or-append w.waiting (clock ∷ []) [] j old))
    (carried_other causal journal y p q (w.taken + j) (view_of w.waiting j) (λ same. let n : w.taken + j ≡ k = cc same in omega (arith, n, e, old)) (kept j old)))
    (λ (new : length w.waiting ≤ j). let there : j ≡ length w.waiting = omega (arith, h, new, length-append w.waiting (clock ∷ [])) in
    subst (λ (i : ℕ). P (w.taken + i) (get_or (w.waiting ++ clock ∷ []) i [])) (sym there)
    (subst (λ (held : List Known). P (w.taken + length w.waiting) held) (sym (get_or-append_seam w.waiting clock [] []))
    (subst (λ (n : ℕ). P n clock) e (carried_new causal journal p q k (view clock) c)))) (cases_lt j (length w.waiting))

-- all that is kept
Keeps : Bool → List Line → List Way → Type 0
Keeps causal journal links = (p q : ℕ) → p < 16 → q < 16 → Kept causal journal p q (way links p q)

keeps_next : (causal : Bool) (journal : List Line) (line : Line) (clock : List Known) (links : List Way) → length links ≡ 256 → IsOfSixteen line → IsDue links line
    → IsClock (journal ++ line ∷ []) (UpToNext causal journal line) (view clock) → Keeps causal journal links → Keeps causal (journal ++ line ∷ []) (links_sent line clock (links_taken line links))
unfolding Keeps
keeps_next causal journal (Does r (Sends s k)) clock links long sixteen due c kept p q hp hq = ⊎_elim
    (λ (ep : r ≡ p). ⊎_elim
    (λ (eq : s ≡ q). subst (λ (w : Way). Kept causal (journal ++ Does r (Sends s k) ∷ []) p q w)
    (sym (subst (λ (x : ℕ). way (set links (16 * r + s) (with_sent clock (way links r s))) x q ≡ with_sent clock (way links r s)) ep
    (subst (λ (x : ℕ). way (set links (16 * r + s) (with_sent clock (way links r s))) r x ≡ with_sent clock (way links r s)) eq (way_here links r s (with_sent clock (way links r s)) long sixteen due.0))))
    (subst (λ (x : ℕ). Kept causal (journal ++ Does r (Sends s k) ∷ []) x q (with_sent clock (way links r s))) ep
    (subst (λ (x : ℕ). Kept causal (journal ++ Does r (Sends s k) ∷ []) r x (with_sent clock (way links r s))) eq
    (kept_sent causal journal r s k clock (way links r s) due.1 c (kept r s sixteen due.0)))))
    (λ (ne : s ≡ q → ⊥). apart (λ e. ne e.1)) (cases_eq s q))
    (λ (ne : r ≡ p → ⊥). apart (λ e. ne e.0)) (cases_eq r p)
  where
    apart : ((r ≡ p) × (s ≡ q) → ⊥) → Kept causal (journal ++ Does r (Sends s k) ∷ []) p q (way (set links (16 * r + s) (with_sent clock (way links r s))) p q)
    apart ne = subst (λ (w : Way). Kept causal (journal ++ Does r (Sends s k) ∷ []) p q w) (sym (way_there links r s p q (with_sent clock (way links r s)) due.0 hq ne))
        (kept_other causal journal (Does r (Sends s k)) p q (way links p q) (λ n same. let a : p ≡ r = cc same in let b : q ≡ s = cc same in ne (sym a, sym b)) (kept p q hp hq))
keeps_next causal journal (Does r (Receives s k logged)) clock links long sixteen due c kept p q hp hq =
    kept_other causal journal (Does r (Receives s k logged)) p q (way (set links (16 * s + r) (with_taken (way links s r))) p q) (λ n same. let bad : Sends q n ≡ Receives s k logged = cc same in absurd (cc bad)) (⊎_elim
    (λ (ep : s ≡ p). ⊎_elim
    (λ (eq : r ≡ q). subst (λ (w : Way). Kept causal journal p q w)
    (sym (subst (λ (x : ℕ). way (set links (16 * s + r) (with_taken (way links s r))) x q ≡ with_taken (way links s r)) ep
    (subst (λ (x : ℕ). way (set links (16 * s + r) (with_taken (way links s r))) s x ≡ with_taken (way links s r)) eq (way_here links s r (with_taken (way links s r)) long due.0 sixteen))))
    (subst (λ (x : ℕ). Kept causal journal x q (with_taken (way links s r))) ep
    (subst (λ (x : ℕ). Kept causal journal s x (with_taken (way links s r))) eq
    (kept_taken causal journal s r (way links s r) due.2 (kept s r due.0 sixteen)))))
    (λ (ne : r ≡ q → ⊥). apart (λ e. ne e.1)) (cases_eq r q))
    (λ (ne : s ≡ p → ⊥). apart (λ e. ne e.0)) (cases_eq s p))
  where
    apart : ((s ≡ p) × (r ≡ q) → ⊥) → Kept causal journal p q (way (set links (16 * s + r) (with_taken (way links s r))) p q)
    apart ne = subst (λ (w : Way). Kept causal journal p q w) (sym (way_there links s r p q (with_taken (way links s r)) sixteen hq ne)) (kept p q hp hq)
keeps_next causal journal (Does r Chance) clock links long sixteen due c kept p q hp hq = kept_other causal journal (Does r Chance) p q (way links p q) (λ n same. let bad : Sends q n ≡ Chance = cc same in absurd (cc bad)) (kept p q hp hq)
keeps_next causal journal (Does r Logged) clock links long sixteen due c kept p q hp hq = kept_other causal journal (Does r Logged) p q (way links p q) (λ n same. let bad : Sends q n ≡ Logged = cc same in absurd (cc bad)) (kept p q hp hq)
keeps_next causal journal (Does r Visible) clock links long sixteen due c kept p q hp hq = kept_other causal journal (Does r Visible) p q (way links p q) (λ n same. let bad : Sends q n ≡ Visible = cc same in absurd (cc bad)) (kept p q hp hq)
keeps_next causal journal (Commits members) clock links long sixteen due c kept p q hp hq = kept_other causal journal (Commits members) p q (way links p q) (λ n same. let bad : Does p (Sends q n) ≡ Commits members = same in absurd (cc bad)) (kept p q hp hq)

-- the clocks after a line
pub stands_next : (causal : Bool) (journal : List Line) (line : Line) (clock : List Known) (clocks new : List (List Known)) (links : List Way) (last : List Known) → length links ≡ 256 → IsOfSixteen line → IsDue links line
    → IsClock (journal ++ line ∷ []) (UpToNext causal journal line) (view clock) → IsNoted line clock clocks new → Stands causal journal clocks links last
    → Stands causal (journal ++ line ∷ []) new (links_sent line clock (links_taken line links)) (if is_commit line then clock else last)
unfolding Keeps
stands_next causal journal line clock clocks new links last long sixteen due c noted s = record {
  processes = λ p. ⊎_elim
      (λ (of : is_of p line ≡ true). let e : get_or new p [] ≡ clock = noted p ∙ rw of refl in
      subst (λ (held : List Known). IsClock (journal ++ line ∷ []) (Reached causal (journal ++ line ∷ []) p) (view held)) (sym e) (reached_new causal journal line p (view clock) of c))
      (λ (out : is_of p line ≡ false). let e : get_or new p [] ≡ get_or clocks p [] = noted p ∙ rw out refl in
      subst (λ (held : List Known). IsClock (journal ++ line ∷ []) (Reached causal (journal ++ line ∷ []) p) (view held)) (sym e) (reached_other causal journal line p (view_of clocks p) out (s.processes p)))
      (cases_Bool (is_of p line));
  messages = λ p q j hp hq h. keeps_next causal journal line clock links long sixteen due c (λ p q hp hq j h. s.messages p q j hp hq h) p q hp hq j h;
  commits = λ is. ⊎_elim
      (λ (of : is_commit line ≡ true). rw of (last_new causal journal line (view clock) is of c))
      (λ (out : is_commit line ≡ false). rw out (last_other causal journal line (view last) out (s.commits is))) (cases_Bool (is_commit line));
}

-- the parts of a step together
pub advanced : (causal : Bool) (m : ℕ) (line : Line) (clocks new : List (List Known)) (links : List Way) (last past clock : List Known) → length links ≡ 256 → IsOfSixteen line → IsDue links line
    → KnowsPast causal clocks links last line past → ((p : ℕ) → view clock p ≡ known_at m line (view past) p) → IsNoted line clock clocks new
    → Advances causal m line (ledger clocks links last) (ledger new (links_sent line clock (links_taken line links)) (if is_commit line then clock else last)) clock
advanced causal m line clocks new links last past clock long sixteen due knows raised noted journal e s =
    let c : IsClock (journal ++ line ∷ []) (UpToNext causal journal line) (view clock) = clock_alike (journal ++ line ∷ []) (UpToNext causal journal line) (known_at (length journal) line (view past)) (view clock)
    (λ p. raised p ∙ ap (λ (n : ℕ). known_at n line (view past) p) (sym e)) (clock_at causal journal line (view past) (knows journal s)) in
    (stands_next causal journal line clock clocks new links last long sixteen due c noted s, c)
