-- What is kept over a journal, after one line more.
use Rattle.std.proofs.Common.{◌≡◌, ◌∙◌, ◌<◌, ◌≤◌, ◌+◌, ◌*◌, ◌^◌, ◌-◌, ◌==◌, ◌&&◌, ◌⊎◌, inl, inr, ⊎_elim, ℕ, zero, suc, Bool, true, false, List, [], ◌∷◌, ◌++◌, length, take, drop, drop-cons, get_or, replicate, arith, refl, sym, subst, ap, Option, Some, None, length-append, if◌then◌else◌}
use Rattle.std.proofs.Math.ListN.{set}
use Rattle.std.proofs.lemmas.List.{take_more, length-take-le}
use Rattle.std.proofs.lemmas.Bool.{and_left, and_right, cases_Bool, cases_eq, eq-eqb, ne_eqb}
use Rattle.dc_audit.specs.declared.clock.Known.{Known}
use Rattle.dc_audit.specs.declared.failure.Failure.{Failure}
use Rattle.dc_audit.specs.declared.journal.Deed.TheVariants.{Chance, Logged, Visible, Sends, Receives}
use Rattle.dc_audit.specs.declared.journal.Line.{Line}
use Rattle.dc_audit.specs.declared.journal.Line.TheVariants.{Does, Commits}
use Rattle.dc_audit.specs.Journals.{At, IsOfSixteen, sends, takes}
use Rattle.dc_audit.specs.Clocks.{Advances, Decided, Reached, nothing, view, view_of, IsDue, IsTo, JudgesNext, Way, ledger, links_sent, links_taken, no_way, sent_on, way, with_sent, with_taken}
use Rattle.dc_audit.specs.Keeping.{CanFollow, IsNext, Keeps, KeepsOver, count}
use Rattle.dc_audit.proofs.Gathering.{clock_alike}
use Rattle.dc_audit.proofs.Knowing.{knows_nothing}
use Rattle.dc_audit.proofs.Noted.{way_here, way_there}
use Rattle.dc_audit.proofs.Orders.{longer}

pub count_more : (test : Line → Bool) (journal : List Line) (y : Line) → count test (journal ++ y ∷ []) ≡ (if test y then suc (count test journal) else count test journal)
count_more test [] y = refl
count_more test (x ∷ journal) y = ⊎_elim
    (λ (on : test x ≡ true). rw on (ap suc (count_more test journal y) ∙ (⊎_elim (λ (a : test y ≡ true). rw a refl) (λ (b : test y ≡ false). rw b refl) (cases_Bool (test y)))))
    (λ (off : test x ≡ false). rw off (count_more test journal y)) (cases_Bool (test x))

count_yes : (test : Line → Bool) (journal : List Line) (y : Line) → test y ≡ true → count test (journal ++ y ∷ []) ≡ suc (count test journal)
count_yes test journal y e = count_more test journal y ∙ rw e refl

count_no : (test : Line → Bool) (journal : List Line) (y : Line) → test y ≡ false → count test (journal ++ y ∷ []) ≡ count test journal
count_no test journal y e = count_more test journal y ∙ rw e refl

-- what holds of each way, where one is exchanged
set_all : (P : Way → Type 0) (links : List Way) (n : ℕ) (w : Way) → ((i : ℕ) → P (get_or links i no_way)) → P w → (i : ℕ) → P (get_or (set links n w) i no_way)
set_all P [] n w all here i = all i
set_all P (x ∷ links) zero w all here zero = here
set_all P (x ∷ links) zero w all here (suc i) = all (suc i)
set_all P (x ∷ links) (suc n) w all here zero = all zero
set_all P (x ∷ links) (suc n) w all here (suc i) = set_all P links n w (λ j. all (suc j)) here i

sent_taken : (w : Way) → 0 < length w.waiting → sent_on (with_taken w) ≡ sent_on w
sent_taken w some = by_list w.taken w.waiting some
  where
    by_list : (taken : ℕ) (waiting : List (List Known)) → 0 < length waiting → taken + 1 + length (drop 1 waiting) ≡ taken + length waiting
    by_list taken [] h = absurd (omega arith)
    by_list taken (x ∷ waiting) h = omega arith

sent_more : (clock : List Known) (w : Way) → sent_on (with_sent clock w) ≡ suc (sent_on w)
sent_more clock w = omega (arith, length-append w.waiting (clock ∷ []))

-- no more messages than lines
few_next : (line : Line) (clock : List Known) (links : List Way) (m : ℕ) → IsDue links line → ((i : ℕ) → sent_on (get_or links i no_way) ≤ m) → (i : ℕ) → sent_on (get_or (links_sent line clock (links_taken line links)) i no_way) ≤ m + 1
few_next (Does p (Sends q k)) clock links m due few i = set_all (λ w. sent_on w ≤ m + 1) links (16 * p + q) (with_sent clock (way links p q)) (λ j. omega (arith, few j)) (omega (arith, sent_more clock (way links p q), few (16 * p + q))) i
few_next (Does p (Receives s k logged)) clock links m due few i = set_all (λ w. sent_on w ≤ m + 1) links (16 * s + p) (with_taken (way links s p)) (λ j. omega (arith, few j)) (omega (arith, sent_taken (way links s p) due.2, few (16 * s + p))) i
few_next (Does p Chance) clock links m due few i = omega (arith, few i)
few_next (Does p Logged) clock links m due few i = omega (arith, few i)
few_next (Does p Visible) clock links m due few i = omega (arith, few i)
few_next (Commits members) clock links m due few i = omega (arith, few i)

-- a pair is this one or another
pair : (p q r s : ℕ) → ((p ≡ r) × (q ≡ s)) ⊎ ((p ≡ r) × (q ≡ s) → ⊥)
pair p q r s = ⊎_elim (λ (a : p ≡ r). ⊎_elim (λ (b : q ≡ s). inl (a, b)) (λ (b : q ≡ s → ⊥). inr (λ e. b e.1)) (cases_eq q s)) (λ (a : p ≡ r → ⊥). inr (λ e. a e.0)) (cases_eq p r)

tests_no : (p q r s : ℕ) → ((p ≡ r) × (q ≡ s) → ⊥) → (p == r && q == s) ≡ false
tests_no p q r s ne = ⊎_elim (λ (a : p ≡ r). and_right (p == r) (q == s) (ne_eqb q s (λ b. ne (a, b)))) (λ (a : p ≡ r → ⊥). and_left (p == r) (q == s) (ne_eqb p r a)) (cases_eq p r)

tests_yes : (p q r s : ℕ) → p ≡ r → q ≡ s → (p == r && q == s) ≡ true
tests_yes p q r s a b = rw (eq-eqb p r a, eq-eqb q s b) refl

module _ (clock : List Known) (links : List Way) (journal : List Line) (long : length links ≡ 256) (r s : ℕ) (hr : r < 16) (hs : s < 16) where
  sent_next : (line : Line) → IsOfSixteen line → IsDue links line → sent_on (way links r s) ≡ count (sends r s) journal
      → sent_on (way (links_sent line clock (links_taken line links)) r s) ≡ count (sends r s) (journal ++ line ∷ [])
  sent_next (Does p (Sends q k)) sixteen due same = ⊎_elim
      (λ (e : (p ≡ r) × (q ≡ s)). let here : way (set links (16 * p + q) (with_sent clock (way links p q))) r s ≡ with_sent clock (way links p q) =
      subst (λ (x : ℕ). way (set links (16 * p + q) (with_sent clock (way links p q))) x s ≡ with_sent clock (way links p q)) e.0
      (subst (λ (x : ℕ). way (set links (16 * p + q) (with_sent clock (way links p q))) p x ≡ with_sent clock (way links p q)) e.1 (way_here links p q (with_sent clock (way links p q)) long sixteen due.0)) in
      ap sent_on here ∙ sent_more clock (way links p q) ∙ ap suc (subst (λ (x : ℕ). sent_on (way links x q) ≡ count (sends r s) journal) (sym e.0) (subst (λ (x : ℕ). sent_on (way links r x) ≡ count (sends r s) journal) (sym e.1) same))
      ∙ sym (count_yes (sends r s) journal (Does p (Sends q k)) (tests_yes p q r s e.0 e.1)))
      (λ (ne : (p ≡ r) × (q ≡ s) → ⊥). ap sent_on (way_there links p q r s (with_sent clock (way links p q)) due.0 hs ne) ∙ same ∙ sym (count_no (sends r s) journal (Does p (Sends q k)) (tests_no p q r s ne)))
      (pair p q r s)
  sent_next (Does p (Receives q k logged)) sixteen due same = ⊎_elim
      (λ (e : (q ≡ r) × (p ≡ s)). let here : way (set links (16 * q + p) (with_taken (way links q p))) r s ≡ with_taken (way links q p) =
      subst (λ (x : ℕ). way (set links (16 * q + p) (with_taken (way links q p))) x s ≡ with_taken (way links q p)) e.0
      (subst (λ (x : ℕ). way (set links (16 * q + p) (with_taken (way links q p))) q x ≡ with_taken (way links q p)) e.1 (way_here links q p (with_taken (way links q p)) long due.0 sixteen)) in
      ap sent_on here ∙ sent_taken (way links q p) due.2 ∙ subst (λ (x : ℕ). sent_on (way links x p) ≡ count (sends r s) journal) (sym e.0) (subst (λ (x : ℕ). sent_on (way links r x) ≡ count (sends r s) journal) (sym e.1) same)
      ∙ sym (count_no (sends r s) journal (Does p (Receives q k logged)) refl))
      (λ (ne : (q ≡ r) × (p ≡ s) → ⊥). ap sent_on (way_there links q p r s (with_taken (way links q p)) sixteen hs ne) ∙ same ∙ sym (count_no (sends r s) journal (Does p (Receives q k logged)) refl))
      (pair q p r s)
  sent_next (Does p Chance) sixteen due same = same ∙ sym (count_no (sends r s) journal (Does p Chance) refl)
  sent_next (Does p Logged) sixteen due same = same ∙ sym (count_no (sends r s) journal (Does p Logged) refl)
  sent_next (Does p Visible) sixteen due same = same ∙ sym (count_no (sends r s) journal (Does p Visible) refl)
  sent_next (Commits members) sixteen due same = same ∙ sym (count_no (sends r s) journal (Commits members) refl)

  taken_next : (line : Line) → IsOfSixteen line → IsDue links line → (way links r s).taken ≡ count (takes r s) journal
      → (way (links_sent line clock (links_taken line links)) r s).taken ≡ count (takes r s) (journal ++ line ∷ [])
  taken_next (Does p (Sends q k)) sixteen due same = ⊎_elim
      (λ (e : (p ≡ r) × (q ≡ s)). let here : way (set links (16 * p + q) (with_sent clock (way links p q))) r s ≡ with_sent clock (way links p q) =
      subst (λ (x : ℕ). way (set links (16 * p + q) (with_sent clock (way links p q))) x s ≡ with_sent clock (way links p q)) e.0
      (subst (λ (x : ℕ). way (set links (16 * p + q) (with_sent clock (way links p q))) p x ≡ with_sent clock (way links p q)) e.1 (way_here links p q (with_sent clock (way links p q)) long sixteen due.0)) in
      ap (λ (w : Way). w.taken) here ∙ subst (λ (x : ℕ). (way links x q).taken ≡ count (takes r s) journal) (sym e.0) (subst (λ (x : ℕ). (way links r x).taken ≡ count (takes r s) journal) (sym e.1) same)
      ∙ sym (count_no (takes r s) journal (Does p (Sends q k)) refl))
      (λ (ne : (p ≡ r) × (q ≡ s) → ⊥). ap (λ (w : Way). w.taken) (way_there links p q r s (with_sent clock (way links p q)) due.0 hs ne) ∙ same ∙ sym (count_no (takes r s) journal (Does p (Sends q k)) refl))
      (pair p q r s)
  taken_next (Does p (Receives q k logged)) sixteen due same = ⊎_elim
      (λ (e : (q ≡ r) × (p ≡ s)). let here : way (set links (16 * q + p) (with_taken (way links q p))) r s ≡ with_taken (way links q p) =
      subst (λ (x : ℕ). way (set links (16 * q + p) (with_taken (way links q p))) x s ≡ with_taken (way links q p)) e.0
      (subst (λ (x : ℕ). way (set links (16 * q + p) (with_taken (way links q p))) q x ≡ with_taken (way links q p)) e.1 (way_here links q p (with_taken (way links q p)) long due.0 sixteen)) in
      let was : (way links q p).taken ≡ count (takes r s) journal = subst (λ (x : ℕ). (way links x p).taken ≡ count (takes r s) journal) (sym e.0) (subst (λ (x : ℕ). (way links r x).taken ≡ count (takes r s) journal) (sym e.1) same) in
      let one : (way links q p).taken + 1 ≡ suc (count (takes r s) journal) = omega (arith, was) in
      ap (λ (w : Way). w.taken) here ∙ one ∙ sym (count_yes (takes r s) journal (Does p (Receives q k logged)) (tests_yes q p r s e.0 e.1)))
      (λ (ne : (q ≡ r) × (p ≡ s) → ⊥). ap (λ (w : Way). w.taken) (way_there links q p r s (with_taken (way links q p)) sixteen hs ne) ∙ same ∙ sym (count_no (takes r s) journal (Does p (Receives q k logged)) (tests_no q p r s ne)))
      (pair q p r s)
  taken_next (Does p Chance) sixteen due same = same ∙ sym (count_no (takes r s) journal (Does p Chance) refl)
  taken_next (Does p Logged) sixteen due same = same ∙ sym (count_no (takes r s) journal (Does p Logged) refl)
  taken_next (Does p Visible) sixteen due same = same ∙ sym (count_no (takes r s) journal (Does p Visible) refl)
  taken_next (Commits members) sixteen due same = same ∙ sym (count_no (takes r s) journal (Commits members) refl)

-- a line that can come next is one that the clocks can be carried over
pub due_next : (n : ℕ) (done : List Line) (line : Line) (links : List Way) → n ≤ 16 → ((p q : ℕ) → p < 16 → q < 16 → sent_on (way links p q) ≡ count (sends p q) done)
    → ((p q : ℕ) → p < 16 → q < 16 → (way links p q).taken ≡ count (takes p q) done) → IsNext n done line → IsOfSixteen line × IsTo line × IsDue links line
due_next n done (Does p (Sends q k)) links h sent taken next = (omega (arith, next.0), omega (arith, next.1), (omega (arith, next.1), next.3 ∙ sym (sent p q (omega (arith, next.0)) (omega (arith, next.1)))))
due_next n done (Does p (Receives s k logged)) links h sent taken next = let hp : p < 16 = omega (arith, next.0) in let hs : s < 16 = omega (arith, next.1) in
    (hp, tt, (hs, next.3 ∙ sym (taken s p hs hp), (let a = sent s p hs hp in let b = taken s p hs hp in omega (arith, a, b, next.3, next.4))))
due_next n done (Does p Chance) links h sent taken next = (omega (arith, next), tt, tt)
due_next n done (Does p Logged) links h sent taken next = (omega (arith, next), tt, tt)
due_next n done (Does p Visible) links h sent taken next = (omega (arith, next), tt, tt)
due_next n done (Commits members) links h sent taken next = (next.0, tt, tt)

-- what is kept after a line
pub keeps_more : (causal : Bool) (journal : List Line) (line : Line) (clocks new : List (List Known)) (links : List Way) (last last' clock : List Known) (failure found : Option Failure) → length links ≡ 256 → length clock ≡ 16
    → IsOfSixteen line → IsDue links line → Advances causal (length journal) line (ledger clocks links last) (ledger new (links_sent line clock (links_taken line links)) last') clock → JudgesNext (length journal) line clock failure found
    → Keeps causal journal clocks links last failure → Keeps causal (journal ++ line ∷ []) new (links_sent line clock (links_taken line links)) last' found
keeps_more causal journal line clocks new links last last' clock failure found long wide sixteen due advances judges k = let both = advances journal refl k.stands in record {
  stands = both.0;
  judged = judges causal journal refl wide both.1 k.judged;
  few = λ p q. let h = few_next line clock links (length journal) due k_few (16 * p + q) in omega (arith, h, longer journal line);
  sent = λ p q hp hq. sent_next clock links journal long p q hp hq line sixteen due (k.sent p q hp hq);
  taken = λ p q hp hq. taken_next clock links journal long p q hp hq line sixteen due (k.taken p q hp hq);
}
  where
    k_few : (i : ℕ) → sent_on (get_or links i no_way) ≤ length journal
    k_few i = let e : 16 * 0 + i ≡ i = omega arith in subst (λ (n : ℕ). sent_on (get_or links n no_way) ≤ length journal) e (k.few 0 i)

-- nothing is kept of an empty journal
blank_view : (n p : ℕ) → view (replicate n nothing) p ≡ nothing
blank_view zero p = refl
blank_view (suc n) zero = refl
blank_view (suc n) (suc p) = blank_view n p

blank_all : (n p r : ℕ) → view_of (replicate n (replicate 16 nothing)) p r ≡ nothing
blank_all zero p r = refl
blank_all (suc n) zero r = blank_view 16 r
blank_all (suc n) (suc p) r = blank_all n p r

blank_way : (n i : ℕ) → get_or (replicate n no_way) i no_way ≡ no_way
blank_way zero i = refl
blank_way (suc n) zero = refl
blank_way (suc n) (suc i) = blank_way n i

nothing_at : (i : ℕ) (x : Line) → At [] i x → ⊥
nothing_at i x at = let bad : None ≡ Some x = at in cc bad

pub keeps_none : (causal : Bool) → Keeps causal [] (replicate 16 (replicate 16 nothing)) (replicate 256 no_way) (replicate 16 nothing) None
keeps_none causal = record {
  stands = record {
    processes = λ p. clock_alike [] (Reached causal [] p) (λ r. nothing) (view_of (replicate 16 (replicate 16 nothing)) p) (blank_all 16 p) (knows_nothing [] (Reached causal [] p) (λ i r. nothing_at r.0 (r.1).0 (r.1).1));
    messages = λ p q j hp hq h. let e : way (replicate 256 no_way) p q ≡ no_way = blank_way 256 (16 * p + q) in
        let bad : j < length (no_way).waiting = subst (λ (w : Way). j < length w.waiting) e h in absurd (omega (arith, bad));
    commits = λ is. clock_alike [] (Decided causal []) (λ r. nothing) (view (replicate 16 nothing)) (blank_view 16) (knows_nothing [] (Decided causal []) (λ i r. nothing_at r.0 r.1 r.2));
  };
  judged = λ p e x m. absurd (nothing_at x m.line m.at);
  few = λ p q. let e : way (replicate 256 no_way) p q ≡ no_way = blank_way 256 (16 * p + q) in subst (λ (w : Way). sent_on w ≤ 0) (sym e) (omega arith);
  sent = λ p q hp hq. ap sent_on (blank_way 256 (16 * p + q));
  taken = λ p q hp hq. ap (λ (w : Way). w.taken) (blank_way 256 (16 * p + q));
}

pub keeps_begin : (causal : Bool) (clocks : List (List Known)) (links : List Way) → clocks ≡ replicate 16 (replicate 16 nothing) → links ≡ replicate 256 no_way → Keeps causal [] clocks links (replicate 16 nothing) None
keeps_begin causal clocks links a b = subst (λ (o : List (List Known)). Keeps causal [] o links (replicate 16 nothing) None) (sym a)
    (subst (λ (l : List Way). Keeps causal [] (replicate 16 (replicate 16 nothing)) l (replicate 16 nothing) None) (sym b) (keeps_none causal))

-- a line's step, whatever journal of m lines stood before it
pub keeps_step : (causal : Bool) (m : ℕ) (line : Line) (clocks new : List (List Known)) (links links' : List Way) (last last' clock : List Known) (failure found : Option Failure) → length links ≡ 256 → length clock ≡ 16
    → IsOfSixteen line → IsDue links line → links' ≡ links_sent line clock (links_taken line links) → Advances causal m line (ledger clocks links last) (ledger new links' last') clock → JudgesNext m line clock failure found
    → (journal : List Line) → length journal ≡ m → Keeps causal journal clocks links last failure → Keeps causal (journal ++ line ∷ []) new links' last' found
keeps_step causal m line clocks new links links' last last' clock failure found long wide sixteen due same advances judges journal e k =
    let adv : Advances causal (length journal) line (ledger clocks links last) (ledger new (links_sent line clock (links_taken line links)) last') clock =
    subst (λ (n : ℕ). Advances causal n line (ledger clocks links last) (ledger new (links_sent line clock (links_taken line links)) last') clock) (sym e) (subst (λ (l : List Way). Advances causal m line (ledger clocks links last) (ledger new l last') clock) same advances) in
    let jud : JudgesNext (length journal) line clock failure found = subst (λ (n : ℕ). JudgesNext n line clock failure found) (sym e) judges in
    subst (λ (l : List Way). Keeps causal (journal ++ line ∷ []) new l last' found) (sym same) (keeps_more causal journal line clocks new links last last' clock failure found long wide sixteen due adv jud k)

-- the line under a number, and what follows it
pub follow_here : (n : ℕ) (lines : List Line) (i : ℕ) (d : Line) → i < length lines → CanFollow n (take i lines) (drop i lines) → IsNext n (take i lines) (get_or lines i d) × CanFollow n (take (i + 1) lines) (drop (i + 1) lines)
follow_here n lines i d h can = let both : CanFollow n (take i lines) (get_or lines i d ∷ drop (suc i) lines) = subst (λ (rest : List Line). CanFollow n (take i lines) rest) (drop-cons lines i d h) can in
    (both.0, subst (λ (done : List Line). CanFollow n done (drop (i + 1) lines)) (sym (take_more lines i d h)) (let e : suc i ≡ i + 1 = omega arith in subst (λ (j : ℕ). CanFollow n (take i lines ++ get_or lines i d ∷ []) (drop j lines)) e both.1))

-- one line more of those at hand
pub keeps_here : (causal : Bool) (lines : List Line) (i : ℕ) (d : Line) (clocks new : List (List Known)) (links links' : List Way) (last last' : List Known) (failure found : Option Failure) → i < length lines
    → KeepsOver causal i (get_or lines i d) (ledger clocks links last) failure (ledger new links' last') found → Keeps causal (take i lines) clocks links last failure → Keeps causal (take (i + 1) lines) new links' last' found
keeps_here causal lines i d clocks new links links' last last' failure found h steps k = subst (λ (done : List Line). Keeps causal done new links' last' found) (sym (take_more lines i d h))
    (steps.2 (take i lines) (length-take-le i lines (omega arith)) k)

-- what a line at hand asks of the clocks
pub due_here : (causal : Bool) (lines : List Line) (i : ℕ) (d : Line) (clocks : List (List Known)) (links : List Way) (last : List Known) (failure : Option Failure) → i < length lines → CanFollow 16 (take i lines) (drop i lines)
    → Keeps causal (take i lines) clocks links last failure → IsOfSixteen (get_or lines i d) × IsTo (get_or lines i d) × IsDue links (get_or lines i d)
due_here causal lines i d clocks links last failure h can k = due_next 16 (take i lines) (get_or lines i d) links (omega arith) k.sent k.taken (follow_here 16 lines i d h can).0

pub few_here : (causal : Bool) (lines : List Line) (i : ℕ) (clocks : List (List Known)) (links : List Way) (last : List Known) (failure : Option Failure) → i < length lines → length lines ≤ 4000000
    → Keeps causal (take i lines) clocks links last failure → (p q : ℕ) → (way links p q).taken < 2 ^ 32 - 1
few_here causal lines i clocks links last failure h few k p q = let a : sent_on (way links p q) ≤ length (take i lines) = k.few p q in omega (arith, a, length-take-le i lines (omega arith))
