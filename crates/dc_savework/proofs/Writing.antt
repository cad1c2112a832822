-- The journal of a run is well formed: each line can follow those before it.
use Rattle.std.proofs.Common.{◌≡◌, ◌≢◌, ◌∙◌, ◌<◌, ◌+◌, ◌==◌, ◌&&◌, ⊎_elim, ℕ, zero, suc, Bool, true, false, not, List, [], ◌∷◌, ◌++◌, length, arith, refl, sym, subst, ap, append_assoc, length-append, nat_lt}
use Rattle.std.proofs.lemmas.Bool.{and_left, and_right, cases_eq, eq-eqb, ne_eqb, true≢false}
use Rattle.std.proofs.lemmas.List.{append-nil}
use Rattle.dc_audit.proofs.Counted.{count_more}
use Rattle.dc_audit.specs.declared.journal.Deed.TheVariants.{Visible, Sends, Receives}
use Rattle.dc_audit.specs.declared.journal.Line.{Line}
use Rattle.dc_audit.specs.declared.journal.Line.TheVariants.{Does}
use Rattle.dc_audit.specs.Journals.{sends, takes}
use Rattle.dc_audit.specs.Keeping.{CanFollow, IsJournal, IsNext, count}
use Rattle.dc_model.specs.Guests.{Answer, Event, Guests, is_receive}
use Rattle.dc_model.specs.Guests.Answer.{Plain, Clock, Random, InputNone, InputNext, InputEnd, ReceiveNone, ReceiveFrom}
use Rattle.dc_model.specs.Guests.Event.{AtEnd, AtInternal, AtClock, AtRandom, AtInput, AtReceive, AtSend, AtVisible}
use Rattle.dc_model.specs.Process.{Local, comes, fits, moved, posted, took_from}
use Rattle.dc_savework.proofs.Keeping.{of_commit}
use Rattle.dc_savework.specs.Journal.{commit_lines, commit_of, event_lines, marks_by, receipt, told}

-- one line more
follow_more : (n : ℕ) (done lines : List Line) (y : Line) → CanFollow n done lines → IsNext n (done ++ lines) y → CanFollow n done (lines ++ y ∷ [])
follow_more n done [] y can next = (subst (λ (d : List Line). IsNext n d y) (append-nil done) next, tt)
follow_more n done (x ∷ lines) y can next = (can.0, follow_more n (done ++ x ∷ []) lines y can.1 (subst (λ (d : List Line). IsNext n d y) (sym (append_assoc done (x ∷ []) lines)) next))

pub journal_more : (n : ℕ) (journal : List Line) (y : Line) → IsJournal n journal → IsNext n journal y → IsJournal n (journal ++ y ∷ [])
journal_more n journal y can next = follow_more n [] journal y can next

-- the messages of a journal are those of processes that stand here
pub record Counts {Mc : Type 0} (n : ℕ) (at : ℕ → Local Mc) (journal : List Line) : Type 0 where
  pub form : IsJournal n journal
  pub sent : (p q : ℕ) → count (sends p q) journal ≡ length ((at p).sent q)
  pub taken : (p q : ℕ) → count (takes p q) journal ≡ (at q).received p

count_no : (test : Line → Bool) (journal : List Line) (y : Line) → test y ≡ false → count test (journal ++ y ∷ []) ≡ count test journal
count_no test journal y e = count_more test journal y ∙ rw e refl

count_yes : (test : Line → Bool) (journal : List Line) (y : Line) → test y ≡ true → count test (journal ++ y ∷ []) ≡ suc (count test journal)
count_yes test journal y e = count_more test journal y ∙ rw e refl

pub marks_long : (n : ℕ) (test : ℕ → Bool) → length (marks_by n test) ≡ n
marks_long zero test = refl
marks_long (suc n) test = ap suc (marks_long n (λ i. test (suc i)))

-- a commit
pub counts_commit : {Mc : Type 0} (b : Bool) (n : ℕ) (commits : ℕ → Bool) (at : ℕ → Local Mc) (journal : List Line) → Counts n at journal → Counts n at (journal ++ commit_lines b n commits)
counts_commit false n commits at journal c = subst (λ (j : List Line). Counts n at j) (sym (append-nil journal)) c
counts_commit true n commits at journal c = let y : Line = commit_of n commits in record {
  form = journal_more n journal y c.form (marks_long 16 (λ q. commits q && nat_lt q n), λ q e. (of_commit n commits q e).1);
  sent = λ r s. count_no (sends r s) journal y refl ∙ c.sent r s;
  taken = λ r s. count_no (takes r s) journal y refl ∙ c.taken r s;
}

-- nothing is taken at an event that asks for no message
took_none : {Mc : Type 0} (G : Guests Mc) (p : ℕ) (l : Local Mc) (a : Answer) (r : ℕ) → fits G p l a ≡ true → is_receive (comes G l a) ≡ false → took_from a r ≡ 0
took_none G p l (ReceiveFrom s m) r fit off = absurd (true≢false (sym fit ∙ off))
took_none G p l Plain r fit off = refl
took_none G p l (Clock v) r fit off = refl
took_none G p l (Random v) r fit off = refl
took_none G p l InputNone r fit off = refl
took_none G p l (InputNext bytes) r fit off = refl
took_none G p l InputEnd r fit off = refl
took_none G p l ReceiveNone r fit off = refl

-- what the next event of p is, where its message can be taken and what it sends goes to another process
pub record Fit {Mc : Type 0} (G : Guests Mc) (n p : ℕ) (at : ℕ → Local Mc) (a : Answer) : Type 0 where
  pub inside : p < n
  pub fitting : fits G p (at p) a ≡ true
  pub mail : (s : ℕ) (m : List ℕ) → a ≡ ReceiveFrom s m → (s < n) × (s ≢ p) × ((at p).received s < length ((at s).sent p))
  pub sends_on : (q : ℕ) (m : List ℕ) → comes G (at p) a ≡ AtSend q m → (q < n) × (q ≢ p)

-- processes after p took its event
pub record Moves {Mc : Type 0} (G : Guests Mc) (p : ℕ) (at after : ℕ → Local Mc) (a : Answer) : Type 0 where
  pub here : after p ≡ moved G (at p) a
  pub others : (q : ℕ) → p ≢ q → after q ≡ at q

module _ {Mc : Type 0} (G : Guests Mc) (n p : ℕ) (at after : ℕ → Local Mc) (a : Answer) (fit : Fit G n p at a) (moves : Moves G p at after a) (journal : List Line) (c : Counts n at journal) where
  abbrev posts : ℕ → List (List ℕ)
  posts s = posted (comes G (at p) a) s

  sent_here : (s : ℕ) → length ((after p).sent s) ≡ length ((at p).sent s) + length (posts s)
  sent_here s = ap (λ (l : Local Mc). length (l.sent s)) moves.here ∙ length-append ((at p).sent s) (posts s)

  taken_here : (r : ℕ) → (after p).received r ≡ (at p).received r + took_from a r
  taken_here r = ap (λ (l : Local Mc). l.received r) moves.here

  -- a line that sends and receives as the event does
  counts_line : (y : Line) → IsNext n journal y → ((r s : ℕ) → p ≢ r → sends r s y ≡ false) → ((r s : ℕ) → p ≢ s → takes r s y ≡ false)
      → ((s : ℕ) → count (sends p s) (journal ++ y ∷ []) ≡ count (sends p s) journal + length (posts s)) → ((r : ℕ) → count (takes r p) (journal ++ y ∷ []) ≡ count (takes r p) journal + took_from a r) → Counts n after (journal ++ y ∷ [])
  counts_line y next no_send no_take posted_is took_is = record {
    form = journal_more n journal y c.form next;
    sent = λ r s. ⊎_elim
        (λ (e : p ≡ r). subst (λ (i : ℕ). count (sends i s) (journal ++ y ∷ []) ≡ length ((after i).sent s)) e (posted_is s ∙ ap (λ (i : ℕ). i + length (posts s)) (c.sent p s) ∙ sym (sent_here s)))
        (λ (ne : p ≢ r). count_no (sends r s) journal y (no_send r s ne) ∙ c.sent r s ∙ ap (λ (l : Local Mc). length (l.sent s)) (sym (moves.others r ne))) (cases_eq p r);
    taken = λ r s. ⊎_elim
        (λ (e : p ≡ s). subst (λ (i : ℕ). count (takes r i) (journal ++ y ∷ []) ≡ (after i).received r) e (took_is r ∙ ap (λ (i : ℕ). i + took_from a r) (c.taken r p) ∙ sym (taken_here r)))
        (λ (ne : p ≢ s). count_no (takes r s) journal y (no_take r s ne) ∙ c.taken r s ∙ ap (λ (l : Local Mc). l.received r) (sym (moves.others s ne))) (cases_eq p s);
  }

  plus_none : (x y : ℕ) → y ≡ 0 → x ≡ x + y
  plus_none x y e = omega (arith, e)

  -- an event that has no line
  counts_silent : ((s : ℕ) → posts s ≡ []) → ((r : ℕ) → took_from a r ≡ 0) → Counts n after journal
  counts_silent quiet took = record {
    form = c.form;
    sent = λ r s. ⊎_elim
        (λ (e : p ≡ r). subst (λ (i : ℕ). count (sends i s) journal ≡ length ((after i).sent s)) e (c.sent p s ∙ plus_none (length ((at p).sent s)) (length (posts s)) (ap (λ (xs : List (List ℕ)). length xs) (quiet s)) ∙ sym (sent_here s)))
        (λ (ne : p ≢ r). c.sent r s ∙ ap (λ (l : Local Mc). length (l.sent s)) (sym (moves.others r ne))) (cases_eq p r);
    taken = λ r s. ⊎_elim
        (λ (e : p ≡ s). subst (λ (i : ℕ). count (takes r i) journal ≡ (after i).received r) e (c.taken r p ∙ plus_none ((at p).received r) (took_from a r) (took r) ∙ sym (taken_here r)))
        (λ (ne : p ≢ s). c.taken r s ∙ ap (λ (l : Local Mc). l.received r) (sym (moves.others s ne))) (cases_eq p s);
  }

  -- a line of an event that sends and takes nothing
  counts_quiet : (y : Line) → IsNext n journal y → ((r s : ℕ) → sends r s y ≡ false) → ((r s : ℕ) → takes r s y ≡ false) → ((s : ℕ) → posts s ≡ []) → ((r : ℕ) → took_from a r ≡ 0) → Counts n after (journal ++ y ∷ [])
  counts_quiet y next no_send no_take quiet took = counts_line y next (λ r s ne. no_send r s) (λ r s ne. no_take r s)
      (λ s. count_no (sends p s) journal y (no_send p s) ∙ plus_none (count (sends p s) journal) (length (posts s)) (ap (λ (xs : List (List ℕ)). length xs) (quiet s)))
      (λ r. count_no (takes r p) journal y (no_take r p) ∙ plus_none (count (takes r p) journal) (took_from a r) (took r))

  told_next : (chance : Bool) → IsNext n journal (Does p (told chance))
  told_next true = fit.inside
  told_next false = fit.inside

  told_sends : (chance : Bool) (r s : ℕ) → sends r s (Does p (told chance)) ≡ false
  told_sends true r s = refl
  told_sends false r s = refl

  told_takes : (chance : Bool) (r s : ℕ) → takes r s (Does p (told chance)) ≡ false
  told_takes true r s = refl
  told_takes false r s = refl

  counts_told : (chance : Bool) → ((s : ℕ) → posts s ≡ []) → ((r : ℕ) → took_from a r ≡ 0) → Counts n after (journal ++ Does p (told chance) ∷ [])
  counts_told chance quiet took = counts_quiet (Does p (told chance)) (told_next chance) (told_sends chance) (told_takes chance) quiet took

  first_off : (r s : ℕ) (b : Bool) → p ≢ r → (p == r && b) ≡ false
  first_off r s b ne = and_left (p == r) b (ne_eqb p r ne)

  -- a message that is sent
  counts_send : (q : ℕ) (m : List ℕ) → comes G (at p) a ≡ AtSend q m → ((r : ℕ) → took_from a r ≡ 0) → Counts n after (journal ++ Does p (Sends q (length ((at p).sent q))) ∷ [])
  counts_send q m is took = let y : Line = Does p (Sends q (length ((at p).sent q))) in let to = fit.sends_on q m is in
      counts_line y (fit.inside, to.0, to.1, sym (c.sent p q)) (λ r s ne. first_off r s (q == s) ne) (λ r s ne. refl)
      (λ s. ⊎_elim
      (λ (e : q ≡ s). count_yes (sends p s) journal y (rw (eq-eqb p p refl, eq-eqb q s e) refl) ∙ (let one : posts s ≡ m ∷ [] = ap (λ (ev : Event). posted ev s) is ∙ rw (eq-eqb q s e) refl in omega (arith, ap (λ (xs : List (List ℕ)). length xs) one)))
      (λ (ne : q ≢ s). count_no (sends p s) journal y (and_right (p == p) (q == s) (ne_eqb q s ne)) ∙ (let none : posts s ≡ [] = ap (λ (ev : Event). posted ev s) is ∙ rw (ne_eqb q s ne) refl in plus_none (count (sends p s) journal) (length (posts s)) (ap (λ (xs : List (List ℕ)). length xs) none))) (cases_eq q s))
      (λ r. count_no (takes r p) journal y refl ∙ plus_none (count (takes r p) journal) (took_from a r) (took r))

  -- a message that is taken
  counts_receive : (chance : Bool) (s : ℕ) (m : List ℕ) → a ≡ ReceiveFrom s m → ((q : ℕ) → posts q ≡ []) → Counts n after (journal ++ Does p (Receives s ((at p).received s) (not chance)) ∷ [])
  counts_receive chance s m is quiet = let y : Line = Does p (Receives s ((at p).received s) (not chance)) in let from = fit.mail s m is in
      counts_line y (fit.inside, from.0, from.1, sym (c.taken s p), (let k = from.2 in omega (arith, k, c.sent s p))) (λ r q ne. refl) (λ r q ne. and_right (s == r) (p == q) (ne_eqb p q ne))
      (λ q. count_no (sends p q) journal y refl ∙ plus_none (count (sends p q) journal) (length (posts q)) (ap (λ (xs : List (List ℕ)). length xs) (quiet q)))
      (λ r. ⊎_elim
      (λ (e : s ≡ r). count_yes (takes r p) journal y (rw (eq-eqb s r e, eq-eqb p p refl) refl) ∙ (let one : took_from a r ≡ 1 = ap (λ (b : Answer). took_from b r) is ∙ rw (eq-eqb s r e) refl in omega (arith, one)))
      (λ (ne : s ≢ r). count_no (takes r p) journal y (and_left (s == r) (p == p) (ne_eqb s r ne)) ∙ (let none : took_from a r ≡ 0 = ap (λ (b : Answer). took_from b r) is ∙ rw (ne_eqb s r ne) refl in plus_none (count (takes r p) journal) (took_from a r) none)) (cases_eq s r))

  -- what p is told where it asks for a message
  counts_asked : (chance : Bool) (b : Answer) → a ≡ b → ((q : ℕ) → posts q ≡ []) → Counts n after (journal ++ Does p (receipt (at p) chance b) ∷ [])
  counts_asked chance (ReceiveFrom s m) is quiet = counts_receive chance s m is quiet
  counts_asked chance Plain is quiet = counts_told chance quiet (λ r. ap (λ (b : Answer). took_from b r) is)
  counts_asked chance (Clock v) is quiet = counts_told chance quiet (λ r. ap (λ (b : Answer). took_from b r) is)
  counts_asked chance (Random v) is quiet = counts_told chance quiet (λ r. ap (λ (b : Answer). took_from b r) is)
  counts_asked chance InputNone is quiet = counts_told chance quiet (λ r. ap (λ (b : Answer). took_from b r) is)
  counts_asked chance (InputNext bytes) is quiet = counts_told chance quiet (λ r. ap (λ (b : Answer). took_from b r) is)
  counts_asked chance InputEnd is quiet = counts_told chance quiet (λ r. ap (λ (b : Answer). took_from b r) is)
  counts_asked chance ReceiveNone is quiet = counts_told chance quiet (λ r. ap (λ (b : Answer). took_from b r) is)

  none_of : (e : Event) → comes G (at p) a ≡ e → is_receive e ≡ false → (r : ℕ) → took_from a r ≡ 0
  none_of e is off r = took_none G p (at p) a r fit.fitting (ap is_receive is ∙ off)

  quiet_at : (e : Event) → comes G (at p) a ≡ e → ((s : ℕ) → posted e s ≡ []) → (s : ℕ) → posts s ≡ []
  quiet_at e is quiet s = ap (λ (ev : Event). posted ev s) is ∙ quiet s

  pub counts_event : (chance : Bool) (e : Event) → comes G (at p) a ≡ e → Counts n after (journal ++ event_lines (at p) p chance a e)
  counts_event chance AtClock is = counts_told chance (quiet_at AtClock is (λ s. refl)) (none_of AtClock is refl)
  counts_event chance AtRandom is = counts_told chance (quiet_at AtRandom is (λ s. refl)) (none_of AtRandom is refl)
  counts_event chance AtInput is = counts_told chance (quiet_at AtInput is (λ s. refl)) (none_of AtInput is refl)
  counts_event chance AtReceive is = counts_asked chance a refl (quiet_at AtReceive is (λ s. refl))
  counts_event chance (AtVisible body) is = counts_quiet (Does p Visible) fit.inside (λ r s. refl) (λ r s. refl) (quiet_at (AtVisible body) is (λ s. refl)) (none_of (AtVisible body) is refl)
  counts_event chance (AtSend q m) is = counts_send q m is (none_of (AtSend q m) is refl)
  counts_event chance AtInternal is = subst (λ (j : List Line). Counts n after j) (sym (append-nil journal)) (counts_silent (quiet_at AtInternal is (λ s. refl)) (none_of AtInternal is refl))
  counts_event chance AtEnd is = subst (λ (j : List Line). Counts n after j) (sym (append-nil journal)) (counts_silent (quiet_at AtEnd is (λ s. refl)) (none_of AtEnd is refl))
