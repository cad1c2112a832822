-- A number names one save: of a process that is up, a save under the number of its last commit is that commit's.
use Rattle.std.proofs.Common.{◌≡◌, ◌≢◌, ◌<◌, ℕ, List, suc, Bool, true, false, if◌then◌else◌, refl, sym, ap, subst, arith, ⊎_elim}
use Rattle.std.proofs.lemmas.Bool.{cases_eq, cond_both, eq-eqb, ne_eqb}
use Rattle.dc_model.specs.Guests.{Answer, Event}
use Rattle.dc_model.specs.Guests.Event.{AtClock, AtEnd, AtInput, AtInternal, AtRandom, AtReceive, AtSend, AtVisible}
use Rattle.dc_model.specs.Process.{comes}
use Rattle.dc_model.specs.Runs.{Given}
use Rattle.dc_model.specs.declared.entry.Entry.{Entry}
use Rattle.dc_model.specs.declared.entry.Entry.TheVariants.{Power, Stop, Turn}
use Rattle.dc_model.specs.declared.mark.Mark.{Mark}
use Rattle.dc_protocols.specs.Rules.{is_causal}
use Rattle.dc_protocols.specs.declared.protocol.Rule.{Rule}
use Rattle.dc_recovery.proofs.Telling.{largest_over}
use Rattle.dc_recovery.specs.Answers.{answer, is_blocked, replays, rule_at}
use Rattle.dc_recovery.specs.Core.{Core, Status, Which, numbers_of, save_of, stands}
use Rattle.dc_recovery.specs.Core.Which.{Newer, Older}
use Rattle.dc_recovery.specs.Invariant.{Holds}
use Rattle.dc_recovery.specs.Numbers.{IsSinceCommit}
use Rattle.dc_recovery.specs.Parts.{Company, Place, at_one, commit_if, committed_as, commits_in, each, fallen, first, is_with, left, log_if, logged, event_later, risen, second, sets_unlogged, third, torn_as, torn_in, torn_log}
use Rattle.dc_recovery.specs.Parts.Place.{InAfter, InBefore, InEvent, InLog, Nowhere}
use Rattle.dc_recovery.specs.Saves.{Logged}
use Rattle.dc_recovery.specs.Systems.{System}
use Rattle.dc_recovery.specs.Ties.{company, next_number, next_numbers, numbers_first}
use Rattle.dc_recovery.specs.Turned.{Runs, RunsOr, Takes, TakesOr, Turned}

cond_after : (n i : ℕ) (b : Bool) (x y : Status) → IsSinceCommit n i x → IsSinceCommit n i y → IsSinceCommit n i (if b then x else y)
cond_after n i true x y a b = a
cond_after n i false x y a b = b

-- the number of a commit is over that of the last
next_over : {Mc : Type 0} (S : System Mc) (last : ℕ → ℕ) (q : ℕ) → q < S.guests.count → last q < next_numbers S last q
next_over S last q less = cond_both (is_causal S.protocol) (next_number S.guests.count last) (suc (last q)) (λ (n : ℕ). last q < n)
    (λ _. let k = largest_over S.guests.count last q less in omega arith)
    (λ _. omega arith)

-- a commit under a number over this, or one that was cut off
commit_after : (n i number : ℕ) (st : Status) → IsSinceCommit n i st → st.older.number < number → IsSinceCommit n i (committed_as number st)
commit_after n i number st is over = let a = is.0.0 in ((omega arith, λ e. absurd (omega arith)), (omega arith, λ e. absurd (omega arith)))

torn_after : (n i number : ℕ) (st : Status) → IsSinceCommit n i st → st.older.number < number → IsSinceCommit n i (torn_as number st)
torn_after n i number st is over = let a = is.0.0 in (is.0, (omega arith, λ e. absurd (omega arith)))

module _ {Mc : Type 0} (S : System Mc) (c : Core) (p : ℕ) (a : Answer) (q : ℕ) (inside : q < S.guests.count) (n i : ℕ) (was : IsSinceCommit n i (c.procs q)) where
  abbrev f : Rule
  f = rule_at S c p a

  abbrev v : Company
  v = company S c p a

  commits_after : (commits : ℕ → Bool) (ns : ℕ → ℕ) (procs : ℕ → Status) → IsSinceCommit n i (procs q) → (procs q).older.number < ns q → IsSinceCommit n i (commits_in commits ns procs q)
  commits_after commits ns procs is over = cond_after n i (commits q) (committed_as (ns q) (procs q)) (procs q) (commit_after n i (ns q) (procs q) is over) is

  if_after : (b : Bool) (commits : ℕ → Bool) (ns : ℕ → ℕ) (procs : ℕ → Status) → IsSinceCommit n i (procs q) → (procs q).older.number < ns q → IsSinceCommit n i (commit_if b commits ns procs q)
  if_after true commits ns procs is over = commits_after commits ns procs is over
  if_after false commits ns procs is over = is

  tear_after : (falls commits : ℕ → Bool) (ns : ℕ → ℕ) (procs : ℕ → Status) → IsSinceCommit n i (procs q) → (procs q).older.number < ns q → IsSinceCommit n i (torn_in falls commits ns procs q)
  tear_after falls commits ns procs is over = cond_after n i (commits q) (torn_as (ns q) (procs q)) (each falls fallen procs q) (torn_after n i (ns q) (procs q) is over) (cond_after n i (falls q) (fallen (procs q)) (procs q) is is)

  firsts : IsSinceCommit n i (first f v c.procs q)
  firsts = if_after f.before v.before v.numbers_before c.procs was (next_over S (numbers_of c.procs) q inside)

  module _ (rep : Bool) (x : Logged) where
    same_number : (l : Bool) → IsSinceCommit n i (log_if l x p (first f v c.procs) q) × ((log_if l x p (first f v c.procs) q).older.number ≡ (first f v c.procs q).older.number)
    same_number false = (firsts, refl)
    same_number true = ⊎_elim
        (λ (e : p ≡ q). subst (λ y. IsSinceCommit n i (at_one y (logged x) (first f v c.procs) q) × ((at_one y (logged x) (first f v c.procs) q).older.number ≡ (first f v c.procs q).older.number)) (sym e) (rw (eq-eqb q q refl) (firsts, refl)))
        (λ (ne : p ≢ q). rw (ne_eqb p q ne) (firsts, refl))
        (cases_eq p q)

    seconds : IsSinceCommit n i (second f x v p c.procs q) × ((second f x v p c.procs q).older.number ≡ (first f v c.procs q).older.number)
    seconds = same_number f.log

    passes : (procs : ℕ → Status) → IsSinceCommit n i (procs q) → IsSinceCommit n i (at_one p (event_later rep (sets_unlogged f.log rep x.answer)) procs q) × ((at_one p (event_later rep (sets_unlogged f.log rep x.answer)) procs q).older.number ≡ (procs q).older.number)
    passes procs is = ⊎_elim
        (λ (e : p ≡ q). subst (λ y. IsSinceCommit n i (at_one y (event_later rep (sets_unlogged f.log rep x.answer)) procs q) × ((at_one y (event_later rep (sets_unlogged f.log rep x.answer)) procs q).older.number ≡ (procs q).older.number)) (sym e) (rw (eq-eqb q q refl) (is, refl)))
        (λ (ne : p ≢ q). rw (ne_eqb p q ne) (is, refl))
        (cases_eq p q)

    thirds : IsSinceCommit n i (third f rep x v p c.procs q) × ((third f rep x v p c.procs q).older.number ≡ (second f x v p c.procs q).older.number)
    thirds = passes (second f x v p c.procs) seconds.0

    two_over : (third f rep x v p c.procs q).older.number < v.numbers_after q
    two_over = let a = next_over S (numbers_first S c p a) q inside in let b = thirds.1 in let d = seconds.1 in omega (arith, a, b, d)

    left_after : (w : Place) → IsSinceCommit n i (left f rep x v p c.procs w q)
    left_after Nowhere = if_after f.after v.after v.numbers_after (third f rep x v p c.procs) thirds.0 two_over
    left_after InBefore = tear_after v.falls v.before v.numbers_before c.procs was (next_over S (numbers_of c.procs) q inside)
    left_after InLog = ⊎_elim
        (λ (e : p ≡ q). subst (λ y. IsSinceCommit n i (at_one y (torn_log x) (first f v c.procs) q)) (sym e) (rw (eq-eqb q q refl) firsts))
        (λ (ne : p ≢ q). rw (ne_eqb p q ne) firsts)
        (cases_eq p q)
    left_after InEvent = cond_after n i (v.falls q) (fallen (second f x v p c.procs q)) (second f x v p c.procs q) seconds.0 seconds.0
    left_after InAfter = tear_after v.falls v.after v.numbers_after (third f rep x v p c.procs) thirds.0 two_over

module _ {Mc : Type 0} (S : System Mc) (schedule : List Entry) (t : ℕ) (c : Core) (now : Holds S schedule t c) (q : ℕ) (inside : q < S.guests.count) (up : (c.procs q).up ≡ true) where
  abbrev n : ℕ
  n = (c.procs q).older.number

  abbrev i : ℕ
  i = (c.procs q).older.position

  was : IsSinceCommit n i (c.procs q)
  was = let one = ((now.behind q).running up).ok.one in ((omega arith, λ e. refl), (rw one (omega arith), λ e. ap (λ s. s.position) one))

  same_core : (d : Core) → d ≡ c → IsSinceCommit n i (d.procs q)
  same_core d e = subst (λ (y : Core). IsSinceCommit n i (y.procs q)) (sym e) was

  takes_after : (x : Given) (e : Event) (m : Mark) (d : Core) → Takes S c x e m d → IsSinceCommit n i (d.procs q)
  takes_after x e m d (w, may, is, next) = subst (λ (y : Core). IsSinceCommit n i (y.procs q)) (sym next)
      (left_after S c x.p x.answer q inside n i was (replays (comes S.guests (stands S.guests c x.p) x.answer) (c.procs x.p)) (record { position = (c.procs x.p).position; answer = x.answer }) w)

  block_after : (b : Bool) (x : Given) (e : Event) (m : Mark) (d : Core) → TakesOr b S c x e m d → IsSinceCommit n i (d.procs q)
  block_after true x e m d is = same_core d is.1
  block_after false x e m d is = takes_after x e m d is

  runs_after : (x : Given) (e : Event) (m : Mark) (d : Core) → Runs S c x e m d → IsSinceCommit n i (d.procs q)
  runs_after x AtEnd m d is = same_core d is.1
  runs_after x AtInternal m d is = block_after (is_blocked S c x.p AtInternal) x AtInternal m d is
  runs_after x AtClock m d is = block_after (is_blocked S c x.p AtClock) x AtClock m d is
  runs_after x AtRandom m d is = block_after (is_blocked S c x.p AtRandom) x AtRandom m d is
  runs_after x AtInput m d is = block_after (is_blocked S c x.p AtInput) x AtInput m d is
  runs_after x AtReceive m d is = block_after (is_blocked S c x.p AtReceive) x AtReceive m d is
  runs_after x (AtVisible body) m d is = block_after (is_blocked S c x.p (AtVisible body)) x (AtVisible body) m d is
  runs_after x (AtSend to message) m d is = block_after (is_blocked S c x.p (AtSend to message)) x (AtSend to message) m d is

  rise_after : (k : Which) → IsSinceCommit n i (risen (save_of k (c.procs q)))
  rise_after Older = (was.0, was.0)
  rise_after Newer = (was.1, was.1)

  each_after : (test : ℕ → Bool) (h : Status → Status) → IsSinceCommit n i (h (c.procs q)) → IsSinceCommit n i (each test h c.procs q)
  each_after test h is = cond_after n i (test q) (h (c.procs q)) (c.procs q) is was

  up_after : (b : Bool) (x : Given) (m : Mark) (d : Core) → RunsOr b S c x m d → IsSinceCommit n i (d.procs q)
  up_after true x m d is = runs_after x (comes S.guests (stands S.guests c x.p) x.answer) m d is
  up_after false x m d is = ⊎_elim
      (λ r. subst (λ (y : Core). IsSinceCommit n i (y.procs q)) (sym r.2) (each_after (is_with S.protocol x.p) (λ st. risen (save_of r.0 st)) (rise_after r.0)))
      (λ r. same_core d r.1)
      is

  pub turned_after : (entry : Entry) (m : Mark) (d : Core) → Turned S t c entry m d → IsSinceCommit n i (d.procs q)
  turned_after (Turn turn) m d is = up_after (c.procs turn.p).up (record { t = t; p = turn.p; answer = answer S.guests c turn.p turn.word turn.clock }) m d is.1
  turned_after (Stop p) m d is = subst (λ (y : Core). IsSinceCommit n i (y.procs q)) (sym is.1) (each_after (is_with S.protocol p) fallen (was.0, was.1))
  turned_after Power m d is = subst (λ (y : Core). IsSinceCommit n i (y.procs q)) (sym is.1) (was.0, was.1)
