-- Numbers of commits: an entry makes none over two more than were there.
use Rattle.std.proofs.Common.{◌≡◌, ◌≤◌, ◌==◌, ℕ, zero, suc, Bool, true, false, if◌then◌else◌, sym, subst, arith, ⊎_elim}
use Rattle.std.proofs.lemmas.Bool.{cond_both}
use Rattle.dc_model.specs.Guests.{Answer, Event}
use Rattle.dc_model.specs.Guests.Event.{AtClock, AtEnd, AtInput, AtInternal, AtRandom, AtReceive, AtSend, AtVisible}
use Rattle.dc_model.specs.Process.{comes}
use Rattle.dc_model.specs.Runs.{Given}
use Rattle.dc_model.specs.declared.entry.Entry.{Entry}
use Rattle.dc_model.specs.declared.entry.Entry.TheVariants.{Power, Stop, Turn}
use Rattle.dc_model.specs.declared.mark.Mark.{Mark}
use Rattle.dc_protocols.specs.Rules.{is_causal}
use Rattle.dc_protocols.specs.declared.protocol.Rule.{Rule}
use Rattle.dc_recovery.specs.Answers.{answer, is_blocked, replays, rule_at}
use Rattle.dc_recovery.specs.Core.{Core, Status, Which, numbers_of, save_of, stands}
use Rattle.dc_recovery.specs.Core.Which.{Newer, Older}
use Rattle.dc_recovery.specs.Numbers.{AreUpTo, IsUpTo}
use Rattle.dc_recovery.specs.Parts.{Company, Place, at_one, commit_if, committed_as, commits_in, each, fallen, first, is_with, left, log_if, logged, event_later, risen, second, sets_unlogged, third, torn_as, torn_in, torn_log}
use Rattle.dc_recovery.specs.Parts.Place.{InAfter, InBefore, InEvent, InLog, Nowhere}
use Rattle.dc_recovery.specs.Saves.{Logged}
use Rattle.dc_recovery.specs.Systems.{System}
use Rattle.dc_recovery.specs.Ties.{company, largest, next_number, next_numbers, numbers_first}
use Rattle.dc_recovery.specs.Turned.{Runs, RunsOr, Takes, TakesOr, Turned}

largest_below : (n m : ℕ) (number : ℕ → ℕ) → ((q : ℕ) → number q ≤ m) → largest n number ≤ m
largest_below zero m number below = omega arith
largest_below (suc n) m number below = let a = below n in let b = largest_below n m number below in omega arith

below_more : (m k : ℕ) (st : Status) → m ≤ k → IsUpTo m st → IsUpTo k st
below_more m k st less is = let a = is.0 in let b = is.1 in (omega arith, omega arith)

-- a change of some
cond_below : (k : ℕ) (b : Bool) (x y : Status) → IsUpTo k x → IsUpTo k y → IsUpTo k (if b then x else y)
cond_below k true x y a b = a
cond_below k false x y a b = b

-- parts of a turn
module _ (k : ℕ) (procs : ℕ → Status) (below : AreUpTo k procs) where
  commits_below : (commits : ℕ → Bool) (ns : ℕ → ℕ) → ((q : ℕ) → ns q ≤ suc k) → AreUpTo (suc k) (commits_in commits ns procs)
  commits_below commits ns low q = cond_below (suc k) (commits q) (committed_as (ns q) (procs q)) (procs q) (low q, low q) (below_more k (suc k) (procs q) (omega arith) (below q))

  if_below : (b : Bool) (commits : ℕ → Bool) (ns : ℕ → ℕ) → ((q : ℕ) → ns q ≤ suc k) → AreUpTo (suc k) (commit_if b commits ns procs)
  if_below true commits ns low = commits_below commits ns low
  if_below false commits ns low = λ q. below_more k (suc k) (procs q) (omega arith) (below q)

  torn_below : (falls commits : ℕ → Bool) (ns : ℕ → ℕ) → ((q : ℕ) → ns q ≤ suc k) → AreUpTo (suc k) (torn_in falls commits ns procs)
  torn_below falls commits ns low q = let more = below_more k (suc k) (procs q) (omega arith) (below q) in
      cond_below (suc k) (commits q) (torn_as (ns q) (procs q)) (each falls fallen procs q) (more.0, low q) (cond_below (suc k) (falls q) (fallen (procs q)) (procs q) more more)

  one_below : (p : ℕ) (f : Status → Status) → ((st : Status) → IsUpTo k st → IsUpTo k (f st)) → AreUpTo k (at_one p f procs)
  one_below p f same q = cond_below k (p == q) (f (procs p)) (procs q) (same (procs p) (below p)) (below q)

  each_below : (test : ℕ → Bool) (f : Status → Status) → ((st : Status) → IsUpTo k st → IsUpTo k (f st)) → AreUpTo k (each test f procs)
  each_below test f same q = cond_below k (test q) (f (procs q)) (procs q) (same (procs q) (below q)) (below q)

  log_below : (l : Bool) (x : Logged) (p : ℕ) → AreUpTo k (log_if l x p procs)
  log_below true x p = one_below p (logged x) (λ st is. is)
  log_below false x p = below

-- the numbers that a commit gives
next_below : {Mc : Type 0} (S : System Mc) (k : ℕ) (last : ℕ → ℕ) → ((q : ℕ) → last q ≤ k) → (q : ℕ) → next_numbers S last q ≤ suc k
next_below S k last below q = cond_both (is_causal S.protocol) (next_number S.guests.count last) (suc (last q)) (λ (n : ℕ). n ≤ suc k)
    (λ _. let a = largest_below S.guests.count k last below in omega arith)
    (λ _. let a = below q in omega arith)

module _ {Mc : Type 0} (S : System Mc) (c : Core) (p : ℕ) (a : Answer) (k : ℕ) (below : AreUpTo k c.procs) where
  abbrev f : Rule
  f = rule_at S c p a

  abbrev v : Company
  v = company S c p a

  one : (q : ℕ) → v.numbers_before q ≤ suc k
  one = next_below S k (numbers_of c.procs) (λ q. (below q).0)

  firsts : AreUpTo (suc k) (first f v c.procs)
  firsts = if_below k c.procs below f.before v.before v.numbers_before one

  two : (q : ℕ) → v.numbers_after q ≤ suc (suc k)
  two = next_below S (suc k) (numbers_first S c p a) (λ q. (firsts q).0)

  module _ (rep : Bool) (x : Logged) where
    seconds : AreUpTo (suc k) (second f x v p c.procs)
    seconds = log_below (suc k) (first f v c.procs) firsts f.log x p

    thirds : AreUpTo (suc k) (third f rep x v p c.procs)
    thirds = one_below (suc k) (second f x v p c.procs) seconds p (event_later rep (sets_unlogged f.log rep x.answer)) (λ st is. is)

    more : (procs : ℕ → Status) → AreUpTo (suc k) procs → AreUpTo (suc (suc k)) procs
    more procs is q = below_more (suc k) (suc (suc k)) (procs q) (omega arith) (is q)

    left_below : (w : Place) → AreUpTo (suc (suc k)) (left f rep x v p c.procs w)
    left_below Nowhere = if_below (suc k) (third f rep x v p c.procs) thirds f.after v.after v.numbers_after two
    left_below InBefore = more (torn_in v.falls v.before v.numbers_before c.procs) (torn_below k c.procs below v.falls v.before v.numbers_before one)
    left_below InLog = more (at_one p (torn_log x) (first f v c.procs)) (one_below (suc k) (first f v c.procs) firsts p (torn_log x) (λ st is. is))
    left_below InEvent = more (each v.falls fallen (second f x v p c.procs)) (each_below (suc k) (second f x v p c.procs) seconds v.falls fallen (λ st is. is))
    left_below InAfter = torn_below (suc k) (third f rep x v p c.procs) thirds v.falls v.after v.numbers_after two

rise_below : (k : ℕ) (w : Which) (st : Status) → IsUpTo k st → IsUpTo k (risen (save_of w st))
rise_below k Older st is = (is.0, is.0)
rise_below k Newer st is = (is.1, is.1)

module _ {Mc : Type 0} (S : System Mc) (t : ℕ) (c : Core) (k : ℕ) (below : AreUpTo k c.procs) where
  same_below : AreUpTo (suc (suc k)) c.procs
  same_below q = below_more k (suc (suc k)) (c.procs q) (omega arith) (below q)

  takes_below : (x : Given) (e : Event) (m : Mark) (d : Core) → Takes S c x e m d → AreUpTo (suc (suc k)) d.procs
  takes_below x e m d (w, may, is, next) = subst (λ (y : Core). AreUpTo (suc (suc k)) y.procs) (sym next)
      (left_below S c x.p x.answer k below (replays (comes S.guests (stands S.guests c x.p) x.answer) (c.procs x.p)) (record { position = (c.procs x.p).position; answer = x.answer }) w)

  same_core : (d : Core) → d ≡ c → AreUpTo (suc (suc k)) d.procs
  same_core d e = subst (λ (y : Core). AreUpTo (suc (suc k)) y.procs) (sym e) same_below

  block_below : (b : Bool) (x : Given) (e : Event) (m : Mark) (d : Core) → TakesOr b S c x e m d → AreUpTo (suc (suc k)) d.procs
  block_below true x e m d is = same_core d is.1
  block_below false x e m d is = takes_below x e m d is

  runs_below : (x : Given) (e : Event) (m : Mark) (d : Core) → Runs S c x e m d → AreUpTo (suc (suc k)) d.procs
  runs_below x AtEnd m d is = same_core d is.1
  runs_below x AtInternal m d is = block_below (is_blocked S c x.p AtInternal) x AtInternal m d is
  runs_below x AtClock m d is = block_below (is_blocked S c x.p AtClock) x AtClock m d is
  runs_below x AtRandom m d is = block_below (is_blocked S c x.p AtRandom) x AtRandom m d is
  runs_below x AtInput m d is = block_below (is_blocked S c x.p AtInput) x AtInput m d is
  runs_below x AtReceive m d is = block_below (is_blocked S c x.p AtReceive) x AtReceive m d is
  runs_below x (AtVisible body) m d is = block_below (is_blocked S c x.p (AtVisible body)) x (AtVisible body) m d is
  runs_below x (AtSend to message) m d is = block_below (is_blocked S c x.p (AtSend to message)) x (AtSend to message) m d is

  up_below : (b : Bool) (x : Given) (m : Mark) (d : Core) → RunsOr b S c x m d → AreUpTo (suc (suc k)) d.procs
  up_below true x m d is = runs_below x (comes S.guests (stands S.guests c x.p) x.answer) m d is
  up_below false x m d is = ⊎_elim
      (λ r. subst (λ (y : Core). AreUpTo (suc (suc k)) y.procs) (sym r.2) (λ q. below_more k (suc (suc k)) (each (is_with S.protocol x.p) (λ st. risen (save_of r.0 st)) c.procs q) (omega arith) (each_below k c.procs below (is_with S.protocol x.p) (λ st. risen (save_of r.0 st)) (λ st b. rise_below k r.0 st b) q)))
      (λ r. same_core d r.1)
      is

  pub turned_below : (entry : Entry) (m : Mark) (d : Core) → Turned S t c entry m d → AreUpTo (suc (suc k)) d.procs
  turned_below (Turn turn) m d is = up_below (c.procs turn.p).up (record { t = t; p = turn.p; answer = answer S.guests c turn.p turn.word turn.clock }) m d is.1
  turned_below (Stop p) m d is = subst (λ (y : Core). AreUpTo (suc (suc k)) y.procs) (sym is.1) (λ q. below_more k (suc (suc k)) (each (is_with S.protocol p) fallen c.procs q) (omega arith) (each_below k c.procs below (is_with S.protocol p) fallen (λ st b. b) q))
  turned_below Power m d is = subst (λ (y : Core). AreUpTo (suc (suc k)) y.procs) (sym is.1) same_below
