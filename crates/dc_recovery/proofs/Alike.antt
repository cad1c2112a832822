-- Where all commit together, the saves of all have one number, the older of all and the newer of all.
use Rattle.std.proofs.Common.{List, ◌≡◌, ◌∙◌, ◌==◌, ℕ, suc, Bool, true, false, if◌then◌else◌, refl, sym, ap, subst, ⊎_elim}
use Rattle.dc_model.specs.Guests.{Answer, Event}
use Rattle.dc_model.specs.Guests.Event.{AtClock, AtEnd, AtInput, AtInternal, AtRandom, AtReceive, AtSend, AtVisible}
use Rattle.dc_model.specs.Process.{comes}
use Rattle.dc_model.specs.Runs.{Given}
use Rattle.dc_model.specs.declared.entry.Entry.{Entry}
use Rattle.dc_model.specs.declared.entry.Entry.TheVariants.{Power, Stop, Turn}
use Rattle.dc_model.specs.declared.mark.Mark.{Mark}
use Rattle.dc_protocols.specs.Rules.{is_causal, is_joint}
use Rattle.dc_protocols.specs.declared.protocol.Rule.{Rule}
use Rattle.dc_recovery.proofs.Parts.{commits_yes, each_yes, members_free, with_all}
use Rattle.dc_recovery.specs.Answers.{answer, is_blocked, replays, rule_at}
use Rattle.dc_recovery.specs.Core.{Core, Status, Which, numbers_of, save_of, stands}
use Rattle.dc_recovery.specs.Core.Which.{Newer, Older}
use Rattle.dc_recovery.specs.Invariant.{Holds}
use Rattle.dc_recovery.specs.Numbers.{ShareNumbers, HasNumbers}
use Rattle.dc_recovery.specs.Parts.{Company, Place, commit_if, commits_in, each, fallen, first, is_with, left, log_if, logged, event_later, risen, second, sets_unlogged, third, torn_in, torn_log}
use Rattle.dc_recovery.specs.Parts.Place.{InAfter, InBefore, InEvent, InLog, Nowhere}
use Rattle.dc_recovery.specs.Saves.{Logged}
use Rattle.dc_recovery.specs.Systems.{System}
use Rattle.dc_recovery.specs.Ties.{company, next_numbers, numbers_first, tied_third}
use Rattle.dc_recovery.specs.Turned.{Runs, RunsOr, Takes, TakesOr, Turned}

cond_numbered : (k m : ℕ) (b : Bool) (x y : Status) → HasNumbers k m x → HasNumbers k m y → HasNumbers k m (if b then x else y)
cond_numbered k m true x y a b = a
cond_numbered k m false x y a b = b

module _ {Mc : Type 0} (S : System Mc) (g : is_joint S.protocol ≡ true) (free : is_causal S.protocol ≡ false) (c : Core) (p : ℕ) (a : Answer) (k : ℕ) (same : (q : ℕ) → HasNumbers k k (c.procs q)) where
  abbrev f : Rule
  f = rule_at S c p a

  abbrev v : Company
  v = company S c p a

  before_all : (q : ℕ) → v.before q ≡ true
  before_all q = members_free S c.ties (numbers_of c.procs) p free q ∙ with_all S.protocol p q g

  after_all : (q : ℕ) → v.after q ≡ true
  after_all q = members_free S (tied_third S c p a) (numbers_first S c p a) p free q ∙ with_all S.protocol p q g

  next_free : (last : ℕ → ℕ) (q : ℕ) → next_numbers S last q ≡ suc (last q)
  next_free last q = rw free refl

  one_is : (q : ℕ) → v.numbers_before q ≡ suc k
  one_is q = next_free (numbers_of c.procs) q ∙ ap suc (same q).0

  commits_same : (commits : ℕ → Bool) (ns : ℕ → ℕ) (procs : ℕ → Status) (n : ℕ) → ((q : ℕ) → commits q ≡ true) → ((q : ℕ) → ns q ≡ n) → (q : ℕ) → HasNumbers n n (commits_in commits ns procs q)
  commits_same commits ns procs n all is q = rw (commits_yes commits ns procs q (all q)) (is q, is q)

  torn_same : (falls commits : ℕ → Bool) (ns : ℕ → ℕ) (procs : ℕ → Status) (j n : ℕ) → ((q : ℕ) → commits q ≡ true) → ((q : ℕ) → ns q ≡ n) → ((q : ℕ) → HasNumbers j j (procs q)) → (q : ℕ) → HasNumbers j n (torn_in falls commits ns procs q)
  torn_same falls commits ns procs j n all is was q = rw (all q) ((was q).0, is q)

  firsts_at : (b : Bool) → (j : ℕ) × ((q : ℕ) → HasNumbers j j (commit_if b v.before v.numbers_before c.procs q))
  firsts_at true = (suc k, commits_same v.before v.numbers_before c.procs (suc k) before_all one_is)
  firsts_at false = (k, same)

  abbrev j : ℕ
  j = (firsts_at f.before).0

  firsts : (q : ℕ) → HasNumbers j j (first f v c.procs q)
  firsts = (firsts_at f.before).1

  two_is : (q : ℕ) → v.numbers_after q ≡ suc j
  two_is q = next_free (numbers_first S c p a) q ∙ ap suc (firsts q).0

  module _ (rep : Bool) (x : Logged) where
    log_same : (l : Bool) (q : ℕ) → HasNumbers j j (log_if l x p (first f v c.procs) q)
    log_same true q = cond_numbered j j (p == q) (logged x (first f v c.procs p)) (first f v c.procs q) (firsts p) (firsts q)
    log_same false q = firsts q

    seconds : (q : ℕ) → HasNumbers j j (second f x v p c.procs q)
    seconds = log_same f.log

    thirds : (q : ℕ) → HasNumbers j j (third f rep x v p c.procs q)
    thirds q = cond_numbered j j (p == q) (event_later rep (sets_unlogged f.log rep x.answer) (second f x v p c.procs p)) (second f x v p c.procs q) (seconds p) (seconds q)

    last_at : (b : Bool) → ShareNumbers (commit_if b v.after v.numbers_after (third f rep x v p c.procs))
    last_at true = (suc j, suc j, commits_same v.after v.numbers_after (third f rep x v p c.procs) (suc j) after_all two_is)
    last_at false = (j, j, thirds)

    left_alike : (w : Place) → ShareNumbers (left f rep x v p c.procs w)
    left_alike Nowhere = last_at f.after
    left_alike InBefore = (k, suc k, torn_same v.falls v.before v.numbers_before c.procs k (suc k) before_all one_is same)
    left_alike InLog = (j, j, λ q. cond_numbered j j (p == q) (torn_log x (first f v c.procs p)) (first f v c.procs q) ((firsts p).0, (firsts p).1) (firsts q))
    left_alike InEvent = (j, j, λ q. cond_numbered j j (v.falls q) (fallen (second f x v p c.procs q)) (second f x v p c.procs q) (seconds q) (seconds q))
    left_alike InAfter = (j, suc j, torn_same v.falls v.after v.numbers_after (third f rep x v p c.procs) j (suc j) after_all two_is thirds)

module _ {Mc : Type 0} (S : System Mc) (g : is_joint S.protocol ≡ true) (free : is_causal S.protocol ≡ false) (schedule : List Entry) (t : ℕ) (c : Core) (now : Holds S schedule t c) (alike : ShareNumbers c.procs) where
  same_core : (d : Core) → d ≡ c → ShareNumbers d.procs
  same_core d e = subst (λ (y : Core). ShareNumbers y.procs) (sym e) alike

  takes_alike : (x : Given) (e : Event) (m : Mark) (d : Core) → (c.procs x.p).up ≡ true → Takes S c x e m d → ShareNumbers d.procs
  takes_alike x e m d up (w, may, is, next) =
      let one = ((now.behind x.p).running up).ok.one in
      let km : alike.1 ≡ alike.0 = sym (alike.2 x.p).1 ∙ ap (λ s. s.number) one ∙ (alike.2 x.p).0 in
      subst (λ (y : Core). ShareNumbers y.procs) (sym next)
      (left_alike S g free c x.p x.answer alike.0 (λ q. ((alike.2 q).0, (alike.2 q).1 ∙ km)) (replays (comes S.guests (stands S.guests c x.p) x.answer) (c.procs x.p)) (record { position = (c.procs x.p).position; answer = x.answer }) w)

  block_alike : (b : Bool) (x : Given) (e : Event) (m : Mark) (d : Core) → (c.procs x.p).up ≡ true → TakesOr b S c x e m d → ShareNumbers d.procs
  block_alike true x e m d up is = same_core d is.1
  block_alike false x e m d up is = takes_alike x e m d up is

  runs_alike : (x : Given) (e : Event) (m : Mark) (d : Core) → (c.procs x.p).up ≡ true → Runs S c x e m d → ShareNumbers d.procs
  runs_alike x AtEnd m d up is = same_core d is.1
  runs_alike x AtInternal m d up is = block_alike (is_blocked S c x.p AtInternal) x AtInternal m d up is
  runs_alike x AtClock m d up is = block_alike (is_blocked S c x.p AtClock) x AtClock m d up is
  runs_alike x AtRandom m d up is = block_alike (is_blocked S c x.p AtRandom) x AtRandom m d up is
  runs_alike x AtInput m d up is = block_alike (is_blocked S c x.p AtInput) x AtInput m d up is
  runs_alike x AtReceive m d up is = block_alike (is_blocked S c x.p AtReceive) x AtReceive m d up is
  runs_alike x (AtVisible body) m d up is = block_alike (is_blocked S c x.p (AtVisible body)) x (AtVisible body) m d up is
  runs_alike x (AtSend to message) m d up is = block_alike (is_blocked S c x.p (AtSend to message)) x (AtSend to message) m d up is

  risen_alike : (k : Which) → ShareNumbers (λ q. risen (save_of k (c.procs q)))
  risen_alike Older = (alike.0, alike.0, λ q. ((alike.2 q).0, (alike.2 q).0))
  risen_alike Newer = (alike.1, alike.1, λ q. ((alike.2 q).1, (alike.2 q).1))

  each_alike : (test : ℕ → Bool) (h : Status → Status) → ((q : ℕ) → test q ≡ true) → ShareNumbers (λ q. h (c.procs q)) → ShareNumbers (each test h c.procs)
  each_alike test h all is = (is.0, is.1, λ q. subst (HasNumbers is.0 is.1) (sym (each_yes test h c.procs q (all q))) (is.2 q))

  up_alike : (b : Bool) (x : Given) (m : Mark) (d : Core) → (c.procs x.p).up ≡ b → RunsOr b S c x m d → ShareNumbers d.procs
  up_alike true x m d up is = runs_alike x (comes S.guests (stands S.guests c x.p) x.answer) m d up is
  up_alike false x m d up is = ⊎_elim
      (λ r. subst (λ (y : Core). ShareNumbers y.procs) (sym r.2) (each_alike (is_with S.protocol x.p) (λ st. risen (save_of r.0 st)) (λ q. with_all S.protocol x.p q g) (risen_alike r.0)))
      (λ r. same_core d r.1)
      is

  pub turned_alike : (entry : Entry) (m : Mark) (d : Core) → Turned S t c entry m d → ShareNumbers d.procs
  turned_alike (Turn turn) m d is = up_alike (c.procs turn.p).up (record { t = t; p = turn.p; answer = answer S.guests c turn.p turn.word turn.clock }) m d refl is.1
  turned_alike (Stop p) m d is = subst (λ (y : Core). ShareNumbers y.procs) (sym is.1) (each_alike (is_with S.protocol p) fallen (λ q. with_all S.protocol p q g) (alike.0, alike.1, alike.2))
  turned_alike Power m d is = subst (λ (y : Core). ShareNumbers y.procs) (sym is.1) (alike.0, alike.1, alike.2)
