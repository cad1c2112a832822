-- Where all processes commit together a turn is its parts in a row: a commit of all or none, one process's event, a commit of all or none.
use Rattle.std.proofs.Common.{◌≡◌, ◌≢◌, ◌∙◌, ◌<◌, ◌≤◌, ◌++◌, ◌&&◌, ℕ, suc, List, [], Bool, true, false, not, refl, sym, ap, subst, arith, inl, inr, length, length-append, ⊎_elim, if◌then◌else◌}
use Rattle.std.proofs.lemmas.Bool.{cases_eq, cases_lt, true≢false}
use Rattle.dc_checkpoint.specs.declared.checkpoint.Checkpoint as checkpoint
use Rattle.dc_elf.specs.Images.{Image}
use Rattle.dc_events.specs.declared.event.Kind.{Kind}
use Rattle.dc_guest.specs.Guest.{Guest}
use Rattle.dc_model.specs.Guests.{Answer, is_request}
use Rattle.dc_model.specs.Process.{comes, shown}
use Rattle.dc_model.specs.Runs.{Given, own}
use Rattle.dc_model.specs.declared.entry.Entry.{Entry}
use Rattle.dc_model.specs.declared.visible.Visible.{Visible}
use Rattle.dc_proc.specs.Carried.{system}
use Rattle.dc_proc.specs.Processes.{IsGoing}
use Rattle.dc_protocols.specs.Rules.{is_causal, is_joint, rule_of}
use Rattle.dc_protocols.specs.declared.protocol.Protocol.{Protocol}
use Rattle.dc_protocols.specs.declared.protocol.Protocol.TheVariants.{Cand, CandLog, Cpvs, Cbndvs, CbndvsLog, Cpv2pc, Cbndv2pc, Cbndv2pcCausal}
use Rattle.dc_protocols.specs.declared.protocol.Since.{Since}
use Rattle.dc_protocols.specs.declared.protocol.Rule.{Rule}
use Rattle.dc_recovery.proofs.Given.{IsGiven}
use Rattle.dc_recovery.proofs.Parts.{with_all}
use Rattle.dc_recovery.proofs.Pieces.{after_pieces, event_pieces, whole_pieces}
use Rattle.dc_recovery.proofs.Sorts.{grown_new}
use Rattle.dc_recovery.proofs.Worlds.{more_old, own_more, own_more_other, run_more}
use Rattle.dc_recovery.proofs.Rows.{global_no_log}
use Rattle.dc_recovery.specs.Alone.{IsAnswerAlone}
use Rattle.dc_recovery.specs.Answers.{any_at, makes_most, replays, rule_at, since, stores_at}
use Rattle.dc_recovery.specs.Core.{Core, Status, numbers_of, stands, untied}
use Rattle.dc_recovery.specs.Invariant.{Holds}
use Rattle.dc_recovery.specs.Parts.{Company, Place, at_one, commit_if, each, fallen, may_stop, may_store, number_after, event_later, sets_unlogged, torn}
use Rattle.dc_recovery.specs.Parts.Place.{InAfter, InBefore, InEvent, Nowhere}
use Rattle.dc_recovery.specs.Saves.{Logged, is_empty_log}
use Rattle.dc_recovery.specs.Systems.{System, kind_at}
use Rattle.dc_recovery.specs.Ties.{company, numbers_first, tied, tied_left, tied_third}
use Rattle.dc_recovery.specs.Turned.{after_turn, with_act}
use Rattle.dc_processes.proofs.Alls.{commits_all, each_all, event_numbers, members_all, next_free, torn_all}
use Rattle.dc_together.proofs.Happened.{at_other, at_self}
use Rattle.dc_processes.specs.Stages.{IsTold, IsWorld, Stage}
use Rattle.dc_together.specs.Together.{AllGo, Breaks, Happens, IsAskedAt, Makes, after_broken_event, after_event, all_torn, commit_core, reads_log}
use Rattle.dc_processes.specs.Slots.{is_up, slot_at}
use Rattle.dc_together.proofs.Leading.{Leads, told_later}
use Rattle.dc_processes.specs.Turns.{FellTogether, WentTogether, later}

-- with these lines
abbrev pub showing : Core → List Visible → Core
showing c lines = record { acts = c.acts; lines = lines; procs = c.procs; ties = c.ties }

-- where one of them is up, each goes on
pub go_all : (S : System Guest) (schedule : List Entry) (t : ℕ) (c : Core) → is_joint S.protocol ≡ true → Holds S schedule t c → (p : ℕ) → (c.procs p).up ≡ true → AllGo S c
go_all S schedule t c together now p up = record {
  run = now.run;
  going = λ q. let on : (c.procs q).up ≡ true = (now.joint together).together q p ∙ up in let is = ((now.behind q).running on).ok in record { up = on; one = is.one; from = is.from; within = is.within };
}

pub go_committed : (S : System Guest) (c : Core) (b : Bool) → AllGo S c → AllGo S (commit_core b c)
go_committed S c true go = record { run = go.run; going = λ q. record { up = (go.going q).up; one = refl; from = omega arith; within = (go.going q).within } }
go_committed S c false go = go

module _ (S : System Guest) (together : is_joint S.protocol ≡ true) (free : is_causal S.protocol ≡ false) (t : ℕ) (c : Core) (p : ℕ) (a : Answer) (off : (rule_at S c p a).log ≡ false) (unread : (c.procs p).unread ≡ []) where
  abbrev rule : Rule
  rule = rule_at S c p a

  abbrev replay : Bool
  replay = replays (comes S.guests (stands S.guests c p) a) (c.procs p)

  abbrev x : Logged
  x = record { position = (c.procs p).position; answer = a }

  -- a commit leaves nothing to read, as it was
  reads_same : (b : Bool) → reads_log S (commit_core b c) p a ≡ replay
  reads_same true = ap (λ u. is_request (comes S.guests (stands S.guests c p) a) && not (is_empty_log u)) (sym unread)
  reads_same false = refl

  abbrev all_fallen : (ℕ → Status) → ℕ → Status
  all_fallen procs q = fallen (procs q)

  abbrev all_torn_of : (ℕ → Status) → ℕ → Status
  all_torn_of procs q = torn (procs q)

  abbrev v : Company
  v = company S c p a

  commit_all : (b : Bool) (d : Core) (test : ℕ → Bool) (ns : ℕ → ℕ) → ((q : ℕ) → test q ≡ true) → ((q : ℕ) → ns q ≡ number_after (d.procs q)) → (commit_core b d).procs ≡ commit_if b test ns d.procs
  commit_all true d test ns all next = sym (commits_all test ns d.procs all next)
  commit_all false d test ns all next = refl

  commit_ties : (b : Bool) (d : Core) → d.ties ≡ untied → (commit_core b d).ties ≡ untied
  commit_ties true d e = refl
  commit_ties false d e = e

  -- all commit, each under the number after its last
  before_all : (q : ℕ) → v.before q ≡ true
  before_all q = members_all S free together c.ties (numbers_of c.procs) p q

  after_all : (q : ℕ) → v.after q ≡ true
  after_all q = members_all S free together (tied_third S c p a) (numbers_first S c p a) p q

  one_is : (q : ℕ) → v.numbers_before q ≡ number_after (c.procs q)
  one_is q = next_free S free (numbers_of c.procs) q

  firsts_are : (commit_core rule.before c).procs ≡ commit_if rule.before v.before v.numbers_before c.procs
  firsts_are = commit_all rule.before c v.before v.numbers_before before_all one_is

  abbrev thirds : ℕ → Status
  thirds = at_one p (event_later replay (sets_unlogged rule.log replay a)) (commit_if rule.before v.before v.numbers_before c.procs)

  two_is : (q : ℕ) → v.numbers_after q ≡ number_after (thirds q)
  two_is q = next_free S free (numbers_first S c p a) q ∙ event_numbers p (event_later replay (sets_unlogged rule.log replay a)) (commit_if rule.before v.before v.numbers_before c.procs) (λ st. refl) q

  falls_all : (q : ℕ) → v.falls q ≡ true
  falls_all q = with_all S.protocol p q together

  tied_is : (w : Place) → tied S c p a w ≡ untied
  tied_is w = ap (λ (b : Bool). if b then tied_left S c p a w else untied) free

  commit_acts : (b : Bool) (d : Core) → (commit_core b d).acts ≡ d.acts
  commit_acts true d = refl
  commit_acts false d = refl

  act_same : (b : Bool) → with_act t (commit_core b c) p a ≡ with_act t c p a
  act_same true = refl
  act_same false = refl

  -- the processes after the event
  event_procs : (after_event S t (commit_core rule.before c) p a).procs ≡ thirds
  event_procs = ap (λ r. at_one p (event_later r (sets_unlogged false r a)) (commit_core rule.before c).procs) (reads_same rule.before) ∙ ap (λ procs. at_one p (event_later replay (sets_unlogged false replay a)) procs) firsts_are
      ∙ ap (λ l. at_one p (event_later replay (sets_unlogged l replay a)) (commit_if rule.before v.before v.numbers_before c.procs)) (sym off)

  abbrev mid : Core
  mid = after_event S t (commit_core rule.before c) p a

  mid_acts : mid.acts ≡ with_act t c p a
  mid_acts = act_same rule.before

  same_core : (d e : Core) → d.acts ≡ e.acts → d.lines ≡ e.lines → d.procs ≡ e.procs → d.ties ≡ e.ties → d ≡ e
  same_core d e acts lines procs ties = λ i. record { acts = acts i; lines = lines i; procs = procs i; ties = ties i }

  -- it went whole
  pub whole_is : showing (commit_core rule.after mid) (shown S.guests p (stands S.guests c p) a ++ c.lines) ≡ after_turn S t c p a Nowhere
  whole_is = same_core _ _ (commit_acts rule.after mid ∙ mid_acts) refl
      (commit_all rule.after mid v.after v.numbers_after after_all (λ q. two_is q ∙ ap (λ (procs : ℕ → Status). number_after (procs q)) (sym event_procs)) ∙ ap (λ procs. commit_if rule.after v.after v.numbers_after procs) event_procs ∙ sym (whole_pieces v rule off replay x p c.procs))
      (commit_ties rule.after mid refl ∙ sym (tied_is Nowhere))

  -- stopped in the commit before, in the event, or in the commit after
  pub before_is : all_torn c ≡ after_turn S t c p a InBefore
  before_is = same_core _ _ refl refl (sym (torn_all v.falls v.before v.numbers_before c.procs before_all one_is)) (sym (tied_is InBefore))

  fallen_first : (λ q. fallen ((commit_core rule.before c).procs q)) ≡ each v.falls fallen (commit_if rule.before v.before v.numbers_before c.procs)
  fallen_first = ap all_fallen firsts_are ∙ sym (each_all v.falls fallen (commit_if rule.before v.before v.numbers_before c.procs) falls_all)

  commit_lines : (b : Bool) → (commit_core b c).lines ≡ c.lines
  commit_lines true = refl
  commit_lines false = refl

  pub event_is : after_broken_event t (commit_core rule.before c) p a ≡ after_turn S t c p a InEvent
  event_is = same_core _ _ (act_same rule.before) (commit_lines rule.before) (fallen_first ∙ sym (event_pieces v rule off replay x p c.procs)) (sym (tied_is InEvent))

  pub after_is : all_torn mid ≡ after_turn S t c p a InAfter
  after_is = same_core _ _ mid_acts (commit_lines rule.before)
      (ap all_torn_of event_procs ∙ sym (torn_all v.falls v.after v.numbers_after thirds after_all two_is)
      ∙ sym (after_pieces v rule off replay x p c.procs))
      (sym (tied_is InAfter))

-- an event leaves each going on
module _ (S : System Guest) (t : ℕ) (c : Core) (go : AllGo S c) (p : ℕ) (a : Answer) (given : IsGiven S.guests c p a) where
  longer : suc (c.procs p).position ≤ length (own p (with_act t c p a))
  longer = let within = (go.going p).within in ⊎_elim
      (λ (low : (c.procs p).position < length (own p c.acts)). let e = ap (λ (acts : List Given). length (own p acts)) (more_old S.guests t c p a go.run low) in omega (arith, e, low))
      (λ (high : length (own p c.acts) ≤ (c.procs p).position). let last : (c.procs p).position ≡ length (own p c.acts) = omega (arith, within, high) in
      let e = ap (λ ds. length ds) (own_more S.guests t c p a go.run ∙ grown_new (c.procs p).position (own p c.acts) a last) in omega (arith, e, last))
      (cases_lt (c.procs p).position (length (own p c.acts)))

  pub go_event : AllGo S (after_event S t c p a)
  go_event = record {
    run = run_more S.guests t c p a go.run given;
    going = λ q. ⊎_elim
        (λ (same : p ≡ q). subst (λ y. IsGoing (own y (with_act t c p a)) ((after_event S t c p a).procs y)) same (subst (IsGoing (own p (with_act t c p a))) (sym (at_self S t c go p a)) (record {
          up = (go.going p).up;
          one = (go.going p).one;
          from = (let f = (go.going p).from in omega (arith, f));
          within = longer;
        })))
        (λ (ne : p ≢ q). subst (λ ds. IsGoing ds ((after_event S t c p a).procs q)) (sym (own_more_other S.guests t c p a go.run q ne)) (subst (IsGoing (own q c.acts)) (sym (at_other S t c go p a q ne)) (go.going q)))
        (cases_eq p q);
  }

-- a world whose lines were counted stands for the core with these lines more
pub world_shown : {C D : Type 0} (g : checkpoint.Ghosts C D) (S : System Guest) (together : is_joint S.protocol ≡ true) (c : Core) (x : Stage C D) (n : ℕ) (more : List Visible) (lines : List Visible) → length more ≡ n → length lines ≡ x.lines
    → IsWorld g S c x → IsWorld g S (showing c (more ++ lines)) (later n x)
world_shown g S together c x n more lines long was world = record {
  count_is = world.count_is;
  protocol_is = world.protocol_is;
  seven = world.seven;
  inputs_are = world.inputs_are;
  stands = record { each = λ p less on. record { here = (world.stands.each p less on).here; known = (world.stands.each p less on).known }; stores = record { one = world.stands.stores.one; all = world.stands.stores.all } };
  up_are = world.up_are;
  based_are = world.based_are;
  acts_are = world.acts_are;
  exposed_are = world.exposed_are;
  lines_are = let l = length-append more lines in omega (arith, l, long, was);
  numbered = λ alone. absurd (true≢false (sym together ∙ alone));
  undecided = λ alone. absurd (true≢false (sym together ∙ alone));
  decided = λ is. let d = world.decided is in record { least = d.least; steady = d.steady; saved = d.saved; held = d.held; few = λ m p counts inside off. let most = d.few m p counts inside off in omega (arith, most) };
}

-- what is asked of all logs nothing
never_logs : (pr : Protocol) → is_joint pr ≡ true → (kind : Kind) (since : Since) → (rule_of pr kind since).log ≡ false
never_logs Cpv2pc together kind since = refl
never_logs Cbndv2pc together kind since = refl
never_logs Cbndv2pcCausal together kind since = refl
never_logs Cand together kind since = absurd (true≢false (sym together))
never_logs CandLog together kind since = absurd (true≢false (sym together))
never_logs Cpvs together kind since = absurd (true≢false (sym together))
never_logs Cbndvs together kind since = absurd (true≢false (sym together))
never_logs CbndvsLog together kind since = absurd (true≢false (sym together))

-- parts of a turn under the inputs and the protocol of the first stage
module _ {C D : Type 0} (g : checkpoint.Ghosts C D) (images : List Image) (inputs : List (List (List ℕ))) (pr : Protocol) (x y : Stage C D) (inputs_are : x.inputs ≡ inputs) (protocol_is : x.protocol ≡ pr) where
  abbrev T : System Guest
  T = system images inputs pr

  makes_under : (change : Core → Core) → Makes g change x y → (c : Core) → is_joint pr ≡ true → IsTold g x → AllGo T c → IsWorld g T c x → IsWorld g T (change c) y
  makes_under change makes = subst (λ ins. (c : Core) → is_joint pr ≡ true → IsTold g x → AllGo (system images ins pr) c → IsWorld g (system images ins pr) c x → IsWorld g (system images ins pr) (change c) y) inputs_are
      (subst (λ q. (c : Core) → is_joint q ≡ true → IsTold g x → AllGo (system images x.inputs q) c → IsWorld g (system images x.inputs q) c x → IsWorld g (system images x.inputs q) (change c) y) protocol_is (λ c. makes images c))

  happens_under : (p : ℕ) (a : Answer) (change : System Guest → Core → Core) → Happens g p a change x y → (c : Core) → is_joint pr ≡ true → IsTold g x → AllGo T c → p < T.guests.count → IsAnswerAlone T.guests p (own p c.acts) (c.procs p) a
      → IsWorld g T c x → IsWorld g T (change T c) y
  happens_under p a change happens = subst (λ ins. (c : Core) → is_joint pr ≡ true → IsTold g x → AllGo (system images ins pr) c → p < (system images ins pr).guests.count → IsAnswerAlone (system images ins pr).guests p (own p c.acts) (c.procs p) a
      → IsWorld g (system images ins pr) c x → IsWorld g (system images ins pr) (change (system images ins pr) c) y) inputs_are
      (subst (λ q. (c : Core) → is_joint q ≡ true → IsTold g x → AllGo (system images x.inputs q) c → p < (system images x.inputs q).guests.count → IsAnswerAlone (system images x.inputs q).guests p (own p c.acts) (c.procs p) a
      → IsWorld g (system images x.inputs q) c x → IsWorld g (system images x.inputs q) (change (system images x.inputs q) c) y) protocol_is (λ c. happens images c))

  breaks_under : (p : ℕ) (a : Answer) → Breaks g p a x y → (c : Core) → is_joint pr ≡ true → IsTold g x → AllGo T c → p < T.guests.count → IsAnswerAlone T.guests p (own p c.acts) (c.procs p) a
      → IsWorld g T c x → ((stores_at T.guests c p a && may_store (comes T.guests (stands T.guests c p) a) a) ≡ true) × IsWorld g T (after_broken_event x.entries c p a) y
  breaks_under p a breaks = subst (λ ins. (c : Core) → is_joint pr ≡ true → IsTold g x → AllGo (system images ins pr) c → p < (system images ins pr).guests.count → IsAnswerAlone (system images ins pr).guests p (own p c.acts) (c.procs p) a
      → IsWorld g (system images ins pr) c x → ((stores_at (system images ins pr).guests c p a && may_store (comes (system images ins pr).guests (stands (system images ins pr).guests c p) a) a) ≡ true) × IsWorld g (system images ins pr) (after_broken_event x.entries c p a) y) inputs_are
      (subst (λ q. (c : Core) → is_joint q ≡ true → IsTold g x → AllGo (system images x.inputs q) c → p < (system images x.inputs q).guests.count → IsAnswerAlone (system images x.inputs q).guests p (own p c.acts) (c.procs p) a
      → IsWorld g (system images x.inputs q) c x → ((stores_at (system images x.inputs q).guests c p a && may_store (comes (system images x.inputs q).guests (stands (system images x.inputs q).guests c p) a) a) ≡ true) × IsWorld g (system images x.inputs q) (after_broken_event x.entries c p a) y) protocol_is (λ c. breaks images c))

-- a turn of process p, wherever the run has come to, by its parts
module _ {C D : Type 0} (g : checkpoint.Ghosts C D) (images : List Image) (old : Stage C D) (together : is_joint old.protocol ≡ true) (schedule : List Entry) (c : Core) (now : Holds (system images old.inputs old.protocol) schedule old.entries c)
    (told : IsTold g old) (world : IsWorld g (system images old.inputs old.protocol) c old) (p : ℕ) (inside : p < (system images old.inputs old.protocol).guests.count) (up : (c.procs p).up ≡ true)
    (a : Answer) (given : IsGiven (system images old.inputs old.protocol).guests c p a) (asked : Rule) (asked_is : asked ≡ rule_at (system images old.inputs old.protocol) c p a) where
  abbrev S : System Guest
  S = system images old.inputs old.protocol

  go : AllGo S c
  go = go_all S schedule old.entries c together now p up

  off : (rule_at S c p a).log ≡ false
  off = let e = comes S.guests (stands S.guests c p) a in never_logs old.protocol together (kind_at e) (since S.log_room e (c.procs p) (any_at S c p) (makes_most S p (own p c.acts) (c.procs p) a))

  unread : (c.procs p).unread ≡ []
  unread = ((now.behind p).running up).ok.no_log (global_no_log old.protocol together)

  given_first : (b : Bool) → IsGiven S.guests (commit_core b c) p a
  given_first true = given
  given_first false = given

  given_alone : (d : Core) → IsGiven S.guests d p a → IsAnswerAlone S.guests p (own p d.acts) (d.procs p) a
  given_alone d is = ⊎_elim (λ x. inl x) (λ x. inr (x.0, x.1)) is

  -- stopped in the commit before it
  before_fell : (new : Stage C D) → asked.before ≡ true → Makes g all_torn old new
      → (may_stop (rule_at S c p a) (stores_at S.guests c p a) (comes S.guests (stands S.guests c p) a) a InBefore ≡ true) × IsWorld g S (after_turn S old.entries c p a InBefore) new
  before_fell new due torn = (
    ap (λ (r : Rule). r.before) (sym asked_is) ∙ due,
    subst (λ d. IsWorld g S d new) (before_is S together world.seven.0 old.entries c p a off unread) (torn images c together told go world),
  )

  -- after that
  module _ (mid : Stage C D) (first : Makes g (commit_core asked.before) old mid) (inputs_mid : mid.inputs ≡ old.inputs) (protocol_mid : mid.protocol ≡ old.protocol) (entries_mid : mid.entries ≡ old.entries) (told_mid : IsTold g mid) where
    abbrev b : Bool
    b = (rule_at S c p a).before

    world_mid : IsWorld g S (commit_core b c) mid
    world_mid = subst (λ (r : Rule). IsWorld g S (commit_core r.before c) mid) asked_is (first images c together told go world)

    go_mid : AllGo S (commit_core b c)
    go_mid = go_committed S c b go

    -- stopped in the event
    event_fell : (new : Stage C D) → Breaks g p a mid new → (may_stop (rule_at S c p a) (stores_at S.guests c p a) (comes S.guests (stands S.guests c p) a) a InEvent ≡ true) × IsWorld g S (after_turn S old.entries c p a InEvent) new
    event_fell new breaks = let broke = breaks_under g images old.inputs old.protocol mid new inputs_mid protocol_mid p a breaks (commit_core b c) together told_mid go_mid inside (given_alone (commit_core b c) (given_first b)) world_mid in (
      stores_same b broke.0,
      subst (λ d. IsWorld g S d new) (event_is S together world.seven.0 old.entries c p a off unread) (subst (λ t. IsWorld g S (after_broken_event t (commit_core b c) p a) new) entries_mid broke.1),
    )
      where
        stores_same : (x : Bool) → (stores_at S.guests (commit_core x c) p a && may_store (comes S.guests (stands S.guests (commit_core x c) p) a) a) ≡ true → (stores_at S.guests c p a && may_store (comes S.guests (stands S.guests c p) a) a) ≡ true
        stores_same true is = is
        stores_same false is = is

    -- and after the event
    module _ (gone : Stage C D) (event : Happens g p a (λ S d. after_event S mid.entries d p a) mid gone) (inputs_gone : gone.inputs ≡ old.inputs) (protocol_gone : gone.protocol ≡ old.protocol) (told_gone : IsTold g gone) where
      abbrev after : Core
      after = after_event S old.entries (commit_core b c) p a

      world_gone : IsWorld g S after gone
      world_gone = subst (λ t. IsWorld g S (after_event S t (commit_core b c) p a) gone) entries_mid
          (happens_under g images old.inputs old.protocol mid gone inputs_mid protocol_mid p a (λ S d. after_event S mid.entries d p a) event (commit_core b c) together told_mid go_mid inside (given_alone (commit_core b c) (given_first b)) world_mid)

      go_gone : AllGo S after
      go_gone = go_event S old.entries (commit_core b c) go_mid p a (given_first b)

      -- stopped in the commit after it
      after_fell : (new : Stage C D) → asked.after ≡ true → Makes g all_torn gone new → (may_stop (rule_at S c p a) (stores_at S.guests c p a) (comes S.guests (stands S.guests c p) a) a InAfter ≡ true) × IsWorld g S (after_turn S old.entries c p a InAfter) new
      after_fell new due torn = (
        ap (λ (r : Rule). r.after) (sym asked_is) ∙ due,
        subst (λ d. IsWorld g S d new) (after_is S together world.seven.0 old.entries c p a off unread) (makes_under g images old.inputs old.protocol gone new inputs_gone protocol_gone all_torn torn after together told_gone go_gone world_gone),
      )

      -- it went whole
      whole_went : (last : Stage C D) (n : ℕ) → Makes g (commit_core asked.after) gone last → length (shown S.guests p (stands S.guests c p) a) ≡ n → IsWorld g S (after_turn S old.entries c p a Nowhere) (later n last)
      whole_went last n second long =
          let world_last : IsWorld g S (commit_core (rule_at S c p a).after after) last = subst (λ (r : Rule). IsWorld g S (commit_core r.after after) last) asked_is
          (makes_under g images old.inputs old.protocol gone last inputs_gone protocol_gone (commit_core asked.after) second after together told_gone go_gone world_gone) in
          subst (λ d. IsWorld g S d (later n last)) (whole_is S together world.seven.0 old.entries c p a off unread)
          (world_shown g S together (commit_core (rule_at S c p a).after after) last n (shown S.guests p (stands S.guests c p) a) c.lines long (sym (lines_same (rule_at S c p a).after after ∙ lines_same b c) ∙ world_last.lines_are) world_last)
        where
          lines_same : (x : Bool) (d : Core) → length (commit_core x d).lines ≡ length d.lines
          lines_same true d = refl
          lines_same false d = refl

-- the code asks what the theory asks of process p, which is up
pub record Asks {C D : Type 0} (g : checkpoint.Ghosts C D) (old : Stage C D) (p : ℕ) (a : Answer) (asked : Rule) : Type 0 where
  pub asked_at : IsAskedAt g p a old asked
  pub on : is_up (slot_at old.slots p) ≡ true

-- such a turn, whatever core the world stands for
module _ {C D : Type 0} {g : checkpoint.Ghosts C D} {old : Stage C D} {p : ℕ} {a : Answer} {asked : Rule} (asks : Asks g old p a asked) where
  pub fell_before : (new : Stage C D) → asked.before ≡ true → Makes g all_torn old new → FellTogether g old new p a
  fell_before new due torn images schedule c together told now world inside given =
      let up : (c.procs p).up ≡ true = world.up_are p inside ∙ asks.on in
      let asked_is = asks.asked_at images c together told (go_all (system images old.inputs old.protocol) schedule old.entries c together now p up) inside world in
      let fell = before_fell g images old together schedule c now told world p inside up a given asked asked_is new due torn in
      (InBefore, λ e. absurd (let no : ⊥ = cc in no), fell.0, fell.1)

  module _ {mid : Stage C D} (first : Makes g (commit_core asked.before) old mid) (leads : Leads g old mid) where
    pub fell_event : (new : Stage C D) → Breaks g p a mid new → FellTogether g old new p a
    fell_event new breaks images schedule c together told now world inside given =
        let up : (c.procs p).up ≡ true = world.up_are p inside ∙ asks.on in
        let asked_is = asks.asked_at images c together told (go_all (system images old.inputs old.protocol) schedule old.entries c together now p up) inside world in
        let fell = event_fell g images old together schedule c now told world p inside up a given asked asked_is mid first leads.inputs leads.protocol leads.entries (told_later leads told) new breaks in
        (InEvent, λ e. absurd (let no : ⊥ = cc in no), fell.0, fell.1)

    module _ {gone : Stage C D} (event : Happens g p a (λ S d. after_event S mid.entries d p a) mid gone) (on_it : Leads g mid gone) where
      pub fell_after : (new : Stage C D) → asked.after ≡ true → Makes g all_torn gone new → FellTogether g old new p a
      fell_after new due torn images schedule c together told now world inside given =
          let up : (c.procs p).up ≡ true = world.up_are p inside ∙ asks.on in
          let asked_is = asks.asked_at images c together told (go_all (system images old.inputs old.protocol) schedule old.entries c together now p up) inside world in
          let fell = after_fell g images old together schedule c now told world p inside up a given asked asked_is mid first leads.inputs leads.protocol leads.entries (told_later leads told) gone event
          (on_it.inputs ∙ leads.inputs) (on_it.protocol ∙ leads.protocol) (told_later on_it (told_later leads told)) new due torn in
          (InAfter, λ e. absurd (let no : ⊥ = cc in no), fell.0, fell.1)

      pub went_whole : (last : Stage C D) (n : ℕ) → Makes g (commit_core asked.after) gone last
          → ((images : List Image) (c : Core) → IsTold g old → AllGo (system images old.inputs old.protocol) c → p < (system images old.inputs old.protocol).guests.count → IsWorld g (system images old.inputs old.protocol) c old
          → length (shown (system images old.inputs old.protocol).guests p (stands (system images old.inputs old.protocol).guests c p) a) ≡ n)
          → WentTogether g old (later n last) p a
      went_whole last n second long images schedule c together told now world inside given =
          let up : (c.procs p).up ≡ true = world.up_are p inside ∙ asks.on in
          let go = go_all (system images old.inputs old.protocol) schedule old.entries c together now p up in
          whole_went g images old together schedule c now told world p inside up a given asked (asks.asked_at images c together told go inside world) mid first leads.inputs leads.protocol leads.entries (told_later leads told) gone event
          (on_it.inputs ∙ leads.inputs) (on_it.protocol ∙ leads.protocol) (told_later on_it (told_later leads told)) last n second (long images c told go inside world)
