-- One process's event where all commit together: it commits nothing and logs nothing.
use Rattle.std.proofs.Common.{◌≡◌, ◌≢◌, ◌∙◌, ◌==◌, ◌<◌, ◌≤◌, ◌&&◌, ℕ, List, Bool, true, false, Ok, Option, Some, IsSomeAnd, if◌then◌else◌, refl, sym, ap, subst, arith, length, nat_lt, slice_get, slice_index, slice_set, ⊎_elim}
use Rattle.std.proofs.lemmas.Bool.{cases_eq, eq-eqb, ne_eqb, true≢false}
use Rattle.dc_acts.specs.Counted.{acts_of}
use Rattle.dc_checkpoint.specs.States.{Reading}
use Rattle.dc_checkpoint.specs.declared.checkpoint.Checkpoint as checkpoint
use Rattle.dc_elf.specs.Images.{Image}
use Rattle.dc_events.specs.declared.event.Kind.{Kind}
use Rattle.dc_guest.specs.Guest.{Guest}
use Rattle.dc_model.proofs.Own.{put_other, put_self}
use Rattle.dc_model.specs.Guests.{Answer, Event}
use Rattle.dc_model.specs.Process.{at_position, comes, local}
use Rattle.dc_model.specs.Runs.{own}
use Rattle.dc_model.specs.FailureFree.{reported}
use Rattle.dc_processes.proofs.Together.{event_together}
use Rattle.dc_proc.specs.Carried.{IsIn, process, system}
use Rattle.dc_proc.specs.Processes.{IsAt, IsProcess}
use Rattle.dc_proc.specs.Turns.{TakesTurn, acts_with}
use Rattle.dc_proc.specs.Ups.{held}
use Rattle.dc_processes.specs.Worlds.{HasLearned, Seen, WorldStands, others_of}
use Rattle.dc_proc.specs.declared.up.Up.{Up as Process}
use Rattle.dc_protocols.specs.Rules.{is_joint, rule_of}
use Rattle.dc_protocols.specs.declared.protocol.Protocol.{Protocol}
use Rattle.dc_protocols.specs.declared.protocol.Protocol.TheVariants.{Cand, CandLog, Cpvs, Cbndvs, CbndvsLog, Cpv2pc, Cbndv2pc, Cbndv2pcCausal}
use Rattle.dc_protocols.specs.declared.protocol.Since.{Since}
use Rattle.dc_recovery.proofs.Single.{acts_alone}
use Rattle.dc_recovery.proofs.Worlds.{oldest_kept, own_more_other}
use Rattle.dc_recovery.specs.Alone.{IsAnswerAlone, answers_alone, event_alone, status_alone, without_commits}
use Rattle.dc_recovery.specs.Answers.{makes_most, replays, since}
use Rattle.dc_recovery.specs.Core.{Core, Status, learned, stands}
use Rattle.dc_recovery.specs.Parts.{Place, left_of, may_stop, may_store, event_later, sets_unlogged}
use Rattle.dc_recovery.specs.Parts.Place.{InAfter, InBefore, InEvent, InLog, Nowhere}
use Rattle.dc_recovery.specs.Saves.{Logged, Save, last_at}
use Rattle.dc_recovery.specs.Systems.{System, kind_at}
use Rattle.dc_recovery.specs.Turned.{with_act}
use Rattle.dc_twophase.proofs.Laws.{Laws}
use Rattle.dc_together.proofs.Acknowledged.{numbers_stand, stands_together}
use Rattle.dc_processes.proofs.Acts.{acts_turned, own_counted}
use Rattle.dc_processes.proofs.Beside.{leaves_narrow, memory_stays, other_store, store_set}
use Rattle.dc_processes.proofs.Knowing.{same_learned}
use Rattle.dc_processes.proofs.Noting.{noted, set_beside}
use Rattle.dc_together.proofs.Owns.{here_going, known_going, over_going}
use Rattle.dc_processes.specs.Slots.{based_in, held_in, is_up, slot_at}
use Rattle.dc_processes.specs.Stages.{IsWorld, Stage, leaves_of, memory_of, numbers_of, seen_of, store_of, words_of}
use Rattle.dc_together.specs.Together.{AllGo, after_event, reads_log}
use Rattle.dc_processes.specs.declared.slot.Slot.TheVariants.{Up}

-- where all commit together, a turn of the process itself is its event alone
pub event_only : (pr : Protocol) → is_joint pr ≡ true → (kind : Kind) (since : Since) (replay : Bool) (x : Logged) (st : Status)
    → left_of (without_commits (is_joint pr) (rule_of pr kind since)) replay x st Nowhere ≡ event_later replay (sets_unlogged false replay x.answer) st
event_only Cpv2pc together kind since replay x st = refl
event_only Cbndv2pc together kind since replay x st = refl
event_only Cbndv2pcCausal together kind since replay x st = refl
event_only Cand together kind since replay x st = absurd (true≢false (sym together))
event_only CandLog together kind since replay x st = absurd (true≢false (sym together))
event_only Cpvs together kind since replay x st = absurd (true≢false (sym together))
event_only Cbndvs together kind since replay x st = absurd (true≢false (sym together))
event_only CbndvsLog together kind since replay x st = absurd (true≢false (sym together))

-- stopped in that, it keeps its save
older_event : (pr : Protocol) → is_joint pr ≡ true → (kind : Kind) (since : Since) (replay : Bool) (x : Logged) (st : Status) → (left_of (without_commits (is_joint pr) (rule_of pr kind since)) replay x st InEvent).older ≡ st.older
older_event Cpv2pc together kind since replay x st = refl
older_event Cbndv2pc together kind since replay x st = refl
older_event Cbndv2pcCausal together kind since replay x st = refl
older_event Cand together kind since replay x st = absurd (true≢false (sym together))
older_event CandLog together kind since replay x st = absurd (true≢false (sym together))
older_event Cpvs together kind since replay x st = absurd (true≢false (sym together))
older_event Cbndvs together kind since replay x st = absurd (true≢false (sym together))
older_event CbndvsLog together kind since replay x st = absurd (true≢false (sym together))

pub event_older : (S : System Guest) → is_joint S.protocol ≡ true → (p : ℕ) (answers : List Answer) (st : Status) (a : Answer) → (status_alone S p answers st a InEvent).older ≡ st.older
event_older S together p answers st a = let e = event_alone S.guests p answers st a in
    older_event S.protocol together (kind_at e) (since S.log_room e st false (makes_most S p answers st a)) (replays e st) (record { position = st.position; answer = a }) st

-- and it is stopped in its event alone, where that may store
only_event : (stores : Bool) (e : Event) (a : Answer) (w : Place) → w ≢ Nowhere → may_stop (record { before = false; log = false; after = false }) stores e a w ≡ true → (w ≡ InEvent) × ((stores && may_store e a) ≡ true)
only_event stores e a Nowhere ne may = absurd (ne refl)
only_event stores e a InBefore ne may = absurd (true≢false (sym may))
only_event stores e a InLog ne may = absurd (true≢false (sym may))
only_event stores e a InEvent ne may = (refl, may)
only_event stores e a InAfter ne may = absurd (true≢false (sym may))

pub event_place : (pr : Protocol) → is_joint pr ≡ true → (kind : Kind) (since : Since) (stores : Bool) (e : Event) (a : Answer) (w : Place) → w ≢ Nowhere → may_stop (without_commits (is_joint pr) (rule_of pr kind since)) stores e a w ≡ true
    → (w ≡ InEvent) × ((stores && may_store e a) ≡ true)
event_place Cpv2pc together kind since stores e a w ne may = only_event stores e a w ne may
event_place Cbndv2pc together kind since stores e a w ne may = only_event stores e a w ne may
event_place Cbndv2pcCausal together kind since stores e a w ne may = only_event stores e a w ne may
event_place Cand together kind since stores e a w ne may = absurd (true≢false (sym together))
event_place CandLog together kind since stores e a w ne may = absurd (true≢false (sym together))
event_place Cpvs together kind since stores e a w ne may = absurd (true≢false (sym together))
event_place Cbndvs together kind since stores e a w ne may = absurd (true≢false (sym together))
event_place CbndvsLog together kind since stores e a w ne may = absurd (true≢false (sym together))

-- what is said under some decided numbers is said under fewer
pub stands_fewer : (S : System Guest) (c : Core) (seen : ℕ → Seen) (numbers fewer : ℕ → Type 0) (leaves : ℕ → ℕ → Reading → Type 0) → ((n : ℕ) → fewer n → numbers n) → WorldStands S c seen numbers leaves → WorldStands S c seen fewer leaves
stands_fewer S c seen numbers fewer leaves less is = record { each = is.each; stores = record { one = λ p inside n counts. is.stores.one p inside n (less n counts); all = λ g n counts. is.stores.all g n (less n counts) } }

-- an event of process p, which took so many acts
module _ (S : System Guest) (t : ℕ) (c : Core) (go : AllGo S c) (p : ℕ) (a : Answer) where
  abbrev gone : Core
  gone = after_event S t c p a

  abbrev replay : Bool
  replay = reads_log S c p a

  abbrev after : Status → Status
  after = event_later replay (sets_unlogged false replay a)

  pub at_self : gone.procs p ≡ after (c.procs p)
  at_self = put_self p (after (c.procs p)) c.procs

  pub at_other : (q : ℕ) → p ≢ q → gone.procs q ≡ c.procs q
  at_other q ne = put_other p q (after (c.procs p)) c.procs ne

  pub older_still : (q : ℕ) → (gone.procs q).older ≡ (c.procs q).older
  older_still q = ⊎_elim
      (λ (same : p ≡ q). subst (λ y. (gone.procs y).older ≡ (c.procs y).older) same (ap (λ (st : Status). st.older) at_self))
      (λ (ne : p ≢ q). ap (λ (st : Status). st.older) (at_other q ne))
      (cases_eq p q)

  -- no save lies past the acts
  pub within_older : (q : ℕ) → (c.procs q).older.position ≤ length (own q c.acts)
  within_older q = let a = (go.going q).from in let b = (go.going q).within in omega (arith, a, b)

  pub within_newer : (q : ℕ) → (c.procs q).newer.position ≤ length (own q c.acts)
  within_newer q = let a = within_older q in let e = ap (λ s. s.position) (go.going q).one in omega (arith, a, e)

  -- nothing new is learned
  pub learned_still : (q s : ℕ) → learned S.guests gone q s ≡ learned S.guests c q s
  learned_still q s = ap (λ x. (at_position S.guests q x.position (own q gone.acts)).received s) (older_still q)
      ∙ ap (λ ds. (local S.guests q ds).received s) (oldest_kept S.guests t c p a go.run q (c.procs q).older.position (within_older q))

  -- stopped in it, it has learned as much as before
  pub learned_stopped : is_joint S.protocol ≡ true → (w : Place) → w ≡ InEvent → (s : ℕ) → (at_position S.guests p (status_alone S p (own p c.acts) (c.procs p) a w).older.position (answers_alone (own p c.acts) (c.procs p) a w)).received s ≡ learned S.guests c p s
  learned_stopped together w place s = ap (λ v. (at_position S.guests p (status_alone S p (own p c.acts) (c.procs p) a v).older.position (answers_alone (own p c.acts) (c.procs p) a v)).received s) place
      ∙ ap (λ (x : Save). (at_position S.guests p x.position (answers_alone (own p c.acts) (c.procs p) a InEvent)).received s) (event_older S together p (own p c.acts) (c.procs p) a)
      ∙ ap (λ ds. (at_position S.guests p (c.procs p).older.position ds).received s) (sym (acts_alone S t c p a InEvent))
      ∙ ap (λ ds. (local S.guests p ds).received s) (oldest_kept S.guests t c p a go.run p (c.procs p).older.position (within_older p))

-- the event of process p of a world
module _ {C D : Type 0} (g : checkpoint.Ghosts C D) (laws : Laws g) (images : List Image) (inputs : List (List (List ℕ))) (pr : Protocol) (together : is_joint pr ≡ true) (t : ℕ) (c : Core) (old new : Stage C D)
    (world : IsWorld g (system images inputs pr) c old) (go : AllGo (system images inputs pr) c) (p : ℕ) (inside : p < (system images inputs pr).guests.count)
    (c0 c1 : C) (at0 : store_of old p ≡ Some c0) (u0 u1 : Process) (slot0 : slot_at old.slots p ≡ Some (Up u0)) (words words1 : List ℕ) (told0 : g.contents c0 old.dev ≡ Some words) (told1 : g.contents c1 new.dev ≡ Some words1)
    (a : Answer) (given : IsAnswerAlone (system images inputs pr).guests p (own p c.acts) (c.procs p) a)
    (number : ℕ) (counts : numbers_of g old number)
    (stores_are : new.stores ≡ slice_set old.stores p c1) (index_of : (q : ℕ) (x : C) → store_of old q ≡ Some x → g.index x ≡ q) (others : (q : ℕ) → q ≢ g.index c0 → g.untouched old.dev new.dev q)
    (narrow : (d : ℕ) (r : Reading) → g.floor c0 ≤ d → g.leaves c1 new.dev d r → g.leaves c0 old.dev d r) (fewer : (n : ℕ) → numbers_of g new n → numbers_of g old n) where
  abbrev S : System Guest
  S = system images inputs pr

  abbrev d : Core
  d = after_event S t c p a

  abbrev st : Status
  st = event_later (reads_log S c p a) (sets_unlogged false (reads_log S c p a) a) (c.procs p)

  abbrev more : List Answer
  more = answers_alone (own p c.acts) (c.procs p) a Nowhere

  p_there : p < length old.slots
  p_there = subst (λ m. p < m) world.count_is inside

  here : IsAt S p (own p c.acts) (c.procs p) words (held u0)
  here = here_going g S c old go world p inside c0 at0 u0 slot0 words told0

  known : (q : ℕ) → q < S.guests.count → slice_index u0.others q ≡ others_of S.guests c p q
  known q less = known_going g S c old go world p inside c0 at0 u0 slot0 words told0 q less

  -- under a decided number the floor of its store is no higher
  low : (n : ℕ) → numbers_of g old n → g.floor c0 ≤ n
  low n is = subst (λ o. IsSomeAnd o (λ z. g.floor z ≤ n)) at0 ((world.decided together).held n p is p_there (ap is_up slot0)).1

  stood : WorldStands S c (seen_of g old) (numbers_of g old) (leaves_of g old)
  stood = numbers_stand g S c old together world.stands

  over : IsIn g S p (own p c.acts) (c.procs p) number (process c0 old.dev (held u0))
  over = over_going g S together c old go world p inside c0 at0 u0 slot0 words told0 number counts

  narrow_all : (q n : ℕ) → numbers_of g new n → (r : Reading) → leaves_of g new q n r → leaves_of g old q n r
  narrow_all q n is r l = leaves_narrow g laws old new p c0 c1 stores_are index_of at0 others narrow q n (low n (fewer n is)) r l

  store_new : store_of new p ≡ Some c1
  store_new = ap (λ xs. slice_get xs p) stores_are ∙ store_set old.stores p c0 c1 at0

  memory_new : memory_of g (store_of new p) new.dev ≡ Some words1
  memory_new = ap (λ o. memory_of g o new.dev) store_new ∙ told1

  module _ (goes : TakesTurn g pr a (process c0 old.dev (held u0)) (process c1 new.dev (held u1))) where
    over_next : IsIn g S p more (status_alone S p (own p c.acts) (c.procs p) a Nowhere) number (process c1 new.dev (held u1))
    over_next = goes images inputs p (own p c.acts) (c.procs p) number words (low number counts) told0 over given

    status_is : status_alone S p (own p c.acts) (c.procs p) a Nowhere ≡ st
    status_is = event_only pr together _ _ (reads_log S c p a) (record { position = (c.procs p).position; answer = a }) (c.procs p)

    more_is : own p (with_act t c p a) ≡ more
    more_is = acts_alone S t c p a Nowhere

    at_next : IsAt S p (own p (with_act t c p a)) st words1 (held u1)
    at_next = subst (λ (x : Status). IsAt S p (own p (with_act t c p a)) x words1 (held u1)) status_is
        (subst (λ ds. IsAt S p ds (status_alone S p (own p c.acts) (c.procs p) a Nowhere) words1 (held u1)) (sym more_is)
        (subst (λ o. IsProcess S p more (status_alone S p (own p c.acts) (c.procs p) a Nowhere) o (held u1)) told1 over_next.process))

    module _ (slot1 : slot_at new.slots p ≡ Some (Up u1)) (slots_same : (q : ℕ) → q ≢ p → slot_at new.slots q ≡ slot_at old.slots q) (others_same : u1.others ≡ u0.others) where
      abbrev u : Seen
      u = record { words = words1; held = held u1 }

      known_next : (q : ℕ) → q < S.guests.count → slice_index u1.others q ≡ others_of S.guests d p q
      known_next q less = ap (λ xs. slice_index xs q) others_same ∙ known q less ∙ sym (learned_still S t c go p a q p)

      seen_self : (x : Seen) → x ≡ seen_of g new p → x.words ≡ words1 → x.held ≡ held u1 → HasLearned S.guests.count (others_of S.guests d p) u x
      seen_self x is ws hs = same_learned S p (own p (with_act t c p a)) st (others_of S.guests d p) u at_next x ws hs known_next

      seen_other : (q : ℕ) → q < S.guests.count → p ≢ q → HasLearned S.guests.count (others_of S.guests d q) (seen_of g old q) (seen_of g new q)
      seen_other q less ne = let was = world.stands.each q less (go.going q).up in
          same_learned S q (own q c.acts) (c.procs q) (others_of S.guests d q) (seen_of g old q) was.here (seen_of g new q) (ap words_of (memory_stays g laws old new p c0 c1 stores_are index_of at0 others q ne))
          (ap held_in (slots_same q (λ e. ne (sym e)))) (λ r there. was.known r there ∙ sym (learned_still S t c go p a r q))

      stands_next : WorldStands S d (seen_of g new) (numbers_of g new) (leaves_of g new)
      stands_next = event_together S t c go.run p a c.lines (reads_log S c p a) (sets_unlogged false (reads_log S c p a) a) (within_older S t c go p a) (within_newer S t c go p a)
          (seen_of g old) (seen_of g new) (numbers_of g new) (leaves_of g old) (leaves_of g new) u (stands_fewer S c (seen_of g old) (numbers_of g old) (numbers_of g new) (leaves_of g old) fewer stood)
          (λ _. (at_next, λ q less. let k = known q less in let e = ap (λ xs. slice_index xs q) others_same in omega (arith, k, e)))
          inside (λ q n is r l. narrow_all q n is r l)
          (λ q less on. ⊎_elim
          (λ (same : p ≡ q). subst (λ z. HasLearned S.guests.count (others_of S.guests d z) (if p == z then u else seen_of g old z) (seen_of g new z)) same
          (subst (λ b. HasLearned S.guests.count (others_of S.guests d p) (if b then u else seen_of g old p) (seen_of g new p)) (sym (eq-eqb p p refl)) (seen_self (seen_of g new p) refl (ap words_of memory_new) (ap held_in slot1))))
          (λ (ne : p ≢ q). subst (λ b. HasLearned S.guests.count (others_of S.guests d q) (if b then u else seen_of g old q) (seen_of g new q)) (sym (ne_eqb p q ne)) (seen_other q less ne))
          (cases_eq p q))

      module _ (long : length new.slots ≡ length old.slots) (protocol : new.protocol ≡ old.protocol) (inputs_same : new.inputs ≡ old.inputs) (acts_are : new.acts ≡ acts_with old.acts u0.kernel t a)
          (ex : Bool) (ex_is : (c.procs p).position ≡ length (own p c.acts) → S.exposes (comes S.guests (stands S.guests c p) a) ≡ ex) (exposed_long : length old.exposed ≡ length old.slots)
          (exposed_are : new.exposed ≡ (if ex && nat_lt (acts_of p old.acts) (acts_of p new.acts) then slice_set old.exposed p (acts_of p new.acts) else old.exposed))
          (lines_are : new.lines ≡ old.lines) (commit_same : u1.kernel.commit ≡ u0.kernel.commit) (floor_less : g.floor c1 ≤ g.floor c0)
          (steady : IsSomeAnd (store_of new 0) (λ z. g.steady z new.dev)) where
        acts_next : new.acts ≡ reported d.acts
        acts_next = acts_are ∙ sym (acts_turned t c p a old.acts u0.kernel here.kernel_is.position here.kernel_is.p_is world.acts_are (go.going p).within)

        counted_old : acts_of p old.acts ≡ length (own p c.acts)
        counted_old = ap (acts_of p) (sym world.acts_are) ∙ own_counted p c.acts

        counted_new : acts_of p new.acts ≡ length more
        counted_new = ap (acts_of p) acts_next ∙ own_counted p d.acts ∙ ap (λ xs. length xs) more_is

        exposed_next : (q : ℕ) → q < S.guests.count → slice_index new.exposed q ≡ last_at S.exposes S.guests q (own q d.acts)
        exposed_next q less = ⊎_elim
            (λ (same : p ≡ q). subst (λ y. slice_index new.exposed y ≡ last_at S.exposes S.guests y (own y d.acts)) same
            (noted S p (own p c.acts) (c.procs p) a old.exposed new.exposed (acts_of p old.acts) (acts_of p new.acts) ex (subst (λ m. p < m) (sym exposed_long) p_there) (world.exposed_are p inside) (go.going p).within counted_old counted_new ex_is exposed_are
            ∙ ap (last_at S.exposes S.guests p) (sym more_is)))
            (λ (ne : p ≢ q). ap (λ xs. slice_index xs q) exposed_are ∙ set_beside (ex && nat_lt (acts_of p old.acts) (acts_of p new.acts)) old.exposed p q (acts_of p new.acts) ne ∙ world.exposed_are q less
            ∙ ap (last_at S.exposes S.guests q) (sym (own_more_other S.guests t c p a go.run q ne)))
            (cases_eq p q)

        slot_next : {A : Type 0} (part : Option _ → A) (same : part (Some (Up u1)) ≡ part (Some (Up u0))) (q : ℕ) → part (slot_at new.slots q) ≡ part (slot_at old.slots q)
        slot_next part same q = ⊎_elim
            (λ (e : p ≡ q). subst (λ y. part (slot_at new.slots y) ≡ part (slot_at old.slots y)) e (ap part slot1 ∙ same ∙ ap part (sym slot0)))
            (λ (ne : p ≢ q). ap part (slots_same q (λ e. ne (sym e))))
            (cases_eq p q)

        based_next : (q s : ℕ) → q < S.guests.count → s < S.guests.count → slice_index (based_in (slot_at new.slots q)) s ≡ learned S.guests d q s
        based_next q s less there = ⊎_elim
            (λ (same : p ≡ q). subst (λ y. slice_index (based_in (slot_at new.slots y)) s ≡ learned S.guests d y s) same
            (ap (λ x. slice_index (based_in x) s) slot1 ∙ at_next.based_is s there ∙ ap (λ (x : Status). (at_position S.guests p x.older.position (own p d.acts)).received s) (sym (at_self S t c go p a))))
            (λ (ne : p ≢ q). ap (λ x. slice_index (based_in x) s) (slots_same q (λ e. ne (sym e))) ∙ world.based_are q s less there ∙ sym (learned_still S t c go p a q s))
            (cases_eq p q)

        up_next : (q : ℕ) → (d.procs q).up ≡ (c.procs q).up
        up_next q = ⊎_elim
            (λ (same : p ≡ q). subst (λ y. (d.procs y).up ≡ (c.procs y).up) same (ap (λ (x : Status). x.up) (at_self S t c go p a)))
            (λ (ne : p ≢ q). ap (λ (x : Status). x.up) (at_other S t c go p a q ne))
            (cases_eq p q)

        -- the world stands for the core after it
        pub world_happened : IsWorld g S (after_event S t c p a) new
        world_happened = record {
          count_is = world.count_is ∙ sym long;
          protocol_is = world.protocol_is ∙ sym protocol;
          seven = world.seven;
          inputs_are = λ q. world.inputs_are q ∙ rw inputs_same refl;
          stands = stands_together g S d new together stands_next;
          up_are = λ q less. up_next q ∙ world.up_are q less ∙ sym (slot_next is_up refl q);
          based_are = based_next;
          acts_are = sym acts_next;
          exposed_are = exposed_next;
          lines_are = world.lines_are ∙ sym lines_are;
          numbered = λ alone. absurd (true≢false (sym together ∙ alone));
          undecided = λ alone. absurd (true≢false (sym together ∙ alone));
          decided = λ _. let was = world.decided together in record {
            least = was.least;
            steady = steady;
            saved = λ n q s is less l. was.saved n q s (fewer n is) (subst (λ m. q < m) long less) (narrow_all q n is (Ok s) l);
            held = λ n q is less on. let before = was.held n q (fewer n is) (subst (λ m. q < m) long less) (sym (slot_next is_up refl q) ∙ on) in (
              slot_next (λ x. (held_in x).kernel.commit) commit_same q ∙ before.0,
              floor_next n q (fewer n is) (subst (λ m. q < m) long less) before.1,
            );
            few = λ n q is less off. absurd (true≢false (sym (go.going q).up ∙ world.up_are q (subst (λ m. q < m) (long ∙ sym world.count_is) less) ∙ sym (slot_next is_up refl q) ∙ off));
          };
        }
          where
            floor_next : (n q : ℕ) → numbers_of g old n → q < length old.slots → IsSomeAnd (store_of old q) (λ z. g.floor z ≤ n) → IsSomeAnd (store_of new q) (λ z. g.floor z ≤ n)
            floor_next n q is less before = ⊎_elim
                (λ (same : p ≡ q). subst (λ y. IsSomeAnd (store_of new y) (λ z. g.floor z ≤ n)) same (subst (λ o. IsSomeAnd o (λ z. g.floor z ≤ n)) (sym store_new) (let l = low n is in omega (arith, l, floor_less))))
                (λ (ne : p ≢ q). subst (λ o. IsSomeAnd o (λ z. g.floor z ≤ n)) (sym (other_store g laws old new p c0 c1 stores_are index_of at0 others q ne)) before)
                (cases_eq p q)
