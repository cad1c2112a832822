-- A recovery of all under one decided number: the choice of saves that it made, and what each process then is.
use Rattle.std.proofs.Common.{◌≡◌, ◌≢◌, ◌∙◌, ◌-◌, ◌+◌, ◌*◌, ◌^◌, ◌<◌, ◌≤◌, ◌⊎◌, ◌&&◌, ◌∷◌, ℕ, zero, suc, List, [], Bool, true, false, Ok, Err, Option, None, Some, IsSomeAnd, refl, sym, ap, subst, arith, if◌then◌else◌, inl, inr, length, map, max, nat_lt, not, slice_get, slice_index, ⊎_elim}
use Rattle.std.proofs.lemmas.Bool.{cases_eq, cases_lt, ne_eqb, true≢false}
use Rattle.std.proofs.lemmas.Option.{slice_get_past}
use Rattle.dc_acts.specs.Counted.{cut_acts}
use Rattle.dc_checkpoint.specs.States.{Gives, Reading, State, number_in}
use Rattle.dc_checkpoint.specs.declared.checkpoint.Checkpoint as checkpoint
use Rattle.dc_elf.specs.Images.{Image}
use Rattle.dc_guest.specs.Guest.{Guest, coming, guests_of, started}
use Rattle.dc_kernel.specs.Kernels.{Kernel}
use Rattle.dc_kernel.specs.Texts.{text_of}
use Rattle.dc_checkpoint.specs.declared.faults.StoreFault.{StoreFault}
use Rattle.dc_checkpoint.specs.declared.faults.StoreFault.TheVariants as fault
use Rattle.dc_kernel.specs.declared.saved.Saved.{Saved}
use Rattle.dc_model.specs.Guests.{Answer, Guests, is_clock, is_input, is_random, is_receive, is_sure}
use Rattle.dc_model.specs.Guests.Answer.{Plain, Clock, Random, InputNone, InputNext, InputEnd, ReceiveNone, ReceiveFrom}
use Rattle.dc_model.specs.Guests.Event.{AtEnd}
use Rattle.dc_model.specs.Process.{Local, fits, is_next_input, local, oldest}
use Rattle.dc_model.specs.Runs.{Given, IsRun, own, state}
use Rattle.dc_model.specs.FailureFree.{reported}
use Rattle.dc_model.specs.declared.entry.Entry.{Entry}
use Rattle.dc_model.specs.declared.entry.Entry.TheVariants as entry
use Rattle.dc_model.specs.declared.entry.Turn.{Turn}
use Rattle.dc_model.specs.declared.mark.Mark.{Mark}
use Rattle.dc_model.specs.declared.mark.Mark.TheVariants as mark
use Rattle.dc_proc.proofs.Texts.{number_is}
use Rattle.dc_processes.proofs.Together.{saves_move}
use Rattle.dc_proc.specs.Carried.{system}
use Rattle.dc_proc.specs.Downs.{RisesAt}
use Rattle.dc_proc.specs.Events.{HasCountsFor}
use Rattle.dc_proc.specs.Processes.{Held, IsAt, IsProcess, IsSavedAs, logged_of, reading_of}
use Rattle.dc_processes.specs.Worlds.{StoresStand, WorldStands, others_of}
use Rattle.dc_protocols.specs.Rules.{is_joint}
use Rattle.dc_recovery.proofs.Parts.{with_all}
use Rattle.dc_recovery.proofs.Saves.{reach_within}
use Rattle.dc_recovery.proofs.Sound.{sound_system}
use Rattle.dc_recovery.proofs.Spans.{oldest_length}
use Rattle.dc_recovery.specs.Answers.{answer}
use Rattle.dc_recovery.specs.Core.{Core, Which, save_of}
use Rattle.dc_recovery.specs.Core.Which.{Older, Newer}
use Rattle.dc_recovery.specs.Invariant.{Holds}
use Rattle.dc_recovery.specs.Parts.{risen}
use Rattle.dc_recovery.specs.Saves.{Save, cut, log_end, reach}
use Rattle.dc_recovery.specs.Systems.{IsSound, System}
use Rattle.dc_recovery.specs.Turned.{Recovers, RunsOr, Turned, after_rise, reaches}
use Rattle.dc_processes.proofs.Alls.{sure_none}
use Rattle.dc_together.proofs.Acknowledged.{numbers_stand, stands_together}
use Rattle.dc_processes.proofs.Acts.{own_counted}
use Rattle.dc_processes.proofs.Counting.{counts_for, oldest_less, own_less}
use Rattle.dc_together.proofs.Cuts.{cut_first, cut_next, upto, upto_low}
use Rattle.dc_processes.proofs.Cutting.{cut_agree, own_count}
use Rattle.dc_together.proofs.Rejoined.{one_reading, world_rejoined}
use Rattle.dc_together.specs.Joints.{cut_below}
use Rattle.dc_processes.specs.Processes.{LearnsBelow}
use Rattle.dc_processes.specs.Slots.{based_in, held_in, is_up, slot_at}
use Rattle.dc_processes.specs.Stages.{AreDecided, IsWorld, Stage, leaves_of, memory_of, numbers_of, seen_of, store_of, words_of}
use Rattle.dc_processes.specs.Turns.{IsTurned, marked}
use Rattle.dc_processes.specs.declared.slot.Slot.{Slot}

-- acts that are cut of one process after the other
cut_below_is : (reach_of : ℕ → ℕ) (acts : List Given) (n : ℕ) → cut_below n reach_of (reported acts) ≡ reported (cut (upto n reach_of acts) acts)
cut_below_is reach_of acts zero = ap reported (sym (cut_first reach_of acts))
cut_below_is reach_of acts (suc n) = ap (cut_acts n (reach_of n)) (cut_below_is reach_of acts n) ∙ cut_next reach_of acts n

-- nothing fits a guest that has ended
fits_none : (G : Guests Guest) (q : ℕ) (l : Local Guest) (a : Answer) → G.next l.machine ≡ AtEnd → fits G q l a ≡ false
fits_none G q l Plain e = ap is_sure e
fits_none G q l (Clock v) e = ap is_clock e
fits_none G q l (Random v) e = ap is_random e
fits_none G q l InputNone e = ap is_input e
fits_none G q l (InputNext bytes) e = ap (λ x. is_input x && is_next_input bytes (slice_get (G.inputs q) l.inputs_taken)) e
fits_none G q l InputEnd e = ap (λ x. is_input x && not (nat_lt l.inputs_taken (length (G.inputs q)))) e
fits_none G q l ReceiveNone e = ap is_receive e
fits_none G q l (ReceiveFrom s message) e = ap is_receive e

-- no act is of a process past the last
own_past : (images : List Image) (inputs : List (List (List ℕ))) (acts : List Given) → IsRun (guests_of images inputs) acts → (q : ℕ) → length images ≤ q → own q acts ≡ []
own_past images inputs [] run q past = refl
own_past images inputs (x ∷ acts) run q past = step (own_past images inputs acts run.0 q past)
  where
    ended : own q acts ≡ [] → (guests_of images inputs).next (state (guests_of images inputs) acts q).machine ≡ AtEnd
    ended none = ap (λ ds. (guests_of images inputs).next (local (guests_of images inputs) q ds).machine) none ∙ ap (λ o. coming (started q (length images) o)) (slice_get_past images q past)

    step : own q acts ≡ [] → own q (x ∷ acts) ≡ []
    step none = ⊎_elim
        (λ (same : x.p ≡ q). let fits_q = subst (λ z. fits (guests_of images inputs) z (state (guests_of images inputs) acts z) x.answer ≡ true) same run.1.fitting in
        absurd (true≢false (sym fits_q ∙ fits_none (guests_of images inputs) q (state (guests_of images inputs) acts q) x.answer (ended none))))
        (λ (ne : x.p ≢ q). rw (ne_eqb x.p q ne) none)
        (cases_eq x.p q)

module _ {C D : Type 0} (g : checkpoint.Ghosts C D) (images : List Image) (old new : Stage C D) (together : is_joint old.protocol ≡ true) (c : Core) (world : IsWorld g (system images old.inputs old.protocol) c old)
    (fewer : (n : ℕ) → numbers_of g new n → numbers_of g old n) (narrow : (q n : ℕ) → numbers_of g new n → (r : Reading) → leaves_of g new q n r → leaves_of g old q n r)
    (steady : IsSomeAnd (store_of new 0) (λ z. g.steady z new.dev)) (long : length new.slots ≡ length old.slots) where
  abbrev S : System Guest
  S = system images old.inputs old.protocol

  stood : WorldStands S c (seen_of g old) (numbers_of g old) (leaves_of g old)
  stood = numbers_stand g S c old together world.stands

  -- the stores stand for no more than before
  stores_stand : StoresStand S c (numbers_of g new) (leaves_of g new)
  stores_stand = saves_move S c c (λ q. (c.procs q).older) (λ q. (c.procs q).newer) (numbers_of g old) (numbers_of g new) (leaves_of g old) (leaves_of g new) (λ q s. omega arith) fewer narrow (λ q. refl) (λ q. refl) stood.stores

  inside : (q : ℕ) → q < S.guests.count → q < length old.slots
  inside q less = subst (λ m. q < m) world.count_is less

  number_saved : (n q : ℕ) (s : State) → numbers_of g new n → q < length old.slots → leaves_of g new q n (Ok s) → number_in s.kernel ≡ max (world.decided together).least n
  number_saved n q s is less left = (world.decided together).saved n q s (fewer n is) less (narrow q n is (Ok s) left)

  -- no reading of a store is a refusal
  pub none_refused : (q n : ℕ) → q < S.guests.count → numbers_of g new n → (r : Reading) → leaves_of g new q n r → (why : StoreFault) → r ≡ Err why → ⊥
  none_refused q n less is r left why e = ⊎_elim none none (stores_stand.one q less n is r left)
    where
      none : {s : Save} → IsSavedAs S.guests q (own q c.acts) (others_of S.guests c q) s r → ⊥
      none saved = let no : Err why ≡ reading_of saved.0 = sym e ∙ saved.1 in absurd (let n : ⊥ = cc in n)

  -- a turn of one that is down
  turned_down : (off : (q : ℕ) → q < length old.slots → is_up (slot_at old.slots q) ≡ false) (turn : Turn) (there : turn.p < length old.slots) (m : Mark) (d : Core) → Recovers S c turn.p m d → Turned S old.entries c (entry.Turn turn) m d
  turned_down off turn there m d recovers =
      let less : turn.p < S.guests.count = subst (λ k. turn.p < k) (sym world.count_is) there in
      (less, subst (λ (b : Bool). RunsOr b S c (record { t = old.entries; p = turn.p; answer = answer S.guests c turn.p turn.word turn.clock }) m d) (sym (world.up_are turn.p less ∙ off turn.p there)) recovers)

  -- stopped in it, all stay down: the world stands for the core as it was
  world_stays : (off : (q : ℕ) → q < length old.slots → is_up (slot_at old.slots q) ≡ false) → new.slots ≡ old.slots → new.protocol ≡ old.protocol → new.inputs ≡ old.inputs → new.acts ≡ old.acts → new.exposed ≡ old.exposed
      → new.lines ≡ old.lines → new.left ≤ old.left → IsWorld g S c new
  world_stays off slots protocol inputs acts exposed lines left = record {
    count_is = world.count_is ∙ sym long;
    protocol_is = world.protocol_is ∙ sym protocol;
    seven = world.seven;
    inputs_are = λ q. world.inputs_are q ∙ rw inputs refl;
    stands = stands_together g S c new together (record { each = λ q less on. absurd (true≢false (sym on ∙ world.up_are q less ∙ off q (inside q less))); stores = stores_stand });
    up_are = λ q less. world.up_are q less ∙ ap (λ xs. is_up (slot_at xs q)) (sym slots);
    based_are = λ q s less there. ap (λ xs. slice_index (based_in (slot_at xs q)) s) slots ∙ world.based_are q s less there;
    acts_are = world.acts_are ∙ sym acts;
    exposed_are = λ q less. ap (λ xs. slice_index xs q) exposed ∙ world.exposed_are q less;
    lines_are = world.lines_are ∙ sym lines;
    numbered = λ alone. absurd (true≢false (sym together ∙ alone));
    undecided = λ alone. absurd (true≢false (sym together ∙ alone));
    decided = λ _. record {
      least = (world.decided together).least;
      steady = steady;
      saved = λ n q s is less left. number_saved n q s is (subst (λ m. q < m) long less) left;
      held = λ n q is less on. absurd (true≢false (sym on ∙ ap (λ xs. is_up (slot_at xs q)) slots ∙ off q (subst (λ m. q < m) long less)));
      few = λ n q is less down. let low = (world.decided together).few n q (fewer n is) (subst (λ m. q < m) long less) (off q (subst (λ m. q < m) long less)) in omega (arith, low, left);
    };
  }

  -- and it is a turn of the theory that was stopped
  pub stopped_so : (turn : Turn) (there : turn.p < length old.slots) (off : (q : ℕ) → q < length old.slots → is_up (slot_at old.slots q) ≡ false) → new.slots ≡ old.slots → new.protocol ≡ old.protocol → new.inputs ≡ old.inputs → new.acts ≡ old.acts
      → new.exposed ≡ old.exposed → new.lines ≡ old.lines → new.left ≤ old.left → IsTurned g images c old new (entry.Turn turn) (marked mark.Stopped None)
  stopped_so turn there off slots protocol inputs acts exposed lines left = record {
    after = c;
    turned = turned_down off turn there mark.Stopped c (inr (refl, refl));
    lines_are = refl;
    stands = world_stays off slots protocol inputs acts exposed lines left;
  }

  module _ (n : ℕ) (is : numbers_of g new n) (only : (e : ℕ) → numbers_of g new e → e ≡ n) (v : ℕ → Saved) (some : (q : ℕ) → q < S.guests.count → (r : Reading) × leaves_of g new q n r)
      (given : (q : ℕ) → q < S.guests.count → (r : Reading) → leaves_of g new q n r → Gives (memory_of g (store_of new q) new.dev) (v q) r) where
    abbrev pick : (q : ℕ) → (q < S.guests.count) ⊎ (S.guests.count ≤ q) → Reading
    pick q (inl less) = (some q less).0
    pick q (inr past) = Err fault.Kernel

    picked : (q : ℕ) (x : (q < S.guests.count) ⊎ (S.guests.count ≤ q)) → q < S.guests.count → leaves_of g new q n (pick q x)
    picked q (inl less) here = (some q less).1
    picked q (inr past) here = absurd (omega (arith, past, here))

    -- what each store stands for
    abbrev reading : ℕ → Reading
    reading q = pick q (cases_lt q S.guests.count)

    read : (q : ℕ) → q < S.guests.count → leaves_of g new q n (reading q)
    read q less = picked q (cases_lt q S.guests.count) less

    chosen : (k : Which) × ((q : ℕ) → q < S.guests.count → IsSavedAs S.guests q (own q c.acts) (others_of S.guests c q) (save_of k (c.procs q)) (reading q))
    chosen = ⊎_elim (λ f. (Older, f)) (λ f. (Newer, f)) (stores_stand.all together n is reading read)

    -- one choice for all
    abbrev choice : Which
    choice = chosen.0

    -- each reading of each store is the save of that choice
    saved_as : (q : ℕ) → q < S.guests.count → (e : ℕ) → numbers_of g new e → (r : Reading) → leaves_of g new q e r → IsSavedAs S.guests q (own q c.acts) (others_of S.guests c q) (save_of choice (c.procs q)) r
    saved_as q less e counts r left =
        let here : leaves_of g new q n r = subst (λ m. leaves_of g new q m r) (only e counts) left in
        subst (λ x. IsSavedAs S.guests q (own q c.acts) (others_of S.guests c q) (save_of choice (c.procs q)) x)
        (one_reading (memory_of g (store_of new q) new.dev) (v q) (reading q) r (given q less (reading q) (read q less)) (given q less r here)) (chosen.1 q less)

    -- the number of each is the decided one
    commit_is : (q : ℕ) → q < S.guests.count → (v q).kernel.commit ≡ max (world.decided together).least n
    commit_is q less =
        let save = chosen.1 q less in
        let is_saved : reading q ≡ reading_of save.0 = save.1 in
        let left : leaves_of g new q n (reading_of save.0) = subst (leaves_of g new q n) is_saved (read q less) in
        let kernel = (given q less (reading_of save.0) left).kernel_is in
        sym (number_is (v q).kernel) ∙ ap number_in (sym kernel) ∙ number_saved n q (record { memory = save.0.words; kernel = text_of save.0.kernel; log = save.0.log }) is (inside q less) left

    -- up again, all are of that number
    pub decided_risen : ((q : ℕ) → q < length old.slots → is_up (slot_at new.slots q) ≡ true) → ((q : ℕ) → q < length old.slots → (held_in (slot_at new.slots q)).kernel.commit ≡ (v q).kernel.commit)
        → ((q : ℕ) → q < length old.slots → IsSomeAnd (store_of new q) (λ z. g.floor z ≤ n)) → AreDecided g new
    decided_risen up commits floors = record {
      least = (world.decided together).least;
      steady = steady;
      saved = λ e q s counts less left. number_saved e q s counts (within q less) left;
      held = λ e q counts less on. (
        commits q (within q less) ∙ commit_is q (subst (λ m. q < m) (sym world.count_is) (within q less)) ∙ ap (max (world.decided together).least) (sym (only e counts)),
        subst (λ m. IsSomeAnd (store_of new q) (λ z. g.floor z ≤ m)) (sym (only e counts)) (floors q (within q less)),
      );
      few = λ e q counts less down. absurd (true≢false (sym (up q (within q less)) ∙ down));
    }
      where
        within : (q : ℕ) → q < length new.slots → q < length old.slots
        within q less = subst (λ m. q < m) long less

    module _ (schedule : List Entry) (now : Holds S schedule old.entries c) (held : ℕ → Held) (rises : (q : ℕ) → q < S.guests.count → RisesAt (v q) (held q))
        (told : (q : ℕ) → q < S.guests.count → memory_of g (store_of new q) new.dev ≡ Some (words_of (memory_of g (store_of new q) new.dev))) where
      sound : IsSound S
      sound = sound_system S.guests old.protocol 8 64 (omega arith)

      abbrev save : ℕ → Save
      save q = save_of choice (c.procs q)

      abbrev kept : ℕ → List Answer
      kept q = oldest (reach S q (own q c.acts) (save q)) (own q c.acts)

      reached : (q : ℕ) (k : Which) → reach S q (own q c.acts) (save_of k (c.procs q)) ≤ length (own q c.acts)
      reached q Older = reach_within S sound q (own q c.acts) (c.procs q).older (now.behind q).older
      reached q Newer = reach_within S sound q (own q c.acts) (c.procs q).newer (now.behind q).newer

      abbrev IsBack : ℕ → Type 0
      IsBack q = IsProcess S q (kept q) (risen (save q)) (memory_of g (store_of new q) new.dev) (held q) × ((r : ℕ) → r < S.guests.count → slice_index (held q).others r ≤ others_of S.guests c q r)

      back : (q : ℕ) → q < S.guests.count → IsBack q
      back q less = rises q less images old.inputs old.protocol q (own q c.acts) (others_of S.guests c q) (save q) (memory_of g (store_of new q) new.dev) (reading q) (given q less (reading q) (read q less)) (chosen.1 q less) (reached q choice)

      -- each is at that save
      risen_at : (q : ℕ) → q < S.guests.count → IsAt S q (kept q) (risen (save q)) (words_of (memory_of g (store_of new q) new.dev)) (held q)
      risen_at q less = subst (λ o. IsProcess S q (kept q) (risen (save q)) o (held q)) (told q less) (back q less).0

      small : (q r : ℕ) → q < S.guests.count → r < S.guests.count → slice_index (held q).others r ≤ others_of S.guests c q r
      small q r less there = (back q less).1 r there

      module _ (off : (q : ℕ) → q < length old.slots → is_up (slot_at old.slots q) ≡ false) (few : length old.acts ≤ old.entries) (room : old.entries + old.left ≤ 1000000) (some_left : 0 < old.left) where
        few_own : (q : ℕ) → length (own q c.acts) ≤ old.entries
        few_own q =
            let counted = own_counted q c.acts in
            let less = own_less q (reported c.acts) in
            let same = ap (λ xs. length xs) world.acts_are in
            omega (arith, counted, less, same, few)

        -- its counts have room for the turns that are left
        pub counts_left : (q : ℕ) → q < S.guests.count → (held q).kernel ≡ (v q).kernel → HasCountsFor (2 * (old.left - 1)) (held q).kernel
        counts_left q less same =
            let fewer_kept = oldest_less (reach S q (own q c.acts) (save q)) (own q c.acts) in
            let short = few_own q in
            let commit : (held q).kernel.commit ≡ max (world.decided together).least n = ap (λ (k : Kernel). k.commit) same ∙ commit_is q less in
            let low = (world.decided together).few n q (fewer n is) (inside q less) (off q (inside q less)) in
            let within = oldest_length (reach S q (own q c.acts) (save q)) (own q c.acts) (reached q choice) in
            counts_for S q (kept q) (risen (save q)) (words_of (memory_of g (store_of new q) new.dev)) (held q) (2 * (old.left - 1)) (risen_at q less) (omega (arith, within))
            (omega (arith, fewer_kept, short, room, some_left)) (omega (arith, commit, low, room, some_left))

        -- what it has yet to read ends where the log of the save does, within its acts
        end_is : (q : ℕ) → q < S.guests.count → log_end (map logged_of (held q).unread) ≡ log_end (save q).log
        end_is q less = ap log_end (risen_at q less).unread_is

        pub end_low : (q : ℕ) → q < S.guests.count → log_end (map logged_of (held q).unread) < 2 ^ 32
        end_low q less = let e = end_is q less in let r = reached q choice in let f = few_own q in omega (arith, e, r, f, room)

        -- the acts that the code keeps are those of the theory
        acts_kept : (p : ℕ) (reach_of : ℕ → ℕ) → ((q : ℕ) → q < S.guests.count → reach_of q ≡ max (max (held q).kernel.position (log_end (map logged_of (held q).unread))) (slice_index old.exposed q))
            → cut_below (length old.slots) reach_of old.acts ≡ reported (after_rise S c p choice).acts
        acts_kept p reach_of reach_is =
            let n = length old.slots in
            let inside_too : (q : ℕ) → q < n → q < S.guests.count = λ q less. subst (λ m. q < m) (sym world.count_is) less in
            ap (cut_below n reach_of) (sym world.acts_are) ∙ cut_below_is reach_of c.acts n
            ∙ ap reported (cut_agree (upto n reach_of c.acts) (reaches S c p choice) c.acts (λ q. ⊎_elim
            (λ (low : q < n). inl (let h = inside_too q low in let r = reach_is q h in let e = end_is q h in let at = (risen_at q h).kernel_is.position in let x = world.exposed_are q h in
            let none = sure_none S.guests S.exposes_sure world.seven.1 q (save q).position (own q c.acts) in upto_low n reach_of c.acts q low ∙ omega (arith, r, e, at, x, none) ∙ sym (ap (λ (b : Bool). if b then reach S q (own q c.acts) (save q) else length (own q c.acts)) (with_all old.protocol p q together))))
            (λ (high : n ≤ q). inr (let none = ap (λ xs. length xs) (own_past images old.inputs c.acts now.run q (subst (λ m. m ≤ q) (sym world.count_is) high)) in let z = own_count q c.acts in (omega (arith, none, z), omega (arith, none, z))))
            (cases_lt q n)))

        -- each learned what the others had received, and its acts past what it is sure to come to again are gone
        pub rejoined_so : (turn : Turn) (there : turn.p < length old.slots) (mid : ℕ → Option Slot) → ((q : ℕ) → q < S.guests.count → is_up (mid q) ≡ true) → ((q : ℕ) → q < S.guests.count → held_in (mid q) ≡ held q)
            → ((q : ℕ) → q < S.guests.count → based_in (mid q) ≡ (held q).based) → ((q : ℕ) → q < S.guests.count → LearnsBelow S.guests.count (λ r. slice_index (based_in (mid r)) q) (mid q) (slot_at new.slots q))
            → (reach_of : ℕ → ℕ) → ((q : ℕ) → q < S.guests.count → reach_of q ≡ max (max (held q).kernel.position (log_end (map logged_of (held q).unread))) (slice_index old.exposed q)) → new.acts ≡ cut_below (length old.slots) reach_of old.acts
            → new.protocol ≡ old.protocol → new.inputs ≡ old.inputs → new.exposed ≡ old.exposed → new.lines ≡ old.lines → AreDecided g new
            → IsTurned g images c old new (entry.Turn turn) (marked (mark.Recovered (held turn.p).kernel.position) None)
        rejoined_so turn there mid mid_up mid_held mid_based learns reach_of reach_is acts protocol inputs exposed lines decided =
            let less : turn.p < S.guests.count = subst (λ m. turn.p < m) (sym world.count_is) there in record {
              after = after_rise S c turn.p choice;
              turned = turned_down off turn there (mark.Recovered (held turn.p).kernel.position) (after_rise S c turn.p choice) (inl (choice, ap mark.Recovered (risen_at turn.p less).kernel_is.position, refl));
              lines_are = refl;
              stands = world_rejoined g S sound together schedule old.entries c now turn.p (world.up_are turn.p less ∙ off turn.p there) choice old new world held risen_at small saved_as mid mid_up mid_held mid_based learns
                  long protocol inputs (acts ∙ acts_kept turn.p reach_of reach_is) exposed lines decided;
            }
