-- What the stores stand for where a run was halted suits its acts.
use Rattle.std.proofs.Common.{◌≡◌, ◌∙◌, ◌⊎◌, ◌<◌, ◌≤◌, ℕ, List, [], true, false, refl, ap, subst, sym, arith, ⊎_elim, length, slice_index}
use Rattle.std.proofs.lemmas.Bool.{cases_Bool, cases_lt, true≢false}
use Rattle.dc_checkpoint.specs.States.{Reading}
use Rattle.dc_guest.specs.Guest.{Guest}
use Rattle.dc_kernel.specs.Kernels.{fresh}
use Rattle.dc_links.specs.Links.{link_to, number_of_first}
use Rattle.dc_model.specs.Guests.{Guests}
use Rattle.dc_model.specs.Process.{at_position}
use Rattle.dc_model.specs.Runs.{own}
use Rattle.dc_model.specs.declared.entry.Entry.{Entry}
use Rattle.dc_proc.proofs.Texts.{number_is}
use Rattle.dc_proc.specs.Processes.{IsKernelAt, IsSavedAs, IsStoredSave, Stored, reading_of}
use Rattle.dc_processes.specs.Worlds.{StoresStand, others_of}
use Rattle.dc_protocols.specs.Rules.{is_global, is_joint}
use Rattle.dc_recovery.proofs.Spans.{received_later}
use Rattle.dc_recovery.specs.Core.{Core, Which, save_of}
use Rattle.dc_recovery.specs.Core.Which.{Older, Newer}
use Rattle.dc_recovery.specs.Invariant.{Holds, SaveOk}
use Rattle.dc_recovery.specs.Saves.{IsCovered, Save, reach}
use Rattle.dc_recovery.specs.Systems.{System}
use Rattle.dc_resume.specs.Suited.{AreNumbered, AreRead, AreStored, AreSuited, IsReached, IsSuited, number_bound, save_in, surely_sent}

module _ (S : System Guest) (schedule : List Entry) (t : ℕ) (c : Core) (holds : Holds S schedule t c) (numbered : AreNumbered S.protocol c.procs) where
  abbrev G : Guests Guest
  G = S.guests

  abbrev n : ℕ
  n = G.count

  abbrev chosen : Which → ℕ → Save
  chosen k p = save_of k (c.procs p)

  save_ok : (k : Which) (p : ℕ) → SaveOk S p (own p c.acts) (chosen k p)
  save_ok Older p = (holds.behind p).older
  save_ok Newer p = (holds.behind p).newer

  no_earlier : (k : Which) (p : ℕ) → (c.procs p).older.position ≤ (chosen k p).position
  no_earlier Older p = omega arith
  no_earlier Newer p = (holds.behind p).order

  covered : (k : Which) → is_joint S.protocol ≡ true → IsCovered G (λ q. (chosen k q).position) (λ q. reach S q (own q c.acts) (chosen k q)) c.acts
  covered Older joint = (holds.joint joint).older
  covered Newer joint = (holds.joint joint).newer

  number_few : (k : Which) (p : ℕ) → (chosen k p).number < number_bound
  number_few Older p = let few = (numbered.few p).0 in omega (arith, few)
  number_few Newer p = let few = (numbered.few p).1 in omega (arith, few)

  number_alike : (k : Which) → is_global S.protocol ≡ true → (p q : ℕ) → (chosen k p).number ≡ (chosen k q).number
  number_alike Older global p q = let all = numbered.alike global in (all.2 p).0 ∙ sym (all.2 q).0
  number_alike Newer global p q = let all = numbered.alike global in (all.2 p).1 ∙ sym (all.2 q).1

  -- each store stands for one of its two saves, where all recover together for the same
  module _ (k : ℕ → Which) (alike : is_joint S.protocol ≡ true → (p : ℕ) → k p ≡ k 0) (stores : ℕ → Stored)
      (are : (p : ℕ) → p < n → IsStoredSave G p (own p c.acts) (others_of G c p) (chosen (k p) p) (stores p)) where
    save_is : (p : ℕ) → p < n → save_in (stores p) ≡ chosen (k p) p
    save_is p less = λ i. record { position = (are p less).kernel_is.position i; log = (are p less).log_is i; number = (are p less).number_is i }

    received_is : (p s : ℕ) → p < n → s < n → slice_index (stores p).kernel.received s ≡ (at_position G p (chosen (k p) p).position (own p c.acts)).received s
    received_is p s less sender = (are p less).kernel_is.received s sender

    first : (p q : ℕ) → p < n → q < n → number_of_first (link_to (stores p).kernel.links q) ≤ slice_index (stores q).kernel.received p
    first p q less receiver =
        let known = (are p less).first q receiver in
        let later = received_later G q (c.procs q).older.position (chosen (k q) q).position p (own q c.acts) (no_earlier (k q) q) in
        let same = received_is q p receiver less in
        omega (arith, known, later, same)

    closed : is_joint S.protocol ≡ true → (p s : ℕ) → p < n → s < n → slice_index (stores p).kernel.received s ≤ surely_sent S c.acts s (stores s) p
    closed joint p s less sender =
        let at : (q : ℕ) → chosen (k q) q ≡ chosen (k 0) q = λ q. ap (λ (w : Which). chosen w q) (alike joint q) in
        let got : (at_position G p (chosen (k p) p).position (own p c.acts)).received s ≤ length ((at_position G s (reach S s (own s c.acts) (chosen (k s) s)) (own s c.acts)).sent p) =
        subst (λ (x : Save). (at_position G p x.position (own p c.acts)).received s ≤ length ((at_position G s (reach S s (own s c.acts) (chosen (k s) s)) (own s c.acts)).sent p)) (sym (at p))
        (subst (λ (x : Save). (at_position G p (chosen (k 0) p).position (own p c.acts)).received s ≤ length ((at_position G s (reach S s (own s c.acts) x) (own s c.acts)).sent p)) (sym (at s))
        (covered (k 0) joint p s)) in
        let same = received_is p s less sender in
        let sure : length ((at_position G s (reach S s (own s c.acts) (chosen (k s) s)) (own s c.acts)).sent p) ≡ surely_sent S c.acts s (stores s) p =
        ap (λ (x : Save). length ((at_position G s (reach S s (own s c.acts) x) (own s c.acts)).sent p)) (sym (save_is s sender)) in
        omega (arith, got, same, sure)

    number_of : (p : ℕ) → p < n → (stores p).kernel.commit ≡ (chosen (k p) p).number
    number_of p less = (are p less).number_is

    module _ (d : ℕ) (readings : ℕ → Reading) (read : AreRead n readings stores) (reached : IsReached S d readings) where
      suited : (p : ℕ) → p < n → IsSuited S c.acts d stores p
      suited p less = record {
        kernel_is = subst (λ (i : ℕ). IsKernelAt n p i (at_position G p i (own p c.acts)) (stores p).words (stores p).kernel) (sym (are p less).kernel_is.position) (are p less).kernel_is;
        save = subst (SaveOk S p (own p c.acts)) (sym (save_is p less)) (save_ok (k p) p);
        first = λ q receiver. first p q less receiver;
        closed = λ joint s sender. closed joint p s less sender;
        alike = λ global. number_of p less ∙ ap (λ (w : Which). (chosen w p).number) (alike (rw global refl) p) ∙ number_alike (k 0) global p 0 ∙ sym (number_of 0 some);
        few = let h = number_few (k p) p in let e = number_of p less in omega (arith, h, e);
        decided = λ zero. record {
          alone = reached.alone;
          together = λ joint. let q = reached.together joint in (q.0, q.1, let h = q.2 _ (read q.0 q.1) in let e = number_is (stores q.0).kernel in omega (arith, h, e));
        };
      }
        where
          some : 0 < n
          some = omega (arith, less)

  -- what was read of a store, with the save that it is
  record Chosen (r : Reading) (p : ℕ) : Type 0 where
    which : Which
    stored : Stored
    is : p < n → (r ≡ reading_of stored) × IsStoredSave G p (own p c.acts) (others_of G c p) (chosen which p) stored

  abbrev as_saved : (r : Reading) (p : ℕ) (w : Which) → IsSavedAs G p (own p c.acts) (others_of G c p) (chosen w p) r → Chosen r p
  as_saved r p w (x, reads, is) = record { which = w; stored = x; is = λ less. (reads, is) }

  abbrev nothing : Stored
  nothing = record { words = []; kernel = fresh 0 0; log = [] }

  by_which : (r : Reading) (p : ℕ) (w : Which) → (p < n → IsSavedAs G p (own p c.acts) (others_of G c p) (chosen w p) r) → (x : Chosen r p) × (x.which ≡ w)
  by_which r p w is = ⊎_elim
      (λ (less : p < n). (as_saved r p w (is less), refl))
      (λ (past : n ≤ p). (record { which = w; stored = nothing; is = λ less. absurd (let off : ⊥ = omega arith in off) }, refl))
      (cases_lt p n)

  by_either : (r : Reading) (p : ℕ) → (p < n → IsSavedAs G p (own p c.acts) (others_of G c p) (c.procs p).older r ⊎ IsSavedAs G p (own p c.acts) (others_of G c p) (c.procs p).newer r) → Chosen r p
  by_either r p is = ⊎_elim
      (λ (less : p < n). ⊎_elim (as_saved r p Older) (as_saved r p Newer) (is less))
      (λ (past : n ≤ p). record { which = Older; stored = nothing; is = λ less. absurd (let off : ⊥ = omega arith in off) })
      (cases_lt p n)

  -- what the images of all stores stand for under one decided number, where the stores stand for the core
  module _ (numbers : ℕ → Type 0) (leaves : ℕ → ℕ → Reading → Type 0) (stand : StoresStand S c numbers leaves) (d : ℕ) (decided : numbers d) (readings : ℕ → Reading)
      (left : (p : ℕ) → p < n → leaves p d (readings p)) (reached : IsReached S d readings) where
    abbrev Halted : Type 0
    Halted = (stores : ℕ → Stored) × AreRead n readings stores × AreStored S stores × AreSuited S c.acts d stores

    from_chosen : (x : (p : ℕ) → Chosen (readings p) p) → (is_joint S.protocol ≡ true → (p : ℕ) → (x p).which ≡ (x 0).which) → Halted
    from_chosen x alike = (
      (λ p. (x p).stored),
      (λ p less. ((x p).is less).0),
      (λ p less. ((x p).is less).1.kernel_ok),
      suited (λ p. (x p).which) alike (λ p. (x p).stored) (λ p less. ((x p).is less).1) d readings (λ p less. ((x p).is less).0) reached,
    )

    all_as : (w : Which) → ((p : ℕ) → p < n → IsSavedAs G p (own p c.acts) (others_of G c p) (chosen w p) (readings p)) → Halted
    all_as w is = let x : (p : ℕ) → (y : Chosen (readings p) p) × (y.which ≡ w) = λ p. by_which (readings p) p w (is p) in
        from_chosen (λ p. (x p).0) (λ joint p. (x p).1 ∙ sym (x 0).1)

    pub are_suited : Halted
    are_suited = ⊎_elim
        (λ (joint : is_joint S.protocol ≡ true). ⊎_elim (all_as Older) (all_as Newer) (stand.all joint d decided readings left))
        (λ (alone : is_joint S.protocol ≡ false). from_chosen
        (λ p. by_either (readings p) p (λ less. stand.one p less d decided (readings p) (left p less)))
        (λ joint. absurd (true≢false (sym joint ∙ alone))))
        (cases_Bool (is_joint S.protocol))
