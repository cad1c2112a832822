-- Where stores suit a run that was reported, a run may go on from there.
use Rattle.std.proofs.Common.{◌≡◌, ◌+◌, ◌<◌, ◌≤◌, ℕ, suc, zero, List, [], ◌∷◌, true, refl, ap, subst, sym, arith, ⊎_elim, inl, length, reverse, slice_index}
use Rattle.std.specs.List.{AllByRecursion}
use Rattle.std.proofs.lemmas.Bool.{cases_lt, le-ltb, lt-ltb}
use Rattle.dc_limits.specs.declared.sizes.TheConstants.{KEPT_MESSAGES}
use Rattle.dc_checkpoint.specs.States.{Reading}
use Rattle.dc_elf.specs.Images.{Image}
use Rattle.dc_guest.specs.Guest.{Guest}
use Rattle.dc_kernel.specs.Kernels.{IsLink}
use Rattle.dc_links.specs.Links.{Link, link_to}
use Rattle.dc_model.specs.Guests.{Answer, Guests}
use Rattle.dc_model.specs.Process.{at_position, oldest}
use Rattle.dc_model.specs.Runs.{Given, IsRun, own, state, visibles}
use Rattle.dc_model.specs.FailureFree.{thin}
use Rattle.dc_model.specs.declared.entry.Entry.{Entry}
use Rattle.dc_model.specs.declared.visible.Visible.{Visible}
use Rattle.dc_proc.specs.Carried.{system}
use Rattle.dc_proc.specs.Processes.{IsKernelAt, IsSavedAs, Stored, reading_of}
use Rattle.dc_processes.specs.Worlds.{StoresStand, others_of}
use Rattle.dc_protocols.specs.Rules.{is_joint}
use Rattle.dc_protocols.specs.declared.protocol.Protocol.{Protocol}
use Rattle.dc_recovery.proofs.Cuts.{received_before, received_sent}
use Rattle.dc_recovery.proofs.Resuming.{resumed_holds}
use Rattle.dc_recovery.specs.Core.{Core, first_save}
use Rattle.dc_recovery.specs.Invariant.{DrawnBelow, Holds, SaveOk}
use Rattle.dc_recovery.specs.Recoveries.{CanResume, resumed_core}
use Rattle.dc_recovery.specs.Saves.{IsCovered, Save, reach}
use Rattle.dc_recovery.specs.Systems.{System}
use Rattle.dc_resume.proofs.Absent.{none_done, none_sent}
use Rattle.dc_resume.specs.Suited.{AreStored, AreSuited, save_in, saves_in}

-- each link of a kernel keeps few messages
kept_few : (links : List Link) (q : ℕ) → AllByRecursion IsLink links → length (link_to links q).kept ≤ KEPT_MESSAGES
kept_few [] q all = omega arith
kept_few (link ∷ links) zero all = all.0.few
kept_few (link ∷ links) (suc q) all = kept_few links q all.1

-- the beginning of a process that does nothing is a save, under any number
nothing_ok : (S : System Guest) (p k : ℕ) (ds : List Answer) → ds ≡ [] → SaveOk S p ds (record first_save { number = k })
nothing_ok S p k [] none = record {
  within = omega arith;
  log_within = omega arith;
  told = refl;
  can_log = tt;
  no_log = λ _. refl;
  few = λ j less. absurd (let off : j < 0 = less in omega arith);
}
nothing_ok S p k (a ∷ ds) none = absurd (let off : ⊥ = cc in off)

module _ (images : List Image) (inputs : List (List (List ℕ))) (protocol : Protocol) where
  abbrev S : System Guest
  S = system images inputs protocol

  abbrev G : Guests Guest
  G = S.guests

  abbrev n : ℕ
  n = length images

  module _ (acts : List Given) (d : ℕ) (stores : ℕ → Stored) (run : IsRun G acts) (stored : AreStored S stores) (are : AreSuited S acts d stores) where
    abbrev saves : ℕ → Save
    saves = saves_in S stores

    abbrev at : ℕ → ℕ
    at p = (saves p).position

    abbrev upto : ℕ → ℕ
    upto p = reach S p (own p acts) (saves p)

    inside : (p : ℕ) → p < n → saves p ≡ save_in (stores p)
    inside p less = rw (lt-ltb p n less) refl

    outside : (p : ℕ) → n ≤ p → saves p ≡ record first_save { number = (stores 0).kernel.commit }
    outside p past = rw (le-ltb p n past) refl

    each : (p : ℕ) → SaveOk S p (own p acts) (saves p)
    each p = ⊎_elim
        (λ (less : p < n). subst (SaveOk S p (own p acts)) (sym (inside p less)) (are p less).save)
        (λ (past : n ≤ p). subst (SaveOk S p (own p acts)) (sym (outside p past)) (nothing_ok S p (stores 0).kernel.commit (own p acts) (none_done images inputs p acts past run)))
        (cases_lt p n)

    received_is : (p s : ℕ) → p < n → s < n → (at_position G p (at p) (own p acts)).received s ≡ slice_index (stores p).kernel.received s
    received_is p s less sender = subst (λ (x : Save). (at_position G p x.position (own p acts)).received s ≡ slice_index (stores p).kernel.received s) (sym (inside p less)) (sym ((are p less).kernel_is.received s sender))

    sent_is : (p q : ℕ) → p < n → q < n → length ((at_position G p (at p) (own p acts)).sent q) ≡ (link_to (stores p).kernel.links q).sent
    sent_is p q less receiver = subst (λ (x : Save). length ((at_position G p x.position (own p acts)).sent q) ≡ (link_to (stores p).kernel.links q).sent) (sym (inside p less)) (sym ((are p less).kernel_is.links q receiver).count)

    -- nothing is received by one who does nothing, and nothing sent by one or to one
    none_received : (p s : ℕ) → n ≤ p → (at_position G p (at p) (own p acts)).received s ≡ 0
    none_received p s past = rw (none_done images inputs p acts past run) refl

    none_sent_past : (p q : ℕ) → n ≤ q → (at_position G p (at p) (own p acts)).sent q ≡ []
    none_sent_past p q past = none_sent images inputs p q (oldest (at p) (own p acts)) past

    none_sent_from : (p q : ℕ) → n ≤ p → (at_position G p (at p) (own p acts)).sent q ≡ []
    none_sent_from p q past = rw (none_done images inputs p acts past run) refl

    few : (p q : ℕ) → length ((at_position G p (at p) (own p acts)).sent q) ≤ (at_position G q (at q) (own q acts)).received p + KEPT_MESSAGES
    few p q = ⊎_elim
        (λ (less : p < n). ⊎_elim
        (λ (there : q < n).
        let kept = kept_few (stores p).kernel.links q (stored p less).links_are in
        let first = (are p less).first q there in
        let sent = sent_is p q less there in
        let received = received_is q p there less in
        omega (arith, kept, first, sent, received))
        (λ (past : n ≤ q). let none = ap (λ (ms : List (List ℕ)). length ms) (none_sent_past p q past) in omega (arith, none))
        (cases_lt q n))
        (λ (past : n ≤ p). let none = ap (λ (ms : List (List ℕ)). length ms) (none_sent_from p q past) in omega (arith, none))
        (cases_lt p n)

    closed : is_joint protocol ≡ true → IsCovered G at upto acts
    closed joint p s = ⊎_elim
        (λ (less : p < n). ⊎_elim
        (λ (there : s < n).
        let received = received_is p s less there in
        let most = subst (λ (x : Save). slice_index (stores p).kernel.received s ≤ length ((at_position G s (reach S s (own s acts) x) (own s acts)).sent p)) (sym (inside s there)) ((are p less).closed joint s there) in
        omega (arith, received, most))
        (λ (past : n ≤ s).
        let most = received_before G p s (at p) (own p acts) in
        let all = received_sent G acts run p s in
        let none : length ((state G acts s).sent p) ≡ 0 = rw (none_done images inputs s acts past run) refl in
        omega (arith, most, all, none))
        (cases_lt s n))
        (λ (past : n ≤ p). let none = none_received p s past in omega (arith, none))
        (cases_lt p n)

    can_resume : (schedule : List Entry) (turn : ℕ) (lines : List Visible) → DrawnBelow n schedule turn acts → thin (reverse lines) ≡ reverse (visibles G acts)
        → CanResume S schedule turn acts lines saves
    can_resume schedule turn lines drawn shown = record {
      run = run;
      drawn = drawn;
      shown = shown;
      each = each;
      few = few;
      closed = closed;
    }

    pub holds : (schedule : List Entry) (turn : ℕ) (lines : List Visible) → DrawnBelow n schedule turn acts → thin (reverse lines) ≡ reverse (visibles G acts)
        → Holds S schedule turn (resumed_core acts lines saves)
    holds schedule turn lines drawn shown = resumed_holds S schedule turn acts lines saves (can_resume schedule turn lines drawn shown)

    -- and the stores stand for that core, whatever decided numbers are looked at
    module _ (lines : List Visible) (numbers : ℕ → Type 0) (leaves : ℕ → ℕ → Reading → Type 0)
        (read : (p e : ℕ) (r : Reading) → p < n → numbers e → leaves p e r → r ≡ reading_of (stores p)) where
      abbrev c : Core
      c = resumed_core acts lines saves

      saved : (p : ℕ) → p < n → (r : Reading) → r ≡ reading_of (stores p) → IsSavedAs G p (own p acts) (others_of G c p) (saves p) r
      saved p less r is = (
        stores p,
        is,
        record {
          kernel_ok = stored p less;
          kernel_is = subst (λ (x : Save). IsKernelAt n p x.position (at_position G p x.position (own p acts)) (stores p).words (stores p).kernel) (sym (inside p less)) (are p less).kernel_is;
          first = λ q receiver. let h = (are p less).first q receiver in let e = received_is q p receiver less in omega (arith, h, e);
          log_is = ap (λ (x : Save). x.log) (sym (inside p less));
          number_is = ap (λ (x : Save). x.number) (sym (inside p less));
        },
      )

      pub stand : StoresStand S c numbers leaves
      stand = record {
        one = λ p less e decided r left. inl (saved p less r (read p e r less decided left));
        all = λ joint e decided r left. inl (λ p less. saved p less (r p) (read p e (r p) less decided (left p less)));
      }
