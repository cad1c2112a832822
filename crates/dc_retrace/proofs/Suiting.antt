-- A process's store beside the trail of the process, and beside the stores of the others.
use Rattle.std.proofs.Common.{◌≡◌, ◌∙◌, ◌<◌, ◌≤◌, ℕ, true, false, List, [], ◌∷◌, Option, Some, Vec, ap, arith, length, map, refl, slice_get, slice_index, subst, sym}
use Rattle.std.specs.declared.alloc.Global.{Global}
use Rattle.dc_limits.specs.declared.sizes.TheConstants.{KEPT_MESSAGES}
use Rattle.dc_elf.specs.Images.{Image}
use Rattle.dc_guest.specs.Guest.{Guest}
use Rattle.dc_kernel.specs.declared.records.LogRecord.{LogRecord}
use Rattle.dc_kernel.specs.declared.saved.Saved.{Saved}
use Rattle.dc_links.specs.Links.{link_to, number_of_first}
use Rattle.dc_model.specs.Guests.{Answer}
use Rattle.dc_model.specs.Runs.{Given, own}
use Rattle.dc_proc.specs.Carried.{system}
use Rattle.dc_proc.specs.Processes.{Stored, logged_of}
use Rattle.dc_protocols.specs.Rules.{has_log, is_global, is_joint}
use Rattle.dc_protocols.specs.declared.protocol.Protocol.{Protocol}
use Rattle.dc_recovery.specs.Invariant.{SaveOk}
use Rattle.dc_recovery.specs.Saves.{Save}
use Rattle.dc_recovery.specs.Systems.{System}
use Rattle.dc_resume.specs.Deciding.{IsSaveOf, IsWalked}
use Rattle.dc_resume.specs.Suited.{IsSuited, number_bound, surely_sent}
use Rattle.dc_retrace.proofs.Onward.{get_some, if_some}
use Rattle.dc_retrace.specs.Deciding.{IsClosedBy, IsDecidedBy, IsSuitedAlone, sent_on}
use Rattle.dc_retrace.specs.Read.{kernel_at, stored_in}
use Rattle.dc_retrace.specs.Trails.{AreTrails, IsTrail}
use Rattle.dc_retrace.specs.declared.trail.Trail.{Trail}

map_none : (log : List LogRecord) → map logged_of log ≡ [] → log ≡ []
map_none [] is = refl
map_none (x ∷ log) is = absurd (let off : ⊥ = cc in off)

-- the number of a save does not matter
renumbered : (S : System Guest) (p : ℕ) (answers : List Answer) (s : Save) (number : ℕ) → SaveOk S p answers s → SaveOk S p answers (record { position = s.position; log = s.log; number = number })
renumbered S p answers s number ok = record {
  within = ok.within;
  log_within = ok.log_within;
  told = ok.told;
  can_log = ok.can_log;
  no_log = ok.no_log;
  few = ok.few;
}

module _ (S : System Guest) (p : ℕ) (answers : List Answer) (x : Stored) (trail : Trail) (is : IsTrail S p answers x trail) (most : S.most ≡ KEPT_MESSAGES)
    (position : ℕ) (log : List LogRecord) (at : x.kernel.position ≡ position) (log_is : x.log ≡ log) where
  pub walked : IsWalked S p answers position trail.count trail.exposed trail.told.items
  walked = subst (λ i. IsWalked S p answers i trail.count trail.exposed trail.told.items) at (record {
    count_is = is.counted.count_is;
    exposed_is = is.counted.exposed_is;
    told_is = is.counted.told_is;
    most_is = most;
  })

  pub suited_alone : trail.same ≡ true → IsSaveOf S p answers position log → IsSuitedAlone S p answers x
  suited_alone on save = record {
    kernel_is = is.compared.is on;
    save = subst (λ s. SaveOk S p answers s) (λ i. record { position = sym at i; log = map logged_of (sym log_is i); number = x.kernel.commit }) (save x.kernel.commit);
  }

  module _ (suits : IsSuitedAlone S p answers x) where
    pub save_of : IsSaveOf S p answers position log
    save_of number = renumbered S p answers (record { position = position; log = map logged_of log; number = x.kernel.commit }) number
        (subst (λ s. SaveOk S p answers s) (λ i. record { position = at i; log = map logged_of (log_is i); number = x.kernel.commit }) suits.save)

    pub same_of : trail.same ≡ false → ⊥
    same_of off = is.compared.only off suits.save.within suits.kernel_is

    pub no_log_of : has_log S.protocol ≡ false → log ≡ []
    no_log_of off = sym log_is ∙ map_none x.log (suits.save.no_log off)

module _ (images : List Image) (inputs : List (List (List ℕ))) (protocol : Protocol) (acts : List Given) (d : ℕ) (memories : List (Vec ℕ Global)) (saved : List Saved)
    (trails : List Trail) (p : ℕ) (long : length images ≡ length saved) (are : AreTrails (system images inputs protocol) acts (stored_in memories saved) trails) (count : length trails ≡ length saved)
    (there : p < length saved) where
  abbrev S : System Guest
  S = system images inputs protocol

  abbrev stores : ℕ → Stored
  stores = stored_in memories saved

  inside : (q : ℕ) → q < length images → q < length saved
  inside q less = omega (arith, long, less)

  outside : (q : ℕ) → q < length saved → q < length images
  outside q less = omega (arith, long, less)

  -- what the trail of s has sent to p, s is sure to have sent
  sent_by : (s : ℕ) → s < length saved → (trail : Trail) → slice_get trails s ≡ Some trail → sent_on (slice_get trails s) p ≡ surely_sent S acts s (stores s) p
  sent_by s less trail some = ap (λ (o : Option Trail). sent_on o p) some ∙ (if_some (slice_get trails s) trail (IsTrail S s (own s acts) (stores s)) some (are s (outside s less))).counted.sent_is p (outside p there)

  sent_is : (s : ℕ) → s < length saved → sent_on (slice_get trails s) p ≡ surely_sent S acts s (stores s) p
  sent_is s less = let x = get_some trails s (omega (arith, less, count)) in sent_by s less x.0 x.1

  pub suited_by : IsSuitedAlone S p (own p acts) (stores p)
      → ((q : ℕ) → q < length saved → number_of_first (link_to (kernel_at saved p).links q) ≤ slice_index (kernel_at saved q).received p)
      → (is_joint protocol ≡ true → IsClosedBy saved trails p) → (is_global protocol ≡ true → (kernel_at saved p).commit ≡ (kernel_at saved 0).commit)
      → (kernel_at saved p).commit < number_bound → (p ≡ 0 → IsDecidedBy protocol d saved) → IsSuited S acts d stores p
  suited_by alone keeps closed alike few decided = record {
    kernel_is = alone.kernel_is;
    save = alone.save;
    first = λ q less. keeps q (inside q less);
    closed = λ joint s less. let got = closed joint s (inside s less) in let sent = sent_is s (inside s less) in omega (arith, got, sent);
    alike = alike;
    few = few;
    decided = λ zero. record {
      alone = (decided zero).alone;
      together = λ joint. let q = (decided zero).together joint in (q.0, outside q.0 q.1, q.2);
    };
  }

  module _ (suits : IsSuited S acts d stores p) where
    pub alone_of : IsSuitedAlone S p (own p acts) (stores p)
    alone_of = record { kernel_is = suits.kernel_is; save = suits.save }

    pub keeps_of : (q : ℕ) → q < length saved → number_of_first (link_to (kernel_at saved p).links q) ≤ slice_index (kernel_at saved q).received p
    keeps_of q less = suits.first q (outside q less)

    pub closed_of : is_joint protocol ≡ true → IsClosedBy saved trails p
    closed_of joint s less = let got = suits.closed joint s (outside s less) in let sent = sent_is s less in omega (arith, got, sent)

    pub alike_of : is_global protocol ≡ true → (kernel_at saved p).commit ≡ (kernel_at saved 0).commit
    alike_of = suits.alike

    pub few_of : (kernel_at saved p).commit < number_bound
    few_of = suits.few

    pub decided_of : p ≡ 0 → IsDecidedBy protocol d saved
    decided_of none = record {
      alone = (suits.decided none).alone;
      together = λ joint. let q = (suits.decided none).together joint in (q.0, inside q.0 q.1, q.2);
    }
