-- How the world of the code's processes goes on.
use Rattle.std.proofs.Common.{◌≡◌, ◌≢◌, ◌∙◌, ◌<◌, ℕ, List, [], ◌∷◌, ◌++◌, Option, None, Some, ap, length, refl, slice_get, slice_set, subst, sym, ⊎_elim}
use Rattle.std.proofs.lemmas.Bool.{cases_eq}
use Rattle.std.proofs.lemmas.List.{length-set}
use Rattle.std.proofs.lemmas.Option.{slice_get_within}
use Rattle.dc_elf.specs.Images.{Image}
use Rattle.dc_guest.specs.Guest.{Guest, coming, guests_of}
use Rattle.dc_model.specs.FailureFree.{happened, put}
use Rattle.dc_plain.specs.Playing.{body_of, local_at, local_of, procs_of, world_at}
use Rattle.dc_model.specs.Guests.{Answer, Event, Guests}
use Rattle.dc_model.specs.Process.{Local, moved, visible_of}
use Rattle.dc_model.specs.Guests.Event.{AtEnd, AtInternal, AtClock, AtRandom, AtInput, AtReceive, AtVisible, AtSend}
use Rattle.dc_plain.specs.declared.process.Process.{Process}
use Rattle.dc_model.specs.declared.visible.Body.{Body}
use Rattle.dc_model.specs.declared.visible.Visible.{Visible}
use Rattle.dc_plain.proofs.Lists.{get_set_same, get_set_other}
use Rattle.dc_model.proofs.Own.{put_self, put_other}

-- the record of what an event shows
abbrev pub recorded : ℕ → ℕ → Option Body → List Visible
recorded p k None = []
recorded p k (Some body) = record { p = p; k = k; body = body } ∷ []

recorded_is : (p k : ℕ) (e : Event) → recorded p k (body_of e) ≡ visible_of p k e
recorded_is p k AtEnd = refl
recorded_is p k AtInternal = refl
recorded_is p k AtClock = refl
recorded_is p k AtRandom = refl
recorded_is p k AtInput = refl
recorded_is p k AtReceive = refl
recorded_is p k (AtVisible body) = refl
recorded_is p k (AtSend to message) = refl

-- one process of a list has moved
module _ (processes : List Process) (p : ℕ) (old new : Process) (there : slice_get processes p ≡ Some old) where
  within : p < length processes
  within = slice_get_within processes p old there

  put_at : (q : ℕ) → procs_of (slice_set processes p new) q ≡ put p (local_of new) (procs_of processes) q
  put_at q = ap (λ n. local_at n q (slice_get (slice_set processes p new) q)) (length-set processes p new) ∙ ⊎_elim
      (λ (e : p ≡ q). subst (λ r. local_at (length processes) r (slice_get (slice_set processes p new) r) ≡ put p (local_of new) (procs_of processes) r) e
      (ap (local_at (length processes) p) (get_set_same processes p new within) ∙ sym (put_self p (local_of new) (procs_of processes))))
      (λ (ne : p ≢ q). ap (local_at (length processes) q) (get_set_other processes p q new ne) ∙ sym (put_other p q (local_of new) (procs_of processes) ne))
      (cases_eq p q)

  -- with its answer, and the record that it shows
  module _ (images : List Image) (inputs : List (List (List ℕ))) (a : Answer) (ready : Process) (same : local_of ready ≡ local_of old)
      (moves : local_of new ≡ moved (guests_of images inputs) (local_of ready) a) where
    abbrev G : Guests Guest
    G = guests_of images inputs

    own : local_of old ≡ procs_of processes p
    own = sym (ap (local_at (length processes) p) there)

    new_is : local_of new ≡ moved G (procs_of processes p) a
    new_is = moves ∙ ap (λ l. moved G l a) (same ∙ own)

    pub plays : (visibles visibles' : List Visible) (body : Option Body) → body ≡ body_of (coming ready.guest) → visibles' ≡ visibles ++ recorded p ready.visible body
        → world_at (slice_set processes p new) visibles' ≡ happened G (world_at processes visibles) p a
    plays visibles visibles' body body_is visibles_are = λ i. record {
      procs = λ q. (put_at q ∙ ap (λ l. put p l (procs_of processes) q) new_is) i;
      visibles = (visibles_are ∙ ap (λ xs. visibles ++ xs) (ap (recorded p ready.visible) body_is ∙ recorded_is p ready.visible (coming ready.guest)
          ∙ ap (λ (l : Local Guest). visible_of p l.visible (coming l.machine)) (same ∙ own))) i;
    }
