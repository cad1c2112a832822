-- Acts of which one does not apply are no run.
use Rattle.std.proofs.Common.{◌≡◌, ◌∙◌, ℕ, Bool, true, false, List, [], ◌∷◌, ◌++◌, Option, None, Some, Vec, ap, if◌then◌else◌, refl, subst, sym}
use Rattle.std.specs.declared.alloc.Global.{Global}
use Rattle.dc_elf.specs.Images.{Image}
use Rattle.dc_guest.specs.Guest.{guests_of}
use Rattle.dc_kernel.specs.declared.saved.Saved.{Saved}
use Rattle.dc_model.proofs.Reports.{reported_run}
use Rattle.dc_model.specs.Guests.{Answer, Guests}
use Rattle.dc_model.specs.Process.{Local, fits}
use Rattle.dc_model.specs.Runs.{Given}
use Rattle.dc_model.specs.FailureFree.{FailureFree, answer_for, apply, apply_answer, happened, opened, reported, run, run_from, world_of}
use Rattle.dc_model.specs.declared.act.Act.{Act}
use Rattle.dc_model.specs.declared.act.Taken.{Taken}
use Rattle.dc_plain.specs.Playing.{Played, world_in}
use Rattle.dc_protocols.specs.declared.protocol.Protocol.{Protocol}
use Rattle.dc_retrace.proofs.Onward.{answer_by}
use Rattle.dc_retrace.specs.Trails.{HasWalked}
use Rattle.dc_retrace.specs.declared.trail.Trail.{Trail}

module _ {Mc : Type 0} (G : Guests Mc) where
  -- where there is no world, no act makes one
  from_none : (acts : List Taken) → run_from G None acts ≡ None
  from_none [] = refl
  from_none (x ∷ acts) = refl

  in_two : (o : Option (FailureFree Mc)) (xs ys : List Taken) → run_from G o (xs ++ ys) ≡ run_from G (run_from G o xs) ys
  in_two o [] ys = refl
  in_two None (x ∷ xs) ys = sym (from_none ys)
  in_two (Some w) (x ∷ xs) ys = in_two (apply G w x.p x.act) xs ys

  -- whether an act applies is seen of the processes alone
  none_given : (w v : FailureFree Mc) (p : ℕ) (o : Option Answer) → w.procs p ≡ v.procs p → apply_answer G w p o ≡ None → apply_answer G v p o ≡ None
  none_given w v p None same none = refl
  none_given w v p (Some a) same none = by (fits G p (v.procs p) a) (subst (λ (l : Local Mc). (if fits G p l a then Some (happened G w p a) else None) ≡ None) same none)
    where
      by : (b : Bool) → (if b then Some (happened G w p a) else None) ≡ None → (if b then Some (happened G v p a) else None) ≡ None
      by true some = absurd (let off : ⊥ = cc in off)
      by false none = refl

  none_applies : (w v : FailureFree Mc) (p : ℕ) (b : Act) → ((q : ℕ) → w.procs q ≡ v.procs q) → apply G w p b ≡ None → apply G v p b ≡ None
  none_applies w v p b same none = subst (λ (o : Option Answer). apply_answer G v p o ≡ None) (answer_by G w v p b same) (none_given w v p (answer_for G w p b) (same p) none)

-- the acts so far, one that does not apply, and whatever comes behind it
pub no_run : (images : List Image) (inputs : List (List (List ℕ))) (protocol : Protocol) (memories : List (Vec ℕ Global)) (saved : List Saved) (acts : List Given) (plain : Played) (trails : List Trail)
    → HasWalked images inputs protocol memories saved acts plain trails → (x : Taken) (after rest all : List Taken) → rest ≡ x ∷ after → reported acts ++ rest ≡ all
    → apply (guests_of images plain.inputs) (world_in plain) x.p x.act ≡ None → run (guests_of images inputs) all ≡ None
no_run images inputs protocol memories saved acts plain trails walked x after rest all is so_far none =
    ap (run (guests_of images inputs)) (sym so_far ∙ ap (λ xs. reported acts ++ xs) is) ∙ in_two (guests_of images inputs) (Some (opened (guests_of images inputs))) (reported acts) (x ∷ after)
    ∙ ap (λ o. run_from (guests_of images inputs) o (x ∷ after)) (reported_run (guests_of images inputs) acts walked.is_run) ∙ ap (λ o. run_from (guests_of images inputs) o after) here ∙ from_none (guests_of images inputs) after
  where
    here : apply (guests_of images inputs) (world_of (guests_of images inputs) acts) x.p x.act ≡ None
    here = none_applies (guests_of images inputs) (world_in plain) (world_of (guests_of images inputs) acts) x.p x.act walked.procs_are (subst (λ xs. apply (guests_of images xs) (world_in plain) x.p x.act ≡ None) walked.inputs_are none)
