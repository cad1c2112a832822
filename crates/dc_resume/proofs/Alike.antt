-- Stores of which the same was read suit the same acts.
use Rattle.std.proofs.Common.{◌≡◌, ◌∙◌, ◌<◌, ◌≤◌, ℕ, List, ap, arith, slice_index, subst, sym}
use Rattle.dc_checkpoint.specs.States.{State}
use Rattle.dc_guest.specs.Guest.{Guest}
use Rattle.dc_kernel.proofs.Kernels.{one_kernel}
use Rattle.dc_kernel.specs.Kernels.{IsKernel}
use Rattle.dc_kernel.specs.Texts.{text_of}
use Rattle.dc_links.specs.Links.{link_to, number_of_first}
use Rattle.dc_model.specs.Process.{at_position}
use Rattle.dc_model.specs.Runs.{Given, own}
use Rattle.dc_proc.specs.Processes.{IsKernelAt, Stored, reading_of}
use Rattle.dc_recovery.specs.Invariant.{SaveOk}
use Rattle.dc_recovery.specs.Systems.{System}
use Rattle.dc_resume.specs.Suited.{AreStored, AreSuited, number_bound, save_in, surely_sent}

-- what was read of a store says which it is
read_once : (n p : ℕ) (a b : Stored) → IsKernel n p a.kernel → IsKernel n p b.kernel → reading_of a ≡ reading_of b → a ≡ b
read_once n p a b is_a is_b same =
    let state : record { memory = a.words; kernel = text_of a.kernel; log = a.log } ≡ record { memory = b.words; kernel = text_of b.kernel; log = b.log } = cc in
    let words = ap (λ (s : State). s.memory) state in
    let kernel = one_kernel n p a.kernel b.kernel is_a is_b (ap (λ (s : State). s.kernel) state) in
    let log = ap (λ (s : State). s.log) state in
    λ i. record { words = words i; kernel = kernel i; log = log i }

module _ (S : System Guest) (acts : List Given) (d : ℕ) (one other : ℕ → Stored) (stored : AreStored S one) (others : AreStored S other)
    (read : (p : ℕ) → p < S.guests.count → reading_of (one p) ≡ reading_of (other p)) where
  same : (p : ℕ) → p < S.guests.count → one p ≡ other p
  same p less = read_once S.guests.count p (one p) (other p) (stored p less) (others p less) (read p less)

  pub suited_alike : AreSuited S acts d one → AreSuited S acts d other
  suited_alike are p less = let is = are p less in let here = same p less in let first = same 0 (omega (arith, less)) in record {
    kernel_is = subst (λ (x : Stored). IsKernelAt S.guests.count p x.kernel.position (at_position S.guests p x.kernel.position (own p acts)) x.words x.kernel) here is.kernel_is;
    save = subst (λ (x : Stored). SaveOk S p (own p acts) (save_in x)) here is.save;
    first = λ q there. subst (λ (x : Stored). number_of_first (link_to x.kernel.links q) ≤ slice_index (other q).kernel.received p) here
        (subst (λ (x : Stored). number_of_first (link_to (one p).kernel.links q) ≤ slice_index x.kernel.received p) (same q there) (is.first q there));
    closed = λ joint s there. subst (λ (x : Stored). slice_index x.kernel.received s ≤ surely_sent S acts s (other s) p) here
        (subst (λ (x : Stored). slice_index (one p).kernel.received s ≤ surely_sent S acts s x p) (same s there) (is.closed joint s there));
    alike = λ global. sym (ap (λ (x : Stored). x.kernel.commit) here) ∙ is.alike global ∙ ap (λ (x : Stored). x.kernel.commit) first;
    few = subst (λ (x : Stored). x.kernel.commit < number_bound) here is.few;
    decided = λ zero. let was = is.decided zero in record {
      alone = was.alone;
      together = λ joint. let q = was.together joint in (q.0, q.1, subst (λ (x : Stored). d ≤ x.kernel.commit) (same q.0 q.1) q.2);
    };
  }
