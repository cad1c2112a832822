-- A process that is compared where it has the position of its store.
use Rattle.std.proofs.Common.{◌≡◌, ◌≢◌, ◌∙◌, ◌<◌, ◌≤◌, ℕ, true, false, List, [], ◌∷◌, ap, arith, length, subst, sym, ⊎_elim}
use Rattle.std.proofs.lemmas.Bool.{cases_Bool, cases_lt, true≢false}
use Rattle.dc_guest.specs.Guest.{Guest}
use Rattle.dc_kernel.specs.Kernels.{Kernel}
use Rattle.dc_model.proofs.Own.{oldest_all}
use Rattle.dc_model.specs.Guests.{Answer, Guests}
use Rattle.dc_model.specs.Process.{Local, at_position, local}
use Rattle.dc_proc.specs.Processes.{IsKernelAt, Stored}
use Rattle.dc_recovery.proofs.Cuts.{oldest_out}
use Rattle.dc_recovery.specs.Systems.{System}
use Rattle.dc_retrace.specs.Trails.{IsCompared, WasCompared}
use Rattle.dc_retrace.specs.declared.trail.Trail.{Trail}

pub at_all : {Mc : Type 0} (G : Guests Mc) (p i : ℕ) (answers : List Answer) → length answers ≤ i → at_position G p i answers ≡ local G p answers
at_all G p i answers within = ap (local G p) (oldest_all i answers within)

pub at_more : {Mc : Type 0} (G : Guests Mc) (p i : ℕ) (a : Answer) (answers : List Answer) → i ≤ length answers → at_position G p i (a ∷ answers) ≡ at_position G p i answers
at_more G p i a answers within = ap (local G p) (oldest_out a answers i within)

module _ (S : System Guest) (p : ℕ) (answers : List Answer) (x : Stored) where
  -- nothing was compared yet
  pub compared_none : (trail : Trail) → answers ≡ [] → trail.same ≡ false → WasCompared S p answers x trail
  compared_none trail none off = record {
    is = λ on. absurd (true≢false (sym on ∙ off));
    only = λ not_so less. absurd (let e = ap length none in let never : ⊥ = omega (arith, e, less) in never);
  }

  -- with one act more
  pub compared_before : (a : Answer) (old new : Trail) → new.same ≡ old.same → IsCompared S p answers x old → WasCompared S p (a ∷ answers) x new
  compared_before a old new same was = record {
    is = λ on. ⊎_elim
        (λ (early : length answers < x.kernel.position). absurd (true≢false (sym on ∙ same ∙ was.early early)))
        (λ (within : x.kernel.position ≤ length answers). (omega (arith, within), subst (λ l. IsKernelAt S.guests.count p x.kernel.position l x.words x.kernel) (sym (at_more S.guests p x.kernel.position a answers within)) (was.is (sym same ∙ on))))
        (cases_lt (length answers) x.kernel.position);
    only = λ off less is. was.only (sym same ∙ off) (omega (arith, less)) (subst (λ l. IsKernelAt S.guests.count p x.kernel.position l x.words x.kernel) (at_more S.guests p x.kernel.position a answers (omega (arith, less))) is);
  }

  -- it has the position, and was compared
  pub compared_now : (old new : Trail) → length answers ≡ x.kernel.position → (new.same ≡ true → IsKernelAt S.guests.count p x.kernel.position (local S.guests p answers) x.words x.kernel)
      → (IsKernelAt S.guests.count p x.kernel.position (local S.guests p answers) x.words x.kernel → new.same ≡ true) → IsCompared S p answers x new
  compared_now old new here is only = record {
    is = λ on. subst (λ l. IsKernelAt S.guests.count p x.kernel.position l x.words x.kernel) (sym all) (is on);
    only = λ off within so. true≢false (sym (only (subst (λ l. IsKernelAt S.guests.count p x.kernel.position l x.words x.kernel) all so)) ∙ off);
    early = λ early. absurd (let never : ⊥ = omega (arith, here, early) in never);
  }
    where
      all : at_position S.guests p x.kernel.position answers ≡ local S.guests p answers
      all = at_all S.guests p x.kernel.position answers (omega (arith, here))

  -- it has another one
  pub compared_later : (trail : Trail) → length answers ≢ x.kernel.position → WasCompared S p answers x trail → IsCompared S p answers x trail
  compared_later trail other was = record {
    is = λ on. (was.is on).1;
    only = λ off within. was.only off (omega (arith, within, other));
    early = λ early. ⊎_elim (λ (on : trail.same ≡ true). absurd (let less = (was.is on).0 in let never : ⊥ = omega (arith, less, early) in never)) (λ (off : trail.same ≡ false). off) (cases_Bool trail.same);
  }

-- what is compared, by its parts
pub kernel_moved : (n n' p : ℕ) (l l' : Local Guest) (words words' : List ℕ) (k k' : Kernel) → n ≡ n' → l ≡ l' → words ≡ words' → k ≡ k' → IsKernelAt n p k.position l words k → IsKernelAt n' p k'.position l' words' k'
kernel_moved n n' p l l' words words' k k' en el ew ek is = subst (λ m. IsKernelAt m p k'.position l' words' k') en (subst (λ z. IsKernelAt n p k'.position z words' k') el
    (subst (λ w. IsKernelAt n p k'.position l w k') ew (subst (λ z. IsKernelAt n p z.position l words z) ek is)))
