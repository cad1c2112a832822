-- The trail of the worked guest of dc_resume, after both of its acts: nothing was told from its store's position on, and it is what its store stands for.
use Rattle.std.proofs.Common.{◌≡◌, ◌∙◌, ◌<◌, ℕ, zero, suc, List, [], true, ap, arith, map, refl, replicate, slice_index, sym}
use Rattle.std.proofs.lemmas.Bool.{true≢false}
use Rattle.dc_model.specs.Runs.{own}
use Rattle.dc_resume.proofs.Scenario.{S, acts, stores, suited}
use Rattle.dc_resume.specs.Deciding.{told_of}
use Rattle.dc_retrace.specs.Trails.{IsTrail}
use Rattle.dc_rv32.specs.Machine.{stepped}
use Rattle.dc_retrace.specs.declared.trail.Trail.{Trail}

-- what a walk has noted then
pub record IsWorked (trail : Trail) : Type 0 where
  pub position_is : trail.position ≡ 2
  pub base_is : trail.base ≡ 2
  pub count_is : trail.count ≡ 2
  pub exposed_is : trail.exposed ≡ 0
  pub same_is : trail.same ≡ true
  pub told_is : trail.told.items ≡ []
  pub sent_is : trail.sent ≡ replicate 8 0

pub worked : (trail : Trail) → IsWorked trail → IsTrail S 0 (own 0 acts) (stores 0) trail
unfolding stepped
worked trail is = record {
  counted = record {
    position_is = is.position_is;
    base_is = is.base_is;
    count_is = sym is.count_is;
    exposed_is = sym is.exposed_is;
    told_is = ap (map told_of) is.told_is;
    sent_is = λ q there. ap (λ (xs : List ℕ). slice_index xs q) is.sent_is ∙ none q there;
  };
  compared = record {
    is = λ on. suited.kernel_is;
    only = λ off within so. true≢false (sym is.same_is ∙ off);
    early = λ early. absurd (let less : 2 < 2 = early in let never : ⊥ = omega (arith, less) in never);
  };
}
  where
    none : (q : ℕ) → q < 1 → slice_index (replicate 8 0) q ≡ 0
    none zero less = refl
    none (suc q) less = absurd (let off : suc q < 1 = less in let never : ⊥ = omega (arith, off) in never)
