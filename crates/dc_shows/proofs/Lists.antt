-- Lists of which something holds, and numbers below a bound.
use Rattle.std.proofs.Common.{◌≡◌, ◌<◌, ◌≤◌, ◌+◌, ℕ, zero, suc, List, [], ◌∷◌, ◌++◌, Bool, true, false, Some, arith, if◌then◌else◌, length, slice_get, slice_index, slice_set, subst}
use Rattle.std.specs.List.{AllByRecursion}
use Rattle.dc_report.specs.Reading.{AreActs}
use Rattle.dc_limits.specs.declared.bounds.TheConstants.{ENTRIES}
use Rattle.dc_model.specs.declared.act.Taken.{Taken}
use Rattle.dc_words.specs.Words.{AllBelow}

pub all_both : {X : Type 0} (P : X → Type 0) (xs ys : List X) → AllByRecursion P xs → AllByRecursion P ys → AllByRecursion P (xs ++ ys)
all_both P [] ys a b = b
all_both P (x ∷ xs) ys a b = (a.0, all_both P xs ys a.1 b)

pub all_get : {X : Type 0} (P : X → Type 0) (xs : List X) (k : ℕ) (x : X) → AllByRecursion P xs → slice_get xs k ≡ Some x → P x
all_get P [] k x all e = absurd (let never : ⊥ = cc in never)
all_get P (y ∷ xs) zero x all e = let same : y ≡ x = cc in subst P same all.0
all_get P (y ∷ xs) (suc k) x all e = all_get P xs k x all.1 e

pub below-set : (bound : ℕ) (xs : List ℕ) (i w : ℕ) → w < bound → AllBelow bound xs → AllBelow bound (slice_set xs i w)
below-set bound [] i w small a = tt
below-set bound (x ∷ xs) zero w small a = (small, a.1)
below-set bound (x ∷ xs) (suc i) w small a = (a.0, below-set bound xs i w small a.1)

pub below-index : (bound : ℕ) (xs : List ℕ) (i : ℕ) → 0 < bound → AllBelow bound xs → slice_index xs i < bound
below-index bound [] i some a = some
below-index bound (x ∷ xs) zero some a = a.0
below-index bound (x ∷ xs) (suc i) some a = below-index bound xs i some a.1

-- whatever holds of both branches
pub by_test : {A : Type 0} (P : A → Type 0) (b : Bool) (x y : A) → P x → P y → P (if b then x else y)
by_test P true x y a b = a
by_test P false x y a b = b

-- acts whose turns rise are few
few_from : (n next : ℕ) (acts : List Taken) → next ≤ ENTRIES → AreActs n next acts → next + length acts ≤ ENTRIES
few_from n next [] low are = omega (arith, low)
few_from n next (x ∷ acts) low are = let rest = few_from n (suc x.t) acts (omega (arith, are.3)) are.4 in omega (arith, rest, are.2)

pub acts_few : (n : ℕ) (acts : List Taken) → AreActs n 0 acts → length acts ≤ ENTRIES
acts_few n acts are = let few = few_from n 0 acts (omega arith) are in omega (arith, few)
