-- The acts of a run, and how many of them each process has.
use Rattle.std.specs.Prelude.{◌≡◌, ◌==◌, ◌<◌, ◌^◌, ℕ, List, [], ◌∷◌, if◌then◌else◌, length, reverse, slice_index}
use Rattle.dc_model.specs.Cuts.{count_of, cut, reach_of}
use Rattle.dc_model.specs.declared.act.Taken.{Taken}

-- how many acts are p's
abbrev pub acts_of : ℕ → List Taken → ℕ
acts_of p acts = count_of (λ x. x.p) p acts

-- the acts of p
abbrev pub own_of : ℕ → List Taken → List Taken
own_of p [] = []
own_of p (x ∷ acts) = if x.p == p then x ∷ own_of p acts else own_of p acts

-- the acts without those of p after its first `reach`
abbrev pub cut_acts : ℕ → ℕ → List Taken → List Taken
cut_acts p reach acts = reverse (cut (λ x. x.p) (reach_of p reach (length acts)) (reverse acts))

-- each count is that of its process, no other process has an act, and the acts can be counted
pub record AreCounted (counts : List ℕ) (acts : List Taken) : Type 0 where
  pub each : (q : ℕ) → slice_index counts q ≡ acts_of q acts
  pub few : length acts < 2 ^ 32
