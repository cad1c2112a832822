-- A list with the room that was made for it.
use Rattle.std.specs.Prelude.{ℕ, List}

-- its items, and how many it can have
pub record Listed (A : Type 0) : Type 0 where
  pub items : List A
  pub room : ℕ

-- by these two
abbrev pub listed : {A : Type 0} → List A → ℕ → Listed A
listed xs n = record { items = xs; room = n }
