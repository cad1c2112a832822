-- Results one after the other.
use Rattle.std.specs.Prelude.{Option, None, Some, Result, Ok, Err}

infixl 10 ◌>>=◌
-- with the value of the first, or its fault
abbrev pub ◌>>=◌ : {A B E : Type 0} → Result A E → (A → Result B E) → Result B E
(Ok x) >>= f = f x
(Err e) >>= f = Err e

-- what is there, or this fault
abbrev pub or_fault : {A E : Type 0} → E → Option A → Result A E
or_fault fault (Some x) = Ok x
or_fault fault None = Err fault

-- a result whose value is seen so
abbrev pub seen : {X Y E : Type 0} → (X → Y) → Result X E → Result Y E
seen view (Ok x) = Ok (view x)
seen view (Err e) = Err e
