-- The items of vectors.
use Rattle.std.specs.Prelude.{List, [], Option, None, Some, Vec, map}
use Rattle.std.specs.declared.alloc.Global.{Global}

-- the items of a vector, if it is there
abbrev pub items_of : {A : Type 0} → Option (Vec A Global) → List A
items_of None = []
items_of (Some v) = v.items

-- the items of each vector
abbrev pub lists_of : {A : Type 0} → List (Vec A Global) → List (List A)
lists_of vectors = map (λ v. v.items) vectors
