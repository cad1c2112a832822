-- Results that hold lists.
use Rattle.std.proofs.Common.{◌≡◌, false, List, ◌++◌, Result, Ok, Err, is_err, is_ok, if◌then◌else◌, refl}

-- with these in front
abbrev pub prefixed : {A E : Type 0} → List A → Result (List A) E → Result (List A) E
prefixed front (Ok xs) = Ok (front ++ xs)
prefixed front (Err fault) = Err fault

-- what a vector holds after a push that was no failure
pub pushed : {T E X : Type 0} (xs ys : List X) (r : Result T E) → false ≡ is_err r → (if is_ok r then xs else ys) ≡ xs
pushed xs ys (Ok v) e = refl
pushed xs ys (Err v) e = absurd (let never : ⊥ = cc in never)
