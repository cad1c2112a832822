-- What a process was told, with one act more.
use Rattle.std.proofs.Common.{◌≡◌, ◌∙◌, ◌<◌, ◌≤◌, ℕ, zero, suc, true, false, List, [], ◌∷◌, ◌++◌, Some, ap, arith, length, map, refl, sym, take, ⊎_elim}
use Rattle.std.proofs.lemmas.Bool.{cases_lt}
use Rattle.std.proofs.lemmas.List.{append-nil, length-append, length-map, take-append-le}
use Rattle.dc_model.specs.Guests.{Answer, is_plain}
use Rattle.dc_recovery.proofs.Spans.{noted_plain, noted_told, span_more, span_none, span_past}
use Rattle.dc_recovery.specs.Saves.{Logged, logged_at, logged_if, span}
use Rattle.dc_resume.specs.Deciding.{told_of, told_room}
use Rattle.dc_resume.specs.declared.told.Told.{Told}

-- a list of which all that is taken is less
short_take : (k : ℕ) (xs : List Logged) → length (take k xs) < k → take k xs ≡ xs
short_take zero xs less = absurd (let off : ⊥ = omega arith in off)
short_take (suc k) [] less = refl
short_take (suc k) (x ∷ xs) less = ap (λ ys. x ∷ ys) (short_take k xs (omega (arith, less)))

full_take : (k : ℕ) (xs : List Logged) → length (take k xs) ≡ k → k ≤ length xs
full_take zero xs full = omega arith
full_take (suc k) [] full = absurd (let off : ⊥ = omega arith in off)
full_take (suc k) (x ∷ xs) full = let more = full_take k xs (omega (arith, full)) in omega (arith, more)

long_take : (k : ℕ) (xs : List Logged) → length xs ≤ k → take k xs ≡ xs
long_take zero [] few = refl
long_take zero (x ∷ xs) few = absurd (let off : ⊥ = omega arith in off)
long_take (suc k) [] few = refl
long_take (suc k) (x ∷ xs) few = ap (λ ys. x ∷ ys) (long_take k xs (omega (arith, few)))

map_end : (told : List Told) (t : Told) → map told_of (told ++ t ∷ []) ≡ map told_of told ++ told_of t ∷ []
map_end [] t = refl
map_end (x ∷ told) t = ap (λ xs. told_of x ∷ xs) (map_end told t)

module _ (answers : List Answer) (position : ℕ) (a : Answer) (told : List Told) where
  abbrev pub before : List Logged
  before = span (logged_at answers) position (length answers)

  abbrev pub after : List Logged
  after = span (logged_at (a ∷ answers)) position (suc (length answers))

  -- nothing more was told
  module _ (was : map told_of told ≡ take told_room before) where
    pub kept_early : length answers < position → map told_of told ≡ take told_room after
    kept_early early = was ∙ ap (take told_room) (span_none (logged_at answers) position (length answers) (omega arith) ∙ sym (span_past (logged_at (a ∷ answers)) position (length answers) early))

    pub kept_plain : is_plain a ≡ true → map told_of told ≡ take told_room after
    kept_plain plain = ⊎_elim kept_early
        (λ (within : position ≤ length answers). was ∙ ap (take told_room) (sym (span_more a answers position within ∙ ap (λ xs. before ++ xs) (noted_plain (length answers) a plain) ∙ append-nil before)))
        (cases_lt (length answers) position)

    -- there was no room
    pub kept_full : length told ≡ told_room → map told_of told ≡ take told_room after
    kept_full full = ⊎_elim kept_early
        (λ (within : position ≤ length answers). was ∙ sym (ap (take told_room) (span_more a answers position within)
        ∙ take-append-le told_room before (logged_if (length answers) (Some a)) (full_take told_room before (sym (ap length was) ∙ length-map told told_of ∙ full))))
        (cases_lt (length answers) position)

    -- there was
    pub kept_more : (t : Told) → position ≤ length answers → is_plain a ≡ false → length told < told_room → told_of t ≡ record { position = length answers; answer = a } → map told_of (told ++ t ∷ []) ≡ take told_room after
    kept_more t within some room is = map_end told t ∙ ap (λ xs. xs ++ told_of t ∷ []) (was ∙ whole) ∙ ap (λ x. before ++ x ∷ []) is
        ∙ sym (ap (take told_room) more ∙ long_take told_room (before ++ record { position = length answers; answer = a } ∷ []) (omega (arith, length-append before (record { position = length answers; answer = a } ∷ []), short, room)))
      where
        long : length (take told_room before) ≡ length told
        long = sym (ap length was) ∙ length-map told told_of

        whole : take told_room before ≡ before
        whole = short_take told_room before (omega (arith, long, room))

        short : length before ≡ length told
        short = sym (ap length whole) ∙ long

        more : after ≡ before ++ record { position = length answers; answer = a } ∷ []
        more = span_more a answers position within ∙ ap (λ xs. before ++ xs) (noted_told (length answers) a some)
