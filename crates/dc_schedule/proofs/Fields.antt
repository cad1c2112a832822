-- The entry of a line, by what was read of its fields.
use Rattle.std.proofs.Common.{◌≡◌, ◌⊎◌, ◌==◌, ◌∙◌, ◌-◌, ◌^◌, ◌<◌, ◌≤◌, ℕ, Bool, true, false, List, [], ◌∷◌, length, Ok, Err, ap, sym, refl, subst, arith, if◌then◌else◌, nat_lt, inl, inr, ⊎_elim}
use Rattle.std.specs.List.{list_all}
use Rattle.std.proofs.Math.Bool.{and-false}
use Rattle.std.proofs.lemmas.Bool.{cases_Bool, eqb-true, lt-ltb, le-ltb}
use Rattle.dc_model.specs.declared.entry.Entry.TheVariants.{Turn}
use Rattle.dc_words.specs.Numbers.{is_below, is_digit, is_number, number_of, value}
use Rattle.dc_words.specs.Texts.{fields_of, in_front}
use Rattle.dc_words.specs.declared.numbers.NumberFault.{NumberFault}
use Rattle.dc_words.specs.declared.numbers.NumberFault.TheVariants.{NotNumber, Range}
use Rattle.dc_words.proofs.Splitting.{fields_some}
use Rattle.dc_words.proofs.Reading.{below_is, below_not, is_below_is, not_number, over_range}
use Rattle.dc_schedule.specs.Schedules.{entry_by, entry_of, turn_of}
use Rattle.dc_schedule.specs.declared.fault.ScheduleKind.TheVariants.{Form, Process, ClockFell}

-- the turn of three fields
module _ (n last : ℕ) (p word clock : List ℕ) where
  pub bad_word : (fault : NumberFault) → Err fault ≡ number_of (2 ^ 32 - 1) word → Err Form ≡ turn_of n last p word clock
  bad_word fault e = rw (below_not word (2 ^ 32 - 1) (2 ^ 32) fault refl e, and-false (is_number p)) refl

  pub bad_clock : (fault : NumberFault) → Err fault ≡ number_of (2 ^ 64 - 1) clock → Err Form ≡ turn_of n last p word clock
  bad_clock fault e = rw (below_not clock (2 ^ 64 - 1) (2 ^ 64) fault refl e, and-false (is_below (2 ^ 32) word), and-false (is_number p)) refl

  pub bad_number : Err NotNumber ≡ number_of (n - 1) p → Err Form ≡ turn_of n last p word clock
  bad_number e = rw (not_number p (n - 1) e) refl

  module _ (w k : ℕ) (some : 0 < n) (word_is : Ok w ≡ number_of (2 ^ 32 - 1) word) (clock_is : Ok k ≡ number_of (2 ^ 64 - 1) clock) where
    pub no_process : Err Range ≡ number_of (n - 1) p → Err Process ≡ turn_of n last p word clock
    no_process e = let parts = over_range p (n - 1) n (omega (arith, some)) e in
        rw (parts.0, is_below_is word (2 ^ 32 - 1) (2 ^ 32) w refl word_is, is_below_is clock (2 ^ 64 - 1) (2 ^ 64) k refl clock_is, parts.1) refl

    at_process : (q : ℕ) → Ok q ≡ number_of (n - 1) p
        → turn_of n last p word clock ≡ (if nat_lt (value clock) last then Err ClockFell else Ok (Turn (record { p = value p; word = value word; clock = value clock })))
    at_process q e = let parts = below_is p (n - 1) n q (omega (arith, some)) e in
        rw (parts.0, is_below_is word (2 ^ 32 - 1) (2 ^ 32) w refl word_is, is_below_is clock (2 ^ 64 - 1) (2 ^ 64) k refl clock_is, parts.1) refl

    clock_value : value clock ≡ k
    clock_value = (below_is clock (2 ^ 64 - 1) (2 ^ 64) k refl clock_is).2

    pub fallen : (q : ℕ) → Ok q ≡ number_of (n - 1) p → k < last → Err ClockFell ≡ turn_of n last p word clock
    fallen q e low = sym (at_process q e ∙ rw (lt-ltb (value clock) last (omega (arith, clock_value, low))) refl)

    pub good_turn : (q : ℕ) → Ok q ≡ number_of (n - 1) p → last ≤ k → Ok (Turn (record { p = q; word = w; clock = k })) ≡ turn_of n last p word clock
    good_turn q e high = sym (at_process q e ∙ rw (le-ltb (value clock) last (omega (arith, clock_value, high)), (below_is p (n - 1) n q (omega (arith, some)) e).2, (below_is word (2 ^ 32 - 1) (2 ^ 32) w refl word_is).2, clock_value) refl)

-- more parts stay more where a byte is put in front of the first
more_parts : (c : ℕ) (parts : List (List ℕ)) → 1 < length parts → 1 < length (in_front c parts)
more_parts c [] some = absurd (omega (arith, some))
more_parts c (part ∷ parts) some = some

-- a text is one field, or no number
field_or_none : (text : List ℕ) → (fields_of 32 text ≡ text ∷ []) ⊎ ((list_all is_digit text ≡ false) × (1 < length (fields_of 32 text)))
field_or_none [] = inl refl
field_or_none (c ∷ text) = ⊎_elim
    (λ (blank : (c == 32) ≡ true).
    let here : fields_of 32 (c ∷ text) ≡ [] ∷ fields_of 32 text = rw blank refl in
    let some = fields_some 32 text in
    inr (rw (eqb-true c 32 blank) refl, subst (λ parts. 1 < length parts) (sym here) (omega (arith, some))))
    (λ (other : (c == 32) ≡ false).
    let here : fields_of 32 (c ∷ text) ≡ in_front c (fields_of 32 text) = rw other refl in
    ⊎_elim
    (λ (whole : fields_of 32 text ≡ text ∷ []). inl (here ∙ ap (in_front c) whole))
    (λ (parts : (list_all is_digit text ≡ false) × (1 < length (fields_of 32 text))).
    inr (rw (parts.0, and-false (is_digit c)) refl, subst (λ fields. 1 < length fields) (sym here) (more_parts c (fields_of 32 text) parts.1)))
    (field_or_none text))
    (cases_Bool (c == 32))

no_number : (text : List ℕ) → list_all is_digit text ≡ false → is_number text ≡ false
no_number [] none = refl
no_number (c ∷ text) none = rw none refl

-- three fields or more, by what stands behind the second
turn_or_more : (stops : Bool) (n last : ℕ) (p word clock : List ℕ) (parts : List (List ℕ)) → (parts ≡ clock ∷ []) ⊎ ((list_all is_digit clock ≡ false) × (1 < length parts))
    → turn_of n last p word clock ≡ entry_by stops n last (p ∷ word ∷ parts)
turn_or_more stops n last p word clock parts (inl one) = ap (λ xs. entry_by stops n last (p ∷ word ∷ xs)) (sym one)
turn_or_more stops n last p word clock [] (inr more) = absurd (let some = more.1 in omega (arith, some))
turn_or_more stops n last p word clock (a ∷ []) (inr more) = absurd (let some = more.1 in omega (arith, some))
turn_or_more stops n last p word clock (a ∷ b ∷ parts) (inr more) = rw (no_number clock more.0, and-false (is_below (2 ^ 32) word), and-false (is_number p)) refl

pub three_fields : (stops : Bool) (n last : ℕ) (line p rest word clock : List ℕ) → fields_of 32 line ≡ p ∷ fields_of 32 rest → fields_of 32 rest ≡ word ∷ fields_of 32 clock
    → turn_of n last p word clock ≡ entry_of stops n last line
three_fields stops n last line p rest word clock e f =
    turn_or_more stops n last p word clock (fields_of 32 clock) (field_or_none clock)
    ∙ sym (ap (entry_by stops n last) (e ∙ ap (λ xs. p ∷ xs) f))
