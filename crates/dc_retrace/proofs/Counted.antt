-- What is counted of a process, with one act more.
use Rattle.std.proofs.Common.{◌≡◌, ◌∙◌, ◌<◌, ◌≤◌, ◌+◌, ◌&&◌, ◌||◌, ℕ, suc, Bool, true, false, List, [], ◌∷◌, ap, arith, if◌then◌else◌, length, map, max, nat_le, refl, slice_index, subst, sym, take, ⊎_elim}
use Rattle.std.proofs.lemmas.Bool.{cases_Bool, le-leb, lt-leb}
use Rattle.dc_limits.specs.declared.bounds.TheConstants.{LOGGED_EVENTS}
use Rattle.dc_guest.specs.Guest.{Guest}
use Rattle.dc_model.specs.Guests.{Answer, Event}
use Rattle.dc_model.specs.Process.{Local, at_position, comes, local}
use Rattle.dc_recovery.proofs.Cuts.{cases_le, last_within}
use Rattle.dc_recovery.specs.Saves.{Logged, Save, is_empty_log, last_at, last_exposed, last_sure, logged_at, reach, span}
use Rattle.dc_recovery.specs.Systems.{System}
use Rattle.dc_resume.proofs.Reaching.{sure_within}
use Rattle.dc_resume.specs.Deciding.{told_of, told_room}
use Rattle.dc_resume.specs.declared.told.Told.{Told}
use Rattle.dc_retrace.proofs.Compared.{at_all, at_more}
use Rattle.dc_retrace.specs.Trails.{IsCounted, IsKept}
use Rattle.dc_retrace.specs.declared.trail.Trail.{Trail}

-- whether anything was told is seen by the first things
nothing_told : (k : ℕ) (told : List Told) (all : List Logged) → map told_of told ≡ take (suc k) all → is_empty_log (map told_of told) ≡ is_empty_log all
nothing_told k [] [] is = refl
nothing_told k (t ∷ told) (x ∷ all) is = refl
nothing_told k [] (x ∷ all) is = absurd (let off : ⊥ = cc in off)
nothing_told k (t ∷ told) [] is = absurd (let off : ⊥ = cc in off)

module _ (S : System Guest) (p : ℕ) (answers : List Answer) (a : Answer) where
  abbrev event : Event
  event = comes S.guests (local S.guests p answers) a

  -- whether it is exposed where nothing told comes between the save and it
  abbrev sure : ℕ → Bool
  sure from = S.exposes_sure event && is_empty_log (span (logged_at answers) from (length answers))

  -- one past the last act that is exposed
  pub exposed_next : (from : ℕ) → last_exposed S p (a ∷ answers) from ≡ (if S.exposes event || sure from then suc (length answers) else last_exposed S p answers from)
  exposed_next from = ⊎_elim
      (λ (on : S.exposes event ≡ true). let late = sure_within S.exposes_sure S.guests p from (a ∷ answers) in
      let here : last_at S.exposes S.guests p (a ∷ answers) ≡ suc (length answers) = rw on refl in
      let all : last_exposed S p (a ∷ answers) from ≡ suc (length answers) = omega (arith, here, late) in all ∙ sym (rw on refl))
      (λ (off : S.exposes event ≡ false). ⊎_elim
      (λ (on : sure from ≡ true). let late = last_within S.exposes S.guests p (a ∷ answers) in
      let here : last_sure S.exposes_sure S.guests p from (a ∷ answers) ≡ suc (length answers) = rw on refl in
      let all : last_exposed S p (a ∷ answers) from ≡ suc (length answers) = omega (arith, here, late) in all ∙ sym (rw (off, on) refl))
      (λ (none : sure from ≡ false). rw (off, none) refl)
      (cases_Bool (sure from)))
      (cases_Bool (S.exposes event))

  module _ (s : Save) (old new : Trail) (was : IsCounted S p answers s old) where
    -- it is exposed, as its trail tells
    pub exposed_told : (S.exposes event || (S.exposes_sure event && is_empty_log (map told_of old.told.items))) ≡ (S.exposes event || sure s.position)
    exposed_told = ap (λ (b : Bool). S.exposes event || (S.exposes_sure event && b)) (nothing_told LOGGED_EVENTS old.told.items (span (logged_at answers) s.position (length answers)) was.told_is)

    module _ (count : new.count ≡ old.count + 1) (base : new.base ≡ old.base) (exposed : last_exposed S p (a ∷ answers) s.position ≡ new.exposed) where
      abbrev far : ℕ
      far = reach S p (a ∷ answers) s

      far_is : far ≡ max new.base new.exposed
      far_is = let b = was.base_is in omega (arith, base, b, exposed)

      count_is : suc (length answers) ≡ new.count
      count_is = let c = was.count_is in omega (arith, c, count)

      -- where the save reaches to the last act, what was sent there is all that was sent
      sent_here : (l : Local Guest) → l ≡ local S.guests p (a ∷ answers) → new.count ≤ max new.base new.exposed → (q : ℕ) → length (l.sent q) ≡ length ((at_position S.guests p far (a ∷ answers)).sent q)
      sent_here l here within q = ap (λ (m : Local Guest). length (m.sent q)) (here ∙ sym (at_all S.guests p far (a ∷ answers) (omega (arith, within, far_is, count_is))))

      -- else it is what was sent there before
      sent_before : max new.base new.exposed < new.count → (q : ℕ) → length ((at_position S.guests p (reach S p answers s) answers).sent q) ≡ length ((at_position S.guests p far (a ∷ answers)).sent q)
      sent_before past q = ap (λ (m : Local Guest). length (m.sent q)) (ap (λ (r : ℕ). at_position S.guests p r answers) (sym same) ∙ sym (at_more S.guests p far a answers (omega (arith, past, far_is, count_is))))
        where
          not_here : (b : Bool) → last_exposed S p (a ∷ answers) s.position ≡ (if b then suc (length answers) else last_exposed S p answers s.position) → last_exposed S p (a ∷ answers) s.position ≡ last_exposed S p answers s.position
          not_here true is = absurd (let off : ⊥ = omega (arith, is, exposed, past, count_is) in off)
          not_here false is = is

          same : far ≡ reach S p answers s
          same = let e = not_here (S.exposes event || sure s.position) (exposed_next s.position) in omega (arith, e)

      pub sent_next : (l : Local Guest) → l ≡ local S.guests p (a ∷ answers) → (q : ℕ) → q < S.guests.count
          → slice_index new.sent q ≡ (if nat_le new.count (max new.base new.exposed) then length (l.sent q) else slice_index old.sent q)
          → slice_index new.sent q ≡ length ((at_position S.guests p far (a ∷ answers)).sent q)
      sent_next l here q there is = ⊎_elim
          (λ (within : new.count ≤ max new.base new.exposed). is ∙ rw (le-leb new.count (max new.base new.exposed) within) (sent_here l here within q))
          (λ (past : max new.base new.exposed < new.count). is ∙ rw (lt-leb new.count (max new.base new.exposed) past) (was.sent_is q there ∙ sent_before past q))
          (cases_le new.count (max new.base new.exposed))

    -- all together
    pub counted_more : new.position ≡ old.position → new.base ≡ old.base → new.count ≡ old.count + 1
        → new.exposed ≡ (if S.exposes event || (S.exposes_sure event && is_empty_log (map told_of old.told.items)) then old.count + 1 else old.exposed)
        → IsKept answers old.position a old new → (l : Local Guest) → l ≡ local S.guests p (a ∷ answers)
        → ((q : ℕ) → q < S.guests.count → slice_index new.sent q ≡ (if nat_le new.count (max new.base new.exposed) then length (l.sent q) else slice_index old.sent q))
        → IsCounted S p (a ∷ answers) s new
    counted_more position base count exposed kept l here sent = record {
      position_is = position ∙ was.position_is;
      base_is = base ∙ was.base_is;
      count_is = let c = was.count_is in omega (arith, c, count);
      exposed_is = exposed_is;
      told_is = subst (λ (i : ℕ). map told_of new.told.items ≡ take told_room (span (logged_at (a ∷ answers)) i (suc (length answers)))) was.position_is
          (kept (subst (λ (i : ℕ). map told_of old.told.items ≡ take told_room (span (logged_at answers) i (length answers))) (sym was.position_is) was.told_is));
      sent_is = λ q there. sent_next count base exposed_is l here q there (sent q there);
    }
      where
        exposed_is : last_exposed S p (a ∷ answers) s.position ≡ new.exposed
        exposed_is = exposed_next s.position
            ∙ (λ i. if S.exposes event || sure s.position then suc_is i else was.exposed_is i)
            ∙ ap (λ (b : Bool). if b then old.count + 1 else old.exposed) (sym exposed_told) ∙ sym exposed
          where
            suc_is : suc (length answers) ≡ old.count + 1
            suc_is = let c = was.count_is in omega (arith, c)

-- counts that stay
pub counted_same : (S : System Guest) (p : ℕ) (answers : List Answer) (s : Save) (old new : Trail) → (new.position ≡ old.position) × (new.base ≡ old.base) × (new.count ≡ old.count) × (new.exposed ≡ old.exposed)
    × (new.told.items ≡ old.told.items) × (new.sent ≡ old.sent) → IsCounted S p answers s old → IsCounted S p answers s new
counted_same S p answers s old new same is = record {
  position_is = same.0 ∙ is.position_is;
  base_is = same.1 ∙ is.base_is;
  count_is = is.count_is ∙ sym same.2;
  exposed_is = is.exposed_is ∙ sym same.3;
  told_is = ap (map told_of) same.4 ∙ is.told_is;
  sent_is = λ q there. ap (λ (xs : List ℕ). slice_index xs q) same.5 ∙ is.sent_is q there;
}
