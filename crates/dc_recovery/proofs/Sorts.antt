-- The sorts of events, and small facts on the parts of a turn.
use Rattle.std.proofs.Common.{◌≡◌, ◌⊎◌, ◌∙◌, ℕ, ◌<◌, ◌≤◌, List, [], ◌∷◌, length, refl, sym, arith, ⊎_elim, Bool, true, false, if◌then◌else◌, nat_lt, Some, ◌||◌, ◌&&◌}
use Rattle.std.proofs.lemmas.Bool.{eq-eqb, ne_eqb, cases_eq, lt-ltb, le-ltb, cases_Bool, or_cases, true≢false}
use Rattle.dc_model.specs.Guests.{Answer, Event, is_plain, is_request}
use Rattle.dc_model.specs.Guests.Answer.{Plain, ReceiveFrom}
use Rattle.dc_model.specs.Guests.Event.{AtClock, AtEnd, AtInput, AtInternal, AtRandom, AtReceive, AtSend, AtVisible}
use Rattle.dc_model.specs.Process.{took_from}
use Rattle.dc_protocols.specs.Rules.{at_outputs}
use Rattle.dc_protocols.specs.declared.protocol.Rule.{Rule}
use Rattle.dc_recovery.proofs.Rows.{is_chance}
use Rattle.dc_recovery.specs.Core.{Status}
use Rattle.dc_recovery.specs.Invariant.{can_log}
use Rattle.dc_recovery.specs.Parts.{Place, fallen, first_as, second_of, torn_as}
use Rattle.dc_recovery.specs.Parts.Place.{InAfter, InBefore, InEvent, InLog, Nowhere}
use Rattle.dc_recovery.specs.Saves.{Logged, answer_at, is_empty_log}
use Rattle.dc_recovery.specs.Systems.{IsSound, System, is_output, kind_at}

-- the answer at the position is there already, or comes last
abbrev pub IsAnswer : ℕ → List Answer → Answer → Type 0
IsAnswer i ds a = ((i < length ds) × (answer_at i ds ≡ Some a)) ⊎ (i ≡ length ds)

abbrev pub grown : ℕ → List Answer → Answer → List Answer
grown i ds a = if nat_lt i (length ds) then ds else a ∷ ds

pub grown_old : (i : ℕ) (ds : List Answer) (a : Answer) → i < length ds → grown i ds a ≡ ds
grown_old i ds a h = rw (lt-ltb i (length ds) h) refl

pub grown_new : (i : ℕ) (ds : List Answer) (a : Answer) → i ≡ length ds → grown i ds a ≡ a ∷ ds
grown_new i ds a h = rw (le-ltb i (length ds) (omega arith)) refl

-- one that falls, in its commit or beside one
abbrev pub torn_or : Bool → ℕ → Status → Status
torn_or commits n st = if commits then torn_as n st else fallen st

pub torn_down : (commits : Bool) (n : ℕ) (st : Status) → (torn_or commits n st).up ≡ false
torn_down true n st = refl
torn_down false n st = refl

-- the parts of a turn of the others that fall with its process, some of which commit with it
abbrev pub beside : Rule → Bool → Bool → ℕ → ℕ → Status → Place → Status
beside f before after n m st Nowhere = first_as (f.after && after) m (first_as (f.before && before) n st)
beside f before after n m st InBefore = torn_or before n st
beside f before after n m st InLog = first_as (f.before && before) n st
beside f before after n m st InEvent = fallen (first_as (f.before && before) n st)
beside f before after n m st InAfter = torn_or after m (first_as (f.before && before) n st)

-- three sorts of events
pub data Sort (e : Event) (a : Answer) : Type 0 where
  Sure : is_plain a ≡ true → is_request e ≡ false → is_chance e ≡ false → Sort e a
  Asking : is_plain a ≡ false → can_log a ≡ true → is_request e ≡ true → is_chance e ≡ false → is_output e ≡ false → Sort e a
  Chance : is_plain a ≡ false → can_log a ≡ false → is_request e ≡ false → is_chance e ≡ true → is_output e ≡ false → Sort e a

-- what no other sees is not exposed
pub hidden_any : {Mc : Type 0} (S : System Mc) (sound : IsSound S) (e : Event) → is_output e ≡ false → (S.exposes e || S.exposes_sure e) ≡ false
hidden_any S sound e h = ⊎_elim (λ on. absurd (true≢false (sym (⊎_elim (sound.outputs e) (sound.sure_outputs e) (or_cases (S.exposes e) (S.exposes_sure e) on)) ∙ h))) (λ off. off) (cases_Bool (S.exposes e || S.exposes_sure e))

pub outputs_hidden : (e : Event) → is_output e ≡ false → at_outputs (kind_at e) ≡ false
outputs_hidden (AtVisible body) h = absurd (true≢false h)
outputs_hidden (AtSend to message) h = absurd (true≢false h)
outputs_hidden AtEnd h = refl
outputs_hidden AtInternal h = refl
outputs_hidden AtClock h = refl
outputs_hidden AtRandom h = refl
outputs_hidden AtInput h = refl
outputs_hidden AtReceive h = refl

pub outputs_exposed : (e : Event) → is_output e ≡ true → at_outputs (kind_at e) ≡ true
outputs_exposed (AtVisible body) h = refl
outputs_exposed (AtSend to message) h = refl
outputs_exposed _ h = absurd (true≢false (sym h))

pub took_small : (a : Answer) (q : ℕ) → took_from a q ≤ 1
took_small (ReceiveFrom s m) q = ⊎_elim (λ e. rw (eq-eqb s q e) (omega arith)) (λ ne. rw (ne_eqb s q ne) (omega arith)) (cases_eq s q)
took_small _ q = omega arith

pub plain_no_log : (a : Answer) → is_plain a ≡ true → can_log a ≡ false
plain_no_log Plain e = refl
plain_no_log _ e = absurd (true≢false (sym e))

pub empty_is : (es : List Logged) → is_empty_log es ≡ true → es ≡ []
empty_is [] e = refl
empty_is (x ∷ es) e = absurd (true≢false (sym e))

pub second_at : (l : Bool) (x : Logged) (st : Status) → (second_of l x st).position ≡ st.position
second_at true x st = refl
second_at false x st = refl

pub second_older : (l : Bool) (x : Logged) (st : Status) → (second_of l x st).older.position ≡ st.older.position
second_older true x st = refl
second_older false x st = refl

second_unlogged : (l : Bool) (x : Logged) (st : Status) → (second_of l x st).unlogged ≡ st.unlogged
second_unlogged true x st = refl
second_unlogged false x st = refl

pub second_unread : (l : Bool) (x : Logged) (st : Status) → (second_of l x st).unread ≡ st.unread
second_unread true x st = refl
second_unread false x st = refl

pub first_unlogged : (b : Bool) (n : ℕ) (st : Status) → st.unlogged ≡ false → (first_as b n st).unlogged ≡ false
first_unlogged true n st e = refl
first_unlogged false n st e = e

pub first_unread : (b : Bool) (n : ℕ) (st : Status) → st.unread ≡ [] → (first_as b n st).unread ≡ []
first_unread true n st e = refl
first_unread false n st e = e
