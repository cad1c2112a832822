-- What a turn tells: what is there is told again; else what is drawn fits, and was drawn at its turn.
use Rattle.std.proofs.Common.{◌≡◌, ◌≢◌, ◌⊎◌, ◌∙◌, ◌==◌, ℕ, ◌+◌, ◌<◌, ◌≤◌, List, [], ◌∷◌, length, refl, sym, arith, ⊎_elim, inl, inr, Bool, true, false, if◌then◌else◌, Option, Some, None, slice_get, not, ◌||◌}
use Rattle.std.proofs.lemmas.Bool.{eq-eqb, ne_eqb, cases_lt, true≢false, or_parts, not-false}
use Rattle.std.proofs.Common.{◌%◌}
use Rattle.dc_model.specs.Guests.{Answer, Event, Guests, input_answer, receive_answer}
use Rattle.dc_model.specs.Guests.Answer.{InputNone, ReceiveFrom, ReceiveNone}
use Rattle.dc_model.specs.Guests.Event.{AtClock, AtEnd, AtInput, AtInternal, AtRandom, AtReceive, AtSend, AtVisible}
use Rattle.dc_model.specs.Process.{comes, fits}
use Rattle.dc_model.specs.Runs.{own}
use Rattle.dc_model.specs.FailureFree.{act_of}
use Rattle.dc_model.proofs.Draws.{input_answers, input_drawn, receive_answers, receive_drawn}
use Rattle.dc_model.specs.Drawn.{draws, may_answer}
use Rattle.dc_model.specs.declared.entry.Entry.{Entry}
use Rattle.dc_model.specs.declared.entry.Entry.TheVariants.{Turn}
use Rattle.dc_recovery.proofs.Spans.{act_there}
use Rattle.dc_recovery.specs.Answers.{answer, drawn, drawn_answer, given}
use Rattle.dc_recovery.specs.Core.{Core, stands}
use Rattle.dc_recovery.specs.Saves.{answer_at}

-- a message is taken from a sender that is up and has sent it by its position
abbrev pub IsMailUp : {Mc : Type 0} → Guests Mc → Core → ℕ → Answer → Type 0
IsMailUp G c p (ReceiveFrom s m) = (s ≢ p) × ((c.procs s).up ≡ true) × (slice_get ((stands G c s).sent p) ((stands G c p).received s) ≡ Some m)
IsMailUp G c p _ = Unit {0}

-- the answer is there already, or is drawn: it fits and its message has come
abbrev pub IsGiven : {Mc : Type 0} → Guests Mc → Core → ℕ → Answer → Type 0
IsGiven G c p a =
    ((c.procs p).position < length (own p c.acts)) × (answer_at (c.procs p).position (own p c.acts) ≡ Some a)
    ⊎ ((c.procs p).position ≡ length (own p c.acts)) × (fits G p (stands G c p) a ≡ true) × IsMailUp G c p a

-- the entry of turn t draws an answer of p
abbrev pub IsDrawnAt : ℕ → List Entry → ℕ → ℕ → Answer → Type 0
IsDrawnAt n schedule t p a = draws n (slice_get schedule t) (record { t = t; p = p; act = act_of a }) ≡ true

pub no_answer : (i : ℕ) (ds : List Answer) → length ds ≤ i → answer_at i ds ≡ None
no_answer i [] h = refl
no_answer i (a ∷ ds) h = rw (ne_eqb (length ds) i (omega arith)) (no_answer i ds (omega arith))

-- a turn of p with this word and clock
module _ {Mc : Type 0} (G : Guests Mc) (c : Core) (p word clock : ℕ) where
  -- what is drawn at an event fits it
  drawn_fits : (e : Event) → e ≢ AtEnd → G.next (stands G c p).machine ≡ e
      → fits G p (stands G c p) (drawn_answer G c p word clock e) ≡ true
  drawn_fits AtEnd live at = absurd (live refl)
  drawn_fits AtInternal live at = rw at refl
  drawn_fits AtClock live at = rw at refl
  drawn_fits AtRandom live at = rw at refl
  drawn_fits AtInput live at = input_drawn G p (stands G c p) (word % 2 == 1) at
  drawn_fits AtReceive live at = receive_drawn G p (stands G c p) _ _ _ at
  drawn_fits (AtVisible body) live at = rw at refl
  drawn_fits (AtSend to message) live at = rw at refl

  -- a message that is drawn at a receive is the next of a sender that is up
  receive_mail : (nobody : Bool) (s : ℕ) (o : Option (List ℕ))
      → (nobody ≡ false → (s ≢ p) × ((c.procs s).up ≡ true)) → o ≡ slice_get ((stands G c s).sent p) ((stands G c p).received s)
      → IsMailUp G c p (if nobody then ReceiveNone else receive_answer s o)
  receive_mail true s o ne e = tt
  receive_mail false s None ne e = tt
  receive_mail false s (Some message) ne e = ((ne refl).0, (ne refl).1, sym e)

  input_mail : (odd : Bool) (o : Option (List ℕ)) → IsMailUp G c p (if odd then input_answer o else InputNone)
  input_mail true None = tt
  input_mail true (Some bytes) = tt
  input_mail false o = tt

  named : (s n : ℕ) → (s == n || (s == p || not (c.procs s).up)) ≡ false → (s ≢ p) × ((c.procs s).up ≡ true)
  named s n e = let k = or_parts (s == n) _ e in let m = or_parts (s == p) _ k.1 in (λ same. true≢false (sym (eq-eqb s p same) ∙ m.0), not-false (c.procs s).up m.1)

  drawn_mail : (e : Event) → IsMailUp G c p (drawn_answer G c p word clock e)
  drawn_mail AtInput = input_mail (word % 2 == 1) (slice_get (G.inputs p) (stands G c p).inputs_taken)
  drawn_mail AtReceive = receive_mail _ (word % (G.count + 1)) _ (named (word % (G.count + 1)) G.count) refl
  drawn_mail AtEnd = tt
  drawn_mail AtInternal = tt
  drawn_mail AtClock = tt
  drawn_mail AtRandom = tt
  drawn_mail (AtVisible body) = tt
  drawn_mail (AtSend to message) = tt

  -- the word and the clock may answer what they draw
  drawn_answers : (e : Event) → may_answer G.count word clock (act_of (drawn_answer G c p word clock e)) ≡ true
  drawn_answers AtEnd = refl
  drawn_answers AtInternal = refl
  drawn_answers AtClock = eq-eqb clock clock refl
  drawn_answers AtRandom = eq-eqb word word refl
  drawn_answers AtInput = input_answers G.count word clock (word % 2 == 1) _ refl
  drawn_answers AtReceive = receive_answers G.count word clock _ _
  drawn_answers (AtVisible body) = refl
  drawn_answers (AtSend to message) = refl

  given_told : (i : ℕ) → i < length (own p c.acts) → answer_at i (own p c.acts) ≡ Some (given (answer_at i (own p c.acts)) (drawn G c p word clock))
  given_told i h = let r = act_there i (own p c.acts) h in rw r.1 refl

  -- what a turn tells
  pub answer_told : (c.procs p).position ≤ length (own p c.acts) → comes G (stands G c p) (answer G c p word clock) ≢ AtEnd → IsGiven G c p (answer G c p word clock)
  answer_told within live = ⊎_elim
      (λ (h : (c.procs p).position < length (own p c.acts)). inl (h, given_told (c.procs p).position h))
      (λ (h : length (own p c.acts) ≤ (c.procs p).position). inr (
        omega arith,
        rw (no_answer (c.procs p).position (own p c.acts) h) (drawn_fits (G.next (stands G c p).machine) live refl),
        rw (no_answer (c.procs p).position (own p c.acts) h) (drawn_mail (G.next (stands G c p).machine)),
      ))
      (cases_lt (c.procs p).position (length (own p c.acts)))

  -- and what is new was drawn at its turn
  pub answer_drawn : (schedule : List Entry) (t : ℕ) → slice_get schedule t ≡ Some (Turn (record { p = p; word = word; clock = clock })) → length (own p c.acts) ≤ (c.procs p).position
      → IsDrawnAt G.count schedule t p (answer G c p word clock)
  answer_drawn schedule t is h = rw (is, no_answer (c.procs p).position (own p c.acts) h, eq-eqb p p refl) (drawn_answers (G.next (stands G c p).machine))
