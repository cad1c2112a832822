-- How the code finds the answer: by the log, or by drawing it.
use Rattle.std.proofs.Common.{◌≡◌, ◌≢◌, ◌∙◌, ℕ, ◌<◌, ◌≤◌, List, [], ◌∷◌, length, refl, ap, sym, arith, ⊎_elim, true, false, Option, Some, None, not}
use Rattle.std.proofs.lemmas.Bool.{cases_lt, true≢false, and_parts}
use Rattle.dc_model.specs.Guests.{Answer, Event, is_plain, is_request}
use Rattle.dc_model.specs.Guests.Answer.{Plain}
use Rattle.dc_model.specs.Guests.Event.{AtClock, AtEnd, AtInput, AtInternal, AtRandom, AtReceive, AtSend, AtVisible}
use Rattle.dc_model.specs.Process.{comes}
use Rattle.dc_model.specs.Runs.{own}
use Rattle.dc_model.specs.declared.entry.Entry.{Entry}
use Rattle.dc_recovery.proofs.Given.{no_answer, IsGiven, answer_told}
use Rattle.dc_recovery.proofs.Lines.{there}
use Rattle.dc_recovery.proofs.Rows.{idle, is_chance}
use Rattle.dc_recovery.proofs.Runs.{run_fits, sort_of}
use Rattle.dc_recovery.proofs.Sorts.{Sort}
use Rattle.dc_recovery.proofs.Steps.{chance_is_last, told_is_last}
use Rattle.dc_recovery.proofs.Turns.{log_answers}
use Rattle.dc_recovery.proofs.Sorts.Sort.{Asking, Chance, Sure}
use Rattle.dc_recovery.proofs.Worlds.{answer_of, sort_here}
use Rattle.dc_recovery.specs.Answers.{read_answer, answer, drawn, drawn_answer, given, replays}
use Rattle.dc_recovery.specs.Core.{Core, stands}
use Rattle.dc_recovery.specs.Invariant.{Holds, Running}
use Rattle.dc_recovery.specs.Saves.{Logged, is_empty_log, answer_at}
use Rattle.dc_recovery.specs.Systems.{IsSound, System}

plain_is : (a : Answer) → is_plain a ≡ true → a ≡ Plain
plain_is Plain e = refl
plain_is _ e = absurd (true≢false (sym e))

-- what the log answers is the act that is there; and all else is drawn, or asks for nothing
module _ {Mc : Type 0} (S : System Mc) (sound : IsSound S) (schedule : List Entry) (t : ℕ) (c : Core) (now : Holds S schedule t c)
    (p word clock : ℕ) (up : (c.procs p).up ≡ true) (live : comes S.guests (stands S.guests c p) (answer S.guests c p word clock) ≢ AtEnd) where
  abbrev e : Event
  e = S.guests.next (stands S.guests c p).machine

  run : Running S p (own p c.acts) (c.procs p)
  run = (now.behind p).running up

  told : IsGiven S.guests c p (answer S.guests c p word clock)
  told = answer_told S.guests c p word clock run.ok.within live

  sort : Sort e (answer S.guests c p word clock)
  sort = sort_here S.guests t c p (answer S.guests c p word clock) now.run told

  at_end : (c.procs p).position ≡ length (own p c.acts) → answer S.guests c p word clock ≡ drawn S.guests c p word clock
  at_end h = ap (λ (o : Option Answer). given o (drawn S.guests c p word clock)) (no_answer (c.procs p).position (own p c.acts) (omega arith))

  drawn_plain : (n : Event) → is_request n ≡ false → is_chance n ≡ false → drawn_answer S.guests c p word clock n ≡ Plain
  drawn_plain AtEnd a b = refl
  drawn_plain AtInternal a b = refl
  drawn_plain (AtVisible body) a b = refl
  drawn_plain (AtSend to message) a b = refl
  drawn_plain AtClock a b = absurd (true≢false b)
  drawn_plain AtRandom a b = absurd (true≢false b)
  drawn_plain AtInput a b = absurd (true≢false a)
  drawn_plain AtReceive a b = absurd (true≢false a)

  -- where nothing is replayed
  pub found_drawn : replays e (c.procs p) ≡ false → answer S.guests c p word clock ≡ drawn S.guests c p word clock
  found_drawn off = by_sort sort
    where
      by_sort : Sort e (answer S.guests c p word clock) → answer S.guests c p word clock ≡ drawn S.guests c p word clock
      by_sort (Sure plain ask chance) = plain_is (answer S.guests c p word clock) plain ∙ sym (drawn_plain e ask chance)
      by_sort (Chance is_told can ask chance hid) = at_end (chance_is_last S sound 0 p (own p c.acts) (c.procs p) (answer S.guests c p word clock) run.ok run.few (answer_of S.guests t c p (answer S.guests c p word clock) now.run told) is_told can)
      by_sort (Asking is_told can ask chance hid) = at_end (told_is_last S sound 0 p (own p c.acts) (c.procs p) (answer S.guests c p word clock) run.ok run.few (answer_of S.guests t c p (answer S.guests c p word clock) now.run told) is_told
          (idle e (c.procs p).unread (ap not off) ask))

  -- where the log answers
  pub found_read : replays e (c.procs p) ≡ true → answer S.guests c p word clock ≡ read_answer (c.procs p).unread
  found_read on = by_log (c.procs p).unread refl
    where
      asks : is_request e ≡ true
      asks = (and_parts (is_request e) _ on).0

      by_log : (log : List Logged) → (c.procs p).unread ≡ log → answer S.guests c p word clock ≡ read_answer log
      by_log [] same = absurd (true≢false (sym (and_parts (is_request e) _ on).1 ∙ ap (λ (xs : List Logged). not (is_empty_log xs)) same))
      by_log (x ∷ log) same =
          let k = log_answers S sound p (own p c.acts) (c.procs p) e x log run.ok
          (λ a there. sort_of S.guests p (stands S.guests c p) a (run_fits S.guests c.acts p (c.procs p).position a now.run (inside a there) there)) asks same in
          ap (λ (o : Option Answer). given o (drawn S.guests c p word clock)) k.1
        where
          inside : (a : Answer) → answer_at (c.procs p).position (own p c.acts) ≡ Some a → (c.procs p).position < length (own p c.acts)
          inside a there = ⊎_elim
              (λ (h : (c.procs p).position < length (own p c.acts)). h)
              (λ (h : length (own p c.acts) ≤ (c.procs p).position). let none : answer_at (c.procs p).position (own p c.acts) ≡ None = no_answer (c.procs p).position (own p c.acts) h in let off : Some a ≡ None = sym there ∙ none in absurd (let n : ⊥ = cc in n))
              (cases_lt (c.procs p).position (length (own p c.acts)))
