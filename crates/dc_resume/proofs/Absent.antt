-- Past the last image nobody does anything, and nothing is sent there.
use Rattle.std.proofs.Common.{◌≡◌, ◌≢◌, ◌∙◌, ◌≤◌, ◌==◌, ℕ, List, [], ◌∷◌, Bool, true, false, Option, None, Some, refl, subst, sym, arith, ⊎_elim, nat_lt, length, slice_get, slice_index}
use Rattle.std.proofs.lemmas.Bool.{and_parts, cases_eq, cond_both, ltb-true, ne_eqb, true≢false}
use Rattle.std.proofs.lemmas.Option.{slice_get_past}
use Rattle.dc_calls.specs.Calls.{call_of, if_good, input_of, output_of, receive_of, send_of}
use Rattle.dc_calls.specs.declared.call.Call as calls
use Rattle.dc_calls.specs.declared.call.Call.TheVariants.{Exit, Output, Input, Clock, Random, Send, Receive, Number, BadArgument, Unknown}
use Rattle.dc_elf.specs.Images.{Image}
use Rattle.dc_events.specs.declared.event.Next.{Next}
use Rattle.dc_events.specs.declared.event.Next.TheVariants as next
use Rattle.dc_guest.specs.Guest.{Guest, after_answer, after_next, coming, event_of, guests_of, next_by, next_of, started}
use Rattle.dc_model.specs.Guests.{Answer, Event, Guests}
use Rattle.dc_model.specs.Guests.Event.{AtEnd}
use Rattle.dc_model.specs.Guests.{Answer as answers}
use Rattle.dc_model.specs.Process.{Local, fits, local, posted}
use Rattle.dc_model.specs.Runs.{Given, IsRun, own, state}
use Rattle.dc_model.proofs.Own.{own_no}
use Rattle.dc_rv32.specs.Machine.{Machine, stepped}
use Rattle.dc_rv32.specs.declared.machine.Stepped.{Stepped}
use Rattle.dc_rv32.specs.declared.machine.Stepped.TheVariants as step

-- what sends to no one is silent to all
abbrev IsSilent : ℕ → Machine → calls.Call → Type 0
IsSilent q m call = posted (event_of (next.Call call) m) q ≡ []

silent_if : (q : ℕ) (m : Machine) (b : Bool) (call : calls.Call) → (b ≡ true → IsSilent q m call) → IsSilent q m (if_good b call)
silent_if q m b call is = cond_both b call BadArgument (IsSilent q m) is (λ _. refl)

-- a call names another guest that is there
module _ (x : List ℕ) (size p n q : ℕ) (m : Machine) (past : n ≤ q) where
  abbrev P : calls.Call → Type 0
  P call = IsSilent q m call

  abbrev first : ℕ
  first = slice_index x 10

  abbrev second : ℕ
  second = slice_index x 11

  abbrev number : ℕ
  number = slice_index x 17

  sends : P (send_of size p n first second (slice_index x 12))
  sends = silent_if q m _ (Send first second (slice_index x 12)) (λ good. let below = ltb-true first n (and_parts (nat_lt first n) _ good).0 in rw (ne_eqb first q (omega arith)) refl)

  silent_call : P (call_of x size p n)
  silent_call =
      cond_both (number == 1) (Exit first) _ P (λ _. refl) (λ _.
      cond_both (number == 2) (output_of size first second) _ P (λ _. silent_if q m _ (Output first second) (λ _. refl)) (λ _.
      cond_both (number == 3) (input_of size first second) _ P (λ _. silent_if q m _ (Input first second) (λ _. refl)) (λ _.
      cond_both (number == 4) Clock _ P (λ _. refl) (λ _.
      cond_both (number == 5) Random _ P (λ _. refl) (λ _.
      cond_both (number == 6) (send_of size p n first second (slice_index x 12)) _ P (λ _. sends) (λ _.
      cond_both (number == 7) (receive_of size first second) _ P (λ _. silent_if q m _ (Receive first second) (λ _. refl)) (λ _.
      cond_both (number == 8) Number Unknown P (λ _. refl) (λ _. refl))))))))

silent_next : (n : Next) (g : Guest) (q : ℕ) → ((call : calls.Call) → n ≡ next.Call call → IsSilent q g.machine call) → posted (event_of n g.machine) q ≡ []
silent_next next.Retire g q calls = refl
silent_next (next.Trap cause) g q calls = refl
silent_next (next.Call call) g q calls = calls call refl

silent_step : (s : Stepped) (g : Guest) (q : ℕ) → g.count ≤ q → posted (event_of (next_by s g) g.machine) q ≡ []
silent_step step.Retired g q past = refl
silent_step step.Call g q past = silent_call g.machine.registers (length g.machine.memory) g.number g.count q g.machine past
silent_step (step.Trap cause) g q past = refl

-- what is sent goes to a guest that is there
pub silent : (g : Guest) (q : ℕ) → g.count ≤ q → posted (coming g) q ≡ []
silent g q past = cond_both g.ended AtEnd (event_of (next_of g) g.machine) (λ (e : Event). posted e q ≡ []) (λ _. refl) (λ _. silent_step (stepped g.machine).1 g q past)

count_kept : (g : Guest) (a : Answer) → (after_answer g a).count ≡ g.count
count_kept g a = cond_both g.ended g (after_next (next_of g) a g) (λ (h : Guest). h.count ≡ g.count) (λ _. refl) (λ _. refl)

module _ (images : List Image) (inputs : List (List (List ℕ))) where
  abbrev G : Guests Guest
  G = guests_of images inputs

  started_count : (p : ℕ) (o : Option Image) → (started p (length images) o).count ≡ length images
  started_count p None = refl
  started_count p (Some image) = refl

  pub count_is : (p : ℕ) (ds : List Answer) → (local G p ds).machine.count ≡ length images
  count_is p [] = started_count p (slice_get images p)
  count_is p (a ∷ ds) = count_kept (local G p ds).machine a ∙ count_is p ds

  -- nothing is sent past the last guest
  pub none_sent : (p q : ℕ) (ds : List Answer) → length images ≤ q → (local G p ds).sent q ≡ []
  none_sent p q [] past = refl
  none_sent p q (a ∷ ds) past = rw (none_sent p q ds past) (silent (local G p ds).machine q (let c = count_is p ds in omega arith))

  no_fit : (p : ℕ) (l : Local Guest) (a : Answer) → coming l.machine ≡ AtEnd → fits G p l a ≡ false
  no_fit p l answers.Plain e = rw e refl
  no_fit p l (answers.Clock v) e = rw e refl
  no_fit p l (answers.Random v) e = rw e refl
  no_fit p l answers.InputNone e = rw e refl
  no_fit p l (answers.InputNext bytes) e = rw e refl
  no_fit p l answers.InputEnd e = rw e refl
  no_fit p l answers.ReceiveNone e = rw e refl
  no_fit p l (answers.ReceiveFrom s message) e = rw e refl

  ended_start : (p : ℕ) (o : Option Image) → o ≡ None → coming (started p (length images) o) ≡ AtEnd
  ended_start p None e = refl
  ended_start p (Some image) e = absurd (let off : ⊥ = cc in off)

  -- nobody past the last guest does anything
  pub none_done : (p : ℕ) (acts : List Given) → length images ≤ p → IsRun G acts → own p acts ≡ []
  none_done p [] past run = refl
  none_done p (x ∷ acts) past run = let before = none_done p acts past run.0 in ⊎_elim
      (λ (same : x.p ≡ p). absurd (true≢false (sym run.1.fitting ∙ no_fit x.p (state G acts x.p) x.answer (
      subst (λ (q : ℕ). coming (state G acts q).machine ≡ AtEnd) (sym same)
      (subst (λ (ds : List Answer). coming (local G p ds).machine ≡ AtEnd) (sym before) (ended_start p (slice_get images p) (slice_get_past images p past)))))))
      (λ (other : x.p ≢ p). own_no x acts p other ∙ before)
      (cases_eq x.p p)
