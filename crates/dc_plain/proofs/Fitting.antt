-- Whether an answer fits what a guest does next, as the code tests it.
use Rattle.std.proofs.Common.{◌≡◌, ◌≢◌, ◌==◌, ◌∙◌, ◌&&◌, ℕ, zero, suc, Bool, false, true, not, List, [], ◌∷◌, Option, None, Some, Vec, ap, arith, is_some, length, nat_lt, refl, slice_get, sym, unwrap_or, if◌then◌else◌}
use Rattle.std.specs.Option.{option_map}
use Rattle.std.specs.declared.alloc.Global.{Global}
use Rattle.std.proofs.lemmas.Option.{slice_get-map}
use Rattle.std.proofs.lemmas.Bool.{le-ltb, lt-ltb}
use Rattle.std.proofs.lemmas.Bool.Decides.{nat_tests}
use Rattle.std.proofs.lemmas.Slice.Eq.{bytes_eq-Decides}
use Rattle.dc_elf.specs.Images.{Image}
use Rattle.dc_events.specs.Kinds.{kind_of}
use Rattle.dc_events.specs.declared.event.Next.{Next}
use Rattle.dc_guest.specs.Answers.{may_answer}
use Rattle.dc_guest.specs.Guest.{Guest, coming, event_of, guests_of, next_of}
use Rattle.dc_guest.proofs.Coming.{by_kind, kind_at, not_ended}
use Rattle.dc_model.specs.FailureFree.{FailureFree, answer_for}
use Rattle.dc_words.specs.Lists.{items_of, lists_of}
use Rattle.dc_plain.specs.Playing.{answer_to, can_be, ends_well, local_at, local_of, procs_of}
use Rattle.dc_model.specs.Guests.{Answer, Event, Guests, is_clock, is_input, is_random, is_receive, is_sure}
use Rattle.dc_model.specs.Process.{Local, fits, is_next_input}
use Rattle.dc_model.specs.Guests.Event.{AtEnd, AtInternal, AtClock, AtRandom, AtInput, AtReceive, AtVisible, AtSend}
use Rattle.dc_model.specs.Guests.{Answer as answer}
use Rattle.dc_plain.specs.declared.process.Process.{Process}
use Rattle.dc_model.specs.declared.visible.Visible.{Visible}
use Rattle.dc_model.specs.declared.act.Act.{Act}
use Rattle.dc_model.specs.declared.act.Act.TheVariants as act
use Rattle.dc_rv32.specs.Machine.{Machine}

-- the test of an event, by an answer
abbrev test : Answer → Event → Bool
test answer.Plain = is_sure
test (answer.Clock v) = is_clock
test (answer.Random v) = is_random
test answer.InputNone = is_input
test (answer.InputNext bytes) = is_input
test answer.InputEnd = is_input
test answer.ReceiveNone = is_receive
test (answer.ReceiveFrom s message) = is_receive

by_answer : (a : Answer) (e : Event) → e ≢ AtEnd → test a e ≡ may_answer a (kind_at e)
by_answer a AtEnd live = absurd (live refl)
by_answer answer.Plain AtInternal live = refl
by_answer answer.Plain AtClock live = refl
by_answer answer.Plain AtRandom live = refl
by_answer answer.Plain AtInput live = refl
by_answer answer.Plain AtReceive live = refl
by_answer answer.Plain (AtVisible body) live = refl
by_answer answer.Plain (AtSend to sent) live = refl
by_answer (answer.Clock v) AtInternal live = refl
by_answer (answer.Clock v) AtClock live = refl
by_answer (answer.Clock v) AtRandom live = refl
by_answer (answer.Clock v) AtInput live = refl
by_answer (answer.Clock v) AtReceive live = refl
by_answer (answer.Clock v) (AtVisible body) live = refl
by_answer (answer.Clock v) (AtSend to sent) live = refl
by_answer (answer.Random v) AtInternal live = refl
by_answer (answer.Random v) AtClock live = refl
by_answer (answer.Random v) AtRandom live = refl
by_answer (answer.Random v) AtInput live = refl
by_answer (answer.Random v) AtReceive live = refl
by_answer (answer.Random v) (AtVisible body) live = refl
by_answer (answer.Random v) (AtSend to sent) live = refl
by_answer answer.InputNone AtInternal live = refl
by_answer answer.InputNone AtClock live = refl
by_answer answer.InputNone AtRandom live = refl
by_answer answer.InputNone AtInput live = refl
by_answer answer.InputNone AtReceive live = refl
by_answer answer.InputNone (AtVisible body) live = refl
by_answer answer.InputNone (AtSend to sent) live = refl
by_answer (answer.InputNext bytes) AtInternal live = refl
by_answer (answer.InputNext bytes) AtClock live = refl
by_answer (answer.InputNext bytes) AtRandom live = refl
by_answer (answer.InputNext bytes) AtInput live = refl
by_answer (answer.InputNext bytes) AtReceive live = refl
by_answer (answer.InputNext bytes) (AtVisible body) live = refl
by_answer (answer.InputNext bytes) (AtSend to sent) live = refl
by_answer answer.InputEnd AtInternal live = refl
by_answer answer.InputEnd AtClock live = refl
by_answer answer.InputEnd AtRandom live = refl
by_answer answer.InputEnd AtInput live = refl
by_answer answer.InputEnd AtReceive live = refl
by_answer answer.InputEnd (AtVisible body) live = refl
by_answer answer.InputEnd (AtSend to sent) live = refl
by_answer answer.ReceiveNone AtInternal live = refl
by_answer answer.ReceiveNone AtClock live = refl
by_answer answer.ReceiveNone AtRandom live = refl
by_answer answer.ReceiveNone AtInput live = refl
by_answer answer.ReceiveNone AtReceive live = refl
by_answer answer.ReceiveNone (AtVisible body) live = refl
by_answer answer.ReceiveNone (AtSend to sent) live = refl
by_answer (answer.ReceiveFrom s message) AtInternal live = refl
by_answer (answer.ReceiveFrom s message) AtClock live = refl
by_answer (answer.ReceiveFrom s message) AtRandom live = refl
by_answer (answer.ReceiveFrom s message) AtInput live = refl
by_answer (answer.ReceiveFrom s message) AtReceive live = refl
by_answer (answer.ReceiveFrom s message) (AtVisible body) live = refl
by_answer (answer.ReceiveFrom s message) (AtSend to sent) live = refl

-- the end has no answer
at_end : (a : Answer) → test a AtEnd ≡ false
at_end answer.Plain = refl
at_end (answer.Clock v) = refl
at_end (answer.Random v) = refl
at_end answer.InputNone = refl
at_end (answer.InputNext bytes) = refl
at_end answer.InputEnd = refl
at_end answer.ReceiveNone = refl
at_end (answer.ReceiveFrom s message) = refl

by_ended : (b : Bool) (n : Next) (m : Machine) (a : Answer) → test a (if b then AtEnd else event_of n m) ≡ (not b && may_answer a (kind_of n))
by_ended true n m a = at_end a
by_ended false n m a = by_answer a (event_of n m) (not_ended n m) ∙ ap (may_answer a) (sym (by_kind n m))

tested : (g : Guest) (a : Answer) → test a (coming g) ≡ can_be g a
tested g a = by_ended g.ended (next_of g) g.machine a

and_true : (b : Bool) → b ≡ (b && true)
and_true true = refl
and_true false = refl

left_some : (inputs_taken : ℕ) (records : List (List ℕ)) → nat_lt inputs_taken (length records) ≡ is_some (slice_get records inputs_taken)
left_some inputs_taken [] = rw (le-ltb inputs_taken 0 (omega arith)) refl
left_some zero (x ∷ records) = rw (lt-ltb 0 (length (x ∷ records)) (omega arith)) refl
left_some (suc inputs_taken) (x ∷ records) = same ∙ left_some inputs_taken records
  where
    same : nat_lt (suc inputs_taken) (length (x ∷ records)) ≡ nat_lt inputs_taken (length records)
    same = grind (arith, nat_tests)

-- the record that an answer hands over is the next one
abbrev pub Hands : Answer → Option (List ℕ) → Type 0
Hands a next = (bytes : List ℕ) → a ≡ answer.InputNext bytes → next ≡ Some bytes

module _ (images : List Image) (inputs : List (List (List ℕ))) where
  abbrev G : Guests Guest
  G = guests_of images inputs

  fits_by : (p : ℕ) (l : Local Guest) (a : Answer) → Hands a (slice_get (G.inputs p) l.inputs_taken)
      → fits G p l a ≡ (can_be l.machine a && ends_well a (slice_get (G.inputs p) l.inputs_taken))
  fits_by p l answer.Plain hands = tested l.machine answer.Plain ∙ and_true (can_be l.machine answer.Plain)
  fits_by p l (answer.Clock v) hands = tested l.machine (answer.Clock v) ∙ and_true (can_be l.machine (answer.Clock v))
  fits_by p l (answer.Random v) hands = tested l.machine (answer.Random v) ∙ and_true (can_be l.machine (answer.Random v))
  fits_by p l answer.InputNone hands = tested l.machine answer.InputNone ∙ and_true (can_be l.machine answer.InputNone)
  fits_by p l (answer.InputNext bytes) hands = ap (λ o. is_input (coming l.machine) && is_next_input bytes o) (hands bytes refl)
      ∙ ap (λ b. is_input (coming l.machine) && b) ((bytes_eq-Decides bytes bytes).1 refl) ∙ ap (λ b. b && true) (tested l.machine (answer.InputNext bytes))
  fits_by p l answer.InputEnd hands = ap (λ b. is_input (coming l.machine) && not b) (left_some l.inputs_taken (G.inputs p))
      ∙ ap (λ b. b && not (is_some (slice_get (G.inputs p) l.inputs_taken))) (tested l.machine answer.InputEnd)
  fits_by p l answer.ReceiveNone hands = tested l.machine answer.ReceiveNone ∙ and_true (can_be l.machine answer.ReceiveNone)
  fits_by p l (answer.ReceiveFrom s message) hands = tested l.machine (answer.ReceiveFrom s message) ∙ and_true (can_be l.machine (answer.ReceiveFrom s message))

  next_is : (o : Option (List ℕ)) (a : Answer) → option_map answer.InputNext o ≡ Some a → Hands a o
  next_is None a is = cc
  next_is (Some bytes) a is = λ taken same. let one : bytes ≡ taken = cc in ap (λ (xs : List ℕ). Some xs) one

  answer_hands : (w : FailureFree Guest) (p : ℕ) (b : Act) (a : Answer) → answer_for G w p b ≡ Some a → Hands a (slice_get (G.inputs p) (w.procs p).inputs_taken)
  answer_hands w p act.Plain a is = λ bytes same. absurd cc
  answer_hands w p (act.Clock v) a is = λ bytes same. absurd cc
  answer_hands w p (act.Random v) a is = λ bytes same. absurd cc
  answer_hands w p act.InputNone a is = λ bytes same. absurd cc
  answer_hands w p act.InputNext a is = next_is (slice_get (G.inputs p) (w.procs p).inputs_taken) a is
  answer_hands w p act.InputEnd a is = λ bytes same. absurd cc
  answer_hands w p act.ReceiveNone a is = λ bytes same. absurd cc
  answer_hands w p (act.ReceiveFrom s) a is = from (s == p) (slice_get ((w.procs s).sent p) ((w.procs p).received s)) is
    where
      from : (b : Bool) (o : Option (List ℕ)) → (if b then None else option_map (answer.ReceiveFrom s) o) ≡ Some a → Hands a (slice_get (G.inputs p) (w.procs p).inputs_taken)
      from true o sent = cc
      from false None sent = cc
      from false (Some message) sent = λ bytes same. absurd cc

  -- the answer of an act, where it fits
  pub fits_answer : (w : FailureFree Guest) (p : ℕ) (b : Act) (a : Answer) (fit : Bool) → answer_for G w p b ≡ Some a
      → fit ≡ (can_be (w.procs p).machine a && ends_well a (slice_get (G.inputs p) (w.procs p).inputs_taken)) → answer_to G w p b ≡ (if fit then Some a else None)
  fits_answer w p b a fit is tests = rw is (ap (λ (c : Bool). if c then Some a else None) (fits_by p (w.procs p) a (answer_hands w p b a is) ∙ sym tests))

-- the records of a process are the items of its vector
pub items_are : (vectors : List (Vec (List ℕ) Global)) (p : ℕ) → unwrap_or (slice_get (lists_of vectors) p) [] ≡ items_of (slice_get vectors p)
items_are vectors p = ap (λ o. unwrap_or o []) (slice_get-map (λ v. v.items) vectors p) ∙ there (slice_get vectors p)
  where
    there : (o : Option (Vec (List ℕ) Global)) → unwrap_or (option_map (λ v. v.items) o) [] ≡ items_of o
    there None = refl
    there (Some v) = refl

-- the same over the code's processes and inputs
module _ (images : List Image) (inputs : List (Vec (List ℕ) Global)) (processes : List Process) (visibles : List Visible) (p : ℕ) (b : Act) where
  abbrev G' : Guests Guest
  G' = guests_of images (lists_of inputs)

  abbrev w' : FailureFree Guest
  w' = record { procs = procs_of processes; visibles = visibles }

  pub no_answer : answer_for G' w' p b ≡ None → None ≡ answer_to G' w' p b
  no_answer is = rw is refl

  pub answer_fits : (a : Answer) (process : Process) (next : Option (List ℕ)) (fit : Bool) → answer_for G' w' p b ≡ Some a → slice_get processes p ≡ Some process
      → next ≡ slice_get (items_of (slice_get inputs p)) process.inputs_taken → fit ≡ (can_be process.guest a && ends_well a next)
      → (if fit then Some a else None) ≡ answer_to G' w' p b
  answer_fits a process next fit is there next_is tests = sym (fits_answer images (lists_of inputs) w' p b a fit is
      (tests ∙ ap (λ o. can_be process.guest a && ends_well a o) (next_is ∙ ap (λ xs. slice_get xs process.inputs_taken) (sym (items_are inputs p)))
      ∙ ap (λ (l : Local Guest). can_be l.machine a && ends_well a (slice_get (G'.inputs p) l.inputs_taken)) (sym here)))
    where
      here : procs_of processes p ≡ local_of process
      here = ap (local_at (length processes) p) there
