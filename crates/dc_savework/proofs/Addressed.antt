-- What a guest of this program sends goes to another guest: any other send is a bad argument.
use Rattle.std.proofs.Common.{◌≡◌, ◌≢◌, ◌∙◌, ◌<◌, ◌==◌, ◌&&◌, ℕ, List, [], ◌∷◌, Bool, true, false, not, Option, Some, None, if◌then◌else◌, refl, sym, ap, subst, length, nat_lt, slice_get, slice_index}
use Rattle.std.proofs.lemmas.Bool.{and_parts, eq-eqb, ltb-true, true≢false}
use Rattle.dc_calls.specs.Calls.{call_of, input_of, output_of, receive_of, send_of}
use Rattle.dc_calls.specs.declared.call.Call.{Call}
use Rattle.dc_calls.specs.declared.call.Call.TheVariants as calls
use Rattle.dc_elf.specs.Images.{Image}
use Rattle.dc_events.specs.declared.event.Next.TheVariants as next
use Rattle.dc_guest.specs.Guest.{Guest, after_answer, after_next, call_at, coming, event_of, guests_of, next_by, next_of, started}
use Rattle.dc_model.specs.Guests.{Answer}
use Rattle.dc_model.specs.Guests.Event.{AtEnd, AtSend}
use Rattle.dc_model.specs.Process.{local}
use Rattle.dc_rv32.specs.Machine.{Machine, stepped}
use Rattle.dc_rv32.specs.declared.machine.Stepped.{Stepped}
use Rattle.dc_rv32.specs.declared.machine.Stepped.TheVariants as step

-- a call of guest p of n that sends sends to another guest
abbrev IsAway : ℕ → ℕ → Call → Type 0
IsAway p n (calls.Send q from count) = (q < n) × (q ≢ p)
IsAway p n _ = Unit {0}

-- of two calls
either : (p n : ℕ) (b : Bool) (x y : Call) → (b ≡ true → IsAway p n x) → IsAway p n y → IsAway p n (if b then x else y)
either p n true x y first other = first refl
either p n false x y first other = other

-- the tests of a send
tested : (p n q : ℕ) (b : Bool) → (nat_lt q n && (not (q == p) && b)) ≡ true → (q < n) × (q ≢ p)
tested p n q b is = let both = and_parts (nat_lt q n) (not (q == p) && b) is in let other = and_parts (not (q == p)) b both.1 in (
  ltb-true q n both.0,
  λ e. true≢false (sym other.0 ∙ ap not (eq-eqb q p e)),
)

-- registers make no other call
call_away : (x : List ℕ) (size p n : ℕ) → IsAway p n (call_of x size p n)
call_away x size p n =
    let number : ℕ = slice_index x 17 in let first : ℕ = slice_index x 10 in let second : ℕ = slice_index x 11 in
    either p n (number == 1) (calls.Exit first) _ (λ e. tt)
    (either p n (number == 2) (output_of size first second) _ (λ e. either p n _ (calls.Output first second) calls.BadArgument (λ f. tt) tt)
    (either p n (number == 3) (input_of size first second) _ (λ e. either p n _ (calls.Input first second) calls.BadArgument (λ f. tt) tt)
    (either p n (number == 4) calls.Clock _ (λ e. tt)
    (either p n (number == 5) calls.Random _ (λ e. tt)
    (either p n (number == 6) (send_of size p n first second (slice_index x 12)) _
    (λ e. either p n _ (calls.Send first second (slice_index x 12)) calls.BadArgument (λ f. tested p n first _ f) tt)
    (either p n (number == 7) (receive_of size first second) _ (λ e. either p n _ (calls.Receive first second) calls.BadArgument (λ f. tt) tt)
    (either p n (number == 8) calls.Number calls.Unknown (λ e. tt) tt)))))))

-- an event that sends is such a call
call_sends : (p n : ℕ) (call : Call) (m : Machine) (q : ℕ) (message : List ℕ) → IsAway p n call → event_of (next.Call call) m ≡ AtSend q message → (q < n) × (q ≢ p)
call_sends p n (calls.Send to from count) m q message away is = subst (λ (k : ℕ). (k < n) × (k ≢ p)) (let same : to ≡ q = cc in same) away
call_sends p n (calls.Exit code) m q message away is = absurd (let never : ⊥ = cc in never)
call_sends p n (calls.Output from count) m q message away is = absurd (let never : ⊥ = cc in never)
call_sends p n (calls.Input to room) m q message away is = absurd (let never : ⊥ = cc in never)
call_sends p n calls.Clock m q message away is = absurd (let never : ⊥ = cc in never)
call_sends p n calls.Random m q message away is = absurd (let never : ⊥ = cc in never)
call_sends p n (calls.Receive to room) m q message away is = absurd (let never : ⊥ = cc in never)
call_sends p n calls.Number m q message away is = absurd (let never : ⊥ = cc in never)
call_sends p n calls.BadArgument m q message away is = absurd (let never : ⊥ = cc in never)
call_sends p n calls.Unknown m q message away is = absurd (let never : ⊥ = cc in never)

step_sends : (s : Stepped) (g : Guest) (q : ℕ) (message : List ℕ) → event_of (next_by s g) g.machine ≡ AtSend q message → (q < g.count) × (q ≢ g.number)
step_sends step.Retired g q message is = absurd (let never : ⊥ = cc in never)
step_sends step.Call g q message is = call_sends g.number g.count (call_at g) g.machine q message (call_away g.machine.registers (length g.machine.memory) g.number g.count) is
step_sends (step.Trap cause) g q message is = absurd (let never : ⊥ = cc in never)

guest_sends : (g : Guest) (q : ℕ) (message : List ℕ) → coming g ≡ AtSend q message → (q < g.count) × (q ≢ g.number)
guest_sends g q message is = by g.ended is
  where
    by : (b : Bool) → (if b then AtEnd else event_of (next_of g) g.machine) ≡ AtSend q message → (q < g.count) × (q ≢ g.number)
    by true is = absurd (let never : ⊥ = cc in never)
    by false is = step_sends (stepped g.machine).1 g q message is

-- a guest keeps its number, and how many there are
record IsNumbered (p n : ℕ) (g : Guest) : Type 0 where
  number : g.number ≡ p
  count : g.count ≡ n

started_numbered : (p n : ℕ) (image : Option Image) → IsNumbered p n (started p n image)
started_numbered p n None = record { number = refl; count = refl }
started_numbered p n (Some image) = record { number = refl; count = refl }

answered_numbered : (p n : ℕ) (g : Guest) (a : Answer) → IsNumbered p n g → IsNumbered p n (after_answer g a)
answered_numbered p n g a is = by g.ended
  where
    by : (b : Bool) → IsNumbered p n (if b then g else after_next (next_of g) a g)
    by true = is
    by false = record { number = is.number; count = is.count }

numbered : (images : List Image) (inputs : List (List (List ℕ))) (p : ℕ) (answers : List Answer) → IsNumbered p (length images) (local (guests_of images inputs) p answers).machine
numbered images inputs p [] = started_numbered p (length images) (slice_get images p)
numbered images inputs p (a ∷ answers) = answered_numbered p (length images) (local (guests_of images inputs) p answers).machine a (numbered images inputs p answers)

pub addressed : (images : List Image) (inputs : List (List (List ℕ))) (p q : ℕ) (message : List ℕ) (answers : List Answer)
    → coming (local (guests_of images inputs) p answers).machine ≡ AtSend q message → (q < length images) × (q ≢ p)
addressed images inputs p q message answers is =
    let g : Guest = (local (guests_of images inputs) p answers).machine in
    let away : (q < g.count) × (q ≢ g.number) = guest_sends g q message is in
    let who : IsNumbered p (length images) g = numbered images inputs p answers in
    (subst (λ (n : ℕ). q < n) who.count away.0, subst (λ (k : ℕ). q ≢ k) who.number away.1)
