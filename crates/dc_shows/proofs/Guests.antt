-- A guest of numbers of their types stays one, and shows what can be written.
use Rattle.std.proofs.Common.{◌≡◌, ◌<◌, ◌≤◌, ◌/◌, ◌%◌, ◌^◌, ◌==◌, ◌&&◌, ℕ, zero, suc, Bool, true, false, not, List, [], ◌∷◌, None, Some, refl, arith, length, take, drop, nat_le, nat_lt, slice_index, slice_set}
use Rattle.std.proofs.lemmas.Bool.{and_parts, leb-true}
use Rattle.dc_calls.specs.Calls.{call_of, if_good, is_within}
use Rattle.dc_calls.specs.declared.call.Call as calls
use Rattle.dc_calls.specs.declared.call.Call.TheVariants.{Exit, Output, Input, Clock, Random, Send, Receive, Number, BadArgument, Unknown}
use Rattle.dc_events.specs.declared.event.Next.TheVariants as next
use Rattle.dc_guest.specs.Guest.{Guest, after_answer, after_call, answered, bytes_at, call_at, coming, event_of, machine_after, minus, next_by, put_at}
use Rattle.dc_model.specs.Guests.{Answer}
use Rattle.dc_model.specs.Guests.{Answer as answer}
use Rattle.dc_rv32.specs.Machine.{IsCause, Machine, stepped}
use Rattle.dc_rv32.specs.declared.machine.Stepped.{Stepped}
use Rattle.dc_rv32.specs.declared.machine.Stepped.TheVariants as step
use Rattle.dc_words.specs.Words.{AllBelow}
use Rattle.dc_shows.specs.Typed.{IsComing, IsMachine, IsTold}
use Rattle.dc_kernel.proofs.Parts.{below-drop, below-take}
use Rattle.dc_shows.proofs.Lists.{below-index, below-set, by_test}
use Rattle.dc_shows.proofs.Steps.{steps, with_below}

-- a call names few bytes, and ends with a word
abbrev Small : calls.Call → Type 0
Small (Exit code) = code < 2 ^ 32
Small (Output from count) = count ≤ 256
Small (Send q from count) = count ≤ 64
Small _ = Unit {0}

good_small : (good : Bool) (call : calls.Call) → (good ≡ true → Small call) → Small (if_good good call)
good_small true call small = small refl
good_small false call small = tt

call_small : (x : List ℕ) (size p n : ℕ) → AllBelow (2 ^ 32) x → Small (call_of x size p n)
call_small x size p n words =
    let at : (r : ℕ) → slice_index x r < 2 ^ 32 = λ r. below-index (2 ^ 32) x r (omega arith) words in
    let number = slice_index x 17 in let first = slice_index x 10 in let second = slice_index x 11 in let third = slice_index x 12 in
    by_test Small (number == 1) _ _ (at 10) (
    by_test Small (number == 2) _ _ (good_small (nat_le second 256 && is_within first second size) (Output first second) (λ yes. leb-true second 256 (and_parts (nat_le second 256) (is_within first second size) yes).0)) (
    by_test Small (number == 3) _ _ (good_small (nat_le 64 second && is_within first second size) (Input first second) (λ yes. tt)) (
    by_test Small (number == 4) _ _ tt (
    by_test Small (number == 5) _ _ tt (
    by_test Small (number == 6) _ _ (good_small (nat_lt first n && (not (first == p) && (nat_le third 64 && is_within second third size))) (Send first second third)
    (λ yes. leb-true third 64 (and_parts (nat_le third 64) (is_within second third size) (and_parts (not (first == p)) (nat_le third 64 && is_within second third size)
    (and_parts (nat_lt first n) (not (first == p) && (nat_le third 64 && is_within second third size)) yes).1).1).0)) (
    by_test Small (number == 7) _ _ (good_small (nat_le 64 second && is_within first second size) (Receive first second) (λ yes. tt)) (
    by_test Small (number == 8) _ _ tt tt)))))))

module _ (m : Machine) (is : IsMachine m) where
  shown_bytes : (from count : ℕ) → AllBelow (2 ^ 8) (bytes_at m.memory from count)
  shown_bytes from count = below-take (2 ^ 8) count (drop from m.memory) (below-drop (2 ^ 8) from m.memory is.memory)

  answers_one : (first : ℕ) → first < 2 ^ 32 → IsMachine (answered m first None)
  answers_one first small = record { registers = below-set (2 ^ 32) m.registers 10 first small is.registers; pc = omega arith; memory = is.memory }

  answers_two : (first second : ℕ) → first < 2 ^ 32 → second < 2 ^ 32 → IsMachine (answered m first (Some second))
  answers_two first second small small' = record {
    registers = below-set (2 ^ 32) (slice_set m.registers 10 first) 11 second small' (below-set (2 ^ 32) m.registers 10 first small is.registers);
    pc = omega arith;
    memory = is.memory;
  }

  puts : (to : ℕ) (bytes : List ℕ) → AllBelow (2 ^ 8) bytes → IsMachine (put_at m to bytes)
  puts to bytes below = record { registers = is.registers; pc = is.pc; memory = with_below m.memory bytes to is.memory below }

few_taken : (n : ℕ) (xs : List ℕ) → length (take n xs) ≤ n
few_taken zero xs = omega arith
few_taken (suc n) [] = omega arith
few_taken (suc n) (x ∷ xs) = let h = few_taken n xs in omega (arith, h)

module _ (m : Machine) (is : IsMachine m) (p n : ℕ) (one : p < 2 ^ 32) (few : n < 2 ^ 32) where
  calls_on : (call : calls.Call) (a : Answer) → Small call → IsTold a → IsMachine (after_call call a p n m)
  calls_on (Exit code) a small told = is
  calls_on (Output from count) a small told = answers_one m is count (omega (arith, small))
  calls_on (Input to room) (answer.InputNext bytes) small told = answers_one (put_at m to bytes) (puts m is to bytes told.1) (length bytes) told.0
  calls_on (Input to room) answer.InputEnd small told = answers_one m is (minus 2) (omega arith)
  calls_on (Input to room) answer.Plain small told = answers_one m is (minus 1) (omega arith)
  calls_on (Input to room) (answer.Clock v) small told = answers_one m is (minus 1) (omega arith)
  calls_on (Input to room) (answer.Random v) small told = answers_one m is (minus 1) (omega arith)
  calls_on (Input to room) answer.InputNone small told = answers_one m is (minus 1) (omega arith)
  calls_on (Input to room) answer.ReceiveNone small told = answers_one m is (minus 1) (omega arith)
  calls_on (Input to room) (answer.ReceiveFrom s bytes) small told = answers_one m is (minus 1) (omega arith)
  calls_on Clock (answer.Clock v) small told = answers_two m is (v % 2 ^ 32) (v / 2 ^ 32) (omega arith) (omega (arith, told))
  calls_on Clock answer.Plain small told = is
  calls_on Clock (answer.Random v) small told = is
  calls_on Clock answer.InputNone small told = is
  calls_on Clock (answer.InputNext bytes) small told = is
  calls_on Clock answer.InputEnd small told = is
  calls_on Clock answer.ReceiveNone small told = is
  calls_on Clock (answer.ReceiveFrom s bytes) small told = is
  calls_on Random (answer.Random v) small told = answers_one m is v told
  calls_on Random answer.Plain small told = is
  calls_on Random (answer.Clock v) small told = is
  calls_on Random answer.InputNone small told = is
  calls_on Random (answer.InputNext bytes) small told = is
  calls_on Random answer.InputEnd small told = is
  calls_on Random answer.ReceiveNone small told = is
  calls_on Random (answer.ReceiveFrom s bytes) small told = is
  calls_on (Send q from count) a small told = answers_one m is count (omega (arith, small))
  calls_on (Receive to room) (answer.ReceiveFrom s bytes) small told = answers_two (put_at m to bytes) (puts m is to bytes told.1.1) (length bytes) s told.1.0 told.0
  calls_on (Receive to room) answer.Plain small told = answers_one m is (minus 1) (omega arith)
  calls_on (Receive to room) (answer.Clock v) small told = answers_one m is (minus 1) (omega arith)
  calls_on (Receive to room) (answer.Random v) small told = answers_one m is (minus 1) (omega arith)
  calls_on (Receive to room) answer.InputNone small told = answers_one m is (minus 1) (omega arith)
  calls_on (Receive to room) (answer.InputNext bytes) small told = answers_one m is (minus 1) (omega arith)
  calls_on (Receive to room) answer.InputEnd small told = answers_one m is (minus 1) (omega arith)
  calls_on (Receive to room) answer.ReceiveNone small told = answers_one m is (minus 1) (omega arith)
  calls_on Number a small told = answers_two m is p n one few
  calls_on BadArgument a small told = answers_one m is (minus 3) (omega arith)
  calls_on Unknown a small told = answers_one m is (minus 9) (omega arith)

  -- what is shown or sent
  call_comes : (call : calls.Call) → Small call → IsComing (event_of (next.Call call) m)
  call_comes (Exit code) small = small
  call_comes (Output from count) small = (let h = few_taken count (drop from m.memory) in omega (arith, h, small), shown_bytes m is from count)
  call_comes (Input to room) small = tt
  call_comes Clock small = tt
  call_comes Random small = tt
  call_comes (Send q from count) small = (let h = few_taken count (drop from m.memory) in omega (arith, h, small), shown_bytes m is from count)
  call_comes (Receive to room) small = tt
  call_comes Number small = tt
  call_comes BadArgument small = tt
  call_comes Unknown small = tt

module _ (g : Guest) (is : IsMachine g.machine) (one : g.number < 2 ^ 32) (few : g.count < 2 ^ 32) where
  -- by its step
  step_on : (s : Stepped) (a : Answer) → (stepped g.machine).1 ≡ s → IsTold a → IsMachine (machine_after (next_by s g) a g)
  step_on step.Retired a e told = (steps g.machine is).0
  step_on step.Call a e told = calls_on g.machine is g.number g.count one few (call_at g) a (call_small g.machine.registers (length g.machine.memory) g.number g.count is.registers) told
  step_on (step.Trap cause) a e told = is

  step_comes : (s : Stepped) → IsCause s → IsComing (event_of (next_by s g) g.machine)
  step_comes step.Retired cause = tt
  step_comes step.Call cause = call_comes g.machine is g.number g.count one few (call_at g) (call_small g.machine.registers (length g.machine.memory) g.number g.count is.registers)
  step_comes (step.Trap c) cause = (omega (arith, cause), is.pc)

  -- after an answer
  pub answers_on : (a : Answer) → IsTold a → IsMachine (after_answer g a).machine
  answers_on a told = by_test (λ (h : Guest). IsMachine h.machine) g.ended _ _ is (step_on (stepped g.machine).1 a refl told)

  pub comes_on : IsComing (coming g)
  comes_on = by_test IsComing g.ended _ _ tt (step_comes (stepped g.machine).1 (steps g.machine is).1)

  pub number_on : (a : Answer) → (after_answer g a).number ≡ g.number
  number_on a = by_test (λ (h : Guest). h.number ≡ g.number) g.ended _ _ refl refl

  pub count_on : (a : Answer) → (after_answer g a).count ≡ g.count
  count_on a = by_test (λ (h : Guest). h.count ≡ g.count) g.ended _ _ refl refl
