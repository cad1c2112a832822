-- The calls, by the number in x17 and the arguments in x10, x11 and x12; sums are of whole numbers.
use Rattle.std.specs.Prelude.{◌≢◌, ℕ, ◌+◌, ◌≤◌, ◌<◌, ◌==◌, ◌&&◌, Bool, not, List, Option, None, Some, if◌then◌else◌, nat_le, nat_lt, slice_index, slice_set}
use Rattle.dc_limits.specs.declared.bounds.TheConstants.{INPUT_BYTES}
use Rattle.dc_limits.specs.declared.sizes.TheConstants.{MESSAGE_BYTES}
use Rattle.dc_calls.specs.declared.call.Call.{Call}
use Rattle.dc_calls.specs.declared.call.Call.TheVariants.{Exit, Output, Input, Clock, Random, Send, Receive, Number, BadArgument, Unknown}

-- so many bytes from an address on lie within the memory
abbrev pub is_within : ℕ → ℕ → ℕ → Bool
is_within from count size = nat_le (from + count) size

-- a call, or a bad argument where its rule does not hold
abbrev pub if_good : Bool → Call → Call
if_good good call = if good then call else BadArgument

-- 2 shows bytes: at most 256
abbrev pub output_of : ℕ → ℕ → ℕ → Call
output_of size from count = if_good (nat_le count 256 && is_within from count size) (Output from count)

-- 3 asks for a record: room for so many bytes at least
abbrev pub input_of : ℕ → ℕ → ℕ → Call
input_of size to room = if_good (nat_le INPUT_BYTES room && is_within to room size) (Input to room)

-- 6 sends at most 64 bytes to another guest
abbrev pub send_of : ℕ → ℕ → ℕ → ℕ → ℕ → ℕ → Call
send_of size p n q from count = if_good (nat_lt q n && (not (q == p) && (nat_le count MESSAGE_BYTES && is_within from count size))) (Send q from count)

-- 7 asks for a message: room for at least 64 bytes
abbrev pub receive_of : ℕ → ℕ → ℕ → Call
receive_of size to room = if_good (nat_le MESSAGE_BYTES room && is_within to room size) (Receive to room)

-- the call of guest p of n in a memory of this size
abbrev pub call_of : List ℕ → ℕ → ℕ → ℕ → Call
call_of x size p n = let number = slice_index x 17 in let first = slice_index x 10 in let second = slice_index x 11 in
    if number == 1 then Exit first
    else if number == 2 then output_of size first second
    else if number == 3 then input_of size first second
    else if number == 4 then Clock
    else if number == 5 then Random
    else if number == 6 then send_of size p n first second (slice_index x 12)
    else if number == 7 then receive_of size first second
    else if number == 8 then Number
    else Unknown

-- the registers after an answer: x10, and x11 where there is a second result
abbrev pub answered_x : List ℕ → ℕ → Option ℕ → List ℕ
answered_x x first None = slice_set x 10 first
answered_x x first (Some second) = slice_set (slice_set x 10 first) 11 second

-- what a call of guest p of n names lies within a memory of this size, and is another guest
abbrev pub Fits : ℕ → ℕ → ℕ → Call → Type 0
Fits size p n (Output from count) = (count ≤ 256) × (from + count ≤ size)
Fits size p n (Input to room) = (INPUT_BYTES ≤ room) × (to + room ≤ size)
Fits size p n (Send q from count) = (q < n) × (q ≢ p) × (count ≤ MESSAGE_BYTES) × (from + count ≤ size)
Fits size p n (Receive to room) = (MESSAGE_BYTES ≤ room) × (to + room ≤ size)
Fits size p n _ = Unit {0}
