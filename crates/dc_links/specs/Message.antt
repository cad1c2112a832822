-- A message is the list of its bytes.
use Rattle.std.specs.Prelude.{ℕ, ◌-◌, List, ◌++◌, length, replicate}
use Rattle.dc_limits.specs.declared.sizes.TheConstants.{MESSAGE_BYTES}

-- a message in the room of one: zeros after its bytes
abbrev pub padded : List ℕ → List ℕ
padded message = message ++ replicate (MESSAGE_BYTES - length message) 0
