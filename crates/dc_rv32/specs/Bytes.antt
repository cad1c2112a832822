-- Bytes at an address.
use Rattle.std.specs.Prelude.{ℕ, ◌+◌, List, ◌++◌, length, take, drop}

-- the memory with other bytes from an address on
abbrev pub with_bytes : List ℕ → ℕ → List ℕ → List ℕ
with_bytes memory a bytes = take a memory ++ bytes ++ drop (a + length bytes) memory
