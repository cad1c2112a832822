use Rattle.std.proofs.Common.{◌≡◌, ◌*◌, ◌++◌, take, drop}
use Rattle.dc_words.specs.Hex.{hex_of}
use Rattle.dc_words.proofs.hex.hex_line.Given as goal

-- the digits of the bytes so far, then what stood there
abbrev pub invariant-loop-i : goal.invariant-loop-i
invariant-loop-i l = l.to ≡ hex_of (take l.i l.bytes) ++ drop (2 * l.i) l.fn.to
