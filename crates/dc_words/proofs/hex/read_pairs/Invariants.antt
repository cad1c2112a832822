use Rattle.std.proofs.Common.{◌≡◌, ◌+◌, ◌*◌, length, take}
use Rattle.dc_words.specs.Hex.{bytes_before, bytes_of_hex}
use Rattle.dc_words.proofs.hex.read_pairs.Given as goal

-- the bytes so far, and then those of what is left
abbrev pub invariant-loop-rest : goal.invariant-loop-rest
invariant-loop-rest l = record {
  bytes : bytes_of_hex l.text ≡ bytes_before (take l.count l.to) (bytes_of_hex l.rest);
  find : 2 * l.count + length l.rest ≡ length l.text;
  length : length l.to ≡ length l.fn.to;
}

abbrev pub decreases-loop-rest : goal.decreases-loop-rest
decreases-loop-rest l = length l.rest
