use Rattle.std.proofs.Common.{◌≡◌, length}
use Rattle.dc_text_tests.proofs.links.keep_each.Given as goal

abbrev pub invariant-loop-byte : goal.invariant-loop-byte
invariant-loop-byte l = length l.links ≡ length l.fn.links
