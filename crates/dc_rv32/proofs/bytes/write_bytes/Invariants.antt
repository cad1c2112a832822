use Rattle.std.proofs.Common.{◌≡◌, ◌+◌, length}
use Rattle.dc_media.specs.Told.{Becomes}
use Rattle.dc_rv32.specs.Stores.{BreakOff, Follow, touched}
use Rattle.dc_rv32.specs.Bytes.{with_bytes}
use Rattle.dc_words.specs.Words.{bytes_in}
use Rattle.dc_rv32.proofs.bytes.write_bytes.Given as goal

-- what is left, written from here on, makes the whole, and so do the stores that are left
abbrev pub invariant-loop-rest : goal.invariant-loop-rest
invariant-loop-rest g l = let M = g.B.Bus in record {
  whole : Becomes (M.told l.fn.bus) (M.told l.bus) (λ first now. with_bytes (bytes_in first) l.fn.at l.fn.bytes ≡ with_bytes (bytes_in now) l.at l.rest);
  end : l.at + length l.rest ≡ l.fn.at + length l.fn.bytes;
  count : M.count l.bus ≡ M.count l.fn.bus;
  live : M.live l.bus;
  made : (new : _) → Follow M.made (touched l.at (length l.rest)) l.bus new → Follow M.made (touched l.fn.at (length l.fn.bytes)) l.fn.bus new;
  refused : (new : _) (why : _) → BreakOff M.made M.refused (touched l.at (length l.rest)) l.bus new why
      → BreakOff M.made M.refused (touched l.fn.at (length l.fn.bytes)) l.fn.bus new why;
}

abbrev pub decreases-loop-rest : goal.decreases-loop-rest
decreases-loop-rest g l = length l.rest
