use Rattle.std.proofs.Common.{◌≡◌, ◌<◌, ℕ, length, slice_index}
use Rattle.dc_plain.specs.Playing.{world_in}
use Rattle.dc_retrace.proofs.noting.count_sent.Given as goal

-- those below are counted
abbrev pub invariant-loop-q : goal.invariant-loop-q
invariant-loop-q l = (r : ℕ) → r < l.q → slice_index l.sent r ≡ length (((world_in l.plain).procs l.p).sent r)
