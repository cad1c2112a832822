use Rattle.std.proofs.Common.{◌≤◌, ◌<◌, ℕ, slice_get, slice_index}
use Rattle.dc_retrace.specs.Deciding.{sent_on}
use Rattle.dc_retrace.specs.Read.{kernel_at}
use Rattle.dc_retrace.proofs.deciding.is_closed.Given as goal

-- so it is with those below
abbrev pub invariant-loop-s : goal.invariant-loop-s
invariant-loop-s l = (s : ℕ) → s < l.s → slice_index (kernel_at l.saved l.p).received s ≤ sent_on (slice_get l.trails s) l.p
