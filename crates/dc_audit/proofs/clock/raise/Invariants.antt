use Rattle.std.proofs.Common.{◌≡◌, ◌<◌, ◌≤◌, ℕ, length}
use Rattle.dc_audit.specs.Clocks.{known_at, view}
use Rattle.dc_audit.proofs.clock.raise.Given as goal

abbrev pub invariant-loop-p : goal.invariant-loop-p
invariant-loop-p l = record {
  long : length l.clock ≡ 16;
  changed : (p : ℕ) → p < l.p → view l.clock p ≡ known_at l.index l.line (view l.initial.clock) p;
  same : (p : ℕ) → l.p ≤ p → view l.clock p ≡ view l.initial.clock p;
}
