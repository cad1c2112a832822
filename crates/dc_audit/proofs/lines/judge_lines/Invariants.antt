use Rattle.std.proofs.Common.{◌≡◌, length, take, drop}
use Rattle.dc_audit.specs.Keeping.{CanFollow, Keeps}
use Rattle.dc_audit.proofs.lines.judge_lines.Given as goal

abbrev pub invariant-loop-i : goal.invariant-loop-i
invariant-loop-i l = record {
  wide : length l.clocks ≡ 16;
  linked : length l.links ≡ 256;
  keeps : Keeps l.causal (take l.i l.lines) l.clocks l.links l.last l.failure;
  follow : CanFollow 16 (take l.i l.lines) (drop l.i l.lines);
}
