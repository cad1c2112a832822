use Rattle.std.proofs.Common.{◌≡◌, false, take}
use Rattle.dc_armed.specs.Turns.{WaitFirst, WaitNone}
use Rattle.dc_armed.proofs.arming.arm.Given as goal

abbrev pub invariant-loop-stop : goal.invariant-loop-stop
invariant-loop-stop l = record {
  waits : WaitFirst (take l.stop-index l.stops) l.turn l.waiting;
  none : l.armed ≡ false → WaitNone l.waiting;
}
