use Rattle.std.proofs.Common.{arith}
use Rattle.dc_armed.proofs.Firsts.{WaitFirst-more, neither}
use Rattle.dc_armed.proofs.arming.arm.Goals as goal

pub loop-stop-preserved : goal.loop-stop-preserved
loop-stop-preserved c = record {
  waits = WaitFirst-more c.args.stops.now c.loop-stop.stop-index _ c.args.turn _ (omega arith) (c.arm_one-armed.ensures.waits _ c.loop-stop.invariant.waits);
  none = λ e.
      let both = neither c.loop-stop.armed c.arm_one-armed.result e in
      rw (c.arm_one-armed.ensures.none both.1) (c.loop-stop.invariant.none both.0);
}
