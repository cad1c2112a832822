use Rattle.std.proofs.Common.{◌+◌, ◌∙◌, refl, arith}
use Rattle.dc_media.specs.Devices.{of_disks}
use Rattle.dc_media.specs.Tears.{left}
use Rattle.dc_armed.specs.Torn.{at_once, in_parts}
use Rattle.dc_armed.proofs.Parting.{IsOverwrite-then, as_long, in_parts-more, length-left, left-append}
use Rattle.dc_armed.proofs.torn.leave.Goals as goal

pub loop-done-preserved : goal.loop-done-preserved
loop-done-preserved g c =
    let D = of_disks g.D.Disks in
    let whole = c.loop-done.invariant.whole (omega arith) in
    let done = c.loop-done.done in
    let part = c.min-part.result in
    record {
      within = omega arith;
      whole = λ below. omega (arith, below, whole);
      so_far = rw c.and-answer.ensures (as_long D c.args.p c.args.at _ (done + part) (in_parts done + at_once part) (in_parts (done + part)) (left c.args.fill) _ _ _ refl (in_parts-more done part whole (omega arith) (omega arith))
          (IsOverwrite-then D c.args.p c.args.at done part (in_parts done) (at_once part)
          (left c.args.fill) (left c.args.fill) (left c.args.fill) _ _ c.args.disks.now c.loop-done.disks c.leave_part.new.disks
          g.met.D.Disks.told_extent g.met.D.Disks.continues_on (omega arith)
          (λ old e. length-left c.args.fill old ∙ e) (λ old e. length-left c.args.fill old ∙ e) (λ x y e f. left-append c.args.fill x y)
          c.loop-done.invariant.so_far c.leave_part.ensures));
    }
