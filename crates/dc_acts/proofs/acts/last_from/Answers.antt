use Rattle.std.proofs.Common.{◌≡◌, ◌+◌, ◌-◌, ap, arith, take}
use Rattle.dc_acts.specs.Counted.{acts_of}
use Rattle.dc_acts.proofs.Counting.{front_next, front_same}
use Rattle.dc_acts.proofs.acts.last_from.Goals as goal

pub loop-i-preserved-then-acts-i : goal.loop-i-preserved-then-acts-i
loop-i-preserved-then-acts-i c =
    let test = c.loop-i-test.true in
    let end = c.loop-i.auto.i in
    let next = front_next c.args.p (c.loop-i.i - 1) c.args.acts.now _ (omega arith) c.if-acts-i.true in
    let one : c.loop-i.i - 1 + 1 ≡ c.loop-i.i = omega arith in
    let at = ap (λ n. acts_of c.args.p (take n c.args.acts.now)) one in
    let so_far = c.loop-i.invariant.count in
    let some = c.if-left-eq0.false in record { count = omega (arith, next, at, so_far, some) }

pub loop-i-preserved : goal.loop-i-preserved
loop-i-preserved c =
    let test = c.loop-i-test.true in
    let end = c.loop-i.auto.i in
    let same = front_same c.args.p (c.loop-i.i - 1) c.args.acts.now _ (omega arith) c.if-acts-i.false in
    let one : c.loop-i.i - 1 + 1 ≡ c.loop-i.i = omega arith in
    let at = ap (λ n. acts_of c.args.p (take n c.args.acts.now)) one in
    let so_far = c.loop-i.invariant.count in record { count = omega (arith, same, at, so_far) }
