use Rattle.std.proofs.Common.{◌≡◌, arith, ap, length}
use Rattle.dc_model.specs.declared.act.Taken.{Taken}
use Rattle.dc_acts.specs.Reserved.{Listed}
use Rattle.dc_acts.proofs.Counting.{counted_more}
use Rattle.dc_acts.proofs.Cutting.{count_all}
use Rattle.dc_acts.proofs.acts.Acts.push.Goals as goal

pub overflow_add-self : goal.overflow_add-self
overflow_add-self c =
    let same : length c.self.inside.items.items ≡ length c.args.self.now.items = ap (λ (l : Listed Taken). length l.items) c.self.view_is in
    let all = count_all (λ (x : Taken). x.p) c.args.taken.p c.self.inside.items.items in
    let each = c.self.invariant.each c.args.taken.p in
    omega arith

pub invariant_of-self : goal.invariant_of-self
invariant_of-self c =
    let same : length c.self.inside.items.items ≡ length c.args.self.now.items = ap (λ (l : Listed Taken). length l.items) c.self.view_is in
    counted_more c.self.inside.counts c.self.inside.items.items c.push.new.self.items c.args.taken c.self.told c.requires.process (omega arith)
    c.self.invariant c.push.ensures.items
