use Rattle.std.proofs.Common.{◌≡◌, ◌∙◌, ap, arith, length, sym, take}
use Rattle.dc_model.specs.declared.act.Taken.{Taken}
use Rattle.dc_acts.specs.Counted.{acts_of, cut_acts}
use Rattle.dc_acts.specs.Reserved.{Listed}
use Rattle.dc_acts.proofs.Counting.{counted_cut, cut_nothing}
use Rattle.dc_acts.proofs.acts.Acts.cut.Goals as goal

pub returns-then-count-reach-clause-items : goal.returns-then-count-reach-clause-items
returns-then-count-reach-clause-items c =
    let count = c.count_of-count.ensures in
    let few = c.if-count-reach.true in
    sym (cut_nothing c.args.p c.args.reach c.args.self.now.items (length c.args.self.now.items) (omega arith) (omega (arith, count, few)))

pub invariant_of-self : goal.invariant_of-self
invariant_of-self c =
    let front : acts_of c.args.p (take c.last_from-start.result c.self.inside.items.items) ≡ c.args.reach =
    (let last = c.last_from-start.ensures.count in let count = c.count_of-count.ensures in let more = c.if-count-reach.false in
    let all = ap (acts_of c.args.p) c.as_slice.ensures in let part = ap (λ acts. acts_of c.args.p (take c.last_from-start.result acts)) c.as_slice.ensures in
    let seen = ap (λ (l : Listed Taken). acts_of c.args.p l.items) c.self.view_is in omega (arith, last, count, more, all, part, seen)) in
    counted_cut c.self.inside.counts c.cut_count.new.counts c.self.inside.items.items c.cut_items.new.acts.items c.args.p c.args.reach
    c.self.invariant (c.cut_items.ensures.items ∙ ap (λ n. cut_acts c.args.p n c.self.inside.items.items) front) c.cut_count.ensures.own c.cut_count.ensures.others
