use Rattle.std.proofs.Common.{◌≡◌, ◌<◌, ◌∙◌, ap, arith, length, refl}
use Rattle.dc_acts.proofs.Counting.{cut_begun, other_kept, own_left}
use Rattle.dc_acts.proofs.acts.cut_items.Goals.{then-taken-p, else-taken-p}
use Rattle.dc_acts.proofs.acts.cut_items.Goals as goal

within : (c : goal.Joined-taken-p) → c.loop-i.i < length c.as_slice.result.now
within c = let same : length c.as_slice.result.now ≡ length c.loop-i.acts.items = ap length c.as_slice.ensures in let size = c.loop-i.invariant.so_far.size in let end = c.len-i-end.ensures in omega arith

pub loop-i-init : goal.loop-i-init
loop-i-init c = record { so_far = cut_begun c.args.p c.args.start c.args.acts.now.items c.requires; room = refl }

pub loop-i-preserved : goal.loop-i-preserved
loop-i-preserved c = elim c.if-taken-p.branch [
  | then-taken-p w ↦ rw (w.acts-is, w.kept-is) record {
    so_far = other_kept _ _ _ _ _ _ _ _ _ c.loop-i.invariant.so_far (within c) c.as_slice.ensures _ w.set.ensures.items w.if-taken-p.true;
    room = w.set.ensures.room ∙ c.loop-i.invariant.room;
  }
  | else-taken-p w ↦ rw (w.acts-is, w.kept-is) record {
    so_far = own_left _ _ _ _ _ _ _ _ _ c.loop-i.invariant.so_far (within c) c.as_slice.ensures w.if-taken-p.false (omega arith);
    room = c.loop-i.invariant.room;
  }
]
