use Rattle.std.proofs.Common.{◌∙◌, ◌&&◌, ◌||◌, ◌+◌, ap, arith, if◌then◌else◌, length, map, max, nat_le, slice_index, sym}
use Rattle.dc_guest.specs.Answers.{answer_of}
use Rattle.dc_plain.specs.Playing.{world_in}
use Rattle.dc_recovery.specs.Saves.{is_empty_log}
use Rattle.dc_resume.specs.Deciding.{told_of}
use Rattle.dc_retrace.proofs.Counted.{counted_more}
use Rattle.dc_retrace.proofs.trail.Trail.count_act.Goals as goal

pub returns-clause-counted : goal.returns-clause-counted
returns-clause-counted c = λ S answers s count shows sure here was.
    let a = answer_of c.args.applied.now.answer in
    let old = c.args.self.now in
    let added = c.add.ensures.same in
    let reached = c.reach_on.ensures.same in
    counted_more S c.args.p answers a s old c.reach_on.new.self was
    (reached.0 ∙ added.0) (reached.1 ∙ added.1) (reached.2 ∙ c.add.ensures.count)
    (reached.3 ∙ c.add.ensures.exposed ∙ (λ i. if shows i || (sure i && is_empty_log (map told_of old.told.items)) then old.count + 1 else old.exposed))
    (λ was_told. ap (map told_of) reached.5 ∙ c.add.ensures.told answers was.count_is was_told)
    ((world_in c.args.plain.now).procs c.args.p) here
    (λ q there. c.reach_on.ensures.sent q (omega (arith, there, count))
    ∙ (λ i. if nat_le (sym reached.2 i) (max (sym reached.1 i) (sym reached.3 i)) then length (((world_in c.args.plain.now).procs c.args.p).sent q) else slice_index (added.3 i) q))
