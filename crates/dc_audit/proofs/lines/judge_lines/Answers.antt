use Rattle.std.proofs.Common.{rules, arith, subst, List}
use Rattle.std.proofs.lemmas.List.{take_all}
use Rattle.dc_audit.specs.declared.journal.Deed.TheVariants.{Chance}
use Rattle.dc_audit.specs.declared.journal.Line.{Line}
use Rattle.dc_audit.specs.declared.journal.Line.TheVariants.{Does}
use Rattle.dc_audit.specs.Journals.{Judged}
use Rattle.dc_audit.proofs.Counted.{due_here, few_here, follow_here, keeps_begin, keeps_here}
use Rattle.dc_audit.proofs.lines.judge_lines.Goals as goal

pub loop-i-init : goal.loop-i-init
loop-i-init c = record {
  wide = search (rules, c.requires.clocks);
  linked = search (rules, c.requires.links);
  keeps = keeps_begin c.args.causal c.args.clocks.now c.args.links.now c.requires.clocks c.requires.links;
  follow = c.requires.journal;
}

pub loop-i-preserved : goal.loop-i-preserved
loop-i-preserved c = record {
  wide = c.in_ok-judge_line.ensures.0;
  linked = c.in_ok-judge_line.ensures.1;
  keeps = keeps_here c.args.causal c.args.lines.now c.loop-i.i (Does 0 Chance) c.loop-i.clocks c.judge_line.new.clocks c.loop-i.links c.judge_line.new.links c.loop-i.last c.judge_line.new.last c.loop-i.failure c.judge_line.new.failure c.loop-i-test.true c.in_ok-judge_line.ensures c.loop-i.invariant.keeps;
  follow = (follow_here 16 c.args.lines.now c.loop-i.i (Does 0 Chance) c.loop-i-test.true c.loop-i.invariant.follow).1;
}

pub judge_line-requires : goal.judge_line-requires
judge_line-requires c = let due = due_here c.args.causal c.args.lines.now c.loop-i.i (Does 0 Chance) c.loop-i.clocks c.loop-i.links c.loop-i.last c.loop-i.failure c.loop-i-test.true c.loop-i.invariant.follow c.loop-i.invariant.keeps in record {
  wide = c.loop-i.invariant.wide;
  linked = c.loop-i.invariant.linked;
  sixteen = due.0;
  to = due.1;
  due = due.2;
  few = few_here c.args.causal c.args.lines.now c.loop-i.i c.loop-i.clocks c.loop-i.links c.loop-i.last c.loop-i.failure c.loop-i-test.true c.requires.few c.loop-i.invariant.keeps;
  lines = omega (arith, c.loop-i-test.true, c.requires.few);
}

pub returns : goal.returns
returns c = subst (λ (lines : List Line). Judged c.args.causal lines c.loop-i.failure) (take_all c.loop-i.i c.args.lines.now (omega (arith, c.loop-i-test.false))) c.loop-i.invariant.keeps.judged
