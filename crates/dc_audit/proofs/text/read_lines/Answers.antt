use Rattle.std.proofs.Common.{◌≡◌, ◌∙◌, ◌+◌, ◌++◌, ◌∷◌, [], Ok, Err, List, ap, arith, length, refl, subst, suc}
use Rattle.dc_words.specs.Texts.{fields_of}
use Rattle.dc_audit.specs.declared.fault.AuditError.TheVariants.{Memory}
use Rattle.dc_audit.specs.Reading.{SaysSixteen, ReadsLine, lines_from}
use Rattle.dc_audit.proofs.Auditing.{can_step, events_few, events_more, exit_bad, exit_end, exit_many, failure_within, goes_on, keeps_agrees}
use Rattle.dc_audit.proofs.Counted.{keeps_begin}
use Rattle.dc_audit.proofs.Orders.{longer}
use Rattle.dc_audit.proofs.text.read_lines.Goals as goal

pub loop-line-init : goal.loop-line-init
loop-line-init c = record {
  done = [];
  reads = refl;
  keeps = keeps_begin c.args.causal c.args.clocks.now c.args.links.now c.requires.clocks c.requires.links;
  long = refl;
  events = refl;
  some = omega arith;
  few = omega arith;
  wide = ap (λ (xs : List (List _)). length xs) c.requires.clocks;
  linked = ap (λ (xs : List _). length xs) c.requires.links;
}

pub returns-then-index-gt-LINES : goal.returns-then-index-gt-LINES
returns-then-index-gt-LINES c = exit_many c.args.n c.args.causal (lines_from c.args.n 2 [] (fields_of 10 c.args.text.now)) (c.loop-line.index + 2) c.loop-line.invariant.done c.loop-line.rest.now c.in-Some.line.now c.in-Some.after.now c.loop-line.invariant.reads c.in-Some.ensures.some c.refused.result c.if-index-gt-LINES.true c.refused.ensures

pub returns-in-Err : goal.returns-in-Err
returns-in-Err c = exit_bad c.args.n c.args.causal (lines_from c.args.n 2 [] (fields_of 10 c.args.text.now)) (c.loop-line.index + 2) c.loop-line.invariant.done c.loop-line.rest.now c.in-Some.line.now c.in-Some.after.now c.loop-line.invariant.reads c.in-Some.ensures.some c.refused-in-Err.result c.in-Err.kind (omega (arith, c.if-index-gt-LINES.false)) (c.in-Err.ensures.exact c.loop-line.invariant.done (keeps_agrees c.args.causal c.loop-line.invariant.done c.loop-line.clocks c.loop-line.links c.loop-line.last c.loop-line.failure c.loop-line.invariant.keeps)) c.refused-in-Err.ensures

pub ended-requires : goal.ended-requires
ended-requires c = failure_within c.args.causal c.loop-line.invariant.done c.loop-line.failure c.loop-line.index c.loop-line.invariant.long c.loop-line.invariant.few c.loop-line.invariant.keeps.judged

pub returns-in-Ok-End : goal.returns-in-Ok-End
returns-in-Ok-End c = exit_end c.args.n c.args.causal (lines_from c.args.n 2 [] (fields_of 10 c.args.text.now)) (c.loop-line.index + 2) c.loop-line.invariant.done c.loop-line.rest.now c.in-Some.line.now c.in-Some.after.now c.loop-line.invariant.reads c.in-Some.ensures.some c.ended.result (c.loop-line.index + 3) (omega arith) (omega (arith, c.if-index-gt-LINES.false))
    (subst (λ x. ReadsLine c.args.n c.loop-line.links c.in-Some.line.now (Ok x)) c.in-Ok-End.field-0-is c.in-Ok-End.ensures.exact c.loop-line.invariant.done (keeps_agrees c.args.causal c.loop-line.invariant.done c.loop-line.clocks c.loop-line.links c.loop-line.last c.loop-line.failure c.loop-line.invariant.keeps))
    (c.ended.ensures c.args.n c.args.causal c.loop-line.invariant.done c.loop-line.invariant.keeps.judged c.loop-line.invariant.events)

pub judge_line-requires-clause-sixteen : goal.judge_line-requires-clause-sixteen
judge_line-requires-clause-sixteen c = (can_step c.args.n c.loop-line.links c.loop-line.invariant.done c.in-Some.line.now c.in-Ok-Says.line c.requires.few (keeps_agrees c.args.causal c.loop-line.invariant.done c.loop-line.clocks c.loop-line.links c.loop-line.last c.loop-line.failure c.loop-line.invariant.keeps) (subst (λ x. SaysSixteen x) c.in-Ok-Says.field-0-is c.in-Ok-Says.ensures.long) (subst (λ x. ReadsLine c.args.n c.loop-line.links c.in-Some.line.now (Ok x)) c.in-Ok-Says.field-0-is c.in-Ok-Says.ensures.exact)).0

pub judge_line-requires-clause-to : goal.judge_line-requires-clause-to
judge_line-requires-clause-to c = (can_step c.args.n c.loop-line.links c.loop-line.invariant.done c.in-Some.line.now c.in-Ok-Says.line c.requires.few (keeps_agrees c.args.causal c.loop-line.invariant.done c.loop-line.clocks c.loop-line.links c.loop-line.last c.loop-line.failure c.loop-line.invariant.keeps) (subst (λ x. SaysSixteen x) c.in-Ok-Says.field-0-is c.in-Ok-Says.ensures.long) (subst (λ x. ReadsLine c.args.n c.loop-line.links c.in-Some.line.now (Ok x)) c.in-Ok-Says.field-0-is c.in-Ok-Says.ensures.exact)).1

pub judge_line-requires-clause-due : goal.judge_line-requires-clause-due
judge_line-requires-clause-due c = (can_step c.args.n c.loop-line.links c.loop-line.invariant.done c.in-Some.line.now c.in-Ok-Says.line c.requires.few (keeps_agrees c.args.causal c.loop-line.invariant.done c.loop-line.clocks c.loop-line.links c.loop-line.last c.loop-line.failure c.loop-line.invariant.keeps) (subst (λ x. SaysSixteen x) c.in-Ok-Says.field-0-is c.in-Ok-Says.ensures.long) (subst (λ x. ReadsLine c.args.n c.loop-line.links c.in-Some.line.now (Ok x)) c.in-Ok-Says.field-0-is c.in-Ok-Says.ensures.exact)).2

pub loop-line-preserved : goal.loop-line-preserved
loop-line-preserved c = record {
  done = c.loop-line.invariant.done ++ c.in-Ok-Says.line ∷ [];
  reads = goes_on c.args.n c.args.causal (lines_from c.args.n 2 [] (fields_of 10 c.args.text.now)) (c.loop-line.index + 2) c.loop-line.invariant.done c.loop-line.rest.now c.in-Some.line.now c.in-Some.after.now c.loop-line.invariant.reads c.in-Some.ensures.some (Err Memory) (c.loop-line.index + 1 + 2) (omega arith) c.in-Ok-Says.line (omega (arith, c.if-index-gt-LINES.false)) ((subst (λ x. ReadsLine c.args.n c.loop-line.links c.in-Some.line.now (Ok x)) c.in-Ok-Says.field-0-is c.in-Ok-Says.ensures.exact) c.loop-line.invariant.done (keeps_agrees c.args.causal c.loop-line.invariant.done c.loop-line.clocks c.loop-line.links c.loop-line.last c.loop-line.failure c.loop-line.invariant.keeps));
  keeps = c.in-Ok.ensures.2 c.loop-line.invariant.done c.loop-line.invariant.long c.loop-line.invariant.keeps;
  long = longer c.loop-line.invariant.done c.in-Ok-Says.line ∙ (let e : suc (length c.loop-line.invariant.done) ≡ c.loop-line.index + 1 = omega (arith, c.loop-line.invariant.long) in e);
  events = c.events_with-events.ensures ∙ events_more c.loop-line.invariant.done c.in-Ok-Says.line c.loop-line.events c.loop-line.invariant.events;
  some = omega (arith, c.events_with-events.ensures, events_few c.in-Ok-Says.line, c.loop-line.invariant.some);
  few = omega (arith, c.if-index-gt-LINES.false);
  wide = c.in-Ok.ensures.0;
  linked = c.in-Ok.ensures.1;
}
