use Rattle.std.proofs.Common.{arith, Bor, Err, List, ℕ}
use Rattle.std.proofs.lemmas.Result.{err_from_is_err_and}
use Rattle.dc_words.specs.Texts.{lines_of}
use Rattle.dc_check.specs.Compared.{found}
use Rattle.dc_check.proofs.Fields.{handed_on, line_off, line_on}
use Rattle.dc_check.proofs.comparing.compare_lines.Goals as goal

pub returns-in_err-wanted-clause-differs : goal.returns-in_err-wanted-clause-differs
returns-in_err-wanted-clause-differs c = let failed = err_from_is_err_and c.from_residual.result c.from_residual.ensures.1 in
    rw (failed.1, failed.2) (handed_on (Bor (List ℕ)) (Unit {0}) c.in_err-wanted.field-0.0 _
    (line_off _ c.loop-line.number (found c.loop-line.first) (lines_of c.loop-line.wanted.now) c.loop-line.rest.now c.in-Some.line.now c.in-Some.after.now
    c.loop-line.invariant.differs c.in-Some.ensures.some (Bor (List ℕ)) (Err c.in_err-wanted.field-0.0) c.in_err-wanted.ensures.differs))

pub loop-line-preserved : goal.loop-line-preserved
loop-line-preserved c = record {
  differs = line_on _ c.loop-line.number (found c.loop-line.first) (lines_of c.loop-line.wanted.now) c.loop-line.rest.now c.in-Some.line.now c.in-Some.after.now
      c.loop-line.invariant.differs c.in-Some.ensures.some (found c.compare_line.new.first) (lines_of c.in_ok-wanted.wanted.now) c.in_ok-wanted.ensures.goes_on;
  few = omega (arith, c.in-Some.ensures.shorter, c.loop-line.invariant.few);
}
