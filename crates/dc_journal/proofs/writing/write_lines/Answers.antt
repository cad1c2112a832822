use Rattle.std.proofs.Common.{ℕ, List, arith, subst}
use Rattle.std.proofs.lemmas.Result.{err_from_is_err_and}
use Rattle.dc_media.specs.Sinks.{TakesWhole}
use Rattle.dc_report.specs.Gathered.{Moves}
use Rattle.dc_journal.specs.Texts.{line_text}
use Rattle.dc_report.proofs.Gathering.{all_of, moves_cut, moves_on, moves_whole, one_more, split_front}
use Rattle.dc_journal.proofs.writing.write_lines.Goals as goal

pub returns-in_err-make_room-clause-held : goal.returns-in_err-make_room-clause-held
returns-in_err-make_room-clause-held g c = let failed = err_from_is_err_and c.from_residual.result c.from_residual.ensures.1 in
    rw failed.1 (moves_cut _ c.loop-line.text _ _ _ _ _
    (split_front line_text c.args.lines.now c.loop-line.line-index)
    c.loop-line.invariant.held c.in_err-make_room.ensures.held)

pub loop-line-preserved : goal.loop-line-preserved
loop-line-preserved g c = record {
  held = moves_on _ c.loop-line.text c.make_room.new.lines _ _ c.push_line.new.text _ _ _
      (one_more line_text _ c.args.lines.now c.loop-line.line-index c.loop-line-test.true)
      c.push_line.ensures c.loop-line.invariant.held c.in_ok-make_room.ensures.moved;
  tells = grind arith;
  later = grind arith;
}

pub returns-clause-held : goal.returns-clause-held
returns-clause-held g c = moves_whole _ c.loop-line.text _ _ _ c.write_whole.result
    (subst (λ (gathered : List ℕ). Moves gathered c.loop-line.text (g.R.Sink.held c.args.to.now) (g.R.Sink.held c.loop-line.to))
    (all_of line_text c.args.lines.now c.loop-line.line-index c.loop-line-test.false) c.loop-line.invariant.held)
    (subst (λ (piece : List ℕ). TakesWhole piece c.write_whole.result (g.R.Sink.held c.loop-line.to) (g.R.Sink.held c.write_whole.new.to))
    c.as_slice.ensures c.write_whole.ensures.held)
