use Rattle.std.proofs.Common.{◌≤◌, take}
use Rattle.std.specs.List.{flat_map}
use Rattle.dc_media.specs.Told.{TellsOn}
use Rattle.dc_report.specs.Gathered.{Moves}
use Rattle.dc_journal.specs.Texts.{line_text}
use Rattle.dc_journal.proofs.writing.write_lines.Given as goal

-- the lines of the journal so far, the last of them gathered still
abbrev pub invariant-loop-line : goal.invariant-loop-line
invariant-loop-line g l = let R = g.R.Sink in record {
  held : Moves (flat_map line_text (take l.line-index l.lines)) l.text (R.held l.fn.to) (R.held l.to);
  tells : TellsOn 0 (R.faults l.to) (R.held l.fn.to) (R.held l.to);
  later : R.faults l.fn.to ≤ R.faults l.to;
}
