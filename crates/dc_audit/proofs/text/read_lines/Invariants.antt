use Rattle.std.proofs.Common.{◌≡◌, ◌≤◌, ◌+◌, [], List, length}
use Rattle.dc_words.specs.Texts.{fields_of}
use Rattle.dc_audit.specs.declared.journal.Line.{Line}
use Rattle.dc_audit.specs.Keeping.{Keeps, count}
use Rattle.dc_audit.specs.Reading.{is_event, lines_from}
use Rattle.dc_audit.proofs.text.read_lines.Given as goal

-- what is left decides, behind the lines so far
abbrev pub invariant-loop-line : goal.invariant-loop-line
invariant-loop-line l = record {
  done : List Line;
  reads : lines_from l.n 2 [] (fields_of 10 l.text) ≡ lines_from l.n (l.index + 2) done (fields_of 10 l.rest);
  keeps : Keeps l.causal done l.clocks l.links l.last l.failure;
  long : length done ≡ l.index;
  events : l.events ≡ count is_event done;
  some : l.events ≤ l.index;
  few : l.index ≤ 4000000;
  wide : length l.clocks ≡ 16;
  linked : length l.links ≡ 256;
}

abbrev pub decreases-loop-line : goal.decreases-loop-line
decreases-loop-line l = length l.rest
