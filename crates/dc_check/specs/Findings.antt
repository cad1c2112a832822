-- What comes of checking an output against the acts of a report.
use Rattle.std.specs.Prelude.{◌≡◌, ℕ, List, Option, Some, None, Result, Ok, Err, length}
use Rattle.dc_acts.specs.Lines.{text_of}
use Rattle.dc_model.specs.Drawn.{Drawn}
use Rattle.dc_model.specs.Guests.{Guests}
use Rattle.dc_model.specs.FailureFree.{FailureFree, run}
use Rattle.dc_model.specs.declared.act.Taken.{Taken}
use Rattle.dc_model.specs.declared.entry.Entry.{Entry}
use Rattle.dc_words.specs.Texts.{lines_of}
use Rattle.dc_check.specs.Differences.{AreLinesOf, Difference, difference_of}
use Rattle.dc_check.specs.Played.{played}
use Rattle.dc_check.specs.declared.finding.Finding.{Finding as found'}
use Rattle.dc_check.specs.declared.finding.Finding.TheVariants as found
use Rattle.dc_check.specs.declared.finding.Difference.{Difference as difference'}

-- the output is that of the run of these acts, with so many visible records; an act leads nowhere; or a line differs
pub data Finding : Type 0 where
  Passes : (visibles : ℕ) → Finding
  NotARun : (position : ℕ) → Finding
  Differs : (difference : Difference) → Finding

-- by the first difference from a world's lines, if there is one
abbrev pub compared : ℕ → Option Difference → Finding
compared visibles None = Passes visibles
compared visibles (Some difference) = Differs difference

-- by what the acts lead to
abbrev pub finding_by : {Mc : Type 0} → Result (FailureFree Mc) ℕ → List ℕ → Finding
finding_by (Err position) out = NotARun position
finding_by (Ok w) out = compared (length w.visibles) (difference_of (text_of w.visibles) out)

-- of an output, by acts and the schedule that they were drawn from
abbrev pub finding_of : {Mc : Type 0} → Guests Mc → List Entry → List Taken → List ℕ → Finding
finding_of G schedule acts out = finding_by (played G schedule acts) out

-- a difference as the code has it
abbrev pub seen_difference : difference' → Difference
seen_difference d = record { line = d.line; found = d.found.items; wanted = d.wanted.items }

-- a finding as the code has it
abbrev pub seen_finding : found' → Finding
seen_finding (found.Passes visibles) = Passes visibles
seen_finding (found.NotARun position) = NotARun position
seen_finding (found.Differs difference) = Differs (seen_difference difference)

-- an output whose lines all end passes: the acts were drawn and lead to a world, and its lines are those of that world's records, but for repeats of the first
pub record IsPassing {Mc : Type 0} (G : Guests Mc) (schedule : List Entry) (acts : List Taken) (out : List ℕ) (visibles : ℕ) : Type 0 where
  pub world : FailureFree Mc
  pub drawn : Drawn G.count schedule acts
  pub ran : run G acts ≡ Some world
  pub lines : AreLinesOf (lines_of out) (lines_of (text_of world.visibles))
  pub count : visibles ≡ length world.visibles
