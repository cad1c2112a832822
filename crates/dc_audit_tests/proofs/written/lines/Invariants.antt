use Rattle.std.specs.List.{All}
use Rattle.dc_audit.specs.Journals.{IsOfSixteen}
use Rattle.dc_audit_tests.proofs.written.lines.Given as goal

-- the lines so far are of sixteen processes
abbrev pub invariant-loop-text : goal.invariant-loop-text
invariant-loop-text l =
    (goal.iterator-loop-text).can_next l.text-iterator ×
    (goal.iterator-loop-text).is_finite l.text-iterator ×
    All IsOfSixteen l.lines.items
