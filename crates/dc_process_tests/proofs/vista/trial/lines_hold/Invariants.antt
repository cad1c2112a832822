use Rattle.dc_process_tests.proofs.vista.trial.lines_hold.Given as goal

abbrev pub invariant-loop-line : goal.invariant-loop-line
invariant-loop-line g l =
    (goal.iterator-loop-line g).can_next l.line-iterator ×
    (goal.iterator-loop-line g).is_finite l.line-iterator ×
    g.T.Trial.fits l.trial
