use Rattle.dc_process_tests.proofs.redo.filling.commit_each.Given as goal

abbrev pub invariant-loop-k : goal.invariant-loop-k
invariant-loop-k g l = g.T.Trial.fits l.trial
