use Rattle.dc_process_tests.proofs.vista.trial.answer_times.Given as goal

abbrev pub invariant-loop-k : goal.invariant-loop-k
invariant-loop-k g l = g.T.Trial.fits l.trial
