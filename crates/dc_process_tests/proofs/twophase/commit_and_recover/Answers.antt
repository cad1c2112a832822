use Rattle.std.proofs.Common.{rules}
use Rattle.dc_process_tests.proofs.Three.{apart_still, fit_still, fits_three, forms_still}
use Rattle.dc_process_tests.proofs.twophase.commit_and_recover.Goals as goal

pub recover_all-requires-clause-apart : goal.recover_all-requires-clause-apart
recover_all-requires-clause-apart g c = apart_still g.C.Checkpoint c.args.stores.now _ (search rules) c.commit-committed.ensures.same c.requires.apart

pub recover_all-requires-clause-forms : goal.recover_all-requires-clause-forms
recover_all-requires-clause-forms g c = forms_still g.C.Checkpoint c.args.stores.now _ (search rules) c.commit-committed.ensures.same c.requires.forms

pub recover_all-requires-clause-fit : goal.recover_all-requires-clause-fit
recover_all-requires-clause-fit g c = fit_still g.C.Checkpoint c.args.stores.now _ (search rules) c.commit-committed.ensures.same _ (fits_three g.C.Checkpoint c.args.stores.now c.args.saved.now c.requires.three c.requires.fit c.requires.forms)
