use Rattle.std.proofs.Common.{rules}
use Rattle.dc_process_tests.proofs.Three.{takes_texts}
use Rattle.dc_process_tests.proofs.twophase.commit.Goals as goal

pub commit_all-requires-clause-texts : goal.commit_all-requires-clause-texts
commit_all-requires-clause-texts g c = takes_texts g.C.Checkpoint c.args.stores.now c.args.words.now _ c.requires.three (search rules) c.requires.texts c.requires.forms

pub commit_some-requires-clause-texts : goal.commit_some-requires-clause-texts
commit_some-requires-clause-texts g c i z here member = takes_texts g.C.Checkpoint c.args.stores.now c.args.words.now _ c.requires.three (search rules) c.requires.texts c.requires.forms i z here
