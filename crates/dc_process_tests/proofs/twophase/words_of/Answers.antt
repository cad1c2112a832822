use Rattle.std.proofs.lemmas.Result.{IfOk-weaker}
use Rattle.dc_process_tests.proofs.Three.{texts_are}
use Rattle.dc_process_tests.proofs.twophase.words_of.Goals as goal

pub returns : goal.returns
returns c =
    let a = c.in_ok-first.ensures in
    let b = c.in_ok-second.ensures in
    let d = c.in_ok-third.ensures in
    record { texts = IfOk-weaker c.joined.result _ _ (λ words row. texts_are _ _ _ words.items row a.long b.long d.long a.fault b.fault d.fault a.commit b.commit d.commit) c.joined.ensures }
