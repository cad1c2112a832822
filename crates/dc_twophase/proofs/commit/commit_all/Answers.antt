use Rattle.std.proofs.Common.{arith, length, refl, inl, inr, ⊎_elim}
use Rattle.std.proofs.lemmas.Option.{slice_get_within}
use Rattle.std.proofs.lemmas.Result.{on_ok_weaker}
use Rattle.dc_twophase.proofs.Committing.{true_at}
use Rattle.dc_twophase.proofs.commit.commit_all.Goals as goal

pub commit_some-requires-clause-texts : goal.commit_some-requires-clause-texts
commit_some-requires-clause-texts g c i z before member = c.requires.texts i z before

pub returns-clause-committed : goal.returns-clause-committed
returns-clause-committed g c = on_ok_weaker c.commit_some.result (λ each i z now.
    let w = slice_get_within c.commit_some.new.stores i z now in
    each i z now (true_at _ refl (length c.args.stores.now) i (omega (arith, w, c.commit_some.auto.stores)) (omega (arith, w, c.commit_some.auto.stores, c.requires.few)))) c.commit_some.ensures.committed

pub returns-clause-stands : goal.returns-clause-stands
returns-clause-stands g c = on_ok_weaker c.commit_some.result (λ stands room z now d has i b w before here reading left.
    let k = slice_get_within c.args.stores.now i b before in
    stands room z now d has i b w before here (true_at _ refl (length c.args.stores.now) i k (omega (arith, k, c.requires.few))) reading left) c.commit_some.ensures.stands

pub returns-clause-between : goal.returns-clause-between
returns-clause-between g c room b z first now d has = ⊎_elim
    (λ old. inl old)
    (λ new. inr (
      new.0,
      λ i x w before here reading left.
          let k = slice_get_within c.args.stores.now i x before in
          new.1 i x w before here (true_at _ refl (length c.args.stores.now) i k (omega (arith, k, c.requires.few))) reading left,
    ))
    (c.commit_some.ensures.between room b z first now d has)
