use Rattle.std.proofs.Common.{◌≡◌, ◌<◌, Some, length, refl, slice_get, subst, sym}
use Rattle.std.proofs.lemmas.Option.{slice_get_read}
use Rattle.dc_deeds.proofs.leaving.leave_lines.Goals as goal

pub leave_up-requires-clause-fit : goal.leave_up-requires-clause-fit
leave_up-requires-clause-fit g c =
    let p = c.args.turn.now.p in
    let store = c.index-stores-turn.result in
    let at : slice_get c.args.stores.now p ≡ Some store = slice_get_read c.args.stores.now (length c.args.stores.now) p store refl (subst (λ m. p < m) (sym c.requires.stores) c.requires.process) c.index-stores-turn.is in
    c.requires.fit store c.in-Some.up.now at c.in-Some.ensures.up

pub returns-clause-left : goal.returns-clause-left
returns-clause-left g c =
    let p = c.args.turn.now.p in
    let store = c.index-stores-turn.result in
    let at : slice_get c.args.stores.now p ≡ Some store = slice_get_read c.args.stores.now (length c.args.stores.now) p store refl (subst (λ m. p < m) (sym c.requires.stores) c.requires.process) c.index-stores-turn.is in
    c.leave_up.ensures.left c.args.stores.now at (c.requires.index store at)
