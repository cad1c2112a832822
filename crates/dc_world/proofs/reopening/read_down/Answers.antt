use Rattle.std.proofs.Common.{◌∙◌, rules, subst}
use Rattle.dc_reread.specs.Pasts.{system_in}
use Rattle.dc_world.specs.Reopened.{AreExposed}
use Rattle.dc_world.proofs.Rereading.{all_down, lent_fallen, over_fallen, steady_fallen}
use Rattle.dc_world.proofs.reopening.read_down.Goals as goal

pub returns-in_err-reread-clause-unsuited : goal.returns-in_err-reread-clause-unsuited
returns-in_err-reread-clause-unsuited g c p e = c.in_err-reread.ensures.unsuited p (search rules)

pub returns-in_err-reread-clause-refused_under : goal.returns-in_err-reread-clause-refused_under
returns-in_err-reread-clause-refused_under g c d has p fault e = c.in_err-reread.ensures.refused_under d has p fault (search rules)

pub returns-in_err-reread-clause-unsteady : goal.returns-in_err-reread-clause-unsteady
returns-in_err-reread-clause-unsteady g c e = c.in_err-reread.ensures.unsteady (search rules)

pub returns-in_err-reread-clause-stopped : goal.returns-in_err-reread-clause-stopped
returns-in_err-reread-clause-stopped g c p e = c.in_err-reread.ensures.stopped p (search rules)

pub returns-in_err-reread-clause-failed : goal.returns-in_err-reread-clause-failed
returns-in_err-reread-clause-failed g c p e = c.in_err-reread.ensures.failed p (search rules)

pub returns-clause-over : goal.returns-clause-over
returns-clause-over g c = over_fallen g.C.Checkpoint c.args.past.now.images.now c.args.dev.now c.read_beside.new.dev c.args.stores.now c.read_beside.new.stores c.down_each.new.stores c.requires.stores c.read_beside.auto.stores c.down_each.auto.stores c.requires.attached c.read_beside.ensures.same c.in_ok-slots.ensures.falls

pub returns-clause-lent : goal.returns-clause-lent
returns-clause-lent g c = lent_fallen g.C.Checkpoint c.args.past.now.images.now c.args.dev.now c.read_beside.new.dev c.args.stores.now c.read_beside.new.stores c.down_each.new.stores c.requires.stores c.read_beside.auto.stores c.down_each.auto.stores c.requires.attached c.read_beside.ensures.same c.in_ok-slots.ensures.falls c.read_beside.ensures.lent

pub returns-clause-steady : goal.returns-clause-steady
returns-clause-steady g c = steady_fallen g.C.Checkpoint c.args.past.now.images.now c.args.dev.now c.read_beside.new.dev c.args.stores.now c.read_beside.new.stores c.down_each.new.stores c.requires.stores c.read_beside.auto.stores c.down_each.auto.stores c.requires.attached c.read_beside.ensures.same c.in_ok-slots.ensures.falls c.in_ok-reread.ensures.steady

pub returns-clause-read : goal.returns-clause-read
returns-clause-read g c =
    let read = c.in_ok-reread.ensures.read in (
      read.0,
      read.1,
      all_down c.args.past.now.protocol c.args.past.now.images.now c.read_beside.new.saved c.in_ok-slots.slots.items read.0.stored c.in_ok-slots.ensures.long (c.read_beside.auto.saved ∙ c.requires.saved) read.2 c.in_ok-slots.ensures.down,
      λ free. subst (AreExposed (system_in c.args.past.now) read.0.given) (search rules) (read.3 free),
    )
