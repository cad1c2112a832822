use Rattle.std.proofs.Common.{◌∙◌, length, ap, refl}
use Rattle.dc_reread.specs.Faults.{recovery_in}
use Rattle.dc_reread.specs.Pasts.{system_in}
use Rattle.dc_retrace.specs.Read.{stored_in}
use Rattle.dc_world.proofs.Attached.{all_refuse, all_stood, is_beside, never_steady, number_read, stores_of}
use Rattle.dc_world.proofs.Partaking.{no_index, rose_own}
use Rattle.dc_world.proofs.Rereading.{all_belong, all_handed, fit_each, if_both, lent_each, on_ok, trails_exposed}
use Rattle.dc_world.proofs.reopening.read_beside.Goals as goal

pub read_all-requires-clause-of : goal.read_all-requires-clause-of
read_all-requires-clause-of g c = stores_of g.C.Checkpoint c.args.past.now.images.now c.args.dev.now c.args.stores.now c.requires.stores c.requires.attached

pub read_all-requires-clause-lent : goal.read_all-requires-clause-lent
read_all-requires-clause-lent g c = lent_each g.C.Checkpoint c.args.past.now.images.now c.args.dev.now c.args.stores.now c.requires.stores c.requires.attached

pub read_all-requires-clause-fit : goal.read_all-requires-clause-fit
read_all-requires-clause-fit g c = fit_each g.C.Checkpoint c.args.past.now.images.now c.args.dev.now c.args.stores.now c.requires.stores c.requires.attached c.args.saved.now c.requires.fit

pub returns-clause-handed : goal.returns-clause-handed
returns-clause-handed g c = on_ok _ _ c.read_all.result c.read_all.ensures.decided (λ reread recovered.
    all_handed g.C.Checkpoint c.args.past.now.images.now c.args.dev.now c.args.stores.now c.requires.stores c.requires.attached reread.decided c.read_all.new.dev c.read_all.new.stores c.read_all.new.saved c.read_all.auto.stores (c.read_all.auto.saved ∙ c.requires.saved)
    c.read_all.ensures.same recovered.each c.read_all.ensures.fit)

pub returns-clause-read : goal.returns-clause-read
unfolding is_beside
returns-clause-read g c = if_both _ _ _ c.read_all.result c.read_all.ensures.reread c.read_all.ensures.decided (λ reread is recovered.
    let stored = stored_in is.memories c.read_all.new.saved in (
      is_beside g.C.Checkpoint g.met.C.Checkpoint.leaves_alike g.met.C.Checkpoint.numbers_alike c.args.past.now.images.now c.args.dev.now c.read_all.new.dev c.args.stores.now c.read_all.new.stores c.requires.stores c.read_all.auto.stores c.requires.attached c.read_all.ensures.same (system_in c.args.past.now) c.args.past.now.acts.now reread.decided is.given stored is.retraced.is_run is.retraced.reports is.read.are_stored is.read.are_read recovered.were recovered.decided c.read_all.ensures.stands,
      is.suited,
      λ p. refl,
      λ free. trails_exposed c.args.past.now is.given stored reread.trails.items free is.retraced.count is.retraced.trails_are,
    ))

pub returns-clause-unsuited : goal.returns-clause-unsuited
unfolding is_beside
returns-clause-unsuited g c p e =
    let found = c.read_all.ensures.unsuited p e in
    let is = found.2 in (
      is_beside g.C.Checkpoint g.met.C.Checkpoint.leaves_alike g.met.C.Checkpoint.numbers_alike c.args.past.now.images.now c.args.dev.now c.read_all.new.dev c.args.stores.now c.read_all.new.stores c.requires.stores c.read_all.auto.stores c.requires.attached c.read_all.ensures.same (system_in c.args.past.now) c.args.past.now.acts.now found.0 is.given (stored_in is.memories c.read_all.new.saved) is.retraced.is_run is.retraced.reports is.read.are_stored is.read.are_read found.1.were found.1.decided c.read_all.ensures.stands,
      is.first,
    )

pub returns-clause-refused : goal.returns-clause-refused
returns-clause-refused g c p fault e =
    let cause = c.read_all.ensures.refused_under p fault (ap recovery_in e) in
    (cause.0, all_refuse g.C.Checkpoint g.met.C.Checkpoint.leaves_alike g.met.C.Checkpoint.numbers_alike c.args.past.now.images.now c.args.dev.now c.read_all.new.dev c.args.stores.now c.read_all.new.stores c.requires.stores c.read_all.auto.stores c.requires.attached c.read_all.ensures.same cause.0 p fault cause.2)

pub returns-clause-unsteady : goal.returns-clause-unsteady
returns-clause-unsteady g c e told first = never_steady g.C.Checkpoint g.met.C.Checkpoint.leaves_alike g.met.C.Checkpoint.numbers_alike c.args.past.now.images.now c.args.dev.now c.read_all.new.dev c.args.stores.now c.read_all.new.stores c.requires.stores c.read_all.auto.stores c.requires.attached c.read_all.ensures.same c.requires.past.some (c.read_all.ensures.unsteady e) told first

pub returns-clause-refused_under : goal.returns-clause-refused_under
returns-clause-refused_under g c d has p fault e =
    let (b, z, b_at, z_at, counts, back) = number_read g.C.Checkpoint g.met.C.Checkpoint.leaves_alike g.met.C.Checkpoint.numbers_alike c.args.past.now.images.now c.args.dev.now c.read_all.new.dev c.args.stores.now c.read_all.new.stores c.requires.stores c.read_all.auto.stores c.requires.attached c.read_all.ensures.same d has in
    all_refuse g.C.Checkpoint g.met.C.Checkpoint.leaves_alike g.met.C.Checkpoint.numbers_alike c.args.past.now.images.now c.args.dev.now c.read_all.new.dev c.args.stores.now c.read_all.new.stores c.requires.stores c.read_all.auto.stores c.requires.attached c.read_all.ensures.same d p fault (c.read_all.ensures.refused z z_at d counts p fault (ap recovery_in e))

pub returns-clause-stood : goal.returns-clause-stood
returns-clause-stood g c d has =
    let (b, z, b_at, z_at, counts, back) = number_read g.C.Checkpoint g.met.C.Checkpoint.leaves_alike g.met.C.Checkpoint.numbers_alike c.args.past.now.images.now c.args.dev.now c.read_all.new.dev c.args.stores.now c.read_all.new.stores c.requires.stores c.read_all.auto.stores c.requires.attached c.read_all.ensures.same d has in
    let stood = c.read_all.ensures.stands b z b_at z_at d counts in
    (back stood.0, all_stood g.C.Checkpoint g.met.C.Checkpoint.leaves_alike g.met.C.Checkpoint.numbers_alike c.args.past.now.images.now c.args.dev.now c.read_all.new.dev c.args.stores.now c.read_all.new.stores c.requires.stores c.read_all.auto.stores c.requires.attached c.read_all.ensures.same d stood.1)

pub returns-clause-stopped : goal.returns-clause-stopped
returns-clause-stopped g c p e = rose_own g.C.Checkpoint (length c.args.past.now.images.now) c.args.stores.now c.requires.stores (all_belong g.C.Checkpoint c.args.past.now.images.now c.args.dev.now c.args.stores.now c.requires.stores c.requires.attached) p (g.C.Checkpoint.stops c.args.dev.now) (g.C.Checkpoint.stops c.read_all.new.dev) (c.read_all.ensures.joint.stopped p (ap recovery_in e))

pub returns-clause-failed : goal.returns-clause-failed
returns-clause-failed g c p e = rose_own g.C.Checkpoint (length c.args.past.now.images.now) c.args.stores.now c.requires.stores (all_belong g.C.Checkpoint c.args.past.now.images.now c.args.dev.now c.args.stores.now c.requires.stores c.requires.attached) p (g.C.Checkpoint.faults c.args.dev.now) (g.C.Checkpoint.faults c.read_all.new.dev) (c.read_all.ensures.joint.failed p (ap recovery_in e))

pub returns-clause-others : goal.returns-clause-others
returns-clause-others g c q past = c.read_all.ensures.others q (no_index g.C.Checkpoint (length c.args.past.now.images.now) c.args.stores.now c.requires.stores (all_belong g.C.Checkpoint c.args.past.now.images.now c.args.dev.now c.args.stores.now c.requires.stores c.requires.attached) q past)
