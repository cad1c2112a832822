use Rattle.dc_media.specs.Devices.{of_disks}
use Rattle.dc_armed.proofs.Parting.{IsOverwrite-torn}
use Rattle.dc_armed.proofs.torn.torn_write.Goals as goal

pub returns : goal.returns
returns g c =
    rw c.and.ensures
    (IsOverwrite-torn (of_disks g.D.Disks) c.args.p c.args.at c.min-keep.result c.args.tear c.args.from.now _ _ _ _ _
    g.met.D.Disks.told_extent g.met.D.Disks.continues_on c.requires c.min-keep.ensures c.write_part-front.ensures c.leave-rest.ensures)
