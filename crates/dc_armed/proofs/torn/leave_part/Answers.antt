use Rattle.std.proofs.Common.{refl}
use Rattle.dc_media.specs.Devices.{of_disks}
use Rattle.dc_armed.proofs.Parting.{IsOverwrite-filled}
use Rattle.dc_armed.proofs.torn.leave_part.Goals as goal

pub returns-in-Some : goal.returns-in-Some
returns-in-Some g c =
    IsOverwrite-filled (of_disks g.D.Disks) c.args.p c.args.at c.args.count c.in-Some.byte c.args.fill _ _ _ _
    g.met.D.Disks.told_extent c.requires.fits c.requires.few c.in-Some.is refl c.write_part.ensures
