use Rattle.std.proofs.Common.{ap, length}
use Rattle.dc_media.specs.Devices.{of_disks}
use Rattle.dc_armed.specs.Torn.{at_once}
use Rattle.dc_armed.proofs.Counting.{IsInCalls-after}
use Rattle.dc_armed.proofs.Surviving.{Overwrites-back}
use Rattle.dc_armed.proofs.torn.write_back.Goals as goal

pub returns : goal.returns
returns g c =
    let D = g.D.Disks in
    let one = c.read-read.ensures in
    let two = c.write_part-written.ensures in
    let p = c.args.p in
    let long = c.read-read.auto.to in
    rw c.and.ensures (record {
      bytes = Overwrites-back (D.extent c.args.disks.now p) c.args.at (length c.args.bytes.now) c.read-read.new.to _ _ _ _ _
          long c.requires (g.met.D.Disks.told_extent c.args.disks.now p) (rw one.call.extent at (g.met.D.Disks.told_extent c.read-read.new.self p)) one.bytes two.bytes;
      lawful = IsInCalls-after (of_disks D) g.met.D.Disks.continues_on p _ _ c.read-read.result c.write_part-written.result _ c.read-read.new.self _ (ap at_once long)
          (record { call = one.call; calls = one.calls }) two.lawful;
    })
