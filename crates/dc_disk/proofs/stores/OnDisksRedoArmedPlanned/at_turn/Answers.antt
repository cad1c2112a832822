use Rattle.dc_course.proofs.Arming.{none_at, punctual_at}
use Rattle.dc_media.specs.Devices.{of_disks}
use Rattle.dc_disk.proofs.stores.OnDisksRedoArmedPlanned.at_turn.Goals as goal

pub returns-clause-punctual : goal.returns-clause-punctual
returns-clause-punctual g c now p stop later is same sound below rose =
    punctual_at (of_disks g.D.Disks) c.args.dev.now c.at_turn.new.self now c.args.turn p c.at_turn.ensures.device c.at_turn.ensures.came c.at_turn.ensures.waits later stop is same sound below rose

pub returns-clause-alone : goal.returns-clause-alone
returns-clause-alone g c now p later off = none_at (of_disks g.D.Disks) c.args.dev.now c.at_turn.new.self now c.args.turn p c.at_turn.ensures.device c.at_turn.ensures.came c.at_turn.ensures.waits later off
