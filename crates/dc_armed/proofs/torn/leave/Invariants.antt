use Rattle.std.proofs.Common.{◌≡◌, ◌≤◌, ◌<◌, ◌-◌, ◌%◌}
use Rattle.dc_media.specs.Devices.{of_disks}
use Rattle.dc_media.specs.Tears.{left}
use Rattle.dc_armed.specs.Torn.{IsOverwrite, in_parts}
use Rattle.dc_armed.proofs.torn.leave.Given as goal

abbrev pub invariant-loop-done : goal.invariant-loop-done
invariant-loop-done g l = let D = g.D.Disks in record {
  within : l.done ≤ l.count;
  whole : l.done < l.count → l.done % 64 ≡ 0;
  so_far : IsOverwrite (of_disks D) l.p (record { at = l.at; count = l.done; make = left l.fill; calls = in_parts l.done }) l.answer l.fn.disks l.disks;
}

abbrev pub decreases-loop-done : goal.decreases-loop-done
decreases-loop-done g l = l.count - l.done
