-- Devices, by what their traits show of them.
use Rattle.std.specs.Prelude.{ℕ, List}
use Rattle.dc_media.specs.Disk.{Disk}
use Rattle.dc_media.specs.Told.{Device, showing}
use Rattle.dc_media.specs.declared.disks.Disks as disks
use Rattle.dc_media.specs.declared.keeps.Keeps as keeps

-- stores of words as a device
abbrev pub of_words : {S : Type 0} → keeps.Ghosts S → Device S (List ℕ)
of_words ghosts = showing ghosts.told ghosts.extent ghosts.stops ghosts.faults ghosts.calls ghosts.continues

-- disks as a device
abbrev pub of_disks : {S : Type 0} → disks.Ghosts S → Device S Disk
of_disks ghosts = showing ghosts.told ghosts.extent ghosts.stops ghosts.faults ghosts.calls ghosts.continues
