use Rattle.std.proofs.Common.{◌≡◌, All, Ok, Some, length, map, string_bytes, take}
use Rattle.std.specs.List.{AllByRecursion}
use Rattle.dc_elf.specs.Loaded.{seen_image}
use Rattle.dc_shows.specs.Typed.{IsImage}
use Rattle.dc_world.specs.Openable.{CanOpen}
use Rattle.dc_run.specs.Opening.{Files, images_in}
use Rattle.dc_run.specs.Settings.{LibraryKept}
use Rattle.dc_run.proofs.opening.load_guests.Given as goal

-- the guests so far are loaded, and the files stay
abbrev pub invariant-loop-name : goal.invariant-loop-name
invariant-loop-name g l = let L = g.L.Library in record {
  loaded : (files : Files) → L.files l.fn.lib ≡ Some files → images_in files l.size 0 (map string_bytes (take l.name-index l.names)) ≡ Ok (map seen_image l.images.items);
  good : All CanOpen l.images.items;
  typed : AllByRecursion IsImage (map seen_image l.images.items);
  count : length l.images.items ≡ l.name-index;
  files : L.files l.lib ≡ L.files l.fn.lib;
  library : LibraryKept (L.files l.fn.lib) (L.files l.lib) (L.faults l.fn.lib) (L.faults l.lib);
}
