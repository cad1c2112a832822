-- What users are promised of a part of a run that goes on from an earlier part.
use Rattle.std.specs.Prelude.{◌≡◌, ◌++◌, List, drop, map}
use Rattle.dc_model.specs.Repeats.{notes, numbers}
use Rattle.dc_model.specs.declared.entry.Entry.{Entry}
use Rattle.dc_model.specs.declared.mark.Mark.{Mark}
use Rattle.dc_model.specs.declared.visible.Visible.{Visible}
use Rattle.dc_protocols.specs.Rules.{is_joint}
use Rattle.dc_recovery.specs.Core.{Core, Start}
use Rattle.dc_recovery.specs.Promise.{IsPromised}
use Rattle.dc_recovery.specs.Recoveries.{AllFollow}
use Rattle.dc_recovery.specs.Systems.{System}

-- The lines of this part come behind the earlier ones, and all together they keep the promise. Each line of this part was shown at its entry, by a
-- process that had recovered in this part; so one that repeats a line of an earlier part follows a recovery too.
pub record GoesOnWell {Mc : Type 0} (S : System Mc) (schedule : List Entry) (start : Start) (marks : List Mark) (c : Core) : Type 0 where
  pub more : List Visible
  pub lines_are : c.lines ≡ more ++ start.core.lines
  pub promised : IsPromised S schedule start marks c
  pub numbered : map (λ x. (x.p, x.k)) more ≡ numbers (notes (drop start.entries schedule) marks)
  pub recovered : AllFollow (is_joint S.protocol) (notes (drop start.entries schedule) marks)
