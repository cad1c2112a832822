-- What a run is opened with is of numbers of their types.
use Rattle.std.proofs.Common.{◌≤◌, ℕ, List, [], ◌∷◌, arith, length}
use Rattle.std.specs.List.{AllByRecursion}
use Rattle.dc_elf.specs.Images.{Image}
use Rattle.dc_limits.specs.declared.sizes.TheConstants.{PROCESSES}
use Rattle.dc_model.specs.declared.entry.Entry.{Entry}
use Rattle.dc_plan.specs.Allowed.{IsRecord}
use Rattle.dc_schedule.specs.Entries.{IsSchedule}
use Rattle.dc_shows.specs.Typed.{IsGivenRun, IsHanded, IsImage}

one_handed : (records : List (List ℕ)) → AllByRecursion IsRecord records → AllByRecursion IsHanded records
one_handed [] all = tt
one_handed (bytes ∷ records) all = ((let few = all.0.0 in omega (arith, few), all.0.1), one_handed records all.1)

all_handed : (inputs : List (List (List ℕ))) → AllByRecursion (AllByRecursion IsRecord) inputs → AllByRecursion (AllByRecursion IsHanded) inputs
all_handed [] all = tt
all_handed (records ∷ inputs) all = (one_handed records all.0, all_handed inputs all.1)

pub given_run : (images : List Image) (inputs : List (List (List ℕ))) (schedule : List Entry) → length images ≤ PROCESSES → AllByRecursion IsImage images → AllByRecursion (AllByRecursion IsRecord) inputs → IsSchedule (length images) schedule
    → IsGivenRun images inputs schedule
given_run images inputs schedule few images_are inputs_are schedule_is = record { few = few; images_are = images_are; inputs_are = all_handed inputs inputs_are; schedule_is = schedule_is }
