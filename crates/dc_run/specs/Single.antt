-- That a schedule is one has at most one proof.
use Rattle.std.specs.Prelude.{ℕ, List, [], ◌∷◌}
use Rattle.std.specs.Coded.{×_prop, Unit-prop, le_prop}
use Rattle.dc_model.specs.declared.entry.Entry.{Entry}
use Rattle.dc_model.specs.declared.entry.Entry.TheVariants.{Turn, Stop, Power}
use Rattle.dc_schedule.specs.Entries.{AreEntries, IsEntry, IsSchedule, clock_after}

IsEntry-prop : (n last : ℕ) (entry : Entry) → IsProp (IsEntry n last entry)
IsEntry-prop n last (Turn turn) = λ x y i. (le_prop x.0 y.0 i, le_prop x.1 y.1 i, le_prop x.2 y.2 i, le_prop x.3 y.3 i)
IsEntry-prop n last (Stop p) = le_prop
IsEntry-prop n last Power = Unit-prop

AreEntries-prop : (n last : ℕ) (entries : List Entry) → IsProp (AreEntries n last entries)
AreEntries-prop n last [] = Unit-prop
AreEntries-prop n last (entry ∷ entries) = ×_prop (IsEntry-prop n last entry) (AreEntries-prop n (clock_after last entry) entries)

pub IsSchedule-prop : (n : ℕ) (entries : List Entry) → IsProp (IsSchedule n entries)
IsSchedule-prop n entries = ×_prop le_prop (AreEntries-prop n 0 entries)
