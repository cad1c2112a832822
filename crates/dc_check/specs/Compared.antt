-- How the code's comparison of lines stands to the definitions.
use Rattle.std.specs.Prelude.{◌≡◌, ℕ, List, Option, Some, Result, Ok, Err, option_map}
use Rattle.std.specs.Str.{bytes_eq}
use Rattle.std.specs.HashMap.{get_by}
use Rattle.dc_check.specs.Differences.{Difference}
use Rattle.dc_check.specs.Findings.{seen_difference}
use Rattle.dc_check.specs.declared.comparing.Unlike.{Unlike}
use Rattle.dc_check.specs.declared.comparing.Unlike.TheVariants.{Differs, Memory}
use Rattle.dc_check.specs.declared.seen.FirstLines.{FirstLines}

-- the first line of these numbers
abbrev pub found : FirstLines → List ℕ → Option (List ℕ)
found first numbers = option_map (λ line. line.now) (get_by (λ k. bytes_eq numbers k.now) first.lines)

-- the difference that this is, unless there was no memory for it
abbrev pub IsThat : Unlike → Difference → Type 0
IsThat (Differs found) difference = seen_difference found ≡ difference
IsThat Memory difference = Unit {0}

-- what is told, where a difference was found: that difference
abbrev pub IfDiffers : {A : Type 0} → Result A Unlike → Option Difference → Type 0
IfDiffers (Ok x) told = Unit {0}
IfDiffers (Err (Differs found)) told = told ≡ Some (seen_difference found)
IfDiffers (Err Memory) told = Unit {0}
