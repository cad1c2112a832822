-- Where the schedule of a plan that is read comes from is allowed.
use Rattle.std.proofs.Common.{◌≡◌, ◌&&◌, ◌||◌, ℕ, arith, List, Bool, true, not, Option, Some, None, is_some, Ok, Err, if◌then◌else◌}
use Rattle.toml.specs.Data.{Data, Members, as_integer}
use Rattle.std.proofs.lemmas.Bool.{and_parts}
use Rattle.dc_plan.proofs.Passing.{between, passed}
use Rattle.dc_plan.specs.Allowed.{IsSourceAllowed}
use Rattle.dc_plan.specs.Commands.{takes}
use Rattle.dc_plan.specs.declared.command.Command.{Command}
use Rattle.dc_plan.specs.Plans.{at_key, optional, schedule_row, seed_row, source_of, tested, turns_row}
use Rattle.dc_plan.specs.Values.{is_between, is_text, is_whole, natural_in, text_in}
use Rattle.dc_plan.specs.declared.fault.PlanFault.TheVariants.{Missing}
use Rattle.dc_plan.specs.declared.keys.Key.TheVariants as key

-- by the values at the three keys
found_allowed : (may : Bool) (s e t : Option Data) (schedule : Option (List ℕ)) (seed turns : Option ℕ)
    → (if is_some s || is_some e then optional None (λ d. tested key.Schedule (is_text d) true true (Some (text_in d))) s else Err (Missing key.Schedule)) ≡ Ok schedule
    → optional None (λ d. tested key.Seed (is_whole d) true (may && (not (is_some s) && is_between 0 9223372036854775807 d)) (Some (natural_in d))) e ≡ Ok seed
    → (if is_some t || not (is_some e) then optional None (λ d. tested key.Turns (is_whole d) true (not (is_some s) && is_between 0 1000000 d) (Some (natural_in d))) t
    else Err (Missing key.Turns)) ≡ Ok turns
    → IsSourceAllowed (source_of schedule seed turns)
found_allowed may (Some d) e t schedule seed turns named seeded turned = rw (← (passed key.Schedule (is_text d) true true (Some (text_in d)) schedule named).said_is) tt
found_allowed may None None t schedule seed turns named seeded turned = absurd (let never : ⊥ = cc in never)
found_allowed may None (Some d) None schedule seed turns named seeded turned = absurd (let never : ⊥ = cc in never)
found_allowed may None (Some d) (Some n) schedule seed turns named seeded turned =
    let none : None ≡ schedule = cc in
    let s = passed key.Seed (is_whole d) true (may && is_between 0 9223372036854775807 d) (Some (natural_in d)) seed seeded in
    let start = between 0 9223372036854775807 (as_integer d) (and_parts may (is_between 0 9223372036854775807 d) s.range_is).1 in
    let t = passed key.Turns (is_whole n) true (is_between 0 1000000 n) (Some (natural_in n)) turns turned in
    let few = between 0 1000000 (as_integer n) t.range_is in
    rw (← none, ← s.said_is, ← t.said_is) (omega (arith, start.1), few.1)

pub source_allowed : (by : Command) (ms : Members) (schedule : Option (List ℕ)) (seed turns : Option ℕ) → schedule_row ms ≡ Ok schedule → seed_row by ms ≡ Ok seed → turns_row ms ≡ Ok turns
    → IsSourceAllowed (source_of schedule seed turns)
source_allowed by ms schedule seed turns named seeded turned =
    found_allowed (takes by key.Seed) (at_key key.Schedule ms) (at_key key.Seed ms) (at_key key.Turns ms) schedule seed turns named seeded turned
