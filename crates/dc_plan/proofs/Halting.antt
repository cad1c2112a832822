-- Where a plan that is read halts its run is allowed.
use Rattle.std.proofs.Common.{◌≡◌, ◌&&◌, ℕ, true, Option, Some, None, Ok, refl, subst}
use Rattle.std.proofs.lemmas.Bool.{and_parts}
use Rattle.toml.specs.Data.{Data, Members, as_integer}
use Rattle.dc_plan.proofs.Passing.{between, passed}
use Rattle.dc_plan.specs.Allowed.{IsHaltAllowed}
use Rattle.dc_plan.specs.Plans.{at_key, halt_row, optional, tested}
use Rattle.dc_plan.specs.Commands.{may_halt, takes}
use Rattle.dc_plan.specs.declared.command.Command.{Command}
use Rattle.dc_plan.specs.Values.{is_between, is_whole, natural_in}
use Rattle.dc_plan.specs.declared.keys.Key.TheVariants as key
use Rattle.dc_plan.specs.declared.plan.Medium.{Medium}
use Rattle.dc_plan.specs.declared.plan.Medium.TheVariants as medium

-- only a disk keeps what a halted run goes on from
only_disk : (on : Medium) → may_halt on ≡ true → on ≡ medium.Disk
only_disk medium.Rio may = absurd (let never : ⊥ = cc in never)
only_disk medium.Disk may = refl

pub halt_allowed : (by : Command) (on : Medium) (ms : Members) (halt : Option ℕ) → halt_row by on ms ≡ Ok halt → IsHaltAllowed on halt
halt_allowed by on ms halt e = at (at_key key.Halt ms) e
  where
    at : (found : Option Data) → optional None (λ d. tested key.Halt (is_whole d) true (takes by key.Halt && (may_halt on && is_between 0 1000000 d)) (Some (natural_in d))) found ≡ Ok halt → IsHaltAllowed on halt
    at None e = let is : None ≡ halt = cc in subst (IsHaltAllowed on) is tt
    at (Some d) e =
        let p = passed key.Halt (is_whole d) true (takes by key.Halt && (may_halt on && is_between 0 1000000 d)) (Some (natural_in d)) halt e in
        let parts = and_parts (may_halt on) (is_between 0 1000000 d) (and_parts (takes by key.Halt) (may_halt on && is_between 0 1000000 d) p.range_is).1 in
        let few = between 0 1000000 (as_integer d) parts.1 in
        subst (IsHaltAllowed on) p.said_is (few.1, only_disk on parts.0)
