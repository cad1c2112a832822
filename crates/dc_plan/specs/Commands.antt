-- What a command forbids in the plan that it reads.
use Rattle.std.specs.Prelude.{Bool, true, false}
use Rattle.dc_plan.specs.declared.command.Command.{Command}
use Rattle.dc_plan.specs.declared.command.Command.TheVariants as command
use Rattle.dc_plan.specs.declared.keys.Key.{Key}
use Rattle.dc_plan.specs.declared.keys.Key.TheVariants as key
use Rattle.dc_plan.specs.declared.plan.Medium.{Medium}
use Rattle.dc_plan.specs.declared.plan.Medium.TheVariants as medium

-- a journal is of turns up to the end of its schedule: no seed, since its entries stop processes too, no stop and no halt
abbrev pub takes_noted : Key → Bool
takes_noted key.Seed = false
takes_noted key.Stop = false
takes_noted key.Halt = false
takes_noted _ = true

-- a plan that the command reads may say something at that key
abbrev pub takes : Command → Key → Bool
takes command.Run key = true
takes command.Journal key = takes_noted key
takes command.Resume key = true

-- a disk outlasts the program, so that a run can be halted and gone on with
abbrev pub may_halt : Medium → Bool
may_halt medium.Rio = false
may_halt medium.Disk = true

-- a run goes on from stores that outlast the program
abbrev pub runs_on : Command → Medium → Bool
runs_on command.Run on = true
runs_on command.Journal on = true
runs_on command.Resume on = may_halt on
