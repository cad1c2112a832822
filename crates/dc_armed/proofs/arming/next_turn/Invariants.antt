use Rattle.std.proofs.Common.{◌+◌, take}
use Rattle.dc_armed.specs.Turns.{ComesNone}
use Rattle.dc_armed.proofs.arming.next_turn.Given as goal

abbrev pub invariant-loop-stop : goal.invariant-loop-stop
invariant-loop-stop l = ComesNone (take l.stop-index l.stops) (l.turn + 1) l.next
