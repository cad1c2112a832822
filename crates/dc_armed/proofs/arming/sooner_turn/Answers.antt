use Rattle.std.proofs.Common.{arith, inl, inr}
use Rattle.dc_armed.proofs.Firsts.{ComesNone-push, ComesNone-sooner}
use Rattle.dc_armed.proofs.arming.sooner_turn.Goals as goal

pub returns-then-stop-turn : goal.returns-then-stop-turn
returns-then-stop-turn c = λ stops before.
    ComesNone-push stops c.args.stop.now _ _ (ComesNone-sooner stops _ _ _ before (omega arith)) (inr (omega arith))

pub returns : goal.returns
returns c = λ stops before. ComesNone-push stops c.args.stop.now _ _ before (inl (omega arith))
