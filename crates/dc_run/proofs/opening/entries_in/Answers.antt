use Rattle.std.proofs.lemmas.Result.{IfOk-weaker}
use Rattle.dc_run.proofs.Openings.{turns_are}
use Rattle.dc_run.proofs.opening.entries_in.Goals as goal

pub returns-in-Journal-clause-turns : goal.returns-in-Journal-clause-turns
returns-in-Journal-clause-turns c = IfOk-weaker c.read_turns.result _ _ (λ entries all is. turns_are c.args.n entries.items all) c.read_turns.ensures.turns
