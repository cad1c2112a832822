use Rattle.dc_media.proofs.Firsts.{first_by-IsFoundFirst}
use Rattle.dc_armed.specs.Stops.{is_of}
use Rattle.dc_armed.proofs.armed.Armed.at_turn.Goals as goal

pub returns-clause-first : goal.returns-clause-first
returns-clause-first g c = λ p. first_by-IsFoundFirst (is_of c.args.turn p) (λ stop. stop.call) c.args.self.now.plan.stops
