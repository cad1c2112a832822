use Rattle.std.proofs.Common.{◌∙◌, ap, refl, rules, sym}
use Rattle.std.proofs.lemmas.Option.{slice_get_read}
use Rattle.dc_plain.specs.Playing.{local_of}
use Rattle.dc_plain.proofs.Plays.{plays}
use Rattle.dc_plain.proofs.plain.play.Goals as goal

pub returns-in-Some-clause-happened : goal.returns-in-Some-clause-happened
returns-in-Some-clause-happened c = let there = slice_get_read c.args.processes.now _ c.args.p c.index-processes-p.result refl c.requires.process c.index-processes-p.is in
    λ images inputs. plays c.args.processes.now c.args.p c.index-processes-p.result c.turn.new.self there images inputs _ c.reserve-2.new.self (c.reserve-2.ensures.same ∙ ap local_of (sym c.index-processes-p.is)) (c.turn.ensures.moved images inputs)
    c.args.visibles.now.items _ _ c.turn.ensures.shown (rw c.in-Some.is (search rules))

pub returns-in-None-clause-happened : goal.returns-in-None-clause-happened
returns-in-None-clause-happened c = let there = slice_get_read c.args.processes.now _ c.args.p c.index-processes-p.result refl c.requires.process c.index-processes-p.is in
    λ images inputs. plays c.args.processes.now c.args.p c.index-processes-p.result c.turn.new.self there images inputs _ c.reserve-2.new.self (c.reserve-2.ensures.same ∙ ap local_of (sym c.index-processes-p.is)) (c.turn.ensures.moved images inputs)
    c.args.visibles.now.items _ _ c.turn.ensures.shown (rw c.in-None.is (search rules))
