use Rattle.std.proofs.Common.{◌-◌, ◌<◌, inr, refl, arith, subst, sym}
use Rattle.dc_proc.proofs.Logs.{log_torn, over_logged}
use Rattle.dc_proc.proofs.Numbers.{numbered_log}
use Rattle.dc_proc.proofs.Texts.{any_err}
use Rattle.dc_proc.specs.Carried.{system}
use Rattle.dc_proc.specs.Ups.{Up}
use Rattle.dc_proc.proofs.up.Up.append.Goals as goal

pub append_log-requires-clause-decisions : goal.append_log-requires-clause-decisions
append_log-requires-clause-decisions g c = g.met.C.Checkpoint.may_log c.args.store.now c.args.dev.now c.requires.ready

pub returns-in_err-append_log-clause-torn : goal.returns-in_err-append_log-clause-torn
returns-in_err-append_log-clause-torn g c = any_err c.from_residual.result (λ images inputs protocol p answers st d from over.
    log_torn (system images inputs protocol).guests p answers _ c.args.rec.now st _ _ over.going.one over.stands (λ r l. c.in_err-append_log.ensures.between d r from l))

pub returns-clause-goes : goal.returns-clause-goes
returns-clause-goes g c = let low : 0 < c.self.inside.log_left = subst (λ (u : Up). 0 < u.log_left) (sym c.self.view_is) c.requires.room in rw (← c.self.view_is) (λ images inputs protocol p answers st d from over.
    over_logged (system images inputs protocol) p answers st _ c.args.rec.now _ _ _ _ (c.self.inside.log_left - 1) _ over refl (omega (arith, low))
    c.in_ok-append_log.ensures.memory (λ r l. c.in_ok-append_log.ensures.stands d r from l))

pub returns-in_err-append_log-clause-numbered : goal.returns-in_err-append_log-clause-numbered
returns-in_err-append_log-clause-numbered g c d most from is = numbered_log most (g.C.Checkpoint.leaves c.args.store.now c.args.dev.now d) (g.C.Checkpoint.leaves c.append_log.new.self c.append_log.new.dev d) c.args.rec.now is (λ r l. c.in_err-append_log.ensures.between d r from l)

pub returns-clause-numbered : goal.returns-clause-numbered
returns-clause-numbered g c d most from is = numbered_log most (g.C.Checkpoint.leaves c.args.store.now c.args.dev.now d) (g.C.Checkpoint.leaves c.append_log.new.self c.append_log.new.dev d) c.args.rec.now is (λ r l. inr (c.in_ok-append_log.ensures.stands d r from l))
