use Rattle.std.proofs.Common.{rules, ◌<◌, ◌≤◌, ⊎_elim, arith}
use Rattle.std.proofs.lemmas.Bool.{cases_lt}
use Rattle.dc_audit.proofs.Listed.{raise_past}
use Rattle.dc_audit.proofs.clock.raise.Goals as goal

pub returns : goal.returns
returns c = λ p. ⊎_elim (λ (h : p < c.loop-p.p). c.loop-p.invariant.changed p h)
    (λ (h : c.loop-p.p ≤ p). raise_past c.loop-p.clock c.args.clock.now c.args.index c.args.line.now p (let l : 16 ≤ p = omega (arith, h, c.loop-p-test.false) in l) (omega (arith, c.loop-p.invariant.long)) (search rules) c.requires.sixteen) (cases_lt p c.loop-p.p)
