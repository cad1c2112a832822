use Rattle.std.proofs.Common.{arith}
use Rattle.dc_resume.proofs.Receipts.{few_each, many}
use Rattle.dc_resume.proofs.log.has_few.Goals as goal

pub returns-then-receipts-ge-KEPT_MESSAGES-clause-only : goal.returns-then-receipts-ge-KEPT_MESSAGES-clause-only
returns-then-receipts-ge-KEPT_MESSAGES-clause-only c = λ no. (c.loop-q.q, many c.args.log.now c.loop-q.q c.args.end (let e = c.receipts.ensures in let h = c.if-receipts-ge-KEPT_MESSAGES.true in omega (arith, e, h)))

pub returns-clause-is : goal.returns-clause-is
returns-clause-is c = λ yes. few_each c.args.log.now c.args.n c.args.end c.requires.records (λ q less. c.loop-q.invariant.few q (let t = c.loop-q-test.false in omega (arith, t, less)))
