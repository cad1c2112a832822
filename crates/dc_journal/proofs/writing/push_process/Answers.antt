use Rattle.std.proofs.Common.{arith, decimal, ap, length, length-append}
use Rattle.std.proofs.lemmas.Fmt.{length-decimal-le}
use Rattle.dc_journal.proofs.writing.push_process.Goals as goal

pub returns-clause-length : goal.returns-clause-length
returns-clause-length c = let short = length-decimal-le 2 c.args.p (omega arith) (let small = c.requires.process in omega arith) (let small = c.requires.process in omega arith) in
    omega (arith, ap length c.push_number.ensures.text, length-append c.args.text.now (decimal c.args.p), short)
