use Rattle.std.proofs.Common.{rules}
use Rattle.dc_words.proofs.Splitting.{line_ends, line_is_last}
use Rattle.dc_words.proofs.texts.first_line.Goals as goal

pub returns-in-Some-clause-lines : goal.returns-in-Some-clause-lines
returns-in-Some-clause-lines c = line_ends c.args.text.now c.in-Some.end (search rules)

pub returns-in-None-clause-lines : goal.returns-in-None-clause-lines
returns-in-None-clause-lines c = line_is_last c.args.text.now (search rules) c.requires
