use Rattle.std.proofs.Common.{rules}
use Rattle.std.proofs.lemmas.List.{length-replicate}
use Rattle.dc_bench.proofs.work.made.Goals as goal

pub format-requires-clause-pages : goal.format-requires-clause-pages
format-requires-clause-pages g c = (c.args.pages, search (rules, length-replicate), c.requires.pages)
