use Rattle.std.proofs.Common.{◌≡◌, sym, subst}
use Rattle.dc_audit.specs.declared.journal.Line.TheVariants.{Commits}
use Rattle.dc_audit.specs.Journals.{IsOfSixteen}
use Rattle.dc_audit.specs.Clocks.{KnowsPast}
use Rattle.dc_audit.proofs.Judging.{knows_commit}
use Rattle.dc_audit.proofs.advancing.past.Goals as goal

pub returns-in-Commits-clause-clock : goal.returns-in-Commits-clause-clock
returns-in-Commits-clause-clock c = let here : c.args.line.now ≡ Commits c.in-Commits.members = c.in-Commits.is in
    subst (λ x. KnowsPast c.args.causal c.args.clocks.now c.args.links.now c.args.last.now x c.gather.result) (sym here)
    (knows_commit c.args.causal c.args.clocks.now c.args.links.now c.args.last.now c.in-Commits.members c.start.result c.gather.result
    (subst (λ x. IsOfSixteen x) here c.requires.sixteen) c.start.ensures.known c.start.ensures.nothing c.gather.ensures)
