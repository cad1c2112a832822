use Rattle.std.proofs.Common.{◌≡◌, ◌∙◌, sym, ap, subst, List}
use Rattle.dc_audit.specs.Clocks.{Advances, Way, ledger, links_sent, links_taken}
use Rattle.dc_audit.proofs.Noted.{advanced}
use Rattle.dc_audit.proofs.advancing.advance.Goals as goal

pub returns-clause-clocks : goal.returns-clause-clocks
returns-clause-clocks c = let same : c.send.new.links ≡ links_sent c.args.line.now c.raise.new.clock (links_taken c.args.line.now c.args.links.now) = c.in_ok-send.ensures ∙ ap (λ (links : List Way). links_sent c.args.line.now c.raise.new.clock links) c.past-clock.ensures.links in
    subst (λ links. Advances c.args.causal c.args.index c.args.line.now (ledger c.args.clocks.now c.args.links.now c.args.last.now) (ledger c.note.new.clocks links c.decide.new.last) c.raise.new.clock) (sym same)
    (subst (λ last. Advances c.args.causal c.args.index c.args.line.now (ledger c.args.clocks.now c.args.links.now c.args.last.now) (ledger c.note.new.clocks (links_sent c.args.line.now c.raise.new.clock (links_taken c.args.line.now c.args.links.now)) last) c.raise.new.clock) (sym c.decide.ensures)
    (advanced c.args.causal c.args.index c.args.line.now c.args.clocks.now c.note.new.clocks c.args.links.now c.args.last.now c.past-clock.result c.raise.new.clock c.requires.linked c.requires.sixteen c.requires.due c.past-clock.ensures.clock c.raise.ensures c.note.ensures))
