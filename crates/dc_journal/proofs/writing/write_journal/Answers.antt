use Rattle.std.proofs.Common.{◌∙◌, ℕ, List, Option, subst, sym}
use Rattle.std.proofs.lemmas.Result.{err_from_is_err_and}
use Rattle.std.specs.List.{flat_map}
use Rattle.dc_media.specs.Sinks.{TakesWhole}
use Rattle.dc_report.proofs.Sent.{CutOff, Sent, cut_first, cut_then, then_whole}
use Rattle.dc_journal.specs.Pieces.{last_text}
use Rattle.dc_journal.specs.Texts.{heading_text, line_text}
use Rattle.dc_journal.proofs.Pieces.{in_pieces}
use Rattle.dc_journal.proofs.writing.write_journal.Goals as goal

pub returns-in_err-write_whole-clause-held : goal.returns-in_err-write_whole-clause-held
returns-in_err-write_whole-clause-held g c = let failed = err_from_is_err_and c.from_residual.result c.from_residual.ensures.1 in
    rw failed.1 (cut_first before after (heading_text c.args.n c.args.causal) _ _ (in_pieces c.args.n c.args.causal c.args.lines.now c.args.whole)
    (subst (λ (text : List ℕ). CutOff text before after) (c.as_slice.ensures ∙ c.heading.ensures) c.in_err-write_whole.ensures.held))
  where
    before : Option (List ℕ)
    before = g.R.Sink.held c.args.to.now

    after : Option (List ℕ)
    after = g.R.Sink.held c.write_whole.new.to

pub returns-in_err-write_lines-clause-held : goal.returns-in_err-write_lines-clause-held
returns-in_err-write_lines-clause-held g c =
    let failed = err_from_is_err_and c.from_residual-in_err-write_lines.result c.from_residual-in_err-write_lines.ensures.1 in
    rw failed.1 (cut_then before between _ (heading_text c.args.n c.args.causal) (flat_map line_text c.args.lines.now) _ _
    (in_pieces c.args.n c.args.causal c.args.lines.now c.args.whole)
    (subst (λ (text : List ℕ). Sent text before between) (c.as_slice.ensures ∙ c.heading.ensures) c.in_ok-write_whole.ensures.held) c.in_err-write_lines.ensures.held)
  where
    before : Option (List ℕ)
    before = g.R.Sink.held c.args.to.now

    between : Option (List ℕ)
    between = g.R.Sink.held c.write_whole.new.to

pub returns-clause-held : goal.returns-clause-held
returns-clause-held g c = subst (λ (text : List ℕ). TakesWhole text c.write_whole-2.result before after) (sym (in_pieces c.args.n c.args.causal c.args.lines.now c.args.whole))
    (then_whole before between lines after (heading_text c.args.n c.args.causal) (flat_map line_text c.args.lines.now) (last_text c.args.whole) c.write_whole-2.result
    (subst (λ (text : List ℕ). Sent text before between) (c.as_slice.ensures ∙ c.heading.ensures) c.in_ok-write_whole.ensures.held) c.in_ok-write_lines.ensures.held
    (subst (λ (text : List ℕ). TakesWhole text c.write_whole-2.result lines after) c.last_line.ensures c.write_whole-2.ensures.held))
  where
    before : Option (List ℕ)
    before = g.R.Sink.held c.args.to.now

    between : Option (List ℕ)
    between = g.R.Sink.held c.write_whole.new.to

    lines : Option (List ℕ)
    lines = g.R.Sink.held c.write_lines.new.to

    after : Option (List ℕ)
    after = g.R.Sink.held c.write_whole-2.new.to
