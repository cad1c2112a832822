-- The three pieces of a journal's text.
use Rattle.std.proofs.Common.{◌≡◌, ◌++◌, ℕ, Bool, true, false, List, ap, sym, append_assoc, append-nil, if◌then◌else◌}
use Rattle.std.specs.List.{flat_map}
use Rattle.dc_audit.specs.declared.journal.Line.{Line}
use Rattle.dc_journal.specs.Pieces.{last_text}
use Rattle.dc_journal.specs.Texts.{heading_text, journal_text, line_text, whole_text}

-- the text with its last line, or without
pub in_pieces : (n : ℕ) (causal : Bool) (lines : List Line) (whole : Bool)
    → (if whole then whole_text n causal lines else journal_text n causal lines) ≡ heading_text n causal ++ (flat_map line_text lines ++ last_text whole)
in_pieces n causal lines true = simp append_assoc
in_pieces n causal lines false = ap (λ w. heading_text n causal ++ w) (sym (append-nil (flat_map line_text lines)))
