use Rattle.std.proofs.Common.{rules, ℕ, ◌<◌, ◌^◌, length, slice_index, subst}
use Rattle.dc_words.specs.Words.{AllBelow}
use Rattle.dc_words.proofs.Bytes.{all_below}
use Rattle.dc_run.proofs.opening.typed.Goals as goal

pub returns-clause-bytes : goal.returns-clause-bytes
returns-clause-bytes c = let below : (k : ℕ) → k < length c.as_slice-bytes.result.now → slice_index c.as_slice-bytes.result.now k < 2 ^ 8 = search rules in
    subst (AllBelow (2 ^ 8)) c.as_slice-bytes.ensures.value (all_below (2 ^ 8) c.as_slice-bytes.result.now below)
