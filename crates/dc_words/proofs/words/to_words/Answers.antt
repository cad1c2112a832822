use Rattle.std.proofs.Common.{◌∙◌, ap, arith, rules}
use Rattle.std.proofs.lemmas.List.{take_at}
use Rattle.dc_words.proofs.Bytes.{all_below, bytes_again}
use Rattle.dc_words.specs.Words.{bytes_in}
use Rattle.dc_words.proofs.words.to_words.Goals as goal

pub returns-clause-words : goal.returns-clause-words
returns-clause-words c = ap bytes_in (take_at c.words_of.new.to _ _ (search rules)) ∙ ap bytes_in c.words_of.ensures
    ∙ bytes_again c.args.bytes.now (all_below 256 c.args.bytes.now (λ k within. omega (arith, c.type_inv.bytes k))) c.requires
