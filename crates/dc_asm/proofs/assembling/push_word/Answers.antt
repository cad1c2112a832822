use Rattle.std.proofs.Common.{◌≡◌, ◌∙◌, ◌++◌, ◌∷◌, [], sym}
use Rattle.dc_words.proofs.Results.{pushed}
use Rattle.dc_asm.proofs.Passes.{one_more}
use Rattle.dc_asm.proofs.assembling.push_word.Goals as goal

pub returns-clause-words : goal.returns-clause-words
returns-clause-words c = λ front are. rw (words_after, c.in-Some.is)
    (one_more front c.args.words.now.items c.in-Some.meant c.word_of.result are c.word_of.ensures)
  where
    words_after : c.push.new.self.items ≡ c.args.words.now.items ++ c.word_of.result ∷ []
    words_after = c.push.ensures.items ∙ pushed _ _ c.push.result (sym c.if-is_err.false ∙ c.is_err.ensures.value)
