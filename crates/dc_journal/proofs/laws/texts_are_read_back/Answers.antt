use Rattle.dc_journal.proofs.JournalTexts.{text_again}
use Rattle.dc_journal.proofs.laws.texts_are_read_back.Goals as goal

pub returns : goal.returns
returns c = λ n causal lines some few is members within. text_again n causal lines some few is members within
