use Rattle.dc_words.proofs.Finding.{first_within, is_position}
use Rattle.dc_words.proofs.texts.find.Goals as goal

pub returns-clause-find : goal.returns-clause-find
returns-clause-find c = is_position c.args.stop c.args.text.now c.memchr.result c.memchr.ensures

pub returns-clause-within : goal.returns-clause-within
returns-clause-within c = first_within c.args.stop c.args.text.now c.memchr.result c.memchr.ensures
