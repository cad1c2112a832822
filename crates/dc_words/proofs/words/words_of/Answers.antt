use Rattle.dc_words.proofs.Bytes.{words_read}
use Rattle.dc_words.proofs.words.words_of.Goals as goal
use Rattle.std.proofs.Common.{rules}

pub returns : goal.returns
returns c = words_read c.args.bytes.now c.read_u32_into.new.dst (search rules) c.read_u32_into.ensures
