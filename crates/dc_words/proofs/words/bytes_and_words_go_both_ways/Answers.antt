use Rattle.dc_words.proofs.Bytes.{bytes_again, words_again}
use Rattle.dc_words.proofs.words.bytes_and_words_go_both_ways.Goals as goal

pub returns : goal.returns
returns c = record { words = words_again; bytes = bytes_again }
