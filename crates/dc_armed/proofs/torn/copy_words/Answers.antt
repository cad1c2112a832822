use Rattle.std.proofs.Common.{◌∙◌, sym, arith}
use Rattle.dc_media.specs.Devices.{of_words}
use Rattle.dc_armed.proofs.Copies.{next_calls, next_word, refused_word}
use Rattle.dc_armed.proofs.torn.copy_words.Goals as goal

pub returns-then-is_err : goal.returns-then-is_err
returns-then-is_err g c = let done = c.store-done.ensures in let so_far = c.loop-k.invariant in
    refused_word (of_words g.K.Keeps) g.met.K.Keeps.continues_on c.args.p c.args.from c.args.to c.loop-k.k c.load-word.result (omega arith) c.requires.apart c.args.keeps.now c.loop-k.keeps c.store-done.new.self
    c.load-word.ensures so_far.words so_far.lawful c.args.count c.store-done.result (sym c.if-is_err.true ∙ c.is_err.ensures.value) (omega arith) c.requires.few done.word
    (record { call = done.call; calls = done.calls })

pub loop-k-preserved : goal.loop-k-preserved
loop-k-preserved g c = let done = c.store-done.ensures in let so_far = c.loop-k.invariant in let ok = sym c.if-is_err.false ∙ c.is_err.ensures.value in record {
  words = next_word (of_words g.K.Keeps) g.met.K.Keeps.continues_on c.args.p c.args.from c.args.to c.loop-k.k c.load-word.result (omega arith) c.requires.apart c.args.keeps.now c.loop-k.keeps c.store-done.new.self
      c.load-word.ensures so_far.words so_far.lawful c.store-done.result ok done.word;
  unmade = λ none. absurd (omega (arith, none));
  lawful = next_calls (of_words g.K.Keeps) g.met.K.Keeps.continues_on c.args.p c.args.from c.args.to c.loop-k.k c.load-word.result (omega arith) c.requires.apart c.args.keeps.now c.loop-k.keeps c.store-done.new.self
      c.load-word.ensures so_far.words so_far.lawful c.store-done.result ok (record { call = done.call; calls = done.calls });
}
