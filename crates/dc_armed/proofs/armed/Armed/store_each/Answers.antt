use Rattle.std.proofs.Common.{rules, refl, sym, ◌∙◌, length, slice_index, subst, arith}
use Rattle.dc_media.specs.Devices.{of_words}
use Rattle.dc_media.specs.Stores.{SetsWord}
use Rattle.dc_media.proofs.Storing.{counted_more, counted_refused, word_made, word_refused}
use Rattle.dc_armed.specs.Armed.{armed}
use Rattle.dc_armed.specs.Laws.{later_on}
use Rattle.dc_armed.proofs.Counting.{Touches-then}
use Rattle.dc_armed.proofs.Coming.{IsStored, comes_in_row, left_in_row, none_came, parts_in_row, so_far_next, so_far_none}
use Rattle.dc_armed.proofs.armed.Armed.store_each.Goals as goal

pub returns-then-is_err-clause-words : goal.returns-then-is_err-clause-words
returns-then-is_err-clause-words g c = let told = g.K.Keeps.told in let p = c.args.p in let so_far = c.loop-word.invariant in
    let word = slice_index c.args.words.now c.loop-word.word-index in
    word_refused c.loop-word.word-index c.args.i word c.args.words.now (omega arith) refl c.store-done.result (told c.args.self.now.device p) (told c.loop-word.self.device p) (told c.store-done.new.self.device p)
    (sym c.if-is_err.true ∙ c.is_err.ensures.value) so_far.words
    (subst (λ at. SetsWord at word c.store-done.result (told c.loop-word.self.device p) (told c.store-done.new.self.device p)) so_far.index c.store-done.ensures.word)

pub returns-then-is_err-clause-calls : goal.returns-then-is_err-clause-calls
returns-then-is_err-clause-calls g c = let so_far = c.loop-word.invariant in
    counted_refused c.loop-word.word-index (length c.args.words.now) _ _ _ c.store-done.result (sym c.if-is_err.true ∙ c.is_err.ensures.value) (omega arith) so_far.calls c.store-done.ensures.calls

pub returns-then-is_err-clause-call : goal.returns-then-is_err-clause-call
returns-then-is_err-clause-call g c = let so_far = c.loop-word.invariant in let done = c.store-done.ensures in record {
  touches = Touches-then (armed (of_words g.K.Keeps)) (later_on (of_words g.K.Keeps) g.met.K.Keeps.continues_on) c.args.p c.args.self.now c.loop-word.self c.store-done.new.self done.call.cause.stops_later done.call.cause.faults_later so_far.touches done.call.touches;
  extent = search rules;
  cause = search rules;
}

pub loop-word-preserved : goal.loop-word-preserved
loop-word-preserved g c = let told = g.K.Keeps.told in let p = c.args.p in let so_far = c.loop-word.invariant in let done = c.store-done.ensures in
    let word = slice_index c.args.words.now c.loop-word.word-index in record {
      index = omega (arith, so_far.index);
      extent = search rules;
      words = word_made c.loop-word.word-index c.args.i word c.args.words.now (omega arith) refl c.store-done.result (told c.args.self.now.device p) (told c.loop-word.self.device p) (told c.store-done.new.self.device p)
          (sym c.if-is_err.false ∙ c.is_err.ensures.value) so_far.words
          (subst (λ at. SetsWord at word c.store-done.result (told c.loop-word.self.device p) (told c.store-done.new.self.device p)) so_far.index done.word);
      stops = search rules;
      faults = search rules;
      calls = counted_more c.loop-word.word-index _ _ _ so_far.calls done.calls;
      touches = Touches-then (armed (of_words g.K.Keeps)) (later_on (of_words g.K.Keeps) g.met.K.Keeps.continues_on) p c.args.self.now c.loop-word.self c.store-done.new.self done.call.cause.stops_later done.call.cause.faults_later so_far.touches done.call.touches;
      within = Touches-then (of_words g.K.Keeps) g.met.K.Keeps.continues_on p c.args.self.now.device c.loop-word.self.device c.store-done.new.self.device (done.call.touches.continues.stopped p) (done.call.touches.continues.failed p) so_far.within done.touches;
      so_far = so_far_next (of_words g.K.Keeps) p c.loop-word.word-index c.loop-word.at word c.args.self.now c.loop-word.self c.store-done.new.self so_far.so_far c.store-done.result (sym c.if-is_err.false ∙ c.is_err.ensures.value)
          (record { once = done.once; passes = done.passes; stops = done.stops; parts = done.parts; calls = done.calls; waits = done.waits });
    }

pub loop-word-init : goal.loop-word-init
loop-word-init g c = record {
  index = search rules;
  extent = search rules;
  words = search rules;
  stops = search rules;
  faults = search rules;
  calls = search rules;
  touches = search rules;
  within = search rules;
  so_far = so_far_none (of_words g.K.Keeps) c.args.p c.args.self.now;
}

pub returns-then-is_err-clause-touches : goal.returns-then-is_err-clause-touches
returns-then-is_err-clause-touches g c = let p = c.args.p in let so_far = c.loop-word.invariant in let done = c.store-done.ensures in
    Touches-then (of_words g.K.Keeps) g.met.K.Keeps.continues_on p c.args.self.now.device c.loop-word.self.device c.store-done.new.self.device (done.call.touches.continues.stopped p) (done.call.touches.continues.failed p) so_far.within done.touches

pub returns-then-is_err-clause-stops : goal.returns-then-is_err-clause-stops
returns-then-is_err-clause-stops g c = let so_far = c.loop-word.invariant in let done = c.store-done.ensures in
    comes_in_row (of_words g.K.Keeps) c.args.p c.args.i c.loop-word.word-index c.args.words.now c.args.self.now c.loop-word.self c.store-done.new.self so_far.so_far so_far.words so_far.calls
    c.store-done.result (sym c.if-is_err.true ∙ c.is_err.ensures.value)
    (subst (λ at. IsStored (of_words g.K.Keeps) c.args.p at (slice_index c.args.words.now c.loop-word.word-index) c.store-done.result c.loop-word.self c.store-done.new.self) so_far.index
    (record { once = done.once; passes = done.passes; stops = done.stops; parts = done.parts; calls = done.calls; waits = done.waits }))

pub returns-then-is_err-clause-parts : goal.returns-then-is_err-clause-parts
returns-then-is_err-clause-parts g c = let so_far = c.loop-word.invariant in let done = c.store-done.ensures in
    parts_in_row (of_words g.K.Keeps) c.args.p c.args.i c.loop-word.word-index c.args.words.now c.args.self.now c.loop-word.self c.store-done.new.self so_far.so_far so_far.words so_far.calls
    c.store-done.result (sym c.if-is_err.true ∙ c.is_err.ensures.value)
    (subst (λ at. IsStored (of_words g.K.Keeps) c.args.p at (slice_index c.args.words.now c.loop-word.word-index) c.store-done.result c.loop-word.self c.store-done.new.self) so_far.index
    (record { once = done.once; passes = done.passes; stops = done.stops; parts = done.parts; calls = done.calls; waits = done.waits }))

pub returns-then-is_err-clause-left : goal.returns-then-is_err-clause-left
returns-then-is_err-clause-left g c = let so_far = c.loop-word.invariant in let done = c.store-done.ensures in
    left_in_row (of_words g.K.Keeps) c.args.p c.args.i c.loop-word.word-index c.args.words.now c.args.self.now c.loop-word.self c.store-done.new.self so_far.so_far so_far.words so_far.calls
    c.store-done.result (sym c.if-is_err.true ∙ c.is_err.ensures.value)
    (subst (λ at. IsStored (of_words g.K.Keeps) c.args.p at (slice_index c.args.words.now c.loop-word.word-index) c.store-done.result c.loop-word.self c.store-done.new.self) so_far.index
    (record { once = done.once; passes = done.passes; stops = done.stops; parts = done.parts; calls = done.calls; waits = done.waits }))

pub returns-clause-touches : goal.returns-clause-touches
returns-clause-touches g c = c.loop-word.invariant.within

pub returns-clause-stops : goal.returns-clause-stops
returns-clause-stops g c = none_came (of_words g.K.Keeps) c.args.p c.loop-word.word-index (length c.args.words.now) c.args.self.now c.loop-word.self c.loop-word.invariant.so_far (omega arith) _

pub returns-clause-parts : goal.returns-clause-parts
returns-clause-parts g c = none_came (of_words g.K.Keeps) c.args.p c.loop-word.word-index (length c.args.words.now) c.args.self.now c.loop-word.self c.loop-word.invariant.so_far (omega arith) _

pub returns-clause-left : goal.returns-clause-left
returns-clause-left g c = none_came (of_words g.K.Keeps) c.args.p c.loop-word.word-index (length c.args.words.now) c.args.self.now c.loop-word.self c.loop-word.invariant.so_far (omega arith) _
