use Rattle.std.proofs.Common.{◌≡◌, rules, arith, length}
use Rattle.dc_asm.specs.Names.{found}
use Rattle.dc_asm.proofs.Passes.{all_read, line_faulty, line_read, still_few}
use Rattle.dc_asm.proofs.assembling.words_of.Goals as goal

pub returns-in-Err-clause-words : goal.returns-in-Err-clause-words
returns-in-Err-clause-words c = line_faulty (found c.args.names.now) c.loop-rest.number c.loop-rest.words.items c.first_line.result.0.now c.loop-rest.rest.now c.first_line.result.1.now _
    c.in-Err.kind (rw (count, c.bare.ensures) at c.in-Err.ensures.exact) c.first_line.ensures.lines c.loop-rest.invariant.words
  where
    count : c.len.result ≡ length c.loop-rest.words.items
    count = search rules

pub loop-rest-preserved : goal.loop-rest-preserved
loop-rest-preserved c = record {
  words = line_read (found c.args.names.now) c.loop-rest.number c.loop-rest.words.items c.first_line.result.0.now c.loop-rest.rest.now c.first_line.result.1.now _
      c.in-Ok.meant c.push_word.new.words.items (rw (count, c.bare.ensures) at c.in-Ok.ensures.exact) c.first_line.ensures.lines
      c.in_ok-push_word-in-Ok.ensures.words c.in_ok-push_word-in-Ok.ensures.count c.loop-rest.invariant.words;
  lines = omega (arith, c.first_line.ensures.shorter, c.loop-rest.invariant.lines);
  few = rw c.in_ok-push_word-in-Ok.ensures.count (still_few (length c.loop-rest.words.items) c.in-Ok.meant (rw count at c.in-Ok.ensures.few) c.loop-rest.invariant.few);
}
  where
    count : c.len.result ≡ length c.loop-rest.words.items
    count = search rules

pub returns-clause-words : goal.returns-clause-words
returns-clause-words c = all_read (found c.args.names.now) c.loop-rest.number (length c.loop-rest.words.items) c.loop-rest.words c.loop-rest.rest.now _ (search rules) c.loop-rest.invariant.words
