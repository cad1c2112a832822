use Rattle.std.proofs.Common.{rules, arith}
use Rattle.std.proofs.Math.Path.{fun_ext}
use Rattle.dc_asm.specs.Names.{found, definition_in}
use Rattle.dc_asm.proofs.Naming.{all_lines, line_named, no_more}
use Rattle.dc_asm.proofs.names.names_in.Goals as goal

pub loop-rest-init : goal.loop-rest-init
loop-rest-init c = record {
  names = λ name. all_lines c.args.source.now (found c.new-names.result) name (c.new-names.ensures name);
  lines = omega arith;
  words = omega arith;
}

pub loop-rest-preserved : goal.loop-rest-preserved
loop-rest-preserved c = record {
  names = λ name. line_named (found c.loop-rest.names) (found c.define_line.new.names) c.loop-rest.line c.loop-rest.word c.words_in_line-word.result
      c.first_line.result.0.now c.loop-rest.rest.now c.first_line.result.1.now name (definition_in c.args.source.now name)
      c.first_line.ensures.lines (rw c.bare-text.ensures at (c.in_ok-define_line.ensures name)) (rw c.bare-text.ensures at c.words_in_line-word.ensures.exact) (c.loop-rest.invariant.names name);
  lines = omega (arith, c.first_line.ensures.shorter, c.loop-rest.invariant.lines);
  words = omega (arith, c.first_line.ensures.shorter, c.loop-rest.invariant.words, c.words_in_line-word.ensures.few);
}

pub returns : goal.returns
returns c = fun_ext (λ name. no_more c.loop-rest.line c.loop-rest.word (found c.loop-rest.names) c.loop-rest.rest.now name (definition_in c.args.source.now name) (search rules) (c.loop-rest.invariant.names name))
