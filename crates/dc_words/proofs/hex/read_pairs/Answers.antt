use Rattle.std.proofs.Common.{sym, arith, ◌∙◌, length-set, refl}
use Rattle.dc_words.proofs.Unhexing.{nothing_before, one_read}
use Rattle.dc_words.proofs.hex.read_pairs.Goals as goal

pub loop-rest-preserved : goal.loop-rest-preserved
loop-rest-preserved c = let i = c.loop-rest.invariant in record {
  bytes = one_read c.args.text.now c.loop-rest.to c.loop-rest.rest.now c.loop-rest.count c.in-Some.byte _ c.in-len2-up.len_at_least (omega arith)
      (omega (arith, i.find, i.length, c.requires, c.in-len2-up.len_at_least)) i.bytes (sym c.in-Some.ensures);
  find = omega (arith, i.find, c.in-len2-up.len_at_least);
  length = length-set c.loop-rest.to c.loop-rest.count c.in-Some.byte ∙ i.length;
}

pub loop-rest-init : goal.loop-rest-init
loop-rest-init c = record { bytes = nothing_before _; find = omega arith; length = refl }
