use Rattle.dc_words.proofs.Bytes.{hex_more}
use Rattle.dc_words.proofs.hex.hex_line.Goals as goal

pub loop-i-preserved : goal.loop-i-preserved
loop-i-preserved c = rw (c.digit.ensures, c.digit-in-loop-i.ensures)
    (hex_more c.args.bytes.now c.loop-i.to c.args.to.now c.loop-i.i c.loop-i-test.true c.requires c.loop-i.invariant)
