use Rattle.std.proofs.Common.{rules}
use Rattle.dc_rv32.proofs.Fetching.{at_call, past_call}
use Rattle.dc_rv32.proofs.machine.is_call.Goals as goal

pub returns-in-Some : goal.returns-in-Some
returns-in-Some g c = at_call (g.B.Bus.told c.args.bus.now) (g.B.Bus.count c.args.bus.now) c.args.regs.now c.in-Some.word c.is_ecall.result (g.met.B.Bus.told_long c.args.bus.now c.requires.live) c.in-Some.ensures.some.0 c.in-Some.ensures.some.1
    c.words_decode_by_the_table.ensures.coded c.words_decode_by_the_table.ensures.only c.is_ecall.ensures

pub returns-in-None : goal.returns-in-None
returns-in-None g c = past_call (g.B.Bus.told c.args.bus.now) (g.B.Bus.count c.args.bus.now) c.args.regs.now (g.met.B.Bus.told_long c.args.bus.now c.requires.live) (c.in-None.ensures.none (search rules))
