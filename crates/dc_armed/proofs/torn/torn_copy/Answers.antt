use Rattle.dc_media.specs.Devices.{of_words}
use Rattle.dc_armed.proofs.Copies.{whole_copy}
use Rattle.dc_armed.proofs.torn.torn_copy.Goals as goal

pub returns-then-tear-ge16 : goal.returns-then-tear-ge16
returns-then-tear-ge16 g c = let call = c.copy_line.ensures in
    whole_copy (of_words g.K.Keeps) c.args.p c.args.from c.args.to c.args.tear c.copy_line.result c.args.keeps.now c.copy_line.new.self c.if-tear-ge16.true call.line
    (record { call = call.call; calls = call.calls })
