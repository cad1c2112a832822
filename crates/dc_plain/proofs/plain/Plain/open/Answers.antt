use Rattle.dc_words.specs.Lists.{lists_of}
use Rattle.dc_plain.proofs.Applying.{opens}
use Rattle.dc_plain.proofs.plain.Plain.open.Goals as goal

pub returns-clause-world : goal.returns-clause-world
returns-clause-world c = opens c.args.images.now (lists_of c.args.inputs.now) c.in_ok-begin_each.field-0.items c.in_ok-copied.field-0.items c.new.result.items
    (c.in_ok-begin_each.ensures.begun (lists_of c.args.inputs.now)) c.new.ensures.items
