use Rattle.std.proofs.Common.{rules}
use Rattle.dc_elf.proofs.Headers.{faultless}
use Rattle.dc_elf.proofs.header.header_fault.Goals as goal

pub returns : goal.returns
returns c = faultless c.args.file.now (search rules) (search rules) (search rules) (search rules)
    (search rules) (search rules) (search rules)
