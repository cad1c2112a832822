use Rattle.std.proofs.Common.{rules}
use Rattle.dc_elf.proofs.Headers.{right_headers}
use Rattle.dc_elf.proofs.image.fault_in.Goals as goal

pub faulty_part-requires-clause-headers : goal.faulty_part-requires-clause-headers
faulty_part-requires-clause-headers c = right_headers c.args.file.now (search rules)
