use Rattle.std.proofs.Common.{rules}
use Rattle.std.proofs.Common.{◌%◌, ◌∙◌, ap}
use Rattle.dc_elf.proofs.Headers.{right_entry, right_file}
use Rattle.dc_elf.proofs.Layers.{image_is}
use Rattle.dc_elf.proofs.image.load.Goals as goal

pub memory_of-requires-clause-headers : goal.memory_of-requires-clause-headers
memory_of-requires-clause-headers c = (right_file c.args.file.now c.args.size (search rules)).0

pub memory_of-requires-clause-right : goal.memory_of-requires-clause-right
memory_of-requires-clause-right c = (right_file c.args.file.now c.args.size (search rules)).1

pub returns-in-Ok-clause-image : goal.returns-in-Ok-clause-image
returns-in-Ok-clause-image c = image_is c.args.file.now _ c.args.size _ c.in-Ok.ensures c.word_at.ensures

pub returns-in-Ok-clause-aligned : goal.returns-in-Ok-clause-aligned
returns-in-Ok-clause-aligned c = ap (λ n. n % 4) c.word_at.ensures ∙ right_entry c.args.file.now c.args.size (search rules)
