use Rattle.std.proofs.Common.{◌∙◌, ap, Ok, Err}
use Rattle.std.proofs.lemmas.Result.{err_from_is_err_and}
use Rattle.dc_asm.specs.Names.{found}
use Rattle.dc_asm.specs.Elf.{elf_of}
use Rattle.dc_asm.specs.Program.{program_of}
use Rattle.dc_asm.proofs.Passes.{fails_too, is_filed, of_source}
use Rattle.dc_asm.proofs.assembling.assemble.Goals as goal

pub returns-in_err-words : goal.returns-in_err-words
returns-in_err-words c = let p = err_from_is_err_and c.from_residual.result c.from_residual.ensures.1 in rw (p.1, p.2) (fails_too (program_of c.args.source.now) c.in_err-words.field-0.0
    (of_source c.args.source.now (found c.in-Ok.names) (Err c.in_err-words.field-0.0) c.in-Ok.ensures c.in_err-words.ensures.words))

pub returns-in-Ok-elf_of : goal.returns-in-Ok-elf_of
returns-in-Ok-elf_of c = is_filed (program_of c.args.source.now) c.in_ok-words.words c.in-Ok-elf_of.file
    (of_source c.args.source.now (found c.in-Ok.names) (Ok c.in_ok-words.words) c.in-Ok.ensures c.in_ok-words.ensures.words)
    (c.in-Ok-elf_of.ensures ∙ ap elf_of c.deref.ensures.value)
