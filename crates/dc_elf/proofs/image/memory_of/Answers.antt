use Rattle.std.proofs.Common.{rules, ◌≡◌, [], length, sym, subst}
use Rattle.dc_elf.specs.Files.{parts_of}
use Rattle.dc_elf.specs.Filling.{Filled, everywhere}
use Rattle.dc_elf.proofs.Layers.{empty, written_back}
use Rattle.dc_elf.proofs.image.memory_of.Goals as goal

pub returns : goal.returns
returns c = written_back c.args.file.now c.args.size
    (parts_of c.args.file.now) c.in_ok-memory.memory.items c.lay_parts.new.memory c.lay_parts.new.next _ laid (search rules)
  where
    sized : length c.deref_mut.result.now ≡ c.args.size
    sized = search rules

    laid : Filled c.args.file.now c.args.size (everywhere (parts_of c.args.file.now)) c.lay_parts.new.memory c.lay_parts.new.next
    laid = subst (λ n. Filled c.args.file.now n (everywhere (parts_of c.args.file.now)) c.lay_parts.new.memory c.lay_parts.new.next) sized
        (c.lay_parts.ensures.laid
        (subst (λ n. Filled c.args.file.now n (everywhere []) c.deref_mut.result.now c.deref_mut-2.result.now) (sym sized)
        (empty c.args.file.now c.args.size c.deref_mut.result.now c.deref_mut-2.result.now (search rules) (search rules))))
