use Rattle.std.proofs.Common.{rules}
use Rattle.dc_elf.proofs.Layers.{aside, not_loaded, without_bytes}
use Rattle.dc_elf.proofs.image.lay_right.Goals as goal

pub returns-then-not-is_loaded-clause-laid : goal.returns-then-not-is_loaded-clause-laid
returns-then-not-is_loaded-clause-laid c =
    λ parts filled. aside _ _ c.args.part.now parts _ _ (not_loaded c.args.part.now (search rules)) filled

pub returns-then-part-eq0-clause-laid : goal.returns-then-part-eq0-clause-laid
returns-then-part-eq0-clause-laid c =
    λ parts filled. aside _ _ c.args.part.now parts _ _ (without_bytes c.args.part.now c.if-part-eq0.true) filled
