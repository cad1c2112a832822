-- What holds of the parts of a block that belong together.
use Rattle.std.specs.Prelude.{◌≡◌, ℕ, ◌*◌, ◌^◌, ◌<◌, length, map, Some}
use Rattle.std.specs.declared.alloc.Global.{Global}
use Rattle.dc_region.specs.Cells.{held}
use Rattle.dc_region.specs.declared.block.Base.{Base}
use Rattle.dc_region.specs.declared.block.Words.{Words}
use Rattle.dc_region.specs.declared.block.Deed.{Deed}

-- a block of so many words, each cell of which holds one
pub record IsBlock (base : Base) (len : ℕ) (words : Words) (deed : Deed Global) (alloc : Global) : Type 0 where
  pub cells : (words.at ≡ base.ptr) × (length words.slots ≡ len) × (len * 4 < 2 ^ 63)
  pub right : (deed.at ≡ base.ptr) × (deed.len ≡ len) × (deed.alloc ≡ alloc)
  pub filled : words.slots ≡ map Some (held words.slots)
