-- A `&` to the cells reaches each word. Assumes `Logic`.
use denote.RawPtr.{RawPtr}
use denote.Param.Shared.{copy_shared}
use denote.Struct.Laws.{field_copy}
use denote.Struct.Lending.{of_Lends}
use Rattle.std.specs.contracts.marker.PhantomData as marker
use Rattle.dc_region.specs.contracts.block.Words as C
use Rattle.dc_region.proofs.block.Words.TheLaw.Statement.{statement}
use Rattle.dc_region.proofs.Sharing.{words_lent_laws, Lends-words}

pub shares : statement
shares = of_Lends C.struct (C.the_codes (marker.the_row RawPtr).coded) C.the_heap C.the_lent
    (λ d p. words_lent_laws d.at d.slots) (copy_shared (marker.the_field RawPtr) (field_copy (marker.the_type RawPtr) tt), tt)
    (λ M 𝓤 𝓛 d p. Lends-words 𝓛 C.the_row.lives (λ a m. m) d.at d.slots)
