-- A `&` to the cells is made where one to a word is. Assumes `Logic`.
use mathlib.Core.Path.{refl}
use Prim.Native.Nat.{ℕ, ◌+◌}
use Rattle.std.specs.Prelude.{List, [], ◌∷◌, Option, Some, None}
use seplogic.Ra.Ura.{Ura}
use base.Fml.{Lft, Incl, ftrue, ffalse}
use types.Logic.{Logic}
use denote.Builtin.{u32}
use denote.Param.Laws.{Laws, of_field}
use denote.Param.Shared.{copy_shared}
use denote.Struct.Field.{u32-field}
use denote.Struct.Laws.{u32-laws, u32-copy}
use denote.RawPtr.{Ptr, block_ptr, null_ptr}
use denote.Sharing.{ShrLaws, said}
use denote.SharingLaws.{beside_shr_laws, nothing_shr_laws, said_shr_laws}
use denote.Shares.{Shares-less}
use denote.Struct.Lending.{Lends, Lends-both, Lends-nothing, Lends-said, Lends-false}
use Rattle.dc_region.specs.Ownership.{slot, slots, slot_lent, slots_lent, fit, words_own, words_lent}

laws : Laws u32
laws = of_field u32-field u32-laws refl (copy_shared u32-field u32-copy)

slot_lent_laws : (b o : ℕ) (c : Option ℕ) → ShrLaws (slot_lent b o c)
slot_lent_laws b o (Some x) = laws.shr_laws x b o
slot_lent_laws b o None = nothing_shr_laws

slots_lent_laws : (b o : ℕ) (cs : List (Option ℕ)) → ShrLaws (slots_lent b o cs)
slots_lent_laws b o [] = nothing_shr_laws
slots_lent_laws b o (c ∷ cs) = beside_shr_laws _ _ (slot_lent_laws b o c) (slots_lent_laws b (o + 4) cs)

pub words_lent_laws : (p : Ptr) (cs : List (Option ℕ)) → ShrLaws (words_lent p cs)
words_lent_laws (block_ptr b o) cs = beside_shr_laws _ _ (said_shr_laws (fit cs) tt) (slots_lent_laws b o cs)
words_lent_laws null_ptr cs = said_shr_laws ffalse tt

module _ {M : Type 1} {𝓤 : Ura M} (𝓛 : Logic 𝓤) (l : Lft) (inc : Incl l u32.lives) where
  Lends-slot : (b o : ℕ) (c : Option ℕ) → Lends 𝓛 (slot b o c) (slot_lent b o c) l
  Lends-slot b o (Some x) = λ κ ts. Shares-less 𝓛 u32 u32.lives l inc (laws.shares 𝓛) x κ ts b o
  Lends-slot b o None = Lends-nothing 𝓛 (slot b o None) l

  Lends-slots : (b o : ℕ) (cs : List (Option ℕ)) → Lends 𝓛 (slots b o cs) (slots_lent b o cs) l
  Lends-slots b o [] = Lends-nothing 𝓛 ftrue l
  Lends-slots b o (c ∷ cs) =
      Lends-both 𝓛 (slot b o c) (slots b (o + 4) cs) (slot_lent b o c) (slots_lent b (o + 4) cs) l (Lends-slot b o c) (Lends-slots b (o + 4) cs)

  pub Lends-words : (p : Ptr) (cs : List (Option ℕ)) → Lends 𝓛 (words_own p cs) (words_lent p cs) l
  Lends-words (block_ptr b o) cs = Lends-both 𝓛 (fit cs) (slots b o cs) (said (fit cs)) (slots_lent b o cs) l (Lends-said 𝓛 (fit cs) tt l) (Lends-slots b o cs)
  Lends-words null_ptr cs = Lends-false 𝓛 (said ffalse) l
