-- What the parts of a block of words own and lend.
use Rattle.std.specs.Prelude.{ℕ, ◌+◌, ◌*◌, ◌^◌, List, [], ◌∷◌, length, Option, Some, None}
use base.Fraction.{full_share}
use base.Fml.{Lft, Fml, ftrue, ffalse, fsep, flt, froom}
use mir.Syntax.{Ty, ty_array, ty_int, w32}
use mir.Raw.{raw}
use denote.Builtin.{u32}
use denote.Memory.{part_at, shared_of}
use denote.Sharing.{nothing, said, beside}
use denote.RawPtr.{Ptr, block_ptr, null_ptr}

-- one cell, o bytes into the block b: a word, or room for one
abbrev pub slot : ℕ → ℕ → Option ℕ → Fml
slot b o (Some x) = part_at u32 full_share x b o
slot b o None = froom (raw (ty_int w32)) b o

-- cells side by side
abbrev pub slots : ℕ → ℕ → List (Option ℕ) → Fml
slots b o [] = ftrue
slots b o (c ∷ cs) = fsep (slot b o c) (slots b (o + 4) cs)

-- one cell that is lent: a word that is shared, or nothing
abbrev pub slot_lent : ℕ → ℕ → Option ℕ → Lft → Fml
slot_lent b o (Some x) = shared_of u32 x b o
slot_lent b o None = nothing

-- lent cells side by side
abbrev pub slots_lent : ℕ → ℕ → List (Option ℕ) → Lft → Fml
slots_lent b o [] = nothing
slots_lent b o (c ∷ cs) = beside (slot_lent b o c) (slots_lent b (o + 4) cs)

-- the cells take fewer than 2 ^ 63 bytes
abbrev pub fit : List (Option ℕ) → Fml
fit cs = flt (length cs * 4) (2 ^ 63)

-- what the owner of the cells at a pointer owns
abbrev pub words_own : Ptr → List (Option ℕ) → Fml
words_own (block_ptr b o) cs = fsep (fit cs) (slots b o cs)
words_own null_ptr cs = ffalse

-- what it lends
abbrev pub words_lent : Ptr → List (Option ℕ) → Lft → Fml
words_lent (block_ptr b o) cs = beside (said (fit cs)) (slots_lent b o cs)
words_lent null_ptr cs = said ffalse

-- the allocator's token for a block of n cells
abbrev pub deed_owns : (Ty → Ptr → Fml) → Ptr → ℕ → Fml
deed_owns token p n = token (raw (ty_array (ty_int w32) n)) p
