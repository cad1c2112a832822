-- What the walks of the pointer functions share. Assumes `Logic`.
--     base_had, base_made, mark_had, mark_made, three_of      a value of one pointer, one of no bytes, and the three that `allocate` makes
--     block_ty, block_size, block_align      the block that the allocator is asked for
--     args, P      the allocator's type, as the code and the contracts see it
--     needs_both      a `requires` of two facts
--     slot_out, slot_in, Besides      one cell is taken out of the row, and put back
--     emptied      a cell that may hold a word is room for one
--     of_room, to_room      room for an array is a row of empty cells, and a row of any cells is room for an array
--     slot_seen, all_seen      one cell of a row that is lent, and all its words
use mathlib.Core.Path.{◌≡◌, refl, sym, ap, subst, ◌∙◌}
use Prim.Native.Nat.{ℕ, zero, suc, ◌+◌, ◌*◌, ◌^◌, ◌<◌, ◌≤◌}
use native.Mathlib.Omega.{arith}
use mathlib.Core.List.{List, [], ◌∷◌, ◌++◌, map}
use lib.ListN.{length, take, drop, set, get_or, replicate, take-append-drop, length-take}
use lib.Seq.{drop-cons, set_split}
use seplogic.Ra.Ura.{Ura}
use base.Fraction.{full_share}
use mir.Syntax.{Args, Ty, a_type, dcons, dnil, ty_int, w32, ty_array}
use mir.Raw.{raw as bare}
use mir.Val.{Val, vstruct, vcons, vnil, vint, of_list}
use base.Logic.{SProp, ent, sep, emp, via, snd∗, id⊢, mono_r}
use base.Fml.{Fml, Lft, ftrue, fsep, fat, froom}
use contract.Monad.{fact}
use prog.Memory.{size, align, capped}
use prog.Capped.{capped_is}
use prog.RawLaws.{size-raw, align-raw}
use types.Logic.{Logic, sem}
use types.Kit.{Item, Goal, Seq, Step, step, ‵, raw, ◌⊛◌, ◌$◌, ◌∵◌, !, qed, by, move, keep, drop as skip, use1, use2, split, frame, fsplit, fjoin, fpick, fpack, feq_i, feq_l, rewrite, done}
use denote.Builtin.{u32}
use denote.Plain.{uint_out}
use denote.RattleType.{RattleType, Valss}
use denote.RawPtr.{Ptr, RawPtr, ptr_val}
use denote.Shadow.{makes_shadow}
use denote.Slice.{elements_shared}
use denote.Param.{param, bounded}
use denote.Steps.{nothing, heard}
use denote.Struct.Struct.{Shape, Struct, within}
use denote.Struct.Owning.{shape}
use denote.Struct.Declared as Declared
use denote.Struct.Tuple.{Tuple, tuple_type}
use Rattle.std.specs.Prelude.{Option, Some, None}
use Rattle.std.proofs.RcSteps.{word}
use Rattle.std.proofs.alloc.Calls.{Al}
use Rattle.dc_region.specs.Ownership.{slot, slots, slot_lent, slots_lent}
use Rattle.dc_region.specs.contracts.block.Words as W-type
use Rattle.dc_region.specs.contracts.block.Base as B-type

abbrev pub Wr : RattleType
Wr = W-type.the_row

abbrev pub Bs : RattleType
Bs = B-type.the_row

-- the one field of `Words`, which takes no bytes
abbrev pub Mark : RattleType
Mark = Struct (shape W-type.the_type)

abbrev one_field : Shape
one_field = record { name = []; args = []; types = []; fields = RawPtr ∷ [] }

abbrev pub One : RattleType
One = Struct one_field

abbrev pub mark : Val
mark = vstruct (vcons (vstruct vnil) vnil)

pub mark_made : {M : Type 1} {𝓤 : Ura M} (𝓛 : Logic 𝓤) → ent 𝓤 (emp 𝓤) (sem 𝓛 (Mark.own_val (tt, tt) (mark ∷ [])))
mark_made 𝓛 = makes_shadow 𝓛 (Mark.own_val (tt, tt) (mark ∷ [])) (λ vss. (tt, ((λ uss. (tt, tt)), tt))) ((vstruct vnil ∷ [], tt), (refl, ((tt, (refl, tt)), tt)))

module _ {M : Type 1} {𝓤 : Ura M} {𝓛 : Logic 𝓤} {K : Type 0} {Γ : List (Item 𝓤)} {G : Goal 𝓤 𝓛.H} where
  pub base_had : K → (c : Ptr) (vs : List Val) → (vs ≡ word c ∷ [] → Seq K 𝓛 Γ G) → Seq K 𝓛 (‵ (One.own_val (c, tt) vs) ∷ Γ) G
  base_had t c vs k = fpick t (λ vss. fsplit t $ feq_l t (λ ev. fsplit t $ feq_l t (λ e. skip t $ k (subst (λ (ws : List Val). vs ≡ vstruct (of_list (ws ++ [])) ∷ []) e ev))))

  pub base_made : K → (c : Ptr) → Step K 𝓛 (‵ (One.own_val (c, tt) (word c ∷ [])) ∷ Γ) G Γ G
  base_made t c = step (λ s.
      nothing t $ feq_i t (List Val) (ptr_val c ∷ []) (ptr_val c ∷ []) refl $ fjoin t $ feq_i t (List Val) (word c ∷ []) (word c ∷ []) refl $ fjoin t $
      fpack t (Valss (RawPtr ∷ [])) (within one_field (c, tt) (word c ∷ [])) (ptr_val c ∷ [], tt) $ s)

  pub mark_had : K → (vs : List Val) → (vs ≡ mark ∷ [] → Seq K 𝓛 Γ G) → Seq K 𝓛 (‵ (Mark.own_val (tt, tt) vs) ∷ Γ) G
  mark_had t vs k = fpick t (λ vss. fsplit t $ feq_l t (λ ev. fsplit t $ fpick t (λ uss. fsplit t $ feq_l t (λ e. skip t $ skip t $
      k (subst (λ (ws : List Val). vs ≡ vstruct (of_list (ws ++ [])) ∷ []) e ev)))))

-- the type that a block of n words is allocated for
abbrev pub block_ty : ℕ → Ty
block_ty n = bare (ty_array (ty_int w32) n)

pub block_size : (n : ℕ) → n * 4 < 2 ^ 64 → capped (size (block_ty n)) ≡ n * 4
block_size n fits = ap capped (size-raw (ty_array (ty_int w32) n)) ∙ capped_is (n * 4) fits

pub block_align : (n : ℕ) → capped (align (block_ty n)) ≡ 4
block_align n = ap capped (align-raw (ty_array (ty_int w32) n))

module _ (Z : Al) where
  abbrev pub args : Args
  args = bounded (a_type ∷ []) (Z.row, tt) (dcons Z.d (dcons Z.drops dnil))

  abbrev pub P : RattleType
  P = param 0 Z.row

pub needs_both : {M : Type 1} {𝓤 : Ura M} (𝓛 : Logic 𝓤) (φ ψ : Type 0) (P : SProp 𝓤) {Q : SProp 𝓤} → (φ → ψ → ent 𝓤 P Q) → ent 𝓤 (sep 𝓤 P (sep 𝓤 (fact 𝓤 φ) (fact 𝓤 ψ))) Q
needs_both {𝓤 = 𝓤} 𝓛 φ ψ P f = qed 𝓛 (raw P ∷ raw (fact 𝓤 φ) ∷ raw (fact 𝓤 ψ) ∷ []) ∵ move ! (1 ∷ []) $ heard ! φ (λ x. move ! (1 ∷ []) $ heard ! ψ (λ y. by ! (f x y)))

abbrev pub three_val : Val → Val → Val → Val
three_val u v w = vstruct (vcons u (vcons v (vcons w vnil)))

pub three_of : {M : Type 1} {𝓤 : Ura M} (𝓛 : Logic 𝓤) (R S T : RattleType) (x : R.Denot) (y : S.Denot) (z : T.Denot) (u v w : Val)
    → ent 𝓤 (sep 𝓤 (sem 𝓛 (R.own_val x (u ∷ []))) (sep 𝓤 (sem 𝓛 (S.own_val y (v ∷ []))) (sem 𝓛 (T.own_val z (w ∷ []))))) (sem 𝓛 ((Tuple (R ∷ S ∷ T ∷ [])).own_val (x, y, z) (three_val u v w ∷ [])))
three_of 𝓛 R S T x y z u v w =
    qed 𝓛 (‵ (R.own_val x (u ∷ [])) ∷ ‵ (S.own_val y (v ∷ [])) ∷ ‵ (T.own_val z (w ∷ [])) ∷ []) ∵ nothing ! $ move ! (3 ∷ 0 ∷ []) $ fjoin ! $ move ! (2 ∷ 0 ∷ []) $ fjoin ! $ move ! (1 ∷ 0 ∷ []) $ fjoin ! $
    feq_i ! (List Val) (three_val u v w ∷ []) (three_val u v w ∷ []) refl $ fjoin ! $
    fpack ! (Valss (R ∷ S ∷ T ∷ [])) (within (Declared.shape (tuple_type (R ∷ S ∷ T ∷ []))) (x, (y, (z, tt))) (three_val u v w ∷ [])) (u ∷ [], (v ∷ [], (w ∷ [], tt))) $ done !

pub filled_within : (cs : List (Option ℕ)) (i x : ℕ) → get_or cs i None ≡ Some x → i < length cs
filled_within [] i x e = cc
filled_within (c ∷ cs) zero x e = omega arith
filled_within (c ∷ cs) (suc i) x e = omega (arith, filled_within cs i x e)

module _ {M : Type 1} {𝓤 : Ura M} (𝓛 : Logic 𝓤) (b : ℕ) where
  open 𝓛 use {H}

  abbrev Row : ℕ → List (Option ℕ) → Fml
  Row = slots b

  cut : (xs ys : List (Option ℕ)) (o at : ℕ) → at ≡ length xs * 4 + o → ent 𝓤 (sem 𝓛 (Row o (xs ++ ys))) (sep 𝓤 (sem 𝓛 (Row o xs)) (sem 𝓛 (Row at ys)))
  cut [] ys o at e = qed 𝓛 (‵ (Row o ys) ∷ []) ∵ rewrite ! 0 (λ (k : ℕ). ‵ (Row k ys)) {x = at} (omega arith) refl $ nothing ! $ done !
  cut (x ∷ xs) ys o at e = qed 𝓛 (‵ (Row o (x ∷ xs ++ ys)) ∷ []) ∵ fsplit ! $ move ! (1 ∷ []) $
      use1 𝓛 (‵ (Row (o + 4) xs) ⊛ ‵ (Row at ys)) (cut xs ys (o + 4) at (omega arith)) $ split ! $ move ! (2 ∷ 0 ∷ []) $ fjoin ! $ done !

  glue : (xs ys : List (Option ℕ)) (o at : ℕ) → at ≡ length xs * 4 + o → ent 𝓤 (sep 𝓤 (sem 𝓛 (Row o xs)) (sem 𝓛 (Row at ys))) (sem 𝓛 (Row o (xs ++ ys)))
  glue [] ys o at e = qed 𝓛 (‵ ftrue ∷ ‵ (Row at ys) ∷ []) ∵ skip ! $ rewrite ! 0 (λ (k : ℕ). ‵ (Row k ys)) {x = o} (omega arith) refl $ done !
  glue (x ∷ xs) ys o at e = qed 𝓛 (‵ (Row o (x ∷ xs)) ∷ ‵ (Row at ys) ∷ []) ∵ fsplit ! $ move ! (1 ∷ 2 ∷ []) $
      use2 𝓛 (‵ (Row (o + 4) (xs ++ ys))) (glue xs ys (o + 4) at (omega arith)) $ move ! (1 ∷ 0 ∷ []) $ fjoin ! $ done !

  module _ (o : ℕ) (cs : List (Option ℕ)) (i : ℕ) where
    -- the cells but for the i-th
    abbrev pub Besides : Fml
    Besides = fsep (Row o (take i cs)) (Row (i * 4 + o + 4) (drop (suc i) cs))

    before : i ≤ length cs → i * 4 + o ≡ length (take i cs) * 4 + o
    before le = let long : i ≡ length (take i cs) = omega (arith, length-take i cs) in ap (λ k. k * 4 + o) long

    pub slot_out : i < length cs → ent 𝓤 (sem 𝓛 (Row o cs)) (sep 𝓤 (sem 𝓛 (slot b (i * 4 + o) (get_or cs i None))) (sem 𝓛 Besides))
    slot_out lt = qed 𝓛 (‵ (Row o cs) ∷ []) ∵
        rewrite ! 0 (λ (l : List (Option ℕ)). ‵ (Row o l)) (sym (take-append-drop i cs) ∙ ap (λ l. take i cs ++ l) (drop-cons cs i None lt)) refl $
        use1 𝓛 (‵ (Row o (take i cs)) ⊛ ‵ (Row (i * 4 + o) (get_or cs i None ∷ drop (suc i) cs))) (cut (take i cs) (get_or cs i None ∷ drop (suc i) cs) o (i * 4 + o) (before (omega arith))) $
        split ! $ move ! (1 ∷ []) $ fsplit ! $ move ! (2 ∷ 1 ∷ []) $ fjoin ! $ move ! (1 ∷ []) $ done !

    pub slot_in : i < length cs → (c : Option ℕ) → ent 𝓤 (sep 𝓤 (sem 𝓛 (slot b (i * 4 + o) c)) (sem 𝓛 Besides)) (sem 𝓛 (Row o (set cs i c)))
    slot_in lt c = qed 𝓛 (‵ (slot b (i * 4 + o) c) ∷ ‵ Besides ∷ []) ∵ move ! (1 ∷ []) $ fsplit ! $ move ! (2 ∷ 1 ∷ []) $ fjoin ! $ move ! (1 ∷ 0 ∷ []) $
        use2 𝓛 (‵ (Row o (take i cs ++ c ∷ drop (suc i) cs))) (glue (take i cs) (c ∷ drop (suc i) cs) o (i * 4 + o) (before (omega arith))) $
        rewrite ! 0 (λ (l : List (Option ℕ)). ‵ (Row o l)) (sym (set_split cs i c lt)) refl $ done !

  pub emptied : (o : ℕ) (c : Option ℕ) → ent 𝓤 (sem 𝓛 (slot b o c)) (H.room (ty_int w32) b o)
  emptied o (Some x) = qed 𝓛 (‵ (slot b o (Some x)) ∷ []) ∵ use1 𝓛 (‵ (fat full_share (ty_int w32) b o (vint w32 x))) (uint_out 𝓛 full_share w32 x b o) $ by ! (𝓛.laws.at_room (ty_int w32) b o (vint w32 x))
  emptied o None = 𝓛.laws.raw-room (ty_int w32) b o

  pub of_room : (n o : ℕ) → ent 𝓤 (H.room (ty_array (ty_int w32) n) b o) (sem 𝓛 (Row o (replicate n None)))
  of_room zero o = qed 𝓛 (‵ (froom (ty_array (ty_int w32) 0) b o) ∷ []) ∵ keep ! [] $ done !
  of_room (suc n) o = qed 𝓛 (‵ (froom (ty_array (ty_int w32) (suc n)) b o) ∷ []) ∵
      use1 𝓛 (‵ (froom (ty_int w32) b o) ⊛ ‵ (froom (ty_array (ty_int w32) n) b (o + 4))) (𝓛.laws.room_uncons (ty_int w32) n b o) $ split ! $
      use1 𝓛 (‵ (slot b o None)) (𝓛.laws.room-raw (ty_int w32) b o) $ frame ! $ by ! (of_room n (o + 4))

  pub to_room : (cs : List (Option ℕ)) (o : ℕ) → ent 𝓤 (sem 𝓛 (Row o cs)) (H.room (ty_array (ty_int w32) (length cs)) b o)
  to_room [] o = 𝓛.laws.room_nil (ty_int w32) b o
  to_room (c ∷ cs) o = qed 𝓛 (‵ (slot b o c) ∷ ‵ (Row (o + 4) cs) ∷ []) ∵
      use1 𝓛 (‵ (froom (ty_int w32) b o)) (emptied o c) $ move ! (1 ∷ []) $
      use1 𝓛 (‵ (froom (ty_array (ty_int w32) (length cs)) b (o + 4))) (to_room cs (o + 4)) $ move ! (1 ∷ []) $ by ! (𝓛.laws.room_cons (ty_int w32) (length cs) b o)

  module _ (κ : Lft) where
    abbrev Seen : ℕ → List (Option ℕ) → Fml
    Seen o cs = slots_lent b o cs κ

    from_on : (cs : List (Option ℕ)) (i o at : ℕ) → i ≤ length cs → at ≡ i * 4 + o → ent 𝓤 (sem 𝓛 (Seen o cs)) (sem 𝓛 (Seen at (drop i cs)))
    from_on cs zero o at le e = let same : o ≡ at = omega arith in subst (λ k. ent 𝓤 (sem 𝓛 (Seen o cs)) (sem 𝓛 (Seen k cs))) same (id⊢ 𝓤 _)
    from_on [] (suc i) o at le e = absurd (omega arith)
    from_on (c ∷ cs) (suc i) o at le e =
        via 𝓤 (sem 𝓛 (Seen (o + 4) cs)) (snd∗ 𝓤 (sem 𝓛 (slot_lent b o c κ)) (sem 𝓛 (Seen (o + 4) cs))) (from_on cs i (o + 4) at (omega arith) (omega arith))

    pub slot_seen : (o : ℕ) (cs : List (Option ℕ)) (i : ℕ) → i < length cs → ent 𝓤 (sem 𝓛 (Seen o cs)) (sem 𝓛 (slot_lent b (i * 4 + o) (get_or cs i None) κ))
    slot_seen o cs i lt = qed 𝓛 (‵ (Seen o cs) ∷ []) ∵ use1 𝓛 (‵ (Seen (i * 4 + o) (drop i cs))) (from_on cs i o (i * 4 + o) (omega arith) refl) $
        rewrite ! 0 (λ (l : List (Option ℕ)). ‵ (Seen (i * 4 + o) l)) (drop-cons cs i None lt) refl $ fsplit ! $ keep ! (0 ∷ []) $ done !

    pub all_seen : (xs : List ℕ) (o : ℕ) → ent 𝓤 (sem 𝓛 (Seen o (map Some xs))) (sem 𝓛 (elements_shared u32 xs b o κ))
    all_seen [] o = qed 𝓛 (‵ (Seen o []) ∷ []) ∵ keep ! [] $ done !
    all_seen (x ∷ xs) o = mono_r 𝓤 (sem 𝓛 (slot_lent b o (Some x) κ)) (all_seen xs (o + 4))
