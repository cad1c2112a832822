-- `allocate` cuts the new block into empty cells, and keeps the right to free it. Assumes `Logic`.
use mathlib.Core.Path.{◌≡◌, refl, sym, subst}
use mathlib.Core.Bool.{true, false}
use Prim.Native.Nat.{ℕ, ◌*◌, ◌<◌, ◌^◌}
use native.Mathlib.Omega.{arith}
use mathlib.Core.List.{List, [], ◌∷◌, ◌++◌}
use lib.Dec.{lit<}
use lib.ListN.{length, replicate, length-replicate}
use seplogic.Ra.Ura.{Ura}
use mir.Syntax.{Fn, Body, named, ty_array, ty_int, w32, w64}
use mir.MapTy.{inst_fn}
use mir.Val.{Val, vptr, vint, vstruct, vcons, vnil}
use base.Logic.{SProp, ent}
use base.Fml.{Lft, Share, Incl-trans, ftrue, flft}
use prog.Memory.{Memory}
use prog.Routine.{Routine}
use prog.Wp.{Env, Calls, Loops, Wp, WpFn, Tables, after_seq, at_return}
use types.Logic.{Logic}
use contract.Monad.{Fun}
use contract.Running.{tables, tables_of}
use contract.BorrowLft.{◌⊑◌}
use sound.WpLaws.{FmC, fm_of, WpFn-mono}
use types.Kit.{Item, Post as After, any_q, ⋆, ‵, raw, ◌⊛◌, later, await, at_ret, ◌$◌, ◌∵◌, !, qed, by, move, keep, use0, use1, use2, use3, split, join, fsplit, fsplit3, fjoin, feq_l, flt_l, flt_i, suffices, frame, done}
use types.Match.{live, vrt, in_variant}
use types.Part.{whole, agg}
use types.Run.{bin, stop, fld, lit, of_opd, and_then, no_more, first, exec, returns, enter, switches_on}
use types.ByLocal.{alloc_all, pass_all, free_all, look_at, get, get_in, get_tag, lands_as, sets, sets_last, env}
use denote.Builtin.{RefOf, usize}
use denote.Exit.{yes}
use denote.Laws.{Is}
use denote.RattleType.{RattleType, owns}
use denote.Memory.{hidden_shr}
use denote.Param.{layout}
use denote.RawPtr.{Ptr, block_ptr}
use denote.Ref.{Bor, ShrRef}
use denote.Signature.{plain}
use denote.Steps.{nothing, owned}
use denote.Struct.Struct.{Struct, Struct-Makes}
use denote.Struct.Declared as Declared
use denote.Struct.Tuple.{Tuple}
use denote.Triple.Call.{calls_at}
use denote.Triple.Clauses.{Clauses, Ended, closing}
use denote.Triple.Entry.{on_entry}
use denote.Triple.Spec.{Meets, triple_of}
use denote.Triple.Statement.{Triple}
use denote.Triple.Table.{entered}
use denote.Triple.Walked.{says, Stays, stay_dropped, walk_of, ends_at, Goes-dropped, walk_Meets}
use Rattle.std.specs.Prelude.{None, IfOk, Ok, Err}
use Rattle.std.specs.contracts.result.Result as RS
use Rattle.std.specs.contracts.alloc.AllocError as AE
use Rattle.std.proofs.alloc.Calls.{Al, Answer-typed, takes_key, Takes, at_takes, Answered, Takes-goes, Takes-gives, answers}
use Rattle.std.proofs.VecSteps.Shapes.{after, head, arm_body}
use Rattle.std.proofs.RawLayout.{as_written}
use Rattle.std.proofs.RcSteps.{Good, word, word-Good, first_Good}
use Rattle.std.proofs.ResultValues.{ok_of, err_of}
use Rattle.dc_region.specs.Ownership.{slots}
use Rattle.dc_region.proofs.Memory.{Wr, Bs, Mark, mark, mark_made, base_made, three_val, three_of, of_room, block_ty, block_size, block_align, args, P, needs_both}
use Rattle.dc_region.specs.contracts.block.Deed as D-type
use Rattle.dc_region.specs.contracts.block.allocate as F
use Rattle.dc_region.specs.contracts.block.allocate.Key.{name as #self}
use Rattle.dc_region.proofs.block.allocate.Statement as stated
use Rattle.dc_region.proofs.block.allocate.Code as code

module _ (Z : Al) where
  abbrev function : Fn
  function = inst_fn (args Z) code.function

  abbrev ended : Ended
  ended = F.ended Z.row Z.g Z.d Z.drops

  abbrev clauses : {M : Type 1} {𝓤 : Ura M} (𝓛 : Logic 𝓤) → (Memory → SProp 𝓤) → (Routine → Fun 𝓤) → Clauses 𝓤 ended
  clauses 𝓛 = F.clauses Z.row Z.g Z.d Z.drops 𝓛

  abbrev Dd : RattleType
  Dd = D-type.the_row (P Z) Z.g

  abbrev stayed : Stays ended.signature.params ended.kept
  stayed = (stay_dropped (RefOf (0 ∷ []) tt (plain (λ _. P Z)) (λ _. tt)) yes, (stay_dropped (plain (λ _. usize)) yes, tt))

  abbrev Three : RattleType
  Three = Tuple (Bs ∷ Wr ∷ Dd ∷ [])

  abbrev Out : RattleType
  Out = RS.the_row Three AE.the_row

module _ (Z : Al) {M : Type 1} {𝓤 : Ura M} (𝓛 : Logic 𝓤) (at_mem : Memory → SProp 𝓤) (run : Routine → Fun 𝓤) (C : Calls 𝓤 𝓛.H) (Λ : Loops 𝓤 𝓛.H) (fm : FmC 𝓤 𝓛.H 𝓛.laws C)
    (callee : Triple 𝓤 (C (takes_key Z)) (Takes Z 𝓛 at_mem run)) (κ κ₁ : Lft) (q q₁ : Share) (short : κ ⊑ κ₁) (within : κ₁ ⊑ Z.row.lives) (rb ro : ℕ) (a : Z.row.Denot) (len : ℕ) (us0 us1 : List Val) where
  open 𝓛 use {H, A}

  abbrev self : Bor Z.row.Denot
  self = record { ref_ptr = (rb, ro); now = a }

  abbrev others : Item 𝓤
  others = ‵ (flft κ₁ q₁) ⊛ ‵ ftrue

  abbrev bound : (walk_of 𝓛 (ended Z) (stayed Z) (clauses Z 𝓛 at_mem run)).Ghost
  bound = (((κ, (κ₁, tt)), (q, (q₁, tt)), (short, tt), (self, (len, tt)), (us0, (us1, tt))), tt)

  abbrev Post : Val → SProp 𝓤
  Post = (walk_of 𝓛 (ended Z) (stayed Z) (clauses Z 𝓛 at_mem run)).post bound

  exits : (r : (Out Z).Denot) (v : Val) → IfOk r (λ t. (t.1.at ≡ t.0.ptr) × (t.1.slots ≡ replicate len None) × (t.2.at ≡ t.0.ptr) × (t.2.len ≡ len) × (t.2.alloc ≡ a))
      → ent 𝓤 (⋆ 𝓛 (‵ ((Out Z).own_val r (v ∷ [])) ∷ ‵ (flft κ q) ∷ others ∷ [])) (Post v)
  exits r v g =
      qed 𝓛 (‵ ((Out Z).own_val r (v ∷ [])) ∷ ‵ (flft κ q) ∷ others ∷ []) ∵
      suffices ! _ (ends_at 𝓛 (ended Z) (stayed Z) (clauses Z 𝓛 at_mem run) bound v r (tt, (tt, tt)) (tt, (tt, tt))) $ says ! g $
      move ! (1 ∷ 2 ∷ []) $ join ! $ frame ! $ nothing ! $ nothing ! $ fjoin ! $ nothing ! $ fjoin ! $ done !

  abbrev Had : List (Item 𝓤)
  Had = ‵ (hidden_shr (P Z) κ a rb ro) ∷ ‵ (flft κ q) ∷ others ∷ []

  walk : len * 4 < 2 ^ 63 → len < 2 ^ 64 → ent 𝓤 (⋆ 𝓛 Had) (WpFn 𝓤 H C Λ (function Z) (vptr rb ro ∷ vint w64 len ∷ []) Post)
  walk small fits =
      let bytes : len * 4 < 2 ^ 64 = omega arith in
      qed 𝓛 Had ∵ enter ! C Λ (function Z) (vptr rb ro ∷ vint w64 len ∷ []) _ $ alloc_all ! (λ l. pass_all ! refl ((tt, tt), ((tt, record { fits = fits }), tt)) $
      let En : Env 𝓤 H = env (function Z).locals l in
      let both : Body = head (after 2 (function Z).body) in
      let Then : After 𝓤 H = any_q (after_seq 𝓤 H (Wp 𝓤 H C Λ En (after 3 (function Z).body) (at_return 𝓤 H En Post)) (at_return 𝓤 H En Post)) in
      let y : (Takes Z 𝓛 at_mem run).Ghost = at_takes Z 𝓛 at_mem run κ q (rb, ro) a (len * 4) 4 (block_ty len) in
      sets ! (bin ! (get ! refl) (lit ! tt) (record { fits = bytes })) refl (tt, record { fits = bytes }) $
      use2 𝓛 (raw ((Takes Z 𝓛 at_mem run).pre y)) (Takes-goes Z 𝓛 at_mem run κ q (rb, ro) a (Incl-trans short within) (len * 4) 4 (block_ty len) (block_size len bytes) (block_align len) bytes (lit< tt)) $
      calls_at ! fm (Takes Z 𝓛 at_mem run) callee y (and_then ! (get ! refl) (and_then ! (get ! refl) (and_then ! (lit ! tt) (no_more !)))) (λ v.
      use1 𝓛 (later (raw (Answered Z 𝓛 at_mem run a (block_ty len) v) ⊛ ‵ (flft κ q))) (Takes-gives Z 𝓛 at_mem run κ q (rb, ro) a (len * 4) 4 (block_ty len) v) $ await ! tt $ split ! $
      answers Z ! at_mem run a (block_ty len) v
      (λ b o e.
      let p : Ptr = block_ptr b o in
      let base : Bs.Denot = record { ptr = p } in
      let words : Wr.Denot = record { mark = record {}; at = p; slots = replicate len None } in
      let deed : (Dd Z).Denot = record { mark = record {}; at = p; len = len; alloc = a } in
      let made : Val = three_val (word p) mark mark in
      let typed : Good (layout (Three Z)) made = (tt, ((tt, tt), ((tt, tt), ((tt, tt), tt)))) in
      let ok = first_Good (layout (Three Z)) made typed in
      lands_as ! e refl (Answer-typed true b o) $ first ! $ switches_on ! (get_tag ! (vrt ! refl (fld ! refl (stop !))) (whole !)) $ exec ! C Λ En (arm_body 0 both) Then $
      sets ! (of_opd ! (get_in ! (vrt ! refl (fld ! refl (stop !))) (in_variant ! 0 0 refl refl (whole !)))) refl (tt, tt) $ sets ! (of_opd ! (get ! refl)) refl (tt, tt) $
      sets ! (agg ! (and_then ! (get ! refl) (no_more !))) refl (word-Good [] p) $
      sets ! (agg ! (no_more !)) refl (tt, tt) $ sets ! (agg ! (and_then ! (get ! refl) (no_more !))) refl (tt, (tt, tt)) $
      sets ! (agg ! (no_more !)) refl (tt, tt) $ sets ! (agg ! (and_then ! (get ! refl) (no_more !))) refl (tt, (tt, tt)) $
      sets ! (agg ! (and_then ! (get ! refl) (and_then ! (get ! refl) (and_then ! (get ! refl) (no_more !))))) refl typed $
      sets_last ! (agg ! (and_then ! (lit ! tt) (and_then ! (get ! refl) (no_more !)))) refl ok $
      exec ! C Λ En (after 3 (function Z).body) (at_ret En Post) $ sets ! (of_opd ! (get ! refl)) refl ok $
      move ! (1 ∷ []) $ use0 𝓛 (‵ (Mark.own_val (tt, tt) (mark ∷ []))) (mark_made 𝓛) $ fjoin ! $ move ! (1 ∷ []) $
      as_written ! (ty_array (ty_int w32) len) b o $ use1 𝓛 (‵ (slots b o words.slots)) (of_room 𝓛 b len o) $
      flt_i ! (length words.slots * 4) (2 ^ 63) (subst (λ k. k * 4 < 2 ^ 63) (sym (length-replicate len None)) small) $ fjoin ! $
      use0 𝓛 (‵ (Mark.own_val (tt, tt) (mark ∷ []))) (mark_made 𝓛) $ fjoin ! $ base_made ! p $
      use3 𝓛 (‵ ((Three Z).own_val (base, words, deed) (made ∷ []))) (three_of 𝓛 Bs Wr (Dd Z) base words deed (word p) mark mark) $
      use1 𝓛 (‵ ((Out Z).own_val (Ok (base, words, deed)) (live 0 (vcons made vnil) ∷ []))) (ok_of 𝓛 (Three Z) AE.the_row (base, words, deed) made) $
      returns ! (look_at ! 0 refl) $ free_all ! refl $ keep ! (0 ∷ 1 ∷ 2 ∷ []) $ by ! (exits (Ok (base, words, deed)) (live 0 (vcons made vnil)) (refl, refl, refl, refl, refl)))
      (λ e.
      let Refusal : RattleType = Struct (Declared.shape AE.the_type) in
      let none : Val = live 1 (vcons (vstruct vnil) vnil) in
      lands_as ! e refl (Answer-typed false 0 0) $ first ! $ switches_on ! (get_tag ! (vrt ! refl (fld ! refl (stop !))) (whole !)) $ exec ! C Λ En (arm_body 1 both) Then $
      sets ! (of_opd ! (get_in ! (vrt ! refl (fld ! refl (stop !))) (in_variant ! 1 0 refl refl (whole !)))) refl (tt, tt) $
      sets_last ! (agg ! (and_then ! (lit ! tt) (and_then ! (get ! refl) (no_more !)))) refl (tt, (record { fits = lit< tt }, (tt, tt))) $
      exec ! C Λ En (after 3 (function Z).body) (at_ret En Post) $ sets ! (of_opd ! (get ! refl)) refl (tt, (record { fits = lit< tt }, (tt, tt))) $
      owned ! Refusal (Is Refusal) (Struct-Makes 𝓛 (Declared.shape AE.the_type) tt) tt (vstruct vnil ∷ []) (tt, (refl, tt)) $
      use1 𝓛 (‵ ((Out Z).own_val (Err (record {})) (none ∷ []))) (err_of 𝓛 (Three Z) AE.the_row (record {}) (vstruct vnil)) $
      returns ! (look_at ! 0 refl) $ free_all ! refl $ keep ! (0 ∷ 1 ∷ 2 ∷ []) $ by ! (exits (Err (record {})) none tt))))

  entry : len * 4 < 2 ^ 63 → ent 𝓤 (on_entry 𝓛 (ended Z).signature (κ, (κ₁, tt)) (q, (q₁, tt)) (self, (len, tt)) (us0, (us1, tt))) (WpFn 𝓤 H C Λ (function Z) (us0 ++ (us1 ++ [])) Post)
  entry small =
      qed 𝓛 ((‵ (flft κ q) ⊛ others) ∷ ‵ (owns (ShrRef (named 0) κ (P Z) ∷ usize ∷ []) (self, (len, tt)) (us0, (us1, tt))) ∷ []) ∵ split ! $ move ! (2 ∷ []) $ fsplit3 ! $ fsplit ! $ feq_l ! (λ e0.
      move ! (1 ∷ []) $ fsplit ! $ feq_l ! (λ e1. flt_l ! (λ fits. keep ! (0 ∷ 2 ∷ 3 ∷ []) $
      by ! (subst (λ (ws : List Val × List Val). ent 𝓤 (⋆ 𝓛 Had) (WpFn 𝓤 H C Λ (function Z) (ws.0 ++ (ws.1 ++ [])) Post)) (λ j. (sym e0 j, sym e1 j)) (walk small fits)))))

meets : (Z : Al) {M : Type 1} {𝓤 : Ura M} (𝓛 : Logic 𝓤) (at_mem : Memory → SProp 𝓤) (run : Routine → Fun 𝓤) (𝓣 : Tables 𝓤 𝓛.H) → Triple 𝓤 (𝓣.C (takes_key Z)) (Takes Z 𝓛 at_mem run)
    → Meets 𝓛 (ended Z).signature (WpFn 𝓤 𝓛.H 𝓣.C 𝓣.Λ (function Z)) (closing 𝓛 (ended Z) (clauses Z 𝓛 at_mem run))
meets Z {𝓤 = 𝓤} 𝓛 at_mem run 𝓣 callee =
    walk_Meets 𝓛 (ended Z) (stayed Z) (Goes-dropped 𝓛 2 (RefOf (0 ∷ []) tt (plain (λ _. P Z)) (λ _. tt)) yes (λ κs x f. refl), (Goes-dropped 𝓛 2 (plain (λ _. usize)) yes (λ κs x f. refl), tt))
    (clauses Z 𝓛 at_mem run) (WpFn 𝓤 𝓛.H 𝓣.C 𝓣.Λ (function Z)) (WpFn-mono 𝓤 𝓛.H 𝓛.laws 𝓣 (function Z))
    (λ z. let κs = z.0.0 in let qs = z.0.1 in let a = z.0.3 in let vss = z.0.4 in
    needs_both 𝓛 (κs.1.0 ⊑ Z.row.lives) (a.1.0 * 4 < 2 ^ 63) (on_entry 𝓛 (ended Z).signature κs qs a vss) (λ within.
    entry Z 𝓛 at_mem run 𝓣.C 𝓣.Λ (fm_of 𝓤 𝓛.H 𝓛.laws 𝓣) callee κs.0 κs.1.0 qs.0 qs.1.0 z.0.2.0 within a.0.ref_ptr.0 a.0.ref_ptr.1 a.0.now a.1.0 vss.0 vss.1.0))

pub allocate_spec : {M : Type 1} → stated.statement M
unfolding tables_of
allocate_spec 𝓤 𝓛 𝓜 𝓡 wired W LW g d dd met md =
    let Z : Al = record { row = W; laws = LW; g = g; d = d; drops = dd } in
    let 𝓣 : Tables 𝓤 𝓛.H = tables_of 𝓤 𝓛.H 𝓜 (tables 𝓤 𝓛.H 𝓜 𝓡 𝓡.env) in
    entered 𝓤 𝓛.H (triple_of 𝓛 (ended Z).signature (F.spec W g d dd 𝓛 𝓜.mem 𝓡.returns)) 𝓣.C 𝓣.Λ (#self (args Z)) (function Z) (code.unfolded 𝓤 𝓛.H 𝓜 𝓡 wired (W, tt) d dd)
    (meets Z 𝓛 𝓜.mem 𝓡.returns 𝓣 (met.allocate dd))
