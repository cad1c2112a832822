-- `put` writes one cell, whatever it holds. Assumes `Logic`.
use mathlib.Core.Path.{◌≡◌, refl, sym, subst, ◌∙◌}
use Prim.Native.Nat.{ℕ, ◌+◌, ◌*◌, ◌<◌, ◌^◌}
use native.Mathlib.Omega.{arith}
use mathlib.Core.List.{List, [], ◌∷◌, ◌++◌}
use lib.ListN.{length, set, get_or, length-set}
use seplogic.Ra.Ura.{Ura}
use base.Fraction.{full_share}
use mir.Syntax.{named, ty_int, w32, w64}
use mir.Val.{Val, vptr, vint, vunit}
use base.Logic.{SProp, ent, never, id⊢}
use base.Fml.{Lft, GName, Share, ftrue, fat, froom, flft, fobs, fbor}
use prog.Memory.{Memory}
use prog.Routine.{Routine}
use prog.Wp.{Env, Calls, Loops, WpFn, Tables}
use types.Logic.{Logic}
use contract.Monad.{Fun}
use contract.Running.{tables, tables_of}
use sound.WpLaws.{WpFn-mono}
use types.Kit.{Item, ⋆, ‵, ◌⊛◌, at_ret, ◌$◌, ◌∵◌, !, qed, by, move, keep, use1, use2, split, join, rewrite, fsplit, fsplit3, fjoin, fjoin3, feq_i, feq_l, flt_l, flt_i, suffices, frame, done}
use types.Part.{whole, sub}
use types.Run.{bin, init, lit, stop, fld, unit_lit, of_opd, assigns_last, first, blocks, exec, returns, enter}
use types.ByLocal.{alloc_all, pass_all, free_all, look_at, get, get_in, through, sets, take_at, give_at, env}
use types.SemTy.{Body as Borrowed}
use denote.Builtin.{usize, u32}
use denote.Exit.{yes}
use denote.RattleType.{owns}
use denote.Memory.{mem}
use denote.Param.{layout}
use denote.Plain.{uint_in}
use denote.RawPtr.{Ptr, in_a_block}
use denote.Ref.{MutBor, MutRef}
use denote.Signature.{plain}
use denote.Steps.{nothing, opens, closes}
use denote.Triple.Clauses.{Clauses}
use denote.Triple.Entry.{on_entry}
use denote.Triple.Spec.{Meets, triple_of}
use denote.Triple.Table.{entered}
use denote.Triple.Walked.{says, needs, Stays, stay_dropped, stay_ref, walk_of, ends_at, Goes-dropped, Goes-ref, walk_Meets}
use Rattle.std.specs.Prelude.{Some, None}
use Rattle.std.proofs.VecSteps.Shapes.{after}
use Rattle.std.proofs.RcSteps.{word, word-Good}
use Rattle.dc_region.specs.Ownership.{slot, slots, words_own}
use Rattle.dc_region.proofs.Memory.{Wr, Bs, base_had, emptied, Besides, slot_out, slot_in}
use Rattle.dc_region.specs.contracts.block.Words.put as F
use Rattle.dc_region.specs.contracts.block.Words.put.Key.{name as #self}
use Rattle.dc_region.proofs.block.Words.put.Statement as stated
use Rattle.dc_region.proofs.block.Words.put.Code as code

abbrev stayed : Stays F.ended.signature.params F.ended.kept
stayed = (stay_ref (0 ∷ []) tt (plain (λ _. Wr)), (stay_dropped (plain (λ _. Bs)) yes, (stay_dropped (plain (λ _. usize)) yes, (stay_dropped (plain (λ _. u32)) yes, tt))))

abbrev Asks : Wr.Denot → Bs.Denot → ℕ → Type 0
Asks d base index = (base.ptr ≡ d.at) × (index < length d.slots)

abbrev Gives : Wr.Denot → ℕ → ℕ → Wr.Denot → Type 0
Gives d index x new = (new.at ≡ d.at) × (new.slots ≡ set d.slots index (Some x))

module _ {M : Type 1} {𝓤 : Ura M} (𝓛 : Logic 𝓤) (at_mem : Memory → SProp 𝓤) (run : Routine → Fun 𝓤) where
  open 𝓛 use {H}

  abbrev clauses : Clauses 𝓤 F.ended
  clauses = F.clauses 𝓛 at_mem run

  module _ (C : Calls 𝓤 H) (Λ : Loops 𝓤 H) (κ : Lft) (q : Share) (rb ro : ℕ) (γ : GName) (d : Wr.Denot) (base : Bs.Denot) (index x : ℕ) (us0 us1 us2 us3 : List Val) where
    abbrev self : MutBor Wr.Denot
    self = record { ref_ptr = (rb, ro); ghost_name = γ; now = d }

    abbrev bound : (walk_of 𝓛 F.ended stayed clauses).Ghost
    bound = (((κ, tt), (q, tt), tt, (self, (base, (index, (x, tt)))), (us0, (us1, (us2, (us3, tt))))), tt)

    abbrev Post : Val → SProp 𝓤
    Post = (walk_of 𝓛 F.ended stayed clauses).post bound

    exits : us0 ≡ vptr rb ro ∷ [] → (new : Wr.Denot) → Gives d index x new
        → ent 𝓤 (⋆ 𝓛 (‵ (fobs γ (Wr.coded.code new)) ∷ ‵ (fbor κ (Borrowed (mem Wr) rb ro γ)) ∷ ‵ (flft κ q) ∷ [])) (Post vunit)
    exits given new gives =
        qed 𝓛 (‵ (fobs γ (Wr.coded.code new)) ∷ ‵ (fbor κ (Borrowed (mem Wr) rb ro γ)) ∷ ‵ (flft κ q) ∷ []) ∵
        suffices ! _ (ends_at 𝓛 F.ended stayed clauses bound vunit tt (new, (tt, (tt, (tt, tt)))) (tt, (tt, (tt, (tt, tt))))) $ says ! gives $
        nothing ! $ move ! (3 ∷ 0 ∷ []) $ join ! $ frame ! $ feq_i ! (List Val) us0 (vptr rb ro ∷ []) given $ fjoin3 ! $
        nothing ! $ nothing ! $ fjoin ! $ nothing ! $ fjoin ! $ nothing ! $ fjoin ! $ move ! (1 ∷ 0 ∷ []) $ fjoin ! $
        feq_i ! (List Val) (vunit ∷ []) (vunit ∷ []) refl $ move ! (1 ∷ 0 ∷ []) $ done !

    abbrev Had : List (Item 𝓤)
    Had = ‵ (fobs γ (Wr.coded.code d)) ∷ ‵ (fbor κ (Borrowed (mem Wr) rb ro γ)) ∷ ‵ (flft κ q) ∷ []

    walk : us0 ≡ vptr rb ro ∷ [] → Asks d base index → index < 2 ^ 64 → x < 2 ^ 32 → ent 𝓤 (⋆ 𝓛 Had) (WpFn 𝓤 H C Λ code.function (vptr rb ro ∷ word base.ptr ∷ vint w64 index ∷ vint w32 x ∷ []) Post)
    walk given asked fits_index fits_x =
        let within = asked.1 in
        let new : Wr.Denot = record { mark = d.mark; at = d.at; slots = set d.slots index (Some x) } in
        qed 𝓛 Had ∵ enter ! C Λ code.function (vptr rb ro ∷ word base.ptr ∷ vint w64 index ∷ vint w32 x ∷ []) _ $
        alloc_all ! (λ l. pass_all ! refl ((tt, tt), (word-Good [] base.ptr, ((tt, record { fits = fits_index }), ((tt, record { fits = fits_x }), tt)))) $
        let En : Env 𝓤 H = env (code.function).locals l in
        opens ! tt Wr {h = d} rb ro (λ vs. move ! (1 ∷ []) $ fsplit ! $ move ! (1 ∷ []) $
        in_a_block ! d.at (λ p. words_own p d.slots) (id⊢ 𝓤 (never 𝓤)) (λ b o e. fsplit ! $ flt_l ! (λ small.
        let far : index * 4 < 2 ^ 64 = omega arith in
        take_at ! 2 $ rewrite ! 0 (λ (p : Ptr). ‵ (fat full_share (layout Bs) (l 2) 0 (word p))) (asked.0 ∙ e) refl $ give_at ! 2 $ first ! $ blocks ! $
        sets ! (bin ! (get ! refl) (lit ! tt) (record { fits = far })) refl (tt, record { fits = far }) $
        sets ! (bin ! (get_in ! (fld ! refl (stop !)) (sub ! 0 refl (whole !))) (get ! refl) tt) refl (tt, tt) $
        use1 𝓛 (‵ (slot b (index * 4 + o) (get_or d.slots index None)) ⊛ ‵ (Besides 𝓛 b o d.slots index)) (slot_out 𝓛 b o d.slots index within) $ split ! $
        use1 𝓛 (‵ (froom (ty_int w32) b (index * 4 + o))) (emptied 𝓛 b (index * 4 + o) (get_or d.slots index None)) $
        -- [the room; the other cells; the mark; its cell; the open borrow, in three entries]
        assigns_last ! (of_opd ! (get ! refl)) (through ! refl (stop !)) (init ! 0 refl (tt, record { fits = fits_x })) $
        exec ! C Λ En (after 1 (code.function).body) (at_ret En Post) $ sets ! (of_opd ! (unit_lit !)) refl (tt, tt) $
        use1 𝓛 (‵ (slot b (index * 4 + o) (Some x))) (uint_in 𝓛 full_share w32 x b (index * 4 + o)) $
        use2 𝓛 (‵ (slots b o new.slots)) (slot_in 𝓛 b o d.slots index within (Some x)) $
        flt_i ! (length new.slots * 4) (2 ^ 63) (subst (λ k. k * 4 < 2 ^ 63) (sym (length-set d.slots index (Some x))) small) $ fjoin ! $
        rewrite ! 0 (λ (p : Ptr). ‵ (words_own p new.slots)) (sym e) refl $ move ! (1 ∷ 0 ∷ []) $ fjoin ! $ move ! (1 ∷ 0 ∷ []) $ closes ! tt Wr new vs rb ro $
        returns ! (look_at ! 0 refl) $ free_all ! refl $ keep ! (0 ∷ 1 ∷ 2 ∷ []) $ by ! (exits given new (refl, refl))))))

    entry : Asks d base index → ent 𝓤 (on_entry 𝓛 F.signature (κ, tt) (q, tt) (self, (base, (index, (x, tt)))) (us0, (us1, (us2, (us3, tt))))) (WpFn 𝓤 H C Λ code.function (us0 ++ (us1 ++ (us2 ++ (us3 ++ [])))) Post)
    entry asked =
        qed 𝓛 ((‵ (flft κ q) ⊛ ‵ ftrue) ∷ ‵ (owns (MutRef (named 0) κ Wr ∷ Bs ∷ usize ∷ u32 ∷ []) (self, (base, (index, (x, tt)))) (us0, (us1, (us2, (us3, tt))))) ∷ []) ∵
        split ! $ move ! (2 ∷ []) $ fsplit ! $ fsplit3 ! $ feq_l ! (λ e0.
        move ! (2 ∷ []) $ fsplit ! $ base_had ! base.ptr us1 (λ e1.
        fsplit ! $ fsplit ! $ feq_l ! (λ e2. flt_l ! (λ fits_index.
        fsplit ! $ fsplit ! $ feq_l ! (λ e3. flt_l ! (λ fits_x.
        keep ! (1 ∷ 2 ∷ 3 ∷ []) $
        by ! (subst (λ (ws : List Val × List Val × List Val × List Val). ent 𝓤 (⋆ 𝓛 Had) (WpFn 𝓤 H C Λ code.function (ws.0 ++ (ws.1 ++ (ws.2 ++ (ws.3 ++ [])))) Post))
        (λ j. (sym e0 j, sym e1 j, sym e2 j, sym e3 j)) (walk e0 asked fits_index fits_x))))))))

  meets : (𝓣 : Tables 𝓤 H) → Meets 𝓛 F.signature (WpFn 𝓤 H 𝓣.C 𝓣.Λ code.function) (F.spec 𝓛 at_mem run)
  meets 𝓣 =
      walk_Meets 𝓛 F.ended stayed
      (Goes-ref 𝓛 1 0 tt (plain (λ _. Wr)), (Goes-dropped 𝓛 1 (plain (λ _. Bs)) yes (λ κs x f. refl), (Goes-dropped 𝓛 1 (plain (λ _. usize)) yes (λ κs x f. refl), (Goes-dropped 𝓛 1 (plain (λ _. u32)) yes (λ κs x f. refl), tt))))
      clauses (WpFn 𝓤 H 𝓣.C 𝓣.Λ code.function) (WpFn-mono 𝓤 H 𝓛.laws 𝓣 code.function)
      (λ z. let a = z.0.3 in let vss = z.0.4 in needs 𝓤 (Asks a.0.now a.1.0 a.1.1.0) _
      (entry 𝓣.C 𝓣.Λ z.0.0.0 z.0.1.0 a.0.ref_ptr.0 a.0.ref_ptr.1 a.0.ghost_name a.0.now a.1.0 a.1.1.0 a.1.1.1.0 vss.0 vss.1.0 vss.1.1.0 vss.1.1.1.0))

pub put_spec : {M : Type 1} → stated.statement M
unfolding tables_of
put_spec 𝓤 𝓛 𝓜 𝓡 wired =
    entered 𝓤 𝓛.H (triple_of 𝓛 F.signature (F.spec 𝓛 𝓜.mem 𝓡.returns))
    (tables 𝓤 𝓛.H 𝓜 𝓡 𝓡.env).C (tables 𝓤 𝓛.H 𝓜 𝓡 𝓡.env).Λ #self code.function (code.unfolded 𝓤 𝓛.H 𝓜 𝓡 wired)
    (meets 𝓛 𝓜.mem 𝓡.returns (tables_of 𝓤 𝓛.H 𝓜 (tables 𝓤 𝓛.H 𝓜 𝓡 𝓡.env)))
