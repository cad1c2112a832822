-- `all` shows the words that the cells lend. Assumes `Logic`.
use mathlib.Core.Path.{◌≡◌, refl, sym, ap, subst, ◌∙◌}
use Prim.Native.Nat.{ℕ, ◌*◌, ◌<◌, ◌^◌}
use native.Mathlib.Omega.{arith}
use mathlib.Core.List.{List, [], ◌∷◌, ◌++◌, map}
use lib.ListN.{length, length-map}
use seplogic.Ra.Ura.{Ura}
use base.Fraction.{full_share}
use mir.Syntax.{named, w64}
use mir.Val.{Val, vptr, vint}
use base.Logic.{SProp, ent, never, id⊢}
use base.Fml.{Lft, Share, ftrue, fat, flft}
use prog.Memory.{Memory}
use prog.Routine.{Routine}
use prog.Wp.{Env, Calls, Loops, WpFn, Tables}
use types.Logic.{Logic}
use contract.Monad.{Fun}
use contract.Running.{tables, tables_of}
use sound.WpLaws.{WpFn-mono}
use types.Kit.{Item, ⋆, ‵, ◌⊛◌, at_ret, ◌$◌, ◌∵◌, !, qed, by, move, keep, drop, use1, split, join, rewrite, fsplit, fjoin, feq_i, feq_l, flt_l, flt_i, suffices, frame, done}
use types.Part.{whole, sub, agg}
use types.Run.{and_then, no_more, stop, fld, of_opd, first, blocks, exec, returns, enter}
use types.ByLocal.{alloc_all, pass_all, free_all, look_at, get, get_in, sets, sets_last, take_at, give_at, env}
use denote.Builtin.{RefOf, usize, u32}
use denote.Exit.{yes}
use denote.RattleType.{owns}
use denote.Memory.{hidden_shr}
use denote.Param.{layout}
use denote.RawPtr.{Ptr, in_a_block}
use denote.Ref.{Bor, ShrRef}
use denote.Signature.{plain}
use denote.Opens.{hide, unhide}
use denote.Slice.{ShrSlice, slice_val, elements_shared}
use denote.Steps.{nothing}
use denote.Triple.Clauses.{Clauses}
use denote.Triple.Entry.{on_entry}
use denote.Triple.Spec.{Meets, triple_of}
use denote.Triple.Table.{entered}
use denote.Triple.Walked.{says, needs, Stays, stay_dropped, walk_of, ends_at, Goes-dropped, walk_Meets}
use Rattle.std.specs.Prelude.{Option, Some}
use Rattle.std.proofs.VecSteps.Shapes.{after}
use Rattle.std.proofs.RcSteps.{word, word-Good}
use Rattle.dc_region.specs.Cells.{AreFilled}
use Rattle.dc_region.specs.Ownership.{words_lent}
use Rattle.dc_region.proofs.Memory.{Wr, Bs, base_had, all_seen}
use Rattle.dc_region.specs.contracts.block.Words.all as F
use Rattle.dc_region.specs.contracts.block.Words.all.Key.{name as #self}
use Rattle.dc_region.proofs.block.Words.all.Statement as stated
use Rattle.dc_region.proofs.block.Words.all.Code as code

abbrev stayed : Stays F.ended.signature.params F.ended.kept
stayed = (stay_dropped (RefOf (0 ∷ []) tt (plain (λ _. Wr)) (λ _. tt)) yes, (stay_dropped (plain (λ _. Bs)) yes, (stay_dropped (plain (λ _. usize)) yes, tt)))

abbrev Asks : Wr.Denot → Bs.Denot → ℕ → Type 0
Asks d base len = (base.ptr ≡ d.at) × AreFilled d.slots len

module _ {M : Type 1} {𝓤 : Ura M} (𝓛 : Logic 𝓤) (at_mem : Memory → SProp 𝓤) (run : Routine → Fun 𝓤) where
  open 𝓛 use {H}

  abbrev clauses : Clauses 𝓤 F.ended
  clauses = F.clauses 𝓛 at_mem run

  module _ (C : Calls 𝓤 H) (Λ : Loops 𝓤 H) (κ : Lft) (q : Share) (rb ro : ℕ) (d : Wr.Denot) (base : Bs.Denot) (len : ℕ) (us0 us1 us2 : List Val) where
    abbrev self : Bor Wr.Denot
    self = record { ref_ptr = (rb, ro); now = d }

    abbrev bound : (walk_of 𝓛 F.ended stayed clauses).Ghost
    bound = (((κ, tt), (q, tt), tt, (self, (base, (len, tt))), (us0, (us1, (us2, tt)))), tt)

    abbrev Post : Val → SProp 𝓤
    Post = (walk_of 𝓛 F.ended stayed clauses).post bound

    exits : (r : (ShrSlice (named 0) κ u32).Denot) (v : Val) → d.slots ≡ map Some r.now → ent 𝓤 (⋆ 𝓛 (‵ (flft κ q) ∷ ‵ ((ShrSlice (named 0) κ u32).own_val r (v ∷ [])) ∷ [])) (Post v)
    exits r v is =
        qed 𝓛 (‵ (flft κ q) ∷ ‵ ((ShrSlice (named 0) κ u32).own_val r (v ∷ [])) ∷ []) ∵
        suffices ! _ (ends_at 𝓛 F.ended stayed clauses bound v r (tt, (tt, (tt, tt))) (tt, (tt, (tt, tt)))) $ says ! is $
        nothing ! $ move ! (1 ∷ 0 ∷ []) $ join ! $ frame ! $ nothing ! $ nothing ! $ fjoin ! $ nothing ! $ fjoin ! $ nothing ! $ fjoin ! $ done !

    abbrev Had : List (Item 𝓤)
    Had = ‵ (hidden_shr Wr κ d rb ro) ∷ ‵ (flft κ q) ∷ []

    walk : Asks d base len → len < 2 ^ 64 → ent 𝓤 (⋆ 𝓛 Had) (WpFn 𝓤 H C Λ code.function (vptr rb ro ∷ word base.ptr ∷ vint w64 len ∷ []) Post)
    walk asked fits_len =
        let xs = asked.1.0 in let full = asked.1.1 in let long = asked.1.2 in
        qed 𝓛 Had ∵ enter ! C Λ code.function (vptr rb ro ∷ word base.ptr ∷ vint w64 len ∷ []) _ $
        alloc_all ! (λ l. pass_all ! refl ((tt, tt), (word-Good [] base.ptr, ((tt, record { fits = fits_len }), tt))) $
        let En : Env 𝓤 H = env (code.function).locals l in
        unhide ! $ fsplit ! $ drop ! $ rewrite ! 0 (λ (cs : List (Option ℕ)). ‵ (words_lent d.at cs κ)) full refl $
        in_a_block ! d.at (λ p. words_lent p (map Some xs) κ) (id⊢ 𝓤 (never 𝓤)) (λ b o e. fsplit ! $ flt_l ! (λ small.
        take_at ! 2 $ rewrite ! 0 (λ (p : Ptr). ‵ (fat full_share (layout Bs) (l 2) 0 (word p))) (asked.0 ∙ e) refl $ give_at ! 2 $ first ! $ blocks ! $
        use1 𝓛 (‵ (elements_shared u32 xs b o κ)) (all_seen 𝓛 b κ xs o) $ hide ! $
        let at : ℕ × ℕ = (b, o) in
        sets_last ! (agg ! (and_then ! (get_in ! (fld ! refl (stop !)) (sub ! 0 refl (whole !))) (and_then ! (get ! refl) (no_more !)))) refl (tt, (tt, (record { fits = fits_len }, tt))) $
        exec ! C Λ En (after 1 (code.function).body) (at_ret En Post) $ sets ! (of_opd ! (get ! refl)) refl (tt, (tt, (record { fits = fits_len }, tt))) $
        flt_i ! (length xs * 4) (2 ^ 63) (subst (λ n. n * 4 < 2 ^ 63) (length-map xs Some) small) $ flt_i ! (length xs) (2 ^ 64) (omega arith) $ fjoin ! $
        feq_i ! (List Val) (slice_val at len ∷ []) (slice_val at (length xs) ∷ []) (ap (λ k. slice_val at k ∷ []) (sym long)) $ fjoin ! $ fjoin ! $
        returns ! (look_at ! 0 refl) $ free_all ! refl $ keep ! (1 ∷ 0 ∷ []) $ by ! (exits (record { ref_ptr = at; now = xs }) (slice_val at len) full))))

    entry : Asks d base len → ent 𝓤 (on_entry 𝓛 F.signature (κ, tt) (q, tt) (self, (base, (len, tt))) (us0, (us1, (us2, tt)))) (WpFn 𝓤 H C Λ code.function (us0 ++ (us1 ++ (us2 ++ []))) Post)
    entry asked =
        qed 𝓛 ((‵ (flft κ q) ⊛ ‵ ftrue) ∷ ‵ (owns (ShrRef (named 0) κ Wr ∷ Bs ∷ usize ∷ []) (self, (base, (len, tt))) (us0, (us1, (us2, tt)))) ∷ []) ∵
        split ! $ move ! (2 ∷ []) $ fsplit ! $ fsplit ! $ feq_l ! (λ e0.
        move ! (1 ∷ []) $ fsplit ! $ base_had ! base.ptr us1 (λ e1.
        fsplit ! $ fsplit ! $ feq_l ! (λ e2. flt_l ! (λ fits_len.
        keep ! (1 ∷ 2 ∷ []) $
        by ! (subst (λ (ws : List Val × List Val × List Val). ent 𝓤 (⋆ 𝓛 Had) (WpFn 𝓤 H C Λ code.function (ws.0 ++ (ws.1 ++ (ws.2 ++ []))) Post))
        (λ j. (sym e0 j, sym e1 j, sym e2 j)) (walk asked fits_len))))))

  meets : (𝓣 : Tables 𝓤 H) → Meets 𝓛 F.signature (WpFn 𝓤 H 𝓣.C 𝓣.Λ code.function) (F.spec 𝓛 at_mem run)
  meets 𝓣 =
      walk_Meets 𝓛 F.ended stayed
      (Goes-dropped 𝓛 1 (RefOf (0 ∷ []) tt (plain (λ _. Wr)) (λ _. tt)) yes (λ κs x f. refl), (Goes-dropped 𝓛 1 (plain (λ _. Bs)) yes (λ κs x f. refl), (Goes-dropped 𝓛 1 (plain (λ _. usize)) yes (λ κs x f. refl), tt)))
      clauses (WpFn 𝓤 H 𝓣.C 𝓣.Λ code.function) (WpFn-mono 𝓤 H 𝓛.laws 𝓣 code.function)
      (λ z. let a = z.0.3 in let vss = z.0.4 in needs 𝓤 (Asks a.0.now a.1.0 a.1.1.0) _
      (entry 𝓣.C 𝓣.Λ z.0.0.0 z.0.1.0 a.0.ref_ptr.0 a.0.ref_ptr.1 a.0.now a.1.0 a.1.1.0 vss.0 vss.1.0 vss.1.1.0))

pub all_spec : {M : Type 1} → stated.statement M
unfolding tables_of
all_spec 𝓤 𝓛 𝓜 𝓡 wired =
    entered 𝓤 𝓛.H (triple_of 𝓛 F.signature (F.spec 𝓛 𝓜.mem 𝓡.returns))
    (tables 𝓤 𝓛.H 𝓜 𝓡 𝓡.env).C (tables 𝓤 𝓛.H 𝓜 𝓡 𝓡.env).Λ #self code.function (code.unfolded 𝓤 𝓛.H 𝓜 𝓡 wired)
    (meets 𝓛 𝓜.mem 𝓡.returns (tables_of 𝓤 𝓛.H 𝓜 (tables 𝓤 𝓛.H 𝓜 𝓡 𝓡.env)))
