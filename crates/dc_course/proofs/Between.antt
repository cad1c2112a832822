-- What is told at the beginning and at the end of a part of a run is told between.
use Rattle.std.proofs.Common.{◌≡◌, ◌≤◌, ◌<◌, ◌+◌, ◌-◌, ◌^◌, ◌∙◌, ℕ, List, Option, Some, ap, arith, length, slice_get, subst, sym}
use Rattle.dc_checkpoint.specs.declared.checkpoint.Checkpoint as checkpoint
use Rattle.dc_model.specs.declared.entry.Entry.{Entry}
use Rattle.dc_model.specs.declared.mark.Mark.{Mark}
use Rattle.dc_recovery.proofs.Follows.{get_drop}
use Rattle.dc_recovery.specs.Core.{Core}
use Rattle.dc_processes.specs.Stages.{IsTold, KeepsTelling, Stage}
use Rattle.dc_world.specs.declared.faults.TurnFault.{TurnFault}
use Rattle.dc_course.specs.Headline.{Setting, IsCountedOn}
use Rattle.dc_course.specs.Running.{HasCome, IsRest, Moment, RunsOff, RunsOn, StepsOff, StepsOn}

-- an entry of the rest of a schedule, by its turn
pub entry_at : (setting : Setting) (entries : List Entry) (i : ℕ) (entry : Entry) → IsRest setting entries → slice_get entries i ≡ Some entry → slice_get setting.schedule (setting.from + i) ≡ Some entry
entry_at setting entries i entry is at = sym (get_drop setting.schedule setting.from i) ∙ ap (λ es. slice_get es i) is ∙ at

-- counts of a device never fall
abbrev pub Later : {C D : Type 0} → checkpoint.Ghosts C D → D → D → Type 0
Later g old new = (p : ℕ) → (g.stops old p ≤ g.stops new p) × (g.faults old p ≤ g.faults new p)

module _ {C D : Type 0} (g : checkpoint.Ghosts C D) where
  -- in two parts
  pub later_on : (old mid new : D) → Later g old mid → Later g mid new → Later g old new
  later_on old mid new first then p = let a = first p in let b = then p in (omega (arith, a.0, b.0), omega (arith, a.1, b.1))

  -- what is told on twice
  pub tells_on : (old mid new : D) (p : ℕ) → KeepsTelling g old mid p → Later g mid new → KeepsTelling g mid new p → KeepsTelling g old new p
  tells_on old mid new p first later then stops faults told = let l = later p in then stops faults (first (omega (arith, l.0, stops)) (omega (arith, l.1, faults)) told)

  module _ (start mid new : Stage C D) (long : length mid.slots ≡ length start.slots) (same : length new.slots ≡ length mid.slots)
      (tells : (p : ℕ) → KeepsTelling g start.dev mid.dev p) (later : Later g mid.dev new.dev) where
    -- it is told between
    told_between : IsTold g start → IsTold g new → IsTold g mid
    told_between told still = record {
      told = λ p less. tells p (below p less).0 (below p less).1 (told.told p (subst (λ n. p < n) long less));
      stops = λ p less. (below p less).0;
      faults = λ p less. (below p less).1;
    }
      where
        -- its counts are below their last values
        below : (p : ℕ) → p < length mid.slots → (g.stops mid.dev p < 2 ^ 64 - 1) × (g.faults mid.dev p < 2 ^ 64 - 1)
        below p less = let there = subst (λ n. p < n) (sym same) less in let l = later p in let s = still.stops p there in let f = still.faults p there in (omega (arith, l.0, s), omega (arith, l.1, f))

  module _ (start mid new : Moment C D) (long : length mid.stage.slots ≡ length start.stage.slots) (same : length new.stage.slots ≡ length mid.stage.slots)
      (tells : (p : ℕ) → KeepsTelling g start.stage.dev mid.stage.dev p) (later : Later g mid.stage.dev new.stage.dev) where
    -- what tells at its end tells at a moment between
    pub come_between : (setting : Setting) (begun : Core) (first : Option (List ℕ)) → HasCome g setting begun first start new → HasCome g setting begun first start mid
    come_between setting begun first come = record { can = come.can; told = come.told; tells = told_between start.stage mid.stage new.stage long same tells later come.told come.tells; running = come.running }

    module _ (entries : List Entry) (runs : RunsOn g entries start mid) where
      -- and has come there
      pub come_on : (setting : Setting) (begun : Core) (first : Option (List ℕ)) → HasCome g setting begun first start new → IsRest setting entries → HasCome g setting begun first mid new
      come_on setting begun first come is = let between = come_between setting begun first come in record { can = come.can; told = between.tells; tells = come.tells; running = runs setting begun first between is }

      module _ (entry : Entry) (at : slice_get entries (length mid.marks) ≡ Some entry) where
        -- an entry more
        pub runs_more : StepsOn g entry mid new → RunsOn g entries start new
        runs_more steps setting begun first come is = steps setting begun first (come_on setting begun first come is) (entry_at setting entries (length mid.marks) entry is at)

        -- or the last
        pub runs_off : (fault : TurnFault) → StepsOff g entry fault mid new → RunsOff g entries fault start new
        runs_off fault steps setting begun first come is = steps setting begun first (come_on setting begun first come is) (entry_at setting entries (length mid.marks) entry is at)

-- the stops of two parts
pub counted_twice : (setting : Setting) (p : ℕ) (first mid last : List Mark) (a b c : ℕ → ℕ) → IsCountedOn setting p first mid a b → IsCountedOn setting p mid last b c → IsCountedOn setting p first last a c
counted_twice setting p first mid last a b c one two = omega (arith, one, two)
