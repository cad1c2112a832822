use Rattle.std.proofs.Common.{◌≡◌, ◌≢◌, ◌⊎◌, ◌∙◌, ◌<◌, ◌≤◌, ◌+◌, ◌++◌, ◌∷◌, inr, [], ℕ, All, Err, IfSome, None, Some, ap, arith, false, true, length, refl, reverse, slice_get, subst, sym, take, ⊎_elim}
use Rattle.std.proofs.lemmas.Bool.{cases_Bool}
use Rattle.std.proofs.lemmas.List.{length-append}
use Rattle.std.proofs.lemmas.Option.{slice_get-get_or}
use Rattle.dc_course.proofs.Between.{come_between, come_on, counted_twice, entry_at, later_on, runs_more, runs_off, tells_on}
use Rattle.dc_audit.specs.Journals.{IsOfSixteen}
use Rattle.dc_course.proofs.Journaling.{keeps_ended, keeps_more, stopped_or, unstopped_more}
use Rattle.dc_course.proofs.Partaking.{cut_none, no_one, none_of, one_stopped, part_inside, rose_from, setting_kept}
use Rattle.dc_course.specs.Headline.{is_stopped}
use Rattle.dc_course.specs.Journals.{AreCutAtStop, noted_of}
use Rattle.dc_course.specs.declared.leaving.Journal.{Journal}
use Rattle.dc_media.specs.Causes.{Rose}
use Rattle.dc_model.specs.declared.mark.Mark.TheVariants as mark
use Rattle.dc_recovery.specs.Unstopped.{Unstopped}
use Rattle.dc_course.proofs.Tracing.{moment_is, moments_more, unstopped_in}
use Rattle.dc_course.specs.Courses.{StoresLeft}
use Rattle.dc_course.specs.Headline.{start_at}
use Rattle.dc_course.specs.Moments.{IsMoment, Moments}
use Rattle.dc_course.specs.Running.{moment_of, output}
use Rattle.dc_world.specs.Worlds.{stage_in}
use Rattle.dc_media.proofs.Becoming.{TellsOn-then}
use Rattle.dc_course.proofs.running.Running.run.Given.{Over}
use Rattle.dc_course.proofs.running.Running.run.Goals as goal

pub returns-in-Err-clause-others : goal.returns-in-Err-clause-others
returns-in-Err-clause-others g c q high = g.met.C.Checkpoint.untouched_on c.args.dev.now c.loop-entry.dev c.entry.new.dev q (c.loop-entry.invariant.others q high)
    (c.entry.ensures.others q (let long = c.loop-entry.invariant.long in omega (arith, long, high)))

pub returns-in-Err-clause-runs_off : goal.returns-in-Err-clause-runs_off
returns-in-Err-clause-runs_off g c fault e = runs_off g.C.Checkpoint (moment_of c.args.self.now c.args.dev.now (g.O.Sink.held c.args.out.now)) (moment_of c.loop-entry.self c.loop-entry.dev (g.O.Sink.held c.loop-entry.out))
    (moment_of c.entry.new.self c.entry.new.dev (g.O.Sink.held c.entry.new.out)) c.loop-entry.invariant.long c.entry.ensures.long c.loop-entry.invariant.tells c.entry.ensures.later c.args.schedule.now c.loop-entry.invariant.runs _
    (ap (slice_get c.args.schedule.now) c.loop-entry.invariant.marks ∙ slice_get-get_or c.args.schedule.now c.loop-entry.entry-index _ c.loop-entry-test.true) fault (c.in-Err.ensures.steps_off fault (let same : c.in-Err.fault ≡ fault = cc in ap Err same))

pub returns-in-Err-clause-stops : goal.returns-in-Err-clause-stops
returns-in-Err-clause-stops g c setting p of planned is below =
    let mid = c.loop-entry.dev in
    counted_twice setting p c.args.self.now.marks.items c.loop-entry.self.marks.items c.entry.new.self.marks.items _ _ _
    (c.loop-entry.invariant.stops setting p of planned is (λ q less. let l = c.entry.ensures.later q in let small = below q less in omega (arith, l.0, small)))
    (c.entry.ensures.stops setting p (setting_kept c.args.self.now (record { world = c.loop-entry.self.world; marks = c.loop-entry.self.marks; journal = c.leave-count.new.self; from = c.loop-entry.self.from }) setting of c.loop-entry.invariant.protocol c.loop-entry.invariant.long c.loop-entry.invariant.from) (planned ∙ sym (g.met.C.Planned.planned_same c.args.dev.now mid c.loop-entry.invariant.lasts))
    (entry_at setting c.args.schedule.now (length c.loop-entry.self.marks.items) _ is (ap (slice_get c.args.schedule.now) c.loop-entry.invariant.marks ∙ slice_get-get_or c.args.schedule.now c.loop-entry.entry-index _ c.loop-entry-test.true)) below)

-- no device was stopped before an entry of a run that keeps its journal
none_yet : (g : Over) (c : goal.After-settle g) → c.args.self.now.journal.kept ≡ true → c.loop-entry.self.world.stopped ≡ None
none_yet g c keeps = cut_none c.loop-entry.self (c.loop-entry.invariant.kept ∙ keeps) (sym c.cut_by.ensures ∙ none_of c.cut_by.result (sym c.is_some.ensures ∙ c.if-is_some.false))

-- what is left of the lines of an entry that was stopped
settled_back : (g : Over) (c : goal.After-settle g) → is_stopped c.in-Ok.mark ≡ true → c.settle.new.self.lines.items ≡ c.loop-entry.self.journal.lines.items
settled_back g c halt = c.settle.ensures.stopped halt ∙ ap (λ (j : Journal). take c.leave-count.result j.lines.items) c.entry.ensures.journal ∙ c.leave-count.ensures.behind

-- and of one that was not
settled_on : (g : Over) (c : goal.After-settle g) → is_stopped c.in-Ok.mark ≡ false → c.settle.new.self.lines.items ≡ c.leave-count.new.self.lines.items
settled_on g c live = c.settle.ensures.whole live ∙ ap (λ (j : Journal). j.lines.items) c.entry.ensures.journal

-- in either case no more than were left
settled_few : (g : Over) (c : goal.After-settle g) → length c.settle.new.self.lines.items ≤ length c.loop-entry.self.journal.lines.items + 2
settled_few g c = ⊎_elim (λ (halt : is_stopped c.in-Ok.mark ≡ true). let back = ap (λ xs. length xs) (settled_back g c halt) in omega (arith, back))
    (λ (live : is_stopped c.in-Ok.mark ≡ false). let on = ap (λ xs. length xs) (settled_on g c live) in let few = c.leave-count.ensures.few in omega (arith, on, few)) (cases_Bool (is_stopped c.in-Ok.mark))

-- and of the sixteen processes that there may be
settled_sixteen : (g : Over) (c : goal.After-settle g) → All IsOfSixteen c.loop-entry.self.journal.lines.items → All IsOfSixteen c.settle.new.self.lines.items
settled_sixteen g c all = ⊎_elim (λ (halt : is_stopped c.in-Ok.mark ≡ true). subst (All IsOfSixteen) (sym (settled_back g c halt)) all)
    (λ (live : is_stopped c.in-Ok.mark ≡ false). subst (All IsOfSixteen) (sym (settled_on g c live)) (c.leave-count.ensures.sixteen all)) (cases_Bool (is_stopped c.in-Ok.mark))

-- where no device was stopped so far, none was in this entry nor before
still_none : (g : Over) (c : goal.After-settle g) → c.entry.new.self.world.stopped ≡ None
    → (c.in-Ok.mark ≢ mark.Stopped) × ((c.args.self.now.world.stopped ≡ None) × Unstopped c.loop-entry.self.marks.items)
still_none g c none = let live : c.in-Ok.mark ≢ mark.Stopped = (λ halt. no_one c.entry.new.self.world.stopped _ none (c.in-Ok.ensures.stopped halt)) in
    (live, c.loop-entry.invariant.whole (sym (c.in-Ok.ensures.unstopped live) ∙ none))

-- whose device was stopped, and when: before the first entry, of which there is none then, or in the last
abbrev Stop : (g : Over) → goal.After-settle g → ℕ → Type 0
Stop g c p = ((c.args.self.now.world.stopped ≡ Some p) × (c.entry.new.self.marks.items ≡ []))
    ⊎ ((c.args.self.now.world.stopped ≡ None) × (p < length c.args.self.now.world.processes.slots.items) × Rose (g.C.Checkpoint.stops c.args.dev.now p) (g.C.Checkpoint.stops c.entry.new.dev p) × AreCutAtStop c.entry.new.self.marks.items)

-- an entry that was stopped is the last of a run that keeps its journal, and the first such
cut_here : (g : Over) (c : goal.After-settle g) → c.args.self.now.journal.kept ≡ true → c.in-Ok.mark ≡ mark.Stopped → IfSome c.entry.new.self.world.stopped (Stop g c)
cut_here g c keeps halt =
    let whole = c.loop-entry.invariant.whole (none_yet g c keeps) in
    one_stopped c.entry.new.self.world.stopped _ (Stop g c)
    (λ p stop. inr (
      whole.0,
      subst (λ n. p < n) c.loop-entry.invariant.long (part_inside _ _ p _ stop.0),
      rose_from (g.C.Checkpoint.stops c.args.dev.now p) (g.C.Checkpoint.stops c.loop-entry.dev p) (g.C.Checkpoint.stops c.entry.new.dev p) (c.loop-entry.invariant.later p).0 stop.1,
      (c.loop-entry.self.marks.items, c.in-Ok.ensures.noted ∙ ap (λ m. c.loop-entry.self.marks.items ++ m ∷ []) halt, whole.1),
    )) (c.in-Ok.ensures.stopped halt)

-- so much is said after each entry
cut_or_on : (g : Over) (c : goal.After-settle g) → c.args.self.now.journal.kept ≡ true → IfSome c.entry.new.self.world.stopped (Stop g c)
cut_or_on g c keeps = ⊎_elim
    (λ (halt : c.in-Ok.mark ≡ mark.Stopped). cut_here g c keeps halt)
    (λ (live : (c.in-Ok.mark ≢ mark.Stopped) × (is_stopped c.in-Ok.mark ≡ false)). subst (λ o. IfSome o (Stop g c)) (sym (c.in-Ok.ensures.unstopped live.0 ∙ none_yet g c keeps)) tt)
    (stopped_or c.in-Ok.mark)

pub loop-entry-preserved : goal.loop-entry-preserved
loop-entry-preserved g c = record {
  ready = c.entry.ensures.ready;
  protocol = c.entry.ensures.protocol ∙ c.loop-entry.invariant.protocol;
  long = c.entry.ensures.long ∙ c.loop-entry.invariant.long;
  from = c.entry.ensures.from ∙ c.loop-entry.invariant.from;
  marks = (let more = ap (λ ms. length ms) c.in-Ok.ensures.noted ∙ length-append c.loop-entry.self.marks.items (c.in-Ok.mark ∷ []) in let so_far = c.loop-entry.invariant.marks in omega (arith, more, so_far));
  left = (let one = c.entry.ensures.left in let some = c.loop-entry.invariant.left in omega (arith, one, some));
  room = (let before = c.loop-entry.invariant.room in let more = c.entry.ensures.room in omega (arith, before, more));
  runs = runs_more g.C.Checkpoint (moment_of c.args.self.now c.args.dev.now (g.O.Sink.held c.args.out.now)) (moment_of c.loop-entry.self c.loop-entry.dev (g.O.Sink.held c.loop-entry.out))
      (moment_of c.entry.new.self c.entry.new.dev (g.O.Sink.held c.entry.new.out)) c.loop-entry.invariant.long c.entry.ensures.long c.loop-entry.invariant.tells c.entry.ensures.later c.args.schedule.now c.loop-entry.invariant.runs _
      (ap (slice_get c.args.schedule.now) c.loop-entry.invariant.marks ∙ slice_get-get_or c.args.schedule.now c.loop-entry.entry-index _ c.loop-entry-test.true) c.in-Ok.ensures.steps_on;
  lasts = g.met.C.Planned.lasts_on c.args.dev.now c.loop-entry.dev c.entry.new.dev c.loop-entry.invariant.lasts c.entry.ensures.lasts;
  stops = λ setting p of planned is below. counted_twice setting p c.args.self.now.marks.items c.loop-entry.self.marks.items c.entry.new.self.marks.items _ _ _
      (c.loop-entry.invariant.stops setting p of planned is (λ q less. let l = c.entry.ensures.later q in let small = below q less in omega (arith, l.0, small)))
      (c.entry.ensures.stops setting p (setting_kept c.args.self.now (record { world = c.loop-entry.self.world; marks = c.loop-entry.self.marks; journal = c.leave-count.new.self; from = c.loop-entry.self.from }) setting of c.loop-entry.invariant.protocol c.loop-entry.invariant.long c.loop-entry.invariant.from) (planned ∙ sym (g.met.C.Planned.planned_same c.args.dev.now c.loop-entry.dev c.loop-entry.invariant.lasts))
      (entry_at setting c.args.schedule.now (length c.loop-entry.self.marks.items) _ is (ap (slice_get c.args.schedule.now) c.loop-entry.invariant.marks ∙ slice_get-get_or c.args.schedule.now c.loop-entry.entry-index _ c.loop-entry-test.true)) below);
  comes = λ setting begun of planned is before first come so_far.
      let new = stage_in c.entry.new.self.world c.entry.new.dev in
      let marks = c.loop-entry.self.marks.items in
      let m = c.in-Ok.mark in
      let same = c.in-Ok.ensures.noted in
      let at = entry_at setting c.args.schedule.now (length marks) _ is (ap (slice_get c.args.schedule.now) c.loop-entry.invariant.marks ∙ slice_get-get_or c.args.schedule.now c.loop-entry.entry-index _ c.loop-entry-test.true) in
      let kept = setting_kept c.args.self.now (record { world = c.loop-entry.self.world; marks = c.loop-entry.self.marks; journal = c.leave-count.new.self; from = c.loop-entry.self.from }) setting of c.loop-entry.invariant.protocol c.loop-entry.invariant.long c.loop-entry.invariant.from in
      let between = come_between g.C.Checkpoint (moment_of c.args.self.now c.args.dev.now (g.O.Sink.held c.args.out.now)) (moment_of c.loop-entry.self c.loop-entry.dev (g.O.Sink.held c.loop-entry.out)) (moment_of c.entry.new.self c.entry.new.dev (g.O.Sink.held c.entry.new.out))
      c.loop-entry.invariant.long c.entry.ensures.long c.loop-entry.invariant.tells c.entry.ensures.later setting begun first come in
      let on = come_on g.C.Checkpoint (moment_of c.args.self.now c.args.dev.now (g.O.Sink.held c.args.out.now)) (moment_of c.loop-entry.self c.loop-entry.dev (g.O.Sink.held c.loop-entry.out)) (moment_of c.entry.new.self c.entry.new.dev (g.O.Sink.held c.entry.new.out))
      c.loop-entry.invariant.long c.entry.ensures.long c.loop-entry.invariant.tells c.entry.ensures.later c.args.schedule.now c.loop-entry.invariant.runs setting begun first come is in
      let r1 = c.in-Ok.ensures.steps_on setting begun first on at in
      let shown = moment_is g.C.Checkpoint setting begun c.entry.new.self.world.stores.items c.entry.new.dev c.entry.new.self.world.processes c.entry.new.self.marks.items (output first (g.O.Sink.held c.entry.new.out)) r1 c.entry.ensures.ready in
      let long : length setting.images ≡ length new.slots = r1.world.count_is in
      subst (λ ms. Moments setting (start_at setting begun) (λ core d. StoresLeft g.C.Checkpoint setting core d) g.C.Planned.calls before (reverse ms) c.entry.new.dev) (sym same)
      (moments_more setting (start_at setting begun) (λ core d. StoresLeft g.C.Checkpoint setting core d) g.C.Planned.calls before marks m c.loop-entry.dev c.entry.new.dev
      (c.loop-entry.invariant.comes setting begun of planned is before first between so_far)
      (record {
        later = λ p inside. g.met.C.Planned.calls_later c.loop-entry.dev c.entry.new.dev p c.entry.ensures.lasts;
        come = λ p inside. unstopped_in (record { world = c.loop-entry.self.world; marks = c.loop-entry.self.marks; journal = c.leave-count.new.self; from = c.loop-entry.self.from }) setting (g.C.Planned.planned c.loop-entry.dev) _ m p (g.C.Planned.calls c.loop-entry.dev p) (g.C.Planned.calls c.entry.new.dev p) kept
            (planned ∙ sym (g.met.C.Planned.planned_same c.args.dev.now c.loop-entry.dev c.loop-entry.invariant.lasts)) at inside
            (λ whole part. c.in-Ok.ensures.come p whole part (come.tells.stops p (subst (λ n. p < n) long inside)) (come.tells.faults p (subst (λ n. p < n) long inside)));
      })
      (subst (λ ms. IsMoment setting (start_at setting begun) (λ core d. StoresLeft g.C.Checkpoint setting core d) (reverse ms) c.entry.new.dev) same shown));
  planned = λ p. let before = c.loop-entry.invariant.planned p in let more = c.entry.ensures.once p in omega (arith, before, more);
  later = later_on g.C.Checkpoint c.args.dev.now c.loop-entry.dev c.entry.new.dev c.loop-entry.invariant.later c.entry.ensures.later;
  tells = λ p. tells_on g.C.Checkpoint c.args.dev.now c.loop-entry.dev c.entry.new.dev p (c.loop-entry.invariant.tells p) c.entry.ensures.later (c.entry.ensures.tells p);
  others = λ q high. g.met.C.Checkpoint.untouched_on c.args.dev.now c.loop-entry.dev c.entry.new.dev q (c.loop-entry.invariant.others q high)
      (c.entry.ensures.others q (let long = c.loop-entry.invariant.long in omega (arith, long, high)));
  out_tells = TellsOn-then _ _ _ 0 _ _ c.entry.ensures.out_later c.loop-entry.invariant.out_tells c.entry.ensures.out_tells;
  out_later = (let before = c.loop-entry.invariant.out_later in let more = c.entry.ensures.out_later in omega (arith, before, more));
  kept = c.settle.ensures.kept ∙ ap (λ (j : Journal). j.kept) c.entry.ensures.journal ∙ c.leave-count.ensures.kept ∙ c.loop-entry.invariant.kept;
  journal_room = (let before = c.loop-entry.invariant.journal_room in let more = c.leave-count.ensures.room in let same = ap (λ (j : Journal). j.lines.room) c.entry.ensures.journal in let kept = c.settle.ensures.room in omega (arith, before, more, same, kept));
  journal_few = (let before = c.loop-entry.invariant.journal_few in let more = c.leave-count.ensures.few in let kept = settled_few g c in omega (arith, before, more, kept));
  sixteen = λ all. settled_sixteen g c (c.loop-entry.invariant.sixteen all);
  whole = λ none. let on = still_none g c none in (on.1.0, subst Unstopped (sym c.in-Ok.ensures.noted) (unstopped_more c.loop-entry.self.marks.items c.in-Ok.mark on.1.1 on.0));
  stop = λ keeps. cut_or_on g c keeps;
  journal = λ keeps. keeps_more g.C.Checkpoint c.args.schedule.now (noted_of c.args.self.now c.args.dev.now (g.O.Sink.held c.args.out.now)) (noted_of c.loop-entry.self c.loop-entry.dev (g.O.Sink.held c.loop-entry.out))
      (noted_of (record { world = c.entry.new.self.world; marks = c.entry.new.self.marks; journal = c.settle.new.self; from = c.entry.new.self.from }) c.entry.new.dev (g.O.Sink.held c.entry.new.out))
      c.loop-entry.invariant.long c.entry.ensures.long (let few = c.loop-entry.invariant.ready.well.few in omega (arith, few)) c.loop-entry.invariant.tells c.entry.ensures.later c.loop-entry.invariant.runs
      (c.loop-entry.invariant.whole (none_yet g c keeps)) (c.loop-entry.invariant.journal keeps) _ (ap (slice_get c.args.schedule.now) c.loop-entry.invariant.marks ∙ slice_get-get_or c.args.schedule.now c.loop-entry.entry-index _ c.loop-entry-test.true) c.in-Ok.ensures.steps_on c.leave-count.new.self.lines.items (c.leave-count.ensures.left (c.loop-entry.invariant.kept ∙ keeps))
      c.in-Ok.mark c.in-Ok.ensures.noted (λ halt. settled_back g c halt) (λ live. settled_on g c live);
  alone = λ none p. (let before = c.loop-entry.invariant.alone none p in let more = c.entry.ensures.alone (g.met.C.Planned.planned_same c.args.dev.now c.loop-entry.dev c.loop-entry.invariant.lasts ∙ none) p in omega (arith, before, more));
}

pub returns-in-Err-clause-come : goal.returns-in-Err-clause-come
returns-in-Err-clause-come g c setting begun of planned is before first come so_far =
    let mid = c.loop-entry.dev in
    let between = come_between g.C.Checkpoint (moment_of c.args.self.now c.args.dev.now (g.O.Sink.held c.args.out.now)) (moment_of c.loop-entry.self mid (g.O.Sink.held c.loop-entry.out)) (moment_of c.entry.new.self c.entry.new.dev (g.O.Sink.held c.entry.new.out))
    c.loop-entry.invariant.long c.entry.ensures.long c.loop-entry.invariant.tells c.entry.ensures.later setting begun first come in (
      mid,
      subst (λ ms. Moments setting (start_at setting begun) (λ core d. StoresLeft g.C.Checkpoint setting core d) g.C.Planned.calls before (reverse ms) mid) (sym c.in-Err.ensures.unmarked)
          (c.loop-entry.invariant.comes setting begun of planned is before first between so_far),
      λ p inside. g.met.C.Planned.calls_later mid c.entry.new.dev p c.entry.ensures.lasts,
      λ ends. absurd (cc),
    )

pub returns-clause-come : goal.returns-clause-come
returns-clause-come g c setting begun of planned is before first come so_far = (
  c.loop-entry.dev,
  c.loop-entry.invariant.comes setting begun of planned is before first come so_far,
  λ p inside. omega arith,
  λ ends. refl,
)

pub returns-in-Err-clause-planned : goal.returns-in-Err-clause-planned
returns-in-Err-clause-planned g c p = let before = c.loop-entry.invariant.planned p in let more = c.entry.ensures.once p in omega (arith, before, more, c.loop-entry-test.true)

pub returns-clause-planned : goal.returns-clause-planned
returns-clause-planned g c p = let all = c.loop-entry.invariant.planned p in let end = c.loop-entry.auto.entry-index-end in omega (arith, all, end)

pub returns-in-Err-clause-journal : goal.returns-in-Err-clause-journal
returns-in-Err-clause-journal g c keeps =
    let none = cut_none c.loop-entry.self (c.loop-entry.invariant.kept ∙ keeps) (sym c.cut_by.ensures ∙ none_of c.cut_by.result (sym c.is_some.ensures ∙ c.if-is_some.false)) in
    keeps_ended g.C.Checkpoint c.args.schedule.now (noted_of c.args.self.now c.args.dev.now (g.O.Sink.held c.args.out.now)) (noted_of c.loop-entry.self c.loop-entry.dev (g.O.Sink.held c.loop-entry.out))
    (noted_of (record { world = c.entry.new.self.world; marks = c.entry.new.self.marks; journal = c.cut_off.new.self; from = c.entry.new.self.from }) c.entry.new.dev (g.O.Sink.held c.entry.new.out))
    c.loop-entry.invariant.long c.entry.ensures.long (let few = c.loop-entry.invariant.ready.well.few in omega (arith, few)) c.loop-entry.invariant.tells c.entry.ensures.later c.loop-entry.invariant.runs (c.loop-entry.invariant.whole none) (c.loop-entry.invariant.journal keeps) c.in-Err.ensures.unmarked
    (c.cut_off.ensures.lines ∙ ap (λ (j : Journal). take c.leave-count.result j.lines.items) c.entry.ensures.journal ∙ c.leave-count.ensures.behind)

pub returns-then-is_some-clause-come : goal.returns-then-is_some-clause-come
returns-then-is_some-clause-come g c setting begun of planned is before first come so_far = (
  c.loop-entry.dev,
  c.loop-entry.invariant.comes setting begun of planned is before first come so_far,
  λ p inside. omega arith,
  λ ends. refl,
)

pub returns-then-is_some-clause-planned : goal.returns-then-is_some-clause-planned
returns-then-is_some-clause-planned g c p = let all = c.loop-entry.invariant.planned p in let less = c.loop-entry-test.true in omega (arith, all, less)

pub returns-in-Err-clause-broken : goal.returns-in-Err-clause-broken
returns-in-Err-clause-broken g c keeps =
    let none = cut_none c.loop-entry.self (c.loop-entry.invariant.kept ∙ keeps) (sym c.cut_by.ensures ∙ none_of c.cut_by.result (sym c.is_some.ensures ∙ c.if-is_some.false)) in
    let whole = c.loop-entry.invariant.whole none in (whole.0, subst Unstopped (sym c.in-Err.ensures.unmarked) whole.1)
