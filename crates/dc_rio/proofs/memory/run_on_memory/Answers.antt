use Rattle.std.proofs.Common.{◌≡◌, ◌∙◌, ◌≤◌, ◌<◌, [], ℕ, IfOk, IsSome, ap, arith, length, refl, rules, subst, sym}
use Rattle.std.proofs.lemmas.Result.{IfOk-weaker}
use Rattle.dc_course.proofs.Within.{calm_within}
use Rattle.dc_rio.proofs.Segments.{memory_course}
use Rattle.dc_vista.specs.Handles.{shape_of}
use Rattle.dc_armed.specs.Armed.{all_stops}
use Rattle.dc_course.specs.Courses.{IsCourse, account_of, counts_of, setting_of}
use Rattle.dc_course.specs.Running.{output}
use Rattle.dc_course.specs.Lent.{IsLeftAlone, KeepsTold, TellsStores, capped_by}
use Rattle.dc_media.specs.Devices.{of_words}
use Rattle.dc_rio.specs.Segments.{SegmentsLeft}
use Rattle.dc_course.specs.declared.ending.Ending.TheVariants as ending
use Rattle.dc_media.specs.Causes.{Rose}
use Rattle.dc_world.specs.Opened.{IsCalmUnlessStopped}
use Rattle.dc_rio.proofs.memory.run_on_memory.Goals as goal

pub returns-clause-later : goal.returns-clause-later
returns-clause-later g c p = subst (λ k. (g.K.Keeps.stops c.args.keeps.now p ≤ g.K.Keeps.stops k p) × (g.K.Keeps.faults c.args.keeps.now p ≤ g.K.Keeps.faults k p)) (search rules) (
  subst (λ k. g.K.Keeps.stops k p ≤ g.K.Keeps.stops c.run-course.new.dev.device.now p) (ap (λ k. k.now) c.new-armed.ensures.device) (c.run-course.ensures.lasts.stopped p),
  subst (λ k. g.K.Keeps.faults k p ≤ g.K.Keeps.faults c.run-course.new.dev.device.now p) (ap (λ k. k.now) c.new-armed.ensures.device) (c.run-course.ensures.lasts.failed p),
)

pub returns-clause-failed : goal.returns-clause-failed
returns-clause-failed g c p e =
    let told = c.run-course.ensures.failed p e in
    subst (λ k. (p < length c.args.setting.scheduled.setup.images.items) × Rose (g.K.Keeps.faults c.args.keeps.now p) (g.K.Keeps.faults k p)) {x = c.run-course.new.dev.device.now} (search rules)
    (told.0, subst (λ k. Rose (g.K.Keeps.faults k p) (g.K.Keeps.faults c.run-course.new.dev.device.now p)) (ap (λ b. b.now) c.new-armed.ensures.device) told.1)

pub returns-clause-headline : goal.returns-clause-headline
returns-clause-headline g c =
    let setting = setting_of c.args.setting in
    let out = output (g.O.Sink.held c.args.out.now) (g.O.Sink.held c.run-course.new.out) in
    subst (λ k. IfOk c.run-course.result (λ course. TellsStores (of_words g.K.Keeps) (length c.args.setting.scheduled.setup.images.items) c.args.keeps.now k →
    IsCourse setting (account_of course) course.ending out (counts_of g.K.Keeps.stops (capped_by g.K.Keeps.calls) c.args.keeps.now k) (λ core x. SegmentsLeft g.K.Keeps setting core x))) {x = c.run-course.new.dev.device.now} (search rules)
    (IfOk-weaker c.run-course.result _ _ (λ course says tells.
    let armed = c.new-armed.result in
    let dev = c.run-course.new.dev in
    let lent : armed.device.now ≡ c.args.keeps.now = ap (λ b. b.now) c.new-armed.ensures.device in
    memory_course g.K.Keeps c.args.setting.scheduled armed.plan.stops c.args.setting.stops.items (account_of course) course.ending out (λ d. d.device.now) armed dev c.args.keeps.now
    (says (record {
      told = λ p less. subst (λ x. IsSome (g.K.Keeps.told x p)) (sym lent) (tells.told p less);
      stops = λ p less. let all = c.run-course.ensures.planned p in let none = c.new-armed.ensures.came p in let few = tells.stops p less in let long = c.args.setting.scheduled.entries in omega (arith, all, none, few, long);
      faults = tells.faults;
    })) c.new-armed.ensures.stops lent (λ s. shape_of s.store.frame) (λ s. refl) (λ s. refl) (λ s. refl) (λ d s is. is) (λ x s d r l. l) (λ x s d l. l)) c.run-course.ensures.headline)

pub returns-clause-tells : goal.returns-clause-tells
returns-clause-tells g c p =
    let lent : c.new-armed.result.device.now ≡ c.args.keeps.now = ap (λ b. b.now) c.new-armed.ensures.device in
    subst (λ k. KeepsTold (of_words g.K.Keeps) c.args.keeps.now k p) {x = c.run-course.new.dev.device.now} (search rules)
    (λ few sound told. c.run-course.ensures.tells p
    (let all = c.run-course.ensures.planned p in let none = c.new-armed.ensures.came p in let long = c.args.setting.scheduled.entries in omega (arith, all, none, few, long)) sound
    (subst (λ x. IsSome (g.K.Keeps.told x p)) (sym lent) told))

pub returns-clause-others : goal.returns-clause-others
returns-clause-others g c q high =
    let lent : c.new-armed.result.device.now ≡ c.args.keeps.now = ap (λ b. b.now) c.new-armed.ensures.device in
    let same = c.run-course.ensures.others q high in
    subst (λ k. IsLeftAlone (of_words g.K.Keeps) c.args.keeps.now k q) {x = c.run-course.new.dev.device.now} (search rules) (record {
      told_same = same.told_same ∙ ap (λ k. g.K.Keeps.told k q) lent;
      extent_same = same.extent_same ∙ ap (λ k. g.K.Keeps.extent k q) lent;
      stops_same = let all = same.stops_same in let none = c.new-armed.ensures.came q in let later = c.run-course.ensures.lasts.stopped q in let is = ap (λ k. g.K.Keeps.stops k q) lent in omega (arith, all, none, later, is);
      faults_same = same.faults_same ∙ ap (λ k. g.K.Keeps.faults k q) lent;
    })

pub returns-clause-wanting : goal.returns-clause-wanting
returns-clause-wanting g c e p =
    let armed = c.new-armed.result in
    let dev = c.run-course.new.dev in
    let none = c.new-armed.ensures.came p in
    subst (λ k. IsCalmUnlessStopped g.K.Keeps.stops g.K.Keeps.faults p c.args.keeps.now k) {x = dev.device.now} (search rules)
    (subst (λ k. IsCalmUnlessStopped g.K.Keeps.stops g.K.Keeps.faults p k dev.device.now) (ap (λ b. b.now) c.new-armed.ensures.device)
    (calm_within (g.K.Keeps.stops armed.device.now p) (g.K.Keeps.stops dev.device.now p) (all_stops (λ d. g.K.Keeps.stops d.now) armed p) (all_stops (λ d. g.K.Keeps.stops d.now) dev p)
    (g.K.Keeps.faults armed.device.now p) (g.K.Keeps.faults dev.device.now p) (omega (arith, none)) (c.run-course.ensures.lasts.stopped p) (omega arith)
    (c.run-course.ensures.unplanned e p) (c.run-course.ensures.wanting e p)))

pub returns-clause-stop : goal.returns-clause-stop
returns-clause-stop g c =
    let lent : c.new-armed.result.device.now ≡ c.args.keeps.now = ap (λ b. b.now) c.new-armed.ensures.device in
    subst (λ k. IfOk c.run-course.result (λ course. c.args.setting.stops.items ≡ [] → (p : ℕ) → course.ending ≡ ending.Stopped p → (p < length c.args.setting.scheduled.setup.images.items) × Rose (g.K.Keeps.stops c.args.keeps.now p) (g.K.Keeps.stops k p))) {x = c.run-course.new.dev.device.now} (search rules)
    (IfOk-weaker c.run-course.result _ _ (λ course says none p e.
    let stop = says p e in
    let zero = c.new-armed.ensures.came p in
    let rose = stop.1 (c.new-armed.ensures.stops ∙ none) (omega (arith, zero)) in
    (stop.0, subst (λ k. Rose (g.K.Keeps.stops k p) (g.K.Keeps.stops c.run-course.new.dev.device.now p)) lent rose)) c.run-course.ensures.stop)
