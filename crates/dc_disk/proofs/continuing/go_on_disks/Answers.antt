use Rattle.std.proofs.Common.{◌≡◌, ◌∙◌, ◌⊎◌, ◌≤◌, ◌<◌, ℕ, List, Err, IfOk, IsErrOf, IsSome, Result, OnErr, ap, arith, inl, inr, length, refl, reverse, rules, subst, sym}
use Rattle.std.proofs.lemmas.Bool.{cases_order}
use Rattle.std.proofs.lemmas.Result.{IfOk-weaker}
use Rattle.dc_course.specs.Continued.{IsCourseOn, IsEarlier, setting_from}
use Rattle.dc_course.specs.Courses.{account_of, counts_of}
use Rattle.dc_course.specs.Headline.{system_in}
use Rattle.dc_course.specs.Lent.{IsLeftAlone, KeepsTold, TellsStores, capped_by}
use Rattle.dc_course.specs.Running.{output}
use Rattle.dc_disk.proofs.Rereadable.{resumable}
use Rattle.dc_disk.proofs.Rereading.{disk_part, first_steady, has_number, log_refuses, logs_read, logs_stood, number_logged, on_errs, said_err}
use Rattle.dc_disk.specs.Logs.{AreLogsRead, FirstLogHas, IsFirstLogSteady, LogRefuses, LogsLeft, LogsStood}
use Rattle.dc_media.specs.Causes.{Rose}
use Rattle.dc_media.specs.Devices.{of_disks}
use Rattle.dc_model.specs.declared.visible.Visible.{Visible}
use Rattle.dc_recovery.specs.Recoveries.{resumed_core}
use Rattle.dc_redo.specs.Handles.{shape_of}
use Rattle.dc_reread.specs.declared.faults.RereadFault.{RereadFault}
use Rattle.dc_reread.specs.declared.faults.RereadFault.TheVariants as fault
use Rattle.dc_checkpoint.specs.declared.faults.StoreFault.{StoreFault}
use Rattle.dc_resume.specs.Suited.{IsFirstUnsuited, saves_in}
use Rattle.dc_world.specs.Opened.{IsCalmUnlessStopped}
use Rattle.dc_disk.proofs.continuing.go_on_disks.Goals as goal

-- a refusal by content is not for want of memory
not_wanting : {T : Type 0} (p : ℕ) (why : StoreFault) (r : Result T RereadFault) → r ≡ Err (fault.Refused p why) → r ≡ Err fault.Memory → ⊥
not_wanting p why r e wanting = cc

pub returns-clause-later : goal.returns-clause-later
returns-clause-later g c p = subst (λ k. (g.D.Disks.stops c.args.disks.now p ≤ g.D.Disks.stops k p) × (g.D.Disks.faults c.args.disks.now p ≤ g.D.Disks.faults k p)) {x = c.go_on-course.new.dev.device.now} (search rules) (
  subst (λ k. g.D.Disks.stops k p ≤ g.D.Disks.stops c.go_on-course.new.dev.device.now p) (ap (λ k. k.now) c.new-armed.ensures.device) (c.go_on-course.ensures.lasts.stopped p),
  subst (λ k. g.D.Disks.faults k p ≤ g.D.Disks.faults c.go_on-course.new.dev.device.now p) (ap (λ k. k.now) c.new-armed.ensures.device) (c.go_on-course.ensures.lasts.failed p),
)

pub returns-clause-failed : goal.returns-clause-failed
returns-clause-failed g c p e =
    let told = c.go_on-course.ensures.failed p e in
    subst (λ k. (p < length c.args.setting.scheduled.setup.images.items) × Rose (g.D.Disks.faults c.args.disks.now p) (g.D.Disks.faults k p)) {x = c.go_on-course.new.dev.device.now} (search rules)
    (told.0, subst (λ k. Rose (g.D.Disks.faults k p) (g.D.Disks.faults c.go_on-course.new.dev.device.now p)) (ap (λ b. b.now) c.new-armed.ensures.device) told.1)

-- faults that stayed, with stops that are no fewer: these stayed too, or rose
calm_or_stopped : (s t f h : ℕ) → h ≡ f → s ≤ t → ((t ≡ s) × (h ≡ f)) ⊎ Rose s t
calm_or_stopped s t f h same le = by (cases_order s t)
  where
    by : (s ≡ t) ⊎ ((s < t) ⊎ (t < s)) → ((t ≡ s) × (h ≡ f)) ⊎ Rose s t
    by (inl e) = inl (sym e, same)
    by (inr (inl less)) = inr (omega (arith, less))
    by (inr (inr more)) = absurd (omega (arith, more, le))

pub returns-clause-wanting : goal.returns-clause-wanting
returns-clause-wanting g c e p =
    let lent : c.new-armed.result.device.now ≡ c.args.disks.now = ap (λ b. b.now) c.new-armed.ensures.device in
    let calm = c.go_on-course.ensures.wanting e p in
    let later = c.go_on-course.ensures.lasts.stopped p in
    let was = ap (λ k. g.D.Disks.stops k p) lent in
    subst (λ k. IsCalmUnlessStopped g.D.Disks.stops g.D.Disks.faults p c.args.disks.now k) {x = c.go_on-course.new.dev.device.now} (search rules)
    (calm_or_stopped _ _ _ _ (calm.1 ∙ ap (λ k. g.D.Disks.faults k p) lent) (omega (arith, later, was)))

pub returns-clause-stopped : goal.returns-clause-stopped
returns-clause-stopped g c p e =
    let told = c.go_on-course.ensures.stopped p e in
    let rose = told.1 in
    let none = c.new-armed.ensures.came p in
    let few = said_err c.go_on-course.result (fault.Stopped p) e c.go_on-course.ensures.unplanned p in
    subst (λ k. (p < length c.args.setting.scheduled.setup.images.items) × Rose (g.D.Disks.stops c.args.disks.now p) (g.D.Disks.stops k p)) {x = c.go_on-course.new.dev.device.now} (search rules)
    (told.0, subst (λ k. Rose (g.D.Disks.stops k p) (g.D.Disks.stops c.go_on-course.new.dev.device.now p)) (ap (λ b. b.now) c.new-armed.ensures.device) (omega (arith, rose, none, few)))

pub returns-clause-tells : goal.returns-clause-tells
returns-clause-tells g c p =
    let lent : c.new-armed.result.device.now ≡ c.args.disks.now = ap (λ b. b.now) c.new-armed.ensures.device in
    subst (λ k. KeepsTold (of_disks g.D.Disks) c.args.disks.now k p) {x = c.go_on-course.new.dev.device.now} (search rules)
    (λ few sound told. c.go_on-course.ensures.tells p
    (let all = c.go_on-course.ensures.planned p in let none = c.new-armed.ensures.came p in let long = c.args.setting.scheduled.entries in omega (arith, all, none, few, long)) sound
    (subst (λ x. IsSome (g.D.Disks.told x p)) (sym lent) told))

pub returns-clause-others : goal.returns-clause-others
returns-clause-others g c q high =
    let lent : c.new-armed.result.device.now ≡ c.args.disks.now = ap (λ b. b.now) c.new-armed.ensures.device in
    let same = c.go_on-course.ensures.others q high in
    subst (λ k. IsLeftAlone (of_disks g.D.Disks) c.args.disks.now k q) {x = c.go_on-course.new.dev.device.now} (search rules) (record {
      told_same = same.told_same ∙ ap (λ k. g.D.Disks.told k q) lent;
      extent_same = same.extent_same ∙ ap (λ k. g.D.Disks.extent k q) lent;
      stops_same = let all = same.stops_same in let none = c.new-armed.ensures.came q in let later = c.go_on-course.ensures.lasts.stopped q in let is = ap (λ k. g.D.Disks.stops k q) lent in omega (arith, all, none, later, is);
      faults_same = same.faults_same ∙ ap (λ k. g.D.Disks.faults k q) lent;
    })

pub returns-clause-unsuited : goal.returns-clause-unsuited
unfolding logs_read
returns-clause-unsuited g c p e =
    let of = system_in (setting_from c.args.setting.scheduled c.args.setting.stops.items c.args.earlier.now.entries) in
    let acts = c.args.earlier.now.acts.now in
    let images = c.args.setting.scheduled.setup.images.items in
    let lent : c.new-armed.result.device.now ≡ c.args.disks.now = ap (λ b. b.now) c.new-armed.ensures.device in
    let found = c.go_on-course.ensures.unsuited p e in
    subst (λ k. (x : AreLogsRead g.D.Disks of images acts c.args.disks.now k) × IsFirstUnsuited of x.given x.decided x.stored p) {x = c.go_on-course.new.dev.device.now} (search rules)
    (subst (λ k. (x : AreLogsRead g.D.Disks of images acts k c.go_on-course.new.dev.device.now) × IsFirstUnsuited of x.given x.decided x.stored p) lent
    (logs_read g.D.Disks (λ d. d.device.now) (λ s. shape_of s.store.frame) (record { sizes = λ s. refl; forms = λ s. refl; kernels = λ s. s.store.frame.layout; events = λ s. s.store.frame.events; firsts = λ s. refl; leaves_to = λ s x d r l. l; leaves_from = λ s x d r l. l; numbers_to = λ s x d l. l; numbers_from = λ s x d l. l; steady_to = λ s x kept none. record { kept = kept; high = λ e held. inr (omega (arith, none)) }; steady_from = λ s x steady. steady.kept }) images c.new-armed.result c.go_on-course.new.dev of acts found.0, found.1))

pub returns-clause-refused : goal.returns-clause-refused
returns-clause-refused g c p fault e =
    let images = c.args.setting.scheduled.setup.images.items in
    let refuses = c.go_on-course.ensures.refused p fault e in
    subst (λ k. (d : ℕ) × LogRefuses g.D.Disks images d k p fault) {x = c.go_on-course.new.dev.device.now} (search rules)
    (refuses.0, log_refuses g.D.Disks (λ d. d.device.now) (λ s. shape_of s.store.frame) (record { sizes = λ s. refl; forms = λ s. refl; kernels = λ s. s.store.frame.layout; events = λ s. s.store.frame.events; firsts = λ s. refl; leaves_to = λ s x d r l. l; leaves_from = λ s x d r l. l; numbers_to = λ s x d l. l; numbers_from = λ s x d l. l; steady_to = λ s x kept none. record { kept = kept; high = λ e held. inr (omega (arith, none)) }; steady_from = λ s x steady. steady.kept }) images c.new-armed.result c.go_on-course.new.dev refuses.0 p fault refuses.1)

pub returns-clause-headline : goal.returns-clause-headline
returns-clause-headline g c =
    let setting = setting_from c.args.setting.scheduled c.args.setting.stops.items c.args.earlier.now.entries in
    let out = output (g.O.Sink.held c.args.out.now) (g.O.Sink.held c.go_on-course.new.out) in
    let images = c.args.setting.scheduled.setup.images.items in
    let acts = c.args.earlier.now.acts.now in
    let disk = g.D.Disks in
    subst (λ k. IfOk c.go_on-course.result (λ course. TellsStores (of_disks disk) (length images) c.args.disks.now k
    → (lines : List Visible) → IsEarlier setting c.args.earlier.now lines → (read : _) × ((p : ℕ) → p < length images → IsSome (disk.told read p)) × (x : AreLogsRead disk (system_in setting) images acts c.args.disks.now read)
    × IsCourseOn setting lines (resumed_core x.given (reverse lines) (saves_in (system_in setting) x.stored)) (account_of course) course.ending out (counts_of disk.stops (capped_by disk.calls) c.args.disks.now k) (λ core x. LogsLeft disk setting core x))) {x = c.go_on-course.new.dev.device.now} (search rules)
    (IfOk-weaker c.go_on-course.result _ _ (λ course says tells lines earlier.
    let armed = c.new-armed.result in
    let dev = c.go_on-course.new.dev in
    let lent : armed.device.now ≡ c.args.disks.now = ap (λ b. b.now) c.new-armed.ensures.device in
    let part = says (record {
      told = λ p less. subst (λ x. IsSome (disk.told x p)) (sym lent) (tells.told p less);
      stops = λ p less. let all = c.go_on-course.ensures.planned p in let none = c.new-armed.ensures.came p in let few = tells.stops p less in let long = c.args.setting.scheduled.entries in omega (arith, all, none, few, long);
      faults = tells.faults;
    }) lines
    (subst (λ ss. IsEarlier (setting_from c.args.setting.scheduled ss c.args.earlier.now.entries) c.args.earlier.now lines) (sym c.new-armed.ensures.stops) earlier) in
    disk_part disk c.args.setting.scheduled c.args.earlier.now armed.plan.stops c.args.setting.stops.items lines (account_of course) course.ending out (λ d. d.device.now) armed dev part.0 c.args.disks.now part.3 part.4
    c.new-armed.ensures.stops lent part.2 (λ s. shape_of s.store.frame) (record { sizes = λ s. refl; forms = λ s. refl; kernels = λ s. s.store.frame.layout; events = λ s. s.store.frame.events; firsts = λ s. refl; leaves_to = λ s x d r l. l; leaves_from = λ s x d r l. l; numbers_to = λ s x d l. l; numbers_from = λ s x d l. l; steady_to = λ s x kept none. record { kept = kept; high = λ e held. inr (omega (arith, none)) }; steady_from = λ s x steady. steady.kept })) c.go_on-course.ensures.headline)

pub returns-clause-unsteady : goal.returns-clause-unsteady
returns-clause-unsteady g c e =
    let images = c.args.setting.scheduled.setup.images.items in
    let lent : c.new-armed.result.device.now ≡ c.args.disks.now = ap (λ b. b.now) c.new-armed.ensures.device in
    subst (λ k. IsSome (g.D.Disks.told k 0) → IsFirstLogSteady g.D.Disks images c.args.disks.now → ⊥) {x = c.go_on-course.new.dev.device.now} (search rules)
    (λ told first. c.go_on-course.ensures.unsteady e told (first_steady g.D.Disks (λ d. d.device.now) (λ s. shape_of s.store.frame) (record { sizes = λ s. refl; forms = λ s. refl; kernels = λ s. s.store.frame.layout; events = λ s. s.store.frame.events; firsts = λ s. refl; leaves_to = λ s x d r l. l; leaves_from = λ s x d r l. l; numbers_to = λ s x d l. l; numbers_from = λ s x d l. l; steady_to = λ s x kept none. record { kept = kept; high = λ e held. inr (omega (arith, none)) }; steady_from = λ s x steady. steady.kept }) images c.new-armed.result (subst (IsFirstLogSteady g.D.Disks images) (sym lent) first)))

pub returns-clause-refused_under : goal.returns-clause-refused_under
returns-clause-refused_under g c d = subst (λ k. FirstLogHas g.D.Disks c.args.setting.scheduled.setup.images.items k d → (p : ℕ) (why : StoreFault) → IsErrOf c.go_on-course.result (fault.Refused p why) → LogRefuses g.D.Disks c.args.setting.scheduled.setup.images.items d k p why) {x = c.go_on-course.new.dev.device.now} (search rules)
    (λ held p why e.
    let images = c.args.setting.scheduled.setup.images.items in
    let handles = said_err c.go_on-course.result (fault.Refused p why) e (c.go_on-course.ensures.handles (λ wanting. not_wanting p why c.go_on-course.result e wanting)) in
    log_refuses g.D.Disks (λ d. d.device.now) (λ s. shape_of s.store.frame) (record { sizes = λ s. refl; forms = λ s. refl; kernels = λ s. s.store.frame.layout; events = λ s. s.store.frame.events; firsts = λ s. refl; leaves_to = λ s x d r l. l; leaves_from = λ s x d r l. l; numbers_to = λ s x d l. l; numbers_from = λ s x d l. l; steady_to = λ s x kept none. record { kept = kept; high = λ e held. inr (omega (arith, none)) }; steady_from = λ s x steady. steady.kept }) images c.new-armed.result c.go_on-course.new.dev d p why
    (c.go_on-course.ensures.refused_under d
    (has_number g.D.Disks (λ d. d.device.now) (λ s. shape_of s.store.frame) (record { sizes = λ s. refl; forms = λ s. refl; kernels = λ s. s.store.frame.layout; events = λ s. s.store.frame.events; firsts = λ s. refl; leaves_to = λ s x d r l. l; leaves_from = λ s x d r l. l; numbers_to = λ s x d l. l; numbers_from = λ s x d l. l; steady_to = λ s x kept none. record { kept = kept; high = λ e held. inr (omega (arith, none)) }; steady_from = λ s x steady. steady.kept }) images c.go_on-course.new.dev d handles held) p why e))

pub returns-clause-stood : goal.returns-clause-stood
returns-clause-stood g c enough =
    let lent : c.new-armed.result.device.now ≡ c.args.disks.now = ap (λ b. b.now) c.new-armed.ensures.device in
    let images = c.args.setting.scheduled.setup.images.items in
    let armed = c.new-armed.result in
    let dev = c.go_on-course.new.dev in
    subst (λ k. OnErr c.go_on-course.result ((d : ℕ) → FirstLogHas g.D.Disks images k d → FirstLogHas g.D.Disks images c.args.disks.now d × LogsStood g.D.Disks images d c.args.disks.now k)) {x = c.go_on-course.new.dev.device.now} (search rules)
    (on_errs c.go_on-course.result (c.go_on-course.ensures.handles enough) c.go_on-course.ensures.stood (λ handles stood d held.
    let was = stood d
    (has_number g.D.Disks (λ d. d.device.now) (λ s. shape_of s.store.frame) (record { sizes = λ s. refl; forms = λ s. refl; kernels = λ s. s.store.frame.layout; events = λ s. s.store.frame.events; firsts = λ s. refl; leaves_to = λ s x d r l. l; leaves_from = λ s x d r l. l; numbers_to = λ s x d l. l; numbers_from = λ s x d l. l; steady_to = λ s x kept none. record { kept = kept; high = λ e held. inr (omega (arith, none)) }; steady_from = λ s x steady. steady.kept }) images dev d handles held) in (
      subst (λ z. FirstLogHas g.D.Disks images z d) lent (number_logged g.D.Disks (λ d. d.device.now) (λ s. shape_of s.store.frame) (record { sizes = λ s. refl; forms = λ s. refl; kernels = λ s. s.store.frame.layout; events = λ s. s.store.frame.events; firsts = λ s. refl; leaves_to = λ s x d r l. l; leaves_from = λ s x d r l. l; numbers_to = λ s x d l. l; numbers_from = λ s x d l. l; steady_to = λ s x kept none. record { kept = kept; high = λ e held. inr (omega (arith, none)) }; steady_from = λ s x steady. steady.kept }) images armed d was.0),
      subst (λ z. LogsStood g.D.Disks images d z dev.device.now) lent (logs_stood g.D.Disks (λ d. d.device.now) (λ s. shape_of s.store.frame) (record { sizes = λ s. refl; forms = λ s. refl; kernels = λ s. s.store.frame.layout; events = λ s. s.store.frame.events; firsts = λ s. refl; leaves_to = λ s x d r l. l; leaves_from = λ s x d r l. l; numbers_to = λ s x d l. l; numbers_from = λ s x d l. l; steady_to = λ s x kept none. record { kept = kept; high = λ e held. inr (omega (arith, none)) }; steady_from = λ s x steady. steady.kept }) images armed dev d handles was.1),
    )))

-- the other answers say what each refusal means, and none means that of logs that a run left
pub returns-clause-resumable : goal.returns-clause-resumable
returns-clause-resumable g c left tells =
    resumable g.D.Disks (setting_from c.args.setting.scheduled c.args.setting.stops.items c.args.earlier.now.entries) c.args.setting.scheduled.setup.images.items refl c.args.earlier.now.entries c.args.earlier.now.lines c.args.earlier.now.acts.now
    c.args.disks.now _ c.args.setting.scheduled.setup.some left tells c.go_on-course.result
    (returns-clause-unsuited g c) (returns-clause-unsteady g c) c.go_on-course.ensures.illegal (returns-clause-refused_under g c) (returns-clause-stood g c)
