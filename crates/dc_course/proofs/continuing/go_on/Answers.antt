use Rattle.std.proofs.Common.{◌≡◌, ◌∙◌, ◌<◌, ◌-◌, ℕ, Err, List, OnOk, Result, [], ap, arith, drop, length, refl, reverse, rules, subst, sym, take}
use Rattle.std.proofs.lemmas.List.{length-map, length-reverse}
use Rattle.dc_course.proofs.Between.{tells_on}
use Rattle.dc_course.proofs.Onward.{can_continue, course_on, on_err, rest_is, rest_long, uncut}
use Rattle.dc_course.proofs.Counting.{sum_later}
use Rattle.dc_course.proofs.Steps.{now_world}
use Rattle.dc_course.proofs.Tracing.{moment_is}
use Rattle.dc_course.proofs.Whole.{begun_running, ending_broken, ending_whole, over_in, told_at}
use Rattle.dc_course.specs.Continued.{IsCourseOn, IsEarlier, setting_from}
use Rattle.dc_course.specs.Courses.{PlannedCome, StoresLeft, TellsThroughout, account_of, counts_of, journal_in}
use Rattle.dc_course.specs.Headline.{IsCountedOn, IsEnding, Last, Setting, start_at, system_in, turn_after, unplanned}
use Rattle.dc_course.specs.Moments.{IsMoment, Moments}
use Rattle.dc_course.specs.Running.{CanBegin, HasCome, IsEnded, IsRest, IsRunning, IsSettingOf, moment, moment_of, output}
use Rattle.dc_course.specs.declared.course.Course.{Course}
use Rattle.dc_course.specs.declared.ending.Ending.{Ending}
use Rattle.dc_elf.specs.Loaded.{seen_image}
use Rattle.dc_guest.specs.Guest.{guests_of}
use Rattle.dc_model.specs.declared.entry.Entry.{Entry}
use Rattle.dc_model.specs.declared.visible.Visible.{Visible}
use Rattle.dc_processes.specs.Stages.{IsTold}
use Rattle.dc_recovery.specs.Core.{Core}
use Rattle.dc_recovery.specs.Recoveries.{resumed_core}
use Rattle.dc_reread.specs.Faults.{recovery_in}
use Rattle.dc_reread.specs.declared.faults.RereadFault.{RereadFault}
use Rattle.dc_reread.specs.declared.faults.RereadFault.TheVariants as fault
use Rattle.dc_resume.specs.Suited.{saves_in}
use Rattle.dc_world.specs.Ended.{HaveEnded}
use Rattle.dc_world.specs.Reopened.{IsReadBeside}
use Rattle.dc_world.specs.Worlds.{stage_in}
use Rattle.dc_course.proofs.continuing.go_on.Goals.{in-Ok, in-Err}
use Rattle.dc_course.proofs.continuing.go_on.Given.{Over}
use Rattle.dc_course.proofs.continuing.go_on.Goals as goal

pub returns-in_err-world-clause-unsuited : goal.returns-in_err-world-clause-unsuited
returns-in_err-world-clause-unsuited g c p e = c.in_err-world.ensures.unsuited p (search rules)

pub returns-in_err-world-clause-stopped : goal.returns-in_err-world-clause-stopped
returns-in_err-world-clause-stopped g c p e = c.in_err-world.ensures.stopped p (search rules)

pub returns-in_err-world-clause-failed : goal.returns-in_err-world-clause-failed
returns-in_err-world-clause-failed g c p e = c.in_err-world.ensures.failed p (search rules)

pub returns-in_err-world-clause-refused_under : goal.returns-in_err-world-clause-refused_under
returns-in_err-world-clause-refused_under g c d has p fault e = c.in_err-world.ensures.refused_under d has p fault (search rules)

pub returns-in_err-world-clause-unsteady : goal.returns-in_err-world-clause-unsteady
returns-in_err-world-clause-unsteady g c e = c.in_err-world.ensures.unsteady (search rules)

pub returns-in_err-world-clause-handles : goal.returns-in_err-world-clause-handles
returns-in_err-world-clause-handles g c enough = on_err c.from_residual-in_err-world.result (c.in_err-world.ensures.handles (λ e. enough (search rules)))

pub returns-in_err-world-clause-unplanned : goal.returns-in_err-world-clause-unplanned
returns-in_err-world-clause-unplanned g c = on_err c.from_residual-in_err-world.result (λ p. g.met.C.Planned.idle_none c.args.dev.now c.reopen.new.dev p c.requires.idle c.reopen.ensures.continues)

-- want of memory comes where the recovery of all went well, or before it
calm_at : {T P : Type 0} (r : Result T RereadFault) → r ≡ Err fault.Memory → OnOk (recovery_in r) P → P
calm_at r e calm = rw e at calm

pub returns-in_err-world-clause-wanting : goal.returns-in_err-world-clause-wanting
returns-in_err-world-clause-wanting g c e p = calm_at c.reopen.result (search rules) c.reopen.ensures.calm p

-- what was lent lasts through the opening
opened_lasts : (g : Over) (c : goal.After-drop-schedule-2 g) → g.C.Planned.lasts c.args.dev.now c.reopen.new.dev
opened_lasts g c = g.met.C.Planned.lasts_within c.args.dev.now c.reopen.new.dev c.reopen.ensures.continues

pub returns-clause-lasts : goal.returns-clause-lasts
returns-clause-lasts g c = g.met.C.Planned.lasts_on c.args.dev.now c.reopen.new.dev c.run.new.dev (opened_lasts g c) c.run.ensures.lasts

pub returns-clause-loan : goal.returns-clause-loan
returns-clause-loan g c = g.met.C.Planned.loan_same c.args.dev.now c.run.new.dev (g.met.C.Planned.lasts_on c.args.dev.now c.reopen.new.dev c.run.new.dev (opened_lasts g c) c.run.ensures.lasts)

pub returns-clause-others : goal.returns-clause-others
returns-clause-others g c q high = g.met.C.Checkpoint.untouched_on c.args.dev.now c.reopen.new.dev c.run.new.dev q (c.reopen.ensures.others q high)
    (c.run.ensures.others q (let long = c.in_ok-world.ensures.begins.slots_long in omega (arith, long, high)))

-- what the run is given
abbrev given : (g : Over) → goal.After-drop-schedule-2 g → Setting
given g c = setting_from c.args.scheduled (g.C.Planned.planned c.args.dev.now) c.args.earlier.now.entries

-- its entries are those behind the earlier part
abbrev behind : (g : Over) → goal.After-drop-schedule-2 g → List Entry
behind g c = take (length c.deref.result.now - c.args.earlier.now.entries) (drop c.args.earlier.now.entries c.deref.result.now)

rest : (g : Over) (c : goal.After-drop-schedule-2 g) → IsRest (given g c) (behind g c)
rest g c = ap (drop c.args.earlier.now.entries) (sym c.deref.ensures.value) ∙ rest_is c.args.earlier.now.entries c.deref.result.now

behind_long : (g : Over) (c : goal.After-drop-schedule-2 g) → length (behind g c) ≡ length c.args.scheduled.schedule.items - c.args.earlier.now.entries
behind_long g c = rest_long c.args.earlier.now.entries c.deref.result.now ∙ ap (λ xs. length xs - c.args.earlier.now.entries) c.deref.ensures.value

pub returns-clause-planned : goal.returns-clause-planned
returns-clause-planned g c p =
    let first = g.met.C.Planned.idle_none c.args.dev.now c.reopen.new.dev p c.requires.idle c.reopen.ensures.continues in
    let rest = c.run.ensures.planned p in
    let long = behind_long g c in
    let within = c.requires.taken in
    omega (arith, first, rest, long, within)

-- what was read of its stores
abbrev read : (g : Over) (c : goal.After-drop-schedule-2 g) → IsReadBeside g.C.Checkpoint (system_in (given g c)) c.args.scheduled.setup.images.items c.args.earlier.now.acts.now c.args.dev.now c.reopen.new.dev
read g c = c.in_ok-world.ensures.reopened.0

-- the core where it begins, behind these lines
abbrev start : (g : Over) → goal.After-drop-schedule-2 g → List Visible → Core
start g c lines = resumed_core (read g c).given (reverse lines) (saves_in (system_in (given g c)) (read g c).stored)

-- where the invariant holds
can_begin : (g : Over) (c : goal.After-drop-schedule-2 g) (lines : List Visible) → IsEarlier (given g c) c.args.earlier.now lines → CanBegin (given g c) (start g c lines)
can_begin g c lines earlier = can_continue g.C.Checkpoint (given g c) c.args.earlier.now lines c.args.scheduled.setup.images.items c.args.dev.now c.reopen.new.dev earlier refl (read g c) c.in_ok-world.ensures.reopened.1

-- it was told when it was opened
told_opened : (g : Over) (c : goal.After-drop-schedule-2 g) → TellsThroughout g.C.Checkpoint (length c.args.scheduled.setup.images.items) c.args.dev.now c.run.new.dev → IsTold g.C.Checkpoint (stage_in c.in_ok-world.world c.reopen.new.dev)
told_opened g c tells = told_at g.C.Checkpoint (length c.args.scheduled.setup.images.items) c.args.dev.now c.run.new.dev (stage_in c.in_ok-world.world c.reopen.new.dev) c.in_ok-world.ensures.begins.slots_long tells c.reopen.ensures.tells c.run.ensures.later

-- and it is told at its end
told_ended : (g : Over) (c : goal.After-drop-schedule-2 g) → TellsThroughout g.C.Checkpoint (length c.args.scheduled.setup.images.items) c.args.dev.now c.run.new.dev → IsTold g.C.Checkpoint (stage_in c.run.new.self.world c.run.new.dev)
told_ended g c tells = told_at g.C.Checkpoint (length c.args.scheduled.setup.images.items) c.args.dev.now c.run.new.dev (stage_in c.run.new.self.world c.run.new.dev) (c.run.ensures.long ∙ c.in_ok-world.ensures.begins.slots_long) tells
    (λ p. tells_on g.C.Checkpoint c.args.dev.now c.reopen.new.dev c.run.new.dev p (c.reopen.ensures.tells p) c.run.ensures.later (c.run.ensures.tells p)) (λ p. (omega arith, omega arith))

-- what the promise asks for: the devices tell, and the lines are those of the earlier part
record Asked (g : Over) (c : goal.After-drop-schedule-2 g) (lines : List Visible) : Type 0 where
  tells : TellsThroughout g.C.Checkpoint (length c.args.scheduled.setup.images.items) c.args.dev.now c.run.new.dev
  earlier : IsEarlier (given g c) c.args.earlier.now lines

module _ (g : Over) (c : goal.After-drop-schedule-2 g) (lines : List Visible) (asked : Asked g c lines) where
  can : CanBegin (given g c) (start g c lines)
  can = can_begin g c lines asked.earlier

  begun : IsRunning g.C.Checkpoint (given g c) (start g c lines) (stage_in c.in_ok-world.world c.reopen.new.dev) c.in_ok-marks.marks.items (output (g.O.Sink.held c.args.out.now) (g.O.Sink.held c.args.out.now))
  begun = begun_running g.C.Checkpoint (given g c) (start g c lines) (stage_in c.in_ok-world.world c.reopen.new.dev) c.in_ok-marks.marks.items (g.O.Sink.held c.args.out.now)
      c.in_ok-world.ensures.begins.protocol_is c.in_ok-world.ensures.begins.inputs_are c.in_ok-world.ensures.begins.entries_are c.in_ok-marks.ensures.items
      (over_in g.C.Checkpoint (given g c) c.args.scheduled.setup.images.items c.in_ok-world.world.stores.items refl c.in_ok-world.ensures.over)
      (c.in_ok-world.ensures.reopened.2 c.args.scheduled.seven (reverse lines) (length-reverse lines ∙ asked.earlier.count))

  -- so it has come to where it begins
  has_come : HasCome g.C.Checkpoint (given g c) (start g c lines) (g.O.Sink.held c.args.out.now) (moment (stage_in c.in_ok-world.world c.reopen.new.dev) c.in_ok-marks.marks.items (g.O.Sink.held c.args.out.now)) (moment_of c.run.new.self c.run.new.dev (g.O.Sink.held c.run.new.out))
  has_come = record { can = can; told = told_opened g c asked.tells; tells = told_ended g c asked.tells; running = begun }

  -- the first moment is behind the opening
  first_moment : Moments (given g c) (start_at (given g c) (start g c lines)) (λ core d. StoresLeft g.C.Checkpoint (given g c) core d) g.C.Planned.calls c.args.dev.now (reverse c.in_ok-marks.marks.items) c.reopen.new.dev
  first_moment =
      let shown = moment_is g.C.Checkpoint (given g c) (start g c lines) c.in_ok-world.world.stores.items c.reopen.new.dev c.in_ok-world.world.processes c.in_ok-marks.marks.items (output (g.O.Sink.held c.args.out.now) (g.O.Sink.held c.args.out.now)) begun c.in_ok-world.ensures.ready in
      let none = c.in_ok-marks.ensures.items in
      subst (λ ms. Moments (given g c) (start_at (given g c) (start g c lines)) (λ core d. StoresLeft g.C.Checkpoint (given g c) core d) g.C.Planned.calls c.args.dev.now (reverse ms) c.reopen.new.dev) (sym none) (
        λ p less. g.met.C.Planned.calls_later c.args.dev.now c.reopen.new.dev p (opened_lasts g c),
        subst (λ ms. IsMoment (given g c) (start_at (given g c) (start g c lines)) (λ core d. StoresLeft g.C.Checkpoint (given g c) core d) (reverse ms) c.reopen.new.dev) none shown,
      )

-- the plan is that of the world that was opened
plan_kept : (g : Over) (c : goal.After-drop-schedule-2 g) → g.C.Planned.planned c.args.dev.now ≡ g.C.Planned.planned c.reopen.new.dev
plan_kept g c = sym (g.met.C.Planned.planned_same c.args.dev.now c.reopen.new.dev (opened_lasts g c))

-- the run that goes on is one of what it was given
setting_is : (g : Over) (c : goal.After-drop-schedule-2 g) → IsSettingOf (record { world = c.in_ok-world.world; marks = c.in_ok-marks.marks; journal = c.in_ok-journal.journal; from = c.args.earlier.now.entries }) (given g c)
setting_is g c = record { protocol_is = sym c.in_ok-world.ensures.begins.protocol_is; images_long = length-map c.args.scheduled.setup.images.items seen_image ∙ sym c.in_ok-world.ensures.begins.slots_long; from_is = refl }

-- the stops that no plan lists
stops_told : (g : Over) (c : goal.After-drop-schedule-2 g) → TellsThroughout g.C.Checkpoint (length c.args.scheduled.setup.images.items) c.args.dev.now c.run.new.dev → (p : ℕ) → p < length (given g c).images
    → IsCountedOn (given g c) p [] c.run.new.self.marks.items (g.C.Planned.unplanned c.args.dev.now) (g.C.Planned.unplanned c.run.new.dev)
stops_told g c tells p less =
    let first = sum_later (given g c).protocol p (g.C.Planned.unplanned c.args.dev.now) (g.C.Planned.unplanned c.reopen.new.dev) (λ q. g.met.C.Planned.unplanned_later c.args.dev.now c.reopen.new.dev q (opened_lasts g c)) (length (given g c).images) in
    let rest = c.run.ensures.stops (given g c) p (setting_is g c) (plan_kept g c) (rest g c) (λ q there. tells.stops q (subst (λ n. q < n) (length-map c.args.scheduled.setup.images.items seen_image) there)) in
    let none : unplanned (given g c) p (reverse c.in_ok-marks.marks.items) ≡ 0 = ap (λ ms. unplanned (given g c) p (reverse ms)) c.in_ok-marks.ensures.items in
    omega (arith, first, rest, none)

-- the moments up to where the marks end
abbrev Come : (g : Over) (c : goal.After-drop-schedule-2 g) (lines : List Visible) (last : Last) → Type 0
Come g c lines last = PlannedCome (given g c) (start_at (given g c) (start g c lines)) (λ core d. StoresLeft g.C.Checkpoint (given g c) core d) (counts_of g.C.Planned.unplanned g.C.Planned.calls c.args.dev.now c.run.new.dev) last c.run.new.self.marks.items

-- its last entry went so, and it ended so
course : (g : Over) (c : goal.After-drop-schedule-2 g) (lines : List Visible) (asked : Asked g c lines) (ending : Ending) → c.match-run.ending ≡ ending → (last : Last)
    (ended : IsEnded g.C.Checkpoint (given g c) (start g c lines) (stage_in c.run.new.self.world c.run.new.dev) c.run.new.self.marks.items last (output (g.O.Sink.held c.args.out.now) (g.O.Sink.held c.run.new.out)))
    → IsEnding (given g c) ending c.run.new.self.marks.items last ended.core → Come g c lines last
    → IsCourseOn (given g c) lines (start g c lines) (account_of c.course.result) c.course.result.ending (output (g.O.Sink.held c.args.out.now) (g.O.Sink.held c.run.new.out)) (counts_of g.C.Planned.unplanned g.C.Planned.calls c.args.dev.now c.run.new.dev)
    (λ core d. StoresLeft g.C.Checkpoint (given g c) core d)
course g c lines asked ending same last ended is come =
    let out = output (g.O.Sink.held c.args.out.now) (g.O.Sink.held c.run.new.out) in
    let counts = counts_of g.C.Planned.unplanned g.C.Planned.calls c.args.dev.now c.run.new.dev in
    let w = c.run.new.self.world in
    let begun = start g c lines in
    subst (λ (o : Course). IsCourseOn (given g c) lines begun (account_of o) o.ending out counts (λ core d. StoresLeft g.C.Checkpoint (given g c) core d)) (sym c.course.ensures)
    (subst (λ e. IsCourseOn (given g c) lines begun (record { acts = w.processes.acts.items; marks = c.run.new.self.marks.items; lines = w.processes.lines; journal = journal_in c.run.new.self.journal }) e out counts (λ core d. StoresLeft g.C.Checkpoint (given g c) core d)) (sym same)
    (course_on g.C.Checkpoint (given g c) lines begun (can g c lines asked) (λ q. refl) refl w.stores.items c.run.new.dev w.processes c.run.new.self.marks.items last out ended (journal_in c.run.new.self.journal) counts ending c.run.ensures.ready
    (c.run.ensures.long ∙ c.in_ok-world.ensures.begins.slots_long ∙ sym (length-map c.args.scheduled.setup.images.items seen_image)) refl is (stops_told g c asked.tells) come))

pub returns-clause-headline : goal.returns-clause-headline
returns-clause-headline g c = λ tells lines earlier.
    let asked : Asked g c lines = record { tells = tells; earlier = earlier } in
    let setting = given g c in
    let begun_at = start g c lines in
    let held = g.O.Sink.held c.args.out.now in
    let begins = can g c lines asked in
    let opened = told_opened g c tells in
    let come_there = has_come g c lines asked in
    let first = first_moment g c lines asked in (
      c.reopen.new.dev,
      c.reopen.ensures.continues,
      λ p less. opened.told p (subst (λ n. p < n) (sym c.in_ok-world.ensures.begins.slots_long) less),
      read g c,
      elim c.match-run.branch [
        | in-Ok w ↦ (
            let x = stage_in c.run.new.self.world c.run.new.dev in
            let out = output held (g.O.Sink.held c.run.new.out) in
            let marks = c.run.new.self.marks.items in
            let r : IsRunning g.C.Checkpoint setting begun_at x marks out = w.in-Ok.ensures.runs_on setting begun_at held come_there (rest g c) in
            let all = w.in-Ok.ensures.used (uncut c.run.new.self (c.run.ensures.kept ∙ c.in_ok-journal.ensures.kept)) in
            let within = c.requires.taken in
            let used : turn_after setting marks ≡ length setting.schedule = omega (arith, all, behind_long g c, within) in
            let have = w.ended.ensures.core c.run.new.dev setting.images r.core c.run.ensures.ready (now_world g.C.Checkpoint setting begun_at begins x marks out r) in
            let came = ending_whole g.C.Checkpoint setting begun_at (moment_of c.run.new.self c.run.new.dev (g.O.Sink.held c.run.new.out)) held w.ended.result r
            (subst (λ i. HaveEnded w.ended.result (guests_of setting.images i) r.core) r.of.inputs_are have) used in
            let come = w.in-Ok.ensures.come setting begun_at (setting_is g c) (plan_kept g c) (rest g c) c.args.dev.now held come_there first in
            course g c lines asked _ (w.ending-is ∙ w.ended-ending.ensures) came.last came.ended came.is (record { now = come.0; moments = come.1; later = come.2; whole = λ e. come.3 refl }))
        | in-Err w ↦ (
            let came = ending_broken g.C.Checkpoint setting begun_at (moment_of c.run.new.self c.run.new.dev (g.O.Sink.held c.run.new.out)) held w.in-Err.fault
            (w.in-Err.ensures.runs_off w.in-Err.fault refl setting begun_at held come_there (rest g c)) in
            let come = w.in-Err.ensures.come setting begun_at (setting_is g c) (plan_kept g c) (rest g c) c.args.dev.now held come_there first in
            course g c lines asked _ (w.ending-is ∙ w.ended_by-ending.ensures) came.last came.ended came.is (record { now = come.0; moments = come.1; later = come.2; whole = λ e. absurd (came.broken e) }))
      ],
    )
