use Rattle.std.proofs.Common.{◌≡◌, ◌⊎◌, ◌∙◌, inr, [], None, Some, IfSome, ⊎_elim, ◌≤◌, ◌<◌, ◌+◌, ◌-◌, ◌^◌, ℕ, Bool, true, false, Err, ap, arith, inl, length, refl, reverse, subst, sym}
use Rattle.std.proofs.lemmas.Bool.{cases_Bool, cases_lt, true≢false}
use Rattle.std.proofs.lemmas.List.{length-map}
use Rattle.dc_course.proofs.Between.{tells_on}
use Rattle.dc_course.proofs.Counting.{sum_later, sum_rises}
use Rattle.dc_course.proofs.Ups.{up_in, up_past, up_there, up_together}
use Rattle.dc_course.proofs.Steps.{now_world, sound}
use Rattle.dc_course.proofs.Tracing.{moment_is}
use Rattle.dc_course.proofs.Partaking.{cut_none, cut_some, said_of}
use Rattle.dc_course.proofs.Journaling.{if_kept}
use Rattle.dc_course.proofs.Whole.{course_is, ending_broken, ending_cut, ending_whole, begun_running, over_in, told_at, up_as}
use Rattle.dc_course.specs.Journals.{AreCutAtStop, AreUpUnless, EndsAtFirstStop, IsJournalOf, unstopped_front}
use Rattle.dc_media.specs.Causes.{Rose}
use Rattle.dc_recovery.specs.Turned.{LeadsTo}
use Rattle.dc_recovery.specs.Unstopped.{AreTurns, Unstopped}
use Rattle.dc_course.specs.declared.ending.Ending.TheVariants as ending
use Rattle.dc_world.specs.declared.faults.TurnFault.{TurnFault}
use Rattle.dc_world.specs.declared.faults.TurnFault.TheVariants as fault
use Rattle.dc_course.specs.Headline.{AreUpAlike, IsEnding, Last, Setting, StopsTold, counted_with, late, system_in, unplanned}
use Rattle.dc_course.specs.Courses.{IsCourse, PlannedCome, StoresLeft, TellsThroughout, account_of, counts_of, ending_by, ending_of, journal_in, setting_on}
use Rattle.dc_course.specs.Moments.{IsMoment, Moments}
use Rattle.dc_course.specs.Running.{CanBegin, HasCome, IsEnded, IsRest, IsRunning, IsSettingOf, moment, moment_of, output}
use Rattle.dc_course.specs.declared.course.Course.{Course}
use Rattle.dc_course.specs.declared.ending.Ending.{Ending}
use Rattle.dc_guest.specs.Guest.{guests_of}
use Rattle.dc_elf.specs.Loaded.{seen_image}
use Rattle.dc_recovery.proofs.Ends.{holds_opened}
use Rattle.dc_recovery.specs.Core.{Core, opened_core, opening}
use Rattle.dc_world.specs.Ended.{HaveEnded}
use Rattle.dc_processes.specs.Slots.{is_up, slot_at}
use Rattle.dc_processes.specs.Stages.{IsTold}
use Rattle.dc_world.specs.Worlds.{stage_in}
use Rattle.dc_world.specs.declared.faults.OpenFault.TheVariants as opening
use Rattle.dc_course.proofs.course.run.Goals.{in-Ok-run+in-None, in-Ok-run+in-Some, in-Err-run}
use Rattle.dc_course.proofs.course.run.Given.{Over}
use Rattle.dc_course.proofs.course.run.Goals as goal

pub returns-in-Err-clause-failed : goal.returns-in-Err-clause-failed
returns-in-Err-clause-failed g c p e = c.in-Err.ensures.failed p (let same : c.in-Err.fault ≡ opening.Failed p = cc in ap Err same)

pub returns-in_err-marks-clause-wanting : goal.returns-in_err-marks-clause-wanting
returns-in_err-marks-clause-wanting g c e p = inl (refl, refl)

pub returns-in_err-marks-clause-unplanned : goal.returns-in_err-marks-clause-unplanned
returns-in_err-marks-clause-unplanned g c e p = omega arith

pub returns-in-Err-clause-wanting : goal.returns-in-Err-clause-wanting
returns-in-Err-clause-wanting g c e p = c.in-Err.ensures.wanting (let same : c.in-Err.fault ≡ opening.Memory = cc in ap Err same) p

pub returns-in-Err-clause-unplanned : goal.returns-in-Err-clause-unplanned
returns-in-Err-clause-unplanned g c e p = g.met.C.Planned.idle_none c.args.dev.now c.open.new.dev p c.requires.idle c.open.ensures.continues

pub returns-clause-lasts : goal.returns-clause-lasts
returns-clause-lasts g c = g.met.C.Planned.lasts_on c.args.dev.now c.open.new.dev c.run.new.dev (g.met.C.Planned.lasts_within c.args.dev.now c.open.new.dev c.open.ensures.continues) c.run.ensures.lasts

pub returns-clause-loan : goal.returns-clause-loan
returns-clause-loan g c = g.met.C.Planned.loan_same c.args.dev.now c.run.new.dev
    (g.met.C.Planned.lasts_on c.args.dev.now c.open.new.dev c.run.new.dev (g.met.C.Planned.lasts_within c.args.dev.now c.open.new.dev c.open.ensures.continues) c.run.ensures.lasts)

pub returns-clause-others : goal.returns-clause-others
returns-clause-others g c q high = g.met.C.Checkpoint.untouched_on c.args.dev.now c.open.new.dev c.run.new.dev q (c.open.ensures.others q high)
    (c.run.ensures.others q (let long = c.in-Ok.ensures.begins.slots_long in omega (arith, long, high)))

-- what the run was given
abbrev given : (g : Over) → goal.After-drop-schedule-2 g → Setting
given g c = setting_on c.args.scheduled (g.C.Planned.planned c.args.dev.now)

-- its entries are all of the schedule
rest : (g : Over) (c : goal.After-drop-schedule-2 g) → IsRest (given g c) c.deref.result.now
rest g c = sym c.deref.ensures.value

-- which processes are up when it begins
abbrev up : (g : Over) → goal.After-drop-schedule-2 g → ℕ → Bool
up g c = up_in c.args.scheduled.setup.protocol (length c.args.scheduled.setup.images.items) c.in-Ok.world.processes.slots.items

-- of a process that is there
up_is : (g : Over) (c : goal.After-drop-schedule-2 g) (p : ℕ) → p < length c.args.scheduled.setup.images.items → up g c p ≡ is_up (slot_at c.in-Ok.world.processes.slots.items p)
up_is g c p less = up_there c.args.scheduled.setup.protocol (length c.args.scheduled.setup.images.items) c.in-Ok.world.processes.slots.items p less

-- where all commit together, all or none
up_alike : (g : Over) (c : goal.After-drop-schedule-2 g) → AreUpAlike (given g c) (up g c)
up_alike g c together = up_together c.args.scheduled.setup.protocol (length c.args.scheduled.setup.images.items) c.in-Ok.world.processes.slots.items c.in-Ok.ensures.begins.slots_long c.args.scheduled.setup.some together (c.in-Ok.ensures.alike together)

-- where all that are there are, what is not there is too
up_beyond : (g : Over) (c : goal.After-drop-schedule-2 g) → ((p : ℕ) → p < length (given g c).images → up g c p ≡ true) → (p : ℕ) → length (given g c).images ≤ p → up g c p ≡ true
up_beyond g c below p high =
    let long = length-map c.args.scheduled.setup.images.items seen_image in
    up_past c.args.scheduled.setup.protocol (length c.args.scheduled.setup.images.items) c.in-Ok.world.processes.slots.items (up_is g c 0 c.args.scheduled.setup.some) (below 0 (subst (λ n. 0 < n) (sym long) c.args.scheduled.setup.some)) p (subst (λ n. n ≤ p) long high)

-- the core where it begins
abbrev start : (g : Over) → goal.After-drop-schedule-2 g → Core
start g c = opened_core (up g c)

-- where the invariant holds
can_begin : (g : Over) (c : goal.After-drop-schedule-2 g) → CanBegin (given g c) (start g c)
can_begin g c = holds_opened (system_in (given g c)) (sound (given g c)) (given g c).schedule (up g c) (up_alike g c)

-- it was told when it was opened
told_opened : (g : Over) (c : goal.After-drop-schedule-2 g) → TellsThroughout g.C.Checkpoint (length c.args.scheduled.setup.images.items) c.args.dev.now c.run.new.dev → IsTold g.C.Checkpoint (stage_in c.in-Ok.world c.open.new.dev)
told_opened g c tells = told_at g.C.Checkpoint (length c.args.scheduled.setup.images.items) c.args.dev.now c.run.new.dev (stage_in c.in-Ok.world c.open.new.dev) c.in-Ok.ensures.begins.slots_long tells c.open.ensures.tells c.run.ensures.later

-- and it is told at its end
told_ended : (g : Over) (c : goal.After-drop-schedule-2 g) → TellsThroughout g.C.Checkpoint (length c.args.scheduled.setup.images.items) c.args.dev.now c.run.new.dev → IsTold g.C.Checkpoint (stage_in c.run.new.self.world c.run.new.dev)
told_ended g c tells = told_at g.C.Checkpoint (length c.args.scheduled.setup.images.items) c.args.dev.now c.run.new.dev (stage_in c.run.new.self.world c.run.new.dev) (c.run.ensures.long ∙ c.in-Ok.ensures.begins.slots_long) tells
    (λ p. tells_on g.C.Checkpoint c.args.dev.now c.open.new.dev c.run.new.dev p (c.open.ensures.tells p) c.run.ensures.later (c.run.ensures.tells p)) (λ p. (omega arith, omega arith))

-- it began
begun : (g : Over) (c : goal.After-drop-schedule-2 g) → TellsThroughout g.C.Checkpoint (length c.args.scheduled.setup.images.items) c.args.dev.now c.run.new.dev
    → IsRunning g.C.Checkpoint (given g c) (start g c) (stage_in c.in-Ok.world c.open.new.dev) c.in_ok-marks.marks.items (output (g.O.Sink.held c.args.out.now) (g.O.Sink.held c.args.out.now))
begun g c tells = begun_running g.C.Checkpoint (given g c) (start g c) (stage_in c.in-Ok.world c.open.new.dev) c.in_ok-marks.marks.items (g.O.Sink.held c.args.out.now)
    c.in-Ok.ensures.begins.protocol_is c.in-Ok.ensures.begins.inputs_are c.in-Ok.ensures.begins.entries_are c.in_ok-marks.ensures.items
    (over_in g.C.Checkpoint (given g c) c.args.scheduled.setup.images.items c.in-Ok.world.stores.items refl c.in-Ok.ensures.over)
    (up_as g.C.Checkpoint (system_in (given g c)) (stage_in c.in-Ok.world c.open.new.dev) (λ p. is_up (slot_at c.in-Ok.world.processes.slots.items p)) (up g c)
    (λ p inside. up_is g c p (subst (λ n. p < n) (length-map c.args.scheduled.setup.images.items seen_image) inside)) (c.in-Ok.ensures.opened c.args.scheduled.seven (told_opened g c tells)))

-- so it has come to where it begins
has_come : (g : Over) (c : goal.After-drop-schedule-2 g) → TellsThroughout g.C.Checkpoint (length c.args.scheduled.setup.images.items) c.args.dev.now c.run.new.dev
    → HasCome g.C.Checkpoint (given g c) (start g c) (g.O.Sink.held c.args.out.now) (moment (stage_in c.in-Ok.world c.open.new.dev) c.in_ok-marks.marks.items (g.O.Sink.held c.args.out.now)) (moment_of c.run.new.self c.run.new.dev (g.O.Sink.held c.run.new.out))
has_come g c tells = record { can = can_begin g c; told = told_opened g c tells; tells = told_ended g c tells; running = begun g c tells }

-- the stops of a process that are not planned, and of those that stop with it
abbrev stops : (g : Over) → goal.After-drop-schedule-2 g → (ℕ → ℕ) → ℕ → ℕ
stops g c count p = counted_with (given g c).protocol p count (length (given g c).images)

-- what was lent lasts through the opening
opened_lasts : (g : Over) (c : goal.After-drop-schedule-2 g) → g.C.Planned.lasts c.args.dev.now c.open.new.dev
opened_lasts g c = g.met.C.Planned.lasts_within c.args.dev.now c.open.new.dev c.open.ensures.continues

-- the plan is that of the world that was opened
plan_kept : (g : Over) (c : goal.After-drop-schedule-2 g) → g.C.Planned.planned c.args.dev.now ≡ g.C.Planned.planned c.open.new.dev
plan_kept g c = sym (g.met.C.Planned.planned_same c.args.dev.now c.open.new.dev (opened_lasts g c))

-- a process of the run is below the number of its guests
inside : (g : Over) (c : goal.After-drop-schedule-2 g) (p : ℕ) → p < length (given g c).images → p < length c.args.scheduled.setup.images.items
inside g c p less = subst (λ n. p < n) (length-map c.args.scheduled.setup.images.items seen_image) less

-- a process that is down at the beginning was stopped as its store was made, or one that stops with it was
late_told : (g : Over) (c : goal.After-drop-schedule-2 g) → TellsThroughout g.C.Checkpoint (length c.args.scheduled.setup.images.items) c.args.dev.now c.run.new.dev → (p : ℕ) → p < length c.args.scheduled.setup.images.items → (b : Bool) → up g c p ≡ b
    → stops g c (g.C.Planned.unplanned c.args.dev.now) p + late b ≤ stops g c (g.C.Planned.unplanned c.open.new.dev) p
late_told g c tells p less true is =
    let later = sum_later (given g c).protocol p (g.C.Planned.unplanned c.args.dev.now) (g.C.Planned.unplanned c.open.new.dev) (λ q. g.met.C.Planned.unplanned_later c.args.dev.now c.open.new.dev q (opened_lasts g c)) (length (given g c).images) in omega (arith, later)
late_told g c tells p less false is =
    let stop = c.in-Ok.ensures.stopped p less (sym (up_is g c p less) ∙ is) in
    let q = stop.0 in
    let below : g.C.Checkpoint.stops c.open.new.dev q < 2 ^ 64 - 1 = (let later = c.run.ensures.later q in let last = tells.stops q stop.1 in omega (arith, later.0, last)) in
    let rose = g.met.C.Planned.idle_stopped c.args.dev.now c.open.new.dev q c.requires.idle c.open.ensures.continues stop.3 below in
    let rises = sum_rises (given g c).protocol p (g.C.Planned.unplanned c.args.dev.now) (g.C.Planned.unplanned c.open.new.dev) (λ r. g.met.C.Planned.unplanned_later c.args.dev.now c.open.new.dev r (opened_lasts g c)) q stop.2 rose
    (length (given g c).images) (subst (λ n. q < n) (sym (length-map c.args.scheduled.setup.images.items seen_image)) stop.1) in omega (arith, rises)

-- the run that was opened is one of what it was given
setting_is : (g : Over) (c : goal.After-drop-schedule-2 g) → IsSettingOf (record { world = c.in-Ok.world; marks = c.in_ok-marks.marks; journal = c.in_ok-journal.journal; from = 0 }) (given g c)
setting_is g c = record { protocol_is = sym c.in-Ok.ensures.begins.protocol_is; images_long = length-map c.args.scheduled.setup.images.items seen_image ∙ sym c.in-Ok.ensures.begins.slots_long; from_is = refl }

-- the stops that no plan lists
stops_told : (g : Over) (c : goal.After-drop-schedule-2 g) → TellsThroughout g.C.Checkpoint (length c.args.scheduled.setup.images.items) c.args.dev.now c.run.new.dev
    → StopsTold (given g c) (up g c) c.run.new.self.marks.items (g.C.Planned.unplanned c.args.dev.now) (g.C.Planned.unplanned c.run.new.dev)
stops_told g c tells p less =
    let first = late_told g c tells p (inside g c p less) (up g c p) refl in
    let rest = c.run.ensures.stops (given g c) p (setting_is g c) (plan_kept g c) (rest g c) (λ q there. tells.stops q (inside g c q there)) in
    let none : unplanned (given g c) p (reverse c.in_ok-marks.marks.items) ≡ 0 = ap (λ ms. unplanned (given g c) p (reverse ms)) c.in_ok-marks.ensures.items in
    omega (arith, first, rest, none)

-- the first moment is behind the opening
first_moment : (g : Over) (c : goal.After-drop-schedule-2 g) → TellsThroughout g.C.Checkpoint (length c.args.scheduled.setup.images.items) c.args.dev.now c.run.new.dev
    → Moments (given g c) (opening (up g c)) (λ core d. StoresLeft g.C.Checkpoint (given g c) core d) g.C.Planned.calls c.args.dev.now (reverse c.in_ok-marks.marks.items) c.open.new.dev
first_moment g c tells =
    let shown = moment_is g.C.Checkpoint (given g c) (start g c) c.in-Ok.world.stores.items c.open.new.dev c.in-Ok.world.processes c.in_ok-marks.marks.items (output (g.O.Sink.held c.args.out.now) (g.O.Sink.held c.args.out.now)) (begun g c tells) c.in-Ok.ensures.ready in
    let none = c.in_ok-marks.ensures.items in
    subst (λ ms. Moments (given g c) (opening (up g c)) (λ core d. StoresLeft g.C.Checkpoint (given g c) core d) g.C.Planned.calls c.args.dev.now (reverse ms) c.open.new.dev) (sym none) (
      λ p less. g.met.C.Planned.calls_later c.args.dev.now c.open.new.dev p (opened_lasts g c),
      subst (λ ms. IsMoment (given g c) (opening (up g c)) (λ core d. StoresLeft g.C.Checkpoint (given g c) core d) (reverse ms) c.open.new.dev) none shown,
    )

-- the moments up to where the marks end
pub record Traced (g : Over) (c : goal.After-drop-schedule-2 g) (last : Last) : Type 0 where
  pub come : PlannedCome (given g c) (opening (up g c)) (λ core d. StoresLeft g.C.Checkpoint (given g c) core d) (counts_of g.C.Planned.unplanned g.C.Planned.calls c.args.dev.now c.run.new.dev) last c.run.new.self.marks.items

-- each process is up when the run begins, unless one was stopped
up_unless : (g : Over) (c : goal.After-drop-schedule-2 g) → AreUpUnless c.in-Ok.world.stopped (up g c)
up_unless g c none p =
    let n = length c.args.scheduled.setup.images.items in
    let slots = c.in-Ok.world.processes.slots.items in
    let below : (q : ℕ) → q < n → up g c q ≡ true = (λ q less. up_is g c q less ∙ c.in-Ok.ensures.unstopped none q (subst (λ m. q < m) (sym c.in-Ok.ensures.begins.slots_long) less)) in
    ⊎_elim (λ (less : p < n). below p less) (λ (high : n ≤ p). up_past c.args.scheduled.setup.protocol n slots (up_is g c 0 c.args.scheduled.setup.some) (below 0 c.args.scheduled.setup.some) p high) (cases_lt p n)

-- the journal begins with nothing
journal_begins : (g : Over) (c : goal.After-drop-schedule-2 g) → IsJournalOf (given g c) (up g c) c.in_ok-marks.marks.items c.in_ok-journal.journal.lines.items
journal_begins g c = record {
  core = start g c;
  led = subst (λ ms. LeadsTo (system_in (given g c)) (given g c).schedule (opening (up g c)) (reverse (unstopped_front ms)) (start g c)) (sym c.in_ok-marks.ensures.items) refl;
  lines_are = c.in_ok-journal.ensures.lines;
}

-- a journal that is kept is what its entries left
noted : (g : Over) (c : goal.After-drop-schedule-2 g) (ending : Ending) → (c.in_ok-journal.journal.kept ≡ true → EndsAtFirstStop ending (up g c) c.run.new.self.marks.items)
    → TellsThroughout g.C.Checkpoint (length c.args.scheduled.setup.images.items) c.args.dev.now c.run.new.dev → AreTurns (given g c).schedule
    → IfSome (journal_in c.run.new.self.journal) (λ lines. EndsAtFirstStop ending (up g c) c.run.new.self.marks.items × IsJournalOf (given g c) (up g c) c.run.new.self.marks.items lines)
noted g c ending ends tells turns =
    if_kept c.run.new.self.journal (λ lines. EndsAtFirstStop ending (up g c) c.run.new.self.marks.items × IsJournalOf (given g c) (up g c) c.run.new.self.marks.items lines) (λ keeps.
    let kept : c.in_ok-journal.journal.kept ≡ true = sym c.run.ensures.kept ∙ keeps in (
      ends kept,
      c.run.ensures.journal kept (given g c) (up g c) (g.O.Sink.held c.args.out.now) (has_come g c tells) refl (rest g c) turns (up_unless g c) (journal_begins g c),
    ))

-- it was not stopped, where its schedule was used up
ends_whole : (g : Over) (c : goal.After-drop-schedule-2 g) (b : Bool) → (c.in-Ok.world.stopped ≡ None) × Unstopped c.run.new.self.marks.items → EndsAtFirstStop (ending_of b) (up g c) c.run.new.self.marks.items
ends_whole g c true whole = (up_unless g c whole.0, whole.1)
ends_whole g c false whole = (up_unless g c whole.0, whole.1)

-- nor where a fault ended it
ends_broken : (g : Over) (c : goal.After-drop-schedule-2 g) (f : TurnFault) → (c.in-Ok.world.stopped ≡ None) × Unstopped c.run.new.self.marks.items → EndsAtFirstStop (ending_by f) (up g c) c.run.new.self.marks.items
ends_broken g c (fault.Device p) whole = (up_unless g c whole.0, whole.1)
ends_broken g c (fault.Store p why) whole = (up_unless g c whole.0, whole.1)
ends_broken g c fault.Sink whole = (up_unless g c whole.0, whole.1)

-- whose device was stopped, and when: in the opening, and no entry was run, or in the last entry
abbrev Stop : (g : Over) → goal.After-drop-schedule-2 g → ℕ → Type 0
Stop g c p = ((c.in-Ok.world.stopped ≡ Some p) × (c.run.new.self.marks.items ≡ []))
    ⊎ ((c.in-Ok.world.stopped ≡ None) × (p < length c.in-Ok.world.processes.slots.items) × Rose (g.C.Checkpoint.stops c.open.new.dev p) (g.C.Checkpoint.stops c.run.new.dev p) × AreCutAtStop c.run.new.self.marks.items)

-- it is that of a process that is there
stop_inside : (g : Over) (c : goal.After-drop-schedule-2 g) (p : ℕ) → Stop g c p → p < length c.args.scheduled.setup.images.items
stop_inside g c p (inl first) = (said_of c.in-Ok.world.stopped p _ first.0 c.in-Ok.ensures.stopped_first).0
stop_inside g c p (inr then) = subst (λ n. p < n) c.in-Ok.ensures.begins.slots_long then.1

-- one whose device was stopped in the opening is down
down_first : (g : Over) (c : goal.After-drop-schedule-2 g) (p : ℕ) → TellsThroughout g.C.Checkpoint (length c.args.scheduled.setup.images.items) c.args.dev.now c.run.new.dev → c.in-Ok.world.stopped ≡ Some p → up g c p ≡ false
down_first g c p tells first =
    let stopped = said_of c.in-Ok.world.stopped p _ first c.in-Ok.ensures.stopped_first in
    let small = tells.stops p stopped.0 in
    let later = (c.run.ensures.later p).0 in
    let rose = stopped.1 in
    up_is g c p stopped.0 ∙ ⊎_elim
    (λ (on : is_up (slot_at c.in-Ok.world.processes.slots.items p) ≡ true). let calm = (c.in-Ok.ensures.calm p stopped.0 on).0 in absurd (omega (arith, small, later, rose, calm)))
    (λ off. off) (cases_Bool (is_up (slot_at c.in-Ok.world.processes.slots.items p)))

-- where one was stopped it ends there
ends_cut : (g : Over) (c : goal.After-drop-schedule-2 g) (p : ℕ) → TellsThroughout g.C.Checkpoint (length c.args.scheduled.setup.images.items) c.args.dev.now c.run.new.dev → Stop g c p → EndsAtFirstStop (ending.Stopped p) (up g c) c.run.new.self.marks.items
ends_cut g c p tells (inl first) = inl (down_first g c p tells first.0, first.1)
ends_cut g c p tells (inr then) = inr (up_unless g c then.0, then.3)

-- its last entry went so, and it ended so
course : (g : Over) (c : goal.After-drop-schedule-2 g) (tells : TellsThroughout g.C.Checkpoint (length c.args.scheduled.setup.images.items) c.args.dev.now c.run.new.dev) (ending : Ending) → c.match-run.ending ≡ ending → (last : Last)
    (ended : IsEnded g.C.Checkpoint (given g c) (start g c) (stage_in c.run.new.self.world c.run.new.dev) c.run.new.self.marks.items last (output (g.O.Sink.held c.args.out.now) (g.O.Sink.held c.run.new.out)))
    → IsEnding (given g c) ending c.run.new.self.marks.items last ended.core → (c.in_ok-journal.journal.kept ≡ true → EndsAtFirstStop ending (up g c) c.run.new.self.marks.items) → Traced g c last
    → IsCourse (given g c) (account_of c.course.result) c.course.result.ending (output (g.O.Sink.held c.args.out.now) (g.O.Sink.held c.run.new.out)) (counts_of g.C.Planned.unplanned g.C.Planned.calls c.args.dev.now c.run.new.dev)
    (λ core d. StoresLeft g.C.Checkpoint (given g c) core d)
course g c tells ending same last ended is ends traced =
    let out = output (g.O.Sink.held c.args.out.now) (g.O.Sink.held c.run.new.out) in
    let counts = counts_of g.C.Planned.unplanned g.C.Planned.calls c.args.dev.now c.run.new.dev in
    let w = c.run.new.self.world in
    subst (λ (o : Course). IsCourse (given g c) (account_of o) o.ending out counts (λ core d. StoresLeft g.C.Checkpoint (given g c) core d)) (sym c.course.ensures)
    (subst (λ e. IsCourse (given g c) (record { acts = w.processes.acts.items; marks = c.run.new.self.marks.items; lines = w.processes.lines; journal = journal_in c.run.new.self.journal }) e out counts (λ core d. StoresLeft g.C.Checkpoint (given g c) core d)) (sym same)
    (course_is g.C.Checkpoint (given g c) (up g c) (up_alike g c) refl w.stores.items c.run.new.dev w.processes c.run.new.self.marks.items last out ended c.run.ensures.ready
    (c.run.ensures.long ∙ c.in-Ok.ensures.begins.slots_long ∙ sym (length-map c.args.scheduled.setup.images.items seen_image)) (up_beyond g c) counts ending refl is (stops_told g c tells) traced.come (journal_in c.run.new.self.journal) (noted g c ending ends tells)))

pub returns-clause-headline : goal.returns-clause-headline
returns-clause-headline g c tells = elim c.match-run.branch [
  | in-Ok-run+in-None w ↦ (
      let x = stage_in c.run.new.self.world c.run.new.dev in
      let out = output (g.O.Sink.held c.args.out.now) (g.O.Sink.held c.run.new.out) in
      let marks = c.run.new.self.marks.items in
      let images = (given g c).images in
      let r : IsRunning g.C.Checkpoint (given g c) (start g c) x marks out = w.in-Ok-run.ensures.runs_on (given g c) (start g c) (g.O.Sink.held c.args.out.now) (has_come g c tells) (rest g c) in
      let have = w.ended.ensures.core c.run.new.dev images r.core c.run.ensures.ready (now_world g.C.Checkpoint (given g c) (start g c) (can_begin g c) x marks out r) in
      let came = ending_whole g.C.Checkpoint (given g c) (start g c) (moment_of c.run.new.self c.run.new.dev (g.O.Sink.held c.run.new.out)) (g.O.Sink.held c.args.out.now) w.ended.result r
      (subst (λ i. HaveEnded w.ended.result (guests_of images i) r.core) r.of.inputs_are have) (let used = w.in-Ok-run.ensures.used (sym w.cut_by.ensures ∙ w.in-None.is) in omega (arith, used)) in
      course g c tells _ (w.ending-is ∙ w.ended-in-None.ensures) came.last came.ended came.is
      (λ kept. ends_whole g c w.ended.result (w.in-Ok-run.ensures.whole (cut_none c.run.new.self (c.run.ensures.kept ∙ kept) (sym w.cut_by.ensures ∙ w.in-None.is))))
      (let come = w.in-Ok-run.ensures.come (given g c) (start g c) (setting_is g c) (plan_kept g c) (rest g c) c.args.dev.now (g.O.Sink.held c.args.out.now) (has_come g c tells) (first_moment g c tells) in record { come = record { now = come.0; moments = come.1; later = come.2; whole = λ e. come.3 refl } }))
  | in-Ok-run+in-Some w ↦ (
      let x = stage_in c.run.new.self.world c.run.new.dev in
      let out = output (g.O.Sink.held c.args.out.now) (g.O.Sink.held c.run.new.out) in
      let marks = c.run.new.self.marks.items in
      let r : IsRunning g.C.Checkpoint (given g c) (start g c) x marks out = w.in-Ok-run.ensures.runs_on (given g c) (start g c) (g.O.Sink.held c.args.out.now) (has_come g c tells) (rest g c) in
      let cut = cut_some c.run.new.self w.in-Some.p (sym w.cut_by.ensures ∙ w.in-Some.is) in
      let stop : Stop g c w.in-Some.p = said_of c.run.new.self.world.stopped w.in-Some.p _ cut.1 (w.in-Ok-run.ensures.stop (sym c.run.ensures.kept ∙ cut.0)) in
      let came = ending_cut g.C.Checkpoint (given g c) (start g c) (moment_of c.run.new.self c.run.new.dev (g.O.Sink.held c.run.new.out)) (g.O.Sink.held c.args.out.now) w.in-Some.p r (subst (λ n. w.in-Some.p < n) (sym (length-map c.args.scheduled.setup.images.items seen_image)) (stop_inside g c w.in-Some.p stop)) in
      course g c tells _ w.ending-is came.last came.ended came.is (λ kept. ends_cut g c w.in-Some.p tells stop)
      (let come = w.in-Ok-run.ensures.come (given g c) (start g c) (setting_is g c) (plan_kept g c) (rest g c) c.args.dev.now (g.O.Sink.held c.args.out.now) (has_come g c tells) (first_moment g c tells) in record { come = record { now = come.0; moments = come.1; later = come.2; whole = λ e. come.3 refl } }))
  | in-Err-run w ↦ (
      let came = ending_broken g.C.Checkpoint (given g c) (start g c) (moment_of c.run.new.self c.run.new.dev (g.O.Sink.held c.run.new.out)) (g.O.Sink.held c.args.out.now) w.in-Err-run.fault
      (w.in-Err-run.ensures.runs_off w.in-Err-run.fault refl (given g c) (start g c) (g.O.Sink.held c.args.out.now) (has_come g c tells) (rest g c)) in
      course g c tells _ (w.ending-is ∙ w.ended_by-ending.ensures) came.last came.ended came.is
      (λ kept. ends_broken g c w.in-Err-run.fault (w.in-Err-run.ensures.broken kept))
      (let come = w.in-Err-run.ensures.come (given g c) (start g c) (setting_is g c) (plan_kept g c) (rest g c) c.args.dev.now (g.O.Sink.held c.args.out.now) (has_come g c tells) (first_moment g c tells) in record { come = record { now = come.0; moments = come.1; later = come.2; whole = λ e. absurd (came.broken e) } }))
]

pub returns-clause-planned : goal.returns-clause-planned
returns-clause-planned g c p = let first = g.met.C.Planned.idle_none c.args.dev.now c.open.new.dev p c.requires.idle c.open.ensures.continues in let rest = c.run.ensures.planned p in omega (arith, first, rest)

-- where none was planned, and none had come, it is one of the device that was lent
stop_rose : (g : Over) (c : goal.After-drop-schedule-2 g) (p : ℕ) → g.C.Planned.planned c.args.dev.now ≡ [] → g.C.Checkpoint.stops c.args.dev.now p ≡ g.C.Planned.unplanned c.args.dev.now p → Stop g c p
    → Rose (g.C.Planned.unplanned c.args.dev.now p) (g.C.Planned.unplanned c.run.new.dev p)
stop_rose g c p none same stop =
    let lasts = g.met.C.Planned.lasts_within c.args.dev.now c.open.new.dev c.open.ensures.continues in
    let opened = g.met.C.Planned.idle_none c.args.dev.now c.open.new.dev p c.requires.idle c.open.ensures.continues in
    let before = g.met.C.Planned.unplanned_later c.args.dev.now c.open.new.dev p lasts in
    let after = g.met.C.Planned.unplanned_later c.open.new.dev c.run.new.dev p c.run.ensures.lasts in
    let rest = c.run.ensures.alone (g.met.C.Planned.planned_same c.args.dev.now c.open.new.dev lasts ∙ none) p in
    ⊎_elim
    (λ first. let rose = (said_of c.in-Ok.world.stopped p _ first.0 c.in-Ok.ensures.stopped_first).1 in omega (arith, rose, same, opened, after))
    (λ then. let rose = then.2 in omega (arith, rose, rest, same, opened, before))
    stop

-- no fault ends a run so
no_stop : (f : TurnFault) (p : ℕ) → ending_by f ≡ ending.Stopped p → ⊥
no_stop (fault.Device q) p e = let off : ending.Device q ≡ ending.Stopped p = e in cc
no_stop (fault.Store q why) p e = let off : ending.Store q why ≡ ending.Stopped p = e in cc
no_stop fault.Sink p e = let off : ending.Sink ≡ ending.Stopped p = e in cc

-- nor does the end of its schedule
no_stop_ended : (b : Bool) (p : ℕ) → ending_of b ≡ ending.Stopped p → ⊥
no_stop_ended true p e = let off : ending.Done ≡ ending.Stopped p = e in cc
no_stop_ended false p e = let off : ending.Unfinished ≡ ending.Stopped p = e in cc

pub returns-clause-stop : goal.returns-clause-stop
returns-clause-stop g c = λ p e. elim c.match-run.branch [
  | in-Ok-run+in-None w ↦ absurd (no_stop_ended w.ended.result p (sym w.ended-in-None.ensures ∙ sym w.ending-is ∙ sym (ap (λ (o : Course). o.ending) c.course.ensures) ∙ e))
  | in-Ok-run+in-Some w ↦ (
      let is : ending.Stopped w.in-Some.p ≡ ending.Stopped p = sym w.ending-is ∙ sym (ap (λ (o : Course). o.ending) c.course.ensures) ∙ e in
      let same : w.in-Some.p ≡ p = cc in
      let cut = cut_some c.run.new.self w.in-Some.p (sym w.cut_by.ensures ∙ w.in-Some.is) in
      let stop : Stop g c p = subst (Stop g c) same (said_of c.run.new.self.world.stopped w.in-Some.p _ cut.1 (w.in-Ok-run.ensures.stop (sym c.run.ensures.kept ∙ cut.0))) in
      (stop_inside g c p stop, λ none now. stop_rose g c p none now stop))
  | in-Err-run w ↦ absurd (no_stop w.in-Err-run.fault p (sym w.ended_by-ending.ensures ∙ sym w.ending-is ∙ sym (ap (λ (o : Course). o.ending) c.course.ensures) ∙ e))
]

pub returns-clause-unkept : goal.returns-clause-unkept
returns-clause-unkept g c = λ off p e. elim c.match-run.branch [
  | in-Ok-run+in-None w ↦ no_stop_ended w.ended.result p (sym w.ended-in-None.ensures ∙ sym w.ending-is ∙ sym (ap (λ (o : Course). o.ending) c.course.ensures) ∙ e)
  | in-Ok-run+in-Some w ↦ (
      let cut = cut_some c.run.new.self w.in-Some.p (sym w.cut_by.ensures ∙ w.in-Some.is) in
      true≢false (sym cut.0 ∙ c.run.ensures.kept ∙ c.in_ok-journal.ensures.kept ∙ off))
  | in-Err-run w ↦ no_stop w.in-Err-run.fault p (sym w.ended_by-ending.ensures ∙ sym w.ending-is ∙ sym (ap (λ (o : Course). o.ending) c.course.ensures) ∙ e)
]
