use Rattle.std.proofs.Common.{◌≡◌, ◌∙◌, ◌<◌, ℕ, [], None, Result, true, false, ap, inl, inr, length, refl, rules, subst, sym}
use Rattle.std.proofs.lemmas.Bool.{true≢false}
use Rattle.std.proofs.lemmas.List.{length-map}
use Rattle.dc_media.specs.Devices.{of_disks, of_words}
use Rattle.dc_run.specs.Passing.{WritesPassing, WritesSaved}
use Rattle.dc_run.proofs.Passed.{device_ending, run_passes, run_saves, sink_ending, stop_ending}
use Rattle.dc_run.proofs.OnMedia.{each_so, either_failed, either_same, either_stopped, other_same, said_so}
use Rattle.dc_command.specs.Command.{order_view}
use Rattle.dc_command.specs.declared.command.Ledger.{Ledger}
use Rattle.dc_command.specs.declared.command.Ledger.TheVariants as ledger
use Rattle.dc_course.specs.Courses.{account_of as run_account, journal_in, setting_of as given_of}
use Rattle.dc_course.specs.Lent.{AreLeftFrom}
use Rattle.dc_course.specs.Running.{output}
use Rattle.dc_course.specs.declared.ending.Ending.TheVariants as endings
use Rattle.dc_elf.specs.Loaded.{seen_image}
use Rattle.dc_run.specs.Headline.{IsKept, IsReported, Reports, account_of as outcome_account, course, is_used_up, keeps_journal, ledger_text, loan, verdict_at}
use Rattle.dc_run.specs.Media.{HasFailed, HasStopped, IsOtherSame, devices_of, lent}
use Rattle.dc_run.specs.Opening.{AsksToRun, Task, is_halted, opening_of, part_of}
use Rattle.dc_run.specs.declared.setting.OpenedRun as code
use Rattle.dc_run.specs.declared.verdict.Did.TheVariants.{Run}
use Rattle.dc_run.specs.Refusals.{as_verdict, verdict_of}
use Rattle.dc_run.specs.declared.refusal.Refusal.{Refusal}
use Rattle.dc_run.specs.Commands.{IsOpenedFor}
use Rattle.dc_run.specs.Settings.{is_free, is_of_going_on, may_have_run, setting_of, task_of}
use Rattle.dc_run.specs.declared.verdict.Verdict.TheVariants.{DeviceFault, DeviceStopped, LibraryFault}
use Rattle.dc_run.proofs.Works.{begun_refusal, closed_refusal, exact_work, for_known, opened_work, refused_exact, refused_work, told_verdict}
use Rattle.dc_run.proofs.Headlines.{IsOpenedSo, free_unopened, opened_so, reported_begun, reported_may, reported_so, run_ledger, unopened_begun, with_ledger}
use Rattle.dc_run.proofs.Leaving.{left_same, opened_left}
use Rattle.dc_run.proofs.Lefts.{halted_on}
use Rattle.dc_run.specs.Commands.{stores_used, work_by}
use Rattle.dc_command.specs.Command.Asked.{ToRun}
use Rattle.dc_run.proofs.program.run_plan.Given.{Over}
use Rattle.dc_run.proofs.program.run_plan.Goals as goal

-- a run that is to write this keeps its journal exactly where it is the journal
keeps_is : (l : Ledger) → keeps_journal l ≡ true → l ≡ ledger.Journal
keeps_is ledger.Report keeps = absurd (true≢false (sym keeps))
keeps_is ledger.Total keeps = absurd (true≢false (sym keeps))
keeps_is ledger.Journal keeps = refl

-- where no report is written it is the journal
kept_alone : (l : Ledger) → (keeps_journal l ≡ false → ⊥) → l ≡ ledger.Journal
kept_alone ledger.Report never = absurd (never refl)
kept_alone ledger.Total never = absurd (never refl)
kept_alone ledger.Journal never = refl

-- a task by the setting that the code has, under this ledger
abbrev task_for : Ledger → code.OpenedRun → Task
task_for ledger s = record { ledger = ledger; setting = setting_of s; halt = s.halt }

-- the outcome before its report
outcome_is : (g : Over) (c : goal.After-drop-journal g) → c.outcome_of-outcome.result.0 ≡ record { verdict = verdict_at (is_halted (task_of c.in-Ok.opened)) c.in-Ok-run_on.course.ending; did = Run; acts = c.in-Ok-run_on.course.acts; marks = c.in-Ok-run_on.course.marks; lines = c.in-Ok-run_on.course.lines; difference = None }
outcome_is g c = let halted : c.leaves_over-halted.result ≡ is_halted (task_of c.in-Ok.opened) = search rules in
    c.outcome_of-outcome.ensures.outcome ∙ ap (λ h. record { verdict = verdict_at h c.in-Ok-run_on.course.ending; did = Run; acts = c.in-Ok-run_on.course.acts; marks = c.in-Ok-run_on.course.marks; lines = c.in-Ok-run_on.course.lines; difference = None }) halted

-- what its ending and its report come to
reports_so : (g : Over) (c : goal.After-drop-journal g) → Reports (verdict_at (is_halted (task_of c.in-Ok.opened)) c.in-Ok-run_on.course.ending) c.reported.result.verdict
    (ledger_text c.len-n.result c.outcome_of-outcome.result.0.verdict (outcome_account c.outcome_of-outcome.result.0 (journal_in c.outcome_of-outcome.result.1)))
    (course (g.R.Sink.held c.args.report.now) (g.R.Sink.held c.reported.new.report) (g.R.Sink.faults c.args.report.now) (g.R.Sink.faults c.reported.new.report))
reports_so g c = run_ledger (is_halted (task_of c.in-Ok.opened)) c.in-Ok-run_on.course c.outcome_of-outcome.result.0 c.reported.result.verdict _ _ (outcome_is g c) c.reported.ensures.reports

-- is what a run may come to
may_so : (g : Over) (c : goal.After-drop-journal g) → may_have_run c.reported.result.verdict ≡ true
may_so g c = reported_may (is_halted (task_of c.in-Ok.opened)) c.in-Ok-run_on.course.ending c.reported.result.verdict _ _ (reports_so g c)

pub returns-in-Ok-run_on-clause-idle : goal.returns-in-Ok-run_on-clause-idle
returns-in-Ok-run_on-clause-idle g c closed = absurd (true≢false (sym (may_so g c) ∙ closed))

-- what the told files open
opened_is : (g : Over) (c : goal.After-drop-journal g) → IsOpenedSo (g.L.Library.files c.args.lib.now) (order_view c.args.order.now) (setting_of c.in-Ok.opened) c.in-Ok.opened.halt c.in-Ok.opened.medium
opened_is g c = record { opened = c.in-Ok.ensures.told; on_it = c.in-Ok.ensures.medium; to_it = c.in-Ok.ensures.halt }

-- what was run is the part of it that its task names
part_is : (g : Over) (c : goal.After-drop-journal g) → given_of c.part_run-part.result ≡ part_of (task_of c.in-Ok.opened)
part_is g c = rw (c.part_run-part.ensures.setup, c.part_run-part.ensures.stops, c.part_run-part.ensures.entries) refl

-- and it kept its promise
kept_so : (g : Over) (c : goal.After-drop-journal g) → IsKept (devices_of g.K.Keeps g.D.Disks c.in-Ok.opened.medium) (part_of (task_of c.in-Ok.opened)) (run_account c.in-Ok-run_on.course) c.in-Ok-run_on.course.ending
    (output (g.O.Sink.held c.args.out.now) (g.O.Sink.held c.run_on.new.out)) (loan (lent c.args.keeps.now c.args.disks.now) (lent c.run_on.new.keeps c.run_on.new.disks))
kept_so g c = subst (λ setting. IsKept (devices_of g.K.Keeps g.D.Disks c.in-Ok.opened.medium) setting (run_account c.in-Ok-run_on.course) c.in-Ok-run_on.course.ending
    (output (g.O.Sink.held c.args.out.now) (g.O.Sink.held c.run_on.new.out)) (loan (lent c.args.keeps.now c.args.disks.now) (lent c.run_on.new.keeps c.run_on.new.disks))) (part_is g c) c.in-Ok-run_on.ensures.headline

-- where it was to write no journal, no stop ended it
unstopped : (g : Over) (c : goal.After-drop-journal g) → keeps_journal c.in-Ok.opened.ledger ≡ false → (p : ℕ) → c.in-Ok-run_on.course.ending ≡ endings.Stopped p → ⊥
unstopped g c off = c.in-Ok-run_on.ensures.unkept (c.keeps_journal-kept.ensures ∙ off)

-- a stop that ended it is one of its device: such a run plans none
stopped_so : (g : Over) (c : goal.After-drop-journal g) (p : ℕ) → c.in-Ok-run_on.course.ending ≡ endings.Stopped p → HasStopped (devices_of g.K.Keeps g.D.Disks c.in-Ok.opened.medium) (lent c.args.keeps.now c.args.disks.now) (lent c.run_on.new.keeps c.run_on.new.disks) p
stopped_so g c p stopped = c.in-Ok-run_on.ensures.stop (ap (λ v. v.items) c.part_run-part.ensures.stops ∙ (c.in-Ok.ensures.turns (kept_alone c.in-Ok.opened.ledger (λ off. unstopped g c off p stopped))).1) p stopped

-- what the run wrote at its end
written : (g : Over) (c : goal.After-drop-journal g) → IsReported (task_for c.args.order.now.ledger c.in-Ok.opened) (devices_of g.K.Keeps g.D.Disks c.in-Ok.opened.medium) c.reported.result
    (loan (lent c.args.keeps.now c.args.disks.now) (lent c.run_on.new.keeps c.run_on.new.disks))
    (course (g.O.Sink.held c.args.out.now) (g.O.Sink.held c.run_on.new.out) (g.O.Sink.faults c.args.out.now) (g.O.Sink.faults c.run_on.new.out))
    (course (g.R.Sink.held c.args.report.now) (g.R.Sink.held c.reported.new.report) (g.R.Sink.faults c.args.report.now) (g.R.Sink.faults c.reported.new.report))
written g c = let count : c.len-n.result ≡ length c.in-Ok.opened.setting.scheduled.setup.images.items = search rules in
    with_ledger (task_for c.args.order.now.ledger c.in-Ok.opened) (devices_of g.K.Keeps g.D.Disks c.in-Ok.opened.medium) c.in-Ok-run_on.course c.outcome_of-outcome.result.0 c.outcome_of-outcome.result.1 c.reported.result _ _ _ _
    (outcome_is g c) c.outcome_of-outcome.ensures.journal (count ∙ sym (length-map c.in-Ok.opened.setting.scheduled.setup.images.items seen_image)) (c.in-Ok-run_on.ensures.kept ∙ c.keeps_journal-kept.ensures ∙ ap keeps_journal c.in-Ok.ensures.ledger)
    (λ keeps. c.in-Ok.ensures.turns (c.in-Ok.ensures.ledger ∙ keeps_is c.args.order.now.ledger keeps)) (kept_so g c)
    (halted_on g.K.Keeps g.D.Disks c.in-Ok.opened.medium (task_for c.args.order.now.ledger c.in-Ok.opened) (run_account c.in-Ok-run_on.course) c.in-Ok-run_on.course.ending _ _ c.in-Ok.ensures.given.schedule_is.0 (kept_so g c))
    c.reported.ensures.reports c.reported.ensures.acts c.reported.ensures.marks c.reported.ensures.lines

pub returns-in-Ok-run_on-clause-headline : goal.returns-in-Ok-run_on-clause-headline
returns-in-Ok-run_on-clause-headline g c ran = opened_so (g.L.Library.files c.args.lib.now) (order_view c.args.order.now) (setting_of c.in-Ok.opened) c.in-Ok.opened.halt c.in-Ok.opened.medium
    (λ m task. IsReported task (devices_of g.K.Keeps g.D.Disks m) c.reported.result (loan (lent c.args.keeps.now c.args.disks.now) (lent c.run_on.new.keeps c.run_on.new.disks))
    (course (g.O.Sink.held c.args.out.now) (g.O.Sink.held c.run_on.new.out) (g.O.Sink.faults c.args.out.now) (g.O.Sink.faults c.run_on.new.out))
    (course (g.R.Sink.held c.args.report.now) (g.R.Sink.held c.reported.new.report) (g.R.Sink.faults c.args.report.now) (g.R.Sink.faults c.reported.new.report))) (opened_is g c) (written g c)

pub returns-in-Ok-run_on-clause-ran : goal.returns-in-Ok-run_on-clause-ran
returns-in-Ok-run_on-clause-ran g c ran = (
  c.in-Ok.opened.medium,
  task_for c.args.order.now.ledger c.in-Ok.opened,
  refl,
  c.in-Ok-run_on.ensures.other,
  written g c,
)

pub returns-in-Ok-run_on-clause-library_asked : goal.returns-in-Ok-run_on-clause-library_asked
returns-in-Ok-run_on-clause-library_asked g c which =
    for_known (g.L.Library.files c.args.lib.now) {P = λ files. c.reported.result.verdict ≡ LibraryFault which → AsksToRun files (order_view c.args.order.now) which}
    (λ files here e. absurd (true≢false (sym (reported_may (is_halted (task_of c.in-Ok.opened)) c.in-Ok-run_on.course.ending c.reported.result.verdict _ _ (reports_so g c)) ∙ ap may_have_run e)))

pub returns-in-Err-clause-refused : goal.returns-in-Err-clause-refused
returns-in-Err-clause-refused g c refusal is = for_known _ (λ files here. refused_exact (verdict_of c.in-Err.refusal) c.idle.result.verdict refusal (as_verdict (opening_of files (order_view c.args.order.now))) (c.idle.ensures.verdict ∙ c.verdict_of.ensures) is
    (told_verdict c.in-Err.refusal (opening_of files (order_view c.args.order.now)) (c.in-Err.ensures.told files here)))

pub returns-in-Ok-run_on-clause-refused : goal.returns-in-Ok-run_on-clause-refused
returns-in-Ok-run_on-clause-refused g c refusal is = for_known _ (λ files here. exact_work c.reported.result.verdict refusal (as_verdict (opening_of files (order_view c.args.order.now))) (setting_of c.in-Ok.opened) is
    (ap (λ (r : Result _ Refusal). as_verdict r) (c.in-Ok.ensures.told files here))
    (reported_so (is_halted (task_of c.in-Ok.opened)) c.in-Ok-run_on.course.ending c.reported.result.verdict _ _ (reports_so g c)))

pub returns-in-Err-clause-opened : goal.returns-in-Err-clause-opened
returns-in-Err-clause-opened g c = for_known _ (λ files here. subst (λ v. IsOpenedFor (λ setting u. may_have_run u) v (as_verdict (opening_of files (order_view c.args.order.now)))) (sym (c.idle.ensures.verdict ∙ c.verdict_of.ensures))
    (refused_work (λ setting u. may_have_run u) (verdict_of c.in-Err.refusal) (as_verdict (opening_of files (order_view c.args.order.now))) (closed_refusal c.in-Err.refusal) (told_verdict c.in-Err.refusal (opening_of files (order_view c.args.order.now)) (c.in-Err.ensures.told files here))))

pub returns-in-Ok-run_on-clause-opened : goal.returns-in-Ok-run_on-clause-opened
returns-in-Ok-run_on-clause-opened g c = for_known _ (λ files here. opened_work (λ setting u. may_have_run u) c.reported.result.verdict (as_verdict (opening_of files (order_view c.args.order.now))) (setting_of c.in-Ok.opened)
    (ap (λ (r : Result _ Refusal). as_verdict r) (c.in-Ok.ensures.told files here))
    (inl (may_so g c)))

pub returns-in-Ok-run_on-clause-keeps_refused : goal.returns-in-Ok-run_on-clause-keeps_refused
returns-in-Ok-run_on-clause-keeps_refused g c closed no_memory = absurd (true≢false (sym (may_so g c) ∙ closed))

pub returns-in-Ok-run_on-clause-passes : goal.returns-in-Ok-run_on-clause-passes
returns-in-Ok-run_on-clause-passes g c ran =
    let setting = setting_of c.in-Ok.opened in
    let out = course (g.O.Sink.held c.args.out.now) (g.O.Sink.held c.run_on.new.out) (g.O.Sink.faults c.args.out.now) (g.O.Sink.faults c.run_on.new.out) in
    let report = course (g.R.Sink.held c.args.report.now) (g.R.Sink.held c.reported.new.report) (g.R.Sink.faults c.args.report.now) (g.R.Sink.faults c.reported.new.report) in
    let before = lent c.args.keeps.now c.args.disks.now in
    let after = lent c.run_on.new.keeps c.run_on.new.disks in
    let on = devices_of g.K.Keeps g.D.Disks c.in-Ok.opened.medium in
    opened_so (g.L.Library.files c.args.lib.now) (order_view c.args.order.now) setting c.in-Ok.opened.halt c.in-Ok.opened.medium (λ m t. t.ledger ≡ ledger.Report → (devices_of g.K.Keeps g.D.Disks m).tell (length t.setting.images) before after → WritesPassing t.setting 0 [] out report c.reported.result) (opened_is g c)
    (λ report_it tells calm calm' empty empty' shown listed at at'. run_passes on (task_for ledger.Report c.in-Ok.opened) refl c.reported.result (loan before after) out report c.in-Ok.ensures.given
    (subst (λ l. IsReported (task_for l c.in-Ok.opened) on c.reported.result (loan before after) out report) report_it (written g c))
    tells calm calm' (λ e. c.in-Ok-run_on.ensures.sink (sink_ending (is_halted (task_of c.in-Ok.opened)) c.in-Ok-run_on.course.ending c.reported.result.verdict _ report (reports_so g c) e))
    (λ p e. unstopped g c (ap keeps_journal (c.in-Ok.ensures.ledger ∙ report_it)) p (stop_ending (is_halted (task_of c.in-Ok.opened)) c.in-Ok-run_on.course.ending c.reported.result.verdict _ report p (reports_so g c) e)) empty empty' shown listed at at')

pub returns-in-Ok-run_on-clause-keeps_others : goal.returns-in-Ok-run_on-clause-keeps_others
returns-in-Ok-run_on-clause-keeps_others g c = opened_left (of_words g.K.Keeps) (g.L.Library.files c.args.lib.now) (order_view c.args.order.now) (setting_of c.in-Ok.opened) c.args.keeps.now c.run_on.new.keeps c.in-Ok.ensures.told
    (subst (λ setting. AreLeftFrom (length setting.images) (of_words g.K.Keeps) c.args.keeps.now c.run_on.new.keeps) (part_is g c) c.in-Ok-run_on.ensures.keeps_others)

pub returns-in-Err-clause-keeps_others : goal.returns-in-Err-clause-keeps_others
returns-in-Err-clause-keeps_others g c = left_same (of_words g.K.Keeps) (g.L.Library.files c.args.lib.now) (λ files. stores_used (work_by files (ToRun (order_view c.args.order.now)))) c.args.keeps.now

pub returns-in-Ok-run_on-clause-disks_others : goal.returns-in-Ok-run_on-clause-disks_others
returns-in-Ok-run_on-clause-disks_others g c = opened_left (of_disks g.D.Disks) (g.L.Library.files c.args.lib.now) (order_view c.args.order.now) (setting_of c.in-Ok.opened) c.args.disks.now c.run_on.new.disks c.in-Ok.ensures.told
    (subst (λ setting. AreLeftFrom (length setting.images) (of_disks g.D.Disks) c.args.disks.now c.run_on.new.disks) (part_is g c) c.in-Ok-run_on.ensures.disks_others)

pub returns-in-Err-clause-disks_others : goal.returns-in-Err-clause-disks_others
returns-in-Err-clause-disks_others g c = left_same (of_disks g.D.Disks) (g.L.Library.files c.args.lib.now) (λ files. stores_used (work_by files (ToRun (order_view c.args.order.now)))) c.args.disks.now

pub returns-in-Ok-run_on-clause-disks_refused : goal.returns-in-Ok-run_on-clause-disks_refused
returns-in-Ok-run_on-clause-disks_refused g c closed no_memory = absurd (true≢false (sym (may_so g c) ∙ closed))

pub returns-in-Ok-run_on-clause-other : goal.returns-in-Ok-run_on-clause-other
returns-in-Ok-run_on-clause-other g c =
    said_so (g.L.Library.files c.args.lib.now) (order_view c.args.order.now) c.in-Ok.opened.medium (λ m. IsOtherSame m (lent c.args.keeps.now c.args.disks.now) (lent c.run_on.new.keeps c.run_on.new.disks)) c.in-Ok.ensures.medium c.in-Ok-run_on.ensures.other

pub returns-in-Ok-run_on-clause-either : goal.returns-in-Ok-run_on-clause-either
returns-in-Ok-run_on-clause-either g c = either_same c.in-Ok.opened.medium (lent c.args.keeps.now c.args.disks.now) (lent c.run_on.new.keeps c.run_on.new.disks) c.in-Ok-run_on.ensures.other

pub returns-in-Err-clause-other : goal.returns-in-Err-clause-other
returns-in-Err-clause-other g c = each_so (g.L.Library.files c.args.lib.now) _ _ (λ m. other_same m (lent c.args.keeps.now c.args.disks.now))

pub returns-in-Err-clause-wanting : goal.returns-in-Err-clause-wanting
returns-in-Err-clause-wanting g c e p = (inl (refl, refl), inl (refl, refl))

pub returns-in-Ok-run_on-clause-wanting : goal.returns-in-Ok-run_on-clause-wanting
returns-in-Ok-run_on-clause-wanting g c e p = absurd (true≢false (sym (may_so g c) ∙ ap may_have_run e))

pub returns-in-Ok-run_on-clause-device_fault : goal.returns-in-Ok-run_on-clause-device_fault
returns-in-Ok-run_on-clause-device_fault g c p e =
    either_failed g.K.Keeps g.D.Disks c.in-Ok.opened.medium (lent c.args.keeps.now c.args.disks.now) (lent c.run_on.new.keeps c.run_on.new.disks) p
    (c.in-Ok-run_on.ensures.device p (device_ending (is_halted (task_of c.in-Ok.opened)) c.in-Ok-run_on.course.ending c.reported.result.verdict _ _ p (reports_so g c) e))

pub returns-in-Ok-run_on-clause-medium_fault : goal.returns-in-Ok-run_on-clause-medium_fault
returns-in-Ok-run_on-clause-medium_fault g c =
    said_so (g.L.Library.files c.args.lib.now) (order_view c.args.order.now) c.in-Ok.opened.medium
    (λ m. (p : ℕ) → c.reported.result.verdict ≡ DeviceFault p → HasFailed (devices_of g.K.Keeps g.D.Disks m) (lent c.args.keeps.now c.args.disks.now) (lent c.run_on.new.keeps c.run_on.new.disks) p) c.in-Ok.ensures.medium
    (λ p e. c.in-Ok-run_on.ensures.device p (device_ending (is_halted (task_of c.in-Ok.opened)) c.in-Ok-run_on.course.ending c.reported.result.verdict _ _ p (reports_so g c) e))

pub returns-in-Err-run_on-clause-refused : goal.returns-in-Err-run_on-clause-refused
returns-in-Err-run_on-clause-refused g c refusal is = for_known _ (λ files here. exact_work c.idle-in-Err-run_on.result.verdict refusal (as_verdict (opening_of files (order_view c.args.order.now))) (setting_of c.in-Ok.opened) is
    (ap (λ (r : Result _ Refusal). as_verdict r) (c.in-Ok.ensures.told files here))
    (inr (subst (λ v. is_free v ≡ true) (sym (c.idle-in-Err-run_on.ensures.verdict ∙ c.unopened.ensures)) (free_unopened c.in-Err-run_on.fault))))

pub returns-in-Ok-run_on-clause-saves : goal.returns-in-Ok-run_on-clause-saves
returns-in-Ok-run_on-clause-saves g c ran =
    let setting = setting_of c.in-Ok.opened in
    let out = course (g.O.Sink.held c.args.out.now) (g.O.Sink.held c.run_on.new.out) (g.O.Sink.faults c.args.out.now) (g.O.Sink.faults c.run_on.new.out) in
    let report = course (g.R.Sink.held c.args.report.now) (g.R.Sink.held c.reported.new.report) (g.R.Sink.faults c.args.report.now) (g.R.Sink.faults c.reported.new.report) in
    let before = lent c.args.keeps.now c.args.disks.now in
    let after = lent c.run_on.new.keeps c.run_on.new.disks in
    let on = devices_of g.K.Keeps g.D.Disks c.in-Ok.opened.medium in
    opened_so (g.L.Library.files c.args.lib.now) (order_view c.args.order.now) setting c.in-Ok.opened.halt c.in-Ok.opened.medium
    (λ m t. t.ledger ≡ ledger.Journal → (devices_of g.K.Keeps g.D.Disks m).tell (length t.setting.images) before after → is_used_up c.reported.result.verdict ≡ true → WritesSaved t.setting report) (opened_is g c)
    (λ journal_it tells used. run_saves on (task_for ledger.Journal c.in-Ok.opened) refl c.reported.result (loan before after) out report c.in-Ok.ensures.given (subst (λ n. 0 < n) (sym (length-map c.in-Ok.opened.setting.scheduled.setup.images.items seen_image)) c.in-Ok.opened.setting.scheduled.setup.some) c.in-Ok.opened.setting.scheduled.seven
    (subst (λ l. IsReported (task_for l c.in-Ok.opened) on c.reported.result (loan before after) out report) journal_it (written g c)) tells used)

pub returns-in-Ok-run_on-clause-device_stop : goal.returns-in-Ok-run_on-clause-device_stop
returns-in-Ok-run_on-clause-device_stop g c p e =
    let stopped = stop_ending (is_halted (task_of c.in-Ok.opened)) c.in-Ok-run_on.course.ending c.reported.result.verdict _ _ p (reports_so g c) e in
    either_stopped g.K.Keeps g.D.Disks c.in-Ok.opened.medium (lent c.args.keeps.now c.args.disks.now) (lent c.run_on.new.keeps c.run_on.new.disks) p
    (stopped_so g c p stopped)

pub returns-in-Ok-run_on-clause-stopped_alone : goal.returns-in-Ok-run_on-clause-stopped_alone
returns-in-Ok-run_on-clause-stopped_alone g c p e =
    let stopped = stop_ending (is_halted (task_of c.in-Ok.opened)) c.in-Ok-run_on.course.ending c.reported.result.verdict _ _ p (reports_so g c) e in
    sym c.in-Ok.ensures.ledger ∙ kept_alone c.in-Ok.opened.ledger (λ off. unstopped g c off p stopped)

pub returns-in-Ok-run_on-clause-medium_stop : goal.returns-in-Ok-run_on-clause-medium_stop
returns-in-Ok-run_on-clause-medium_stop g c =
    said_so (g.L.Library.files c.args.lib.now) (order_view c.args.order.now) c.in-Ok.opened.medium
    (λ m. (p : ℕ) → c.reported.result.verdict ≡ DeviceStopped p → HasStopped (devices_of g.K.Keeps g.D.Disks m) (lent c.args.keeps.now c.args.disks.now) (lent c.run_on.new.keeps c.run_on.new.disks) p) c.in-Ok.ensures.medium
    (λ p e. let stopped = stop_ending (is_halted (task_of c.in-Ok.opened)) c.in-Ok-run_on.course.ending c.reported.result.verdict _ _ p (reports_so g c) e in
    stopped_so g c p stopped)

pub returns-in-Ok-run_on-clause-begun : goal.returns-in-Ok-run_on-clause-begun
returns-in-Ok-run_on-clause-begun g c = reported_begun (is_halted (task_of c.in-Ok.opened)) c.in-Ok-run_on.course.ending c.reported.result.verdict _ _ (reports_so g c)

pub returns-in-Err-clause-begun : goal.returns-in-Err-clause-begun
returns-in-Err-clause-begun g c = ap is_of_going_on (c.idle.ensures.verdict ∙ c.verdict_of.ensures) ∙ begun_refusal c.in-Err.refusal

pub returns-in-Err-run_on-clause-begun : goal.returns-in-Err-run_on-clause-begun
returns-in-Err-run_on-clause-begun g c = ap is_of_going_on (c.idle-in-Err-run_on.ensures.verdict ∙ c.unopened.ensures) ∙ unopened_begun c.in-Err-run_on.fault
