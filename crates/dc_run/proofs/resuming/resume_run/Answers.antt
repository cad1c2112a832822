use Rattle.std.proofs.Common.{◌≡◌, ◌∙◌, ◌<◌, ⊎_elim, Err, true, ap, inl, inr, length, refl, rules, subst, sym}
use Rattle.std.proofs.lemmas.Bool.{true≢false}
use Rattle.std.proofs.lemmas.List.{length-map}
use Rattle.dc_command.specs.Command.{halted_view}
use Rattle.dc_course.specs.Courses.{account_of as run_account}
use Rattle.dc_course.specs.Lent.{AreLeftFrom, TellsStores}
use Rattle.dc_media.specs.Devices.{of_disks}
use Rattle.dc_course.specs.declared.course.Course.{Course}
use Rattle.dc_elf.specs.Loaded.{seen_image}
use Rattle.dc_reread.specs.declared.faults.RereadFault.TheVariants as faults
use Rattle.dc_run.specs.Again.{going_of}
use Rattle.dc_run.specs.Headline.{course, loan}
use Rattle.dc_run.specs.Passing.{WritesPassingOn}
use Rattle.dc_run.specs.Resumed.{HaveStood, IsRefusedStore, IsResumed, IsUnsuited}
use Rattle.dc_run.specs.Resuming.{AsksToResume, going_in, is_halted_again}
use Rattle.dc_run.specs.Settings.{differing_line, has_ended, is_free, may_have_run}
use Rattle.dc_run.specs.declared.verdict.Outlet.TheVariants.{Out, Report}
use Rattle.dc_run.specs.declared.verdict.Verdict.TheVariants.{DeviceFault, DeviceStopped, LibraryFault, NotSaved, SinkFault, Usage}
use Rattle.dc_run.proofs.Goings.{before_is, free_unresumed, going_so, is_resumed, is_usage, not_before, not_content, not_wanting, refused_by, resumed_report, unsuited_by}
use Rattle.dc_run.proofs.Headlines.{reported_may, reported_so}
use Rattle.dc_run.proofs.LeftAgain.{left_on}
use Rattle.dc_run.proofs.Works.{exact_work, for_known, opened_work, refused_exact}
use Rattle.dc_run.proofs.PassedOn.{resumed_passes}
use Rattle.dc_run.proofs.Passed.{sink_ending, stop_ending}
use Rattle.dc_run.proofs.resuming.resume_run.Given.{Over}
use Rattle.dc_run.proofs.resuming.resume_run.Goals as goal

pub returns-in-Err-clause-refused : goal.returns-in-Err-clause-refused
returns-in-Err-clause-refused g c refusal is = for_known _ (λ files here. refused_exact c.in-Err.verdict c.idle.result.verdict refusal (going_in files (halted_view c.args.names.now)) c.idle.ensures.verdict is (c.in-Err.ensures.told files here))

pub returns-in-Err-clause-asked : goal.returns-in-Err-clause-asked
returns-in-Err-clause-asked g c e = not_before is_usage c.in-Err.verdict Usage (before_is c.in-Err.verdict (c.in-Err.ensures.early c.in-Err.verdict refl)).asked refl (sym c.idle.ensures.verdict ∙ e)

pub returns-in-Err-clause-unsaved : goal.returns-in-Err-clause-unsaved
returns-in-Err-clause-unsaved g c event line e = not_before has_ended c.in-Err.verdict (NotSaved event line) (before_is c.in-Err.verdict (c.in-Err.ensures.early c.in-Err.verdict refl)).unended refl (sym c.idle.ensures.verdict ∙ e)

pub returns-in-Err-clause-device_fault : goal.returns-in-Err-clause-device_fault
returns-in-Err-clause-device_fault g c p e = absurd (not_before may_have_run c.in-Err.verdict (DeviceFault p) (before_is c.in-Err.verdict (c.in-Err.ensures.early c.in-Err.verdict refl)).closed refl (sym c.idle.ensures.verdict ∙ e))

pub returns-in-Err-clause-device_stop : goal.returns-in-Err-clause-device_stop
returns-in-Err-clause-device_stop g c p e = absurd (not_before may_have_run c.in-Err.verdict (DeviceStopped p) (before_is c.in-Err.verdict (c.in-Err.ensures.early c.in-Err.verdict refl)).closed refl (sym c.idle.ensures.verdict ∙ e))

pub returns-in-Err-clause-output_fault : goal.returns-in-Err-clause-output_fault
returns-in-Err-clause-output_fault g c e = absurd (not_before may_have_run c.in-Err.verdict (SinkFault Out) (before_is c.in-Err.verdict (c.in-Err.ensures.early c.in-Err.verdict refl)).closed refl (sym c.idle.ensures.verdict ∙ e))

pub returns-in-Err-clause-report_fault : goal.returns-in-Err-clause-report_fault
returns-in-Err-clause-report_fault g c e = absurd (not_before may_have_run c.in-Err.verdict (SinkFault Report) (before_is c.in-Err.verdict (c.in-Err.ensures.early c.in-Err.verdict refl)).closed refl (sym c.idle.ensures.verdict ∙ e))

pub returns-in-Err-clause-did_resume : goal.returns-in-Err-clause-did_resume
returns-in-Err-clause-did_resume g c ended = absurd (true≢false (sym ended ∙ ap has_ended c.idle.ensures.verdict ∙ (before_is c.in-Err.verdict (c.in-Err.ensures.early c.in-Err.verdict refl)).unended))

pub returns-in-Err-clause-line : goal.returns-in-Err-clause-line
returns-in-Err-clause-line g c = rw c.idle.ensures.difference (sym (ap differing_line c.idle.ensures.verdict ∙ (before_is c.in-Err.verdict (c.in-Err.ensures.early c.in-Err.verdict refl)).line))

pub returns-in-Ok-go_on_with-clause-refused : goal.returns-in-Ok-go_on_with-clause-refused
returns-in-Ok-go_on_with-clause-refused g c refusal is =
    let report = course (g.R.Sink.held c.args.report.now) (g.R.Sink.held c.reported.new.report) (g.R.Sink.faults c.args.report.now) (g.R.Sink.faults c.reported.new.report) in
    let reports = resumed_report c.leaves_over-halted.result c.in-Ok-go_on_with.course c.outcome_of.result c.reported.result.verdict c.in-Ok.going.report.entries report c.outcome_of.ensures c.reported.ensures.reports in
    for_known _ (λ files here. exact_work c.reported.result.verdict refusal (going_in files (halted_view c.args.names.now)) (going_of c.in-Ok.going) is (c.in-Ok.ensures.told files here)
    (reported_so c.leaves_over-halted.result c.in-Ok-go_on_with.course.ending c.reported.result.verdict _ report reports))

pub returns-in-Ok-go_on_with-clause-opened : goal.returns-in-Ok-go_on_with-clause-opened
returns-in-Ok-go_on_with-clause-opened g c =
    let report = course (g.R.Sink.held c.args.report.now) (g.R.Sink.held c.reported.new.report) (g.R.Sink.faults c.args.report.now) (g.R.Sink.faults c.reported.new.report) in
    let reports = resumed_report c.leaves_over-halted.result c.in-Ok-go_on_with.course c.outcome_of.result c.reported.result.verdict c.in-Ok.going.report.entries report c.outcome_of.ensures c.reported.ensures.reports in
    for_known _ (λ files here. opened_work (λ going u. may_have_run u) c.reported.result.verdict (going_in files (halted_view c.args.names.now)) (going_of c.in-Ok.going) (c.in-Ok.ensures.told files here)
    (inl (reported_may c.leaves_over-halted.result c.in-Ok-go_on_with.course.ending c.reported.result.verdict _ report reports)))

pub returns-in-Ok-go_on_with-clause-library_asked : goal.returns-in-Ok-go_on_with-clause-library_asked
returns-in-Ok-go_on_with-clause-library_asked g c which =
    let report = course (g.R.Sink.held c.args.report.now) (g.R.Sink.held c.reported.new.report) (g.R.Sink.faults c.args.report.now) (g.R.Sink.faults c.reported.new.report) in
    let reports = resumed_report c.leaves_over-halted.result c.in-Ok-go_on_with.course c.outcome_of.result c.reported.result.verdict c.in-Ok.going.report.entries report c.outcome_of.ensures c.reported.ensures.reports in
    for_known (g.L.Library.files c.args.lib.now) {P = λ files. c.reported.result.verdict ≡ LibraryFault which → AsksToResume files (halted_view c.args.names.now) which} (λ files here e. absurd (true≢false (sym (reported_may c.leaves_over-halted.result c.in-Ok-go_on_with.course.ending c.reported.result.verdict _ report reports) ∙ ap may_have_run e)))

-- it went on, and kept its promise
went : (g : Over) (c : goal.After-reported g) → IsResumed (going_of c.in-Ok.going) g.D.Disks c.reported.result (loan c.args.disks.now c.go_on_with.new.disks)
    (course (g.O.Sink.held c.args.out.now) (g.O.Sink.held c.go_on_with.new.out) (g.O.Sink.faults c.args.out.now) (g.O.Sink.faults c.go_on_with.new.out))
    (course (g.R.Sink.held c.args.report.now) (g.R.Sink.held c.reported.new.report) (g.R.Sink.faults c.args.report.now) (g.R.Sink.faults c.reported.new.report))
went g c =
    let report = course (g.R.Sink.held c.args.report.now) (g.R.Sink.held c.reported.new.report) (g.R.Sink.faults c.args.report.now) (g.R.Sink.faults c.reported.new.report) in
    let reports = resumed_report c.leaves_over-halted.result c.in-Ok-go_on_with.course c.outcome_of.result c.reported.result.verdict c.in-Ok.going.report.entries report c.outcome_of.ensures c.reported.ensures.reports in
    let out = course (g.O.Sink.held c.args.out.now) (g.O.Sink.held c.go_on_with.new.out) (g.O.Sink.faults c.args.out.now) (g.O.Sink.faults c.go_on_with.new.out) in
    let again : c.leaves_over-halted.result ≡ is_halted_again (going_of c.in-Ok.going) = search rules in
    is_resumed (going_of c.in-Ok.going) g.D.Disks c.in-Ok-go_on_with.course c.reported.result _ out report c.leaves_over-halted.result again
    (c.reported.ensures.acts ∙ ap (λ o. o.acts) c.outcome_of.ensures) (c.reported.ensures.marks ∙ ap (λ o. o.marks) c.outcome_of.ensures) (c.reported.ensures.lines ∙ ap (λ o. o.lines) c.outcome_of.ensures)
    c.in-Ok-go_on_with.ensures.unkept c.in-Ok-go_on_with.ensures.kept (left_on g.D.Disks (going_of c.in-Ok.going) (run_account c.in-Ok-go_on_with.course) c.in-Ok-go_on_with.course.ending _ _ (subst (λ n. 0 < n) (sym (length-map c.in-Ok.going.opened.setting.scheduled.setup.images.items seen_image)) c.in-Ok.going.opened.setting.scheduled.setup.some)
    c.in-Ok.going.opened.entries.0 c.in-Ok.ensures.ran c.in-Ok.ensures.before c.in-Ok.ensures.taken.1 c.in-Ok-go_on_with.ensures.kept) reports

pub returns-in-Ok-go_on_with-clause-resumed : goal.returns-in-Ok-go_on_with-clause-resumed
returns-in-Ok-go_on_with-clause-resumed g c on =
    let report = course (g.R.Sink.held c.args.report.now) (g.R.Sink.held c.reported.new.report) (g.R.Sink.faults c.args.report.now) (g.R.Sink.faults c.reported.new.report) in
    let out = course (g.O.Sink.held c.args.out.now) (g.O.Sink.held c.go_on_with.new.out) (g.O.Sink.faults c.args.out.now) (g.O.Sink.faults c.go_on_with.new.out) in
    going_so _ (halted_view c.args.names.now) (going_of c.in-Ok.going) (λ going. IsResumed going g.D.Disks c.reported.result (loan c.args.disks.now c.go_on_with.new.disks) out report) c.in-Ok.ensures.told (went g c)

pub returns-in-Ok-go_on_with-clause-went : goal.returns-in-Ok-go_on_with-clause-went
returns-in-Ok-go_on_with-clause-went g c on = (going_of c.in-Ok.going, c.in-Ok.ensures.ran, went g c)

pub returns-in-Ok-go_on_with-clause-passes : goal.returns-in-Ok-go_on_with-clause-passes
returns-in-Ok-go_on_with-clause-passes g c on =
    let report = course (g.R.Sink.held c.args.report.now) (g.R.Sink.held c.reported.new.report) (g.R.Sink.faults c.args.report.now) (g.R.Sink.faults c.reported.new.report) in
    let reports = resumed_report c.leaves_over-halted.result c.in-Ok-go_on_with.course c.outcome_of.result c.reported.result.verdict c.in-Ok.going.report.entries report c.outcome_of.ensures c.reported.ensures.reports in
    let out = course (g.O.Sink.held c.args.out.now) (g.O.Sink.held c.go_on_with.new.out) (g.O.Sink.faults c.args.out.now) (g.O.Sink.faults c.go_on_with.new.out) in
    going_so _ (halted_view c.args.names.now) (going_of c.in-Ok.going)
    (λ going. TellsStores (of_disks g.D.Disks) (length going.setting.images) c.args.disks.now c.go_on_with.new.disks → WritesPassingOn going out report c.reported.result) c.in-Ok.ensures.told
    (λ tells lines were calm calm' empty empty' shown listed at at'. resumed_passes g.D.Disks (going_of c.in-Ok.going) c.reported.result (loan c.args.disks.now c.go_on_with.new.disks) out report c.in-Ok.ensures.given c.in-Ok.ensures.lines (went g c) tells calm calm'
    (λ e. c.in-Ok-go_on_with.ensures.sink (sink_ending c.leaves_over-halted.result c.in-Ok-go_on_with.course.ending c.reported.result.verdict _ report reports e))
    (λ p e. c.in-Ok-go_on_with.ensures.unstopped p (stop_ending c.leaves_over-halted.result c.in-Ok-go_on_with.course.ending c.reported.result.verdict _ report p reports e)) empty empty' lines were shown listed at at')

pub returns-in-Ok-go_on_with-clause-stopped_before : goal.returns-in-Ok-go_on_with-clause-stopped_before
returns-in-Ok-go_on_with-clause-stopped_before g c p e =
    let report = course (g.R.Sink.held c.args.report.now) (g.R.Sink.held c.reported.new.report) (g.R.Sink.faults c.args.report.now) (g.R.Sink.faults c.reported.new.report) in
    let reports = resumed_report c.leaves_over-halted.result c.in-Ok-go_on_with.course c.outcome_of.result c.reported.result.verdict c.in-Ok.going.report.entries report c.outcome_of.ensures c.reported.ensures.reports in
    absurd (c.in-Ok-go_on_with.ensures.unstopped p (stop_ending c.leaves_over-halted.result c.in-Ok-go_on_with.course.ending c.reported.result.verdict _ report p reports e))

pub returns-in-Err-go_on_with-clause-refused : goal.returns-in-Err-go_on_with-clause-refused
returns-in-Err-go_on_with-clause-refused g c refusal is = for_known _ (λ files here. exact_work c.idle-in-Err-go_on_with.result.verdict refusal (going_in files (halted_view c.args.names.now)) (going_of c.in-Ok.going) is (c.in-Ok.ensures.told files here)
    (inr (subst (λ v. is_free v ≡ true) (sym (c.idle-in-Err-go_on_with.ensures.verdict ∙ c.unresumed.ensures)) (free_unresumed c.in-Err-go_on_with.fault (λ e. c.in-Err-go_on_with.ensures.legal (ap Err e))))))

pub returns-in-Err-go_on_with-clause-unsuited : goal.returns-in-Err-go_on_with-clause-unsuited
returns-in-Err-go_on_with-clause-unsuited g c p e = going_so _ (halted_view c.args.names.now) (going_of c.in-Ok.going) (λ going. IsUnsuited g.D.Disks going (loan c.args.disks.now c.go_on_with.new.disks) p) c.in-Ok.ensures.told
    (let why = unsuited_by c.in-Err-go_on_with.fault c.idle-in-Err-go_on_with.result.verdict p (c.idle-in-Err-go_on_with.ensures.verdict ∙ c.unresumed.ensures) e in record {
      found = ⊎_elim (λ found. inl (c.in-Err-go_on_with.ensures.unsuited p (ap Err found))) (λ first. inr (first.0, c.in-Err-go_on_with.ensures.unsteady (ap Err first.1))) why;
      unleft = λ were. ⊎_elim (λ found. not_content {T = Course} (Err c.in-Err-go_on_with.fault) (faults.Unsuited p) (ap Err found) refl (c.in-Err-go_on_with.ensures.resumable were))
          (λ first. not_content {T = Course} (Err c.in-Err-go_on_with.fault) faults.Unsteady (ap Err first.1) refl (c.in-Err-go_on_with.ensures.resumable were)) why;
    })

pub returns-in-Err-go_on_with-clause-store : goal.returns-in-Err-go_on_with-clause-store
returns-in-Err-go_on_with-clause-store g c p fault e idle = going_so _ (halted_view c.args.names.now) (going_of c.in-Ok.going) (λ going. IsRefusedStore g.D.Disks going (loan c.args.disks.now c.go_on_with.new.disks) p fault) c.in-Ok.ensures.told
    (c.in-Err-go_on_with.ensures.refused p fault (ap Err (refused_by c.in-Err-go_on_with.fault c.idle-in-Err-go_on_with.result.verdict p fault (c.idle-in-Err-go_on_with.ensures.verdict ∙ c.unresumed.ensures) e)))

pub returns-in-Err-go_on_with-clause-stood : goal.returns-in-Err-go_on_with-clause-stood
returns-in-Err-go_on_with-clause-stood g c idle may = going_so _ (halted_view c.args.names.now) (going_of c.in-Ok.going) (λ going. HaveStood g.D.Disks going (loan c.args.disks.now c.go_on_with.new.disks)) c.in-Ok.ensures.told
    (c.in-Err-go_on_with.ensures.stood (not_wanting {T = Course} c.in-Err-go_on_with.fault c.idle-in-Err-go_on_with.result.verdict (c.idle-in-Err-go_on_with.ensures.verdict ∙ c.unresumed.ensures) may))

pub returns-in-Err-go_on_with-clause-disks_others : goal.returns-in-Err-go_on_with-clause-disks_others
returns-in-Err-go_on_with-clause-disks_others g c = for_known _ (λ files here. rw (c.in-Ok.ensures.told files here)
    (subst (λ n. AreLeftFrom n (of_disks g.D.Disks) c.args.disks.now c.go_on_with.new.disks) (sym (length-map c.in-Ok.going.opened.setting.scheduled.setup.images.items seen_image)) c.in-Err-go_on_with.ensures.others))
