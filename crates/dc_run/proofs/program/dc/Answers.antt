use Rattle.std.proofs.Common.{◌≡◌, ◌∙◌, ℕ, [], Err, Some, true, ap, inl, inr, length, refl, rules}
use Rattle.dc_audit.specs.Reading.{IsVerdict}
use Rattle.dc_audit.specs.declared.verdict.Verdict.TheVariants as found
use Rattle.dc_command.specs.Command.{asked_of}
use Rattle.dc_command.specs.Command.{halted_view, names_view, order_view}
use Rattle.dc_command.specs.declared.command.Ledger.TheVariants as Ledger
use Rattle.dc_command.specs.Command.Asked.{ToRun, ToCheck, ToAssemble, ToAudit, ToResume}
use Rattle.dc_run.specs.Checking.{Checked, IsChecked}
use Rattle.dc_run.proofs.Checks.{check_asks, check_exact, check_passes}
use Rattle.dc_run.proofs.Commands.{assembly_asks, assembly_exact, assembly_opened, audit_asks, audit_exact, audit_opened, audit_says, check_opened, resume_asks, resume_exact, resume_is_work, resume_opened, run_exact, run_asks, run_is_work, run_opened, unasked_opened, unasked_work}
use Rattle.dc_run.proofs.Ends.{never_refused, not_stopped, opened_with, other_complete, resume_complete, resume_of_words, run_complete, run_of_words}
use Rattle.dc_course.specs.Lent.{TellsStores}
use Rattle.dc_media.specs.Devices.{of_disks, of_words}
use Rattle.dc_run.proofs.OnMedia.{disk_asked, each_so, medium_asked, other_same}
use Rattle.dc_run.specs.Media.{HasFailed, HasStopped, IsOtherSame, devices_of, lent}
use Rattle.dc_run.specs.Headline.{IsReported, course, is_used_up, keeps_journal, loan}
use Rattle.dc_run.specs.Passing.{WritesPassing, WritesPassingOn, WritesSaved}
use Rattle.dc_run.specs.Settings.{has_run}
use Rattle.dc_run.specs.declared.verdict.Verdict.TheVariants.{DeviceFault, DeviceStopped}
use Rattle.dc_run.proofs.Leaving.{asked_left, left_same, resume_left}
use Rattle.dc_run.specs.Resumed.{HaveStood, IsRefusedStore, IsResumed, IsUnsuited}
use Rattle.dc_run.specs.Assembling.{IsAssembled}
use Rattle.dc_run.specs.Auditing.{IsAudited}
use Rattle.dc_run.specs.Commands.{IfAssembly, IfAudit, IfCheck, medium_of, stores_used, work_of}
use Rattle.dc_run.proofs.program.dc.Goals as goal

pub returns-in-Ok-Run-clause-refused : goal.returns-in-Ok-Run-clause-refused
returns-in-Ok-Run-clause-refused g c refusal is = let asked : asked_of c.args.words.now ≡ Some (ToRun (order_view c.in-Ok-Run.order)) = search rules in
    run_exact _ c.args.words.now _ asked _ refusal (c.run_plan.ensures.refused refusal is)

pub returns-in-Ok-Run-clause-library_asked : goal.returns-in-Ok-Run-clause-library_asked
returns-in-Ok-Run-clause-library_asked g c which = let asked : asked_of c.args.words.now ≡ Some (ToRun (order_view c.in-Ok-Run.order)) = search rules in
    run_asks _ c.args.words.now _ asked _ which (c.run_plan.ensures.library_asked which)

pub returns-in-Ok-Assemble-clause-refused : goal.returns-in-Ok-Assemble-clause-refused
returns-in-Ok-Assemble-clause-refused g c refusal is = let asked : asked_of c.args.words.now ≡ Some (ToAssemble c.in-Ok-Assemble.source.now) = search rules in
    assembly_exact _ c.args.words.now _ asked _ refusal (c.assemble_source.ensures.refused refusal is)

pub returns-in-Err-clause-opened : goal.returns-in-Err-clause-opened
returns-in-Err-clause-opened g c = unasked_opened _ c.args.words.now c.in-Err.fault _ (c.idle.ensures.verdict ∙ c.unasked.ensures.meant) (λ is. c.in-Err.ensures.usage (ap Err is))

pub returns-in-Ok-Assemble-clause-library_asked : goal.returns-in-Ok-Assemble-clause-library_asked
returns-in-Ok-Assemble-clause-library_asked g c which = let asked : asked_of c.args.words.now ≡ Some (ToAssemble c.in-Ok-Assemble.source.now) = search rules in
    assembly_asks _ c.args.words.now _ asked _ which (c.assemble_source.ensures.which which) (c.assemble_source.ensures.there which)

pub returns-in-Ok-Check-clause-refused : goal.returns-in-Ok-Check-clause-refused
returns-in-Ok-Check-clause-refused g c refusal is = let asked : asked_of c.args.words.now ≡ Some (ToCheck (names_view c.in-Ok-Check.names)) = search rules in
    check_exact _ c.args.words.now _ asked _ refusal (c.check_output.ensures.refused refusal is)

pub returns-in-Ok-Check-clause-library_asked : goal.returns-in-Ok-Check-clause-library_asked
returns-in-Ok-Check-clause-library_asked g c which = let asked : asked_of c.args.words.now ≡ Some (ToCheck (names_view c.in-Ok-Check.names)) = search rules in
    check_asks _ c.args.words.now _ asked _ which (c.check_output.ensures.library_asked which)

pub returns-in-Ok-Check-clause-checked : goal.returns-in-Ok-Check-clause-checked
returns-in-Ok-Check-clause-checked g c = λ opened. let asked : asked_of c.args.words.now ≡ Some (ToCheck (names_view c.in-Ok-Check.names)) = search rules in
    check_passes _ c.args.words.now _ asked (λ (checked : Checked). IsChecked checked c.check_output.result (g.O.Sink.held c.args.out.now) (g.O.Sink.held c.check_output.new.out)) _
    (λ checked is. (is, refl)) (c.check_output.ensures.checked opened)

pub returns-in-Ok-Run-clause-opened : goal.returns-in-Ok-Run-clause-opened
returns-in-Ok-Run-clause-opened g c = let asked : asked_of c.args.words.now ≡ Some (ToRun (order_view c.in-Ok-Run.order)) = search rules in
    run_opened c.args.words.now c.run_plan.result.verdict _ _ asked c.run_plan.ensures.opened

pub returns-in-Ok-Check-clause-opened : goal.returns-in-Ok-Check-clause-opened
returns-in-Ok-Check-clause-opened g c = let asked : asked_of c.args.words.now ≡ Some (ToCheck (names_view c.in-Ok-Check.names)) = search rules in
    check_opened c.args.words.now c.check_output.result.verdict _ _ asked c.check_output.ensures.opened

pub returns-in-Ok-Assemble-clause-opened : goal.returns-in-Ok-Assemble-clause-opened
returns-in-Ok-Assemble-clause-opened g c = let asked : asked_of c.args.words.now ≡ Some (ToAssemble c.in-Ok-Assemble.source.now) = search rules in
    assembly_opened c.args.words.now c.assemble_source.result.verdict _ _ asked c.assemble_source.ensures.opened

pub returns-in-Ok-Run-clause-complete : goal.returns-in-Ok-Run-clause-complete
returns-in-Ok-Run-clause-complete g c = let asked : asked_of c.args.words.now ≡ Some (ToRun (order_view c.in-Ok-Run.order)) = search rules in
    let out = course (g.O.Sink.held c.args.out.now) (g.O.Sink.held c.run_plan.new.out) (g.O.Sink.faults c.args.out.now) (g.O.Sink.faults c.run_plan.new.out) in
    let report = course (g.R.Sink.held c.args.report.now) (g.R.Sink.held c.run_plan.new.report) (g.R.Sink.faults c.args.report.now) (g.R.Sink.faults c.run_plan.new.report) in
    let before = lent c.args.keeps.now c.args.disks.now in
    let after = lent c.run_plan.new.keeps c.run_plan.new.disks in
    let known = g.L.Library.files c.args.lib.now in
    run_complete c.args.words.now c.run_plan.result.verdict before after (g.L.Library.faults c.args.lib.now) (g.L.Library.faults c.run_plan.new.lib) out report
    c.run_plan.ensures.library_fault c.run_plan.ensures.output_fault c.run_plan.ensures.report_fault (devices_of g.K.Keeps g.D.Disks) known (order_view c.in-Ok-Run.order) asked (λ p e. ap keeps_journal (c.run_plan.ensures.stopped_alone p e)) c.run_plan.ensures.medium_fault c.run_plan.ensures.opened c.run_plan.ensures.begun
    (λ p fault e. opened_with known (order_view c.in-Ok-Run.order) (λ m task. IsReported task (devices_of g.K.Keeps g.D.Disks m) c.run_plan.result (loan before after) out report)
    (λ m task. (devices_of g.K.Keeps g.D.Disks m).tell (length task.setting.images) before after → ⊥)
    (λ m task is. never_refused task (devices_of g.K.Keeps g.D.Disks m) c.run_plan.result (loan before after) out report p fault e is) (c.run_plan.ensures.headline (c.run_plan.ensures.did (ap has_run e))))

pub returns-in-Ok-Check-clause-complete : goal.returns-in-Ok-Check-clause-complete
returns-in-Ok-Check-clause-complete g c = let asked : asked_of c.args.words.now ≡ Some (ToCheck (names_view c.in-Ok-Check.names)) = search rules in
    let known = g.L.Library.files c.args.lib.now in
    other_complete c.args.words.now c.check_output.result.verdict (lent c.args.keeps.now c.args.disks.now) (lent c.args.keeps.now c.args.disks.now) (g.L.Library.faults c.args.lib.now) (g.L.Library.faults c.check_output.new.lib)
    (course (g.O.Sink.held c.args.out.now) (g.O.Sink.held c.check_output.new.out) (g.O.Sink.faults c.args.out.now) (g.O.Sink.faults c.check_output.new.out))
    (course (g.R.Sink.held c.args.report.now) (g.R.Sink.held c.args.report.now) (g.R.Sink.faults c.args.report.now) (g.R.Sink.faults c.args.report.now))
    c.check_output.ensures.library_fault c.check_output.ensures.output_fault (λ e. absurd (c.check_output.ensures.own e))
    (devices_of g.K.Keeps g.D.Disks) (λ m p e. absurd (c.check_output.ensures.device p e)) known (check_opened c.args.words.now c.check_output.result.verdict known (names_view c.in-Ok-Check.names) asked c.check_output.ensures.opened) c.check_output.ensures.runs

pub returns-in-Ok-Assemble-clause-complete : goal.returns-in-Ok-Assemble-clause-complete
returns-in-Ok-Assemble-clause-complete g c = let asked : asked_of c.args.words.now ≡ Some (ToAssemble c.in-Ok-Assemble.source.now) = search rules in
    let known = g.L.Library.files c.args.lib.now in
    other_complete c.args.words.now c.assemble_source.result.verdict (lent c.args.keeps.now c.args.disks.now) (lent c.args.keeps.now c.args.disks.now) (g.L.Library.faults c.args.lib.now) (g.L.Library.faults c.assemble_source.new.lib)
    (course (g.O.Sink.held c.args.out.now) (g.O.Sink.held c.assemble_source.new.out) (g.O.Sink.faults c.args.out.now) (g.O.Sink.faults c.assemble_source.new.out))
    (course (g.R.Sink.held c.args.report.now) (g.R.Sink.held c.args.report.now) (g.R.Sink.faults c.args.report.now) (g.R.Sink.faults c.args.report.now))
    c.assemble_source.ensures.library_fault c.assemble_source.ensures.output_fault (λ e. absurd (c.assemble_source.ensures.own e))
    (devices_of g.K.Keeps g.D.Disks) (λ m p e. absurd (c.assemble_source.ensures.device p e)) known (assembly_opened c.args.words.now c.assemble_source.result.verdict known c.in-Ok-Assemble.source.now asked c.assemble_source.ensures.opened) c.assemble_source.ensures.runs

pub returns-in-Ok-Run-clause-passes : goal.returns-in-Ok-Run-clause-passes
returns-in-Ok-Run-clause-passes g c ran = let asked : asked_of c.args.words.now ≡ Some (ToRun (order_view c.in-Ok-Run.order)) = search rules in
    let out = course (g.O.Sink.held c.args.out.now) (g.O.Sink.held c.run_plan.new.out) (g.O.Sink.faults c.args.out.now) (g.O.Sink.faults c.run_plan.new.out) in
    let report = course (g.R.Sink.held c.args.report.now) (g.R.Sink.held c.run_plan.new.report) (g.R.Sink.faults c.args.report.now) (g.R.Sink.faults c.run_plan.new.report) in
    run_of_words (g.L.Library.files c.args.lib.now) c.args.words.now (order_view c.in-Ok-Run.order)
    (λ m task. task.ledger ≡ Ledger.Report → (devices_of g.K.Keeps g.D.Disks m).tell (length task.setting.images) (lent c.args.keeps.now c.args.disks.now) (lent c.run_plan.new.keeps c.run_plan.new.disks) → WritesPassing task.setting 0 [] out report c.run_plan.result) asked (c.run_plan.ensures.passes ran)

pub returns-in-Ok-Run-clause-keeps_others : goal.returns-in-Ok-Run-clause-keeps_others
returns-in-Ok-Run-clause-keeps_others g c = let asked : asked_of c.args.words.now ≡ Some (ToRun (order_view c.in-Ok-Run.order)) = search rules in
    asked_left (of_words g.K.Keeps) (g.L.Library.files c.args.lib.now) c.args.words.now (order_view c.in-Ok-Run.order) c.args.keeps.now c.run_plan.new.keeps asked c.run_plan.ensures.keeps_others

pub returns-in-Ok-Check-clause-keeps_others : goal.returns-in-Ok-Check-clause-keeps_others
returns-in-Ok-Check-clause-keeps_others g c = left_same (of_words g.K.Keeps) (g.L.Library.files c.args.lib.now) (λ files. stores_used (work_of files c.args.words.now)) c.args.keeps.now

pub returns-in-Ok-Assemble-clause-keeps_others : goal.returns-in-Ok-Assemble-clause-keeps_others
returns-in-Ok-Assemble-clause-keeps_others g c = left_same (of_words g.K.Keeps) (g.L.Library.files c.args.lib.now) (λ files. stores_used (work_of files c.args.words.now)) c.args.keeps.now

pub returns-in-Err-clause-keeps_others : goal.returns-in-Err-clause-keeps_others
returns-in-Err-clause-keeps_others g c = left_same (of_words g.K.Keeps) (g.L.Library.files c.args.lib.now) (λ files. stores_used (work_of files c.args.words.now)) c.args.keeps.now

pub returns-in-Ok-Check-clause-wanting : goal.returns-in-Ok-Check-clause-wanting
returns-in-Ok-Check-clause-wanting g c e p = (inl (refl, refl), inl (refl, refl))

pub returns-in-Ok-Assemble-clause-wanting : goal.returns-in-Ok-Assemble-clause-wanting
returns-in-Ok-Assemble-clause-wanting g c e p = (inl (refl, refl), inl (refl, refl))

pub returns-in-Err-clause-wanting : goal.returns-in-Err-clause-wanting
returns-in-Err-clause-wanting g c e p = (inl (refl, refl), inl (refl, refl))

pub returns-in-Ok-Run-clause-disks_others : goal.returns-in-Ok-Run-clause-disks_others
returns-in-Ok-Run-clause-disks_others g c = let asked : asked_of c.args.words.now ≡ Some (ToRun (order_view c.in-Ok-Run.order)) = search rules in
    asked_left (of_disks g.D.Disks) (g.L.Library.files c.args.lib.now) c.args.words.now (order_view c.in-Ok-Run.order) c.args.disks.now c.run_plan.new.disks asked c.run_plan.ensures.disks_others

pub returns-in-Ok-Check-clause-disks_others : goal.returns-in-Ok-Check-clause-disks_others
returns-in-Ok-Check-clause-disks_others g c = left_same (of_disks g.D.Disks) (g.L.Library.files c.args.lib.now) (λ files. stores_used (work_of files c.args.words.now)) c.args.disks.now

pub returns-in-Ok-Check-clause-other : goal.returns-in-Ok-Check-clause-other
returns-in-Ok-Check-clause-other g c = each_so (g.L.Library.files c.args.lib.now) (λ files. medium_of files c.args.words.now) (λ m. IsOtherSame m (lent c.args.keeps.now c.args.disks.now) (lent c.args.keeps.now c.args.disks.now)) (λ m. other_same m (lent c.args.keeps.now c.args.disks.now))

pub returns-in-Ok-Assemble-clause-disks_others : goal.returns-in-Ok-Assemble-clause-disks_others
returns-in-Ok-Assemble-clause-disks_others g c = left_same (of_disks g.D.Disks) (g.L.Library.files c.args.lib.now) (λ files. stores_used (work_of files c.args.words.now)) c.args.disks.now

pub returns-in-Ok-Assemble-clause-other : goal.returns-in-Ok-Assemble-clause-other
returns-in-Ok-Assemble-clause-other g c = each_so (g.L.Library.files c.args.lib.now) (λ files. medium_of files c.args.words.now) (λ m. IsOtherSame m (lent c.args.keeps.now c.args.disks.now) (lent c.args.keeps.now c.args.disks.now)) (λ m. other_same m (lent c.args.keeps.now c.args.disks.now))

pub returns-in-Err-clause-disks_others : goal.returns-in-Err-clause-disks_others
returns-in-Err-clause-disks_others g c = left_same (of_disks g.D.Disks) (g.L.Library.files c.args.lib.now) (λ files. stores_used (work_of files c.args.words.now)) c.args.disks.now

pub returns-in-Err-clause-other : goal.returns-in-Err-clause-other
returns-in-Err-clause-other g c = each_so (g.L.Library.files c.args.lib.now) (λ files. medium_of files c.args.words.now) (λ m. IsOtherSame m (lent c.args.keeps.now c.args.disks.now) (lent c.args.keeps.now c.args.disks.now)) (λ m. other_same m (lent c.args.keeps.now c.args.disks.now))

pub returns-in-Ok-Check-clause-medium_fault : goal.returns-in-Ok-Check-clause-medium_fault
returns-in-Ok-Check-clause-medium_fault g c = each_so (g.L.Library.files c.args.lib.now) (λ files. medium_of files c.args.words.now)
    (λ m. (p : ℕ) → c.check_output.result.verdict ≡ DeviceFault p → HasFailed (devices_of g.K.Keeps g.D.Disks m) (lent c.args.keeps.now c.args.disks.now) (lent c.args.keeps.now c.args.disks.now) p) (λ m p e. absurd (c.check_output.ensures.device p e))

pub returns-in-Ok-Assemble-clause-medium_fault : goal.returns-in-Ok-Assemble-clause-medium_fault
returns-in-Ok-Assemble-clause-medium_fault g c = each_so (g.L.Library.files c.args.lib.now) (λ files. medium_of files c.args.words.now)
    (λ m. (p : ℕ) → c.assemble_source.result.verdict ≡ DeviceFault p → HasFailed (devices_of g.K.Keeps g.D.Disks m) (lent c.args.keeps.now c.args.disks.now) (lent c.args.keeps.now c.args.disks.now) p) (λ m p e. absurd (c.assemble_source.ensures.device p e))

pub returns-in-Ok-Run-clause-medium_fault : goal.returns-in-Ok-Run-clause-medium_fault
returns-in-Ok-Run-clause-medium_fault g c = let asked : asked_of c.args.words.now ≡ Some (ToRun (order_view c.in-Ok-Run.order)) = search rules in
    medium_asked (g.L.Library.files c.args.lib.now) c.args.words.now (order_view c.in-Ok-Run.order)
    (λ m. (p : ℕ) → c.run_plan.result.verdict ≡ DeviceFault p → HasFailed (devices_of g.K.Keeps g.D.Disks m) (lent c.args.keeps.now c.args.disks.now) (lent c.run_plan.new.keeps c.run_plan.new.disks) p) asked c.run_plan.ensures.medium_fault

pub returns-in-Ok-Run-clause-other : goal.returns-in-Ok-Run-clause-other
returns-in-Ok-Run-clause-other g c = let asked : asked_of c.args.words.now ≡ Some (ToRun (order_view c.in-Ok-Run.order)) = search rules in
    medium_asked (g.L.Library.files c.args.lib.now) c.args.words.now (order_view c.in-Ok-Run.order) (λ m. IsOtherSame m (lent c.args.keeps.now c.args.disks.now) (lent c.run_plan.new.keeps c.run_plan.new.disks)) asked c.run_plan.ensures.other

pub returns-in-Ok-Audit-clause-refused : goal.returns-in-Ok-Audit-clause-refused
returns-in-Ok-Audit-clause-refused g c refusal is = let asked : asked_of c.args.words.now ≡ Some (ToAudit c.in-Ok-Audit.journal.now) = search rules in
    audit_exact _ c.args.words.now _ asked _ refusal (c.audit_journal.ensures.refused refusal is)

pub returns-in-Ok-Audit-clause-library_asked : goal.returns-in-Ok-Audit-clause-library_asked
returns-in-Ok-Audit-clause-library_asked g c which = let asked : asked_of c.args.words.now ≡ Some (ToAudit c.in-Ok-Audit.journal.now) = search rules in
    audit_asks _ c.args.words.now _ asked _ which (c.audit_journal.ensures.which which) (c.audit_journal.ensures.there which)

pub returns-in-Ok-Audit-clause-opened : goal.returns-in-Ok-Audit-clause-opened
returns-in-Ok-Audit-clause-opened g c = let asked : asked_of c.args.words.now ≡ Some (ToAudit c.in-Ok-Audit.journal.now) = search rules in
    audit_opened c.args.words.now c.audit_journal.result.verdict _ _ asked c.audit_journal.ensures.opened

pub returns-in-Ok-Audit-clause-complete : goal.returns-in-Ok-Audit-clause-complete
returns-in-Ok-Audit-clause-complete g c = let asked : asked_of c.args.words.now ≡ Some (ToAudit c.in-Ok-Audit.journal.now) = search rules in
    let known = g.L.Library.files c.args.lib.now in
    other_complete c.args.words.now c.audit_journal.result.verdict (lent c.args.keeps.now c.args.disks.now) (lent c.args.keeps.now c.args.disks.now) (g.L.Library.faults c.args.lib.now) (g.L.Library.faults c.audit_journal.new.lib)
    (course (g.O.Sink.held c.args.out.now) (g.O.Sink.held c.audit_journal.new.out) (g.O.Sink.faults c.args.out.now) (g.O.Sink.faults c.audit_journal.new.out))
    (course (g.R.Sink.held c.args.report.now) (g.R.Sink.held c.args.report.now) (g.R.Sink.faults c.args.report.now) (g.R.Sink.faults c.args.report.now))
    c.audit_journal.ensures.library_fault c.audit_journal.ensures.output_fault (λ e. absurd (c.audit_journal.ensures.own e))
    (devices_of g.K.Keeps g.D.Disks) (λ m p e. absurd (c.audit_journal.ensures.device p e)) known (audit_opened c.args.words.now c.audit_journal.result.verdict known c.in-Ok-Audit.journal.now asked c.audit_journal.ensures.opened) c.audit_journal.ensures.runs

pub returns-in-Ok-Audit-clause-keeps_others : goal.returns-in-Ok-Audit-clause-keeps_others
returns-in-Ok-Audit-clause-keeps_others g c = left_same (of_words g.K.Keeps) (g.L.Library.files c.args.lib.now) (λ files. stores_used (work_of files c.args.words.now)) c.args.keeps.now

pub returns-in-Ok-Audit-clause-wanting : goal.returns-in-Ok-Audit-clause-wanting
returns-in-Ok-Audit-clause-wanting g c e p = (inl (refl, refl), inl (refl, refl))

pub returns-in-Ok-Audit-clause-disks_others : goal.returns-in-Ok-Audit-clause-disks_others
returns-in-Ok-Audit-clause-disks_others g c = left_same (of_disks g.D.Disks) (g.L.Library.files c.args.lib.now) (λ files. stores_used (work_of files c.args.words.now)) c.args.disks.now

pub returns-in-Ok-Audit-clause-other : goal.returns-in-Ok-Audit-clause-other
returns-in-Ok-Audit-clause-other g c = each_so (g.L.Library.files c.args.lib.now) (λ files. medium_of files c.args.words.now) (λ m. IsOtherSame m (lent c.args.keeps.now c.args.disks.now) (lent c.args.keeps.now c.args.disks.now)) (λ m. other_same m (lent c.args.keeps.now c.args.disks.now))

pub returns-in-Ok-Audit-clause-medium_fault : goal.returns-in-Ok-Audit-clause-medium_fault
returns-in-Ok-Audit-clause-medium_fault g c = each_so (g.L.Library.files c.args.lib.now) (λ files. medium_of files c.args.words.now)
    (λ m. (p : ℕ) → c.audit_journal.result.verdict ≡ DeviceFault p → HasFailed (devices_of g.K.Keeps g.D.Disks m) (lent c.args.keeps.now c.args.disks.now) (lent c.args.keeps.now c.args.disks.now) p) (λ m p e. absurd (c.audit_journal.ensures.device p e))

pub returns-in-Ok-Audit-clause-unsaved : goal.returns-in-Ok-Audit-clause-unsaved
returns-in-Ok-Audit-clause-unsaved g c event line e = let asked : asked_of c.args.words.now ≡ Some (ToAudit c.in-Ok-Audit.journal.now) = search rules in
    audit_says (g.L.Library.files c.args.lib.now) c.args.words.now c.in-Ok-Audit.journal.now (λ said. IsVerdict said (found.NotSaved event line)) asked (c.audit_journal.ensures.unsaved event line e)

pub returns-in-Ok-Run-clause-saves : goal.returns-in-Ok-Run-clause-saves
returns-in-Ok-Run-clause-saves g c ran = let asked : asked_of c.args.words.now ≡ Some (ToRun (order_view c.in-Ok-Run.order)) = search rules in
    let report = course (g.R.Sink.held c.args.report.now) (g.R.Sink.held c.run_plan.new.report) (g.R.Sink.faults c.args.report.now) (g.R.Sink.faults c.run_plan.new.report) in
    run_of_words (g.L.Library.files c.args.lib.now) c.args.words.now (order_view c.in-Ok-Run.order)
    (λ m task. task.ledger ≡ Ledger.Journal → (devices_of g.K.Keeps g.D.Disks m).tell (length task.setting.images) (lent c.args.keeps.now c.args.disks.now) (lent c.run_plan.new.keeps c.run_plan.new.disks) → is_used_up c.run_plan.result.verdict ≡ true → WritesSaved task.setting report) asked (c.run_plan.ensures.saves ran)

pub returns-in-Ok-Check-clause-stopped_alone : goal.returns-in-Ok-Check-clause-stopped_alone
returns-in-Ok-Check-clause-stopped_alone g c p e = absurd (not_stopped c.check_output.result.verdict p c.check_output.ensures.runs e)

pub returns-in-Ok-Check-clause-device_stop : goal.returns-in-Ok-Check-clause-device_stop
returns-in-Ok-Check-clause-device_stop g c p e = absurd (not_stopped c.check_output.result.verdict p c.check_output.ensures.runs e)

pub returns-in-Ok-Assemble-clause-stopped_alone : goal.returns-in-Ok-Assemble-clause-stopped_alone
returns-in-Ok-Assemble-clause-stopped_alone g c p e = absurd (not_stopped c.assemble_source.result.verdict p c.assemble_source.ensures.runs e)

pub returns-in-Ok-Assemble-clause-device_stop : goal.returns-in-Ok-Assemble-clause-device_stop
returns-in-Ok-Assemble-clause-device_stop g c p e = absurd (not_stopped c.assemble_source.result.verdict p c.assemble_source.ensures.runs e)

pub returns-in-Ok-Audit-clause-stopped_alone : goal.returns-in-Ok-Audit-clause-stopped_alone
returns-in-Ok-Audit-clause-stopped_alone g c p e = absurd (not_stopped c.audit_journal.result.verdict p c.audit_journal.ensures.runs e)

pub returns-in-Ok-Audit-clause-device_stop : goal.returns-in-Ok-Audit-clause-device_stop
returns-in-Ok-Audit-clause-device_stop g c p e = absurd (not_stopped c.audit_journal.result.verdict p c.audit_journal.ensures.runs e)

pub returns-in-Ok-Run-clause-headline : goal.returns-in-Ok-Run-clause-headline
returns-in-Ok-Run-clause-headline g c ran = let asked : asked_of c.args.words.now ≡ Some (ToRun (order_view c.in-Ok-Run.order)) = search rules in
    let out = course (g.O.Sink.held c.args.out.now) (g.O.Sink.held c.run_plan.new.out) (g.O.Sink.faults c.args.out.now) (g.O.Sink.faults c.run_plan.new.out) in
    let report = course (g.R.Sink.held c.args.report.now) (g.R.Sink.held c.run_plan.new.report) (g.R.Sink.faults c.args.report.now) (g.R.Sink.faults c.run_plan.new.report) in
    run_of_words (g.L.Library.files c.args.lib.now) c.args.words.now (order_view c.in-Ok-Run.order)
    (λ m task. IsReported task (devices_of g.K.Keeps g.D.Disks m) c.run_plan.result (loan (lent c.args.keeps.now c.args.disks.now) (lent c.run_plan.new.keeps c.run_plan.new.disks)) out report) asked (c.run_plan.ensures.headline ran)

pub returns-in-Err-clause-complete : goal.returns-in-Err-clause-complete
returns-in-Err-clause-complete g c = unasked_work _ c.args.words.now c.in-Err.fault _ (c.idle.ensures.verdict ∙ c.unasked.ensures.meant) (λ is. c.in-Err.ensures.usage (ap Err is)) _ (λ e files work calm told. inr e)

pub returns-in-Ok-Run-clause-ran : goal.returns-in-Ok-Run-clause-ran
returns-in-Ok-Run-clause-ran g c ran = let asked : asked_of c.args.words.now ≡ Some (ToRun (order_view c.in-Ok-Run.order)) = search rules in
    let is = c.run_plan.ensures.ran ran in (order_view c.in-Ok-Run.order, asked, is.0, is.1, is.2, is.3, is.4)

pub returns-in-Ok-Run-clause-medium_stop : goal.returns-in-Ok-Run-clause-medium_stop
returns-in-Ok-Run-clause-medium_stop g c = let asked : asked_of c.args.words.now ≡ Some (ToRun (order_view c.in-Ok-Run.order)) = search rules in
    medium_asked (g.L.Library.files c.args.lib.now) c.args.words.now (order_view c.in-Ok-Run.order)
    (λ m. (p : ℕ) → c.run_plan.result.verdict ≡ DeviceStopped p → HasStopped (devices_of g.K.Keeps g.D.Disks m) (lent c.args.keeps.now c.args.disks.now) (lent c.run_plan.new.keeps c.run_plan.new.disks) p) asked c.run_plan.ensures.medium_stop

pub returns-in-Ok-Check-clause-medium_stop : goal.returns-in-Ok-Check-clause-medium_stop
returns-in-Ok-Check-clause-medium_stop g c = each_so (g.L.Library.files c.args.lib.now) (λ files. medium_of files c.args.words.now)
    (λ m. (p : ℕ) → c.check_output.result.verdict ≡ DeviceStopped p → HasStopped (devices_of g.K.Keeps g.D.Disks m) (lent c.args.keeps.now c.args.disks.now) (lent c.args.keeps.now c.args.disks.now) p) (λ m p e. absurd (not_stopped c.check_output.result.verdict p c.check_output.ensures.runs e))

pub returns-in-Ok-Assemble-clause-medium_stop : goal.returns-in-Ok-Assemble-clause-medium_stop
returns-in-Ok-Assemble-clause-medium_stop g c = each_so (g.L.Library.files c.args.lib.now) (λ files. medium_of files c.args.words.now)
    (λ m. (p : ℕ) → c.assemble_source.result.verdict ≡ DeviceStopped p → HasStopped (devices_of g.K.Keeps g.D.Disks m) (lent c.args.keeps.now c.args.disks.now) (lent c.args.keeps.now c.args.disks.now) p) (λ m p e. absurd (not_stopped c.assemble_source.result.verdict p c.assemble_source.ensures.runs e))

pub returns-in-Ok-Audit-clause-medium_stop : goal.returns-in-Ok-Audit-clause-medium_stop
returns-in-Ok-Audit-clause-medium_stop g c = each_so (g.L.Library.files c.args.lib.now) (λ files. medium_of files c.args.words.now)
    (λ m. (p : ℕ) → c.audit_journal.result.verdict ≡ DeviceStopped p → HasStopped (devices_of g.K.Keeps g.D.Disks m) (lent c.args.keeps.now c.args.disks.now) (lent c.args.keeps.now c.args.disks.now) p) (λ m p e. absurd (not_stopped c.audit_journal.result.verdict p c.audit_journal.ensures.runs e))

pub returns-in-Ok-Run-clause-checked : goal.returns-in-Ok-Run-clause-checked
returns-in-Ok-Run-clause-checked g c opened = let asked : asked_of c.args.words.now ≡ Some (ToRun (order_view c.in-Ok-Run.order)) = search rules in
    run_is_work (g.L.Library.files c.args.lib.now) c.args.words.now (order_view c.in-Ok-Run.order) c.run_plan.result.verdict asked opened c.run_plan.ensures.opened
    (λ work. IfCheck work (λ of. IsChecked of c.run_plan.result (g.O.Sink.held c.args.out.now) (g.O.Sink.held c.run_plan.new.out) × (c.run_plan.new.report ≡ c.args.report.now))) (λ setting. tt)

pub returns-in-Ok-Run-clause-assembled : goal.returns-in-Ok-Run-clause-assembled
returns-in-Ok-Run-clause-assembled g c opened = let asked : asked_of c.args.words.now ≡ Some (ToRun (order_view c.in-Ok-Run.order)) = search rules in
    run_is_work (g.L.Library.files c.args.lib.now) c.args.words.now (order_view c.in-Ok-Run.order) c.run_plan.result.verdict asked opened c.run_plan.ensures.opened
    (λ work. IfAssembly work (λ of. IsAssembled of c.run_plan.result (g.O.Sink.held c.args.out.now) (g.O.Sink.held c.run_plan.new.out) × (c.run_plan.new.report ≡ c.args.report.now))) (λ setting. tt)

pub returns-in-Ok-Run-clause-audited : goal.returns-in-Ok-Run-clause-audited
returns-in-Ok-Run-clause-audited g c opened = let asked : asked_of c.args.words.now ≡ Some (ToRun (order_view c.in-Ok-Run.order)) = search rules in
    run_is_work (g.L.Library.files c.args.lib.now) c.args.words.now (order_view c.in-Ok-Run.order) c.run_plan.result.verdict asked opened c.run_plan.ensures.opened
    (λ work. IfAudit work (λ of. IsAudited of c.run_plan.result (g.O.Sink.held c.args.out.now) (g.O.Sink.held c.run_plan.new.out) × (c.run_plan.new.report ≡ c.args.report.now))) (λ setting. tt)

pub returns-in-Ok-Resume-clause-refused : goal.returns-in-Ok-Resume-clause-refused
returns-in-Ok-Resume-clause-refused g c refusal is = let asked : asked_of c.args.words.now ≡ Some (ToResume (halted_view c.in-Ok-Resume.names)) = search rules in
    resume_exact _ c.args.words.now _ asked _ refusal (c.resume_run.ensures.refused refusal is)

pub returns-in-Ok-Resume-clause-library_asked : goal.returns-in-Ok-Resume-clause-library_asked
returns-in-Ok-Resume-clause-library_asked g c which = let asked : asked_of c.args.words.now ≡ Some (ToResume (halted_view c.in-Ok-Resume.names)) = search rules in
    resume_asks _ c.args.words.now _ asked _ which (c.resume_run.ensures.library_asked which)

pub returns-in-Ok-Resume-clause-opened : goal.returns-in-Ok-Resume-clause-opened
returns-in-Ok-Resume-clause-opened g c = let asked : asked_of c.args.words.now ≡ Some (ToResume (halted_view c.in-Ok-Resume.names)) = search rules in
    resume_opened c.args.words.now c.resume_run.result.verdict _ _ asked c.resume_run.ensures.opened

pub returns-in-Ok-Resume-clause-complete : goal.returns-in-Ok-Resume-clause-complete
returns-in-Ok-Resume-clause-complete g c = let asked : asked_of c.args.words.now ≡ Some (ToResume (halted_view c.in-Ok-Resume.names)) = search rules in
    let out = course (g.O.Sink.held c.args.out.now) (g.O.Sink.held c.resume_run.new.out) (g.O.Sink.faults c.args.out.now) (g.O.Sink.faults c.resume_run.new.out) in
    let report = course (g.R.Sink.held c.args.report.now) (g.R.Sink.held c.resume_run.new.report) (g.R.Sink.faults c.args.report.now) (g.R.Sink.faults c.resume_run.new.report) in
    let before = lent c.args.keeps.now c.args.disks.now in
    let after = lent c.args.keeps.now c.resume_run.new.disks in
    resume_complete c.args.words.now c.resume_run.result.verdict before after (g.L.Library.faults c.args.lib.now) (g.L.Library.faults c.resume_run.new.lib) out report
    c.resume_run.ensures.library_fault c.resume_run.ensures.output_fault c.resume_run.ensures.report_fault (devices_of g.K.Keeps g.D.Disks) (g.L.Library.files c.args.lib.now) (halted_view c.in-Ok-Resume.names) asked c.resume_run.ensures.device_fault c.resume_run.ensures.opened

pub returns-in-Ok-Resume-clause-keeps_others : goal.returns-in-Ok-Resume-clause-keeps_others
returns-in-Ok-Resume-clause-keeps_others g c = left_same (of_words g.K.Keeps) (g.L.Library.files c.args.lib.now) (λ files. stores_used (work_of files c.args.words.now)) c.args.keeps.now

pub returns-in-Ok-Resume-clause-disks_others : goal.returns-in-Ok-Resume-clause-disks_others
returns-in-Ok-Resume-clause-disks_others g c = let asked : asked_of c.args.words.now ≡ Some (ToResume (halted_view c.in-Ok-Resume.names)) = search rules in
    resume_left (of_disks g.D.Disks) (g.L.Library.files c.args.lib.now) c.args.words.now (halted_view c.in-Ok-Resume.names) c.args.disks.now c.resume_run.new.disks asked c.resume_run.ensures.disks_others

pub returns-in-Ok-Resume-clause-wanting : goal.returns-in-Ok-Resume-clause-wanting
returns-in-Ok-Resume-clause-wanting g c e p = (inl (refl, refl), c.resume_run.ensures.wanting e p)

pub returns-in-Ok-Resume-clause-device_fault : goal.returns-in-Ok-Resume-clause-device_fault
returns-in-Ok-Resume-clause-device_fault g c p e = inr (c.resume_run.ensures.device_fault p e)

pub returns-in-Ok-Resume-clause-device_stop : goal.returns-in-Ok-Resume-clause-device_stop
returns-in-Ok-Resume-clause-device_stop g c p e = inr (c.resume_run.ensures.device_stop p e)

pub returns-in-Ok-Resume-clause-other : goal.returns-in-Ok-Resume-clause-other
returns-in-Ok-Resume-clause-other g c = let asked : asked_of c.args.words.now ≡ Some (ToResume (halted_view c.in-Ok-Resume.names)) = search rules in
    disk_asked (g.L.Library.files c.args.lib.now) c.args.words.now (halted_view c.in-Ok-Resume.names) (λ m. IsOtherSame m (lent c.args.keeps.now c.args.disks.now) (lent c.args.keeps.now c.resume_run.new.disks)) asked refl

pub returns-in-Ok-Resume-clause-medium_fault : goal.returns-in-Ok-Resume-clause-medium_fault
returns-in-Ok-Resume-clause-medium_fault g c = let asked : asked_of c.args.words.now ≡ Some (ToResume (halted_view c.in-Ok-Resume.names)) = search rules in
    disk_asked (g.L.Library.files c.args.lib.now) c.args.words.now (halted_view c.in-Ok-Resume.names)
    (λ m. (p : ℕ) → c.resume_run.result.verdict ≡ DeviceFault p → HasFailed (devices_of g.K.Keeps g.D.Disks m) (lent c.args.keeps.now c.args.disks.now) (lent c.args.keeps.now c.resume_run.new.disks) p) asked c.resume_run.ensures.device_fault

pub returns-in-Ok-Resume-clause-medium_stop : goal.returns-in-Ok-Resume-clause-medium_stop
returns-in-Ok-Resume-clause-medium_stop g c = let asked : asked_of c.args.words.now ≡ Some (ToResume (halted_view c.in-Ok-Resume.names)) = search rules in
    disk_asked (g.L.Library.files c.args.lib.now) c.args.words.now (halted_view c.in-Ok-Resume.names)
    (λ m. (p : ℕ) → c.resume_run.result.verdict ≡ DeviceStopped p → HasStopped (devices_of g.K.Keeps g.D.Disks m) (lent c.args.keeps.now c.args.disks.now) (lent c.args.keeps.now c.resume_run.new.disks) p) asked c.resume_run.ensures.device_stop

pub returns-in-Ok-Resume-clause-checked : goal.returns-in-Ok-Resume-clause-checked
returns-in-Ok-Resume-clause-checked g c opened = let asked : asked_of c.args.words.now ≡ Some (ToResume (halted_view c.in-Ok-Resume.names)) = search rules in
    resume_is_work (g.L.Library.files c.args.lib.now) c.args.words.now (halted_view c.in-Ok-Resume.names) c.resume_run.result.verdict asked opened c.resume_run.ensures.opened
    (λ work. IfCheck work (λ of. IsChecked of c.resume_run.result (g.O.Sink.held c.args.out.now) (g.O.Sink.held c.resume_run.new.out) × (c.resume_run.new.report ≡ c.args.report.now))) (λ going. tt)

pub returns-in-Ok-Resume-clause-assembled : goal.returns-in-Ok-Resume-clause-assembled
returns-in-Ok-Resume-clause-assembled g c opened = let asked : asked_of c.args.words.now ≡ Some (ToResume (halted_view c.in-Ok-Resume.names)) = search rules in
    resume_is_work (g.L.Library.files c.args.lib.now) c.args.words.now (halted_view c.in-Ok-Resume.names) c.resume_run.result.verdict asked opened c.resume_run.ensures.opened
    (λ work. IfAssembly work (λ of. IsAssembled of c.resume_run.result (g.O.Sink.held c.args.out.now) (g.O.Sink.held c.resume_run.new.out) × (c.resume_run.new.report ≡ c.args.report.now))) (λ going. tt)

pub returns-in-Ok-Resume-clause-audited : goal.returns-in-Ok-Resume-clause-audited
returns-in-Ok-Resume-clause-audited g c opened = let asked : asked_of c.args.words.now ≡ Some (ToResume (halted_view c.in-Ok-Resume.names)) = search rules in
    resume_is_work (g.L.Library.files c.args.lib.now) c.args.words.now (halted_view c.in-Ok-Resume.names) c.resume_run.result.verdict asked opened c.resume_run.ensures.opened
    (λ work. IfAudit work (λ of. IsAudited of c.resume_run.result (g.O.Sink.held c.args.out.now) (g.O.Sink.held c.resume_run.new.out) × (c.resume_run.new.report ≡ c.args.report.now))) (λ going. tt)

pub returns-in-Ok-Resume-clause-resumed : goal.returns-in-Ok-Resume-clause-resumed
returns-in-Ok-Resume-clause-resumed g c on = let asked : asked_of c.args.words.now ≡ Some (ToResume (halted_view c.in-Ok-Resume.names)) = search rules in
    let out = course (g.O.Sink.held c.args.out.now) (g.O.Sink.held c.resume_run.new.out) (g.O.Sink.faults c.args.out.now) (g.O.Sink.faults c.resume_run.new.out) in
    let report = course (g.R.Sink.held c.args.report.now) (g.R.Sink.held c.resume_run.new.report) (g.R.Sink.faults c.args.report.now) (g.R.Sink.faults c.resume_run.new.report) in
    resume_of_words (g.L.Library.files c.args.lib.now) c.args.words.now (halted_view c.in-Ok-Resume.names) (λ going. IsResumed going g.D.Disks c.resume_run.result (loan c.args.disks.now c.resume_run.new.disks) out report) asked (c.resume_run.ensures.resumed on)

pub returns-in-Ok-Resume-clause-passes_on : goal.returns-in-Ok-Resume-clause-passes_on
returns-in-Ok-Resume-clause-passes_on g c on = let asked : asked_of c.args.words.now ≡ Some (ToResume (halted_view c.in-Ok-Resume.names)) = search rules in
    let out = course (g.O.Sink.held c.args.out.now) (g.O.Sink.held c.resume_run.new.out) (g.O.Sink.faults c.args.out.now) (g.O.Sink.faults c.resume_run.new.out) in
    let report = course (g.R.Sink.held c.args.report.now) (g.R.Sink.held c.resume_run.new.report) (g.R.Sink.faults c.args.report.now) (g.R.Sink.faults c.resume_run.new.report) in
    resume_of_words (g.L.Library.files c.args.lib.now) c.args.words.now (halted_view c.in-Ok-Resume.names)
    (λ going. TellsStores (of_disks g.D.Disks) (length going.setting.images) c.args.disks.now c.resume_run.new.disks → WritesPassingOn going out report c.resume_run.result) asked (c.resume_run.ensures.passes on)

pub returns-in-Ok-Resume-clause-unsuited : goal.returns-in-Ok-Resume-clause-unsuited
returns-in-Ok-Resume-clause-unsuited g c p e = let asked : asked_of c.args.words.now ≡ Some (ToResume (halted_view c.in-Ok-Resume.names)) = search rules in
    resume_of_words (g.L.Library.files c.args.lib.now) c.args.words.now (halted_view c.in-Ok-Resume.names) (λ going. IsUnsuited g.D.Disks going (loan c.args.disks.now c.resume_run.new.disks) p) asked (c.resume_run.ensures.unsuited p e)

pub returns-in-Ok-Resume-clause-store : goal.returns-in-Ok-Resume-clause-store
returns-in-Ok-Resume-clause-store g c p fault e idle = let asked : asked_of c.args.words.now ≡ Some (ToResume (halted_view c.in-Ok-Resume.names)) = search rules in
    resume_of_words (g.L.Library.files c.args.lib.now) c.args.words.now (halted_view c.in-Ok-Resume.names) (λ going. IsRefusedStore g.D.Disks going (loan c.args.disks.now c.resume_run.new.disks) p fault) asked (c.resume_run.ensures.store p fault e idle)

pub returns-in-Ok-Resume-clause-stood : goal.returns-in-Ok-Resume-clause-stood
returns-in-Ok-Resume-clause-stood g c idle may = let asked : asked_of c.args.words.now ≡ Some (ToResume (halted_view c.in-Ok-Resume.names)) = search rules in
    resume_of_words (g.L.Library.files c.args.lib.now) c.args.words.now (halted_view c.in-Ok-Resume.names) (λ going. HaveStood g.D.Disks going (loan c.args.disks.now c.resume_run.new.disks)) asked (c.resume_run.ensures.stood idle may)
