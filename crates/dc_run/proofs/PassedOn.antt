-- What a part of a run wrote that went on passes the check, behind what the parts before it wrote.
use Rattle.std.proofs.Common.{◌≡◌, ◌∙◌, ◌+◌, ◌<◌, ◌≤◌, ℕ, All, List, [], ◌++◌, None, Some, ap, arith, drop, length, length-append, reverse, subst, sym}
use Rattle.std.proofs.lemmas.List.{append-nil, length-map, length-reverse, reverse-reverse}
use Rattle.dc_course.specs.Headline.{Setting, system_in, torn_at}
use Rattle.dc_course.specs.Lent.{TellsStores}
use Rattle.dc_course.specs.Running.{output}
use Rattle.dc_course.specs.declared.ending.Ending.{Ending}
use Rattle.dc_course.specs.declared.ending.Ending.TheVariants as ending
use Rattle.dc_limits.specs.declared.bounds.TheConstants.{ENTRIES}
use Rattle.dc_media.specs.Causes.{Rose}
use Rattle.dc_media.specs.Devices.{of_disks}
use Rattle.dc_media.specs.declared.disks.Disks as disks
use Rattle.dc_model.specs.Drawn.{Drawn}
use Rattle.dc_model.specs.Repeats.{RepeatsAgree, RepeatsFirst}
use Rattle.dc_model.specs.FailureFree.{thin}
use Rattle.dc_model.specs.declared.act.Taken.{Taken}
use Rattle.dc_model.specs.declared.visible.Visible.{Visible}
use Rattle.dc_recovery.proofs.Lines.{agree_behind}
use Rattle.dc_recovery.specs.Core.{Core}
use Rattle.dc_recovery.specs.Recoveries.{resumed_core}
use Rattle.dc_report.specs.Reports.{report_text}
use Rattle.dc_resume.specs.Suited.{saves_in}
use Rattle.dc_shows.specs.Typed.{IsGivenRun}
use Rattle.dc_run.proofs.Ends.{no_rise}
use Rattle.dc_run.proofs.Halts.{drawn_more, drawn_within, entries_few, entries_fewer, halted_said}
use Rattle.dc_run.proofs.Written.{EndsWhole, ends_whole, passing, reported_verdict, reported_whole, shows_on, sink_said, stands_on, stopped_said}
use Rattle.dc_run.specs.Headline.{Loan, Reports, SinkCourse, account_of, verdict_at}
use Rattle.dc_run.specs.Outcomes.{status_of}
use Rattle.dc_run.specs.Passing.{AreShown, PartPasses}
use Rattle.dc_run.specs.Resumed.{GoesOnFrom, IsResumed}
use Rattle.dc_run.specs.Resuming.{Going, is_halted_again, onward_of}
use Rattle.dc_run.specs.Settings.{IsCalm}
use Rattle.dc_run.specs.declared.outcome.Outcome.{Outcome}
use Rattle.dc_run.specs.declared.verdict.Outlet.TheVariants as outlet
use Rattle.dc_run.specs.declared.verdict.Verdict.{Verdict}
use Rattle.dc_run.specs.declared.verdict.Verdict.TheVariants.{DeviceStopped, Halted, SinkFault}

module _ {D : Type 0} (disk : disks.Ghosts D) (going : Going) (o : Outcome) (lent : Loan D) (out report : SinkCourse) (given : IsGivenRun going.setting.images going.setting.inputs going.setting.schedule)
    (low : going.report.lines ≤ going.report.entries) (is : IsResumed going disk o lent out report) (tells : TellsStores (of_disks disk) (length going.setting.images) lent.before lent.after)
    (calm : IsCalm out.faults_before out.faults_after) (calm' : IsCalm report.faults_before report.faults_after) (sink : o.verdict ≡ SinkFault outlet.Out → Rose out.faults_before out.faults_after)
    (unstopped : (p : ℕ) → o.verdict ≡ DeviceStopped p → ⊥) (empty : out.before ≡ Some []) (empty' : report.before ≡ Some []) (lines : List Visible)
    (were : AreShown going.setting going.report.acts going.report.lines lines) where
  abbrev setting : Setting
  setting = onward_of going

  abbrev stood : Verdict
  stood = verdict_at (is_halted_again going) is.ending

  abbrev goes : GoesOnFrom disk setting is.kept.0.images going.report.acts lines (account_of o None) is.ending (output out.before out.after) lent
  goes = is.kept.1 tells lines were.world were.acts_run were.count_is were.thinned

  abbrev begun : Core
  begun = resumed_core goes.2.given (reverse lines) (saves_in (system_in setting) goes.2.stored)

  -- what was written at its end, where it ended so
  told_at : (e : Ending) → is.ending ≡ e → Reports (verdict_at (is_halted_again going) e) o.verdict (report_text (status_of (verdict_at (is_halted_again going) e)) (going.report.entries + length o.marks.items) o.acts.items o.lines) report
  told_at e same = subst (λ x. Reports (verdict_at (is_halted_again going) x) o.verdict (report_text (status_of (verdict_at (is_halted_again going) x)) (going.report.entries + length o.marks.items) o.acts.items o.lines) report) same is.report_told

  not_sink : is.ending ≡ ending.Sink → ⊥
  not_sink e = no_rise out.faults_before out.faults_after calm (sink (sink_said o.verdict _ report (told_at ending.Sink e)))

  not_stopped : (p : ℕ) → is.ending ≡ ending.Stopped p → ⊥
  not_stopped p e = unstopped p (stopped_said p o.verdict _ report (told_at (ending.Stopped p) e))

  ends : EndsWhole setting (account_of o None) goes.3.last (is_halted_again going) is.ending
  ends = ends_whole setting (account_of o None) goes.3.last goes.3.core (is_halted_again going) is.ending goes.3.ending_is not_sink not_stopped

  -- its own lines
  abbrev more : List Visible
  more = goes.3.headline.whole

  -- none of which was cut off
  all_whole : lines ++ (more ++ torn_at goes.3.last) ≡ lines ++ more
  all_whole = ap (λ torn. lines ++ (more ++ torn)) ends.whole ∙ ap (λ ls. lines ++ ls) (append-nil more)

  -- the lines of its core are all lines
  core_lines : goes.3.core.lines ≡ reverse (lines ++ more)
  core_lines = sym (reverse-reverse goes.3.core.lines) ∙ ap (λ (ls : List Visible). reverse ls) (goes.3.headline.core_led.lines_are ∙ all_whole)

  agree : RepeatsAgree (reverse (lines ++ more))
  agree = let well = goes.3.headline.well in
      subst RepeatsAgree (sym well.lines_are ∙ core_lines) (agree_behind well.more (reverse lines) (subst (RepeatsFirst (length (reverse lines))) well.lines_are well.promised.agree) were.agree)

  all_shown : AreShown going.setting o.acts.items o.lines (lines ++ more)
  all_shown = record {
    world = goes.3.headline.world;
    acts_run = goes.3.headline.acts_run;
    count_is = length-append lines more ∙ goes.3.headline.count;
    thinned = ap thin (sym all_whole) ∙ goes.3.headline.thinned;
    agree = agree;
  }

  drawn : Drawn (length going.setting.images) going.setting.schedule o.acts.items
  drawn = drawn_more (length going.setting.images) going.halt going.setting.schedule 0 o.acts.items goes.3.headline.acts_drawn

  most : going.report.entries + length o.marks.items ≤ ENTRIES
  most = let few = ends.few in let all = given.schedule_is.0 in let part = entries_few going.halt going.setting.schedule in omega (arith, few, all, part)

  -- each of its lines was shown at an entry of its own
  few : o.lines ≤ going.report.entries + length o.marks.items
  few =
      let well = goes.3.headline.well in
      let numbered = ap (λ l. length l) well.numbered in
      let long = length-map {B = ℕ × ℕ} well.more (λ x. (x.p, x.k)) in
      let noted = ends.notes_few (drop setting.from setting.schedule) in
      let core = ap (λ (ls : List Visible). length ls) (sym core_lines ∙ well.lines_are) in
      let back = length-reverse (lines ++ more) in
      let joined = length-append well.more (reverse lines) in
      let before = length-reverse lines in
      let count = all_shown.count_is in
      let were_count = were.count_is in
      omega (arith, numbered, long, noted, core, back, joined, before, count, were_count, low)

  -- where its entries are used up, its marks reach all its acts
  reached : status_of stood ≡ 15 → All (λ x. x.t < going.report.entries + length o.marks.items) o.acts.items
  reached e = subst (λ (n : ℕ). All (λ (x : Taken). x.t < n) o.acts.items) (sym (ends.used e)) (drawn_within (length setting.images) setting.schedule 0 o.acts.items goes.3.headline.acts_drawn)

  -- where its verdict is that it was halted, entries are left over
  halted_at : o.verdict ≡ Halted → (status_of stood ≡ 15) × (going.report.entries + length o.marks.items < length going.setting.schedule)
  halted_at said =
      let same = sym (reported_verdict stood o.verdict _ report calm' is.report_told) ∙ said in
      let status : status_of stood ≡ 15 = ap status_of same in
      let used = ends.used status in
      let fewer = entries_fewer going.halt going.setting.schedule (halted_said (is_halted_again going) is.ending same) in (status, omega (arith, used, fewer))

  pub resumed_passes : (shown listed : List ℕ) → out.after ≡ Some shown → report.after ≡ Some listed → PartPasses going.setting going.report.entries lines listed shown o
  resumed_passes shown listed at at' = passing going.setting given going.report.entries lines more o all_shown drawn stood ends.status most few reached halted_at listed shown
      (stands_on report.before report.after _ listed empty' at' (reported_whole stood o.verdict _ report calm' is.report_told))
      (shows_on more (torn_at goes.3.last) out.before out.after shown ends.whole empty at goes.3.headline.written)
