-- What a run wrote passes the check.
use Rattle.std.proofs.Common.{◌≡◌, ◌∙◌, ◌+◌, ◌<◌, ◌≤◌, inl, inr, ℕ, suc, All, Bool, true, false, List, [], ◌∷◌, ◌++◌, Option, None, Some, IfSome, ap, arith, if◌then◌else◌, is_some, length, refl, reverse, subst, sym}
use Rattle.std.proofs.lemmas.Bool.{true≢false}
use Rattle.std.proofs.lemmas.List.{append-nil, length-map, length-reverse}
use Rattle.dc_report.specs.Reports.{report_text}
use Rattle.dc_audit.specs.Journals.{HasSaveWork}
use Rattle.dc_audit.specs.Keeping.{HasMembers, IsJournal}
use Rattle.dc_audit.specs.Reading.{journal_of}
use Rattle.dc_course.proofs.Journaling.{front_whole, unstopped_round}
use Rattle.dc_course.specs.Courses.{IsCourse, counts_of}
use Rattle.dc_course.specs.Headline.{Account, IsEnding, IsHeadline, Last, Setting, marks_at, system_in, torn_at, turn_after}
use Rattle.dc_course.specs.Journals.{EndsAtFirstStop, IsJournalOf}
use Rattle.dc_course.specs.Running.{output}
use Rattle.dc_journal.proofs.JournalTexts.{text_again}
use Rattle.dc_journal.specs.Texts.{journal_text, whole_text}
use Rattle.dc_model.specs.Runs.{Given}
use Rattle.dc_protocols.specs.Rules.{is_causal}
use Rattle.dc_recovery.proofs.Sound.{sound_system}
use Rattle.dc_recovery.proofs.Unstopping.{lead}
use Rattle.dc_recovery.specs.Systems.{IsSound}
use Rattle.dc_recovery.specs.Turned.{LeadsTo}
use Rattle.dc_recovery.specs.Unstopped.{Unstopped, is_taken, taken_turns}
use Rattle.dc_savework.proofs.Addressed.{addressed}
use Rattle.dc_savework.proofs.Few.{journal_short}
use Rattle.dc_savework.proofs.Growing.{plain_all}
use Rattle.dc_savework.proofs.Leading.{led_work}
use Rattle.dc_savework.proofs.Wrote.{led_journal}
use Rattle.dc_course.specs.declared.ending.Ending.{Ending}
use Rattle.dc_course.specs.declared.ending.Ending.TheVariants as ending
use Rattle.dc_media.specs.Causes.{Rose}
use Rattle.dc_run.specs.Media.{Devices}
use Rattle.dc_model.specs.Repeats.{RepeatsAgree, notes, numbers}
use Rattle.dc_model.specs.FailureFree.{thin}
use Rattle.dc_model.specs.declared.mark.Mark.{Mark}
use Rattle.dc_model.specs.declared.visible.Visible.{Visible}
use Rattle.dc_recovery.specs.Core.{Core, opening}
use Rattle.dc_shows.specs.Typed.{IsGivenRun}
use Rattle.dc_audit.specs.declared.journal.Line.{Line}
use Rattle.dc_command.specs.declared.command.Ledger.TheVariants as ledger
use Rattle.dc_run.specs.Headline.{IsReported, Loan, Reports, SinkCourse, account_of, is_used_up, journal_or_report, keeps_journal, ledger_text, unreported, verdict_at}
use Rattle.dc_run.specs.Opening.{Task, is_halted, part_of}
use Rattle.dc_run.proofs.Halts.{drawn_more, drawn_within, entries_few, entries_fewer, halted_said, turns_run}
use Rattle.dc_run.proofs.Headlines.{not_used, used_said}
use Rattle.dc_model.specs.Drawn.{Drawn}
use Rattle.dc_model.specs.declared.act.Taken.{Taken}
use Rattle.dc_recovery.specs.Unstopped.{AreTurns}
use Rattle.dc_run.specs.Outcomes.{status_of}
use Rattle.dc_run.specs.Passing.{AreShown, PartPasses, WritesSaved}
use Rattle.dc_run.specs.Settings.{IsCalm}
use Rattle.dc_run.specs.declared.outcome.Outcome.{Outcome}
use Rattle.dc_run.specs.declared.verdict.Outlet.TheVariants as outlet
use Rattle.dc_run.specs.declared.verdict.Verdict.{Verdict}
use Rattle.dc_run.specs.declared.verdict.Verdict.TheVariants.{Done, Unfinished, Halted, DeviceFault, DeviceStopped, SinkFault, StoreRefused}
use Rattle.dc_run.proofs.Ends.{no_rise}
use Rattle.dc_run.proofs.Written.{ends_whole, passing, reported_verdict, reported_whole, shows_on, sink_said, stands_on, stopped_said}

-- a run of which no line was cut off
module _ (task : Task) (given : IsGivenRun task.setting.images task.setting.inputs task.setting.schedule) (run : Account) (last : Last) (up : ℕ → Bool) (core : Core) (before after : Option (List ℕ))
    (headline : IsHeadline (part_of task) run last up core before after) (whole : torn_at last ≡ []) where
  drawn : Drawn (length task.setting.images) task.setting.schedule run.acts
  drawn = drawn_more (length task.setting.images) task.halt task.setting.schedule 0 run.acts headline.acts_drawn

  thinned : thin headline.whole ≡ headline.world.visibles
  thinned = ap thin (sym (append-nil headline.whole)) ∙ sym (ap (λ torn. thin (headline.whole ++ torn)) whole) ∙ headline.lines_shown.thinned

  agree : RepeatsAgree (reverse headline.whole)
  agree = subst (λ (l : List Visible). RepeatsAgree (reverse l)) (append-nil headline.whole) (subst (λ torn. RepeatsAgree (reverse (headline.whole ++ torn))) whole headline.repeats_equal.agree)

  -- its lines are shown by its acts
  pub shown_whole : AreShown task.setting run.acts run.lines headline.whole
  shown_whole = record { world = headline.world; acts_run = headline.acts_run; count_is = headline.lines_shown.count; thinned = thinned; agree = agree }

  -- where its entries are used up, its marks reach all its acts
  reached : turn_after (part_of task) run.marks ≡ length (part_of task).schedule → All (λ x. x.t < length run.marks) run.acts
  reached used = subst (λ (n : ℕ). All (λ (x : Taken). x.t < n) run.acts) (let zero = headline.from_is in omega (arith, used, zero)) (drawn_within (length task.setting.images) (part_of task).schedule 0 run.acts headline.acts_drawn)

  -- no more lines than notes
  lines_noted : run.lines ≤ length (numbers (notes (part_of task).schedule (marks_at last run.marks)))
  lines_noted = let numbered = ap (λ l. length l) headline.repeats_equal.numbered in
      let long = length-map {B = ℕ × ℕ} (reverse (headline.whole ++ torn_at last)) (λ x. (x.p, x.k)) in
      let back = length-reverse (headline.whole ++ torn_at last) in
      let none = ap (λ torn. length (headline.whole ++ torn)) whole ∙ ap (λ (l : List Visible). length l) (append-nil headline.whole) in
      let count = headline.lines_shown.count in
      omega (arith, numbered, long, back, none, count)

-- no journal was kept
none_is : (journal : Option (List Line)) → is_some journal ≡ false → journal ≡ None
none_is None is = refl
none_is (Some lines) is = absurd (true≢false is)

module _ {S : Type 0} (on : Devices S) (task : Task) (report_it : task.ledger ≡ ledger.Report) (o : Outcome) (lent : Loan S) (out report : SinkCourse) (given : IsGivenRun task.setting.images task.setting.inputs task.setting.schedule)
    (is : IsReported task on o lent out report) (tells : on.tell (length task.setting.images) lent.before lent.after) (calm : IsCalm out.faults_before out.faults_after)
    (calm' : IsCalm report.faults_before report.faults_after) (sink : o.verdict ≡ SinkFault outlet.Out → Rose out.faults_before out.faults_after) (unstopped : (p : ℕ) → o.verdict ≡ DeviceStopped p → ⊥)
    (empty : out.before ≡ Some []) (empty' : report.before ≡ Some []) where
  abbrev halts : Bool
  halts = is_halted task

  -- what was written at its end, where it ended so
  told_at : (e : Ending) → is.ending ≡ e → Reports (verdict_at halts e) o.verdict (ledger_text (length task.setting.images) (verdict_at halts e) (account_of o is.journal)) report
  told_at e same = subst (λ x. Reports (verdict_at halts x) o.verdict (ledger_text (length task.setting.images) (verdict_at halts x) (account_of o is.journal)) report) same is.report_told

  not_sink : is.ending ≡ ending.Sink → ⊥
  not_sink e = no_rise out.faults_before out.faults_after calm (sink (sink_said o.verdict _ report (told_at ending.Sink e)))

  not_stopped : (p : ℕ) → is.ending ≡ ending.Stopped p → ⊥
  not_stopped p e = unstopped p (stopped_said p o.verdict _ report (told_at (ending.Stopped p) e))

  -- it is the report
  report_is : ledger_text (length task.setting.images) (verdict_at halts is.ending) (account_of o is.journal) ≡ report_text (status_of (verdict_at halts is.ending)) (length o.marks.items) o.acts.items o.lines
  report_is = ap (λ j. journal_or_report j (length task.setting.images) (verdict_at halts is.ending) (account_of o is.journal)) (none_is is.journal (is.journal_is ∙ ap keeps_journal report_it))

  -- where its verdict is that it was halts, entries are left over
  halted_at : o.verdict ≡ Halted → (status_of (verdict_at halts is.ending) ≡ 15) × (halts ≡ true)
  halted_at said = let stood = sym (reported_verdict (verdict_at halts is.ending) o.verdict _ report calm' is.report_told) ∙ said in (ap status_of stood, halted_said halts is.ending stood)

  pub run_passes : (shown' listed' : List ℕ) → out.after ≡ Some shown' → report.after ≡ Some listed' → PartPasses task.setting 0 [] listed' shown' o
  run_passes shown' listed' at at' =
      let kept = is.kept tells in
      let h = kept.headline in
      let ends = ends_whole (part_of task) (account_of o is.journal) kept.last kept.core halts is.ending kept.ending_is not_sink not_stopped in
      let few = ends.few in let most = given.schedule_is.0 in let part = entries_few task.halt task.setting.schedule in let zero = h.from_is in
      let lines = lines_noted task given (account_of o is.journal) kept.last kept.up kept.core out.before out.after h ends.whole in let noted = ends.notes_few (part_of task).schedule in
      let text = shows_on h.whole (torn_at kept.last) out.before out.after shown' ends.whole empty at h.lines_shown.written in
      let list = stands_on report.before report.after _ listed' empty' at' (reported_whole (verdict_at halts is.ending) o.verdict _ report calm' is.report_told) ∙ report_is in
      let begun : 0 + length o.marks.items ≡ length o.marks.items = omega arith in
      passing task.setting given 0 [] h.whole o (shown_whole task given (account_of o is.journal) kept.last kept.up kept.core out.before out.after h ends.whole)
      (drawn task given (account_of o is.journal) kept.last kept.up kept.core out.before out.after h ends.whole) (verdict_at halts is.ending) ends.status (omega (arith, few, most, part, zero)) (omega (arith, lines, noted))
      (λ e. subst (λ n. All (λ (x : Taken). x.t < n) o.acts.items) (sym begun) (reached task given (account_of o is.journal) kept.last kept.up kept.core out.before out.after h ends.whole (ends.used e)))
      (λ said. let over = halted_at said in let used = ends.used over.0 in let fewer = entries_fewer task.halt task.setting.schedule over.1 in (over.0, omega (arith, used, fewer, zero)))
      listed' shown' (subst (λ n. listed' ≡ report_text (status_of (verdict_at halts is.ending)) n o.acts.items o.lines) (sym begun) list) text

abbrev is_of_output : Verdict → Bool
is_of_output (SinkFault outlet.Out) = true
is_of_output _ = false

abbrev is_of_device : Verdict → Bool
is_of_device (DeviceFault p) = true
is_of_device _ = false

abbrev is_of_stop : Verdict → Bool
is_of_stop (DeviceStopped p) = true
is_of_stop _ = false

-- a verdict that stands whether the report was written or not
same_said : (stood v : Verdict) (text : List ℕ) (sink : SinkCourse) → unreported stood ≡ stood → Reports stood v text sink → v ≡ stood
same_said stood v text sink same (inl whole) = whole.0
same_said stood v text sink same (inr cut) = cut.0 ∙ same

-- so it is none that a test tells from it
not_said : (f : Verdict → Bool) (stood v : Verdict) → f stood ≡ false → v ≡ stood → f v ≡ true → ⊥
not_said f stood v other e is = true≢false (sym is ∙ ap f e ∙ other)

-- the run ended by its sink where the call says so
pub sink_ending : (halted : Bool) (e : Ending) (v : Verdict) (text : List ℕ) (sink : SinkCourse) → Reports (verdict_at halted e) v text sink → v ≡ SinkFault outlet.Out → e ≡ ending.Sink
sink_ending halted ending.Done v text sink reports e = absurd (not_used is_of_output Done v refl refl refl (used_said halted Done v text sink refl reports) (ap is_of_output e))
sink_ending halted ending.Unfinished v text sink reports e = absurd (not_used is_of_output Unfinished v refl refl refl (used_said halted Unfinished v text sink refl reports) (ap is_of_output e))
sink_ending halted (ending.Device p) v text sink reports e = absurd (not_said is_of_output (DeviceFault p) v refl (same_said (DeviceFault p) v text sink refl reports) (ap is_of_output e))
sink_ending halted (ending.Store p why) v text sink reports e = absurd (not_said is_of_output (StoreRefused p why) v refl (same_said (StoreRefused p why) v text sink refl reports) (ap is_of_output e))
sink_ending halted ending.Sink v text sink reports e = refl
sink_ending halted (ending.Stopped q) v text sink reports e = absurd (not_said is_of_output (DeviceStopped q) v refl (same_said (DeviceStopped q) v text sink refl reports) (ap is_of_output e))

-- or by a device
pub device_ending : (halted : Bool) (e : Ending) (v : Verdict) (text : List ℕ) (sink : SinkCourse) (p : ℕ) → Reports (verdict_at halted e) v text sink → v ≡ DeviceFault p → e ≡ ending.Device p
device_ending halted ending.Done v text sink p reports e = absurd (not_used is_of_device Done v refl refl refl (used_said halted Done v text sink refl reports) (ap is_of_device e))
device_ending halted ending.Unfinished v text sink p reports e = absurd (not_used is_of_device Unfinished v refl refl refl (used_said halted Unfinished v text sink refl reports) (ap is_of_device e))
device_ending halted (ending.Device q) v text sink p reports e = let same : DeviceFault q ≡ DeviceFault p = sym (same_said (DeviceFault q) v text sink refl reports) ∙ e in let is : q ≡ p = cc in ap ending.Device is
device_ending halted (ending.Store q why) v text sink p reports e = absurd (not_said is_of_device (StoreRefused q why) v refl (same_said (StoreRefused q why) v text sink refl reports) (ap is_of_device e))
device_ending halted ending.Sink v text sink p reports e = absurd (not_said is_of_device (SinkFault outlet.Out) v refl (same_said (SinkFault outlet.Out) v text sink refl reports) (ap is_of_device e))
device_ending halted (ending.Stopped q) v text sink p reports e = absurd (not_said is_of_device (DeviceStopped q) v refl (same_said (DeviceStopped q) v text sink refl reports) (ap is_of_device e))

-- or by a stop
pub stop_ending : (halted : Bool) (e : Ending) (v : Verdict) (text : List ℕ) (sink : SinkCourse) (p : ℕ) → Reports (verdict_at halted e) v text sink → v ≡ DeviceStopped p → e ≡ ending.Stopped p
stop_ending halted ending.Done v text sink p reports e = absurd (not_used is_of_stop Done v refl refl refl (used_said halted Done v text sink refl reports) (ap is_of_stop e))
stop_ending halted ending.Unfinished v text sink p reports e = absurd (not_used is_of_stop Unfinished v refl refl refl (used_said halted Unfinished v text sink refl reports) (ap is_of_stop e))
stop_ending halted (ending.Device q) v text sink p reports e = absurd (not_said is_of_stop (DeviceFault q) v refl (same_said (DeviceFault q) v text sink refl reports) (ap is_of_stop e))
stop_ending halted (ending.Store q why) v text sink p reports e = absurd (not_said is_of_stop (StoreRefused q why) v refl (same_said (StoreRefused q why) v text sink refl reports) (ap is_of_stop e))
stop_ending halted ending.Sink v text sink p reports e = absurd (not_said is_of_stop (SinkFault outlet.Out) v refl (same_said (SinkFault outlet.Out) v text sink refl reports) (ap is_of_stop e))
stop_ending halted (ending.Stopped q) v text sink p reports e = let same : DeviceStopped q ≡ DeviceStopped p = sym (same_said (DeviceStopped q) v text sink refl reports) ∙ e in let is : q ≡ p = cc in ap ending.Stopped is

-- a run that used up its schedule ended so
record EndsUsed (halted : Bool) (e : Ending) : Type 0 where
  used : is_used_up (verdict_at halted e) ≡ true
  uncut : (up : ℕ → Bool) (marks : List Mark) → EndsAtFirstStop e up marks → ((p : ℕ) → up p ≡ true) × Unstopped marks
  marked : (setting : Setting) (marks : List Mark) (last : Last) (core : Core) → IsEnding setting e marks last core → length marks ≤ length setting.schedule

ends_used : (halted : Bool) (e : Ending) (v : Verdict) (text : List ℕ) (sink : SinkCourse) → Reports (verdict_at halted e) v text sink → is_used_up v ≡ true → EndsUsed halted e
ends_used true ending.Done v text sink (inl whole) used = absurd (true≢false (sym used ∙ ap is_used_up whole.0))
ends_used true ending.Done v text sink (inr cut) used = absurd (true≢false (sym used ∙ ap is_used_up cut.0))
ends_used false ending.Done v text sink reports used = record { used = refl; uncut = λ up marks is. is; marked = λ setting marks last core is. (let h = is.0.0 in omega (arith, h)) }
ends_used true ending.Unfinished v text sink (inl whole) used = absurd (true≢false (sym used ∙ ap is_used_up whole.0))
ends_used true ending.Unfinished v text sink (inr cut) used = absurd (true≢false (sym used ∙ ap is_used_up cut.0))
ends_used false ending.Unfinished v text sink reports used = record { used = refl; uncut = λ up marks is. is; marked = λ setting marks last core is. (let h = is.0.0 in omega (arith, h)) }
ends_used halted (ending.Device p) v text sink reports used = absurd (not_said is_used_up (DeviceFault p) v refl (same_said (DeviceFault p) v text sink refl reports) used)
ends_used halted (ending.Store p why) v text sink reports used = absurd (not_said is_used_up (StoreRefused p why) v refl (same_said (StoreRefused p why) v text sink refl reports) used)
ends_used halted ending.Sink v text sink reports used = absurd (not_said is_used_up (SinkFault outlet.Out) v refl (same_said (SinkFault outlet.Out) v text sink refl reports) used)
ends_used halted (ending.Stopped p) v text sink reports used = absurd (not_said is_used_up (DeviceStopped p) v refl (same_said (DeviceStopped p) v text sink refl reports) used)

-- the lines of a journal that is there
some_is : (journal : Option (List Line)) → is_some journal ≡ true → (lines : List Line) × (journal ≡ Some lines)
some_is None is = absurd (true≢false (sym is))
some_is (Some lines) is = (lines, refl)

-- no more turns are taken than there are marks
taken_few : (marks : List Mark) → length (taken_turns marks) ≤ length marks
taken_few [] = omega arith
taken_few (m ∷ marks) = let less = taken_few marks in by (is_taken m) less
  where
    by : (b : Bool) → length (taken_turns marks) ≤ length marks → length (if b then length marks ∷ taken_turns marks else taken_turns marks) ≤ suc (length marks)
    by true less = omega (arith, less)
    by false less = omega (arith, less)

module _ {S : Type 0} (on : Devices S) (task : Task) (journal_it : task.ledger ≡ ledger.Journal) (o : Outcome) (lent : Loan S) (out report : SinkCourse) (given : IsGivenRun task.setting.images task.setting.inputs task.setting.schedule)
    (some : 0 < length task.setting.images) (seven : is_causal task.setting.protocol ≡ false) (is : IsReported task on o lent out report) (tells : on.tell (length task.setting.images) lent.before lent.after)
    (used : is_used_up o.verdict ≡ true) where
  abbrev setting : Setting
  setting = part_of task

  -- its turns
  turns : AreTurns setting.schedule
  turns = turns_run task.halt task.setting.schedule (is.turns (ap keeps_journal journal_it)).0

  -- what it promises
  kept_is : IsCourse setting (account_of o is.journal) is.ending (output out.before out.after) (counts_of on.stops on.calls lent.before lent.after) (λ core x. on.left setting core x)
  kept_is = is.kept tells

  -- how it ended
  ends : EndsUsed (is_halted task) is.ending
  ends = ends_used (is_halted task) is.ending o.verdict _ report is.report_told used

  -- its lines
  abbrev lines : List Line
  lines = (some_is is.journal (is.journal_is ∙ ap keeps_journal journal_it)).0

  -- are its journal's
  journal_lines : is.journal ≡ Some lines
  journal_lines = (some_is is.journal (is.journal_is ∙ ap keeps_journal journal_it)).1

  -- of which is known
  known_journal : EndsAtFirstStop is.ending kept_is.up o.marks.items × IsJournalOf setting kept_is.up o.marks.items lines
  known_journal = subst (λ j. IfSome j (λ ls. EndsAtFirstStop is.ending kept_is.up o.marks.items × IsJournalOf setting kept_is.up o.marks.items ls)) journal_lines (kept_is.journal turns)

  -- that it was not stopped
  whole : ((p : ℕ) → kept_is.up p ≡ true) × Unstopped o.marks.items
  whole = ends.uncut kept_is.up o.marks.items known_journal.0

  -- the core that its entries led to
  abbrev core : Core
  core = known_journal.1.core

  -- from where all are up
  led : LeadsTo (system_in setting) setting.schedule (opening (λ p. true)) (reverse o.marks.items) core
  led = subst (λ (u : ℕ → Bool). LeadsTo (system_in setting) setting.schedule (opening u) (reverse o.marks.items) core) (λ i p. whole.0 p i)
      (subst (λ ms. LeadsTo (system_in setting) setting.schedule (opening kept_is.up) (reverse ms) core) (front_whole o.marks.items whole.1) known_journal.1.led)

  -- none of its marks, the last first, is a stop
  back : Unstopped (reverse o.marks.items)
  back = unstopped_round o.marks.items whole.1

  -- the system is sound
  sound : IsSound (system_in setting)
  sound = sound_system (system_in setting).guests setting.protocol 8 64 (omega arith)

  -- and has few guests
  few : (system_in setting).guests.count ≤ 16
  few = let least = given.few in omega (arith, least)

  -- so they have Save-work
  saved : HasSaveWork false lines
  saved = subst (HasSaveWork false) (sym known_journal.1.lines_are) (led_work (system_in setting) sound few setting.schedule turns (reverse o.marks.items) core led back seven)

  -- and are a journal
  journal_is : IsJournal (length setting.images) lines
  journal_is = subst (IsJournal (length setting.images)) (sym known_journal.1.lines_are)
      (led_journal (system_in setting) sound few (λ p q message answers at. addressed setting.images setting.inputs p q message answers at) setting.schedule turns (reverse o.marks.items) core led back)

  -- each commit of which is of somebody
  members : All HasMembers lines
  members = subst (All HasMembers) (sym known_journal.1.lines_are)
      (λ i x within. (plain_all (system_in setting) sound few setting.schedule turns (reverse o.marks.items) core led back i x within).1)

  -- there are not too many
  short : length lines + 2 ≤ 4000000
  short =
      let two = ap (λ ls. length ls) known_journal.1.lines_are in
      let acts = journal_short (system_in setting) core.acts in
      let turned = ap (λ ts. length ts) (lead (system_in setting) setting.schedule turns (reverse o.marks.items) core led back).turns in
      let mapped = length-map core.acts (λ (x : Given). x.t) in
      let taken = taken_few (reverse o.marks.items) in
      let long = length-reverse o.marks.items in
      let marked = ends.marked setting o.marks.items kept_is.last kept_is.core kept_is.ending_is in
      let most = given.schedule_is.0 in let part = entries_few task.halt task.setting.schedule in omega (arith, two, acts, turned, mapped, taken, long, marked, most, part)

  -- it wrote them whole
  whole_is : ledger_text (length setting.images) (verdict_at (is_halted task) is.ending) (account_of o is.journal) ≡ whole_text (length setting.images) false lines
  whole_is = ap (λ j. journal_or_report j (length setting.images) (verdict_at (is_halted task) is.ending) (account_of o is.journal)) journal_lines
      ∙ ap (λ b. if b then whole_text (length setting.images) false lines else journal_text (length setting.images) false lines) ends.used

  -- so the text is that of a journal with Save-work
  pub run_saves : WritesSaved task.setting report
  run_saves calm empty listed' at = (
    record { n = length setting.images; causal = false; lines = lines },
    ap journal_of (stands_on report.before report.after _ listed' empty at (reported_whole (verdict_at (is_halted task) is.ending) o.verdict _ report calm is.report_told) ∙ whole_is)
        ∙ text_again (length setting.images) false lines some few journal_is members short,
    refl,
    refl,
    saved,
  )
