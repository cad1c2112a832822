-- What a run wrote, and a part of one behind the parts before it: checked, or gone on with.
use Rattle.std.specs.Prelude.{◌≡◌, ◌+◌, ◌++◌, ℕ, false, List, [], Some, Ok, length, reverse}
use Rattle.dc_acts.specs.Lines.{text_of}
use Rattle.dc_audit.specs.Journals.{HasSaveWork}
use Rattle.dc_audit.specs.Reading.{Journal, journal_of}
use Rattle.dc_course.specs.Headline.{Setting}
use Rattle.dc_guest.specs.Guest.{Guest}
use Rattle.dc_model.specs.Repeats.{RepeatsAgree}
use Rattle.dc_model.specs.FailureFree.{FailureFree, run, thin}
use Rattle.dc_model.specs.declared.act.Taken.{Taken}
use Rattle.dc_model.specs.declared.visible.Visible.{Visible}
use Rattle.dc_run.specs.Checking.{checked_in}
use Rattle.dc_command.specs.Command.{Halted as Names', Names}
use Rattle.dc_run.specs.Headline.{SinkCourse}
use Rattle.dc_run.specs.Settings.{IsCalm}
use Rattle.dc_run.specs.Opening.{Files, guests, opening_of, to_report}
use Rattle.dc_run.specs.Resuming.{Going, going_in, to_go_on}
use Rattle.dc_run.specs.declared.outcome.Outcome.{Outcome}
use Rattle.dc_run.specs.declared.verdict.Verdict.TheVariants.{Halted}

-- wherever files open a run of this setting, and hold these texts as its report and its output, the output passes, with these acts
abbrev pub PassesFor : Setting → List ℕ → List ℕ → List Taken → Type 0
PassesFor setting listed shown acts = (files : Files) (names : Names) → opening_of files (to_report names.plan) ≡ Ok setting → files names.report ≡ Some listed → files names.out ≡ Some shown
    → (visibles : ℕ) × (checked_in files names ≡ Ok (record { acts = acts; visibles = visibles }))

-- a run of this setting goes on behind so many entries and what one came to: its report says so
pub record GoesOnBehind (setting : Setting) (entries : ℕ) (o : Outcome) (going : Going) : Type 0 where
  pub setting_is : going.setting ≡ setting
  pub entries_are : going.report.entries ≡ entries
  pub lines_are : going.report.lines ≡ o.lines
  pub acts_are : going.report.acts ≡ o.acts.items

-- wherever files open a run of this setting to go on with, and hold this text as its report, there is such a run, behind so many entries and what this one came
-- to: no file is refused
abbrev pub IsGoneOnWith : Setting → List ℕ → ℕ → Outcome → Type 0
IsGoneOnWith setting listed entries o = (files : Files) (names : Names') → opening_of files (to_go_on names.plan) ≡ Ok setting → files names.report ≡ Some listed
    → (going : Going) × (going_in files names ≡ Ok going) × GoesOnBehind setting entries o going

-- lines that a run of this setting may have shown which reports these acts and so many lines: as many, without repeats the visible records of the acts, and
-- each repeat equal to what it repeats
pub record AreShown (setting : Setting) (acts : List Taken) (count : ℕ) (lines : List Visible) : Type 0 where
  pub world : FailureFree Guest
  pub acts_run : run (guests setting) acts ≡ Some world
  pub count_is : length lines ≡ count
  pub thinned : thin lines ≡ world.visibles
  pub agree : RepeatsAgree (reverse lines)

-- What a part of a run wrote, as its report and on its output, behind so many entries and these lines: lines of its own, which with those are shown by the acts
-- that it reports; all together pass the check of its report; and of a part that was halted the report is gone on with, behind the entries of all.
pub record PartPasses (setting : Setting) (entries : ℕ) (lines : List Visible) (listed shown : List ℕ) (o : Outcome) : Type 0 where
  pub more : List Visible
  pub text_is : shown ≡ text_of more
  pub all_shown : AreShown setting o.acts.items o.lines (lines ++ more)
  pub passes : PassesFor setting listed (text_of lines ++ shown) o.acts.items
  pub goes_on : o.verdict ≡ Halted → IsGoneOnWith setting listed (entries + length o.marks.items) o

-- so is what was written on sinks that held nothing, tell and did not fail
abbrev pub WritesPassing : Setting → ℕ → List Visible → SinkCourse → SinkCourse → Outcome → Type 0
WritesPassing setting entries lines out report o = IsCalm out.faults_before out.faults_after → IsCalm report.faults_before report.faults_after → out.before ≡ Some [] → report.before ≡ Some []
    → (shown listed : List ℕ) → out.after ≡ Some shown → report.after ≡ Some listed → PartPasses setting entries lines listed shown o

-- by a run that went on, whatever lines the parts before it may have shown
abbrev pub WritesPassingOn : Going → SinkCourse → SinkCourse → Outcome → Type 0
WritesPassingOn going out report o = (lines : List Visible) → AreShown going.setting going.report.acts going.report.lines lines → WritesPassing going.setting going.report.entries lines out report o

-- what was written on a sink that held nothing, tells and did not fail is the text of a journal, of these processes, that has Save-work
abbrev pub WritesSaved : Setting → SinkCourse → Type 0
WritesSaved setting report = IsCalm report.faults_before report.faults_after → report.before ≡ Some []
    → (listed : List ℕ) → report.after ≡ Some listed → (journal : Journal) × (journal_of listed ≡ Ok journal) × (journal.n ≡ length setting.images) × (journal.causal ≡ false) × HasSaveWork false journal.lines
