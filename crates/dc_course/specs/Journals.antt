-- The journal that a run keeps: what its entries left in it, up to the first that was stopped.
use Rattle.std.specs.Prelude.{◌≡◌, ◌⊎◌, ◌++◌, ℕ, Bool, false, true, List, [], ◌∷◌, Option, None, if◌then◌else◌, reverse}
use Rattle.dc_audit.specs.declared.journal.Line.{Line}
use Rattle.dc_checkpoint.specs.declared.checkpoint.Checkpoint as checkpoint
use Rattle.dc_model.specs.declared.entry.Entry.{Entry}
use Rattle.dc_model.specs.declared.mark.Mark.{Mark}
use Rattle.dc_model.specs.declared.mark.Mark.TheVariants as mark
use Rattle.dc_recovery.specs.Core.{Core, opened_core, opening}
use Rattle.dc_recovery.specs.Turned.{LeadsTo}
use Rattle.dc_recovery.specs.Unstopped.{AreTurns, Unstopped}
use Rattle.dc_savework.specs.Journal.{journal_of}
use Rattle.dc_course.specs.Headline.{Setting, is_stopped, system_in}
use Rattle.dc_course.specs.Running.{HasCome, IsRest, Moment, moment_of}
use Rattle.dc_course.specs.declared.ending.Ending.{Ending}
use Rattle.dc_course.specs.declared.ending.Ending.TheVariants.{Stopped}
use Rattle.dc_course.specs.declared.running.Running.{Running}

-- the marks in front of the first entry that was stopped
abbrev pub unstopped_front : List Mark → List Mark
unstopped_front [] = []
unstopped_front (m ∷ marks) = if is_stopped m then [] else m ∷ unstopped_front marks

-- the last of these entries was stopped, and no other
abbrev pub AreCutAtStop : List Mark → Type 0
AreCutAtStop marks = (front : List Mark) × (marks ≡ front ++ mark.Stopped ∷ []) × Unstopped front

-- Where a run ends that keeps its journal, by which processes are up at its opening: at its first stop. Where one was stopped in the opening no entry is run; where one
-- was stopped later all were up, and the last entry alone was stopped. A run that ends otherwise was stopped nowhere.
abbrev pub EndsAtFirstStop : Ending → (ℕ → Bool) → List Mark → Type 0
EndsAtFirstStop (Stopped p) up marks = ((up p ≡ false) × (marks ≡ [])) ⊎ (((q : ℕ) → up q ≡ true) × AreCutAtStop marks)
EndsAtFirstStop _ up marks = ((q : ℕ) → up q ≡ true) × Unstopped marks

-- lines are what the acts left to which a run came by these marks, at whose opening these processes are up, up to the first entry that was stopped
pub record IsJournalOf (setting : Setting) (up : ℕ → Bool) (marks : List Mark) (lines : List Line) : Type 0 where
  pub core : Core
  pub led : LeadsTo (system_in setting) setting.schedule (opening up) (reverse (unstopped_front marks)) core
  pub lines_are : lines ≡ journal_of (system_in setting) core.acts

-- the process whose stop ends a run: one that keeps a journal ends at the first
abbrev pub cut_by : {C : Type 0} → Running C → Option ℕ
cut_by r = if r.journal.kept then r.world.stopped else None

-- what is known of one moment of a run that keeps a journal
pub record Noted (C D : Type 0) : Type 0 where
  pub moment : Moment C D
  pub lines : List Line
  pub stopped : Option ℕ

-- this run, over this device
abbrev pub noted_of : {C D : Type 0} → Running C → D → Option (List ℕ) → Noted C D
noted_of run dev held = record { moment = moment_of run dev held; lines = run.journal.lines.items; stopped = run.world.stopped }

-- each of these processes is up, unless one was stopped
abbrev pub AreUpUnless : Option ℕ → (ℕ → Bool) → Type 0
AreUpUnless stopped up = stopped ≡ None → (p : ℕ) → up p ≡ true

-- a run of turns, from its opening, over devices that tell: its lines were its journal and are
abbrev pub KeepsJournal : {C D : Type 0} → checkpoint.Ghosts C D → List Entry → Noted C D → Noted C D → Type 0
KeepsJournal g entries old new = (setting : Setting) (up : ℕ → Bool) (first : Option (List ℕ)) → HasCome g setting (opened_core up) first old.moment new.moment → setting.from ≡ 0 → IsRest setting entries → AreTurns setting.schedule
    → AreUpUnless old.stopped up → IsJournalOf setting up old.moment.marks old.lines → IsJournalOf setting up new.moment.marks new.lines
