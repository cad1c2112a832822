-- What a whole run promises: of what it lists and shows, of how it ended, and of the devices that it was lent.
use Rattle.std.specs.Prelude.{◌≡◌, ◌<◌, ◌-◌, ◌^◌, ℕ, Bool, true, false, List, Option, IfSome, IsSomeAnd, None, Some, if◌then◌else◌, length, map, reverse, slice_get}
use Rattle.dc_audit.specs.declared.journal.Line.{Line}
use Rattle.dc_media.specs.declared.planned.PlannedStop.{PlannedStop}
use Rattle.dc_checkpoint.specs.declared.checkpoint.Checkpoint as checkpoint
use Rattle.dc_model.specs.declared.mark.Mark.{Mark}
use Rattle.dc_elf.specs.Loaded.{seen_image}
use Rattle.dc_words.specs.Lists.{lists_of}
use Rattle.dc_processes.specs.Worlds.{StoresStand}
use Rattle.dc_protocols.specs.Rules.{is_joint}
use Rattle.dc_recovery.specs.Core.{Core, Start, opening}
use Rattle.dc_recovery.specs.Unstopped.{AreTurns, IsDetermined, Unstopped}
use Rattle.dc_together.specs.Joints.{Belongs}
use Rattle.dc_processes.specs.Stages.{decided_by}
use Rattle.dc_course.specs.Headline.{Account, AreUpAlike, IsEnding, IsHeadline, Last, Setting, StopsTold, marks_at, system_in}
use Rattle.dc_course.specs.Headline.Last.{Whole}
use Rattle.dc_course.specs.Journals.{EndsAtFirstStop, IsJournalOf}
use Rattle.dc_course.specs.Moments.{AreCalledOn, Moments}
use Rattle.dc_course.specs.Running.{AreOverIn, CanReread, Output}
use Rattle.dc_course.specs.declared.course.Course.{Course}
use Rattle.dc_course.specs.declared.ending.Ending.{Ending}
use Rattle.dc_course.specs.declared.ending.Ending.TheVariants as ending
use Rattle.dc_course.specs.declared.leaving.Journal.{Journal}
use Rattle.dc_course.specs.declared.setting.Scheduled.{Scheduled}
use Rattle.dc_course.specs.declared.setting.Setting as code
use Rattle.dc_world.specs.declared.faults.TurnFault.{TurnFault}
use Rattle.dc_world.specs.declared.faults.TurnFault.TheVariants as fault

-- what a run is given that begins at its opening, over devices with these stops
abbrev pub setting_on : Scheduled → List PlannedStop → Setting
setting_on scheduled stops = record { protocol = scheduled.setup.protocol; images = map seen_image scheduled.setup.images.items; inputs = lists_of scheduled.setup.inputs.items; schedule = scheduled.schedule.items; stops = stops; from = 0 }

-- with the stops that it is given itself
abbrev pub setting_of : code.Setting → Setting
setting_of setting = setting_on setting.scheduled setting.stops.items

-- the lines of a journal that is kept
abbrev pub journal_in : Journal → Option (List Line)
journal_in journal = if journal.kept then Some journal.lines.items else None

-- what it lists of itself
abbrev pub account_of : Course → Account
account_of course = record { acts = course.acts.items; marks = course.marks.items; lines = course.lines; journal = journal_in course.journal }

-- the devices of a run before and after, and what they count of each process: its stops, other than those that were planned, and its calls
pub record Counts (D : Type 0) : Type 0 where
  pub stops : D → ℕ → ℕ
  pub calls : D → ℕ → ℕ
  pub before : D
  pub after : D

-- these
abbrev pub counts_of : {D : Type 0} → (D → ℕ → ℕ) → (D → ℕ → ℕ) → D → D → Counts D
counts_of stops calls old new = record { stops = stops; calls = calls; before = old; after = new }

-- the moments of a whole run from this start, up to the last entry that has a mark; of an entry that a fault ended nothing is said
pub record PlannedCome {D : Type 0} (setting : Setting) (start : Start) (Left : Core → D → Type 0) (counts : Counts D) (last : Last) (marks : List Mark) : Type 0 where
  pub now : D
  pub moments : Moments setting start Left counts.calls counts.before (reverse marks) now
  pub later : AreCalledOn (length setting.images) counts.calls now counts.after
  pub whole : last ≡ Whole → now ≡ counts.after

-- the devices of n processes were told before, and no count of theirs stands at its last value after
pub record TellsThroughout {C D : Type 0} (g : checkpoint.Ghosts C D) (n : ℕ) (old new : D) : Type 0 where
  pub told : (p : ℕ) → p < n → g.told old p
  pub stops : (p : ℕ) → p < n → g.stops new p < 2 ^ 64 - 1
  pub faults : (p : ℕ) → p < n → g.faults new p < 2 ^ 64 - 1

-- the stores that a run leaves on a device: each is that of its process, which began with its image, every image of it stands for one of the core's saves, and
-- they can be read again
pub record StoresLeft {C D : Type 0} (g : checkpoint.Ghosts C D) (setting : Setting) (core : Core) (dev : D) : Type 0 where
  pub stores : List C
  pub all : length stores ≡ length setting.images
  pub belongs : (p : ℕ) (c : C) → slice_get stores p ≡ Some c → Belongs g (length setting.images) p c
  pub lent : (p : ℕ) (c : C) → slice_get stores p ≡ Some c → g.lent c dev
  pub over : AreOverIn g setting stores
  pub stand : StoresStand (system_in setting) core (decided_by (is_joint setting.protocol) (λ d. IsSomeAnd (slice_get stores 0) (λ c. g.numbers c dev d))) (λ p d r. IsSomeAnd (slice_get stores p) (λ c. g.leaves c dev d r))
  pub reread : CanReread g setting stores dev

-- A run: it keeps the promise, ended as it says, was stopped as planned and no more often than its devices say besides, and left its stores so.
pub record IsCourse {D : Type 0} (setting : Setting) (run : Account) (ending : Ending) (out : Output) (counts : Counts D) (Left : Core → D → Type 0) : Type 0 where
  pub last : Last
  -- which processes are up when the run begins
  pub up : ℕ → Bool
  pub alike : AreUpAlike setting up
  pub core : Core
  pub headline : IsHeadline setting run last up core out.before out.now
  pub ending_is : IsEnding setting ending run.marks last core
  pub stops_told : StopsTold setting up run.marks (counts.stops counts.before) (counts.stops counts.after)
  pub planned_come : PlannedCome setting (opening up) Left counts last run.marks
  pub left : Left core counts.after
  -- where nothing was stopped, and only turns were given, marks, acts and lines have no choice
  pub determined : ((p : ℕ) → p < length setting.images → up p ≡ true) → AreTurns setting.schedule → Unstopped (marks_at last run.marks)
      → IsDetermined (system_in setting) setting.schedule (marks_at last run.marks) core
  -- a run of turns that keeps its journal ends at its first stop, and its journal is what its entries left in it
  pub journal : AreTurns setting.schedule → IfSome run.journal (λ lines. EndsAtFirstStop ending up run.marks × IsJournalOf setting up run.marks lines)

-- what a fault of the world ends a run with
abbrev pub ending_by : TurnFault → Ending
ending_by (fault.Device p) = ending.Device p
ending_by (fault.Store p why) = ending.Store p why
ending_by fault.Sink = ending.Sink

-- what a run ends with whose schedule is used up, by whether all have ended
abbrev pub ending_of : Bool → Ending
ending_of true = ending.Done
ending_of false = ending.Unfinished
