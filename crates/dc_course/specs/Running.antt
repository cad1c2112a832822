-- How far a run has come, and how one ended.
use Rattle.std.specs.Prelude.{◌≡◌, ◌<◌, ◌≤◌, ◌+◌, ◌++◌, ℕ, true, false, IsSomeAnd, Ok, List, drop, length, reverse, slice_get, Option, Some}
use Rattle.dc_acts.specs.Lines.{text_of}
use Rattle.dc_checkpoint.specs.Calls.{AreAll}
use Rattle.dc_checkpoint.specs.States.{State, number_in}
use Rattle.dc_checkpoint.specs.declared.checkpoint.Checkpoint as checkpoint
use Rattle.dc_elf.specs.Images.{Image}
use Rattle.dc_media.specs.Told.{Becomes}
use Rattle.dc_model.specs.FailureFree.{reported}
use Rattle.dc_model.specs.declared.entry.Entry.{Entry}
use Rattle.dc_model.specs.declared.mark.Mark.{Mark}
use Rattle.dc_model.specs.declared.visible.Visible.{Visible}
use Rattle.dc_protocols.specs.Rules.{is_joint}
use Rattle.dc_processes.specs.Worlds.{StoresStand}
use Rattle.dc_recovery.specs.Core.{Core}
use Rattle.dc_recovery.specs.Invariant.{Holds}
use Rattle.dc_recovery.specs.Turned.{LeadsTo}
use Rattle.dc_processes.specs.Slots.{is_up, slot_at}
use Rattle.dc_processes.specs.Stages.{IsTold, IsWorld, Stage, decided_by, leaves_of, numbers_of}
use Rattle.dc_world.specs.Opened.{IsOver}
use Rattle.dc_world.specs.Worlds.{stage_in}
use Rattle.dc_world.specs.declared.faults.TurnFault.{TurnFault}
use Rattle.dc_world.specs.declared.faults.TurnFault.TheVariants as fault
use Rattle.dc_course.specs.Headline.{Last, Setting, Shows, marks_at, start_at, system_in, takes_part, torn_at, turn_after}
use Rattle.dc_course.specs.Headline.Last.{Broken, CutOff}
use Rattle.dc_course.specs.declared.running.Running.{Running}

-- what the output held before a run and what it holds now, where it is told
pub record Output : Type 0 where
  pub before : Option (List ℕ)
  pub now : Option (List ℕ)

-- these two
abbrev pub output : Option (List ℕ) → Option (List ℕ) → Output
output before now = record { before = before; now = now }

-- a world is that of a run of this setting
pub record IsOfSetting {C D : Type 0} (setting : Setting) (x : Stage C D) : Type 0 where
  pub protocol_is : x.protocol ≡ setting.protocol
  pub inputs_are : x.inputs ≡ setting.inputs

-- a setting has the protocol of this run and as many processes, and begins where it does
pub record IsSettingOf {C : Type 0} (r : Running C) (setting : Setting) : Type 0 where
  pub protocol_is : setting.protocol ≡ r.world.processes.protocol
  pub images_long : length setting.images ≡ length r.world.processes.slots.items
  pub from_is : setting.from ≡ r.from

-- a run of this setting may begin at this core
abbrev pub CanBegin : Setting → Core → Type 0
CanBegin setting begun = Holds (system_in setting) setting.schedule setting.from begun

-- each store is over that of its process, which began with its image
abbrev pub AreOverIn : {C D : Type 0} → checkpoint.Ghosts C D → Setting → List C → Type 0
AreOverIn g setting stores = (p : ℕ) (c : _) (image : Image) → slice_get stores p ≡ Some c → slice_get setting.images p ≡ Some image → IsOver g (length setting.images) p image c

-- the stores can be read again: the decided number that the first one holds is steady, and none to which no process has come; where each process commits by
-- itself it is 0
pub record CanReread {C D : Type 0} (g : checkpoint.Ghosts C D) (setting : Setting) (stores : List C) (dev : D) : Type 0 where
  pub alone : is_joint setting.protocol ≡ false → AreAll 0 (λ d. IsSomeAnd (slice_get stores 0) (λ c. g.numbers c dev d))
  pub steady : is_joint setting.protocol ≡ true → IsSomeAnd (slice_get stores 0) (λ c. g.steady c dev)
  pub reached : is_joint setting.protocol ≡ true → (d p : ℕ) (s : State) → IsSomeAnd (slice_get stores 0) (λ c. g.numbers c dev d) → p < length setting.images
      → IsSomeAnd (slice_get stores p) (λ c. g.leaves c dev d (Ok s)) → d ≤ number_in s.kernel

-- the marks lead from the core where the run begins to one that the world stands for, and the lines that were added since stand on the output
pub record IsRunning {C D : Type 0} (g : checkpoint.Ghosts C D) (setting : Setting) (begun : Core) (x : Stage C D) (marks : List Mark) (out : Output) : Type 0 where
  pub core : Core
  pub added : List Visible
  pub of : IsOfSetting setting x
  pub led : LeadsTo (system_in setting) setting.schedule (start_at setting begun) (reverse marks) core
  pub lines_are : core.lines ≡ added ++ begun.lines
  pub world : IsWorld g (system_in setting) core x
  pub over : AreOverIn g setting x.stores
  pub entries_are : x.entries ≡ turn_after setting marks
  pub shows : Becomes out.before out.now (λ before now. now ≡ before ++ text_of (reverse added))

-- a run that came to its end, or to a fault at the entry behind the marked ones, which is counted with them; its whole lines are those that were added
pub record IsEnded {C D : Type 0} (g : checkpoint.Ghosts C D) (setting : Setting) (begun : Core) (x : Stage C D) (marks : List Mark) (last : Last) (out : Output) : Type 0 where
  pub core : Core
  pub whole : List Visible
  pub led : LeadsTo (system_in setting) setting.schedule (start_at setting begun) (marks_at last marks) core
  pub acts_are : reported core.acts ≡ x.acts
  pub lines_are : reverse core.lines ≡ reverse begun.lines ++ (whole ++ torn_at last)
  pub count : length begun.lines + length whole ≡ x.lines
  pub shows : Becomes out.before out.now (Shows whole (torn_at last))
  pub up_are : (p : ℕ) → p < (system_in setting).guests.count → (core.procs p).up ≡ is_up (slot_at x.slots p)
  pub stores : StoresStand (system_in setting) core (decided_by (is_joint setting.protocol) (numbers_of g x)) (leaves_of g x)
  pub over : AreOverIn g setting x.stores
  pub reread : CanReread g setting x.stores x.dev

-- what is known of one moment of a run: its world, its marks, and what the output holds
pub record Moment (C D : Type 0) : Type 0 where
  pub stage : Stage C D
  pub marks : List Mark
  pub held : Option (List ℕ)

-- these three
abbrev pub moment : {C D : Type 0} → Stage C D → List Mark → Option (List ℕ) → Moment C D
moment stage marks held = record { stage = stage; marks = marks; held = held }

-- this run, over this device
abbrev pub moment_of : {C D : Type 0} → Running C → D → Option (List ℕ) → Moment C D
moment_of run dev held = moment (stage_in run.world dev) run.marks.items held

-- a run ended by a fault at the entry behind the marked ones: of the device of a process that takes part in it, or of the output; none is refused
-- for what its store holds
abbrev pub IsEndedBy : {C D : Type 0} → checkpoint.Ghosts C D → TurnFault → Setting → Core → Moment C D → Option (List ℕ) → Type 0
IsEndedBy g (fault.Device p) setting begun m first = IsEnded g setting begun m.stage m.marks Broken (output first m.held) × (takes_part setting.protocol p (slice_get setting.schedule (turn_after setting m.marks)) ≡ true) × (p < length setting.images)
IsEndedBy g (fault.Store p why) setting begun m first = ⊥
IsEndedBy g fault.Sink setting begun m first = (torn : Visible) × IsEnded g setting begun m.stage m.marks (CutOff torn) (output first m.held) × (turn_after setting m.marks < length setting.schedule)

-- a run of this setting, that began at this core, has come to a moment, by what the output held at first; its devices were told there, and tell at another still
pub record HasCome {C D : Type 0} (g : checkpoint.Ghosts C D) (setting : Setting) (begun : Core) (first : Option (List ℕ)) (old new : Moment C D) : Type 0 where
  pub can : CanBegin setting begun
  pub told : IsTold g old.stage
  pub tells : IsTold g new.stage
  pub running : IsRunning g setting begun old.stage old.marks (output first old.held)

-- wherever a run has come to, an entry leads it on
abbrev pub StepsOn : {C D : Type 0} → checkpoint.Ghosts C D → Entry → Moment C D → Moment C D → Type 0
StepsOn g entry old new = (setting : Setting) (begun : Core) (first : Option (List ℕ)) → HasCome g setting begun first old new → slice_get setting.schedule (turn_after setting old.marks) ≡ Some entry
    → IsRunning g setting begun new.stage new.marks (output first new.held)

-- or it ends there by a fault
abbrev pub StepsOff : {C D : Type 0} → checkpoint.Ghosts C D → Entry → TurnFault → Moment C D → Moment C D → Type 0
StepsOff g entry fault old new = (setting : Setting) (begun : Core) (first : Option (List ℕ)) → HasCome g setting begun first old new → slice_get setting.schedule (turn_after setting old.marks) ≡ Some entry
    → IsEndedBy g fault setting begun new first

-- these entries are the rest of a setting's schedule, from where its run begins
abbrev pub IsRest : Setting → List Entry → Type 0
IsRest setting entries = drop setting.from setting.schedule ≡ entries

-- wherever a run began, the rest of the schedule leads it on
abbrev pub RunsOn : {C D : Type 0} → checkpoint.Ghosts C D → List Entry → Moment C D → Moment C D → Type 0
RunsOn g entries old new = (setting : Setting) (begun : Core) (first : Option (List ℕ)) → HasCome g setting begun first old new → IsRest setting entries → IsRunning g setting begun new.stage new.marks (output first new.held)

-- or it ends before by a fault
abbrev pub RunsOff : {C D : Type 0} → checkpoint.Ghosts C D → List Entry → TurnFault → Moment C D → Moment C D → Type 0
RunsOff g entries fault old new = (setting : Setting) (begun : Core) (first : Option (List ℕ)) → HasCome g setting begun first old new → IsRest setting entries → IsEndedBy g fault setting begun new first
