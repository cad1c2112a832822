-- What users are promised of a run, wherever its processes are stopped.
use Rattle.std.specs.Prelude.{◌≡◌, ◌<◌, ◌≤◌, ◌+◌, ◌&&◌, ◌||◌, not, ℕ, zero, suc, Bool, true, false, List, [], ◌∷◌, ◌++◌, if◌then◌else◌, length, reverse, slice_get, take, Option, Some, IfSome, is_some}
use Rattle.dc_acts.specs.Lines.{text_of, visible_line}
use Rattle.dc_armed.specs.Stops.{first_stop}
use Rattle.dc_audit.specs.declared.journal.Line.{Line}
use Rattle.dc_media.specs.declared.planned.PlannedStop.{PlannedStop}
use Rattle.dc_elf.specs.Images.{Image}
use Rattle.dc_guest.specs.Guest.{Guest}
use Rattle.dc_media.specs.Told.{Becomes}
use Rattle.dc_model.specs.Drawn.{Drawn}
use Rattle.dc_model.specs.Repeats.{RepeatsEqual}
use Rattle.dc_model.specs.FailureFree.{FailureFree, reported, thin}
use Rattle.dc_model.specs.FailureFree.{run as run_of}
use Rattle.dc_model.specs.declared.act.Taken.{Taken}
use Rattle.dc_model.specs.declared.entry.Entry.{Entry}
use Rattle.dc_model.specs.declared.entry.Entry.TheVariants as entry
use Rattle.dc_model.specs.declared.mark.Mark.{Mark}
use Rattle.dc_model.specs.declared.mark.Mark.TheVariants as mark
use Rattle.dc_model.specs.declared.visible.Visible.{Visible}
use Rattle.dc_proc.specs.Carried.{system}
use Rattle.dc_protocols.specs.Rules.{is_global, is_joint}
use Rattle.dc_protocols.specs.declared.protocol.Protocol.{Protocol}
use Rattle.dc_recovery.specs.Core.{Core, Start, opening}
use Rattle.dc_recovery.specs.Parts.{is_with}
use Rattle.dc_recovery.specs.Recoveries.{SavedBeforeShown}
use Rattle.dc_recovery.specs.Systems.{System}
use Rattle.dc_recovery.specs.Turned.{LeadsTo}
use Rattle.dc_world.specs.Ended.{HaveEnded}
use Rattle.dc_course.specs.declared.ending.Ending.{Ending}
use Rattle.dc_course.specs.declared.ending.Ending.TheVariants.{Done, Unfinished, Device, Store, Sink, Stopped}

-- what a run is given: the protocol of its processes, their images and inputs, the schedule, the stops that are planned, and how many entries of the
-- schedule an earlier part of it took: none where it begins at its opening
pub record Setting : Type 0 where
  pub protocol : Protocol
  pub images : List Image
  pub inputs : List (List (List ℕ))
  pub schedule : List Entry
  pub stops : List PlannedStop
  pub from : ℕ

-- its guests, under its protocol
abbrev pub system_in : Setting → System Guest
system_in setting = system setting.images setting.inputs setting.protocol

-- where it begins, at this core
abbrev pub start_at : Setting → Core → Start
start_at setting begun = record { entries = setting.from; core = begun }

-- the number of the turn that comes after these marks
abbrev pub turn_after : Setting → List Mark → ℕ
turn_after setting marks = setting.from + length marks

-- what a run lists of itself: the acts that count, the marks of its entries, how many whole lines it wrote, and its journal, if it kept one
pub record Account : Type 0 where
  pub acts : List Taken
  pub marks : List Mark
  pub lines : ℕ
  pub journal : Option (List Line)

-- how the last entry went: whole, as all before it; or its line was cut off by a fault of the output; or a device failed at it
pub data Last : Type 0 where
  Whole : Last
  CutOff : (torn : Visible) → Last
  Broken : Last

-- the record whose line was cut off counts as shown
abbrev pub torn_at : Last → List Visible
torn_at (CutOff torn) = torn ∷ []
torn_at _ = []

-- the marks, the last first; an entry that a fault ended has none, and counts as one that was stopped, where the output failed as one that showed
abbrev pub marks_at : Last → List Mark → List Mark
marks_at Whole marks = reverse marks
marks_at (CutOff torn) marks = mark.Showed torn.k ∷ reverse marks
marks_at Broken marks = mark.Stopped ∷ reverse marks

-- the lines of records stand behind what was there; of one that a fault cut off a part of its front
abbrev pub Shows : List Visible → List Visible → List ℕ → List ℕ → Type 0
Shows whole [] before after = after ≡ before ++ text_of whole
Shows whole (cut ∷ more) before after = (n : ℕ) × (n < length (visible_line cut)) × (after ≡ before ++ text_of whole ++ take n (visible_line cut))

-- the lines on the output: whole ones, as many as were counted, then a part of the one that a fault cut off;
-- dropping those whose number came before, they are the visible records
pub record LinesShown (whole torn : List Visible) (lines : ℕ) (visibles : List Visible) (before after : Option (List ℕ)) : Type 0 where
  pub count : length whole ≡ lines
  pub thinned : thin (whole ++ torn) ≡ visibles
  pub written : Becomes before after (Shows whole torn)

-- the marks lead from a start to a core of these acts and records
pub record CoreLed (setting : Setting) (start : Start) (marks : List Mark) (core : Core) (acts : List Taken) (records : List Visible) : Type 0 where
  pub led : LeadsTo (system_in setting) setting.schedule start marks core
  pub acts_are : reported core.acts ≡ acts
  pub lines_are : reverse core.lines ≡ records

-- The lines on the output, dropping a process's outputs whose number came before, are exactly the visible records of the failure-free
-- run of the same guests on the same inputs whose acts are listed; each act was drawn at its turn of the schedule, in order; a repeat
-- equals its first line and follows a recovery. It is said of a run from its opening, at which these processes are up.
pub record IsHeadline (setting : Setting) (run : Account) (last : Last) (up : ℕ → Bool) (core : Core) (before after : Option (List ℕ)) : Type 0 where
  pub world : FailureFree Guest
  pub whole : List Visible
  pub from_is : setting.from ≡ 0
  pub acts_run : run_of (system_in setting).guests run.acts ≡ Some world
  pub acts_drawn : Drawn (length setting.images) setting.schedule run.acts
  pub lines_shown : LinesShown whole (torn_at last) run.lines world.visibles before after
  pub repeats_equal : RepeatsEqual (is_joint setting.protocol) setting.schedule (marks_at last run.marks) (reverse (whole ++ torn_at last))
  pub core_led : CoreLed setting (opening up) (marks_at last run.marks) core run.acts (whole ++ torn_at last)
  -- where all commit together, nothing that could have come otherwise stands unsaved before a line that was shown
  pub saved : is_global setting.protocol ≡ true → SavedBeforeShown (system_in setting).guests core

-- where all commit together, all of these are up or none is
abbrev pub AreUpAlike : Setting → (ℕ → Bool) → Type 0
AreUpAlike setting up = is_joint setting.protocol ≡ true → (p q : ℕ) → up p ≡ up q

-- process p takes part in an entry: its turn is p's or, where all commit together, any's
abbrev pub takes_part : Protocol → ℕ → Option Entry → Bool
takes_part protocol p (Some (entry.Turn turn)) = is_with protocol turn.p p
takes_part protocol p _ = false

-- the schedule was used up
abbrev pub IsUsedUp : Setting → List Mark → Last → Type 0
IsUsedUp setting marks last = (turn_after setting marks ≡ length setting.schedule) × (last ≡ Whole)

-- done where the schedule is used up and every process is up and has ended, unfinished where one is not; else a fault at the entry behind the
-- marked ones: of the device of a process that takes part in it, or of the output; or a stop, which ends a run that keeps a journal
abbrev pub IsEnding : Setting → Ending → List Mark → Last → Core → Type 0
IsEnding setting Done marks last core = IsUsedUp setting marks last × HaveEnded true (system_in setting).guests core
IsEnding setting Unfinished marks last core = IsUsedUp setting marks last × HaveEnded false (system_in setting).guests core
IsEnding setting (Device p) marks last core = (last ≡ Broken) × (takes_part setting.protocol p (slice_get setting.schedule (turn_after setting marks)) ≡ true) × (p < length setting.images)
IsEnding setting (Store p fault) marks last core = ⊥
IsEnding setting Sink marks last core = (torn : Visible) × (last ≡ CutOff torn) × (turn_after setting marks < length setting.schedule)
IsEnding setting (Stopped p) marks last core = (last ≡ Whole) × (p < length setting.images)

-- a stop is planned for this turn and process
abbrev pub is_planned : List PlannedStop → ℕ → ℕ → Bool
is_planned stops turn p = is_some (first_stop stops turn p)

-- or for one of the processes below a number that stops with it
abbrev pub is_planned_with : Protocol → List PlannedStop → ℕ → ℕ → ℕ → Bool
is_planned_with protocol stops turn p zero = is_planned stops turn p
is_planned_with protocol stops turn p (suc n) = is_with protocol p n && is_planned stops turn n || is_planned_with protocol stops turn p n

-- an entry was stopped
abbrev pub is_stopped : Mark → Bool
is_stopped mark.Stopped = true
is_stopped _ = false

-- a stop of process p at this turn that no plan lists, neither for it nor for one that stops with it
abbrev pub is_unplanned : Setting → ℕ → ℕ → Mark → Bool
is_unplanned setting p turn m = is_stopped m && (takes_part setting.protocol p (slice_get setting.schedule turn) && not (is_planned_with setting.protocol setting.stops turn p (length setting.images)))

-- how many of the turns in which process p takes part were stopped for which no such stop was planned, by the marks, the last first
abbrev pub unplanned : Setting → ℕ → List Mark → ℕ
unplanned setting p [] = 0
unplanned setting p (m ∷ marks) = (if is_unplanned setting p (turn_after setting marks) m then 1 else 0) + unplanned setting p marks

-- whether the making of a process's store was stopped, or of that of one that stops with it, as a count
abbrev pub late : Bool → ℕ
late up = if up then 0 else 1

-- of the processes below a number, those that stop with p: the sum of what a count says of each
abbrev pub counted_with : Protocol → ℕ → (ℕ → ℕ) → ℕ → ℕ
counted_with protocol p count zero = 0
counted_with protocol p count (suc n) = (if is_with protocol p n then count n else 0) + counted_with protocol p count n

-- the stops of the devices that were handed in are no fewer than those that no plan lists: of the opening, and of turns; those of processes that
-- stop together are counted together
abbrev pub StopsTold : Setting → (ℕ → Bool) → List Mark → (ℕ → ℕ) → (ℕ → ℕ) → Type 0
StopsTold setting up marks before after = (p : ℕ) → p < length setting.images
    → counted_with setting.protocol p before (length setting.images) + late (up p) + unplanned setting p (reverse marks) ≤ counted_with setting.protocol p after (length setting.images)

-- a turn in which a process takes part, and that was not stopped, made fewer calls of its device than the one at which the first stop was planned for it
abbrev pub IsUnstopped : Setting → ℕ → ℕ → Mark → ℕ → ℕ → Type 0
IsUnstopped setting p turn m before after = is_stopped m ≡ false → takes_part setting.protocol p (slice_get setting.schedule turn) ≡ true → IfSome (first_stop setting.stops turn p) (λ stop. after < before + stop.call)

-- from some marks to more, the stops of those that stop with a process, which no plan lists, are no fewer than those of the turns in which it takes part
abbrev pub IsCountedOn : Setting → ℕ → List Mark → List Mark → (ℕ → ℕ) → (ℕ → ℕ) → Type 0
IsCountedOn setting p old new before after =
    counted_with setting.protocol p before (length setting.images) + unplanned setting p (reverse new) ≤ counted_with setting.protocol p after (length setting.images) + unplanned setting p (reverse old)
