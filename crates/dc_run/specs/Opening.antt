-- What a run is opened with, by the told files, or the refusal that comes first.
use Rattle.std.specs.Prelude.{ℕ, suc, Bool, false, List, [], ◌∷◌, Option, None, Some, IsOkAnd, IsSome, IsSomeAnd, Result, Ok, Err, length, nat_lt, slice_get, take}
use Rattle.dc_command.specs.Command.{Order}
use Rattle.dc_command.specs.declared.command.Ledger.{Ledger}
use Rattle.dc_command.specs.declared.command.Ledger.TheVariants as ledger
use Rattle.dc_course.specs.Headline.{Setting}
use Rattle.dc_elf.specs.Files.{file_fault}
use Rattle.dc_elf.specs.Images.{Image, image_of}
use Rattle.dc_elf.specs.declared.faults.ElfFault.{ElfFault}
use Rattle.dc_guest.specs.Guest.{Guest, guests_of}
use Rattle.dc_model.specs.Guests.{Guests}
use Rattle.dc_model.specs.declared.entry.Entry.{Entry}
use Rattle.dc_plan.specs.Plans.{Plan, Source, InFile, FromSeed, plan_of}
use Rattle.dc_plan.specs.declared.command.Command.{Command}
use Rattle.dc_plan.specs.declared.command.Command.TheVariants as command
use Rattle.dc_plan.specs.declared.fault.PlanFault.{PlanFault}
use Rattle.dc_plan.specs.declared.plan.Medium.{Medium}
use Rattle.dc_plan.specs.declared.plan.Medium.TheVariants as medium
use Rattle.dc_schedule.specs.Generated.{generated}
use Rattle.dc_schedule.specs.Schedules.{schedule_of, turns_of}
use Rattle.dc_schedule.specs.declared.fault.ScheduleFault.{ScheduleFault}
use Rattle.dc_words.specs.Results.{◌>>=◌, or_fault}
use Rattle.dc_run.specs.declared.refusal.Refusal.{Refusal}
use Rattle.dc_run.specs.declared.refusal.Refusal.TheVariants as refusal
use Rattle.dc_run.specs.declared.verdict.Which.{Which}
use Rattle.dc_run.specs.declared.verdict.Which.TheVariants as which

-- the guests of a setting
abbrev pub guests : Setting → Guests Guest
guests setting = guests_of setting.images setting.inputs

-- an order to run the plan of this name and write its report
abbrev pub to_report : List ℕ → Order
to_report plan = record { plan = plan; ledger = ledger.Report }

-- a run that is to be carried out: what it writes at its end, what it is opened with, and the first entry that is not run, if it is to be halted
pub record Task : Type 0 where
  pub ledger : Ledger
  pub setting : Setting
  pub halt : Option ℕ

-- the entries that are run: all, or those before the halt
abbrev pub entries_run : Option ℕ → List Entry → List Entry
entries_run None schedule = schedule
entries_run (Some halt) schedule = take halt schedule

-- a halt leaves entries over
abbrev pub leaves_over : Option ℕ → List Entry → Bool
leaves_over None schedule = false
leaves_over (Some halt) schedule = nat_lt halt (length schedule)

-- the part of a task that is run
abbrev pub part_of : Task → Setting
part_of task = record task.setting { schedule = entries_run task.halt task.setting.schedule }

-- it is halted before its schedule is used up
abbrev pub is_halted : Task → Bool
is_halted task = leaves_over task.halt task.setting.schedule

-- told files: the bytes of each name
abbrev pub Files : Type 0
Files = List ℕ → Option (List ℕ)

-- the file that a command wants there, or the refusal
abbrev pub file_in : Files → Which → List ℕ → Result (List ℕ) Refusal
file_in files which name = or_fault (refusal.Missing which) (files name)

-- the plan, or the rule that it breaks first
abbrev pub plan_or_fault : Result Plan PlanFault → Result Plan Refusal
plan_or_fault (Ok plan) = Ok plan
plan_or_fault (Err fault) = Err (refusal.Plan fault)

-- the command that reads a plan, by what its run writes at its end
abbrev pub command_of : Ledger → Command
command_of ledger.Report = command.Run
command_of ledger.Journal = command.Journal
command_of ledger.Total = command.Resume

-- the plan of an order: what its text says to the command
abbrev pub plan_for : Files → Order → Result Plan Refusal
plan_for files order = file_in files which.Plan order.plan >>= (λ text. plan_or_fault (plan_of (command_of order.ledger) text))

-- the medium of a plan that is read; of one that is refused nothing runs, and any would do
abbrev pub medium_in : Result Plan Refusal → Medium
medium_in (Ok plan) = plan.medium
medium_in (Err refusal) = medium.Rio

-- by the order
abbrev pub medium_at : Files → Order → Medium
medium_at files order = medium_in (plan_for files order)

-- the halt of a plan that is read
abbrev pub halt_in : Result Plan Refusal → Option ℕ
halt_in (Ok plan) = plan.halt
halt_in (Err refusal) = None

-- by the order
abbrev pub halt_at : Files → Order → Option ℕ
halt_at files order = halt_in (plan_for files order)

-- the run of an order, by what it is opened with
abbrev pub task_in : Files → Order → Setting → Task
task_in files order setting = record { ledger = order.ledger; setting = setting; halt = halt_at files order }

-- the image, or the fault of the file of guest p
abbrev pub image_or_fault : ℕ → Option ElfFault → Image → Result Image Refusal
image_or_fault p None image = Ok image
image_or_fault p (Some fault) image = Err (refusal.Guest p fault)

-- the image of a file in a memory of this size, as that of guest p
abbrev pub guest_of : ℕ → ℕ → List ℕ → Result Image Refusal
guest_of size p file = image_or_fault p (file_fault file size) (image_of size file)

-- the image of guest p, whose file has this name
abbrev pub guest_in : Files → ℕ → ℕ → List ℕ → Result Image Refusal
guest_in files size p name = file_in files (which.Guest p) name >>= guest_of size p

-- the images of the guests from number p on, by the names of their files: the first that is missing or refused decides
abbrev pub images_in : Files → ℕ → ℕ → List (List ℕ) → Result (List Image) Refusal
images_in files size p [] = Ok []
images_in files size p (name ∷ names) = guest_in files size p name >>= (λ image. images_in files size (suc p) names >>= (λ images. Ok (image ∷ images)))

-- the schedule, or the fault of its first faulty line
abbrev pub schedule_or_fault : Result (List Entry) ScheduleFault → Result (List Entry) Refusal
schedule_or_fault (Ok schedule) = Ok schedule
schedule_or_fault (Err fault) = Err (refusal.Schedule fault)

-- the schedule of a text: of a run that is to leave its journal a line that stops a process is a fault of form
abbrev pub entries_of : Ledger → ℕ → List ℕ → Result (List Entry) ScheduleFault
entries_of ledger.Report n text = schedule_of n text
entries_of ledger.Total n text = schedule_of n text
entries_of ledger.Journal n text = turns_of n text

-- the schedule of n guests: that of the file, or the one that is drawn from the seed
abbrev pub schedule_in : Files → Ledger → ℕ → Source → Result (List Entry) Refusal
schedule_in files ledger n (InFile name) = file_in files which.Schedule name >>= (λ text. schedule_or_fault (entries_of ledger n text))
schedule_in files ledger n (FromSeed start turns) = Ok (generated start turns n)

-- with the plan, the images and the schedule
abbrev pub setting_with : Plan → List Image → List Entry → Setting
setting_with plan images schedule = record { protocol = plan.protocol; images = images; inputs = plan.inputs; schedule = schedule; stops = plan.stops; from = 0 }

-- with the plan and the images
abbrev pub opening_at_images : Files → Ledger → Plan → List Image → Result Setting Refusal
opening_at_images files ledger plan images = schedule_in files ledger (length images) plan.schedule >>= (λ schedule. Ok (setting_with plan images schedule))

-- with the plan
abbrev pub opening_at_plan : Files → Ledger → Plan → Result Setting Refusal
opening_at_plan files ledger plan = images_in files plan.memory 0 plan.guests >>= opening_at_images files ledger plan

-- the plan, the guests in order, the schedule: the first that is missing or refused decides
abbrev pub opening_of : Files → Order → Result Setting Refusal
opening_of files order = plan_for files order >>= opening_at_plan files order.ledger

-- Which files a run asks for and finds: one only after those before it were there and were not refused.

-- the file of guest q is there, and so is that of each guest before it, which is not refused
abbrev pub AsksForGuest : Files → ℕ → List (List ℕ) → ℕ → Type 0
AsksForGuest files size names q = IsOkAnd (images_in files size 0 (take q names)) (λ images. IsSomeAnd (slice_get names q) (λ name. IsSome (files name)))

-- a schedule's file is there; a seed has none
abbrev pub IsSourceThere : Files → Source → Type 0
IsSourceThere files (InFile name) = IsSome (files name)
IsSourceThere files (FromSeed start turns) = ⊥

-- each guest's file is there and not refused, and so is the schedule's there
abbrev pub AsksForSchedule : Files → Plan → Type 0
AsksForSchedule files plan = IsOkAnd (images_in files plan.memory 0 plan.guests) (λ images. IsSourceThere files plan.schedule)

-- with the plan
abbrev pub AsksAtPlan : Files → Plan → Which → Type 0
AsksAtPlan files plan (which.Guest q) = AsksForGuest files plan.memory plan.guests q
AsksAtPlan files plan which.Schedule = AsksForSchedule files plan
AsksAtPlan files plan _ = ⊥

-- by an order
abbrev pub AsksToRun : Files → Order → Which → Type 0
AsksToRun files order which.Plan = IsSome (files order.plan)
AsksToRun files order which = IsOkAnd (plan_for files order) (λ plan. AsksAtPlan files plan which)
