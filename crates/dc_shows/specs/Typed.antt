-- Values that are those of their types: words below 2^32, bytes below 2^8; and what can be written of a run.
use Rattle.std.specs.Prelude.{ℕ, ◌<◌, ◌≤◌, ◌+◌, ◌^◌, ◌≡◌, List, [], length}
use Rattle.std.specs.List.{AllByRecursion}
use Rattle.dc_check.specs.Records.{CanShow}
use Rattle.dc_elf.specs.Images.{Image}
use Rattle.dc_guest.specs.Guest.{Guest}
use Rattle.dc_limits.specs.declared.sizes.TheConstants.{PROCESSES}
use Rattle.dc_model.specs.Guests.{Answer, Event}
use Rattle.dc_model.specs.Guests.Answer.{Clock, Random, InputNext, ReceiveFrom}
use Rattle.dc_model.specs.Guests.Event.{AtVisible, AtSend}
use Rattle.dc_model.specs.Process.{Local}
use Rattle.dc_model.specs.FailureFree.{FailureFree}
use Rattle.dc_model.specs.declared.entry.Entry.{Entry}
use Rattle.dc_model.specs.declared.visible.Visible.{Visible}
use Rattle.dc_rv32.specs.Machine.{IsCause, Machine}
use Rattle.dc_rv32.specs.declared.machine.Stepped.{Stepped}
use Rattle.dc_schedule.specs.Entries.{IsSchedule}
use Rattle.dc_words.specs.Words.{AllBelow}

-- registers and pc are words, memory is bytes
pub record IsMachine (m : Machine) : Type 0 where
  pub registers : AllBelow (2 ^ 32) m.registers
  pub pc : m.pc < 2 ^ 32
  pub memory : AllBelow (2 ^ 8) m.memory

-- what a step leaves: such a machine, and a cause from 0 to 7 where it is a trap
abbrev pub IsStep : Machine × Stepped → Type 0
IsStep r = IsMachine r.0 × IsCause r.1

-- an image's memory is bytes, and its entry and its size are words
pub record IsImage (image : Image) : Type 0 where
  pub memory : AllBelow (2 ^ 8) image.memory
  pub entry : image.entry < 2 ^ 32
  pub size : length image.memory < 2 ^ 32

-- bytes that are handed to a guest or to another: a word counts them
abbrev pub IsHanded : List ℕ → Type 0
IsHanded bytes = (length bytes < 2 ^ 32) × AllBelow (2 ^ 8) bytes

-- an answer of numbers of their types
abbrev pub IsTold : Answer → Type 0
IsTold (Clock v) = v < 2 ^ 64
IsTold (Random v) = v < 2 ^ 32
IsTold (InputNext bytes) = IsHanded bytes
IsTold (ReceiveFrom s message) = (s < 2 ^ 32) × IsHanded message
IsTold _ = Unit {0}

-- an event that shows what can be written, or sends bytes
abbrev pub IsComing : Event → Type 0
IsComing (AtVisible body) = CanShow body
IsComing (AtSend to message) = IsHanded message
IsComing _ = Unit {0}

-- a guest of numbers of their types, that sent bytes
pub record IsLocal (l : Local Guest) : Type 0 where
  pub machine : IsMachine l.machine.machine
  pub number : l.machine.number < 2 ^ 32
  pub count : l.machine.count < 2 ^ 32
  pub sent : (q : ℕ) → AllByRecursion IsHanded (l.sent q)

-- a record whose line has the record's numbers: its process is one of n, its number below a bound
pub record CanWrite (n most : ℕ) (x : Visible) : Type 0 where
  pub process : x.p < n
  pub number : x.k < most
  pub shown : CanShow x.body

-- a world of n guests of numbers of their types, where so many acts are left and at most so many records can come in all; others are silent
pub record IsTyped (n most left : ℕ) (w : FailureFree Guest) : Type 0 where
  pub each : (p : ℕ) → p < n → IsLocal (w.procs p)
  pub count : (p : ℕ) → p < n → (w.procs p).visible + left ≤ most
  pub silent : (p : ℕ) → n ≤ p → (q : ℕ) → (w.procs p).sent q ≡ []
  pub visibles : AllByRecursion (CanWrite n most) w.visibles

-- what a run is given, of numbers of their types
pub record IsGivenRun (images : List Image) (inputs : List (List (List ℕ))) (schedule : List Entry) : Type 0 where
  pub few : length images ≤ PROCESSES
  pub images_are : AllByRecursion IsImage images
  pub inputs_are : AllByRecursion (AllByRecursion IsHanded) inputs
  pub schedule_is : IsSchedule (length images) schedule
