-- What of a process is saved beside its memory.
use Rattle.std.specs.Prelude.{ℕ, ◌≡◌, ◌≤◌, ◌<◌, ◌^◌, ◌%◌, List, length, replicate, slice_index}
use Rattle.std.specs.List.{AllByRecursion}
use Rattle.dc_limits.specs.declared.sizes.TheConstants.{PROCESSES}
use Rattle.dc_isa.specs.declared.regs.Regs.{Regs}
use Rattle.dc_links.specs.Links.{Link, link_to, unused}
use Rattle.dc_words.specs.Words.{AllBelow}
use Rattle.dc_kernel.specs.Layout.{message_room, slot_count}
use Rattle.dc_kernel.specs.declared.status.Status.{Status}
use Rattle.dc_kernel.specs.declared.status.Status.TheVariants.{Running, Exited, Trapped}

-- the kernel of process p of n: its status, its commit number, its position (how many events it has taken: an instruction, a call or a trap),
-- how many of its records were seen, how many inputs it took, its registers, and for each process how many messages it received from it, and
-- what it sent to it
pub record Kernel : Type 0 where
  pub n : ℕ
  pub p : ℕ
  pub status : Status
  pub commit : ℕ
  pub position : ℕ
  pub visible : ℕ
  pub inputs_taken : ℕ
  pub regs : Regs
  pub received : List ℕ
  pub links : List Link

-- a process that has done nothing
abbrev pub fresh : ℕ → ℕ → Kernel
fresh n p = record {
  n = n;
  p = p;
  status = Running;
  commit = 0;
  position = 0;
  visible = 0;
  inputs_taken = 0;
  regs = record { x = replicate 32 0; pc = 0 };
  received = replicate n 0;
  links = replicate n unused;
}

-- the causes of traps are numbered from 0
abbrev pub greatest_cause : ℕ
greatest_cause = 7

-- a status that a process can have: the cause of a trap is one of them
abbrev pub IsStatus : Status → Type 0
IsStatus Running = Unit {0}
IsStatus (Exited code) = Unit {0}
IsStatus (Trapped cause) = cause ≤ greatest_cause

-- registers between two instructions
pub record IsRegs (regs : Regs) : Type 0 where
  pub count : length regs.x ≡ 32
  pub zero : slice_index regs.x 0 ≡ 0
  pub aligned : regs.pc % 4 ≡ 0

-- a message: bytes that there is room for
abbrev pub IsMessage : List ℕ → Type 0
IsMessage message = (length message ≤ message_room) × AllBelow (2 ^ 8) message

-- no more messages are kept than there are slots, or than were sent
pub record IsLink (link : Link) : Type 0 where
  pub few : length link.kept ≤ slot_count
  pub sent : length link.kept ≤ link.sent
  pub messages : AllByRecursion IsMessage link.kept

-- the values of a kernel, the messages apart
pub record IsProcess (n p : ℕ) (status : Status) (regs : Regs) (received : List ℕ) (links : List Link) : Type 0 where
  pub few : n ≤ PROCESSES
  pub one_of : p < n
  pub status_is : IsStatus status
  pub regs_are : IsRegs regs
  pub received_from : length received ≡ n
  pub sent_to : length links ≡ n
  -- nothing is received from or sent to itself
  pub none_received : slice_index received p ≡ 0
  pub none_sent : link_to links p ≡ unused

-- a kernel of process p of n
pub record IsKernel (n p : ℕ) (kernel : Kernel) : Type 0 where
  pub n_is : kernel.n ≡ n
  pub p_is : kernel.p ≡ p
  pub process : IsProcess kernel.n kernel.p kernel.status kernel.regs kernel.received kernel.links
  pub links_are : AllByRecursion IsLink kernel.links
