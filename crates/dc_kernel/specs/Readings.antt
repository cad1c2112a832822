-- The kernel that words are the text of, where they are one.
use Rattle.std.specs.Prelude.{ℕ, ◌==◌, List, ◌∷◌, map, take, drop, slice_index, if◌then◌else◌, Option, Some, None, Result, Ok, Err}
use Rattle.dc_isa.specs.declared.regs.Regs.{Regs}
use Rattle.dc_links.specs.Links.{Link}
use Rattle.dc_words.specs.Words.{bytes_in}
use Rattle.dc_kernel.specs.Kernels.{Kernel}
use Rattle.dc_kernel.specs.Layout.{bytes_at, code_at, commit_at, entries_of, kept_at, length_at, pc_at, inputs_taken_at, received_at, register_count, registers_at, position_at, sent_at, slots_of, status_at, visible_at}
use Rattle.dc_kernel.specs.declared.faults.KernelFault.{KernelFault}
use Rattle.dc_kernel.specs.declared.status.Status.{Status}
use Rattle.dc_kernel.specs.declared.status.Status.TheVariants.{Running, Exited, Trapped}

-- the status of its word and its code
abbrev pub status_in : ℕ → ℕ → Status
status_in status code = if status == 0 then Running else if status == 1 then Exited code else Trapped code

-- the registers of a text: x0 is 0, and x1 to x31 and pc stand in it
abbrev pub regs_in : List ℕ → Regs
regs_in words = record { x = 0 ∷ take register_count (drop registers_at words); pc = slice_index words pc_at }

-- the message in a slot: as many of its bytes as it says
abbrev pub message_in : List ℕ → List ℕ
message_in slot = take (slice_index slot length_at) (bytes_in (drop bytes_at slot))

-- how many messages were received, by an entry
abbrev pub received_in : List ℕ → ℕ
received_in entry = slice_index entry received_at

-- what was sent and is kept, by an entry
abbrev pub link_in : List ℕ → Link
link_in entry = record { sent = slice_index entry sent_at; kept = map message_in (slots_of (slice_index entry kept_at) entry) }

-- the kernel of process p of n that a text gives
unfoldable pub kernel_in : ℕ → ℕ → List ℕ → Kernel
kernel_in n p words = record {
  n = n;
  p = p;
  status = status_in (slice_index words status_at) (slice_index words code_at);
  commit = slice_index words commit_at;
  position = slice_index words position_at;
  visible = slice_index words visible_at;
  inputs_taken = slice_index words inputs_taken_at;
  regs = regs_in words;
  received = map received_in (entries_of n words);
  links = map link_in (entries_of n words);
}

-- why words were refused
abbrev pub refusal : Result (Unit {0}) KernelFault → Option KernelFault
refusal (Ok _) = None
refusal (Err fault) = Some fault
