-- The first thing that is wrong with words as the text of a kernel of process p of n.
use Rattle.std.specs.Prelude.{ℕ, ◌%◌, ◌==◌, ◌&&◌, ◌||◌, not, Bool, List, length, drop, Option, None, Some, if◌then◌else◌, nat_le, slice_index}
use Rattle.std.specs.List.{list_all}
use Rattle.dc_words.specs.Words.{bytes_in}
use Rattle.dc_kernel.specs.Kernels.{greatest_cause}
use Rattle.dc_kernel.specs.Layout.{behind_slots, bytes_at, code_at, entries_of, entry_of, kept_at, kernel_words, length_at, message_room, n_at, p_at, pc_at, sent_at, slot_count, slots_of, status_at, version, version_at}
use Rattle.dc_kernel.specs.declared.faults.KernelFault.{KernelFault}
use Rattle.dc_kernel.specs.declared.faults.KernelFault.TheVariants.{Size, Version, Count, Status}

-- whether all are 0
abbrev pub is_zero : List ℕ → Bool
is_zero words = list_all (λ w. w == 0) words

-- a slot that holds a message: a length that there is room for, and zeros behind so many bytes
abbrev pub is_slot : List ℕ → Bool
is_slot slot = nat_le (slice_index slot length_at) message_room && is_zero (drop (slice_index slot length_at) (bytes_in (drop bytes_at slot)))

-- an entry that keeps so many messages: no more than there are slots or than were sent, one in each of the first slots, and zeros behind them
abbrev pub keeps : ℕ → List ℕ → Bool
keeps kept entry = nat_le kept slot_count && (nat_le kept (slice_index entry sent_at) && (list_all is_slot (slots_of kept entry) && is_zero (behind_slots kept entry)))

-- whether an entry is that of a process: it keeps as many messages as it says
abbrev pub is_entry : List ℕ → Bool
is_entry entry = keeps (slice_index entry kept_at) entry

-- the numbers of the processes, and their entries, that of p itself being zero
abbrev pub has_counts : ℕ → ℕ → List ℕ → Bool
has_counts n p words = slice_index words n_at == n && (slice_index words p_at == p && (list_all is_entry (entries_of n words) && is_zero (entry_of p words)))

-- running with 0, exited with any code, or trapped with a cause
abbrev pub is_status : ℕ → ℕ → Bool
is_status status code = (status == 0 && code == 0) || (status == 1 || (status == 2 && nat_le code greatest_cause))

-- whether a text's status is one, and the address of the next instruction that of a word
abbrev pub has_status : List ℕ → Bool
has_status words = is_status (slice_index words status_at) (slice_index words code_at) && slice_index words pc_at % 4 == 0

-- the first thing that is wrong with words as the text of a kernel of process p of n, in the order of testing
unfoldable pub kernel_fault : ℕ → ℕ → List ℕ → Option KernelFault
kernel_fault n p words =
    if not (length words == kernel_words n) then Some Size
    else if not (slice_index words version_at == version) then Some Version
    else if not (has_counts n p words) then Some Count
    else if not (has_status words) then Some Status
    else None
