-- What was read of stores, and how a played guest ended.
use Rattle.std.specs.Prelude.{◌==◌, ◌<◌, ◌≤◌, ℕ, All, Bool, true, false, List, [], Option, None, Some, Vec, length, slice_get}
use Rattle.std.specs.declared.alloc.Global.{Global}
use Rattle.dc_limits.specs.declared.bounds.TheConstants.{LOGGED_EVENTS}
use Rattle.dc_calls.specs.declared.call.Call.TheVariants.{Exit}
use Rattle.dc_events.specs.declared.event.Next.{Next}
use Rattle.dc_events.specs.declared.event.Next.TheVariants as next
use Rattle.dc_kernel.specs.Kernels.{IsKernel, Kernel, fresh}
use Rattle.dc_kernel.specs.Records.{IsRecord}
use Rattle.dc_kernel.specs.declared.records.LogRecord.{LogRecord}
use Rattle.dc_kernel.specs.declared.saved.Saved.{Saved}
use Rattle.dc_kernel.specs.declared.status.Status.{Status}
use Rattle.dc_kernel.specs.declared.status.Status.TheVariants.{Running, Exited, Trapped}
use Rattle.dc_proc.specs.Processes.{Stored}
use Rattle.dc_words.specs.Lists.{items_of}

-- the kernel that was read, where there is one
abbrev pub kernel_of : Option Saved → Kernel
kernel_of None = fresh 0 0
kernel_of (Some saved) = saved.kernel

-- the log that was read
abbrev pub log_of : Option Saved → List LogRecord
log_of None = []
log_of (Some saved) = saved.log.items

-- the kernel and the log of process p's store
abbrev pub kernel_at : List Saved → ℕ → Kernel
kernel_at saved p = kernel_of (slice_get saved p)

abbrev pub log_at : List Saved → ℕ → List LogRecord
log_at saved p = log_of (slice_get saved p)

-- what was read of process p's store: its memory, its kernel and its log
abbrev pub stored_in : List (Vec ℕ Global) → List Saved → ℕ → Stored
stored_in memories saved p = record { words = items_of (slice_get memories p); kernel = kernel_at saved p; log = log_at saved p }

-- a kernel of process p of n, and a log that it may have
pub record IsReadOf (n p : ℕ) (saved : List Saved) : Type 0 where
  pub kernel : IsKernel n p (kernel_at saved p)
  pub records : All (IsRecord n) (log_at saved p)
  pub room : length (log_at saved p) ≤ LOGGED_EVENTS

-- so it is with each process
abbrev pub AreReadOf : ℕ → List Saved → Type 0
AreReadOf n saved = (p : ℕ) → p < n → IsReadOf n p saved

-- whether a status says how a guest ended, by what it did last where that ended it
abbrev pub ends_so : Option Next → Status → Bool
ends_so None Running = true
ends_so (Some (next.Call (Exit code))) (Exited said) = code == said
ends_so (Some (next.Trap cause)) (Trapped said) = cause == said
ends_so _ _ = false
