-- What decides whether a process's store suits the acts: its trail, and the kernels of the others.
use Rattle.std.specs.Prelude.{◌≡◌, ◌<◌, ◌≤◌, ℕ, List, Option, None, Some, Vec, true, false, length, slice_get, slice_index}
use Rattle.std.specs.declared.alloc.Global.{Global}
use Rattle.dc_elf.specs.Images.{Image}
use Rattle.dc_guest.specs.Guest.{Guest}
use Rattle.dc_kernel.specs.declared.saved.Saved.{Saved}
use Rattle.dc_model.specs.Guests.{Answer}
use Rattle.dc_model.specs.Process.{at_position}
use Rattle.dc_model.specs.Runs.{Given}
use Rattle.dc_proc.specs.Carried.{system}
use Rattle.dc_proc.specs.Processes.{IsKernelAt, Stored}
use Rattle.dc_protocols.specs.Rules.{is_joint}
use Rattle.dc_protocols.specs.declared.protocol.Protocol.{Protocol}
use Rattle.dc_recovery.specs.Invariant.{SaveOk}
use Rattle.dc_recovery.specs.Systems.{System}
use Rattle.dc_resume.specs.Suited.{IsSuited, save_in}
use Rattle.dc_retrace.specs.Read.{kernel_at, stored_in}
use Rattle.dc_retrace.specs.Trails.{AreTrails}
use Rattle.dc_retrace.specs.declared.trail.Trail.{Trail}

-- what the acts of a process alone say of its store
pub record IsSuitedAlone (S : System Guest) (p : ℕ) (answers : List Answer) (x : Stored) : Type 0 where
  pub kernel_is : IsKernelAt S.guests.count p x.kernel.position (at_position S.guests p x.kernel.position answers) x.words x.kernel
  pub save : SaveOk S p answers (save_in x)

-- the decided number is none to which no process has come; where each process commits by itself there is none
pub record IsDecidedBy (protocol : Protocol) (d : ℕ) (saved : List Saved) : Type 0 where
  pub alone : is_joint protocol ≡ false → d ≡ 0
  pub together : is_joint protocol ≡ true → (q : ℕ) × (q < length saved) × (d ≤ (kernel_at saved q).commit)

-- how many messages a trail has sent to p
abbrev pub sent_on : Option Trail → ℕ → ℕ
sent_on None p = 0
sent_on (Some trail) p = slice_index trail.sent p

-- what p's store received the trails of the senders have sent
abbrev pub IsClosedBy : List Saved → List Trail → ℕ → Type 0
IsClosedBy saved trails p = (s : ℕ) → s < length saved → slice_index (kernel_at saved p).received s ≤ sent_on (slice_get trails s) p

-- the stores of the first so many processes suit the acts whose trails these are
abbrev pub AreSuitedBelow : Protocol → ℕ → List Saved → List Trail → ℕ → Type 0
AreSuitedBelow protocol d saved trails most = (images : List Image) (inputs : List (List (List ℕ))) (acts : List Given) (memories : List (Vec ℕ Global)) → length images ≡ length saved
    → AreTrails (system images inputs protocol) acts (stored_in memories saved) trails
    → (q : ℕ) → q < most → IsSuited (system images inputs protocol) acts d (stored_in memories saved) q
