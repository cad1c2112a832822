-- Whether what the stores of all processes stand for suits the acts of a run, so that the run may go on from there.
use Rattle.std.specs.Prelude.{◌≡◌, ◌<◌, ◌≤◌, ◌*◌, ◌-◌, ℕ, List, Ok, true, false, if◌then◌else◌, length, map, nat_lt, slice_index}
use Rattle.dc_limits.specs.declared.bounds.TheConstants.{ENTRIES}
use Rattle.dc_checkpoint.specs.States.{Reading, State, number_in}
use Rattle.dc_guest.specs.Guest.{Guest}
use Rattle.dc_kernel.specs.Kernels.{IsKernel}
use Rattle.dc_links.specs.Links.{link_to, number_of_first}
use Rattle.dc_model.specs.Process.{at_position}
use Rattle.dc_model.specs.Runs.{Given, own}
use Rattle.dc_proc.specs.Processes.{IsKernelAt, Stored, logged_of, reading_of}
use Rattle.dc_protocols.specs.Rules.{is_global, is_joint}
use Rattle.dc_protocols.specs.declared.protocol.Protocol.{Protocol}
use Rattle.dc_recovery.specs.Core.{Status, first_save}
use Rattle.dc_recovery.specs.Invariant.{SaveOk}
use Rattle.dc_recovery.specs.Numbers.{AreUpTo, ShareNumbers}
use Rattle.dc_recovery.specs.Saves.{Save, reach}
use Rattle.dc_recovery.specs.Systems.{System}

-- the save that a state is
abbrev pub save_in : Stored → Save
save_in x = record { position = x.kernel.position; log = map logged_of x.log; number = x.kernel.commit }

-- commits are numbered below this: the first is 1, and an entry makes no more than two
abbrev pub number_bound : ℕ
number_bound = 2 * ENTRIES

-- how many messages process s, come back to this state, is sure to have sent to p
abbrev pub surely_sent : System Guest → List Given → ℕ → Stored → ℕ → ℕ
surely_sent S acts s x p = length ((at_position S.guests s (reach S s (own s acts) (save_in x)) (own s acts)).sent p)

-- the decided number is none to which no process has come; where each process commits by itself there is none
pub record IsDecided (S : System Guest) (d : ℕ) (stores : ℕ → Stored) : Type 0 where
  pub alone : is_joint S.protocol ≡ false → d ≡ 0
  pub together : is_joint S.protocol ≡ true → (q : ℕ) × (q < S.guests.count) × (d ≤ (stores q).kernel.commit)

-- What process p's store stands for suits these acts: it is p after its first so many events, with the log of what it was told from there on, and it
-- goes with what the stores of the others stand for, where d is the decided number.
pub record IsSuited (S : System Guest) (acts : List Given) (d : ℕ) (stores : ℕ → Stored) (p : ℕ) : Type 0 where
  -- its machine and its counts are p's after its first so many events, and the messages that it keeps are the last that p had sent then
  pub kernel_is : IsKernelAt S.guests.count p (stores p).kernel.position (at_position S.guests p (stores p).kernel.position (own p acts)) (stores p).words (stores p).kernel
  -- what p was told from there up to where others hold it to is the log, with no more uncommitted receipts than may be
  pub save : SaveOk S p (own p acts) (save_in (stores p))
  -- of the messages that it keeps no more, the store of the receiver has received all
  pub first : (q : ℕ) → q < S.guests.count → number_of_first (link_to (stores p).kernel.links q) ≤ slice_index (stores q).kernel.received p
  -- where all recover together, what it received its sender is sure to have sent
  pub closed : is_joint S.protocol ≡ true → (s : ℕ) → s < S.guests.count → slice_index (stores p).kernel.received s ≤ surely_sent S acts s (stores s) p
  -- where all commit together, it has committed as often as process 0
  pub alike : is_global S.protocol ≡ true → (stores p).kernel.commit ≡ (stores 0).kernel.commit
  pub few : (stores p).kernel.commit < number_bound
  pub decided : p ≡ 0 → IsDecided S d stores

-- each does
abbrev pub AreSuited : System Guest → List Given → ℕ → (ℕ → Stored) → Type 0
AreSuited S acts d stores = (p : ℕ) → p < S.guests.count → IsSuited S acts d stores p

-- p's does not, and those of all before it do
pub record IsFirstUnsuited (S : System Guest) (acts : List Given) (d : ℕ) (stores : ℕ → Stored) (p : ℕ) : Type 0 where
  pub one_of : p < S.guests.count
  pub before : (q : ℕ) → q < p → IsSuited S acts d stores q
  pub unsuited : IsSuited S acts d stores p → ⊥

-- each was read: its kernel is one of its process
abbrev pub AreStored : System Guest → (ℕ → Stored) → Type 0
AreStored S stores = (p : ℕ) → p < S.guests.count → IsKernel S.guests.count p (stores p).kernel

-- the saves that they are; past the last process there is none but the beginning, under the number that process 0 has come to
abbrev pub saves_in : System Guest → (ℕ → Stored) → ℕ → Save
saves_in S stores p = if nat_lt p S.guests.count then save_in (stores p) else record first_save { number = (stores 0).kernel.commit }

-- commits are numbered as in a run: below the bound, and where all commit together with the same numbers
pub record AreNumbered (protocol : Protocol) (procs : ℕ → Status) : Type 0 where
  pub few : AreUpTo (number_bound - 1) procs
  pub alike : is_global protocol ≡ true → ShareNumbers procs

-- the decided number is none to which no process has come, by what was read of their stores
pub record IsReached (S : System Guest) (d : ℕ) (readings : ℕ → Reading) : Type 0 where
  pub alone : is_joint S.protocol ≡ false → d ≡ 0
  pub together : is_joint S.protocol ≡ true → (q : ℕ) × (q < S.guests.count) × ((s : State) → readings q ≡ Ok s → d ≤ number_in s.kernel)

-- what was read of each store is this
abbrev pub AreRead : ℕ → (ℕ → Reading) → (ℕ → Stored) → Type 0
AreRead n readings stores = (p : ℕ) → p < n → readings p ≡ reading_of (stores p)
