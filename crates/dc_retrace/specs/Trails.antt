-- What one play of a run's acts notes of each process, beside what its store stands for.
use Rattle.std.specs.Prelude.{◌≡◌, ◌<◌, ◌≤◌, ℕ, suc, true, false, List, [], ◌∷◌, Vec, IfSome, length, map, max, slice_get, slice_index, take}
use Rattle.std.specs.declared.alloc.Global.{Global}
use Rattle.dc_elf.specs.Images.{Image}
use Rattle.dc_guest.specs.Guest.{Guest, guests_of}
use Rattle.dc_kernel.specs.declared.saved.Saved.{Saved}
use Rattle.dc_model.specs.Guests.{Answer, Guests, is_send, is_visible}
use Rattle.dc_model.specs.Process.{at_position, local}
use Rattle.dc_model.specs.Runs.{Given, IsRun, own, state}
use Rattle.dc_plain.specs.Playing.{Played, world_in}
use Rattle.dc_plain.specs.declared.applied.Applied.{Applied}
use Rattle.dc_proc.specs.Carried.{system}
use Rattle.dc_proc.specs.Processes.{IsKernelAt, Stored}
use Rattle.dc_protocols.specs.declared.protocol.Protocol.{Protocol}
use Rattle.dc_recovery.specs.Saves.{Save, last_exposed, log_end, logged_at, reach, span}
use Rattle.dc_recovery.specs.Systems.{System}
use Rattle.dc_resume.specs.Deciding.{told_of, told_room}
use Rattle.dc_resume.specs.Suited.{save_in}
use Rattle.dc_retrace.specs.Read.{stored_in}
use Rattle.dc_retrace.specs.declared.trail.Trail.{Trail}

-- a process came so far by these answers, and this is counted of it, beside a save: its acts, one past the last that is exposed for the save, the first
-- things that it was told from the save on, and how many messages it has sent to each where the save reaches to
pub record IsCounted (S : System Guest) (p : ℕ) (answers : List Answer) (s : Save) (trail : Trail) : Type 0 where
  pub position_is : trail.position ≡ s.position
  pub base_is : trail.base ≡ max s.position (log_end s.log)
  pub count_is : length answers ≡ trail.count
  pub exposed_is : last_exposed S p answers s.position ≡ trail.exposed
  pub told_is : map told_of trail.told.items ≡ take told_room (span (logged_at answers) s.position (length answers))
  pub sent_is : (q : ℕ) → q < S.guests.count → slice_index trail.sent q ≡ length ((at_position S.guests p (reach S p answers s) answers).sent q)

-- it was compared with what its store stands for where it had the position of that, and not before
pub record IsCompared (S : System Guest) (p : ℕ) (answers : List Answer) (x : Stored) (trail : Trail) : Type 0 where
  pub is : trail.same ≡ true → IsKernelAt S.guests.count p x.kernel.position (at_position S.guests p x.kernel.position answers) x.words x.kernel
  pub only : trail.same ≡ false → x.kernel.position ≤ length answers → IsKernelAt S.guests.count p x.kernel.position (at_position S.guests p x.kernel.position answers) x.words x.kernel → ⊥
  pub early : length answers < x.kernel.position → trail.same ≡ false

-- so it was before its last act
pub record WasCompared (S : System Guest) (p : ℕ) (answers : List Answer) (x : Stored) (trail : Trail) : Type 0 where
  pub is : trail.same ≡ true → (x.kernel.position < length answers) × IsKernelAt S.guests.count p x.kernel.position (at_position S.guests p x.kernel.position answers) x.words x.kernel
  pub only : trail.same ≡ false → x.kernel.position < length answers → IsKernelAt S.guests.count p x.kernel.position (at_position S.guests p x.kernel.position answers) x.words x.kernel → ⊥

-- the trail of a process that came so far, beside its store
pub record IsTrail (S : System Guest) (p : ℕ) (answers : List Answer) (x : Stored) (trail : Trail) : Type 0 where
  pub counted : IsCounted S p answers (save_in x) trail
  pub compared : IsCompared S p answers x trail

-- that of each process
abbrev pub AreTrails : System Guest → List Given → (ℕ → Stored) → List Trail → Type 0
AreTrails S acts stores trails = (p : ℕ) → p < S.guests.count → IfSome (slice_get trails p) (IsTrail S p (own p acts) (stores p))

-- played guests have come so far by these answers, and these are their trails
pub record HasWalked (images : List Image) (inputs : List (List (List ℕ))) (protocol : Protocol) (memories : List (Vec ℕ Global)) (saved : List Saved)
    (acts : List Given) (plain : Played) (trails : List Trail) : Type 0 where
  pub inputs_are : plain.inputs ≡ inputs
  pub is_run : IsRun (guests_of images inputs) acts
  pub procs_are : (q : ℕ) → (world_in plain).procs q ≡ state (guests_of images inputs) acts q
  pub trails_are : AreTrails (system images inputs protocol) acts (stored_in memories saved) trails

-- no act was played: these are the trails of the first so many processes
abbrev pub AreBegun : Played → List (Vec ℕ Global) → List Saved → ℕ → List Trail → Type 0
AreBegun plain memories saved most trails = (images : List Image) (inputs : List (List (List ℕ))) (protocol : Protocol) → length images ≡ length plain.processes
    → ((p : ℕ) → (world_in plain).procs p ≡ local (guests_of images inputs) p [])
    → (p : ℕ) → p < most → IfSome (slice_get trails p) (IsTrail (system images inputs protocol) p [] (stored_in memories saved p))

-- what was told so far is kept on with one answer more
abbrev pub IsKept : List Answer → ℕ → Answer → Trail → Trail → Type 0
IsKept answers position a old new = map told_of old.told.items ≡ take told_room (span (logged_at answers) position (length answers))
    → map told_of new.told.items ≡ take told_room (span (logged_at (a ∷ answers)) position (suc (length answers)))

-- what others saw of an act of a process that came so far by these answers
pub record IsSeenAs (G : Guests Guest) (p : ℕ) (answers : List Answer) (applied : Applied) : Type 0 where
  pub shows : applied.shows ≡ is_visible (G.next (local G p answers).machine)
  pub sends : applied.sends ≡ is_send (G.next (local G p answers).machine)
