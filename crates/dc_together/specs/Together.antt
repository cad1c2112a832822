-- Where all processes commit, fall and recover together: what the parts of a turn make of a core.
use Rattle.std.specs.Prelude.{◌≡◌, ◌<◌, ◌&&◌, ℕ, List, Option, Some, true, false, Bool}
use Rattle.dc_checkpoint.specs.declared.checkpoint.Checkpoint as checkpoint
use Rattle.dc_elf.specs.Images.{Image}
use Rattle.dc_guest.specs.Guest.{Guest}
use Rattle.dc_model.specs.Guests.{Answer}
use Rattle.dc_model.specs.Process.{comes}
use Rattle.dc_model.specs.Runs.{IsRun, own}
use Rattle.dc_model.specs.declared.mark.Mark.{Mark}
use Rattle.dc_model.specs.declared.visible.Visible.{Visible}
use Rattle.dc_proc.specs.Processes.{IsGoing}
use Rattle.dc_proc.specs.Turns.{IsShown}
use Rattle.dc_protocols.specs.Rules.{is_joint}
use Rattle.dc_recovery.specs.Alone.{IsAnswerAlone}
use Rattle.dc_protocols.specs.declared.protocol.Rule.{Rule}
use Rattle.dc_recovery.specs.Answers.{replays, rule_at, stores_at}
use Rattle.dc_recovery.specs.Core.{Core, stands, untied}
use Rattle.dc_recovery.specs.Parts.{at_one, committed, fallen, may_store, event_later, sets_unlogged, torn}
use Rattle.dc_recovery.specs.Systems.{System}
use Rattle.dc_recovery.specs.Turned.{with_act}
use Rattle.dc_processes.specs.Slots.{slot_at}
use Rattle.dc_processes.specs.Stages.{IsTold, IsWorld, Stage, store_of, system_at}
use Rattle.dc_processes.specs.Taking.{ShowsNext}

-- after a commit of all
abbrev pub all_committed : Core → Core
all_committed c = record { acts = c.acts; lines = c.lines; procs = λ q. committed (c.procs q); ties = untied }

-- where there is one
abbrev pub commit_core : Bool → Core → Core
commit_core true c = all_committed c
commit_core false c = c

-- stopped in one
abbrev pub all_torn : Core → Core
all_torn c = record { acts = c.acts; lines = c.lines; procs = λ q. torn (c.procs q); ties = untied }

-- whether p's event with this answer reads a record of its log
abbrev pub reads_log : System Guest → Core → ℕ → Answer → Bool
reads_log S c p a = replays (comes S.guests (stands S.guests c p) a) (c.procs p)

-- after p's event of entry t with this answer, before what it shows is shown: nothing is committed and nothing is logged
abbrev pub after_event : System Guest → ℕ → Core → ℕ → Answer → Core
after_event S t c p a = record { acts = with_act t c p a; lines = c.lines; procs = at_one p (event_later (reads_log S c p a) (sets_unlogged false (reads_log S c p a) a)) c.procs; ties = untied }

-- stopped in it
abbrev pub after_broken_event : ℕ → Core → ℕ → Answer → Core
after_broken_event t c p a = record { acts = with_act t c p a; lines = c.lines; procs = λ q. fallen (c.procs q); ties = untied }

-- the acts are a run, and each process is up, at a position from its only save on
pub record AllGo (S : System Guest) (c : Core) : Type 0 where
  pub run : IsRun S.guests c.acts
  pub going : (q : ℕ) → IsGoing (own q c.acts) (c.procs q)

-- wherever a run has come to, each process up: the world stands for what this makes of the core
abbrev pub Makes : {C D : Type 0} → checkpoint.Ghosts C D → (Core → Core) → Stage C D → Stage C D → Type 0
Makes g change old new = (images : List Image) (c : Core) → is_joint old.protocol ≡ true → IsTold g old → AllGo (system_at images old) c
    → IsWorld g (system_at images old) c old → IsWorld g (system_at images old) (change c) new

-- and where p may be given this answer, for what its event makes of it
abbrev pub Happens : {C D : Type 0} → checkpoint.Ghosts C D → ℕ → Answer → (System Guest → Core → Core) → Stage C D → Stage C D → Type 0
Happens g p a change old new = (images : List Image) (c : Core) → is_joint old.protocol ≡ true → IsTold g old → AllGo (system_at images old) c
    → p < (system_at images old).guests.count → IsAnswerAlone (system_at images old).guests p (own p c.acts) (c.procs p) a
    → IsWorld g (system_at images old) c old → IsWorld g (system_at images old) (change (system_at images old) c) new

-- or it is stopped in that, which its event allows
abbrev pub Breaks : {C D : Type 0} → checkpoint.Ghosts C D → ℕ → Answer → Stage C D → Stage C D → Type 0
Breaks g p a old new = (images : List Image) (c : Core) → is_joint old.protocol ≡ true → IsTold g old → AllGo (system_at images old) c
    → p < (system_at images old).guests.count → IsAnswerAlone (system_at images old).guests p (own p c.acts) (c.procs p) a
    → IsWorld g (system_at images old) c old
    → ((stores_at (system_at images old).guests c p a && may_store (comes (system_at images old).guests (stands (system_at images old).guests c p) a) a) ≡ true) × IsWorld g (system_at images old) (after_broken_event old.entries c p a) new

-- what the protocol asks of all at p's next event with this answer: that of the theory, wherever a run has come to
abbrev pub IsAskedAt : {C D : Type 0} → checkpoint.Ghosts C D → ℕ → Answer → Stage C D → Rule → Type 0
IsAskedAt g p a x rule = (images : List Image) (c : Core) → is_joint x.protocol ≡ true → IsTold g x → AllGo (system_at images x) c
    → p < (system_at images x).guests.count → IsWorld g (system_at images x) c x → rule ≡ rule_at (system_at images x) c p a

-- the mark of a turn that process p took, and what all see of it: where the devices are told, that is what its next event shows
abbrev pub ShowsTold : {C D : Type 0} → checkpoint.Ghosts C D → Stage C D → ℕ → Mark → Option Visible → Type 0
ShowsTold g old p mark shown = IsShown p mark shown (λ done. IsTold g old → (c : _) → store_of old p ≡ Some c → ShowsNext g c old.dev (slot_at old.slots p) done)
