-- What the next turn of a process leaves in the journal of its run.
use Rattle.std.specs.Prelude.{◌≡◌, ◌++◌, List, true}
use Rattle.dc_audit.specs.declared.journal.Line.{Line}
use Rattle.dc_checkpoint.specs.declared.checkpoint.Checkpoint as checkpoint
use Rattle.dc_elf.specs.Images.{Image}
use Rattle.dc_model.specs.declared.entry.Entry.{Entry}
use Rattle.dc_model.specs.declared.entry.Entry.TheVariants as entry
use Rattle.dc_model.specs.declared.entry.Turn.{Turn}
use Rattle.dc_processes.specs.Stages.{IsTold, Stage, system_at}
use Rattle.dc_processes.specs.Turns.{IfCome}
use Rattle.dc_recovery.specs.Core.{Core}
use Rattle.dc_savework.specs.Journal.{entry_lines}

-- wherever a run had come to, whatever its guests, where its devices tell what they hold and the process is up: its turn leaves these lines behind those
abbrev pub Leaves : {C D : Type 0} → checkpoint.Ghosts C D → Stage C D → Turn → List Line → List Line → Type 0
Leaves g x turn before after = (images : List Image) (schedule : List Entry) (c : Core) → IsTold g x
    → IfCome g images schedule c x ((c.procs turn.p).up ≡ true → after ≡ before ++ entry_lines (system_at images x) x.entries c (entry.Turn turn))
