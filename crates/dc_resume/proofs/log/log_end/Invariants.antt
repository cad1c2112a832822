use Rattle.std.proofs.Common.{◌≡◌, length, map, max}
use Rattle.dc_proc.specs.Processes.{logged_of}
use Rattle.dc_recovery.specs.Saves.{log_end}
use Rattle.dc_resume.proofs.log.log_end.Given as goal

abbrev pub invariant-loop-records : goal.invariant-loop-records
invariant-loop-records l = record {
  so_far : max l.end (log_end (map logged_of l.records)) ≡ log_end (map logged_of l.log);
}

abbrev pub decreases-loop-records : goal.decreases-loop-records
decreases-loop-records l = length l.records
