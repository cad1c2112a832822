use Rattle.std.proofs.Common.{◌≤◌, length}
use Rattle.dc_proc.specs.Ups.{IsFit}
use Rattle.dc_process_tests.proofs.proc.messages.after_receipts.Given as goal

-- the process may take its next turn, and its act has room
abbrev pub invariant-loop-t : goal.invariant-loop-t
invariant-loop-t g l = record {
  fit : IsFit g.C.Checkpoint l.up l.store l.dev;
  room : 1000 ≤ l.acts.room;
  few : length l.acts.items ≤ l.t;
}
