use Rattle.std.proofs.Common.{◌≤◌, ◌+◌, length}
use Rattle.dc_proc.specs.Ups.{IsFit}
use Rattle.dc_process_tests.proofs.proc.messages.send.Given as goal

-- the process may take its next turn, and its act has room
abbrev pub invariant-loop-t : goal.invariant-loop-t
invariant-loop-t g l = record {
  fit : IsFit g.C.Checkpoint l.up l.store l.dev;
  room : l.fn.acts.room ≤ l.acts.room;
  few : length l.acts.items ≤ length l.fn.acts.items + l.t;
}
