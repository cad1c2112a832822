use Rattle.std.proofs.Common.{All, ◌≡◌, ◌≤◌, ◌+◌, length, vec_capacity}
use Rattle.dc_kernel.specs.Records.{IsRecord}
use Rattle.dc_redo.specs.Codes.{IsCollecting}
use Rattle.dc_redo.specs.Handles.{shape_of}
use Rattle.dc_redo.proofs.frame.Frame.collect.Given as goal

-- what was taken so far, and what it leaves
abbrev pub invariant-records : goal.invariant-records
invariant-records l = record {
  few : l.t.count ≤ l.t.at;
  low : l.t.logged ≤ 64;
  once : l.t.decided ≤ 1;
  room : l.t.at + length l.rest ≡ l.fn.self.half;
  some : 8 ≤ length l.rest;
  long : length l.words ≡ length l.fn.words;
  body_long : length l.body ≡ length l.fn.body;
  log_room : 64 ≤ vec_capacity l.log;
  records : All (IsRecord l.fn.self.n) l.log.items;
  taken : IsCollecting (shape_of l.fn.self) l.d l.half l.t l.rest l.body l.log.items;
}

abbrev pub decreases-records : goal.decreases-records
decreases-records l = length l.rest
