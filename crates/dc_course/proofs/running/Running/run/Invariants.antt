use Rattle.std.proofs.Common.{◌≡◌, ◌⊎◌, ◌*◌, ◌-◌, ◌^◌, ◌≤◌, ◌<◌, ◌+◌, ℕ, All, List, [], Option, None, Some, IfSome, true, length}
use Rattle.dc_audit.specs.Journals.{IsOfSixteen}
use Rattle.dc_course.specs.Journals.{AreCutAtStop, KeepsJournal, noted_of}
use Rattle.dc_media.specs.Causes.{Rose}
use Rattle.dc_recovery.specs.Unstopped.{Unstopped}
use Rattle.dc_course.proofs.Between.{Later}
use Rattle.dc_course.specs.Headline.{IsCountedOn, Setting}
use Rattle.dc_course.specs.Running.{HasCome, IsRest, IsSettingOf, RunsOn, moment_of}
use Rattle.dc_course.specs.Traces.{StoreMoments}
use Rattle.dc_media.specs.Told.{TellsOn}
use Rattle.dc_recovery.specs.Core.{Core}
use Rattle.dc_processes.specs.Stages.{KeepsTelling}
use Rattle.dc_world.specs.Worlds.{MayRun}
use Rattle.dc_course.proofs.running.Running.run.Given as goal

-- the entries so far have led the run on, each with its mark
abbrev pub invariant-loop-entry : goal.invariant-loop-entry
invariant-loop-entry g l = let O = g.O.Sink in let C = g.C.Checkpoint in record {
  ready : MayRun C l.self.world l.dev;
  protocol : l.self.world.processes.protocol ≡ l.fn.self.world.processes.protocol;
  long : length l.self.world.processes.slots.items ≡ length l.fn.self.world.processes.slots.items;
  from : l.self.from ≡ l.fn.self.from;
  marks : length l.self.marks.items ≡ l.entry-index;
  left : length l.schedule - l.entry-index ≤ l.self.world.processes.left;
  room : l.fn.self.marks.room ≤ l.self.marks.room;
  runs : RunsOn C l.schedule (moment_of l.fn.self l.fn.dev (O.held l.fn.out)) (moment_of l.self l.dev (O.held l.out));
  lasts : g.C.Planned.lasts l.fn.dev l.dev;
  stops : (setting : Setting) (p : ℕ) → IsSettingOf l.fn.self setting → setting.stops ≡ g.C.Planned.planned l.fn.dev → IsRest setting l.schedule → ((q : ℕ) → q < length setting.images → C.stops l.dev q < 2 ^ 64 - 1)
      → IsCountedOn setting p l.fn.self.marks.items l.self.marks.items (g.C.Planned.unplanned l.fn.dev) (g.C.Planned.unplanned l.dev);
  comes : (setting : Setting) (begun : Core) → IsSettingOf l.fn.self setting → setting.stops ≡ g.C.Planned.planned l.fn.dev → IsRest setting l.schedule
      → (before : _) (first : Option (List ℕ)) → HasCome C setting begun first (moment_of l.fn.self l.fn.dev (O.held l.fn.out)) (moment_of l.self l.dev (O.held l.out))
      → StoreMoments C g.C.Planned.calls setting begun before (moment_of l.fn.self l.fn.dev (O.held l.fn.out)) l.fn.dev → StoreMoments C g.C.Planned.calls setting begun before (moment_of l.self l.dev (O.held l.out)) l.dev;
  planned : (p : ℕ) → C.stops l.dev p + g.C.Planned.unplanned l.fn.dev p ≤ g.C.Planned.unplanned l.dev p + C.stops l.fn.dev p + l.entry-index;
  later : Later C l.fn.dev l.dev;
  tells : (p : ℕ) → KeepsTelling C l.fn.dev l.dev p;
  others : (q : ℕ) → length l.fn.self.world.processes.slots.items ≤ q → C.untouched l.fn.dev l.dev q;
  out_tells : TellsOn 0 (O.faults l.out) (O.held l.fn.out) (O.held l.out);
  out_later : O.faults l.fn.out ≤ O.faults l.out;
  kept : l.self.journal.kept ≡ l.fn.self.journal.kept;
  journal_room : l.fn.self.journal.lines.room ≤ l.self.journal.lines.room;
  journal_few : length l.self.journal.lines.items ≤ length l.fn.self.journal.lines.items + 2 * l.entry-index;
  sixteen : All IsOfSixteen l.fn.self.journal.lines.items → All IsOfSixteen l.self.journal.lines.items;
  whole : l.self.world.stopped ≡ None → (l.fn.self.world.stopped ≡ None) × Unstopped l.self.marks.items;
  stop : l.fn.self.journal.kept ≡ true → IfSome l.self.world.stopped (λ p. ((l.fn.self.world.stopped ≡ Some p) × (l.self.marks.items ≡ []))
      ⊎ ((l.fn.self.world.stopped ≡ None) × (p < length l.fn.self.world.processes.slots.items) × Rose (C.stops l.fn.dev p) (C.stops l.dev p) × AreCutAtStop l.self.marks.items));
  journal : l.fn.self.journal.kept ≡ true → KeepsJournal C l.schedule (noted_of l.fn.self l.fn.dev (O.held l.fn.out)) (noted_of l.self l.dev (O.held l.out));
  alone : g.C.Planned.planned l.fn.dev ≡ [] → (p : ℕ) → C.stops l.dev p + g.C.Planned.unplanned l.fn.dev p ≤ g.C.Planned.unplanned l.dev p + C.stops l.fn.dev p;
}
