use Rattle.std.proofs.Common.{◌≡◌, ◌+◌}
use Rattle.dc_media.specs.Calls.{Touches}
use Rattle.dc_media.specs.Causes.{counted_by}
use Rattle.dc_media.specs.Devices.{of_words}
use Rattle.dc_media.specs.Stores.{set_words}
use Rattle.dc_media.specs.Told.{Becomes}
use Rattle.dc_armed.specs.Armed.{all_stops, armed}
use Rattle.dc_armed.specs.Stops.{calls_to}
use Rattle.dc_armed.proofs.Coming.{IsSoFar}
use Rattle.dc_armed.proofs.armed.Armed.store_each.Given as goal

-- so many words are set, each by one store, and none was refused
abbrev pub invariant-loop-word : goal.invariant-loop-word
invariant-loop-word g l = let K = g.K.Keeps in let old = l.fn.self in let now = l.self in record {
  index : l.at ≡ l.i + l.word-index;
  extent : K.extent now.device l.p ≡ K.extent old.device l.p;
  words : Becomes (K.told old.device l.p) (K.told now.device l.p) (λ before after. after ≡ set_words l.word-index l.i l.words before);
  stops : all_stops K.stops now l.p ≡ all_stops K.stops old l.p;
  faults : K.faults now.device l.p ≡ K.faults old.device l.p;
  calls : calls_to now.plan l.p ≡ counted_by l.word-index (calls_to old.plan l.p);
  touches : Touches (armed (of_words K)) l.p old now;
  within : Touches (of_words K) l.p old.device now.device;
  so_far : IsSoFar (of_words K) l.p l.word-index old now;
}
