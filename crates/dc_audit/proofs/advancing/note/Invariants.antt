use Rattle.std.proofs.Common.{◌≡◌, ◌<◌, ◌≤◌, ℕ, [], slice_index_or, if◌then◌else◌}
use Rattle.dc_audit.specs.Journals.{is_of}
use Rattle.dc_audit.proofs.advancing.note.Given as goal

abbrev pub invariant-loop-p : goal.invariant-loop-p
invariant-loop-p l = record {
  changed : (p : ℕ) → p < l.p → slice_index_or l.clocks p [] ≡ (if is_of p l.line then l.clock else slice_index_or l.initial.clocks p []);
  same : (p : ℕ) → l.p ≤ p → slice_index_or l.clocks p [] ≡ slice_index_or l.initial.clocks p [];
}
