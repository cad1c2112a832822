use Rattle.std.proofs.Common.{◌≡◌, ◌<◌, ◌++◌, All, List, length, map}
use Rattle.dc_model.specs.Runs.{Given}
use Rattle.dc_model.specs.FailureFree.{reported}
use Rattle.dc_elf.specs.Loaded.{seen_image}
use Rattle.dc_words.specs.Lists.{lists_of}
use Rattle.dc_retrace.specs.Trails.{HasWalked}
use Rattle.dc_retrace.proofs.walking.walk.Given as goal

-- what was walked over and what is left are the acts
abbrev pub invariant-loop-rest : goal.invariant-loop-rest
invariant-loop-rest l = record {
  acts : List Given;
  walked : HasWalked (map seen_image l.fn.images) (lists_of l.fn.inputs) l.fn.protocol l.fn.memories l.fn.saved acts l.plain l.trails.items;
  reports : reported acts ++ l.rest ≡ l.fn.acts;
  processes : length l.plain.processes ≡ length l.fn.images;
  count : length l.trails.items ≡ length l.fn.images;
  below : All (λ x. x.p < length l.fn.images) l.rest;
}

abbrev pub decreases-loop-rest : goal.decreases-loop-rest
decreases-loop-rest l = length l.rest
