use Rattle.std.proofs.Common.{◌≡◌, ◌+◌, ◌≤◌, ◌<◌, ℕ, All, length, map}
use Rattle.dc_guest.specs.Guest.{Guest, guests_of}
use Rattle.dc_model.specs.FailureFree.{FailureFree}
use Rattle.dc_elf.specs.Loaded.{seen_image}
use Rattle.dc_words.specs.Lists.{lists_of}
use Rattle.dc_check.specs.Played.{Stands, played, played_from}
use Rattle.dc_check.proofs.playing.play.Given as goal

-- the guests stand at a world from which what is left decides
abbrev pub invariant-loop-rest : goal.invariant-loop-rest
invariant-loop-rest l = let G = guests_of (map seen_image l.fn.images) (lists_of l.fn.inputs) in record {
  world : FailureFree Guest;
  stands : Stands l.plain l.lines world;
  plays : played G l.fn.schedule l.fn.acts ≡ played_from G l.fn.schedule l.next l.position world l.rest;
  inputs : l.plain.inputs ≡ lists_of l.fn.inputs;
  processes : length l.plain.processes ≡ length l.fn.images;
  below : All (λ x. x.p < length l.fn.images) l.rest;
  shown : (p : ℕ) → (world.procs p).visible ≤ l.position;
  count : length world.visibles ≤ l.position;
  left : l.position + length l.rest ≡ length l.fn.acts;
}

abbrev pub decreases-loop-rest : goal.decreases-loop-rest
decreases-loop-rest l = length l.rest
