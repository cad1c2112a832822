use Rattle.std.proofs.Common.{◌≤◌, length}
use Rattle.dc_links.specs.Links.{link_to}
use Rattle.dc_retrace.proofs.Played.{Left}
use Rattle.dc_retrace.proofs.comparing.is_link_of.Given as goal

-- what is left decides
abbrev pub invariant-loop-rest : goal.invariant-loop-rest
invariant-loop-rest l = record {
  left : Left l.sent (link_to l.links l.q) l.index l.rest;
  few : length (link_to l.links l.q).kept ≤ 8;
}

abbrev pub decreases-loop-rest : goal.decreases-loop-rest
decreases-loop-rest l = length l.rest
