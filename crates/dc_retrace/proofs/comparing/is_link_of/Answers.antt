use Rattle.std.proofs.Common.{◌-◌, drop, length, rules, take}
use Rattle.dc_links.specs.Links.{link_to}
use Rattle.dc_retrace.proofs.Played.{front_item, left_next}
use Rattle.dc_retrace.proofs.comparing.is_link_of.Goals as goal

pub loop-rest-preserved : goal.loop-rest-preserved
loop-rest-preserved c = record {
  left = left_next c.args.sent.now (link_to c.args.links.now c.args.q) c.loop-rest.index c.message-item.result (take (length c.loop-rest.rest.now - 1) (drop 1 c.loop-rest.rest.now)) c.loop-rest.rest.now
      (front_item c.loop-rest.rest.now c.message-item.result c.in-len1-up.len_at_least c.message-item.is) c.loop-rest.invariant.left (c.is_kept.ensures.is (search rules));
  few = c.loop-rest.invariant.few;
}
