use Rattle.std.proofs.Common.{◌≡◌, ◌⊎◌, ◌∙◌, ◌++◌, ◌+◌, ◌*◌, ◌%◌, ◌<◌, ◌≤◌, ap, arith, rules, length, length-append}
use Rattle.std.proofs.lemmas.Result.{err_from_is_err_and}
use Rattle.dc_rv32.proofs.Copying.{part_told}
use Rattle.dc_rv32.proofs.Following.{break_here, break_more, follow_more, piece_whole}
use Rattle.dc_rv32.proofs.bytes.write_bytes.Goals as goal

pub loop-rest-preserved : goal.loop-rest-preserved
loop-rest-preserved g c = record {
  whole = part_told (g.B.Bus.told c.args.bus.now) (g.B.Bus.told c.loop-rest.bus) (g.B.Bus.told c.put_bytes.new.bus) (g.B.Bus.count c.loop-rest.bus) c.args.bytes.now c.loop-rest.rest.now c.split_at.result.0.now c.split_at.result.1.now
      c.args.at c.loop-rest.at c.min-count.result c.loop-rest.invariant.whole parts long within (g.met.B.Bus.told_long c.loop-rest.bus c.loop-rest.invariant.live) c.in_ok-put_bytes.ensures.written;
  end = search (rules, c.loop-rest.invariant.end);
  count = c.in_ok-put_bytes.ensures.count ∙ c.loop-rest.invariant.count;
  live = c.in_ok-put_bytes.ensures.live;
  made = λ new behind. c.loop-rest.invariant.made new (follow_more g.B.Bus.made g.B.Bus.refused c.loop-rest.at c.min-count.result (length c.split_at.result.1.now) (length c.loop-rest.rest.now) sizes some fits whole c.loop-rest.bus c.put_bytes.new.bus new c.in_ok-put_bytes.ensures.made behind);
  refused = λ new why behind. c.loop-rest.invariant.refused new why (break_more g.B.Bus.made g.B.Bus.refused c.loop-rest.at c.min-count.result (length c.split_at.result.1.now) (length c.loop-rest.rest.now) sizes some fits whole c.loop-rest.bus c.put_bytes.new.bus new why c.in_ok-put_bytes.ensures.made behind);
}
  where
    parts : c.loop-rest.rest.now ≡ c.split_at.result.0.now ++ c.split_at.result.1.now
    parts = search rules

    long : length c.split_at.result.0.now ≡ c.min-count.result
    long = search rules

    sizes : c.min-count.result + length c.split_at.result.1.now ≡ length c.loop-rest.rest.now
    sizes = omega (arith, long, ap length parts, length-append c.split_at.result.0.now c.split_at.result.1.now)

    some : 0 < c.min-count.result
    some = search rules

    fits : c.loop-rest.at % 4 + c.min-count.result ≤ 4
    fits = search rules

    whole : (length c.split_at.result.1.now ≡ 0) ⊎ (c.loop-rest.at % 4 + c.min-count.result ≡ 4)
    whole = piece_whole (length c.loop-rest.rest.now) c.loop-rest.at c.min-count.result (length c.split_at.result.1.now) (search rules) sizes

    within : c.loop-rest.at + length c.split_at.result.0.now ≤ 4 * g.B.Bus.count c.loop-rest.bus
    within = omega (
      arith,
      c.loop-rest.invariant.count,
      c.loop-rest.invariant.end,
      c.requires.within,
      ap length parts,
      length-append c.split_at.result.0.now c.split_at.result.1.now,
    )

pub returns-in_err-put_bytes-clause-refused : goal.returns-in_err-put_bytes-clause-refused
returns-in_err-put_bytes-clause-refused g c = let why = err_from_is_err_and c.from_residual.result c.from_residual.ensures.1 in
    rw (why.1, why.2) (c.loop-rest.invariant.refused c.put_bytes.new.bus c.in_err-put_bytes.field-0.0 (break_here g.B.Bus.made g.B.Bus.refused c.loop-rest.at c.min-count.result (length c.split_at.result.1.now) (length c.loop-rest.rest.now) sizes some fits whole c.loop-rest.bus c.put_bytes.new.bus c.in_err-put_bytes.field-0.0 c.in_err-put_bytes.ensures.refused))
  where
    parts : c.loop-rest.rest.now ≡ c.split_at.result.0.now ++ c.split_at.result.1.now
    parts = search rules

    long : length c.split_at.result.0.now ≡ c.min-count.result
    long = search rules

    sizes : c.min-count.result + length c.split_at.result.1.now ≡ length c.loop-rest.rest.now
    sizes = omega (arith, long, ap length parts, length-append c.split_at.result.0.now c.split_at.result.1.now)

    some : 0 < c.min-count.result
    some = search rules

    fits : c.loop-rest.at % 4 + c.min-count.result ≤ 4
    fits = search rules

    whole : (length c.split_at.result.1.now ≡ 0) ⊎ (c.loop-rest.at % 4 + c.min-count.result ≡ 4)
    whole = piece_whole (length c.loop-rest.rest.now) c.loop-rest.at c.min-count.result (length c.split_at.result.1.now) (search rules) sizes
