use Rattle.std.proofs.Common.{◌≡◌, ◌∙◌, ◌+◌, ℕ, true, Result, ◌∷◌, List, Some, arith, ap, sym, refl, subst, length, map, get_or, take, drop, ◌-◌, rules}
use Rattle.std.proofs.lemmas.List.{length-map}
use Rattle.dc_guest.specs.Guest.{Guest, guests_of}
use Rattle.dc_model.specs.Guests.{Guests}
use Rattle.dc_model.specs.FailureFree.{FailureFree, apply, opened}
use Rattle.dc_model.specs.declared.act.Act.TheVariants as act
use Rattle.dc_model.specs.declared.act.Taken.{Taken}
use Rattle.dc_elf.specs.Loaded.{seen_image}
use Rattle.dc_words.specs.Lists.{lists_of}
use Rattle.dc_check.proofs.Applied.{all_rest, at_most_one, front_and_rest, is_drawn, played_on}
use Rattle.dc_check.specs.Played.{played, played_from}
use Rattle.dc_check.proofs.playing.play.Goals as goal

pub loop-rest-init : goal.loop-rest-init
loop-rest-init c = record {
  world = opened (guests_of (map seen_image c.args.images.now) (lists_of c.args.inputs.now));
  stands = record { world = c.in-Ok.ensures.world; text = c.new.ensures.items; count = refl };
  plays = refl;
  inputs = c.in-Ok.ensures.inputs;
  processes = c.in-Ok.ensures.count;
  below = c.requires.processes;
  shown = λ p. omega arith;
  count = omega arith;
  left = omega arith;
}

pub loop-rest-preserved : goal.loop-rest-preserved
loop-rest-preserved c =
    let G : Guests Guest = guests_of (map seen_image c.args.images.now) (lists_of c.args.inputs.now) in
    let told : Result (FailureFree Guest) ℕ = played G c.args.schedule.now c.args.acts.now in
    let w : FailureFree Guest = c.loop-rest.invariant.world in
    let x : Taken = get_or c.loop-rest.rest.now 0 (record { t = 0; p = 0; act = act.Plain }) in
    let after : List Taken = take (length c.loop-rest.rest.now - 1) (drop 1 c.loop-rest.rest.now) in
    let is : c.loop-rest.rest.now ≡ x ∷ after = front_and_rest c.loop-rest.rest.now (record { t = 0; p = 0; act = act.Plain }) c.in-len1-up.len_at_least in
    let done = c.in-Ok-take.ensures.applied (map seen_image c.args.images.now) w c.loop-rest.invariant.stands in
    let v : FailureFree Guest = done.0 in
    let there : apply G w x.p x.act ≡ Some v = subst (λ i. apply (guests_of (map seen_image c.args.images.now) i) w x.p x.act ≡ Some v) c.loop-rest.invariant.inputs done.1 in
    let more = at_most_one G w x.p x.act v there in record {
      world = v;
      stands = done.2;
      plays = let drawn : is_drawn G.count c.args.schedule.now c.loop-rest.next x ≡ true =
          ap (λ n. is_drawn n c.args.schedule.now c.loop-rest.next x) (length-map c.args.images.now seen_image) ∙ sym c.is_drawn.ensures ∙ (let yes : c.is_drawn.result ≡ true = search rules in yes) in
          let on : told ≡ played_from G c.args.schedule.now (x.t + 1) (c.loop-rest.position + 1) v after = played_on G c.args.schedule.now c.loop-rest.next c.loop-rest.position w x after c.loop-rest.rest.now told is c.loop-rest.invariant.plays v drawn there in
          subst (λ n. told ≡ played_from G c.args.schedule.now (n + 1) (c.loop-rest.position + 1) v after) (sym c.from-next.ensures) on;
      inputs = search rules;
      processes = search rules;
      below = all_rest (length c.args.images.now) x after c.loop-rest.rest.now is c.loop-rest.invariant.below;
      shown = λ p. let each = more.each p in omega (arith, each, c.loop-rest.invariant.shown p);
      count = omega (arith, more.records, c.loop-rest.invariant.count);
      left = omega (arith, c.loop-rest.invariant.left, ap length is);
    }
