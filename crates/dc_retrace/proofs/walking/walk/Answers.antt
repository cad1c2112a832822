use Rattle.std.proofs.Common.{◌≡◌, ◌∙◌, ◌∷◌, [], ◌-◌, ap, arith, drop, get_or, length, map, refl, rules, subst, sym, take}
use Rattle.std.proofs.lemmas.List.{length-map, take_at}
use Rattle.dc_guest.specs.Guest.{Guest}
use Rattle.dc_model.specs.FailureFree.{FailureFree}
use Rattle.dc_model.specs.declared.act.Act.TheVariants as act
use Rattle.dc_model.specs.declared.act.Taken.{Taken}
use Rattle.dc_elf.specs.Loaded.{seen_image}
use Rattle.dc_words.specs.Lists.{lists_of}
use Rattle.dc_retrace.specs.Trails.{HasWalked}
use Rattle.dc_retrace.proofs.Onward.{all_rest, count_there, few_left, reported_on, visible_there}
use Rattle.dc_retrace.proofs.Illegal.{no_run}
use Rattle.dc_retrace.proofs.Played.{front_and_rest}
use Rattle.dc_retrace.proofs.walking.walk.Goals as goal

pub loop-rest-init : goal.loop-rest-init
loop-rest-init c =
    let images = map seen_image c.args.images.now in
    let inputs = lists_of c.args.inputs.now in
    let long = length-map c.args.images.now seen_image in record {
      acts = [];
      walked = record {
        inputs_are = c.in-Ok.ensures.inputs;
        is_run = tt;
        procs_are = λ q. ap (λ (w : FailureFree Guest). w.procs q) c.in-Ok.ensures.world;
        trails_are = λ p less. c.in-Ok-first_trails.ensures.noted images inputs c.args.protocol (long ∙ sym c.in-Ok.ensures.count) (λ q. ap (λ (w : FailureFree Guest). w.procs q) c.in-Ok.ensures.world) p (omega (arith, less, long, c.in-Ok.ensures.count));
      };
      reports = refl;
      processes = c.in-Ok.ensures.count;
      count = c.in-Ok-first_trails.ensures.count ∙ c.in-Ok.ensures.count;
      below = c.requires.processes;
    }

pub step-requires-clause-visible : goal.step-requires-clause-visible
step-requires-clause-visible c =
    let left = few_left c.loop-rest.invariant.acts c.loop-rest.rest.now c.args.acts.now c.loop-rest.invariant.reports in
    visible_there (map seen_image c.args.images.now) (lists_of c.args.inputs.now) c.args.protocol c.args.memories.now c.args.saved.now c.loop-rest.invariant.acts c.loop-rest.plain c.loop-rest.trails.items c.loop-rest.invariant.walked
    (omega (arith, left, c.requires.few, c.in-len1-up.len_at_least)) _

pub step-requires-clause-few : goal.step-requires-clause-few
step-requires-clause-few c =
    let left = few_left c.loop-rest.invariant.acts c.loop-rest.rest.now c.args.acts.now c.loop-rest.invariant.reports in
    let x : Taken = get_or c.loop-rest.rest.now 0 (record { t = 0; p = 0; act = act.Plain }) in
    let inside = c.loop-rest.invariant.below 0 (record { t = 0; p = 0; act = act.Plain }) (omega (arith, c.in-len1-up.len_at_least)) in
    let images = map seen_image c.args.images.now in
    let inputs = lists_of c.args.inputs.now in
    count_there images inputs c.args.protocol c.args.memories.now c.args.saved.now c.loop-rest.invariant.acts c.loop-rest.plain c.deref_mut.result.now
    (subst (HasWalked images inputs c.args.protocol c.args.memories.now c.args.saved.now c.loop-rest.invariant.acts c.loop-rest.plain) (sym c.deref_mut.ensures.value) c.loop-rest.invariant.walked)
    (omega (arith, left, c.requires.few, c.in-len1-up.len_at_least)) x.p (omega (arith, inside, length-map c.args.images.now seen_image))

pub loop-rest-preserved : goal.loop-rest-preserved
loop-rest-preserved c =
    let images = map seen_image c.args.images.now in
    let inputs = lists_of c.args.inputs.now in
    let x : Taken = get_or c.loop-rest.rest.now 0 (record { t = 0; p = 0; act = act.Plain }) in
    let after = take (length c.loop-rest.rest.now - 1) (drop 1 c.loop-rest.rest.now) in
    let is : c.loop-rest.rest.now ≡ x ∷ after = front_and_rest c.loop-rest.rest.now (record { t = 0; p = 0; act = act.Plain }) c.in-len1-up.len_at_least in
    let long = length-map c.args.images.now seen_image in
    let done = c.in-Ok-step.ensures.goes images inputs c.loop-rest.invariant.acts (long ∙ sym c.loop-rest.invariant.processes)
    (subst (HasWalked images inputs c.args.protocol c.args.memories.now c.args.saved.now c.loop-rest.invariant.acts c.loop-rest.plain) (sym c.deref_mut.ensures.value) c.loop-rest.invariant.walked) in
    let counts = c.step.ensures.count in
    let value = ap length c.deref_mut.ensures.value in
    let back = take_at c.step.new.trails (drop (length c.step.new.trails) c.loop-rest.trails.items) c.loop-rest.trails.len (counts ∙ value ∙ sym c.loop-rest.trails.ok.0) in record {
      acts = record { t = x.t; p = x.p; answer = done.0 } ∷ c.loop-rest.invariant.acts;
      walked = subst (HasWalked images inputs c.args.protocol c.args.memories.now c.args.saved.now (record { t = x.t; p = x.p; answer = done.0 } ∷ c.loop-rest.invariant.acts) c.step.new.plain) (sym back) done.2;
      reports = reported_on c.loop-rest.invariant.acts c.loop-rest.rest.now after c.args.acts.now x done.0 is done.1 c.loop-rest.invariant.reports;
      processes = c.step.ensures.processes ∙ c.loop-rest.invariant.processes;
      count = ap length back ∙ counts ∙ value ∙ c.loop-rest.invariant.count;
      below = all_rest (length c.args.images.now) x after c.loop-rest.rest.now is c.loop-rest.invariant.below;
    }

pub returns-in-Err-clause-illegal : goal.returns-in-Err-clause-illegal
returns-in-Err-clause-illegal c = λ illegal.
    let images = map seen_image c.args.images.now in
    let inputs = lists_of c.args.inputs.now in
    let x : Taken = get_or c.loop-rest.rest.now 0 (record { t = 0; p = 0; act = act.Plain }) in
    let after = take (length c.loop-rest.rest.now - 1) (drop 1 c.loop-rest.rest.now) in
    let is : c.loop-rest.rest.now ≡ x ∷ after = front_and_rest c.loop-rest.rest.now (record { t = 0; p = 0; act = act.Plain }) c.in-len1-up.len_at_least in
    no_run images inputs c.args.protocol c.args.memories.now c.args.saved.now c.loop-rest.invariant.acts c.loop-rest.plain c.loop-rest.trails.items c.loop-rest.invariant.walked x after c.loop-rest.rest.now c.args.acts.now is c.loop-rest.invariant.reports
    (c.step.ensures.illegal (search rules) images)
