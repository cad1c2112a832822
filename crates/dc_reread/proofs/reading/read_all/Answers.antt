use Rattle.std.proofs.Common.{◌≡◌, ◌∙◌, IfSome, None, Option, Some, map, refl, rules, subst, sym, ap, Ok}
use Rattle.std.proofs.lemmas.List.{length-map}
use Rattle.dc_elf.specs.Loaded.{seen_image}
use Rattle.dc_reread.proofs.Found.{are_read}
use Rattle.dc_reread.proofs.Handed.{read_each, ready_each}
use Rattle.dc_reread.proofs.Owned.{of_apart, of_same}
use Rattle.dc_reread.specs.Pasts.{system_in}
use Rattle.dc_reread.specs.Reread.{IsFoundUnsuited}
use Rattle.dc_retrace.specs.Read.{AreReadOf, stored_in}
use Rattle.dc_retrace.specs.Trails.{AreTrails}
use Rattle.dc_twophase.specs.Stores.{on}
use Rattle.dc_words.specs.Lists.{lists_of}
use Rattle.dc_reread.proofs.reading.read_all.Goals as goal

-- what is said of a value that may be there, where it is
some_holds : {A : Type 0} (P : A → Type 0) (o : Option A) (x : A) → o ≡ Some x → IfSome o P → P x
some_holds P o x is holds = subst (λ y. IfSome y P) is holds

none_is : {A : Type 0} (o : Option A) → ((x : A) → o ≡ Some x → ⊥) → o ≡ None
none_is None never = refl
none_is (Some x) never = absurd (never x refl)

pub recover_steady-requires-clause-apart : goal.recover_steady-requires-clause-apart
recover_steady-requires-clause-apart g c = of_apart g.C.Checkpoint c.args.past.now.images.now c.args.stores.now c.requires.of

pub returns-in_err-recovered-clause-refused : goal.returns-in_err-recovered-clause-refused
returns-in_err-recovered-clause-refused g c z now number has i fault is = c.in_err-recovered.ensures.refused z now number has i fault (search rules)

pub returns-in_default-clause-unsteady : goal.returns-in_default-clause-unsteady
returns-in_default-clause-unsteady g c is = c.in_ok-recovered.ensures.unsteady (ap Ok (none_is c.in_ok-recovered.recovered c.in_default.not-Some))

pub retrace-requires-clause-of : goal.retrace-requires-clause-of
retrace-requires-clause-of g c = of_same g.C.Checkpoint c.args.past.now.images.now c.args.stores.now c.requires.of c.recover_steady.new.stores c.recover_steady.auto.stores c.recover_steady.ensures.same

pub retrace-requires-clause-ready : goal.retrace-requires-clause-ready
retrace-requires-clause-ready g c =
    let images = c.args.past.now.images.now in
    let of = of_same g.C.Checkpoint images c.args.stores.now c.requires.of c.recover_steady.new.stores c.recover_steady.auto.stores c.recover_steady.ensures.same in
    ready_each g.C.Checkpoint images c.recover_steady.new.stores c.recover_steady.new.dev c.in-Some.decided c.recover_steady.new.saved of (c.recover_steady.auto.saved ∙ c.requires.saved) (some_holds _ c.in_ok-recovered.recovered c.in-Some.decided c.in-Some.is c.in_ok-recovered.ensures.recovered).each

pub retrace-requires-clause-read : goal.retrace-requires-clause-read
retrace-requires-clause-read g c =
    let images = c.args.past.now.images.now in
    let of = of_same g.C.Checkpoint images c.args.stores.now c.requires.of c.recover_steady.new.stores c.recover_steady.auto.stores c.recover_steady.ensures.same in
    read_each g.C.Checkpoint images c.recover_steady.new.stores c.recover_steady.new.dev c.in-Some.decided c.recover_steady.new.saved of (c.recover_steady.auto.saved ∙ c.requires.saved) (some_holds _ c.in_ok-recovered.recovered c.in-Some.decided c.in-Some.is c.in_ok-recovered.ensures.recovered).each

pub first_unsuited-requires-clause-read : goal.first_unsuited-requires-clause-read
first_unsuited-requires-clause-read g c =
    let images = c.args.past.now.images.now in
    let of = of_same g.C.Checkpoint images c.args.stores.now c.requires.of c.recover_steady.new.stores c.recover_steady.auto.stores c.recover_steady.ensures.same in
    let long = c.recover_steady.auto.saved ∙ c.requires.saved in
    subst (λ n. AreReadOf n c.recover_steady.new.saved) (sym long)
    (read_each g.C.Checkpoint images c.recover_steady.new.stores c.recover_steady.new.dev c.in-Some.decided c.recover_steady.new.saved of long (some_holds _ c.in_ok-recovered.recovered c.in-Some.decided c.in-Some.is c.in_ok-recovered.ensures.recovered).each)

pub returns-in-Some-first_unsuited-clause-unsuited : goal.returns-in-Some-first_unsuited-clause-unsuited
returns-in-Some-first_unsuited-clause-unsuited g c = λ p e.
    let same : c.in-Some-first_unsuited.p ≡ p = cc in
    let past = c.args.past.now in
    let images = past.images.now in
    let stores = c.recover_steady.new.stores in
    let dev = c.recover_steady.new.dev in
    let saved = c.recover_steady.new.saved in
    let d = c.in-Some.decided in
    let of = of_same g.C.Checkpoint images c.args.stores.now c.requires.of stores c.recover_steady.auto.stores c.recover_steady.ensures.same in
    let long = c.recover_steady.auto.saved ∙ c.requires.saved in
    let walked = c.in_ok-trails.ensures.retraced in
    let trails = subst (AreTrails (system_in past) walked.0 (stored_in walked.1 saved)) (sym c.deref.ensures.value) walked.2.trails_are in (
      d,
      (some_holds _ c.in_ok-recovered.recovered c.in-Some.decided c.in-Some.is c.in_ok-recovered.ensures.recovered),
      subst (IsFoundUnsuited g.C.Checkpoint past d (on stores dev) saved) same (record {
        given = walked.0;
        memories = walked.1;
        trails = c.in_ok-trails.trails.items;
        retraced = walked.2;
        read = are_read g.C.Checkpoint past stores dev d saved of long (some_holds _ c.in_ok-recovered.recovered c.in-Some.decided c.in-Some.is c.in_ok-recovered.ensures.recovered).each walked.1 walked.3;
        first = c.in-Some-first_unsuited.ensures.first c.in-Some-first_unsuited.p refl (map seen_image images) (lists_of past.inputs.now) walked.0 walked.1 (length-map images seen_image ∙ sym long) trails;
      }),
    )

pub returns-in-None-clause-reread : goal.returns-in-None-clause-reread
returns-in-None-clause-reread g c =
    let past = c.args.past.now in
    let images = past.images.now in
    let stores = c.recover_steady.new.stores in
    let dev = c.recover_steady.new.dev in
    let saved = c.recover_steady.new.saved in
    let of = of_same g.C.Checkpoint images c.args.stores.now c.requires.of stores c.recover_steady.auto.stores c.recover_steady.ensures.same in
    let long = c.recover_steady.auto.saved ∙ c.requires.saved in
    let walked = c.in_ok-trails.ensures.retraced in
    let trails = subst (AreTrails (system_in past) walked.0 (stored_in walked.1 saved)) (sym c.deref.ensures.value) walked.2.trails_are in record {
      given = walked.0;
      memories = walked.1;
      retraced = walked.2;
      read = are_read g.C.Checkpoint past stores dev c.in-Some.decided saved of long (some_holds _ c.in_ok-recovered.recovered c.in-Some.decided c.in-Some.is c.in_ok-recovered.ensures.recovered).each walked.1 walked.3;
      suited = c.in-None.ensures.none refl (map seen_image images) (lists_of past.inputs.now) walked.0 walked.1 (length-map images seen_image ∙ sym long) trails;
    }
