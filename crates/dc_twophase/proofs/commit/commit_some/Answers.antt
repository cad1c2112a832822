use Rattle.std.proofs.Common.{◌/◌, arith, length, ◌∙◌, ap, inl, inr, ⊎_elim}
use Rattle.std.proofs.lemmas.Result.{on_ok_weaker, err_from_is_err_and}
use Rattle.dc_twophase.specs.Commits.{IsAside, IsBeside, IsOther, IsSameMemory}
use Rattle.dc_twophase.specs.Stores.{AreApart, AreCalls, on, text_at}
use Rattle.dc_twophase.proofs.Calling.{apart_then, call_each, call_one, calls_then}
use Rattle.dc_twophase.proofs.Committing.{AreDeciding, AreFinishing, ArePreparing, after_deciding, after_finishing, after_preparing, all_decided, all_new, aside_then, either, idle_aside, memory_prepared, same_decided, same_prepared}
use Rattle.dc_twophase.proofs.Counting.{calm_then, joint_then}
use Rattle.dc_twophase.proofs.Finishing.{beside_still}
use Rattle.dc_twophase.proofs.Laws.{Laws}
use Rattle.dc_twophase.proofs.Pairs.{before_it, each_then, pair_then}
use Rattle.dc_twophase.proofs.Preparing.{becomes_then, idle_still, memory_still}
use Rattle.dc_twophase.proofs.commit.commit_some.Given.{Over}
use Rattle.dc_twophase.proofs.commit.commit_some.Goals as goal

laws : (g : Over) → Laws g.C.Checkpoint
laws g = let said = g.met.C.Checkpoint in record {
  untouched_self = said.untouched_self;
  untouched_on = said.untouched_on;
  untouched_back = said.untouched_back;
  lent_still = said.lent_still;
  ready_still = said.ready_still;
  prepared_still = said.prepared_still;
  decidable_still = said.decidable_still;
  steady_still = said.steady_still;
  leaves_still = said.leaves_still;
  numbers_still = said.numbers_still;
  contents_still = said.contents_still;
  continues_self = said.continues_self;
  continues_on = said.continues_on;
}

-- after the calls that prepare, one of them refused
first_stopped : (g : Over) (c : goal.After-from_residual g) → ArePreparing g.C.Checkpoint c.args.members.now c.args.g (on c.args.stores.now c.args.dev.now) (on c.prepare_some.new.stores c.prepare_some.new.dev)
first_stopped g c = record { all = record { long = c.prepare_some.auto.stores; undecided = c.prepare_some.ensures.undecided }; idle = c.prepare_some.ensures.idle }

pub returns-in_err-prepare_some-clause-same : goal.returns-in_err-prepare_some-clause-same
returns-in_err-prepare_some-clause-same g c = (after_preparing (laws g) {text = text_at (length c.args.words.now / length c.args.stores.now) c.args.words.now} (first_stopped g c)).same

pub returns-in_err-prepare_some-clause-between : goal.returns-in_err-prepare_some-clause-between
returns-in_err-prepare_some-clause-between g c = (after_preparing (laws g) {text = text_at (length c.args.words.now / length c.args.stores.now) c.args.words.now} (first_stopped g c)).between

pub returns-in_err-prepare_some-clause-steady : goal.returns-in_err-prepare_some-clause-steady
returns-in_err-prepare_some-clause-steady g c = (after_preparing (laws g) {text = text_at (length c.args.words.now / length c.args.stores.now) c.args.words.now} (first_stopped g c)).steady

pub returns-in_err-prepare_some-clause-lent : goal.returns-in_err-prepare_some-clause-lent
returns-in_err-prepare_some-clause-lent g c i z now =
    let b = before_it c.args.stores.now c.prepare_some.new.stores i z c.prepare_some.auto.stores now in
    (c.prepare_some.ensures.undecided i b.0 z b.1 now).lent (c.requires.lent i b.0 b.1)

-- what the first store has for the call that decides
pub decide_first-requires-clause-first : goal.decide_first-requires-clause-first
decide_first-requires-clause-first g c z now =
    let b = before_it c.args.stores.now c.prepare_some.new.stores 0 z c.prepare_some.auto.stores now in
    ap (λ form. form.p) (c.prepare_some.ensures.undecided 0 b.0 z b.1 now).same.form_same ∙ (c.requires.forms 0 b.0 b.1).0

pub decide_first-requires-clause-lent : goal.decide_first-requires-clause-lent
decide_first-requires-clause-lent g c z now =
    let b = before_it c.args.stores.now c.prepare_some.new.stores 0 z c.prepare_some.auto.stores now in
    (c.prepare_some.ensures.undecided 0 b.0 z b.1 now).lent (c.requires.lent 0 b.0 b.1)

pub decide_first-requires-clause-awake : goal.decide_first-requires-clause-awake
decide_first-requires-clause-awake g c z now =
    let b = before_it c.args.stores.now c.prepare_some.new.stores 0 z c.prepare_some.auto.stores now in
    ⊎_elim
    (λ member. inr (c.in_ok-prepare_some.ensures.prepared 0 b.0 z b.1 now member).prepared)
    (λ other. inl ((idle_aside (laws g) (c.prepare_some.ensures.idle 0 b.0 z b.1 now other)).ready (c.requires.ready 0 b.0 b.1)))
    (either c.args.members.now 0 (omega (arith, c.requires.some, c.requires.members)))

pub decide_first-requires-clause-decidable : goal.decide_first-requires-clause-decidable
decide_first-requires-clause-decidable g c z now =
    let b = before_it c.args.stores.now c.prepare_some.new.stores 0 z c.prepare_some.auto.stores now in
    ⊎_elim
    (λ member. (c.in_ok-prepare_some.ensures.prepared 0 b.0 z b.1 now member).decidable)
    (λ other. let idle = c.prepare_some.ensures.idle 0 b.0 z b.1 now other in
    rw idle.same ((laws g).decidable_still b.0 c.args.dev.now c.prepare_some.new.dev c.args.g idle.still (c.requires.decidable other b.0 b.1)))
    (either c.args.members.now 0 (omega (arith, c.requires.some, c.requires.members)))

-- after the call that decides was refused
first_refused : (g : Over) (c : goal.After-from_residual-in_err-decide_first g) → ArePreparing g.C.Checkpoint c.args.members.now c.args.g (on c.args.stores.now c.args.dev.now) (on c.prepare_some.new.stores c.prepare_some.new.dev)
first_refused g c = record { all = record { long = c.prepare_some.auto.stores; undecided = c.prepare_some.ensures.undecided }; idle = c.prepare_some.ensures.idle }

mid_apart_refused : (g : Over) (c : goal.After-from_residual-in_err-decide_first g) → AreApart g.C.Checkpoint c.prepare_some.new.stores
mid_apart_refused g c = apart_then g.C.Checkpoint c.args.stores.now c.prepare_some.new.stores (same_prepared (first_refused g c).all) c.requires.apart

second_refused : (g : Over) (c : goal.After-from_residual-in_err-decide_first g) → AreDeciding g.C.Checkpoint c.args.members.now (text_at (length c.args.words.now / length c.args.stores.now) c.args.words.now) c.args.g (on c.args.stores.now c.args.dev.now) (on c.prepare_some.new.stores c.prepare_some.new.dev) (on c.decide_first.new.stores c.decide_first.new.dev)
second_refused g c = record {
  first = first_refused g c;
  prepared = c.in_ok-prepare_some.ensures.prepared;
  long = c.decide_first.auto.stores;
  beside = call_each g.C.Checkpoint (IsBeside g.C.Checkpoint c.prepare_some.new.dev c.decide_first.new.dev) (omega (arith, c.requires.some, c.prepare_some.auto.stores)) (mid_apart_refused g c) c.decide_first.ensures.call
      (beside_still (laws g) c.prepare_some.new.dev c.decide_first.new.dev) c.decide_first.ensures.beside;
  deciding = c.decide_first.ensures.deciding;
}

calls_refused : (g : Over) (c : goal.After-from_residual-in_err-decide_first g) → AreCalls g.C.Checkpoint c.args.stores.now c.args.dev.now c.decide_first.new.dev
calls_refused g c = calls_then g.C.Checkpoint (laws g) (on c.args.stores.now c.args.dev.now) (on c.prepare_some.new.stores c.prepare_some.new.dev) (same_prepared (first_refused g c).all) c.prepare_some.ensures.calls
    (call_one g.C.Checkpoint (omega (arith, c.requires.some, c.prepare_some.auto.stores)) c.decide_first.ensures.call)

pub returns-in_err-decide_first-clause-same : goal.returns-in_err-decide_first-clause-same
returns-in_err-decide_first-clause-same g c = (after_deciding (laws g) (second_refused g c)).same

pub returns-in_err-decide_first-clause-between : goal.returns-in_err-decide_first-clause-between
returns-in_err-decide_first-clause-between g c = (after_deciding (laws g) (second_refused g c)).between

pub returns-in_err-decide_first-clause-steady : goal.returns-in_err-decide_first-clause-steady
returns-in_err-decide_first-clause-steady g c = (after_deciding (laws g) (second_refused g c)).steady

pub returns-in_err-decide_first-clause-lent : goal.returns-in_err-decide_first-clause-lent
returns-in_err-decide_first-clause-lent g c = each_then c.args.stores.now c.decide_first.new.stores (c.decide_first.auto.stores ∙ c.prepare_some.auto.stores) (λ i b z is goes. goes is) c.requires.lent (after_deciding (laws g) (second_refused g c)).lent

pub returns-in_err-decide_first-clause-joint : goal.returns-in_err-decide_first-clause-joint
returns-in_err-decide_first-clause-joint g c =
    let fault = err_from_is_err_and c.from_residual-in_err-decide_first.result c.from_residual-in_err-decide_first.ensures.1 in
    rw (fault.1, fault.2) (joint_then g.C.Checkpoint (on c.args.stores.now c.args.dev.now) (on c.prepare_some.new.stores c.prepare_some.new.dev) (same_prepared (first_refused g c).all) c.in_ok-prepare_some.ensures.joint.calm c.in_err-decide_first.ensures.joint)

pub returns-in_err-decide_first-clause-others : goal.returns-in_err-decide_first-clause-others
returns-in_err-decide_first-clause-others g c = (calls_refused g c).others

-- what the stores have for the calls that finish
first_ready : (g : Over) (c : goal.After-finish_some-arg-2-1 g) → ArePreparing g.C.Checkpoint c.args.members.now c.args.g (on c.args.stores.now c.args.dev.now) (on c.prepare_some.new.stores c.prepare_some.new.dev)
first_ready g c = record { all = record { long = c.prepare_some.auto.stores; undecided = c.prepare_some.ensures.undecided }; idle = c.prepare_some.ensures.idle }

mid_apart_ready : (g : Over) (c : goal.After-finish_some-arg-2-1 g) → AreApart g.C.Checkpoint c.prepare_some.new.stores
mid_apart_ready g c = apart_then g.C.Checkpoint c.args.stores.now c.prepare_some.new.stores (same_prepared (first_ready g c).all) c.requires.apart

second_ready : (g : Over) (c : goal.After-finish_some-arg-2-1 g) → AreDeciding g.C.Checkpoint c.args.members.now (text_at (length c.args.words.now / length c.args.stores.now) c.args.words.now) c.args.g (on c.args.stores.now c.args.dev.now) (on c.prepare_some.new.stores c.prepare_some.new.dev) (on c.decide_first.new.stores c.decide_first.new.dev)
second_ready g c = record {
  first = first_ready g c;
  prepared = c.in_ok-prepare_some.ensures.prepared;
  long = c.decide_first.auto.stores;
  beside = call_each g.C.Checkpoint (IsBeside g.C.Checkpoint c.prepare_some.new.dev c.decide_first.new.dev) (omega (arith, c.requires.some, c.prepare_some.auto.stores)) (mid_apart_ready g c) c.decide_first.ensures.call
      (beside_still (laws g) c.prepare_some.new.dev c.decide_first.new.dev) c.decide_first.ensures.beside;
  deciding = c.decide_first.ensures.deciding;
}

pub finish_some-requires-clause-apart : goal.finish_some-requires-clause-apart
finish_some-requires-clause-apart g c = apart_then g.C.Checkpoint c.args.stores.now c.decide_first.new.stores (same_decided (laws g) (second_ready g c)) c.requires.apart

pub finish_some-requires-clause-lent : goal.finish_some-requires-clause-lent
finish_some-requires-clause-lent g c = each_then c.args.stores.now c.decide_first.new.stores (c.decide_first.auto.stores ∙ c.prepare_some.auto.stores) (λ i b z is goes. goes is) c.requires.lent (after_deciding (laws g) (second_ready g c)).lent

pub finish_some-requires-clause-prepared : goal.finish_some-requires-clause-prepared
finish_some-requires-clause-prepared g c i z now member =
    let y = before_it c.prepare_some.new.stores c.decide_first.new.stores i z c.decide_first.auto.stores now in
    let b = before_it c.args.stores.now c.prepare_some.new.stores i y.0 c.prepare_some.auto.stores y.1 in
    call_each g.C.Checkpoint (λ u v. g.C.Checkpoint.prepared u c.prepare_some.new.dev c.args.g → g.C.Checkpoint.prepared v c.decide_first.new.dev c.args.g)
    (omega (arith, c.requires.some, c.prepare_some.auto.stores)) (mid_apart_ready g c) c.decide_first.ensures.call
    (λ u still. (laws g).prepared_still u c.prepare_some.new.dev c.decide_first.new.dev c.args.g still) c.in_ok-decide_first.ensures.prepared
    i y.0 z y.1 now (c.in_ok-prepare_some.ensures.prepared i b.0 y.0 b.1 y.1 member).prepared

-- after the calls that finish, Ok or not
first_done : (g : Over) (c : goal.After-stores-3-1 g) → ArePreparing g.C.Checkpoint c.args.members.now c.args.g (on c.args.stores.now c.args.dev.now) (on c.prepare_some.new.stores c.prepare_some.new.dev)
first_done g c = record { all = record { long = c.prepare_some.auto.stores; undecided = c.prepare_some.ensures.undecided }; idle = c.prepare_some.ensures.idle }

mid_apart_done : (g : Over) (c : goal.After-stores-3-1 g) → AreApart g.C.Checkpoint c.prepare_some.new.stores
mid_apart_done g c = apart_then g.C.Checkpoint c.args.stores.now c.prepare_some.new.stores (same_prepared (first_done g c).all) c.requires.apart

second_done : (g : Over) (c : goal.After-stores-3-1 g) → AreDeciding g.C.Checkpoint c.args.members.now (text_at (length c.args.words.now / length c.args.stores.now) c.args.words.now) c.args.g (on c.args.stores.now c.args.dev.now) (on c.prepare_some.new.stores c.prepare_some.new.dev) (on c.decide_first.new.stores c.decide_first.new.dev)
second_done g c = record {
  first = first_done g c;
  prepared = c.in_ok-prepare_some.ensures.prepared;
  long = c.decide_first.auto.stores;
  beside = call_each g.C.Checkpoint (IsBeside g.C.Checkpoint c.prepare_some.new.dev c.decide_first.new.dev) (omega (arith, c.requires.some, c.prepare_some.auto.stores)) (mid_apart_done g c) c.decide_first.ensures.call
      (beside_still (laws g) c.prepare_some.new.dev c.decide_first.new.dev) c.decide_first.ensures.beside;
  deciding = c.decide_first.ensures.deciding;
}

calls_done : (g : Over) (c : goal.After-stores-3-1 g) → AreCalls g.C.Checkpoint c.args.stores.now c.args.dev.now c.decide_first.new.dev
calls_done g c = calls_then g.C.Checkpoint (laws g) (on c.args.stores.now c.args.dev.now) (on c.prepare_some.new.stores c.prepare_some.new.dev) (same_prepared (first_done g c).all) c.prepare_some.ensures.calls
    (call_one g.C.Checkpoint (omega (arith, c.requires.some, c.prepare_some.auto.stores)) c.decide_first.ensures.call)

third : (g : Over) (c : goal.After-stores-3-1 g) → AreFinishing g.C.Checkpoint c.args.members.now (text_at (length c.args.words.now / length c.args.stores.now) c.args.words.now) c.args.g (on c.args.stores.now c.args.dev.now) (on c.prepare_some.new.stores c.prepare_some.new.dev) (on c.decide_first.new.stores c.decide_first.new.dev) (on c.finish_some.new.stores c.finish_some.new.dev)
third g c = record { second = second_done g c; decided = c.in_ok-decide_first.ensures.decided; long = c.finish_some.auto.stores; finished = c.finish_some.ensures.decided; idle = c.finish_some.ensures.idle }

pub returns-clause-same : goal.returns-clause-same
returns-clause-same g c = (after_finishing (laws g) (third g c)).same

pub returns-clause-between : goal.returns-clause-between
returns-clause-between g c = (after_finishing (laws g) (third g c)).between

pub returns-clause-steady : goal.returns-clause-steady
returns-clause-steady g c = (after_finishing (laws g) (third g c)).steady

pub returns-clause-lent : goal.returns-clause-lent
returns-clause-lent g c = each_then c.args.stores.now c.finish_some.new.stores (c.finish_some.auto.stores ∙ c.decide_first.auto.stores ∙ c.prepare_some.auto.stores) (λ i b z is goes. goes is) c.requires.lent (after_finishing (laws g) (third g c)).lent

pub returns-clause-memory : goal.returns-clause-memory
returns-clause-memory g c =
    let contents = g.C.Checkpoint.contents in
    let old = c.args.dev.now in
    let mid = c.prepare_some.new.dev in
    let late = c.decide_first.new.dev in
    let beside = call_each g.C.Checkpoint (IsSameMemory g.C.Checkpoint mid late) (omega (arith, c.requires.some, c.prepare_some.auto.stores)) (mid_apart_done g c) c.decide_first.ensures.call
    (memory_still (laws g) mid late) c.in_ok-decide_first.ensures.memory in
    let earlier = pair_then {T = λ i. IsSameMemory g.C.Checkpoint old late} c.args.stores.now c.prepare_some.new.stores c.decide_first.new.stores c.prepare_some.auto.stores
    (λ i b y z was now. becomes_then (contents b old) (contents y mid) (contents z late) was now)
    (memory_prepared (laws g) {text = text_at (length c.args.words.now / length c.args.stores.now) c.args.words.now} c.requires.members (first_done g c) c.in_ok-prepare_some.ensures.prepared) beside in
    on_ok_weaker c.finish_some.result (λ more. pair_then c.args.stores.now c.decide_first.new.stores c.finish_some.new.stores (c.decide_first.auto.stores ∙ c.prepare_some.auto.stores)
    (λ i b y z was now. becomes_then (contents b old) (contents y late) (contents z c.finish_some.new.dev) was now) earlier more) c.finish_some.ensures.memory

pub returns-clause-decided : goal.returns-clause-decided
returns-clause-decided g c = on_ok_weaker c.finish_some.result (λ more. all_decided (laws g) (third g c)) c.finish_some.ensures.memory

pub returns-clause-stands : goal.returns-clause-stands
returns-clause-stands g c = on_ok_weaker c.finish_some.result (λ more. all_new (laws g) (third g c)) c.finish_some.ensures.memory

pub returns-clause-joint : goal.returns-clause-joint
returns-clause-joint g c =
    joint_then g.C.Checkpoint (on c.args.stores.now c.args.dev.now) (on c.decide_first.new.stores c.decide_first.new.dev) (same_decided (laws g) (second_done g c))
    (λ q. calm_then g.C.Checkpoint c.args.dev.now c.prepare_some.new.dev c.decide_first.new.dev q (c.in_ok-prepare_some.ensures.joint.calm q) (c.in_ok-decide_first.ensures.joint.calm q)) c.finish_some.ensures.joint

pub returns-clause-others : goal.returns-clause-others
returns-clause-others g c = (calls_then g.C.Checkpoint (laws g) (on c.args.stores.now c.args.dev.now) (on c.decide_first.new.stores c.decide_first.new.dev) (same_decided (laws g) (second_done g c)) (calls_done g c) c.finish_some.ensures.calls).others

pub returns-in_err-prepare_some-clause-beside : goal.returns-in_err-prepare_some-clause-beside
returns-in_err-prepare_some-clause-beside g c = (after_preparing (laws g) {text = text_at (length c.args.words.now / length c.args.stores.now) c.args.words.now} (first_stopped g c)).beside

pub returns-in_err-decide_first-clause-beside : goal.returns-in_err-decide_first-clause-beside
returns-in_err-decide_first-clause-beside g c = (after_deciding (laws g) (second_refused g c)).beside

pub returns-clause-beside : goal.returns-clause-beside
returns-clause-beside g c = (after_finishing (laws g) (third g c)).beside

pub returns-clause-aside : goal.returns-clause-aside
returns-clause-aside g c =
    let old = c.args.dev.now in
    let mid = c.prepare_some.new.dev in
    let late = c.decide_first.new.dev in
    let aside = call_each g.C.Checkpoint (IsAside g.C.Checkpoint mid late) (omega (arith, c.requires.some, c.prepare_some.auto.stores)) (mid_apart_done g c) c.decide_first.ensures.call
    (λ u still. idle_aside (laws g) (idle_still mid late u still)) c.in_ok-decide_first.ensures.aside in
    let earlier = pair_then {T = λ i b z. IsOther c.args.members.now i → IsAside g.C.Checkpoint old late b z} c.args.stores.now c.prepare_some.new.stores c.decide_first.new.stores c.prepare_some.auto.stores
    (λ i b y z was now other. aside_then (idle_aside (laws g) (was other)) now) c.prepare_some.ensures.idle aside in
    on_ok_weaker c.finish_some.result (λ more. pair_then c.args.stores.now c.decide_first.new.stores c.finish_some.new.stores (c.decide_first.auto.stores ∙ c.prepare_some.auto.stores)
    (λ i b y z was now other. aside_then (was other) (idle_aside (laws g) (now other))) earlier c.finish_some.ensures.idle) c.finish_some.ensures.memory
