-- What a commit of some stores comes to: stopped while its members are prepared, while the first store decides, or later.
use Rattle.std.proofs.Common.{◌≡◌, ◌⊎◌, ◌<◌, ℕ, List, Bool, true, false, length, Some, arith, ◌∙◌, inl, inr, ⊎_elim, subst, sym, refl, get_or, ap, [], ◌∷◌, ◌&&◌, zero, suc, take, slice_get}
use Rattle.std.proofs.lemmas.Bool.{and_parts, cases_Bool}
use Rattle.std.proofs.lemmas.Option.{slice_get_within, slice_get-get_or}
use Rattle.dc_checkpoint.specs.Calls.{AreAll, AreBelow, AreFrom}
use Rattle.dc_checkpoint.specs.Handles.{IsSame, same_then}
use Rattle.dc_checkpoint.specs.declared.checkpoint.Checkpoint as checkpoint
use Rattle.dc_twophase.specs.Commits.{AllNewOf, AllOld, HasRoom, IsAside, IsBeside, IsDecided, IsDeciding, IsIdle, IsMember, IsOther, IsPrepared, IsSameMemory, IsUndecided}
use Rattle.dc_twophase.specs.Stores.{At, AtPair, EachPair, Together}
use Rattle.dc_twophase.proofs.Calling.{AreSameStores}
use Rattle.dc_twophase.proofs.Finishing.{beside_still}
use Rattle.dc_twophase.proofs.Laws.{Laws}
use Rattle.dc_twophase.proofs.Pairs.{before_it, pair_then}
use Rattle.dc_twophase.proofs.Preparing.{memory_still}

-- each takes part or does not
pub either : (members : List Bool) (i : ℕ) → i < length members → IsMember members i ⊎ IsOther members i
either members i h = let it = slice_get-get_or members i false h in ⊎_elim (λ on. inl (it ∙ ap Some on)) (λ off. inr (it ∙ ap Some off)) (cases_Bool (get_or members i false))

-- where each takes part
abbrev pub all_true : List Bool → Bool
all_true [] = true
all_true (b ∷ bs) = b && all_true bs

pub true_at : (bs : List Bool) → all_true bs ≡ true → (n i : ℕ) → i < n → i < length bs → IsMember (take n bs) i
true_at [] all n i h k = absurd (omega (arith, k))
true_at (b ∷ bs) all zero i h k = absurd (omega (arith, h))
true_at (b ∷ bs) all (suc n) zero h k = ap Some (and_parts b (all_true bs) all).0
true_at (b ∷ bs) all (suc n) (suc i) h k = true_at bs (and_parts b (all_true bs) all).1 n i (omega (arith, h)) (omega (arith, k))

-- a store that is not called
module _ {C D : Type 0} {store : checkpoint.Ghosts C D} (laws : Laws store) {old new : D} {b c : C} (is : IsIdle store old new b c) where
  pub idle_beside : IsBeside store old new b c
  idle_beside = subst (λ x. IsBeside store old new b x) (sym is.same) (beside_still laws old new b is.still)

  pub idle_aside : IsAside store old new b c
  idle_aside = subst (λ x. IsAside store old new b x) (sym is.same) (record { ready = laws.ready_still b old new is.still; number_same = refl; logged_same = refl })

  pub idle_memory : IsSameMemory store old new b c
  idle_memory = subst (λ x. IsSameMemory store old new b x) (sym is.same) (memory_still laws old new b is.still)

module _ {C D : Type 0} {store : checkpoint.Ghosts C D} {old mid new : D} {a b c : C} where
  pub beside_then : IsBeside store old mid a b → IsBeside store mid new b c → IsBeside store old new a c
  beside_then was now = record {
    same = same_then was.same now.same;
    lent = λ is. now.lent (was.lent is);
    floor = omega (arith, was.floor, now.floor);
    stands = λ d reading low left. was.stands d reading low (now.stands d reading (omega (arith, low, was.floor)) left);
  }

  pub aside_then : IsAside store old mid a b → IsAside store mid new b c → IsAside store old new a c
  aside_then was now = record { ready = λ is. now.ready (was.ready is); number_same = now.number_same ∙ was.number_same; logged_same = now.logged_same ∙ was.logged_same }

-- nothing was decided yet
pub record AreUndecided {C D : Type 0} (store : checkpoint.Ghosts C D) (g : ℕ) (old mid : Together C D) : Type 0 where
  pub long : length mid.stores ≡ length old.stores
  pub undecided : EachPair old.stores mid.stores (λ i. IsUndecided store g old.dev mid.dev)

module _ {C D : Type 0} {store : checkpoint.Ghosts C D} {g : ℕ} where
  pub same_prepared : {old mid : Together C D} → AreUndecided store g old mid → AreSameStores store old.stores mid.stores
  same_prepared first = record { long = first.long; placed = λ i b c before now. (first.undecided i b c before now).same.index_same }

  -- the numbers of the first store when all are prepared
  pub lows : {old mid : Together C D} → AreUndecided store g old mid → HasRoom store g old → (b y : C) → slice_get old.stores 0 ≡ Some b → slice_get mid.stores 0 ≡ Some y → AreBelow g (store.numbers y mid.dev)
  lows {old} {mid} first room b y before now e has = room.below b before e ((first.undecided 0 b y before now).numbers (room.stays b before) (room.below b before) e has)

-- what holds wherever it ends
pub record IsOutcome {C D : Type 0} (store : checkpoint.Ghosts C D) (members : List Bool) (text : ℕ → List ℕ) (g : ℕ) (old new : Together C D) : Type 0 where
  pub same : EachPair old.stores new.stores (λ i. IsSame store)
  pub lent : EachPair old.stores new.stores (λ i b c. store.lent b old.dev → store.lent c new.dev)
  pub between : HasRoom store g old → AtPair 0 old.stores new.stores (λ b c. (d : ℕ) → store.numbers c new.dev d → (store.numbers b old.dev d × AllOld store old new d) ⊎ ((d ≡ g) × AllNewOf store members text old new d))
  pub beside : EachPair old.stores new.stores (λ i b c. IsOther members i → IsBeside store old.dev new.dev b c)
  pub steady : HasRoom store g old → At 0 new.stores (λ c. store.steady c new.dev)

-- the calls that prepare were made
pub record ArePreparing {C D : Type 0} (store : checkpoint.Ghosts C D) (members : List Bool) (g : ℕ) (old mid : Together C D) : Type 0 where
  pub all : AreUndecided store g old mid
  pub idle : EachPair old.stores mid.stores (λ i b c. IsOther members i → IsIdle store old.dev mid.dev b c)

-- the call that decides was made
pub record AreDeciding {C D : Type 0} (store : checkpoint.Ghosts C D) (members : List Bool) (text : ℕ → List ℕ) (g : ℕ) (old mid late : Together C D) : Type 0 where
  pub first : ArePreparing store members g old mid
  pub prepared : EachPair old.stores mid.stores (λ i b c. IsMember members i → IsPrepared store (text i) g old.dev mid.dev b c)
  pub long : length late.stores ≡ length mid.stores
  pub beside : EachPair mid.stores late.stores (λ i. IsBeside store mid.dev late.dev)
  pub deciding : AtPair 0 mid.stores late.stores (IsDeciding store g mid.dev late.dev)

-- the calls that finish were made
pub record AreFinishing {C D : Type 0} (store : checkpoint.Ghosts C D) (members : List Bool) (text : ℕ → List ℕ) (g : ℕ) (old mid late new : Together C D) : Type 0 where
  pub second : AreDeciding store members text g old mid late
  pub decided : AtPair 0 mid.stores late.stores (λ b c. AreBelow g (store.numbers b mid.dev) → AreAll g (store.numbers c late.dev))
  pub long : length new.stores ≡ length late.stores
  pub finished : EachPair late.stores new.stores (λ i. IsDecided store g late.dev new.dev)
  pub idle : EachPair late.stores new.stores (λ i b c. IsOther members i → IsIdle store late.dev new.dev b c)

module _ {C D : Type 0} {store : checkpoint.Ghosts C D} (laws : Laws store) {members : List Bool} {text : ℕ → List ℕ} {g : ℕ} where
  pub after_preparing : {old mid : Together C D} → ArePreparing store members g old mid → IsOutcome store members text g old mid
  after_preparing {old} {mid} some = let first = some.all in record {
    same = λ i b c before now. (first.undecided i b c before now).same;
    lent = λ i b c before now. (first.undecided i b c before now).lent;
    between = λ room b z first_was now d has.
        let was = (first.undecided 0 b z first_was now).numbers (room.stays b first_was) (room.below b first_was) d has in
        inl (was, λ i x y before here reading. (first.undecided i x y before here).old_state d reading (room.over b first_was d was i x before) (room.below b first_was d was));
    beside = λ i b c before now other. idle_beside laws (some.idle i b c before now other);
    steady = λ room z now.
        let b = before_it old.stores mid.stores 0 z first.long now in
        (first.undecided 0 b.0 z b.1 now).steady (room.stays b.0 b.1) (room.below b.0 b.1);
  }

  steady_late : {old mid late : Together C D} → AreDeciding store members text g old mid late → HasRoom store g old → At 0 late.stores (λ c. store.steady c late.dev)
  steady_late {old} {mid} {late} second room z now =
      let y = before_it mid.stores late.stores 0 z second.long now in
      let b = before_it old.stores mid.stores 0 y.0 second.first.all.long y.1 in
      (second.deciding y.0 z y.1 now).steady ((second.first.all.undecided 0 b.0 y.0 b.1 y.1).steady (room.stays b.0 b.1) (room.below b.0 b.1)) (lows second.first.all room b.0 y.0 b.1 y.1)

  -- once g is decided each that takes part stands for its new state
  new_late : {old mid late : Together C D} → AreDeciding store members text g old mid late → HasRoom store g old → AllNewOf store members text old late g
  new_late {old} {mid} {late} second room i b z before now member reading left =
      let y = before_it mid.stores late.stores i z second.long now in
      (second.prepared i b y.0 before y.1 member).new_state g reading (omega arith)
      ((second.beside i y.0 z y.1 now).stands g reading (omega (arith, room.under i b before, (second.first.all.undecided i b y.0 before y.1).floor)) left)

  pub after_deciding : {old mid late : Together C D} → AreDeciding store members text g old mid late → IsOutcome store members text g old late
  after_deciding {old} {mid} {late} second = let first = second.first.all in record {
    same = pair_then old.stores mid.stores late.stores first.long (λ i b y z was now. same_then was.same now.same) first.undecided second.beside;
    lent = pair_then old.stores mid.stores late.stores first.long (λ i b y z was now is. now.lent (was.lent is)) first.undecided second.beside;
    between = λ room b z first_was now d has.
        let y = before_it mid.stores late.stores 0 z second.long now in
        ⊎_elim
        (λ was. let was₀ = (first.undecided 0 b y.0 first_was y.1).numbers (room.stays b first_was) (room.below b first_was) d was in
        inl (
          was₀,
          λ i x w before here reading left.
              let v = before_it mid.stores late.stores i w second.long here in
              let held = first.undecided i x v.0 before v.1 in
              let low = room.over b first_was d was₀ i x before in
              held.old_state d reading low (room.below b first_was d was₀) ((second.beside i v.0 w v.1 here).stands d reading (omega (arith, low, held.floor)) left),
        ))
        (λ same. inr (same, rw same (new_late second room)))
        ((second.deciding y.0 z y.1 now).between d has);
    beside = pair_then old.stores mid.stores late.stores first.long (λ i b y z was now other. beside_then (idle_beside laws (was other)) now) second.first.idle second.beside;
    steady = steady_late second;
  }

  -- once g is decided no number is below it
  from_late : {old mid late new : Together C D} → AreFinishing store members text g old mid late new → HasRoom store g old → At 0 late.stores (λ c. AreFrom g (store.numbers c late.dev))
  from_late {old} {mid} {late} third room x now e has =
      let y = before_it mid.stores late.stores 0 x third.second.long now in
      let b = before_it old.stores mid.stores 0 y.0 third.second.first.all.long y.1 in
      let same = third.decided y.0 x y.1 now (lows third.second.first.all room b.0 y.0 b.1 y.1) e has in inr (omega (arith, same))

  pub all_decided : {old mid late new : Together C D} → AreFinishing store members text g old mid late new → HasRoom store g old → At 0 new.stores (λ c. AreAll g (store.numbers c new.dev))
  all_decided {old} {mid} {late} {new} third room z now e has =
      let x = before_it late.stores new.stores 0 z third.long now in
      let y = before_it mid.stores late.stores 0 x.0 third.second.long x.1 in
      let b = before_it old.stores mid.stores 0 y.0 third.second.first.all.long y.1 in
      third.decided y.0 x.0 y.1 x.1 (lows third.second.first.all room b.0 y.0 b.1 y.1) e
      ((third.finished 0 x.0 z x.1 now).numbers (steady_late third.second room x.0 x.1) (from_late third room x.0 x.1) e has)

  pub all_new : {old mid late new : Together C D} → AreFinishing store members text g old mid late new → HasRoom store g old → At 0 new.stores (λ c. (d : ℕ) → store.numbers c new.dev d → AllNewOf store members text old new d)
  all_new {old} {mid} {late} {new} third room z now d has = rw (all_decided third room z now d has) (λ i b w before here member reading left.
      let x = before_it late.stores new.stores i w third.long here in
      new_late third.second room i b x.0 before x.1 member reading ((third.finished i x.0 w x.1 here).stands g reading (omega arith) left))

  pub after_finishing : {old mid late new : Together C D} → AreFinishing store members text g old mid late new → IsOutcome store members text g old new
  after_finishing {old} {mid} {late} {new} third = let earlier = after_deciding third.second in let long = third.second.long ∙ third.second.first.all.long in record {
    same = pair_then old.stores late.stores new.stores long (λ i b y z was now. same_then was now.same) earlier.same third.finished;
    lent = pair_then old.stores late.stores new.stores long (λ i b y z was now is. now.lent (was is)) earlier.lent third.finished;
    between = λ room b z first_was now d has. inr (all_decided third room z now d has, all_new third room z now d has);
    beside = pair_then old.stores late.stores new.stores long (λ i b y z was now other. beside_then (was other) (idle_beside laws (now other))) earlier.beside third.idle;
    steady = λ room z now. let x = before_it late.stores new.stores 0 z third.long now in (third.finished 0 x.0 z x.1 now).steady (steady_late third.second room x.0 x.1) (from_late third room x.0 x.1);
  }

  pub same_decided : {old mid late : Together C D} → AreDeciding store members text g old mid late → AreSameStores store old.stores late.stores
  same_decided second = record { long = second.long ∙ second.first.all.long; placed = λ i b c before now. ((after_deciding second).same i b c before now).index_same }

  -- the memory of each is as it was, once the members are prepared
  pub memory_prepared : {old mid : Together C D} → length members ≡ length old.stores → ArePreparing store members g old mid → EachPair old.stores mid.stores (λ i b c. IsMember members i → IsPrepared store (text i) g old.dev mid.dev b c)
      → EachPair old.stores mid.stores (λ i. IsSameMemory store old.dev mid.dev)
  memory_prepared {old} {mid} many some prepared i b c before now = let w = slice_get_within old.stores i b before in ⊎_elim
      (λ member. (prepared i b c before now member).memory)
      (λ other. idle_memory laws (some.idle i b c before now other))
      (either members i (omega (arith, w, many)))
