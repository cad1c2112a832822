-- A commit of many stores, under one number g.
use Rattle.std.specs.Prelude.{◌≡◌, ◌⊎◌, ◌<◌, ◌≤◌, ℕ, List, Bool, true, false, Some, slice_get}
use Rattle.dc_media.specs.Told.{Becomes}
use Rattle.dc_checkpoint.specs.Calls.{AreAmong, AreBelow, AreFrom, Narrows}
use Rattle.dc_checkpoint.specs.Handles.{IsSame}
use Rattle.dc_checkpoint.specs.States.{IsSaved, Reading}
use Rattle.dc_checkpoint.specs.declared.checkpoint.Checkpoint as checkpoint
use Rattle.dc_twophase.specs.Stores.{At, Each, EachPair, Together}

-- the memory is what it was
abbrev pub IsSameMemory : {C D : Type 0} → checkpoint.Ghosts C D → D → D → C → C → Type 0
IsSameMemory store old new b c = Becomes (store.contents b old) (store.contents c new) (λ before after. after ≡ before)

-- under this decided number each stands for what it stood for
abbrev pub AllOld : {C D : Type 0} → checkpoint.Ghosts C D → Together C D → Together C D → ℕ → Type 0
AllOld store old new d = EachPair old.stores new.stores (λ i b c. (reading : Reading) → store.leaves c new.dev d reading → store.leaves b old.dev d reading)

-- the store of this index takes part in a commit of these
abbrev pub IsMember : List Bool → ℕ → Type 0
IsMember members i = slice_get members i ≡ Some true

-- it does not
abbrev pub IsOther : List Bool → ℕ → Type 0
IsOther members i = slice_get members i ≡ Some false

-- under this decided number each that takes part stands for its memory as it was, with its text
abbrev pub AllNewOf : {C D : Type 0} → checkpoint.Ghosts C D → List Bool → (ℕ → List ℕ) → Together C D → Together C D → ℕ → Type 0
AllNewOf store members text old new d = EachPair old.stores new.stores (λ i b c. IsMember members i → (reading : Reading) → store.leaves c new.dev d reading → IsSaved (store.contents b old.dev) (text i) reading)

-- under this decided number each stands for its memory as it was, with its text
abbrev pub AllNew : {C D : Type 0} → checkpoint.Ghosts C D → (ℕ → List ℕ) → Together C D → Together C D → ℕ → Type 0
AllNew store text old new d = EachPair old.stores new.stores (λ i b c. (reading : Reading) → store.leaves c new.dev d reading → IsSaved (store.contents b old.dev) (text i) reading)

-- the decided number is one that stays, is below g and below no store's floor, and no floor is over g
pub record HasRoom {C D : Type 0} (store : checkpoint.Ghosts C D) (g : ℕ) (now : Together C D) : Type 0 where
  pub stays : At 0 now.stores (λ c. store.steady c now.dev)
  pub below : At 0 now.stores (λ c. AreBelow g (store.numbers c now.dev))
  pub under : Each now.stores (λ i b. store.floor b ≤ g)
  pub over : At 0 now.stores (λ c. (e : ℕ) → store.numbers c now.dev e → Each now.stores (λ i b. store.floor b ≤ e))

-- what a store keeps while nothing is decided
pub record IsUndecided {C D : Type 0} (store : checkpoint.Ghosts C D) (g : ℕ) (old new : D) (b c : C) : Type 0 where
  pub same : IsSame store b c
  pub lent : store.lent b old → store.lent c new
  pub floor : store.floor c ≤ store.floor b
  pub old_state : (d : ℕ) (reading : Reading) → store.floor b ≤ d → d < g → store.leaves c new d reading → store.leaves b old d reading
  pub steady : store.steady b old → AreBelow g (store.numbers b old) → store.steady c new
  pub numbers : store.steady b old → AreBelow g (store.numbers b old) → AreAmong (store.numbers b old) (store.numbers c new)

-- a store that was prepared with this text
pub record IsPrepared {C D : Type 0} (store : checkpoint.Ghosts C D) (text : List ℕ) (g : ℕ) (old new : D) (b c : C) : Type 0 where
  pub prepared : store.prepared c new g
  pub decidable : store.decidable c new g
  pub memory : IsSameMemory store old new b c
  pub new_state : (d : ℕ) (reading : Reading) → g ≤ d → store.leaves c new d reading → IsSaved (store.contents b old) text reading

-- what a store keeps while the first one decides
pub record IsBeside {C D : Type 0} (store : checkpoint.Ghosts C D) (old new : D) (b c : C) : Type 0 where
  pub same : IsSame store b c
  pub lent : store.lent b old → store.lent c new
  pub floor : store.floor c ≤ store.floor b
  pub stands : Narrows (store.floor b) (store.leaves b old) (store.leaves c new)

-- what becomes of the decided number while the first store decides
pub record IsDeciding {C D : Type 0} (store : checkpoint.Ghosts C D) (g : ℕ) (old new : D) (b c : C) : Type 0 where
  pub between : (e : ℕ) → store.numbers c new e → store.numbers b old e ⊎ (e ≡ g)
  pub steady : store.steady b old → AreBelow g (store.numbers b old) → store.steady c new

-- what a store keeps once g is decided
pub record IsDecided {C D : Type 0} (store : checkpoint.Ghosts C D) (g : ℕ) (old new : D) (b c : C) : Type 0 where
  pub same : IsSame store b c
  pub lent : store.lent b old → store.lent c new
  pub stands : Narrows g (store.leaves b old) (store.leaves c new)
  pub steady : store.steady b old → AreFrom g (store.numbers b old) → store.steady c new
  pub numbers : store.steady b old → AreFrom g (store.numbers b old) → AreAmong (store.numbers b old) (store.numbers c new)

-- a store that was committed
pub record IsCommitted {C D : Type 0} (store : checkpoint.Ghosts C D) (g : ℕ) (new : D) (c : C) : Type 0 where
  pub ready : store.ready c new
  pub number : store.number c ≡ g
  pub logged : store.logged c ≡ 0
  pub floor : store.floor c ≤ g

-- a store that was not called
pub record IsIdle {C D : Type 0} (store : checkpoint.Ghosts C D) (old new : D) (b c : C) : Type 0 where
  pub same : c ≡ b
  pub still : store.untouched old new (store.index b)

-- a store that took no part in a commit of others, which went whole
pub record IsAside {C D : Type 0} (store : checkpoint.Ghosts C D) (old new : D) (b c : C) : Type 0 where
  pub ready : store.ready b old → store.ready c new
  pub number_same : store.number c ≡ store.number b
  pub logged_same : store.logged c ≡ store.logged b
