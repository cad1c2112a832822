-- What a part of a turn of all keeps where it is Ok, and what the next part, whole or refused, then keeps of the first.
use Rattle.std.proofs.Common.{◌≡◌, ◌∙◌, ℕ, List, Err, ap, length, subst, sym}
use Rattle.dc_checkpoint.specs.Handles.{IsSame, same_then}
use Rattle.dc_checkpoint.specs.declared.checkpoint.Checkpoint as checkpoint
use Rattle.dc_processes.specs.Stages.{IsTold, Stage, stage_of}
use Rattle.dc_processes.specs.declared.processes.Processes.{Processes}
use Rattle.dc_words.specs.Lists.{lists_of}
use Rattle.dc_together.proofs.Fitting.{own_same}
use Rattle.dc_together.proofs.Joining.{joint_as, no_index_then, same_stores, told_calm}
use Rattle.dc_together.specs.Joints.{AllBelong}
use Rattle.dc_twophase.proofs.Calling.{AreSameStores}
use Rattle.dc_twophase.proofs.Counting.{calm_then, joint_then}
use Rattle.dc_twophase.proofs.Pairs.{pair_then}
use Rattle.dc_twophase.specs.Counts.{IsCalm, IsJoint}
use Rattle.dc_twophase.specs.Stores.{EachPair, IsNoIndex, on}
use Rattle.dc_twophase.specs.declared.faults.JointFault.{JointFault}

-- the same stores and as many processes, with counts that did not rise; no other device was called
pub record Leads {C D : Type 0} (g : checkpoint.Ghosts C D) (old new : Stage C D) : Type 0 where
  pub long : length new.slots ≡ length old.slots
  pub as_many : length new.stores ≡ length old.stores
  pub same : EachPair old.stores new.stores (λ i. IsSame g)
  pub others : (q : ℕ) → IsNoIndex g old.stores q → g.untouched old.dev new.dev q
  pub calm : (q : ℕ) → IsCalm g old.dev new.dev q
  pub inputs : new.inputs ≡ old.inputs
  pub protocol : new.protocol ≡ old.protocol
  pub entries : new.entries ≡ old.entries
  pub left : new.left ≡ old.left

-- so does one that changes of the processes these fields alone
pub leads_of : {C D : Type 0} {g : checkpoint.Ghosts C D} (w w1 : Processes) {stores stores1 : List C} {dev dev1 : D} → w1 ≡ record w { slots = w1.slots; acts = w1.acts; exposed = w1.exposed; joint = w1.joint } → length w1.slots.items ≡ length w.slots.items
    → length stores1 ≡ length stores → EachPair stores stores1 (λ i. IsSame g) → ((q : ℕ) → IsNoIndex g stores q → g.untouched dev dev1 q) → ((q : ℕ) → IsCalm g dev dev1 q) → Leads g (stage_of stores dev w) (stage_of stores1 dev1 w1)
leads_of w w1 rest long as_many same others calm = record {
  long = long;
  as_many = as_many;
  same = same;
  others = others;
  calm = calm;
  inputs = ap (λ (v : Processes). lists_of v.inputs.items) rest;
  protocol = ap (λ (v : Processes). v.protocol) rest;
  entries = ap (λ (v : Processes). v.entries) rest;
  left = ap (λ (v : Processes). v.left) rest;
}

module _ {C D : Type 0} {g : checkpoint.Ghosts C D} {old new : Stage C D} (leads : Leads g old new) where
  stores : AreSameStores g old.stores new.stores
  stores = same_stores g old.stores new.stores leads.as_many leads.same

  pub told_later : IsTold g old → IsTold g new
  told_later = told_calm g old new leads.long leads.calm

  pub own_later : AllBelong g (length old.slots) old.stores → AllBelong g (length new.slots) new.stores
  own_later own = subst (λ n. AllBelong g n new.stores) (sym leads.long) (own_same g old.stores new.stores (length old.slots) leads.as_many leads.same own)

  -- what the next part leaves
  pub same_later : (later : List C) → EachPair new.stores later (λ i. IsSame g) → EachPair old.stores later (λ i. IsSame g)
  same_later later = pair_then old.stores new.stores later leads.as_many (λ i b x z was now. same_then was now) leads.same

  pub others_later : (dev : D) → ((q : ℕ) → g.untouched old.dev new.dev q → g.untouched new.dev dev q → g.untouched old.dev dev q) → ((q : ℕ) → IsNoIndex g new.stores q → g.untouched new.dev dev q) → (q : ℕ) → IsNoIndex g old.stores q → g.untouched old.dev dev q
  others_later dev join others q none = join q (leads.others q none) (others q (no_index_then g old.stores new.stores q stores none))

  pub joint_later : {T U : Type 0} (dev : D) (f : JointFault) → IsJoint {T = T} g new.stores new.dev dev (Err f) → IsJoint {T = U} g old.stores old.dev dev (Err f)
  joint_later dev f is = joint_as g old.stores old.dev dev f (joint_then g (on old.stores old.dev) (on new.stores new.dev) stores leads.calm is)

-- one part after another
pub leads_then : {C D : Type 0} {g : checkpoint.Ghosts C D} {old mid new : Stage C D} → ((q : ℕ) → g.untouched old.dev mid.dev q → g.untouched mid.dev new.dev q → g.untouched old.dev new.dev q) → Leads g old mid → Leads g mid new → Leads g old new
leads_then {g = g} {old = old} {mid = mid} {new = new} join a b = record {
  long = b.long ∙ a.long;
  as_many = b.as_many ∙ a.as_many;
  same = same_later a new.stores b.same;
  others = others_later a new.dev join b.others;
  calm = λ q. calm_then g old.dev mid.dev new.dev q (a.calm q) (b.calm q);
  inputs = b.inputs ∙ a.inputs;
  protocol = b.protocol ∙ a.protocol;
  entries = b.entries ∙ a.entries;
  left = b.left ∙ a.left;
}
