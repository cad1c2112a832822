use Rattle.dc_together.proofs.Taken.{Takes, broken, counts_taken, down_taken, fit_taken, happened, stores_taken, well_taken}
use Rattle.std.proofs.Common.{◌≡◌, ◌∙◌, ◌<◌, Some, IfSome, ap, get_or, length, refl, slice_set, subst, sym, rules}
use Rattle.dc_guest.specs.Answers.{answer_of, effect_of}
use Rattle.dc_guest.specs.Guest.{event_of, machine_over, next_of, over}
use Rattle.dc_proc.specs.Turns.{shown_of, visible_shown}
use Rattle.dc_proc.specs.declared.up.Up.{Up as Process}
use Rattle.dc_together.proofs.together.take_event.Given.{Over}
use Rattle.dc_together.proofs.together.take_event.Goals.{After-joint_fault, After-note_exposed, After-take_in}
use Rattle.dc_together.proofs.together.take_event.Goals as goal
use Rattle.dc_checkpoint.specs.Handles.{same_then}
use Rattle.dc_twophase.proofs.Calling.{One, Stood, stores_after}
use Rattle.dc_twophase.proofs.Counting.{joint_ok, joint_refused}
use Rattle.dc_twophase.proofs.Laws.{Laws, QuietLaws}
use Rattle.dc_twophase.proofs.Pairs.{one_only, pair_then}
use Rattle.dc_processes.proofs.Allowing.{MayAt, may_there}
use Rattle.dc_processes.proofs.Slots.{noted_long, there_read, up_same}
use Rattle.dc_processes.specs.Slots.{slot_at}
use Rattle.dc_processes.specs.Taking.{ShowsNext}
use Rattle.dc_processes.specs.declared.processes.Processes.{Processes}
use Rattle.dc_processes.specs.declared.slot.Slot.TheVariants.{Up}
use Rattle.std.proofs.lemmas.List.{length-set}
use Rattle.std.proofs.lemmas.Option.{slice_get-get_or}

-- what the trait's laws say of a device that is as it was
laws : (g : Over) → Laws g.C.Checkpoint
laws g = let met = g.met.C.Checkpoint in record {
  untouched_self = met.untouched_self;
  untouched_on = met.untouched_on;
  untouched_back = met.untouched_back;
  lent_still = met.lent_still;
  ready_still = met.ready_still;
  prepared_still = met.prepared_still;
  decidable_still = met.decidable_still;
  steady_still = met.steady_still;
  leaves_still = met.leaves_still;
  numbers_still = met.numbers_still;
  contents_still = met.contents_still;
  continues_self = met.continues_self;
  continues_on = met.continues_on;
}

-- and of its counts
quiet : (g : Over) → QuietLaws g.C.Checkpoint
quiet g = record { told_still = g.met.C.Checkpoint.told_still; counts_same = g.met.C.Checkpoint.counts_same }

-- the call for the store of process p, whole or refused
module _ (g : Over) (c : After-take_in g) where
  abbrev one : One g.row.C.Denot g.row.C-Device.Denot
  one = record { stores = c.args.stores.now; k = c.args.p; before = get_or c.args.stores.now c.args.p c.index-stores-p.result; after = c.take_in.new.store; old = c.args.dev.now; new = c.take_in.new.dev }

  stood : Stood one
  stood = slice_get-get_or one.stores one.k c.index-stores-p.result (subst (λ m. one.k < m) (sym c.requires.stores) c.requires.process)

  may : MayAt g.C.Checkpoint one.before one.old (answer_of c.args.answer.now) (slot_at c.args.processes.now.slots.items one.k)
  may = may_there g.C.Checkpoint one.before one.old (answer_of c.args.answer.now) (slot_at c.args.processes.now.slots.items one.k) (c.requires.may one.before stood)

  takes : Takes g.C.Checkpoint one c.args.processes.now (answer_of c.args.answer.now) c.take_in.new.slot c.take_in.new.acts.items c.take_in.new.shown c.take_in.result
  takes = record {
    laws = laws g;
    well = c.requires.well;
    process = c.requires.process;
    long = c.requires.stores;
    belongs = c.requires.belongs;
    fit = c.requires.fit;
    stood = stood;
    may = may;
    taken = c.take_in.ensures.taken may.up (there_read c.args.processes.now.slots.items one.k c.index_mut-slot.result.now (Some (Up may.up)) c.requires.process c.index_mut-slot.ensures.value may.there);
    call = c.take_in.ensures.call;
  }

-- it was whole, and what it showed is noted
abbrev whole : (g : Over) → After-note_exposed g → After-take_in g
whole g c = (goal.at.returns-in-Ok-clause-well g c).After-take_in

slots_noted : (g : Over) (c : After-note_exposed g) → c.note_exposed.new.self.slots.items ≡ slice_set c.args.processes.now.slots.items c.args.p c.take_in.new.slot
slots_noted g c = ap (λ (w : Processes). w.slots.items) c.note_exposed.ensures.rest

acts_noted : (g : Over) (c : After-note_exposed g) → c.note_exposed.new.self.acts.items ≡ c.take_in.new.acts.items
acts_noted g c = ap (λ (w : Processes). w.acts.items) c.note_exposed.ensures.rest

pub returns-in-Ok-clause-well : goal.returns-in-Ok-clause-well
returns-in-Ok-clause-well g c = well_taken (takes g (whole g c)) c.note_exposed.new.self (slots_noted g c) (search rules) (search rules)
    (ap (λ xs. length xs) c.note_exposed.ensures.exposed ∙ noted_long _ c.args.processes.now.exposed.items c.args.p _)

pub returns-in-Ok-clause-stores : goal.returns-in-Ok-clause-stores
returns-in-Ok-clause-stores g c = stores_taken (takes g (whole g c))

pub returns-in-Ok-clause-others : goal.returns-in-Ok-clause-others
returns-in-Ok-clause-others g c q none = c.take_in.ensures.call.touches.others q (none c.args.p _ (stood g (whole g c)))

pub returns-in-Ok-clause-joint : goal.returns-in-Ok-clause-joint
returns-in-Ok-clause-joint g c = joint_ok g.C.Checkpoint (quiet g) (one g (whole g c)) c.in-Ok.mark c.in-Ok.mark c.in-Ok.ensures.call.touches.others c.in-Ok.ensures.call.touches.counts

pub returns-in-Ok-clause-showed : goal.returns-in-Ok-clause-showed
returns-in-Ok-clause-showed g c =
    let slot = slot_at c.args.processes.now.slots.items c.args.p in
    let made = may g (whole g c) in
    let of = c.requires.well.each c.args.p (Up made.up) c.requires.process made.there in
    let shows = (c.in-Ok.ensures.taken made.up (there_read c.args.processes.now.slots.items c.args.p c.index_mut-slot.result.now (Some (Up made.up)) c.requires.process c.index_mut-slot.ensures.value made.there)).showed in
    record {
      done = shows.done;
      mark_is = shows.mark_is;
      shown_is = shows.shown_is ∙ ap (λ q. visible_shown q shows.done) of.2;
      showed = λ b at. subst (λ z. ShowsNext g.C.Checkpoint z c.args.dev.now slot shows.done) (one_only c.args.stores.now c.args.p b _ at (stood g (whole g c)))
          (λ u is. subst (λ (v : Process). IfSome (g.C.Checkpoint.contents (one g (whole g c)).before c.args.dev.now) (λ ws. shows.done ≡ shown_of (effect_of (event_of (next_of (over v.guest ws)) (machine_over v.guest ws))) v.kernel.visible)) (up_same made.up u (sym made.there ∙ is)) shows.showed);
    }

pub returns-in-Ok-clause-fit : goal.returns-in-Ok-clause-fit
returns-in-Ok-clause-fit g c = fit_taken (takes g (whole g c)) c.in-Ok.mark c.in-Ok.is c.note_exposed.new.self.slots.items (slots_noted g c) c.in-Ok.ensures.ready

pub returns-in-Ok-clause-counts : goal.returns-in-Ok-clause-counts
returns-in-Ok-clause-counts g c = counts_taken (takes g (whole g c)) c.in-Ok.mark c.in-Ok.is c.note_exposed.new.self.slots.items (slots_noted g c)

pub returns-in-Ok-clause-happens : goal.returns-in-Ok-clause-happens
returns-in-Ok-clause-happens g c images core together told go inside given world =
    happened (takes g (whole g c)) g.met.C.Checkpoint.told_contents g.met.C.Checkpoint.some_number images core together told go inside given world
    c.in-Ok.mark c.in-Ok.is c.in-Ok.ensures.ready c.note_exposed.new.self (search rules) (slots_noted g c) (acts_noted g c)
    (rw (acts_noted g c, sym c.count_of-acts.ensures, sym c.is_some.ensures) c.note_exposed.ensures.exposed)

-- it was refused, and all fell
abbrev refused : (g : Over) → After-joint_fault g → After-take_in g
refused g c = (goal.at.returns-in-Err-clause-stores g c).After-take_in

pub power-requires-clause-well : goal.power-requires-clause-well
power-requires-clause-well g c = let x = (goal.at.power-requires-clause-well g c).After-take_in in well_taken (takes g x) _ refl refl refl refl

pub returns-in-Err-clause-stores : goal.returns-in-Err-clause-stores
returns-in-Err-clause-stores g c = pair_then c.args.stores.now (stores_after (one g (refused g c))) c.power.new.stores (length-set c.args.stores.now c.args.p c.take_in.new.store) (λ i b y z was now. same_then was now.same)
    (stores_taken (takes g (refused g c))) c.power.ensures.stores

pub returns-in-Err-clause-others : goal.returns-in-Err-clause-others
returns-in-Err-clause-others g c q none = c.take_in.ensures.call.touches.others q (none c.args.p _ (stood g (refused g c)))

pub returns-in-Err-clause-joint : goal.returns-in-Err-clause-joint
returns-in-Err-clause-joint g c = rw c.joint_fault.ensures (joint_refused g.C.Checkpoint (quiet g) (one g (refused g c)) c.in-Err.fault (stood g (refused g c)) c.in-Err.ensures.call.touches.others c.in-Err.ensures.call.touches.counts)

pub returns-in-Err-clause-down : goal.returns-in-Err-clause-down
returns-in-Err-clause-down g c = down_taken (takes g (refused g c)) c.power.new.stores c.power.ensures.as_many c.power.ensures.stores c.power.new.self.slots.items c.power.ensures.falls

pub returns-in-Err-clause-broken : goal.returns-in-Err-clause-broken
returns-in-Err-clause-broken g c have images core together told go inside given world =
    broken (takes g (refused g c)) g.met.C.Checkpoint.told_contents g.met.C.Checkpoint.some_number images core together told go inside given world
    c.in-Err.fault c.in-Err.is c.power.new.self (search rules) c.power.ensures.long (search rules) c.power.ensures.falls c.power.new.stores c.power.ensures.as_many c.power.ensures.stores c.requires.left have
