-- A run from its opening to its end.
use Rattle.std.proofs.Common.{◌≡◌, ◌∙◌, ◌≤◌, ◌<◌, ◌-◌, ◌^◌, ◌++◌, ℕ, Bool, true, false, List, [], Option, None, Some, IfSome, ap, arith, length, map, refl, slice_get, subst, sym, ⊎_elim}
use Rattle.std.proofs.lemmas.Bool.{cases_Bool, cases_lt}
use Rattle.std.proofs.lemmas.List.{append-nil, length-map}
use Rattle.dc_acts.specs.Lines.{text_of}
use Rattle.dc_audit.specs.declared.journal.Line.{Line}
use Rattle.dc_checkpoint.specs.declared.checkpoint.Checkpoint as checkpoint
use Rattle.dc_course.specs.Journals.{EndsAtFirstStop, IsJournalOf}
use Rattle.dc_recovery.specs.Unstopped.{AreTurns}
use Rattle.dc_media.specs.Told.{Becomes}
use Rattle.dc_model.specs.declared.mark.Mark.{Mark}
use Rattle.dc_protocols.specs.Rules.{is_joint}
use Rattle.dc_guest.specs.Guest.{Guest}
use Rattle.dc_proc.specs.Processes.{IsAt}
use Rattle.dc_processes.specs.Worlds.{IsUp}
use Rattle.dc_recovery.proofs.Unstopping.{determined}
use Rattle.dc_recovery.specs.Core.{Core, at_start, opened_core, opening}
use Rattle.dc_recovery.specs.Systems.{System}
use Rattle.dc_recovery.specs.Turned.{LeadsTo}
use Rattle.dc_world.specs.Ended.{HaveEnded}
use Rattle.dc_processes.specs.Slots.{slot_at}
use Rattle.dc_together.specs.Joints.{IsDownAt, IsFitAt, Belongs}
use Rattle.dc_world.specs.Worlds.{IsReady}
use Rattle.dc_processes.specs.Stages.{IsHandled, IsTold, IsWorld, KeepsTelling, Stage, seen_of, stage_of}
use Rattle.dc_world.specs.declared.faults.TurnFault.{TurnFault}
use Rattle.dc_world.specs.declared.faults.TurnFault.TheVariants as fault
use Rattle.dc_processes.specs.declared.processes.Processes.{Processes}
use Rattle.dc_processes.specs.declared.slot.Slot.{Slot}
use Rattle.dc_processes.specs.declared.slot.Slot.TheVariants.{Down, Up}
use Rattle.dc_course.proofs.Between.{Later}
use Rattle.dc_course.proofs.Promised.{led_opened, promised}
use Rattle.dc_course.proofs.Steps.{steps_whole}
use Rattle.dc_course.specs.Courses.{IsCourse, Counts, PlannedCome, StoresLeft, TellsThroughout, ending_by, ending_of}
use Rattle.dc_course.specs.Headline.{AreUpAlike, IsEnding, Last, Setting, StopsTold, marks_at, system_in, turn_after}
use Rattle.dc_course.specs.Headline.Last.{Whole, CutOff, Broken}
use Rattle.dc_course.specs.declared.ending.Ending.{Ending}
use Rattle.dc_course.specs.declared.ending.Ending.TheVariants as ending
use Rattle.std.specs.Option.{option_map}
use Rattle.std.proofs.lemmas.Option.{slice_get-map, slice_get_within}
use Rattle.dc_elf.specs.Loaded.{seen_image}
use Rattle.dc_elf.specs.declared.image.Image.{Image as Images}
use Rattle.dc_twophase.proofs.Pairs.{known}
use Rattle.dc_world.specs.Opened.{AreOver, IsOver}
use Rattle.dc_course.specs.Running.{AreOverIn, IsEnded, IsEndedBy, IsRunning, Moment, Output, output}

-- nothing was written
nothing_written : (held : Option (List ℕ)) → Becomes held held (λ before now. now ≡ before ++ text_of [])
nothing_written None = tt
nothing_written (Some text) = sym (append-nil text)

-- a run that just began
pub begun_running : {C D : Type 0} (g : checkpoint.Ghosts C D) (setting : Setting) (begun : Core) (x : Stage C D) (marks : List Mark) (held : Option (List ℕ)) → x.protocol ≡ setting.protocol → x.inputs ≡ setting.inputs → x.entries ≡ setting.from → marks ≡ []
    → AreOverIn g setting x.stores → IsWorld g (system_in setting) begun x → IsRunning g setting begun x marks (output held held)
begun_running g setting begun x marks held protocol inputs entries empty over world = subst (λ ms. IsRunning g setting begun x ms (output held held)) (sym empty) (record {
  core = begun;
  added = [];
  of = record { protocol_is = protocol; inputs_are = inputs };
  led = refl;
  lines_are = refl;
  world = world;
  over = over;
  entries_are = omega (arith, entries);
  shows = nothing_written held;
})

-- stores that are over those of a setup's images are so in its setting
pub over_in : {C D : Type 0} (g : checkpoint.Ghosts C D) (setting : Setting) (images : List Images) (stores : List C) → setting.images ≡ map seen_image images → AreOver g images stores → AreOverIn g setting stores
over_in g setting images stores are over p c image at there =
    let long : length setting.images ≡ length images = ap length are ∙ length-map images seen_image in
    let w = slice_get_within setting.images p image there in
    let found = known images p (omega (arith, w, long)) in
    let both : Some (seen_image found.0) ≡ Some image = sym (slice_get-map seen_image images p ∙ ap (option_map seen_image) found.1) ∙ ap (λ xs. slice_get xs p) (sym are) ∙ there in
    let same : seen_image found.0 ≡ image = cc in
    subst (λ n. IsOver g n p image c) (sym long) (subst (λ im. IsOver g (length images) p im c) same (over p c at found.0 found.1))

-- a world stands for the opened core whatever is said of processes that are not there
pub up_as : {C D : Type 0} (g : checkpoint.Ghosts C D) (S : System Guest) (x : Stage C D) (up up1 : ℕ → Bool) → ((p : ℕ) → p < S.guests.count → up1 p ≡ up p) → IsWorld g S (opened_core up) x → IsWorld g S (opened_core up1) x
up_as g S x up up1 same world = record {
  count_is = world.count_is;
  protocol_is = world.protocol_is;
  seven = world.seven;
  inputs_are = world.inputs_are;
  stands = record {
    each = λ p inside on. let was : IsUp S (opened_core up) p (seen_of g x p) = world.stands.each p inside (sym (same p inside) ∙ on) in record {
      here = subst (λ b. IsAt S p [] (at_start b) (seen_of g x p).words (seen_of g x p).held) (sym (same p inside)) was.here;
      known = was.known;
    };
    stores = record { one = world.stands.stores.one; all = world.stands.stores.all };
  };
  up_are = λ p inside. same p inside ∙ world.up_are p inside;
  based_are = world.based_are;
  acts_are = world.acts_are;
  exposed_are = world.exposed_are;
  lines_are = world.lines_are;
  numbered = world.numbered;
  undecided = world.undecided;
  decided = world.decided;
}

-- a moment of a run whose devices tell throughout is told
pub told_at : {C D : Type 0} (g : checkpoint.Ghosts C D) (n : ℕ) (old new : D) (x : Stage C D) → length x.slots ≡ n → TellsThroughout g n old new → ((p : ℕ) → KeepsTelling g old x.dev p) → Later g x.dev new → IsTold g x
told_at g n old new x long tells keeps later = record {
  told = λ p less. let i = inside p less in keeps p (below p i).0 (below p i).1 (tells.told p i);
  stops = λ p less. (below p (inside p less)).0;
  faults = λ p less. (below p (inside p less)).1;
}
  where
    -- one of n
    inside : (p : ℕ) → p < length x.slots → p < n
    inside p less = subst (λ m. p < m) long less

    -- its counts are below their last values
    below : (p : ℕ) → p < n → (g.stops x.dev p < 2 ^ 64 - 1) × (g.faults x.dev p < 2 ^ 64 - 1)
    below p less = let l = later p in let s = tells.stops p less in let f = tells.faults p less in (omega (arith, l.0, s), omega (arith, l.1, f))

-- a store that its process may use is lent
module _ {C D : Type 0} (g : checkpoint.Ghosts C D) (c : C) (dev : D) where
  handled_lent : (turns : ℕ) (slot : Option Slot) → IsHandled g turns c dev slot → g.lent c dev
  handled_lent turns None is = absurd is
  handled_lent turns (Some (Up u)) is = is.0.lent
  handled_lent turns (Some (Down d)) is = is.0

  fit_lent : (slot : Option Slot) → IsFitAt g c dev slot → g.lent c dev
  fit_lent None is = absurd is
  fit_lent (Some (Up u)) is = is.lent
  fit_lent (Some (Down d)) is = absurd is

  down_lent : (slot : Option Slot) → IsDownAt g c dev slot → g.lent c dev
  down_lent None is = absurd is
  down_lent (Some (Up u)) is = absurd is
  down_lent (Some (Down d)) is = is.0

-- so is each store of a world that may run
pub lent_of : {C D : Type 0} (g : checkpoint.Ghosts C D) (stores : List C) (dev : D) (w : Processes) → IsReady g stores dev w → (p : ℕ) (c : C) → slice_get stores p ≡ Some c → g.lent c dev
lent_of g stores dev w ready p c at = ⊎_elim
    (λ (together : is_joint w.protocol ≡ true). ⊎_elim (λ fit. fit_lent g c dev (slot_at w.slots.items p) (fit.0 p c at)) (λ down. down_lent g c dev (slot_at w.slots.items p) (down p c at)) (ready.together together).0)
    (λ (alone : is_joint w.protocol ≡ false). handled_lent g c dev w.left (slot_at w.slots.items p) (ready.handled alone p c at))
    (cases_Bool (is_joint w.protocol))

-- how the last entry of a run went, and that it ended so
pub record Came {C D : Type 0} (g : checkpoint.Ghosts C D) (setting : Setting) (begun : Core) (ending : Ending) (m : Moment C D) (first : Option (List ℕ)) : Type 0 where
  pub last : Last
  pub ended : IsEnded g setting begun m.stage m.marks last (output first m.held)
  pub is : IsEnding setting ending m.marks last ended.core

-- and the last one was not whole
pub record CameBroken {C D : Type 0} (g : checkpoint.Ghosts C D) (setting : Setting) (begun : Core) (ending : Ending) (m : Moment C D) (first : Option (List ℕ)) : Type 0 where
  pub last : Last
  pub ended : IsEnded g setting begun m.stage m.marks last (output first m.held)
  pub is : IsEnding setting ending m.marks last ended.core
  pub broken : last ≡ Whole → ⊥

module _ {C D : Type 0} (g : checkpoint.Ghosts C D) (setting : Setting) (begun : Core) (m : Moment C D) (first : Option (List ℕ)) where
  -- with its schedule
  pub ending_whole : (b : Bool) (r : IsRunning g setting begun m.stage m.marks (output first m.held)) → HaveEnded b (system_in setting).guests r.core → turn_after setting m.marks ≡ length setting.schedule → Came g setting begun (ending_of b) m first
  unfolding steps_whole
  ending_whole true r have used = record { last = Whole; ended = steps_whole g setting begun m.stage m.marks (output first m.held) r; is = ((used, refl), have) }
  ending_whole false r have used = record { last = Whole; ended = steps_whole g setting begun m.stage m.marks (output first m.held) r; is = ((used, refl), have) }

  -- by a stop
  pub ending_cut : (p : ℕ) (r : IsRunning g setting begun m.stage m.marks (output first m.held)) → p < length setting.images → Came g setting begun (ending.Stopped p) m first
  unfolding steps_whole
  ending_cut p r less = record { last = Whole; ended = steps_whole g setting begun m.stage m.marks (output first m.held) r; is = (refl, less) }

  -- by a fault
  pub ending_broken : (f : TurnFault) → IsEndedBy g f setting begun m first → CameBroken g setting begun (ending_by f) m first
  ending_broken (fault.Device p) ended = record { last = Broken; ended = ended.0; is = (refl, ended.1, ended.2); broken = λ e. absurd (cc) }
  ending_broken (fault.Store p why) ended = absurd ended
  ending_broken fault.Sink ended = record { last = CutOff ended.0; ended = ended.1; is = (ended.0, refl, ended.2); broken = λ e. absurd (cc) }

-- the stores that a run leaves, wherever it began
pub left_stores : {C D : Type 0} (g : checkpoint.Ghosts C D) (setting : Setting) (begun : Core) (stores : List C) (dev : D) (w : Processes) (marks : List Mark) (last : Last) (out : Output)
    (ended : IsEnded g setting begun (stage_of stores dev w) marks last out) → IsReady g stores dev w → length w.slots.items ≡ length setting.images → StoresLeft g setting ended.core dev
left_stores g setting begun stores dev w marks last out ended ready long = record {
  stores = stores;
  all = ready.stores_long ∙ long;
  belongs = λ p c at. subst (λ n. Belongs g n p c) long (ready.belongs p c at);
  lent = lent_of g stores dev w ready;
  over = ended.over;
  stand = ended.stores;
  reread = ended.reread;
}

module _ {C D : Type 0} (g : checkpoint.Ghosts C D) (setting : Setting) (up : ℕ → Bool) (alike : AreUpAlike setting up) (from_is : setting.from ≡ 0) (stores : List C) (dev : D) (w : Processes) (marks : List Mark) (last : Last) (out : Output)
    (ended : IsEnded g setting (opened_core up) (stage_of stores dev w) marks last out) (ready : IsReady g stores dev w) (long : length w.slots.items ≡ length setting.images) (beyond : ((p : ℕ) → p < length setting.images → up p ≡ true) → (p : ℕ) → length setting.images ≤ p → up p ≡ true) where
  -- the stores that it leaves
  stores_left : StoresLeft g setting ended.core dev
  stores_left = left_stores g setting (opened_core up) stores dev w marks last out ended ready long

  -- where no process of the run is down, nothing is
  all_up : ((p : ℕ) → p < length setting.images → up p ≡ true) → (p : ℕ) → up p ≡ true
  all_up below p = ⊎_elim (λ (less : p < length setting.images). below p less) (λ (high : length setting.images ≤ p). beyond below p high) (cases_lt p (length setting.images))

  -- so the marks lead there from where all are up
  led_up : ((p : ℕ) → p < length setting.images → up p ≡ true) → LeadsTo (system_in setting) setting.schedule (opening (λ p. true)) (marks_at last marks) ended.core
  led_up below = subst (λ u. LeadsTo (system_in setting) setting.schedule (opening u) (marks_at last marks) ended.core) (λ i p. all_up below p i) (led_opened setting up from_is (marks_at last marks) ended.core ended.led)

  -- it keeps what it promises
  pub course_is : (counts : Counts D) (ending : Ending) → dev ≡ counts.after → IsEnding setting ending marks last ended.core → StopsTold setting up marks (counts.stops counts.before) (counts.stops counts.after)
      → PlannedCome setting (opening up) (λ core d. StoresLeft g setting core d) counts last marks
      → (journal : Option (List Line)) → (AreTurns setting.schedule → IfSome journal (λ lines. EndsAtFirstStop ending up marks × IsJournalOf setting up marks lines))
      → IsCourse setting (record { acts = w.acts.items; marks = marks; lines = w.lines; journal = journal }) ending out counts (λ core d. StoresLeft g setting core d)
  course_is counts ending same is told come journal noted = record {
    last = last;
    up = up;
    alike = alike;
    core = ended.core;
    headline = promised g setting up alike from_is (stage_of stores dev w) marks last out ended journal;
    ending_is = is;
    stops_told = told;
    planned_come = come;
    left = subst (λ d. StoresLeft g setting ended.core d) same stores_left;
    determined = λ below only whole. determined (system_in setting) setting.schedule only (marks_at last marks) ended.core (led_up below) whole;
    journal = noted;
  }
