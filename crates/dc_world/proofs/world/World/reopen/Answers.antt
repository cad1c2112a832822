use Rattle.std.proofs.Common.{◌≡◌, ◌∙◌, ◌<◌, ◌++◌, ◌*◌, ℕ, true, false, ap, arith, drop, length, map, refl, rules, subst, sym, take}
use Rattle.dc_elf.specs.Loaded.{seen_image}
use Rattle.dc_kernel.specs.Layout.{kernel_words}
use Rattle.dc_media.specs.Causes.{Rose}
use Rattle.dc_proc.specs.Carried.{system}
use Rattle.dc_processes.specs.Stages.{IsWorld, stage_of}
use Rattle.dc_processes.specs.declared.processes.Processes.{Processes}
use Rattle.dc_protocols.specs.Rules.{is_causal, is_joint}
use Rattle.dc_recovery.specs.Recoveries.{resumed_core}
use Rattle.dc_resume.specs.Suited.{AreSuited, IsFirstUnsuited, saves_in}
use Rattle.dc_together.proofs.Rows.{all_written}
use Rattle.dc_words.specs.Lists.{lists_of}
use Rattle.dc_world.proofs.Again.{begun_again, goes_on, ready}
use Rattle.dc_world.proofs.Attached.{attached_handles}
use Rattle.dc_world.specs.Opened.{AreMadeFor, AreOver}
use Rattle.dc_world.specs.Reopened.{AreAttached, AreDownAt, AreExposed, HasHandle, HasNumber, IsAgain, IsFirstSteady, IsReadBeside, Refuses, Stood}
use Rattle.dc_world.specs.Worlds.{IsReady}
use Rattle.dc_world.proofs.world.World.reopen.Goals as goal

pub read_down-requires-clause-attached : goal.read_down-requires-clause-attached
read_down-requires-clause-attached g c =
    subst (λ zs. AreAttached g.C.Checkpoint c.deref-2.result.now c.args.dev.now zs) (sym c.deref_mut.ensures.value)
    (subst (λ xs. AreAttached g.C.Checkpoint xs c.args.dev.now c.in_ok-stores.stores.items) (c.deref.ensures.value ∙ sym c.deref-2.ensures.value) c.in_ok-stores.ensures.attached)

pub read_down-requires-clause-fit : goal.read_down-requires-clause-fit
read_down-requires-clause-fit g c =
    let many : c.len-n.result ≡ length c.deref-2.result.now = search rules in
    subst (λ vs. AreMadeFor (length c.deref-2.result.now) vs) (sym c.deref_mut-2.ensures.value) (subst (λ n. AreMadeFor n c.in_ok-saved.saved.items) many c.in_ok-saved.ensures.fit)

pub returns-in_err-slots-clause-unsuited : goal.returns-in_err-slots-clause-unsuited
returns-in_err-slots-clause-unsuited g c p e =
    subst (λ ys. (x : IsReadBeside g.C.Checkpoint (system (map seen_image c.args.setup.images.items) (lists_of ys) c.args.setup.protocol) c.args.setup.images.items c.args.earlier.now.acts.now c.args.dev.now c.read_down.new.dev)
    × IsFirstUnsuited (system (map seen_image c.args.setup.images.items) (lists_of ys) c.args.setup.protocol) x.given x.decided x.stored p) c.deref-3.ensures.value
    (subst (λ xs. (x : IsReadBeside g.C.Checkpoint (system (map seen_image xs) (lists_of c.deref-3.result.now) c.args.setup.protocol) xs c.args.earlier.now.acts.now c.args.dev.now c.read_down.new.dev)
    × IsFirstUnsuited (system (map seen_image xs) (lists_of c.deref-3.result.now) c.args.setup.protocol) x.given x.decided x.stored p) c.deref-2.ensures.value (c.in_err-slots.ensures.unsuited p (search rules)))

pub returns-in_err-slots-clause-refused : goal.returns-in_err-slots-clause-refused
returns-in_err-slots-clause-refused g c p fault e =
    subst (λ xs. (d : ℕ) × Refuses g.C.Checkpoint xs d c.read_down.new.dev p fault) c.deref-2.ensures.value (c.in_err-slots.ensures.refused p fault (search rules))

pub returns-in_err-slots-clause-refused_under : goal.returns-in_err-slots-clause-refused_under
returns-in_err-slots-clause-refused_under g c d has p fault e =
    subst (λ xs. HasNumber g.C.Checkpoint xs c.read_down.new.dev d → Refuses g.C.Checkpoint xs d c.read_down.new.dev p fault) c.deref-2.ensures.value
    (λ h. c.in_err-slots.ensures.refused_under d h p fault (search rules)) has

pub returns-in_err-slots-clause-unsteady : goal.returns-in_err-slots-clause-unsteady
returns-in_err-slots-clause-unsteady g c e told =
    subst (λ xs. IsFirstSteady g.C.Checkpoint xs c.args.dev.now → ⊥) c.deref-2.ensures.value (c.in_err-slots.ensures.unsteady (search rules) told)

pub returns-in_err-slots-clause-stood : goal.returns-in_err-slots-clause-stood
returns-in_err-slots-clause-stood g c =
    subst (λ xs. (d : ℕ) → HasNumber g.C.Checkpoint xs c.read_down.new.dev d → HasNumber g.C.Checkpoint xs c.args.dev.now d × Stood g.C.Checkpoint xs d c.args.dev.now c.read_down.new.dev)
    c.deref-2.ensures.value c.read_down.ensures.stood

pub returns-clause-stood : goal.returns-clause-stood
returns-clause-stood g c =
    subst (λ xs. (d : ℕ) → HasNumber g.C.Checkpoint xs c.read_down.new.dev d → HasNumber g.C.Checkpoint xs c.args.dev.now d × Stood g.C.Checkpoint xs d c.args.dev.now c.read_down.new.dev)
    c.deref-2.ensures.value c.read_down.ensures.stood

pub returns-clause-handles : goal.returns-clause-handles
returns-clause-handles g c wanting =
    subst (λ xs. (p : ℕ) → HasHandle g.C.Checkpoint xs p) c.deref.ensures.value (attached_handles g.C.Checkpoint c.deref.result.now c.args.dev.now c.in_ok-stores.stores.items c.in_ok-stores.ensures.long c.in_ok-stores.ensures.attached)

pub returns-in_err-slots-clause-handles : goal.returns-in_err-slots-clause-handles
returns-in_err-slots-clause-handles g c wanting =
    subst (λ xs. (p : ℕ) → HasHandle g.C.Checkpoint xs p) c.deref.ensures.value (attached_handles g.C.Checkpoint c.deref.result.now c.args.dev.now c.in_ok-stores.stores.items c.in_ok-stores.ensures.long c.in_ok-stores.ensures.attached)

pub returns-in_err-slots-clause-stopped : goal.returns-in_err-slots-clause-stopped
returns-in_err-slots-clause-stopped g c p e =
    subst (λ xs. (p < length xs) × Rose (g.C.Checkpoint.stops c.args.dev.now p) (g.C.Checkpoint.stops c.read_down.new.dev p)) c.deref-2.ensures.value (c.in_err-slots.ensures.stopped p (search rules))

pub returns-in_err-slots-clause-failed : goal.returns-in_err-slots-clause-failed
returns-in_err-slots-clause-failed g c p e =
    subst (λ xs. (p < length xs) × Rose (g.C.Checkpoint.faults c.args.dev.now p) (g.C.Checkpoint.faults c.read_down.new.dev p)) c.deref-2.ensures.value (c.in_err-slots.ensures.failed p (search rules))

pub returns-clause-begins : goal.returns-clause-begins
returns-clause-begins g c =
    let w : Processes = record { protocol = c.args.setup.protocol; slots = c.in_ok-slots.slots; inputs = c.args.setup.inputs; acts = c.in_ok-acts.acts; exposed = c.in_ok-slots.exposed; lines = c.args.earlier.now.lines; entries = c.args.earlier.now.entries; left = c.args.entries; joint = c.in_ok-joint.joint } in
    let down : AreDownAt c.args.setup.protocol c.args.setup.images.items c.in_ok-slots.ensures.read.0.stored c.in_ok-slots.slots.items =
    subst (λ xs. AreDownAt c.args.setup.protocol xs c.in_ok-slots.ensures.read.0.stored c.in_ok-slots.slots.items) c.deref-2.ensures.value c.in_ok-slots.ensures.read.2 in
    let slots_long : length c.in_ok-slots.slots.items ≡ length c.args.setup.images.items = c.in_ok-slots.ensures.long.0 ∙ ap (λ xs. length xs) c.deref-2.ensures.value in
    let begins : IsAgain c.args.setup c.args.earlier.now c.args.entries w = begun_again c.args.setup c.args.earlier.now c.args.entries w c.in_ok-slots.ensures.read.0.stored refl refl slots_long down c.in_ok-acts.ensures.items refl refl refl in
    begins

pub returns-clause-ready : goal.returns-clause-ready
returns-clause-ready g c =
    let w : Processes = record { protocol = c.args.setup.protocol; slots = c.in_ok-slots.slots; inputs = c.args.setup.inputs; acts = c.in_ok-acts.acts; exposed = c.in_ok-slots.exposed; lines = c.args.earlier.now.lines; entries = c.args.earlier.now.entries; left = c.args.entries; joint = c.in_ok-joint.joint } in
    let down : AreDownAt c.args.setup.protocol c.args.setup.images.items c.in_ok-slots.ensures.read.0.stored c.in_ok-slots.slots.items =
    subst (λ xs. AreDownAt c.args.setup.protocol xs c.in_ok-slots.ensures.read.0.stored c.in_ok-slots.slots.items) c.deref-2.ensures.value c.in_ok-slots.ensures.read.2 in
    let slots_long : length c.in_ok-slots.slots.items ≡ length c.args.setup.images.items = c.in_ok-slots.ensures.long.0 ∙ ap (λ xs. length xs) c.deref-2.ensures.value in
    let begins : IsAgain c.args.setup c.args.earlier.now c.args.entries w = begun_again c.args.setup c.args.earlier.now c.args.entries w c.in_ok-slots.ensures.read.0.stored refl refl slots_long down c.in_ok-acts.ensures.items refl refl refl in
    let stores = c.in_ok-stores.stores.items in
    let new = c.read_down.new.stores in
    let as_many : length new ≡ length stores = c.read_down.auto.stores ∙ ap (λ xs. length xs) c.deref_mut.ensures.value in
    let all : take c.in_ok-stores.stores.len (new ++ drop (length new) stores) ≡ new = all_written c.in_ok-stores.stores.len stores new (search rules) as_many in
    let long : length new ≡ length c.args.setup.images.items = as_many ∙ c.in_ok-stores.ensures.long ∙ ap (λ xs. length xs) c.deref.ensures.value in
    let over : AreOver g.C.Checkpoint c.args.setup.images.items new = subst (λ xs. AreOver g.C.Checkpoint xs new) c.deref-2.ensures.value c.in_ok-slots.ensures.over in
    let many : c.len-n.result ≡ length c.args.setup.images.items = search rules in
    subst (λ zs. IsReady g.C.Checkpoint zs c.read_down.new.dev w) (sym all)
    (ready g.C.Checkpoint c.args.setup c.args.earlier.now c.args.entries new c.read_down.new.dev w begins long over c.in_ok-slots.ensures.read.0.stored down c.in_ok-slots.ensures.lent
    c.args.setup.some c.args.setup.few c.args.setup.each (c.in_ok-slots.ensures.long.1 ∙ ap (λ xs. length xs) c.deref-2.ensures.value) c.requires.acts c.requires.lines c.requires.entries c.in_ok-acts.ensures.room
    (subst (λ n. is_joint c.args.setup.protocol ≡ true → length c.in_ok-joint.joint.texts.items ≡ kernel_words n * n) many c.in_ok-joint.ensures.texts)
    (subst (λ n. is_joint c.args.setup.protocol ≡ true → length c.in_ok-joint.joint.saved.items ≡ n) many c.in_ok-joint.ensures.saved_long)
    (subst (λ n. AreMadeFor n c.in_ok-joint.joint.saved.items) many c.in_ok-joint.ensures.saved_fit))

pub returns-clause-over : goal.returns-clause-over
returns-clause-over g c =
    let stores = c.in_ok-stores.stores.items in
    let new = c.read_down.new.stores in
    let as_many : length new ≡ length stores = c.read_down.auto.stores ∙ ap (λ xs. length xs) c.deref_mut.ensures.value in
    let all : take c.in_ok-stores.stores.len (new ++ drop (length new) stores) ≡ new = all_written c.in_ok-stores.stores.len stores new (search rules) as_many in
    subst (λ zs. AreOver g.C.Checkpoint c.args.setup.images.items zs) (sym all) (subst (λ xs. AreOver g.C.Checkpoint xs new) c.deref-2.ensures.value c.in_ok-slots.ensures.over)

pub returns-clause-reopened : goal.returns-clause-reopened
returns-clause-reopened g c =
    let old = c.args.dev.now in
    let dev = c.read_down.new.dev in
    let protocol = c.args.setup.protocol in
    let reported = c.args.earlier.now.acts.now in
    let slots = c.in_ok-slots.slots.items in
    let exposed = c.in_ok-slots.exposed.items in
    let read = subst (λ ys. (x : IsReadBeside g.C.Checkpoint (system (map seen_image c.args.setup.images.items) (lists_of ys) protocol) c.args.setup.images.items reported old dev)
    × AreSuited (system (map seen_image c.args.setup.images.items) (lists_of ys) protocol) x.given x.decided x.stored × AreDownAt protocol c.args.setup.images.items x.stored slots
    × (is_causal protocol ≡ false → AreExposed (system (map seen_image c.args.setup.images.items) (lists_of ys) protocol) x.given exposed)) c.deref-3.ensures.value
    (subst (λ xs. (x : IsReadBeside g.C.Checkpoint (system (map seen_image xs) (lists_of c.deref-3.result.now) protocol) xs reported old dev)
    × AreSuited (system (map seen_image xs) (lists_of c.deref-3.result.now) protocol) x.given x.decided x.stored × AreDownAt protocol xs x.stored slots
    × (is_causal protocol ≡ false → AreExposed (system (map seen_image xs) (lists_of c.deref-3.result.now) protocol) x.given exposed)) c.deref-2.ensures.value c.in_ok-slots.ensures.read) in
    let w : Processes = record { protocol = protocol; slots = c.in_ok-slots.slots; inputs = c.args.setup.inputs; acts = c.in_ok-acts.acts; exposed = c.in_ok-slots.exposed; lines = c.args.earlier.now.lines; entries = c.args.earlier.now.entries; left = c.args.entries; joint = c.in_ok-joint.joint } in
    let slots_long : length slots ≡ length c.args.setup.images.items = c.in_ok-slots.ensures.long.0 ∙ ap (λ xs. length xs) c.deref-2.ensures.value in
    let begins : IsAgain c.args.setup c.args.earlier.now c.args.entries w = begun_again c.args.setup c.args.earlier.now c.args.entries w read.0.stored refl refl slots_long read.2 c.in_ok-acts.ensures.items refl refl refl in
    let stores = c.in_ok-stores.stores.items in
    let new = c.read_down.new.stores in
    let as_many : length new ≡ length stores = c.read_down.auto.stores ∙ ap (λ xs. length xs) c.deref_mut.ensures.value in
    let all : take c.in_ok-stores.stores.len (new ++ drop (length new) stores) ≡ new = all_written c.in_ok-stores.stores.len stores new (search rules) as_many in
    let long : length new ≡ length c.args.setup.images.items = as_many ∙ c.in_ok-stores.ensures.long ∙ ap (λ xs. length xs) c.deref.ensures.value in
    let over : AreOver g.C.Checkpoint c.args.setup.images.items new = subst (λ xs. AreOver g.C.Checkpoint xs new) c.deref-2.ensures.value c.in_ok-slots.ensures.over in
    let entries = c.requires.entries in (
      read.0,
      read.1,
      λ free lines shown. subst (λ zs. IsWorld g.C.Checkpoint (system (map seen_image c.args.setup.images.items) (lists_of c.args.setup.inputs.items) protocol)
          (resumed_core read.0.given lines (saves_in (system (map seen_image c.args.setup.images.items) (lists_of c.args.setup.inputs.items) protocol) read.0.stored)) (stage_of zs dev w)) (sym all)
          (goes_on g.C.Checkpoint c.args.setup c.args.earlier.now c.args.entries new old dev w begins long over read.0 read.2 read.1 c.args.setup.some (omega (arith, entries)) free (read.3 free) c.in_ok-slots.ensures.steady lines shown),
    )
