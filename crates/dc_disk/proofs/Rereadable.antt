-- Logs that a run left are read again, and suit its acts.
use Rattle.std.proofs.Common.{◌≡◌, ◌∙◌, ◌+◌, ◌*◌, ◌<◌, ◌≤◌, ℕ, Bool, List, [], None, Some, IfErr, IsSome, Result, Ok, Err, OnErr, true, false, ap, arith, length, map, refl, slice_get, subst, sym, ⊎_elim}
use Rattle.std.proofs.lemmas.List.{length-map}
use Rattle.std.proofs.lemmas.Option.{slice_get-map}
use Rattle.std.specs.Option.{option_map}
use Rattle.dc_checkpoint.specs.States.{Reading, number_in}
use Rattle.dc_checkpoint.specs.declared.faults.StoreFault.{StoreFault}
use Rattle.dc_course.specs.Headline.{Setting, system_in}
use Rattle.dc_elf.specs.Images.{Image as Seen}
use Rattle.dc_elf.specs.Loaded.{seen_image}
use Rattle.dc_elf.specs.declared.image.Image.{Image}
use Rattle.dc_guest.specs.Guest.{Guest}
use Rattle.dc_media.specs.declared.disks.Disks as disks
use Rattle.dc_media.specs.declared.planned.PlannedStop.{PlannedStop}
use Rattle.dc_model.proofs.Reports.{reported_once, reported_run}
use Rattle.dc_model.specs.Runs.{own}
use Rattle.dc_model.specs.FailureFree.{run, world_of}
use Rattle.dc_model.specs.declared.act.Taken.{Taken}
use Rattle.dc_model.specs.declared.entry.Entry.{Entry}
use Rattle.dc_proc.proofs.Texts.{number_is, state_in}
use Rattle.dc_proc.specs.Processes.{IsSavedAs, reading_of}
use Rattle.dc_processes.specs.Stages.{decided_by}
use Rattle.dc_processes.specs.Worlds.{StoresStand, others_of}
use Rattle.dc_protocols.specs.Rules.{is_joint}
use Rattle.dc_recovery.specs.Core.{Core}
use Rattle.dc_recovery.specs.Saves.{Save}
use Rattle.dc_recovery.specs.Systems.{System}
use Rattle.dc_redo.specs.Handles.{IsSteady}
use Rattle.dc_redo.specs.Laws.{some_number, some_reading}
use Rattle.dc_redo.specs.Shapes.{Shape}
use Rattle.dc_redo.specs.Standing.{Numbers, StandsFor}
use Rattle.dc_reread.specs.declared.faults.RereadFault.{RereadFault}
use Rattle.dc_reread.specs.declared.faults.RereadFault.TheVariants as fault
use Rattle.dc_resume.proofs.Alike.{suited_alike}
use Rattle.dc_resume.proofs.Halting.{are_suited}
use Rattle.dc_resume.specs.Suited.{AreNumbered, AreSuited, IsFirstUnsuited, IsReached}
use Rattle.dc_twophase.proofs.Pairs.{known}
use Rattle.dc_disk.specs.Logs.{AreLeftAt, AreLogsRead, FirstLogHas, IsFirstLogSteady, LogRefuses, LogsLeft, LogsStood, comes_of_content, log_for}

-- what a run of a setting left is left for each part of it
logs_again : {S : Type 0} (disk : disks.Ghosts S) (setting : Setting) (schedule : List Entry) (stops : List PlannedStop) (from : ℕ) (core : Core) (dev : S) → LogsLeft disk setting core dev
    → LogsLeft disk (record setting { schedule = schedule; stops = stops; from = from }) core dev
logs_again disk setting schedule stops from core dev left =
    record { shape = left.shape; shape_is = left.shape_is; stand = record { one = left.stand.one; all = left.stand.all }; steady = left.steady; alone = left.alone; reached = left.reached }

pub left_again : {S : Type 0} (disk : disks.Ghosts S) (setting : Setting) (schedule : List Entry) (stops : List PlannedStop) (from entries lines : ℕ) (acts : List Taken) (dev : S) → AreLeftAt disk setting entries lines acts dev
    → AreLeftAt disk (record setting { schedule = schedule; stops = stops; from = from }) entries lines acts dev
left_again disk setting schedule stops from entries lines acts dev at = record {
  schedule = at.schedule;
  core = at.core;
  come = at.come;
  few = at.few;
  numbered = at.numbered;
  alike = at.alike;
  acts_are = at.acts_are;
  lines_are = at.lines_are;
  left = logs_again disk setting schedule stops from at.core dev at.left;
}

module _ {S : Type 0} (disk : disks.Ghosts S) (setting : Setting) (images : List Image) (are : map seen_image images ≡ setting.images) (entries lines : ℕ) (acts : List Taken) (old new : S) (some : 0 < length images)
    (left : AreLeftAt disk setting entries lines acts old) (tells : (p : ℕ) → p < length images → IsSome (disk.told new p)) where
  abbrev of : System Guest
  of = system_in setting

  abbrev n : ℕ
  n = length images

  many : length setting.images ≡ n
  many = ap (λ (xs : List Seen). length xs) (sym are) ∙ length-map images seen_image

  -- the image that a process began with
  image_at : (p : ℕ) → p < n → (image : Image) × (slice_get images p ≡ Some image)
  image_at p less = known images p less

  -- its log
  abbrev log_of : ℕ → Image → Shape
  log_of p image = log_for n p (seen_image image)

  shape_is : (p : ℕ) (image : Image) → slice_get images p ≡ Some image → left.left.shape p ≡ log_of p image
  shape_is p image at = left.left.shape_is p (seen_image image) (ap (λ xs. slice_get xs p) (sym are) ∙ slice_get-map seen_image images p ∙ ap (option_map seen_image) at) ∙ ap (λ m. log_for m p (seen_image image)) many

  -- what the first log may hold
  number_in_shape : (d : ℕ) → FirstLogHas disk images old d → Numbers (left.left.shape 0) (disk.told old 0) d
  number_in_shape d (image, at, held) = subst (λ s. Numbers s (disk.told old 0) d) (sym (shape_is 0 image at)) held

  decided : (d : ℕ) → FirstLogHas disk images old d → decided_by (is_joint setting.protocol) (λ e. Numbers (left.left.shape 0) (disk.told old 0) e) d
  decided d held = by_case (is_joint setting.protocol) refl
    where
      by_case : (b : Bool) → is_joint setting.protocol ≡ b → decided_by b (λ e. Numbers (left.left.shape 0) (disk.told old 0) e) d
      by_case true joint = number_in_shape d held
      by_case false alone = left.left.alone alone d (number_in_shape d held)

  -- a log that stands for nothing new stands for what was left
  stands_in : (p : ℕ) (image : Image) (d : ℕ) (r : Reading) → slice_get images p ≡ Some image → LogsStood disk images d old new → StandsFor (log_of p image) (disk.told new p) d r → StandsFor (left.left.shape p) (disk.told old p) d r
  stands_in p image d r at stood l = subst (λ s. StandsFor s (disk.told old p) d r) (sym (shape_is p image at)) (stood p image at r l)

  inside : (p : ℕ) → p < n → p < length setting.images
  inside p less = omega (arith, less, many)

  -- the first log holds a number still
  first_number : (e : ℕ) × FirstLogHas disk images new e
  first_number = let (image, at) = image_at 0 some in let held = some_number (log_of 0 image) (disk.told new 0) (tells 0 some) in (held.0, (image, at, held.1))

  -- no log is refused
  no_refusal : (d p : ℕ) (why : StoreFault) → FirstLogHas disk images old d → LogsStood disk images d old new → LogRefuses disk images d new p why → ⊥
  no_refusal d p why held stood refuses =
      let (image, at) = image_at p refuses.one_of in
      let read = some_reading (log_of p image) (disk.told new p) (tells p refuses.one_of) d in
      let e = refuses.only image at read.0 read.1 in
      ⊎_elim (none read.0 e) (none read.0 e) (left.left.stand.one p (inside p refuses.one_of) d (decided d held) read.0 (inside p refuses.one_of, stands_in p image d read.0 at stood read.1))
    where
      none : (r : Reading) → r ≡ Err why → {s : Save} → IsSavedAs of.guests p (own p left.core.acts) (others_of of.guests left.core p) s r → ⊥
      none r e saved = let no : Err why ≡ reading_of saved.0 = sym e ∙ saved.1 in let off : ⊥ = cc in off

  -- its decided number is steady
  first_steady : IsFirstLogSteady disk images old
  first_steady image at = subst (λ s. IsSteady s (disk.told old 0)) (shape_is 0 image at) left.left.steady

  -- what was read of all suits the acts
  module _ (x : AreLogsRead disk of images acts old new) where
    held : FirstLogHas disk images old x.decided
    held = let (e, has) = first_number in subst (FirstLogHas disk images old) (x.numbers has.0 has.1 e has.2) (x.were e has)

    abbrev readings : ℕ → Reading
    readings p = reading_of (x.stored p)

    stood_for : (p : ℕ) → p < n → StandsFor (left.left.shape p) (disk.told old p) x.decided (readings p)
    stood_for p less =
        let (image, at) = image_at p less in
        let read = some_reading (log_of p image) (disk.told new p) (tells p less) x.decided in
        subst (λ r. StandsFor (left.left.shape p) (disk.told old p) x.decided r) (x.are_read p image at read.0 read.1) (stands_in p image x.decided read.0 at x.stood read.1)

    within : (p : ℕ) → p < length setting.images → p < n
    within p less = omega (arith, less, many)

    stand : StoresStand of left.core (λ e. e ≡ x.decided) (λ p e r. r ≡ readings p)
    stand = record {
      one = λ p less e same r is. left.left.stand.one p less e (subst (decided_by (is_joint setting.protocol) (λ d. Numbers (left.left.shape 0) (disk.told old 0) d)) (sym same) (decided x.decided held)) r
          (less, subst (λ m. StandsFor (left.left.shape p) (disk.told old p) m r) (sym same) (subst (λ z. StandsFor (left.left.shape p) (disk.told old p) x.decided z) (sym is) (stood_for p (within p less))));
      all = λ joint e same r is. left.left.stand.all joint e (subst (decided_by (is_joint setting.protocol) (λ d. Numbers (left.left.shape 0) (disk.told old 0) d)) (sym same) (decided x.decided held)) r
          (λ p less. (less, subst (λ m. StandsFor (left.left.shape p) (disk.told old p) m (r p)) (sym same) (subst (λ z. StandsFor (left.left.shape p) (disk.told old p) x.decided z) (sym (is p less)) (stood_for p (within p less)))));
    }

    reached : IsReached of x.decided readings
    reached = record {
      alone = λ alone. left.left.alone alone x.decided (number_in_shape x.decided held);
      together = λ joint. (
        0,
        inside 0 some,
        λ s is. left.left.reached joint x.decided 0 s (number_in_shape x.decided held) (inside 0 some)
            (subst (λ r. StandsFor (left.left.shape 0) (disk.told old 0) x.decided r) is (stood_for 0 some)),
      );
    }

    numbered : AreNumbered setting.protocol left.core.procs
    numbered = record { few = λ q. let is = left.numbered q in (let a = is.0 in omega (arith, a, left.few), let b = is.1 in omega (arith, b, left.few)); alike = left.alike }

    -- and no number that was read is over those that the run had come to
    pub read_few : (p : ℕ) → p < n → (x.stored p).kernel.commit ≤ 1 + 2 * entries
    read_few p less = ⊎_elim (by_save (left.core.procs p).older (left.numbered p).0) (by_save (left.core.procs p).newer (left.numbered p).1)
        (left.left.stand.one p (inside p less) x.decided (decided x.decided held) (readings p) (inside p less, stood_for p less))
      where
        by_save : (s : Save) → s.number ≤ 1 + 2 * entries → IsSavedAs of.guests p (own p left.core.acts) (others_of of.guests left.core p) s (readings p) → (x.stored p).kernel.commit ≤ 1 + 2 * entries
        by_save s few (y, read, is) =
            let same = ap (λ (r : Reading). number_in (state_in (record { memory = []; kernel = []; log = [] }) r).kernel) read in
            let one = number_is (x.stored p).kernel in
            let other = number_is y.kernel in
            let number = is.number_is in
            omega (arith, few, same, one, other, number)

    pub suited : AreSuited of x.given x.decided x.stored
    suited =
        let found = are_suited of left.schedule entries left.core left.come numbered (λ e. e ≡ x.decided) (λ p e r. r ≡ readings p) stand x.decided refl readings (λ p less. refl) reached in
        let same = reported_once of.guests left.core.acts x.given left.come.run x.is_run (left.acts_are ∙ sym x.reports) in
        subst (λ xs. AreSuited of xs x.decided x.stored) same
        (suited_alike of left.core.acts x.decided found.0 x.stored found.2 x.are_stored (λ p less. sym (found.1 p less)) found.3)

  -- the acts are a run
  no_illegal : run of.guests acts ≡ None → ⊥
  no_illegal none = let ran : run of.guests acts ≡ Some (world_of of.guests left.core.acts) = subst (λ xs. run of.guests xs ≡ Some (world_of of.guests left.core.acts)) left.acts_are (reported_run of.guests left.core.acts left.come.run) in
      let no : None ≡ Some (world_of of.guests left.core.acts) = sym none ∙ ran in let off : ⊥ = cc in off

  -- so no reading of them ends for what they hold
  pub resumable : {T : Type 0} (r : Result T RereadFault)
      → ((p : ℕ) → r ≡ Err (fault.Unsuited p) → (x : AreLogsRead disk of images acts old new) × IsFirstUnsuited of x.given x.decided x.stored p)
      → (r ≡ Err fault.Unsteady → IsSome (disk.told new 0) → IsFirstLogSteady disk images old → ⊥)
      → (r ≡ Err fault.Illegal → run of.guests acts ≡ None)
      → ((d : ℕ) → FirstLogHas disk images new d → (p : ℕ) (why : StoreFault) → r ≡ Err (fault.Refused p why) → LogRefuses disk images d new p why)
      → ((r ≡ Err fault.Memory → ⊥) → OnErr r ((d : ℕ) → FirstLogHas disk images new d → FirstLogHas disk images old d × LogsStood disk images d old new))
      → IfErr r (λ why. comes_of_content why ≡ false)
  resumable (Ok x) unsuited unsteady illegal refused stood = tt
  resumable (Err fault.Memory) unsuited unsteady illegal refused stood = refl
  resumable (Err (fault.Stopped p)) unsuited unsteady illegal refused stood = refl
  resumable (Err (fault.Failed p)) unsuited unsteady illegal refused stood = refl
  resumable (Err (fault.Refused p why)) unsuited unsteady illegal refused stood = let held = first_number in let was = stood (λ e. let off : ⊥ = cc in off) held.0 held.1 in
      absurd (no_refusal held.0 p why was.0 was.1 (refused held.0 held.1 p why refl))
  resumable (Err fault.Unsteady) unsuited unsteady illegal refused stood = absurd (unsteady refl (tells 0 some) first_steady)
  resumable (Err fault.Illegal) unsuited unsteady illegal refused stood = absurd (no_illegal (illegal refl))
  resumable (Err (fault.Unsuited p)) unsuited unsteady illegal refused stood =
      let found = unsuited p refl in absurd (found.1.unsuited (suited found.0 p found.1.one_of))
