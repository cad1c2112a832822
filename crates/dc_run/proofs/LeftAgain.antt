-- One that went on from disks that a run left so, and was halted again, left them so too.
use Rattle.std.proofs.Common.{◌≡◌, ◌∙◌, ◌+◌, ◌*◌, ◌<◌, ◌≤◌, ◌++◌, ℕ, true, List, Some, ap, arith, length, length-append, reverse, subst, sym}
use Rattle.std.proofs.lemmas.List.{append-nil, length-map, length-reverse, reverse-reverse}
use Rattle.dc_course.specs.Headline.{Account, Setting, marks_at, start_at, system_in, torn_at}
use Rattle.dc_course.specs.Running.{Output}
use Rattle.dc_course.specs.declared.ending.Ending.{Ending}
use Rattle.dc_course.specs.Lent.{TellsStores}
use Rattle.dc_disk.proofs.Rereadable.{left_again, read_few, suited}
use Rattle.dc_disk.specs.Logs.{AreLeftAt, AreLogsRead}
use Rattle.dc_elf.specs.Images.{Image as Seen}
use Rattle.dc_elf.specs.Loaded.{seen_image}
use Rattle.dc_elf.specs.declared.image.Image.{Image}
use Rattle.dc_limits.specs.declared.bounds.TheConstants.{ENTRIES}
use Rattle.dc_media.specs.Devices.{of_disks}
use Rattle.dc_media.specs.declared.disks.Disks as disks
use Rattle.dc_model.proofs.Reports.{reported_once, reported_run}
use Rattle.dc_model.proofs.Rising.{TurnsBelow}
use Rattle.dc_model.specs.Drawn.{Drawn}
use Rattle.dc_model.specs.Runs.{Given, visibles}
use Rattle.dc_model.specs.FailureFree.{FailureFree, thin, world_of}
use Rattle.dc_model.specs.FailureFree.{run as run_of}
use Rattle.dc_model.specs.declared.visible.Visible.{Visible}
use Rattle.dc_recovery.proofs.Ends.{leads_follow}
use Rattle.dc_recovery.proofs.Sound.{sound_system}
use Rattle.dc_recovery.specs.Core.{Core}
use Rattle.dc_recovery.specs.Invariant.{DrawnBelow, Holds}
use Rattle.dc_protocols.specs.Rules.{is_global}
use Rattle.dc_recovery.specs.Numbers.{AreUpTo, ShareNumbers}
use Rattle.dc_recovery.specs.Recoveries.{resumed_core}
use Rattle.dc_recovery.specs.Systems.{IsSound, System}
use Rattle.dc_recovery.specs.Turned.{LeadsTo}
use Rattle.dc_resume.proofs.Numbered.{few_led, numbered}
use Rattle.dc_resume.proofs.Resuming.{holds}
use Rattle.dc_resume.proofs.Shared.{resumed_alike, resumed_few}
use Rattle.dc_resume.proofs.Telling.{drawn_back}
use Rattle.dc_resume.specs.Suited.{AreSuited, saves_in}
use Rattle.dc_guest.specs.Guest.{Guest}
use Rattle.dc_run.proofs.Halts.{drawn_less, entries_fewer}
use Rattle.dc_run.specs.Headline.{Loan, verdict_at}
use Rattle.dc_run.specs.Resumed.{GoesOnFrom, GoesOnKept}
use Rattle.dc_run.specs.Resuming.{Going, IsBehind, IsRunOf, is_halted_again, onward_of}
use Rattle.dc_run.specs.declared.verdict.Verdict.TheVariants.{Halted}
use Rattle.dc_run.proofs.Lefts.{EndsHalted, ends_halted}

-- which tell what they hold
module _ {D : Type 0} (disk : disks.Ghosts D) (going : Going) (run : Account) (e : Ending) (out : Output) (lent : Loan D) (some : 0 < length going.setting.images) (few : length going.setting.schedule ≤ ENTRIES)
    (ran : IsRunOf going.setting going.report.acts) (below : TurnsBelow going.report.entries going.report.acts) (behind : IsBehind going.report.entries going.halt) (kept : GoesOnKept disk going run e out lent)
    (said : verdict_at (is_halted_again going) e ≡ Halted) (tells : TellsStores (of_disks disk) (length going.setting.images) lent.before lent.after)
    (left : AreLeftAt disk going.setting going.report.entries going.report.lines going.report.acts lent.before) where
  abbrev setting : Setting
  setting = onward_of going

  abbrev from : ℕ
  from = going.report.entries

  abbrev S : System Guest
  S = system_in setting

  abbrev images : List Image
  images = kept.0.images

  sound : IsSound S
  sound = sound_system S.guests setting.protocol 8 64 (omega arith)

  -- the lines of the part before
  abbrev lines : List Visible
  lines = reverse left.core.lines

  count : length lines ≡ going.report.lines
  count = length-reverse left.core.lines ∙ left.lines_are

  thinned : thin lines ≡ ran.world.visibles
  thinned =
      let found : run_of S.guests going.report.acts ≡ Some (world_of S.guests left.core.acts) = ap (run_of S.guests) (sym left.acts_are) ∙ reported_run S.guests left.core.acts left.come.run in
      let same : Some (world_of S.guests left.core.acts) ≡ Some ran.world = sym found ∙ ran.run_is in
      let world : world_of S.guests left.core.acts ≡ ran.world = cc in
      left.come.shown ∙ ap (λ (w : FailureFree Guest). w.visibles) world

  abbrev goes : GoesOnFrom disk setting images going.report.acts lines run e out lent
  goes = kept.1 tells lines ran.world ran.run_is count thinned

  abbrev x : AreLogsRead disk S images going.report.acts lent.before goes.0
  x = goes.2

  there : 0 < length images
  there = let same = ap (λ (xs : List Seen). length xs) kept.0.seen in let long = length-map images seen_image in omega (arith, same, long, some)

  onward : AreLeftAt disk setting from going.report.lines going.report.acts lent.before
  onward = left_again disk going.setting setting.schedule going.setting.stops from from going.report.lines going.report.acts lent.before left

  suits : AreSuited S x.given x.decided x.stored
  suits = suited disk setting images kept.0.seen from going.report.lines going.report.acts lent.before goes.0 there onward goes.1 x

  inside : (p : ℕ) → p < S.guests.count → p < length images
  inside p less = let same = ap (λ (xs : List Seen). length xs) kept.0.seen in let long = length-map images seen_image in omega (arith, same, long, less)

  abbrev begun : Core
  begun = resumed_core x.given (reverse lines) (saves_in S x.stored)

  drawn : DrawnBelow (length setting.images) setting.schedule from x.given
  drawn = drawn_back (length setting.images) setting.schedule from x.given
      (subst (Drawn (length setting.images) setting.schedule) (sym x.reports) (drawn_less (length setting.images) from going.halt going.setting.schedule 0 going.report.acts behind below ran.drawn))
      (subst (TurnsBelow from) (sym x.reports) below)

  shown : thin (reverse (reverse lines)) ≡ reverse (visibles S.guests x.given)
  shown = ap thin (reverse-reverse lines) ∙ left.come.shown ∙ ap (λ (xs : List Given). reverse (visibles S.guests xs)) (reported_once S.guests left.core.acts x.given left.come.run x.is_run (left.acts_are ∙ sym x.reports))

  can : Holds S setting.schedule from begun
  can = holds setting.images setting.inputs setting.protocol x.given x.decided x.stored x.is_run x.are_stored suits setting.schedule from (reverse lines) drawn shown

  numbers : AreUpTo (1 + 2 * from) begun.procs
  numbers = resumed_few S x.given (reverse lines) x.stored (1 + 2 * from) some (λ p less. read_few disk setting images kept.0.seen from going.report.lines going.report.acts lent.before goes.0 there onward goes.1 x p (inside p less))

  shared : is_global setting.protocol ≡ true → ShareNumbers begun.procs
  shared = resumed_alike S x.given (reverse lines) x.stored x.given x.decided suits

  ended : EndsHalted setting (is_halted_again going) run.marks goes.3.last
  ended = ends_halted setting (is_halted_again going) e run.marks goes.3.last goes.3.core goes.3.ending_is said

  led : LeadsTo S setting.schedule (start_at setting begun) (reverse run.marks) goes.3.core
  led = subst (λ l. LeadsTo S setting.schedule (start_at setting begun) (marks_at l run.marks) goes.3.core) ended.whole goes.3.headline.core_led.led

  fewer : from + length run.marks < ENTRIES
  fewer = let less = entries_fewer going.halt going.setting.schedule ended.over in let used = ended.used in omega (arith, less, used, few)

  many : length goes.3.core.lines ≡ run.lines
  many =
      let back = length-reverse goes.3.core.lines in
      let all = ap (λ (xs : List Visible). length xs) (goes.3.headline.core_led.lines_are ∙ ap (λ l. lines ++ (goes.3.headline.whole ++ torn_at l)) ended.whole ∙ ap (λ ys. lines ++ ys) (append-nil goes.3.headline.whole)) in
      let both = length-append lines goes.3.headline.whole in
      let sum = goes.3.headline.count in
      omega (arith, back, all, both, sum)

  pub left_on : AreLeftAt disk going.setting (going.report.entries + length run.marks) run.lines run.acts lent.after
  left_on = left_again disk setting going.setting.schedule going.setting.stops going.setting.from (from + length run.marks) run.lines run.acts lent.after (record {
    schedule = setting.schedule;
    core = goes.3.core;
    come = subst (λ n. Holds S setting.schedule (from + n) goes.3.core) (length-reverse run.marks) (leads_follow S sound setting.schedule (start_at setting begun) can (reverse run.marks) goes.3.core led).now;
    few = fewer;
    numbered = subst (λ n. AreUpTo (1 + 2 * (from + n)) goes.3.core.procs) (length-reverse run.marks) (few_led S sound setting.schedule (start_at setting begun) can numbers shared (reverse run.marks) goes.3.core led);
    alike = (numbered S sound setting.schedule (start_at setting begun) can numbers shared (reverse run.marks) goes.3.core led (let back = length-reverse run.marks in omega (arith, fewer, back))).alike;
    acts_are = goes.3.headline.core_led.acts_are;
    lines_are = many;
    left = goes.3.left;
  })
