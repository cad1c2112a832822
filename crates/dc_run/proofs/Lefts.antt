-- A run that was halted left its disks so that it can be gone on with.
use Rattle.std.proofs.Common.{◌≡◌, ◌∙◌, ◌+◌, ◌*◌, ◌<◌, ◌≤◌, ◌++◌, Bool, true, List, ap, arith, length, refl, reverse, subst, sym}
use Rattle.std.proofs.lemmas.Bool.{true≢false}
use Rattle.std.proofs.lemmas.List.{append-nil, length-reverse}
use Rattle.dc_course.specs.Headline.{Account, IsEnding, Last, Setting, marks_at, system_in, torn_at, turn_after}
use Rattle.dc_course.specs.Headline.Last.{Whole}
use Rattle.dc_course.specs.Running.{Output}
use Rattle.dc_course.specs.declared.ending.Ending.{Ending}
use Rattle.dc_course.specs.declared.ending.Ending.TheVariants as ending
use Rattle.dc_disk.proofs.Rereadable.{left_again}
use Rattle.dc_disk.specs.Logs.{AreLeftAt}
use Rattle.dc_limits.specs.declared.bounds.TheConstants.{ENTRIES}
use Rattle.dc_media.specs.declared.disks.Disks as disks
use Rattle.dc_media.specs.declared.keeps.Keeps as keeps
use Rattle.dc_model.specs.declared.mark.Mark.{Mark}
use Rattle.dc_model.specs.declared.visible.Visible.{Visible}
use Rattle.dc_plan.specs.declared.plan.Medium.{Medium}
use Rattle.dc_plan.specs.declared.plan.Medium.TheVariants.{Rio, Disk}
use Rattle.dc_recovery.proofs.Ends.{holds_opened, leads_follow}
use Rattle.dc_recovery.proofs.Sound.{sound_system}
use Rattle.dc_recovery.specs.Core.{Core, opening}
use Rattle.dc_recovery.specs.Invariant.{Holds}
use Rattle.dc_recovery.specs.Numbers.{AreUpTo}
use Rattle.dc_recovery.specs.Systems.{IsSound, System}
use Rattle.dc_recovery.specs.Turned.{LeadsTo}
use Rattle.dc_resume.proofs.Numbered.{few_led, numbered}
use Rattle.dc_guest.specs.Guest.{Guest}
use Rattle.dc_run.proofs.Halts.{entries_fewer, halted_said, is_halted_one}
use Rattle.dc_run.specs.Headline.{IsKept, Loan, verdict_at}
use Rattle.dc_run.specs.Media.{Lent, devices_of}
use Rattle.dc_run.specs.Opening.{Task, is_halted, part_of}
use Rattle.dc_run.specs.declared.verdict.Verdict.TheVariants.{Halted}

-- it was halted with entries left over, those before its halt are used up, and none ended it
pub record EndsHalted (setting : Setting) (halted : Bool) (marks : List Mark) (last : Last) : Type 0 where
  pub over : halted ≡ true
  pub used : turn_after setting marks ≡ length setting.schedule
  pub whole : last ≡ Whole

pub ends_halted : (setting : Setting) (halted : Bool) (e : Ending) (marks : List Mark) (last : Last) (core : Core) → IsEnding setting e marks last core → verdict_at halted e ≡ Halted → EndsHalted setting halted marks last
ends_halted setting halted ending.Done marks last core is said = record { over = halted_said halted ending.Done said; used = is.0.0; whole = is.0.1 }
ends_halted setting halted ending.Unfinished marks last core is said = record { over = halted_said halted ending.Unfinished said; used = is.0.0; whole = is.0.1 }
ends_halted setting halted (ending.Device p) marks last core is said = absurd (true≢false (sym (ap is_halted_one said)))
ends_halted setting halted (ending.Store p why) marks last core is said = absurd (true≢false (sym (ap is_halted_one said)))
ends_halted setting halted ending.Sink marks last core is said = absurd (true≢false (sym (ap is_halted_one said)))
ends_halted setting halted (ending.Stopped p) marks last core is said = absurd (true≢false (sym (ap is_halted_one said)))

-- on disks, that tell what they hold
module _ {K D : Type 0} (words : keeps.Ghosts K) (disk : disks.Ghosts D) (task : Task) (run : Account) (e : Ending) (out : Output) (lent : Loan (Lent K D)) (few : length task.setting.schedule ≤ ENTRIES)
    (kept : IsKept (devices_of words disk Disk) (part_of task) run e out lent) (said : verdict_at (is_halted task) e ≡ Halted) (tells : (devices_of words disk Disk).tell (length task.setting.images) lent.before lent.after) where
  abbrev part : Setting
  part = part_of task

  abbrev S : System Guest
  S = system_in part

  sound : IsSound S
  sound = sound_system S.guests part.protocol 8 64 (omega arith)

  ended : EndsHalted part (is_halted task) run.marks (kept tells).last
  ended = ends_halted part (is_halted task) e run.marks (kept tells).last (kept tells).core (kept tells).ending_is said

  begun : Holds S part.schedule 0 (opening (kept tells).up).core
  begun = holds_opened S sound part.schedule (kept tells).up (kept tells).alike

  led : LeadsTo S part.schedule (opening (kept tells).up) (reverse run.marks) (kept tells).core
  led = subst (λ l. LeadsTo S part.schedule (opening (kept tells).up) (marks_at l run.marks) (kept tells).core) ended.whole (kept tells).headline.core_led.led

  fewer : length run.marks < ENTRIES
  fewer = let less = entries_fewer task.halt task.setting.schedule ended.over in let used = ended.used in let from = (kept tells).headline.from_is in omega (arith, less, used, from, few)

  lines : length (kept tells).core.lines ≡ run.lines
  lines =
      let back = length-reverse (kept tells).core.lines in
      let all = ap (λ (xs : List Visible). length xs) ((kept tells).headline.core_led.lines_are ∙ ap (λ l. (kept tells).headline.whole ++ torn_at l) ended.whole ∙ append-nil (kept tells).headline.whole) in
      let count = (kept tells).headline.lines_shown.count in
      omega (arith, back, all, count)

  -- entries are counted from 0
  counted : 0 + length (reverse run.marks) ≡ length run.marks
  counted = let back = length-reverse run.marks in omega (arith, back)

  left_so : AreLeftAt disk task.setting (length run.marks) run.lines run.acts lent.after.disks
  left_so = left_again disk part task.setting.schedule task.setting.stops task.setting.from (length run.marks) run.lines run.acts lent.after.disks (record {
    schedule = part.schedule;
    core = (kept tells).core;
    come = subst (λ n. Holds S part.schedule n (kept tells).core) counted (leads_follow S sound part.schedule (opening (kept tells).up) begun (reverse run.marks) (kept tells).core led).now;
    few = fewer;
    numbered = subst (λ n. AreUpTo (1 + 2 * n) (kept tells).core.procs) counted
        (few_led S sound part.schedule (opening (kept tells).up) begun (λ q. (omega arith, omega arith)) (λ global. (1, 1, λ q. (refl, refl))) (reverse run.marks) (kept tells).core led);
    alike = (numbered S sound part.schedule (opening (kept tells).up) begun (λ q. (omega arith, omega arith)) (λ global. (1, 1, λ q. (refl, refl))) (reverse run.marks) (kept tells).core led (let back = length-reverse run.marks in omega (arith, fewer, back))).alike;
    acts_are = (kept tells).headline.core_led.acts_are;
    lines_are = lines;
    left = (kept tells).left;
  })

pub halted_on : {K D : Type 0} (words : keeps.Ghosts K) (disk : disks.Ghosts D) (medium : Medium) (task : Task) (run : Account) (e : Ending) (out : Output) (lent : Loan (Lent K D)) → length task.setting.schedule ≤ ENTRIES
    → IsKept (devices_of words disk medium) (part_of task) run e out lent → verdict_at (is_halted task) e ≡ Halted → (devices_of words disk medium).tell (length task.setting.images) lent.before lent.after
    → (devices_of words disk medium).resumable task.setting (length run.marks) run.lines run.acts lent.after
halted_on words disk Rio task run e out lent few kept said tells = tt
halted_on words disk Disk task run e out lent few kept said tells = left_so words disk task run e out lent few kept said tells
