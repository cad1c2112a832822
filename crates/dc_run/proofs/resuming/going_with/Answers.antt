use Rattle.std.proofs.Common.{◌≡◌, None, refl, rules}
use Rattle.dc_check.specs.Played.{first_stray, played}
use Rattle.dc_run.specs.Opening.{guests}
use Rattle.dc_run.specs.Settings.{setting_of}
use Rattle.dc_run.proofs.Goings.{played_run}
use Rattle.dc_run.proofs.resuming.going_with.Goals as goal

pub returns-in-Ok-None-clause-ran : goal.returns-in-Ok-None-clause-ran
returns-in-Ok-None-clause-ran c =
    let none : None ≡ first_stray (played (guests (setting_of c.args.opened)) c.args.opened.setting.scheduled.schedule.items c.args.report.acts.items) = search rules in
    played_run (setting_of c.args.opened) c.args.report.acts.items _ refl none
