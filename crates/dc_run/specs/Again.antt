-- A run that goes on, as the code has it.
use Rattle.dc_report.specs.Reads.{seen}
use Rattle.dc_run.specs.Resuming.{Going}
use Rattle.dc_run.specs.Settings.{setting_of}
use Rattle.dc_run.specs.declared.resuming.Going as code

-- what it goes on with
abbrev pub going_of : code.Going → Going
going_of g = record { setting = setting_of g.opened; report = seen g.report; halt = g.halt }
