use Rattle.std.proofs.Common.{rules, arith}
use Rattle.dc_process_tests.proofs.proc.setting.begin.Goals as goal

-- a page
pub format-requires-clause-pages : goal.format-requires-clause-pages
format-requires-clause-pages g c = (1, search rules, omega arith)
