use Rattle.std.proofs.Common.{◌<◌, ℕ}
use Rattle.dc_limits.specs.declared.sizes.TheConstants.{KEPT_MESSAGES}
use Rattle.dc_resume.specs.Deciding.{handed}
use Rattle.dc_resume.proofs.log.has_few.Given as goal

abbrev pub invariant-loop-q : goal.invariant-loop-q
invariant-loop-q l = record {
  few : (q : ℕ) → q < l.q → handed q l.end l.log < KEPT_MESSAGES;
}
