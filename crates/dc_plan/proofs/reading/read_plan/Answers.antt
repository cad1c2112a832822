use Rattle.std.proofs.Common.{IfOk, List, Ok, Err, Result, ℕ}
use Rattle.dc_plan.specs.Allowed.{IsAllowed, Suits}
use Rattle.dc_plan.specs.Plans.{IsExact, plan_of, plan_view}
use Rattle.dc_plan.specs.declared.command.Command.{Command}
use Rattle.dc_plan.specs.declared.fault.PlanError.{PlanError}
use Rattle.dc_plan.specs.declared.plan.Plan.{Plan}
use Rattle.dc_plan.proofs.Allowing.{read_allowed, read_suits}
use Rattle.dc_plan.proofs.reading.read_plan.Goals as goal

-- a plan that is read is allowed
allowed : (by : Command) (bytes : List ℕ) (r : Result Plan PlanError) → IsExact r (plan_of by bytes) → IfOk r (λ plan. IsAllowed (plan_view plan))
allowed by bytes (Ok plan) e = read_allowed by bytes (plan_view plan) e
allowed by bytes (Err error) e = tt

pub returns-clause-allowed : goal.returns-clause-allowed
returns-clause-allowed c = allowed c.args.command c.args.bytes.now c.plan_in.result c.plan_in.ensures

-- and it suits its command
suits : (by : Command) (bytes : List ℕ) (r : Result Plan PlanError) → IsExact r (plan_of by bytes) → IfOk r (λ plan. Suits by (plan_view plan))
suits by bytes (Ok plan) e = read_suits by bytes (plan_view plan) e
suits by bytes (Err error) e = tt

pub returns-clause-suits : goal.returns-clause-suits
returns-clause-suits c = suits c.args.command c.args.bytes.now c.plan_in.result c.plan_in.ensures
