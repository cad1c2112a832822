use Rattle.std.proofs.Common.{◌∙◌}
use Rattle.dc_command.specs.Command.{order_view}
use Rattle.dc_plan.specs.Plans.{plan_view}
use Rattle.dc_run.proofs.Openings.{asked_by_order}
use Rattle.dc_run.proofs.opening.open.Goals as goal

pub returns-clause-reached : goal.returns-clause-reached
returns-clause-reached g c = λ files w known fault. asked_by_order files (order_view c.args.order.now) (plan_view c.in_ok-plan.plan) w (c.in_ok-plan.ensures.told files known)
    (c.open_plan.ensures.reached files w (c.in_ok-plan.ensures.files ∙ known) fault)
