use Rattle.std.proofs.Common.{◌∙◌, ap, sym, Ok, Err, option_map, map}
use Rattle.std.proofs.lemmas.Result.{err_from_is_err_and}
use Rattle.toml.specs.View.{table_view, view}
use Rattle.dc_plan.specs.Parts.{parts_view}
use Rattle.dc_plan.specs.Plans.{inputs_said}
use Rattle.dc_words.specs.Results.{seen}
use Rattle.dc_plan.proofs.InOrder.{halt_decides, names_counted, stops_decide}
use Rattle.dc_plan.proofs.parts.rows_in.Goals as goal

pub returns : goal.returns
returns c = halt_decides c.args.by (table_view c.args.table.now) c.in_ok-protocol.protocol c.in_ok-medium.medium c.in_ok-memory.memory _ _ _ c.in_ok-seed.seed c.in_ok-turns.turns
    c.in_ok-protocol.ensures c.in_ok-medium.ensures c.in_ok-memory.ensures c.in_ok-guests.ensures _ (names_counted c.in_ok-guests.guests.now)
    (ap (λ n. Ok (inputs_said n (option_map (λ lists. map view lists.now) c.in_ok-inputs.inputs))) (sym (names_counted c.in_ok-guests.guests.now)) ∙ c.in_ok-inputs.ensures)
    c.in_ok-schedule.ensures c.in_ok-seed.ensures c.in_ok-turns.ensures _ c.in_ok-stops.ensures _ c.in_ok-halt.ensures

pub returns-in_err-stops : goal.returns-in_err-stops
returns-in_err-stops c =
    let failed = err_from_is_err_and c.from_residual-in_err-stops.result c.from_residual-in_err-stops.ensures.1 in
    ap (seen parts_view) (failed.1 ∙ ap Err failed.2)
    ∙ stops_decide c.args.by (table_view c.args.table.now) c.in_ok-protocol.protocol c.in_ok-medium.medium c.in_ok-memory.memory _ _ _ c.in_ok-seed.seed c.in_ok-turns.turns
    c.in_ok-protocol.ensures c.in_ok-medium.ensures c.in_ok-memory.ensures c.in_ok-guests.ensures _ (names_counted c.in_ok-guests.guests.now)
    (ap (λ n. Ok (inputs_said n (option_map (λ lists. map view lists.now) c.in_ok-inputs.inputs))) (sym (names_counted c.in_ok-guests.guests.now)) ∙ c.in_ok-inputs.ensures)
    c.in_ok-schedule.ensures c.in_ok-seed.ensures c.in_ok-turns.ensures _ c.in_err-stops.ensures

pub returns-in_err-halt : goal.returns-in_err-halt
returns-in_err-halt c =
    let failed = err_from_is_err_and c.from_residual-in_err-halt.result c.from_residual-in_err-halt.ensures.1 in
    ap (seen parts_view) (failed.1 ∙ ap Err failed.2)
    ∙ halt_decides c.args.by (table_view c.args.table.now) c.in_ok-protocol.protocol c.in_ok-medium.medium c.in_ok-memory.memory _ _ _ c.in_ok-seed.seed c.in_ok-turns.turns
    c.in_ok-protocol.ensures c.in_ok-medium.ensures c.in_ok-memory.ensures c.in_ok-guests.ensures _ (names_counted c.in_ok-guests.guests.now)
    (ap (λ n. Ok (inputs_said n (option_map (λ lists. map view lists.now) c.in_ok-inputs.inputs))) (sym (names_counted c.in_ok-guests.guests.now)) ∙ c.in_ok-inputs.ensures)
    c.in_ok-schedule.ensures c.in_ok-seed.ensures c.in_ok-turns.ensures _ c.in_ok-stops.ensures _ c.in_err-halt.ensures
