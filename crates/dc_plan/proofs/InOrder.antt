-- The rows of a plan in their order, taken one at a time.
use Rattle.std.proofs.Common.{◌≡◌, ◌∙◌, ℕ, List, length, map, Option, Result, Ok, ap, sym}
use Rattle.std.proofs.lemmas.List.{length-map}
use Rattle.toml.specs.Data.{Members}
use Rattle.toml.specs.View.{view}
use Rattle.toml.specs.declared.value.Value.{Value}
use Rattle.dc_media.specs.declared.planned.PlannedStop.{PlannedStop}
use Rattle.dc_protocols.specs.declared.protocol.Protocol.{Protocol}
use Rattle.dc_plan.specs.Values.{text_in}
use Rattle.dc_plan.specs.Plans.{Plan, protocol_row, medium_row, memory_row, guests_row, halt_row, inputs_row, schedule_row, seed_row, turns_row, source_of, stops_row, rows}
use Rattle.dc_words.specs.Results.{◌>>=◌}
use Rattle.dc_plan.specs.declared.command.Command.{Command}
use Rattle.dc_plan.specs.declared.fault.PlanFault.{PlanFault}
use Rattle.dc_plan.specs.declared.plan.Medium.{Medium}

-- what is read first is good
bound : {A B : Type 0} (r : Result A PlanFault) (x : A) (f : A → Result B PlanFault) → Ok x ≡ r → (r >>= f) ≡ f x
bound r x f e = ap (λ s. s >>= f) (sym e)

-- the count of the guests' names
pub names_counted : (guests : List Value) → length guests ≡ length (map text_in (map view guests))
names_counted guests = sym (length-map (map view guests) text_in ∙ length-map guests view)

module _ (by : Command) (ms : Members) (protocol : Protocol) (medium : Medium) (memory : ℕ) (guests : List (List ℕ)) (inputs : List (List (List ℕ)))
    (schedule : Option (List ℕ)) (seed turns : Option ℕ) where
  abbrev pub said : List PlannedStop → Option ℕ → Plan
  said stops halt = record { protocol = protocol; medium = medium; memory = memory; guests = guests; inputs = inputs; schedule = source_of schedule seed turns; stops = stops; halt = halt }

  -- where all rows before the stops are good, these decide, and the halt behind them
  abbrev pub halted : List PlannedStop → Result Plan PlanFault
  halted stops = halt_row by medium ms >>= (λ halt. Ok (said stops halt))

  pub stops_decide : Ok protocol ≡ protocol_row ms → Ok medium ≡ medium_row by ms → Ok memory ≡ memory_row ms → Ok guests ≡ guests_row ms
      → (count : ℕ) → count ≡ length guests → Ok inputs ≡ inputs_row count ms → Ok schedule ≡ schedule_row ms → Ok seed ≡ seed_row by ms → Ok turns ≡ turns_row ms
      → (stops : Result (List PlannedStop) PlanFault) → stops ≡ stops_row by medium count ms
      → (stops >>= halted) ≡ rows by ms
  stops_decide p m s g count same i sch seeded turned stops last = sym (
      bound (protocol_row ms) protocol _ p
      ∙ bound (medium_row by ms) medium _ m
      ∙ bound (memory_row ms) memory _ s
      ∙ bound (guests_row ms) guests _ g
      ∙ bound (inputs_row (length guests) ms) inputs _ (i ∙ ap (λ n. inputs_row n ms) same)
      ∙ bound (schedule_row ms) schedule _ sch
      ∙ bound (seed_row by ms) seed _ seeded
      ∙ bound (turns_row ms) turns _ turned
      ∙ ap (λ r. r >>= halted) (sym (last ∙ ap (λ n. stops_row by medium n ms) same)))

  -- where all rows before the halt are good, it decides
  pub halt_decides : Ok protocol ≡ protocol_row ms → Ok medium ≡ medium_row by ms → Ok memory ≡ memory_row ms → Ok guests ≡ guests_row ms
      → (count : ℕ) → count ≡ length guests → Ok inputs ≡ inputs_row count ms → Ok schedule ≡ schedule_row ms → Ok seed ≡ seed_row by ms → Ok turns ≡ turns_row ms
      → (stops : List PlannedStop) → Ok stops ≡ stops_row by medium count ms
      → (halt : Result (Option ℕ) PlanFault) → halt ≡ halt_row by medium ms
      → (halt >>= (λ entry. Ok (said stops entry))) ≡ rows by ms
  halt_decides p m s g count same i sch seeded turned stops stopped halt last = ap (λ r. r >>= (λ entry. Ok (said stops entry))) last
      ∙ stops_decide p m s g count same i sch seeded turned (Ok stops) stopped
