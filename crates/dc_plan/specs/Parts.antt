-- The parts of a plan that keeps all rules, before they are copied.
use Rattle.std.specs.Prelude.{length, map, option_map}
use Rattle.toml.specs.View.{view}
use Rattle.dc_plan.specs.Values.{text_in}
use Rattle.dc_plan.specs.Plans.{Plan, inputs_said, source_of}
use Rattle.dc_plan.specs.Stops.{stop_of}
use Rattle.dc_plan.specs.declared.parts.Parts as declared

-- the plan that they make
abbrev pub parts_view : declared.Parts → Plan
parts_view parts = record {
  protocol = parts.protocol;
  medium = parts.medium;
  memory = parts.memory;
  guests = map text_in (map view parts.guests.now);
  inputs = inputs_said (length (map text_in (map view parts.guests.now))) (option_map (λ lists. map view lists.now) parts.inputs);
  schedule = source_of (option_map (λ name. name.now) parts.schedule) parts.seed parts.turns;
  stops = map stop_of (map view parts.stops.now);
  halt = parts.halt;
}
