-- What a plan says, and the first rule that it breaks.
--
-- A text that is no document comes first, then a key that no plan or no stop has, then the rows, a row for each key: whether the key is missing, its value of another kind, too many, out of range. What the command forbids is out of range.
use Rattle.std.specs.Prelude.{bytes_eq, ◌≡◌, ℕ, ◌%◌, ◌==◌, List, [], length, map, replicate, codes, Bool, true, false, ◌∷◌, ◌||◌, ◌&&◌, not, Option, Some, None, is_some, Result, Ok, Err, if◌then◌else◌, nat_le, string_bytes, unwrap_or}
use Rattle.std.specs.List.{list_all}
use Rattle.std.specs.Str.{is_utf8}
use Rattle.dc_limits.specs.declared.bounds.TheConstants.{ENTRIES}
use Rattle.dc_limits.specs.declared.sizes.TheConstants.{PROCESSES}
use Rattle.toml.specs.Data.{Data, Members, get_member}
use Rattle.toml.specs.Parse.{parse_document}
use Rattle.dc_words.specs.Hex.{bytes_of_hex}
use Rattle.dc_words.specs.Results.{◌>>=◌, or_fault}
use Rattle.dc_media.specs.declared.planned.PlannedStop.{PlannedStop}
use Rattle.dc_protocols.specs.declared.protocol.Protocol.{Protocol}
use Rattle.dc_protocols.specs.declared.protocol.Protocol.TheVariants as protocol
use Rattle.dc_plan.specs.Commands.{may_halt, runs_on, takes}
use Rattle.dc_plan.specs.Keys.{key_text, is_key}
use Rattle.dc_plan.specs.Values.{is_array_of, is_between, is_text, is_whole, items_in, names_in, natural_in, text_in, text_or_empty}
use Rattle.dc_plan.specs.Stops.{has_stop_keys, has_stop_kinds, has_stop_ranges, is_complete, stop_of}
use Rattle.dc_plan.specs.declared.command.Command.{Command}
use Rattle.dc_plan.specs.declared.fault.PlanError.{PlanError}
use Rattle.dc_plan.specs.declared.fault.PlanError.TheVariants as error
use Rattle.dc_plan.specs.declared.fault.PlanFault.{PlanFault}
use Rattle.dc_plan.specs.declared.fault.PlanFault.TheVariants.{Text, Unknown, Missing, Kind, TooMany, Range}
use Rattle.dc_plan.specs.declared.keys.Key.{Key}
use Rattle.dc_plan.specs.declared.keys.Key.TheVariants as key
use Rattle.dc_plan.specs.declared.plan.Medium.{Medium}
use Rattle.dc_plan.specs.declared.plan.Medium.TheVariants as medium
use Rattle.dc_plan.specs.declared.plan.Plan as declared
use Rattle.dc_plan.specs.declared.plan.ScheduleSource.{ScheduleSource}
use Rattle.dc_plan.specs.declared.plan.ScheduleSource.TheVariants as source

-- where the entries of a run come from: the file of that name, or so many drawn from a seed
pub data Source : Type 0 where
  InFile : (name : List ℕ) → Source
  FromSeed : (start turns : ℕ) → Source

-- what a plan says
pub record Plan : Type 0 where
  pub protocol : Protocol
  pub medium : Medium
  pub memory : ℕ
  pub guests : List (List ℕ)
  pub inputs : List (List (List ℕ))
  pub schedule : Source
  pub stops : List PlannedStop
  pub halt : Option ℕ

-- the value at a key
abbrev pub at_key : Key → Members → Option Data
at_key key ms = get_member (key_text key) ms

-- the value at a key that a plan needs
abbrev pub needed : Key → Members → Result Data PlanFault
needed key ms = or_fault (Missing key) (at_key key ms)

-- what a key says where its value is of the kind, not too many and in range, in this order
abbrev pub tested : {A : Type 0} → Key → Bool → Bool → Bool → A → Result A PlanFault
tested key kind few range said = if kind then (if few then (if range then Ok said else Err (Range key)) else Err (TooMany key)) else Err (Kind key)

-- a key that says nothing where it is absent
abbrev pub optional : {A : Type 0} → A → (Data → Result A PlanFault) → Option Data → Result A PlanFault
optional absent row None = Ok absent
optional absent row (Some d) = row d

-- the protocols by their names
abbrev pub protocol_named : List ℕ → Option Protocol
protocol_named name = if bytes_eq name (codes "cand") then Some protocol.Cand
    else (if bytes_eq name (codes "cand-log") then Some protocol.CandLog
    else (if bytes_eq name (codes "cpvs") then Some protocol.Cpvs
    else (if bytes_eq name (codes "cbndvs") then Some protocol.Cbndvs
    else (if bytes_eq name (codes "cbndvs-log") then Some protocol.CbndvsLog
    else (if bytes_eq name (codes "cpv-2pc") then Some protocol.Cpv2pc
    else (if bytes_eq name (codes "cbndv-2pc") then Some protocol.Cbndv2pc
    else None))))))

-- the media by their names
abbrev pub medium_named : List ℕ → Option Medium
medium_named name = if bytes_eq name (codes "rio") then Some medium.Rio else (if bytes_eq name (codes "disk") then Some medium.Disk else None)

-- protocol: the name of a protocol
abbrev pub protocol_row : Members → Result Protocol PlanFault
protocol_row ms = needed key.Protocol ms >>= (λ d. tested key.Protocol (is_text d) true true (text_in d)
    >>= (λ name. or_fault (Range key.Protocol) (protocol_named name)))

-- a medium on which the command's run can be
abbrev pub on_it : Command → Medium → Result Medium PlanFault
on_it by on = tested key.Medium true true (runs_on by on) on

-- medium: the name of a medium, on which the command's run can be
abbrev pub medium_row : Command → Members → Result Medium PlanFault
medium_row by ms = needed key.Medium ms >>= (λ d. tested key.Medium (is_text d) true true (text_in d)
    >>= (λ name. or_fault (Range key.Medium) (medium_named name) >>= on_it by))

-- memory: 64 kibibytes to 1 mebibyte in pages of 4 kibibytes
abbrev pub memory_row : Members → Result ℕ PlanFault
memory_row ms = needed key.Memory ms >>= (λ d. tested key.Memory (is_whole d) true (is_between 65536 1048576 d && natural_in d % 4096 == 0) (natural_in d))

-- guests: up to so many names of their files
abbrev pub guests_row : Members → Result (List (List ℕ)) PlanFault
guests_row ms = needed key.Guests ms >>= (λ d. tested key.Guests (is_array_of is_text d) (nat_le (length (items_in d)) PROCESSES) (nat_le 1 (length (items_in d)))
    (map text_in (items_in d)))

-- the bytes of a record, by its text
abbrev pub record_in : List ℕ → Option (List ℕ)
record_in text = if nat_le (length text) 128 then bytes_of_hex text else None

-- a text that is the text of an input's record
abbrev pub is_input_record : Data → Bool
is_input_record d = is_some (record_in (text_in d))

-- the bytes of an input's record; none where it is no such text
abbrev pub input_record_of : Data → List ℕ
input_record_of d = text_or_empty (record_in (text_in d))

-- the records of some lists, or as many empty lists as there are guests
abbrev pub inputs_said : ℕ → Option (List Data) → List (List (List ℕ))
inputs_said guests (Some lists) = map (λ records. map input_record_of (items_in records)) lists
inputs_said guests None = replicate guests []

-- arrays of no more than 10,000 texts
abbrev pub are_inputs_few : Data → Bool
are_inputs_few d = list_all (λ records. nat_le (length (items_in records)) 10000) (items_in d)

-- an array of records for each guest
abbrev pub are_inputs_right : ℕ → Data → Bool
are_inputs_right guests d = length (items_in d) == guests && list_all (λ records. list_all is_input_record (items_in records)) (items_in d)

-- inputs: the records of each guest; none where the key is absent
abbrev pub inputs_row : ℕ → Members → Result (List (List (List ℕ))) PlanFault
inputs_row guests ms = optional (inputs_said guests None) (λ d. tested key.Inputs (is_array_of (is_array_of is_text) d) (are_inputs_few d) (are_inputs_right guests d)
    (inputs_said guests (Some (items_in d)))) (at_key key.Inputs ms)

-- whether a key is there
abbrev pub has : Key → Members → Bool
has key ms = is_some (at_key key ms)

-- schedule: the name of its file, needed where there is no seed
abbrev pub schedule_row : Members → Result (Option (List ℕ)) PlanFault
schedule_row ms = if has key.Schedule ms || has key.Seed ms
    then optional None (λ d. tested key.Schedule (is_text d) true true (Some (text_in d))) (at_key key.Schedule ms)
    else Err (Missing key.Schedule)

-- seed: a whole number below 2^63, and not beside a schedule
abbrev pub seed_row : Command → Members → Result (Option ℕ) PlanFault
seed_row by ms = optional None (λ d. tested key.Seed (is_whole d) true
    (takes by key.Seed && (not (has key.Schedule ms) && is_between 0 9223372036854775807 d)) (Some (natural_in d))) (at_key key.Seed ms)

-- turns: up to a million, needed with a seed, and not beside a schedule
abbrev pub turns_row : Members → Result (Option ℕ) PlanFault
turns_row ms = if has key.Turns ms || not (has key.Seed ms)
    then optional None (λ d. tested key.Turns (is_whole d) true (not (has key.Schedule ms) && is_between 0 ENTRIES d) (Some (natural_in d))) (at_key key.Turns ms)
    else Err (Missing key.Turns)

-- no items
abbrev pub is_none : List Data → Bool
is_none [] = true
is_none (d ∷ ds) = false

-- stop: up to 1,000 tables of the keys of a stop; none where the key is absent
abbrev pub stops_row : Command → Medium → ℕ → Members → Result (List PlannedStop) PlanFault
stops_row by medium guests ms = optional [] (λ d. if list_all is_complete (items_in d)
    then tested key.Stop (is_array_of has_stop_kinds d) (nat_le (length (items_in d)) 1000)
    ((takes by key.Stop || is_none (items_in d)) && list_all (has_stop_ranges medium guests) (items_in d)) (map stop_of (items_in d))
    else Err (Missing key.Stop)) (at_key key.Stop ms)

-- halt: up to a million, and only on a disk
abbrev pub halt_row : Command → Medium → Members → Result (Option ℕ) PlanFault
halt_row by medium ms = optional None (λ d. tested key.Halt (is_whole d) true (takes by key.Halt && (may_halt medium && is_between 0 ENTRIES d)) (Some (natural_in d))) (at_key key.Halt ms)

-- the file where there is one, and else the seed with its turns, neither of which is absent then
abbrev pub source_of : Option (List ℕ) → Option ℕ → Option ℕ → Source
source_of (Some name) seed turns = InFile name
source_of None seed turns = FromSeed (unwrap_or seed 0) (unwrap_or turns 0)

-- the keys in the order of their tests
abbrev pub rows : Command → Members → Result Plan PlanFault
rows by ms =
    protocol_row ms >>= (λ protocol.
    medium_row by ms >>= (λ medium.
    memory_row ms >>= (λ memory.
    guests_row ms >>= (λ guests.
    inputs_row (length guests) ms >>= (λ inputs.
    schedule_row ms >>= (λ schedule.
    seed_row by ms >>= (λ seed.
    turns_row ms >>= (λ turns.
    stops_row by medium (length guests) ms >>= (λ stops.
    halt_row by medium ms >>= (λ halt.
    Ok (record { protocol = protocol; medium = medium; memory = memory; guests = guests; inputs = inputs; schedule = source_of schedule seed turns; stops = stops; halt = halt })))))))))))

-- the items of the value at a key
abbrev pub items_at : Option Data → List Data
items_at None = []
items_at (Some d) = items_in d

-- each key is one of a plan, and each of a stop one of a stop
abbrev pub has_known_keys : Members → Bool
has_known_keys ms = list_all is_key (names_in ms) && list_all has_stop_keys (items_at (at_key key.Stop ms))

-- what a document says to a command, or the first rule that it breaks
abbrev pub plan_from : Command → Members → Result Plan PlanFault
plan_from by ms = if has_known_keys ms then rows by ms else Err Unknown

-- what the bytes of a plan say to a command, or the first rule that they break
unfoldable pub plan_of : Command → List ℕ → Result Plan PlanFault
plan_of by bytes = or_fault Text (if is_utf8 bytes then parse_document bytes else None) >>= plan_from by

-- the source of a plan in the code
abbrev pub source_view : ScheduleSource → Source
source_view (source.File name) = InFile (string_bytes name)
source_view (source.Seed seed) = FromSeed seed.start seed.turns

-- a plan in the code
abbrev pub plan_view : declared.Plan → Plan
plan_view plan = record {
  protocol = plan.protocol;
  medium = plan.medium;
  memory = plan.memory;
  guests = map string_bytes plan.guests.items;
  inputs = map (λ records. records.items) plan.inputs.items;
  schedule = source_view plan.schedule;
  stops = plan.stops.items;
  halt = plan.halt;
}

-- a result is this one, if it is not for want of memory
abbrev pub IsExact : Result declared.Plan PlanError → Result Plan PlanFault → Type 0
IsExact (Ok plan) said = said ≡ Ok (plan_view plan)
IsExact (Err (error.Refused fault)) said = said ≡ Err fault
IsExact (Err error.Memory) said = Unit {0}
