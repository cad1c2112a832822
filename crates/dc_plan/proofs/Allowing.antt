-- A plan that is read is allowed.
use Rattle.std.proofs.Common.{◌≡◌, ◌∙◌, ◌≤◌, ◌<◌, ◌^◌, ◌%◌, ◌*◌, ◌+◌, ◌&&◌, ◌==◌, ℕ, zero, suc, IfSome, arith, All, Bool, true, List, [], ◌∷◌, length, map, replicate, Option, Some, None, Result, Ok, Err, nat_le, if◌then◌else◌, bytes_eq, codes, ap, sym, subst, ⊎_elim, false, refl}
use Rattle.std.specs.List.{AllByRecursion, list_all}
use Rattle.std.specs.Str.{is_utf8}
use Rattle.std.proofs.lemmas.Bool.{and_parts, cases_Bool, leb-true, eqb-true}
use Rattle.std.proofs.lemmas.List.{length-map, length-replicate}
use Rattle.toml.specs.Data.{Data, Members, as_integer}
use Rattle.toml.specs.Parse.{parse_document}
use Rattle.toml.specs.View.{view}
use Rattle.toml.specs.declared.value.Value.{Value}
use Rattle.dc_plan.specs.Stops.{HasRoom, stop_of}
use Rattle.dc_words.specs.Hex.{byte_before, byte_of_digits, bytes_of_hex, value_of}
use Rattle.dc_protocols.specs.Rules.{is_causal}
use Rattle.dc_protocols.specs.declared.protocol.Protocol.{Protocol}
use Rattle.dc_protocols.specs.declared.protocol.Protocol.TheVariants.{Cand, CandLog, Cbndv2pc, Cbndvs, CbndvsLog, Cpv2pc, Cpvs}
use Rattle.dc_plan.proofs.Counting.{guests_allowed}
use Rattle.dc_plan.proofs.Halting.{halt_allowed}
use Rattle.dc_plan.proofs.Passing.{between, gave, passed}
use Rattle.dc_plan.proofs.Sources.{source_allowed}
use Rattle.dc_plan.proofs.Stopping.{room_for, stops_allowed, tables_have_room}
use Rattle.dc_plan.proofs.Suiting.{plan_suits}
use Rattle.dc_plan.specs.Allowed.{IsAllowed, IsRecord, Suits}
use Rattle.dc_plan.specs.Plans.{Plan, are_inputs_few, are_inputs_right, at_key, guests_row, halt_row, has_known_keys, inputs_row, inputs_said, is_input_record, medium_row, memory_row, needed, optional, plan_from, plan_of, protocol_named, protocol_row, input_record_of, record_in, rows, schedule_row, seed_row, stops_row, tested, turns_row}
use Rattle.dc_words.specs.Results.{or_fault}
use Rattle.dc_words.specs.Words.{AllBelow}
use Rattle.dc_plan.specs.Values.{is_array_of, is_between, is_text, is_whole, items_in, natural_in, text_in, text_or_empty}
use Rattle.dc_plan.specs.declared.command.Command.{Command}
use Rattle.dc_plan.specs.declared.fault.PlanFault.{PlanFault}
use Rattle.dc_plan.specs.declared.fault.PlanFault.TheVariants.{Range, Text, Unknown}
use Rattle.dc_plan.specs.declared.keys.Key.TheVariants as key

-- each protocol that has a name is one of the seven
abbrev AllSeven : Option Protocol → Type 0
AllSeven o = (m : Protocol) → or_fault (Range key.Protocol) o ≡ Ok m → is_causal m ≡ false

none_seven : AllSeven None
none_seven m e = absurd (let never : ⊥ = cc in never)

one_seven : (b : Bool) (p : Protocol) → is_causal p ≡ false → (rest : Option Protocol) → AllSeven rest → AllSeven (if b then Some p else rest)
one_seven true p is rest good m e = let same : p ≡ m = cc in ap is_causal (sym same) ∙ is
one_seven false p is rest good m e = good m e

module _ (name : List ℕ) where
  abbrev last : Option Protocol
  last = if bytes_eq name (codes "cbndv-2pc") then Some Cbndv2pc else None

  abbrev sixth : Option Protocol
  sixth = if bytes_eq name (codes "cpv-2pc") then Some Cpv2pc else last

  abbrev fifth : Option Protocol
  fifth = if bytes_eq name (codes "cbndvs-log") then Some CbndvsLog else sixth

  abbrev fourth : Option Protocol
  fourth = if bytes_eq name (codes "cbndvs") then Some Cbndvs else fifth

  abbrev third : Option Protocol
  third = if bytes_eq name (codes "cpvs") then Some Cpvs else fourth

  abbrev second : Option Protocol
  second = if bytes_eq name (codes "cand-log") then Some CandLog else third

  named_seven : AllSeven (protocol_named name)
  named_seven = one_seven (bytes_eq name (codes "cand")) Cand refl second (one_seven (bytes_eq name (codes "cand-log")) CandLog refl third (one_seven (bytes_eq name (codes "cpvs")) Cpvs refl fourth
      (one_seven (bytes_eq name (codes "cbndvs")) Cbndvs refl fifth (one_seven (bytes_eq name (codes "cbndvs-log")) CbndvsLog refl sixth (one_seven (bytes_eq name (codes "cpv-2pc")) Cpv2pc refl last
      (one_seven (bytes_eq name (codes "cbndv-2pc")) Cbndv2pc refl None none_seven))))))

protocol_allowed : (ms : Members) (m : Protocol) → protocol_row ms ≡ Ok m → is_causal m ≡ false
protocol_allowed ms m e =
    let value = gave (needed key.Protocol ms) _ m e in
    let name = gave (tested key.Protocol (is_text value.value) true true (text_in value.value)) _ m value.after in
    named_seven name.value m name.after

memory_allowed : (ms : Members) (n : ℕ) → memory_row ms ≡ Ok n → (65536 ≤ n) × (n ≤ 1048576) × (n % 4096 ≡ 0)
memory_allowed ms n e =
    let value = gave (needed key.Memory ms) _ n e in
    let d : Data = value.value in
    let p = passed key.Memory (is_whole d) true (is_between 65536 1048576 d && natural_in d % 4096 == 0) (natural_in d) n value.after in
    let parts = and_parts (is_between 65536 1048576 d) (natural_in d % 4096 == 0) p.range_is in
    let bounds = between 65536 1048576 (as_integer d) parts.0 in
    rw (← p.said_is) (bounds.0, bounds.1, eqb-true (natural_in d % 4096) 0 parts.1)

inputs_allowed : (ms : Members) (guests : ℕ) (inputs : List (List (List ℕ))) → inputs_row guests ms ≡ Ok inputs → length inputs ≡ guests
inputs_allowed ms guests inputs e = at (at_key key.Inputs ms) e
  where
    at : (found : Option Data) → optional (inputs_said guests None) (λ d. tested key.Inputs (is_array_of (is_array_of is_text) d) (are_inputs_few d) (are_inputs_right guests d)
        (inputs_said guests (Some (items_in d)))) found ≡ Ok inputs → length inputs ≡ guests
    at None e = let is : replicate guests [] ≡ inputs = cc in ap length (sym is) ∙ length-replicate guests []
    at (Some d) e =
        let p = passed key.Inputs (is_array_of (is_array_of is_text) d) (are_inputs_few d) (are_inputs_right guests d) (inputs_said guests (Some (items_in d))) inputs e in
        let parts = and_parts (length (items_in d) == guests) (list_all (λ records. list_all is_input_record (items_in records)) (items_in d)) p.range_is in
        ap length (sym p.said_is) ∙ length-map (items_in d) (λ records. map input_record_of (items_in records)) ∙ eqb-true (length (items_in d)) guests parts.0

-- a byte before others, of two digits before theirs
before_short : (b : Option ℕ) (rest : Option (List ℕ)) (n : ℕ) → 2 * length (text_or_empty rest) ≤ n → 2 * length (text_or_empty (byte_before b rest)) ≤ n + 2
before_short (Some b) (Some bytes) n short = omega (arith, short)
before_short (Some b) None n short = omega arith
before_short None rest n short = omega arith

-- two digits a byte
hex_short : (text : List ℕ) → 2 * length (text_or_empty (bytes_of_hex text)) ≤ length text
hex_short [] = omega arith
hex_short (c ∷ []) = omega arith
hex_short (high ∷ low ∷ text) = let more = before_short (byte_of_digits (value_of high) (value_of low)) (bytes_of_hex text) (length text) (hex_short text) in omega (arith, more)

record_short : (text : List ℕ) → length (text_or_empty (record_in text)) ≤ 64
record_short text = ⊎_elim
    (λ short. rw short (let bytes = hex_short text in let few = leb-true (length text) 128 short in omega (arith, bytes, few)))
    (λ long. rw long (omega arith))
    (cases_Bool (nat_le (length text) 128))

-- a digit is below 16, so a byte of two is below 256
abbrev IfBelow : ℕ → Option ℕ → Type 0
IfBelow bound o = IfSome o (λ v. v < bound)

digit_below : (c : ℕ) → IfBelow 16 (value_of c)
digit_below c = ⊎_elim
    (λ so. rw so (let parts = and_parts (nat_le 48 c) (nat_le c 57) so in let low = leb-true 48 c parts.0 in let high = leb-true c 57 parts.1 in omega (arith, low, high)))
    (λ other. rw other (⊎_elim
    (λ so. rw so (let parts = and_parts (nat_le 97 c) (nat_le c 102) so in let low = leb-true 97 c parts.0 in let high = leb-true c 102 parts.1 in omega (arith, low, high)))
    (λ none. rw none tt)
    (cases_Bool (nat_le 97 c && nat_le c 102))))
    (cases_Bool (nat_le 48 c && nat_le c 57))

byte_below : (high low : Option ℕ) → IfBelow 16 high → IfBelow 16 low → IfBelow 256 (byte_of_digits high low)
byte_below None low h l = tt
byte_below (Some a) None h l = tt
byte_below (Some a) (Some b) h l = omega (arith, h, l)

before_below : (b : Option ℕ) (rest : Option (List ℕ)) → IfBelow 256 b → AllBelow (2 ^ 8) (text_or_empty rest) → AllBelow (2 ^ 8) (text_or_empty (byte_before b rest))
before_below (Some b) (Some bytes) one all = (one, all)
before_below (Some b) None one all = tt
before_below None rest one all = tt

hex_below : (text : List ℕ) → AllBelow (2 ^ 8) (text_or_empty (bytes_of_hex text))
hex_below [] = tt
hex_below (c ∷ []) = tt
hex_below (high ∷ low ∷ text) = before_below (byte_of_digits (value_of high) (value_of low)) (bytes_of_hex text) (byte_below (value_of high) (value_of low) (digit_below high) (digit_below low)) (hex_below text)

record_below : (text : List ℕ) → AllBelow (2 ^ 8) (text_or_empty (record_in text))
record_below text = ⊎_elim (λ short. rw short (hex_below text)) (λ long. rw long tt) (cases_Bool (nat_le (length text) 128))

records_right : (ds : List Data) → AllByRecursion IsRecord (map input_record_of ds)
records_right [] = tt
records_right (d ∷ ds) = ((record_short (text_in d), record_below (text_in d)), records_right ds)

lists_right : (ds : List Data) → AllByRecursion (AllByRecursion IsRecord) (map (λ records. map input_record_of (items_in records)) ds)
lists_right [] = tt
lists_right (d ∷ ds) = (records_right (items_in d), lists_right ds)

none_right : (n : ℕ) → AllByRecursion (AllByRecursion IsRecord) (replicate n [])
none_right zero = tt
none_right (suc n) = (tt, none_right n)

records_allowed : (ms : Members) (guests : ℕ) (inputs : List (List (List ℕ))) → inputs_row guests ms ≡ Ok inputs → AllByRecursion (AllByRecursion IsRecord) inputs
records_allowed ms guests inputs e = at (at_key key.Inputs ms) e
  where
    at : (found : Option Data) → optional (inputs_said guests None) (λ d. tested key.Inputs (is_array_of (is_array_of is_text) d) (are_inputs_few d) (are_inputs_right guests d)
        (inputs_said guests (Some (items_in d)))) found ≡ Ok inputs → AllByRecursion (AllByRecursion IsRecord) inputs
    at None e = let is : replicate guests [] ≡ inputs = cc in subst (AllByRecursion (AllByRecursion IsRecord)) is (none_right guests)
    at (Some d) e =
        let p = passed key.Inputs (is_array_of (is_array_of is_text) d) (are_inputs_few d) (are_inputs_right guests d) (inputs_said guests (Some (items_in d))) inputs e in
        subst (AllByRecursion (AllByRecursion IsRecord)) p.said_is (lists_right (items_in d))

rows_allowed : (by : Command) (ms : Members) (plan : Plan) → rows by ms ≡ Ok plan → IsAllowed plan
rows_allowed by ms plan e =
    let protocol = gave (protocol_row ms) _ plan e in
    let medium = gave (medium_row by ms) _ plan protocol.after in
    let memory = gave (memory_row ms) _ plan medium.after in
    let guests = gave (guests_row ms) _ plan memory.after in
    let inputs = gave (inputs_row (length guests.value) ms) _ plan guests.after in
    let schedule = gave (schedule_row ms) _ plan inputs.after in
    let seed = gave (seed_row by ms) _ plan schedule.after in
    let turns = gave (turns_row ms) _ plan seed.after in
    let stops = gave (stops_row by medium.value (length guests.value) ms) _ plan turns.after in
    let sized = memory_allowed ms memory.value memory.first in
    let counted = guests_allowed ms guests.value guests.first in
    let stopped = stops_allowed medium.value (length guests.value) counted.0 by ms stops.value stops.first in
    let halt = gave (halt_row by medium.value ms) _ plan stops.after in
    let is = said_is _ plan halt.after in
    rw (← is) (record {
      seven = protocol_allowed ms protocol.value protocol.first;
      memory_least = sized.0;
      memory_most = sized.1;
      memory_pages = sized.2;
      guests_least = counted.0;
      guests_most = counted.1;
      inputs = inputs_allowed ms (length guests.value) inputs.value inputs.first;
      records = records_allowed ms (length guests.value) inputs.value inputs.first;
      schedule = source_allowed by ms schedule.value seed.value turns.value schedule.first seed.first turns.first;
      stops = stopped.0.each;
      stops_most = stopped.0.most;
      halt = halt_allowed by medium.value ms halt.value halt.first;
    })
  where
    said_is : (said plan : Plan) → ◌≡◌ {A = Result Plan PlanFault} (Ok said) (Ok plan) → said ≡ plan
    said_is said plan e = cc

plan_allowed : (by : Command) (ms : Members) (plan : Plan) → plan_from by ms ≡ Ok plan → IsAllowed plan
plan_allowed by ms plan e = ⊎_elim
    (λ good. rows_allowed by ms plan (sym (ap (λ b. if b then rows by ms else Err Unknown) good) ∙ e))
    (λ bad. let never : Err Unknown ≡ Ok plan = sym (ap (λ b. if b then rows by ms else Err Unknown) bad) ∙ e in absurd (let none : ⊥ = cc in none))
    (cases_Bool (has_known_keys ms))

pub read_allowed : (by : Command) (bytes : List ℕ) (plan : Plan) → plan_of by bytes ≡ Ok plan → IsAllowed plan
unfolding plan_of
read_allowed by bytes plan e =
    let document = gave (or_fault Text (if is_utf8 bytes then parse_document bytes else None)) (plan_from by) plan e in
    plan_allowed by document.value plan document.after

pub read_suits : (by : Command) (bytes : List ℕ) (plan : Plan) → plan_of by bytes ≡ Ok plan → Suits by plan
unfolding plan_of
read_suits by bytes plan e =
    let document = gave (or_fault Text (if is_utf8 bytes then parse_document bytes else None)) (plan_from by) plan e in
    plan_suits by document.value plan document.after

-- the stops of a plan that is read have room
pub read_have_room : (by : Command) (ms : Members) (plan : Plan) (tables : List Value) → plan.stops ≡ map stop_of (map view tables) → plan_from by ms ≡ Ok plan → All (λ table. HasRoom (stop_of (view table))) tables
read_have_room by ms plan tables is e =
    let allowed = plan_allowed by ms plan e in
    let most = allowed.guests_most in
    tables_have_room tables (subst (All HasRoom) is (room_for plan.medium (length plan.guests) (omega (arith, most)) plan.stops allowed.stops))
