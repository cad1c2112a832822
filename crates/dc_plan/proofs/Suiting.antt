-- A plan that is read has nothing of what its command forbids.
use Rattle.std.proofs.Common.{◌≡◌, ◌∙◌, ◌&&◌, ◌||◌, ℕ, Bool, true, false, List, length, Option, Some, None, is_some, Result, Ok, Err, if◌then◌else◌, ap, sym, subst, ⊎_elim, refl}
use Rattle.std.proofs.lemmas.Bool.{and_parts, cases_Bool, false≢true}
use Rattle.toml.specs.Data.{Data, Members}
use Rattle.dc_plan.proofs.Counting.{guests_allowed}
use Rattle.dc_plan.proofs.Passing.{gave, passed}
use Rattle.dc_plan.proofs.Stopping.{stops_allowed}
use Rattle.dc_plan.specs.Allowed.{Suits, is_seed}
use Rattle.dc_plan.specs.Commands.{may_halt, runs_on, takes}
use Rattle.dc_plan.specs.Plans.{Plan, at_key, guests_row, halt_row, has_known_keys, inputs_row, medium_named, medium_row, memory_row, needed, on_it, optional, plan_from, protocol_row, rows, schedule_row, seed_row, source_of, stops_row, tested, turns_row}
use Rattle.dc_plan.specs.Values.{is_text, is_whole, natural_in, text_in}
use Rattle.dc_plan.specs.declared.command.Command.{Command}
use Rattle.dc_plan.specs.declared.command.Command.TheVariants as command
use Rattle.dc_plan.specs.declared.fault.PlanFault.{PlanFault}
use Rattle.dc_plan.specs.declared.fault.PlanFault.TheVariants.{Missing, Range, Unknown}
use Rattle.dc_plan.specs.declared.keys.Key.{Key}
use Rattle.dc_plan.specs.declared.keys.Key.TheVariants as key
use Rattle.dc_plan.specs.declared.plan.Medium.{Medium}
use Rattle.dc_plan.specs.declared.plan.Medium.TheVariants as medium
use Rattle.dc_words.specs.Results.{or_fault}

-- only a disk lasts
only_disk : (on : Medium) → may_halt on ≡ true → on ≡ medium.Disk
only_disk medium.Rio may = absurd (let never : ⊥ = cc in never)
only_disk medium.Disk may = refl

medium_lasts : (by : Command) (ms : Members) (on : Medium) → medium_row by ms ≡ Ok on → by ≡ command.Resume → on ≡ medium.Disk
medium_lasts by ms on e is =
    let value = gave (needed key.Medium ms) _ on e in
    let name = gave (tested key.Medium (is_text value.value) true true (text_in value.value)) _ on value.after in
    let named = gave (or_fault (Range key.Medium) (medium_named name.value)) (on_it by) on name.after in
    let p = passed key.Medium true true (runs_on by named.value) named.value on named.after in
    only_disk on (subst (λ m. may_halt m ≡ true) p.said_is (sym (ap (λ b. runs_on b named.value) is) ∙ p.range_is))

-- a key that is not taken says nothing
untaken : {A : Type 0} (k : Key) (may : Bool) (kind range : Data → Bool) (said : Data → A) (found : Option Data) (y : Option A)
    → optional None (λ d. tested k (kind d) true (may && range d) (Some (said d))) found ≡ Ok y → may ≡ false → (y ≡ None) × (is_some found ≡ false)
untaken k may kind range said None y e never = (let is : None ≡ y = cc in sym is, refl)
untaken k may kind range said (Some d) y e never = absurd (false≢true (sym never ∙ (and_parts may (range d) (passed k (kind d) true (may && range d) (Some (said d)) y e).range_is).0))

-- with no seed there is a schedule's file
filed : (s e : Option Data) (schedule : Option (List ℕ)) (seed turns : Option ℕ)
    → (if is_some s || is_some e then optional None (λ d. tested key.Schedule (is_text d) true true (Some (text_in d))) s else Err (Missing key.Schedule)) ≡ Ok schedule
    → is_some e ≡ false → is_seed (source_of schedule seed turns) ≡ false
filed (Some d) e schedule seed turns named none = rw (← (passed key.Schedule (is_text d) true true (Some (text_in d)) schedule named).said_is) refl
filed None e schedule seed turns named none = absurd (let never : Err (Missing key.Schedule) ≡ Ok schedule = rw none at named in let bad : ⊥ = cc in bad)

rows_suit : (by : Command) (ms : Members) (plan : Plan) → rows by ms ≡ Ok plan → Suits by plan
rows_suit by ms plan e =
    let protocol = gave (protocol_row ms) _ plan e in
    let medium = gave (medium_row by ms) _ plan protocol.after in
    let memory = gave (memory_row ms) _ plan medium.after in
    let guests = gave (guests_row ms) _ plan memory.after in
    let inputs = gave (inputs_row (length guests.value) ms) _ plan guests.after in
    let schedule = gave (schedule_row ms) _ plan inputs.after in
    let seed = gave (seed_row by ms) _ plan schedule.after in
    let turns = gave (turns_row ms) _ plan seed.after in
    let stops = gave (stops_row by medium.value (length guests.value) ms) _ plan turns.after in
    let halt = gave (halt_row by medium.value ms) _ plan stops.after in
    let is = said_is _ plan halt.after in
    let some = (guests_allowed ms guests.value guests.first).0 in
    rw (← is) (record {
      lasts = medium_lasts by ms medium.value medium.first;
      undrawn = λ noted. filed (at_key key.Schedule ms) (at_key key.Seed ms) schedule.value seed.value turns.value schedule.first
          (untaken key.Seed (takes by key.Seed) is_whole _ natural_in (at_key key.Seed ms) seed.value seed.first (ap (λ b. takes b key.Seed) noted)).1;
      unstopped = λ noted. (stops_allowed medium.value (length guests.value) some by ms stops.value stops.first).1 (ap (λ b. takes b key.Stop) noted);
      unhalted = λ noted. (untaken key.Halt (takes by key.Halt) is_whole _ natural_in (at_key key.Halt ms) halt.value halt.first (ap (λ b. takes b key.Halt) noted)).0;
    })
  where
    said_is : (said plan : Plan) → ◌≡◌ {A = Result Plan PlanFault} (Ok said) (Ok plan) → said ≡ plan
    said_is said plan e = cc

pub plan_suits : (by : Command) (ms : Members) (plan : Plan) → plan_from by ms ≡ Ok plan → Suits by plan
plan_suits by ms plan e = ⊎_elim
    (λ good. rows_suit by ms plan (sym (ap (λ b. if b then rows by ms else Err Unknown) good) ∙ e))
    (λ bad. let never : Err Unknown ≡ Ok plan = sym (ap (λ b. if b then rows by ms else Err Unknown) bad) ∙ e in absurd (let none : ⊥ = cc in none))
    (cases_Bool (has_known_keys ms))
