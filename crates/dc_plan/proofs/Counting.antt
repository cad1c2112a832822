-- How many guests a plan that is read has.
use Rattle.std.proofs.Common.{◌≡◌, ◌∙◌, ◌≤◌, ℕ, List, length, map, Ok, nat_le, ap, sym}
use Rattle.std.proofs.lemmas.Bool.{leb-true}
use Rattle.std.proofs.lemmas.List.{length-map}
use Rattle.toml.specs.Data.{Data, Members}
use Rattle.dc_plan.proofs.Passing.{gave, passed}
use Rattle.dc_plan.specs.Plans.{guests_row, needed}
use Rattle.dc_plan.specs.Values.{is_array_of, is_text, items_in, text_in}
use Rattle.dc_plan.specs.declared.keys.Key.TheVariants as key

pub guests_allowed : (ms : Members) (guests : List (List ℕ)) → guests_row ms ≡ Ok guests → (1 ≤ length guests) × (length guests ≤ 8)
guests_allowed ms guests e =
    let value = gave (needed key.Guests ms) _ guests e in
    let d : Data = value.value in
    let p = passed key.Guests (is_array_of is_text d) (nat_le (length (items_in d)) 8) (nat_le 1 (length (items_in d))) (map text_in (items_in d)) guests value.after in
    let count : length guests ≡ length (items_in d) = ap length (sym p.said_is) ∙ length-map (items_in d) text_in in
    rw count (leb-true 1 (length (items_in d)) p.range_is, leb-true (length (items_in d)) 8 p.few_is)
