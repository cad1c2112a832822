use Rattle.std.proofs.Common.{rules, ◌≡◌, ◌+◌, true, length, sym}
use Rattle.std.proofs.lemmas.List.{length-take-le}
use Rattle.dc_words.specs.Texts.{fields_of}
use Rattle.dc_check.specs.Records.{is_body, is_word}
use Rattle.dc_check.proofs.Fields.{numbers_are, numbers_within}
use Rattle.dc_check.proofs.records.numbers_in.Goals as goal

pub slice_bounds-result-end : goal.slice_bounds-result-end
slice_bounds-result-end c = sym (length-take-le (length c.in_ok-p.p.now + 1 + length c.in_ok-k.k.now) c.in_ok-name.rest.now
    (numbers_within c.in_ok-name.rest.now c.in_ok-p.p.now c.in_ok-p.after.now c.in_ok-k.k.now c.in_ok-k.body.now c.in_ok-p.ensures.some c.in_ok-k.ensures.some))

pub returns-then-is_body-clause-some : goal.returns-then-is_body-clause-some
returns-then-is_body-clause-some c =
    let word : is_word c.in_ok-p.p.now ≡ true = search rules in
    let word' : is_word c.in_ok-k.k.now ≡ true = search rules in
    let shows : is_body c.in_ok-name.name.now (fields_of 32 c.in_ok-k.body.now) ≡ true = search rules in
    numbers_are c.args.line.now c.in_ok-name.name.now c.in_ok-name.rest.now c.in_ok-p.p.now c.in_ok-p.after.now c.in_ok-k.k.now c.in_ok-k.body.now
    c.in_ok-name.ensures.some c.in_ok-p.ensures.some c.in_ok-k.ensures.some word word' shows
