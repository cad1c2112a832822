use Rattle.std.proofs.Common.{◌≡◌, ◌∙◌, arith, false, refl, rules, slice_get, sym}
use Rattle.std.proofs.lemmas.Bool.{true≢false}
use Rattle.std.proofs.lemmas.Option.{slice_get_read}
use Rattle.dc_model.specs.Runs.{own}
use Rattle.dc_proc.specs.Carried.{system}
use Rattle.dc_retrace.specs.Read.{stored_in}
use Rattle.dc_retrace.specs.Trails.{IsTrail}
use Rattle.dc_retrace.proofs.Onward.{if_some}
use Rattle.dc_retrace.proofs.Suiting.{closed_of, decided_of, suited_by}
use Rattle.dc_retrace.proofs.deciding.is_suited.Goals as goal

pub returns-then-not-is_covered-clause-only : goal.returns-then-not-is_covered-clause-only
returns-then-not-is_covered-clause-only c = λ no images inputs acts memories long are suits.
    let on = c.is_covered.ensures.only (closed_of images inputs c.args.protocol acts c.args.decided memories c.args.saved.now c.args.trails.now c.args.p long are c.requires.count c.requires.process suits) in
    let off : c.is_covered.result ≡ false = search rules in
    true≢false (sym on ∙ off)

pub returns-clause-is : goal.returns-clause-is
returns-clause-is c = λ yes images inputs acts memories long are.
    let S = system images inputs c.args.protocol in
    let p = c.args.p in
    let stores = stored_in memories c.args.saved.now in
    let there = slice_get_read c.args.trails.now _ p c.index-trails-p.result refl (let inside = c.requires.process in let count = c.requires.count in omega (arith, inside, count)) c.index-trails-p.is in
    let here = if_some (slice_get c.args.trails.now p) c.index-trails-p.result (IsTrail S p (own p acts) (stores p)) there (are p (let inside = c.requires.process in omega (arith, inside, long))) in
    suited_by images inputs c.args.protocol acts c.args.decided memories c.args.saved.now c.args.trails.now p long are c.requires.count c.requires.process
    (c.is_suited_alone.ensures.is (search rules) images inputs (own p acts) (stores p) long refl refl here)
    (c.keeps_enough.ensures.is (search rules)) (c.is_covered.ensures.is (search rules)) (c.is_alike.ensures.is (search rules))
    (search rules) (c.may_decide.ensures.is yes)

pub returns-clause-only : goal.returns-clause-only
returns-clause-only c = λ no images inputs acts memories long are suits.
    true≢false (sym (c.may_decide.ensures.only (decided_of images inputs c.args.protocol acts c.args.decided memories c.args.saved.now c.args.trails.now c.args.p long are c.requires.count c.requires.process suits)) ∙ no)
