use Rattle.std.proofs.Common.{◌≡◌, ◌<◌, arith, rules, subst, ⊎_elim}
use Rattle.std.proofs.lemmas.Bool.{cases_lt}
use Rattle.dc_proc.specs.Carried.{system}
use Rattle.dc_resume.specs.Suited.{IsFirstUnsuited, IsSuited}
use Rattle.dc_retrace.specs.Read.{stored_in}
use Rattle.dc_retrace.proofs.deciding.first_unsuited.Goals as goal

pub returns-then-not-is_suited-clause-first : goal.returns-then-not-is_suited-clause-first
returns-then-not-is_suited-clause-first c = λ p is images inputs acts memories long are.
    let at = c.loop-p.p in
    let same : at ≡ p = cc in
    let test = c.loop-p-test.true in
    subst (IsFirstUnsuited (system images inputs c.args.protocol) acts c.args.decided (stored_in memories c.args.saved.now)) same (record {
      one_of = omega (arith, test, long);
      before = λ q less. c.loop-p.invariant images inputs acts memories long are q less;
      unsuited = λ suits. c.is_suited.ensures.only (search rules) images inputs acts memories long are suits;
    })

pub loop-p-preserved : goal.loop-p-preserved
loop-p-preserved c = λ images inputs acts memories long are q less.
    let at = c.loop-p.p in
    let now = c.is_suited.ensures.is (search rules) images inputs acts memories long are in
    ⊎_elim (λ (before : q < at). c.loop-p.invariant images inputs acts memories long are q before)
    (λ past. let same : at ≡ q = omega (arith, past, less) in subst (IsSuited (system images inputs c.args.protocol) acts c.args.decided (stored_in memories c.args.saved.now)) same now)
    (cases_lt q at)

pub returns-clause-none : goal.returns-clause-none
returns-clause-none c = λ none images inputs acts memories long are p less. c.loop-p.invariant images inputs acts memories long are p (omega (arith, less, long, c.loop-p-test.false))
