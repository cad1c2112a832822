use Rattle.std.proofs.Common.{ap, arith, length, map, rules, string_bytes, subst, sym}
use Rattle.std.proofs.lemmas.List.{length-map}
use Rattle.dc_elf.specs.Loaded.{seen_image}
use Rattle.dc_schedule.specs.Entries.{IsSchedule}
use Rattle.dc_run.proofs.Given.{given_run}
use Rattle.dc_run.proofs.Headlines.{entries_named}
use Rattle.std.proofs.lemmas.Result.{err_from_is_err_and}
use Rattle.dc_plan.specs.Plans.{plan_view}
use Rattle.dc_run.specs.declared.refusal.Refusal.TheVariants.{Library}
use Rattle.dc_run.proofs.Openings.{asked_guest, same_refusal}
use Rattle.dc_run.proofs.opening.open_plan.Goals as goal

pub returns-in_err-images-clause-reached : goal.returns-in_err-images-clause-reached
returns-in_err-images-clause-reached g c = λ files w known fault. let p = err_from_is_err_and c.from_residual.result c.from_residual.ensures.1 in
    let failed = same_refusal c.in_err-images.field-0.0 (Library w) (rw (p.1, p.2) at fault) in
    asked_guest files (plan_view c.args.plan) _ w (ap (map string_bytes) c.deref.ensures.value) (c.in_err-images.ensures.reached files w known failed)

pub returns-clause-given : goal.returns-clause-given
returns-clause-given g c = let long = length-map c.in_ok-images.images.items seen_image in
    let count = c.in_ok-images.ensures.count in
    let names = ap length c.deref.ensures.value in
    let most = c.requires.guests_most in
    let as_many = length-map c.args.plan.guests.items string_bytes in
    let is : IsSchedule (length c.in_ok-images.images.items) c.in_ok-schedule.schedule.items = search rules in
    given_run _ _ _ (omega (arith, long, count, names, most, as_many)) c.in_ok-images.ensures.typed c.requires.records (subst (λ n. IsSchedule n c.in_ok-schedule.schedule.items) (sym long) is)

pub invariant_of-setting-clause-processes : goal.invariant_of-setting-clause-processes
invariant_of-setting-clause-processes g c = let is : IsSchedule (length c.in_ok-images.images.items) c.in_ok-schedule.schedule.items = search rules in
    entries_named (length c.in_ok-images.images.items) 0 c.in_ok-schedule.schedule.items is.1
