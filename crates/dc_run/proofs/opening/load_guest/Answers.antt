use Rattle.std.proofs.Common.{◌∙◌, Err, ap, arith, inr}
use Rattle.dc_elf.specs.declared.faults.LoadFault.{LoadFault}
use Rattle.dc_elf.specs.Loaded.{seen_image}
use Rattle.dc_run.proofs.Openings.{can_open, guest_loaded, guest_refused, image_long, no_fault}
use Rattle.dc_run.proofs.opening.load_guest.Goals as goal

pub returns-in-Ok-clause-told : goal.returns-in-Ok-clause-told
returns-in-Ok-clause-told g c = λ files known. guest_loaded files c.args.size c.args.p c.args.name.now _ c.deref.result.now (c.in_ok-file.ensures.told files known) c.deref.ensures.value
    (seen_image c.in-Ok.image) (no_fault _ _ _ c.in-Ok.is c.load.ensures.refused) c.in-Ok.ensures.image

pub returns-in-Ok-clause-good : goal.returns-in-Ok-clause-good
returns-in-Ok-clause-good g c = can_open c.args.size c.in-Ok.image c.requires.least c.requires.most c.requires.pages (image_long c.deref.result.now c.args.size (seen_image c.in-Ok.image) c.in-Ok.ensures.image) c.in-Ok.ensures.aligned

pub returns-in-Err-Refused-clause-told : goal.returns-in-Err-Refused-clause-told
returns-in-Err-Refused-clause-told g c = λ files known. inr (guest_refused files c.args.size c.args.p c.args.name.now _ c.deref.result.now (c.in_ok-file.ensures.told files known) c.deref.ensures.value
    c.in-Err-Refused.fault ((c.load.ensures.refused c.in-Err-Refused.fault).0 (c.in-Err-Refused.is ∙ ap (λ (f : LoadFault). Err f) c.in-Err-Refused.field-0-is)))

pub returns-in-Ok-clause-typed : goal.returns-in-Ok-clause-typed
returns-in-Ok-clause-typed g c = record {
  memory = c.typed-long.ensures.bytes;
  entry = c.typed-long.ensures.entry;
  size = (let long = image_long c.deref.result.now c.args.size (seen_image c.in-Ok.image) c.in-Ok.ensures.image in let most = c.requires.most in omega (arith, long, most));
}
