use Rattle.std.proofs.Common.{subst, sym}
use Rattle.std.proofs.lemmas.List.{length-map}
use Rattle.std.proofs.lemmas.Result.{IfOk-weaker}
use Rattle.dc_course.specs.Courses.{account_of, setting_of as given_of}
use Rattle.dc_course.specs.Running.{output}
use Rattle.dc_course.specs.Lent.{TellsStores}
use Rattle.dc_media.specs.Devices.{of_disks, of_words}
use Rattle.dc_elf.specs.Loaded.{seen_image}
use Rattle.dc_run.specs.Headline.{IsKept, loan}
use Rattle.dc_run.specs.Media.{devices_of, lent}
use Rattle.dc_run.proofs.OnMedia.{kept_on_disks, kept_on_words}
use Rattle.dc_run.proofs.program.run_on.Goals as goal

pub returns-in-Rio-clause-headline : goal.returns-in-Rio-clause-headline
returns-in-Rio-clause-headline g c =
    let setting = given_of c.args.setting in
    let old = c.args.keeps.now in
    let new = c.run_on_memory.new.keeps in
    let out = output (g.O.Sink.held c.args.out.now) (g.O.Sink.held c.run_on_memory.new.out) in
    IfOk-weaker c.run_on_memory.result _ _ (λ run says. subst (λ m. IsKept (devices_of g.K.Keeps g.D.Disks m) setting (account_of run) run.ending out (loan (lent old c.args.disks.now) (lent new c.args.disks.now))) (sym c.in-Rio.is)
    (kept_on_words g.K.Keeps g.D.Disks setting (account_of run) run.ending out old new c.args.disks.now (λ tells.
    says (subst (λ n. TellsStores (of_words g.K.Keeps) n old new) (length-map c.args.setting.scheduled.setup.images.items seen_image) tells)))) c.run_on_memory.ensures.headline

pub returns-in-Disk-clause-headline : goal.returns-in-Disk-clause-headline
returns-in-Disk-clause-headline g c =
    let setting = given_of c.args.setting in
    let old = c.args.disks.now in
    let new = c.run_on_disks.new.disks in
    let out = output (g.O.Sink.held c.args.out.now) (g.O.Sink.held c.run_on_disks.new.out) in
    IfOk-weaker c.run_on_disks.result _ _ (λ run says. subst (λ m. IsKept (devices_of g.K.Keeps g.D.Disks m) setting (account_of run) run.ending out (loan (lent c.args.keeps.now old) (lent c.args.keeps.now new))) (sym c.in-Disk.is)
    (kept_on_disks g.K.Keeps g.D.Disks setting (account_of run) run.ending out old new c.args.keeps.now (λ tells.
    says (subst (λ n. TellsStores (of_disks g.D.Disks) n old new) (length-map c.args.setting.scheduled.setup.images.items seen_image) tells)))) c.run_on_disks.ensures.headline
