use Rattle.std.proofs.Common.{◌≡◌, ◌∙◌, ◌<◌, ◌≤◌, All, List, ap, length, map, refl, subst, sym}
use Rattle.std.proofs.lemmas.List.{length-map}
use Rattle.std.proofs.lemmas.Result.{IfOk-weaker}
use Rattle.dc_course.specs.Continued.{IsEarlier, setting_from}
use Rattle.dc_course.specs.Courses.{account_of}
use Rattle.dc_course.specs.Headline.{system_in}
use Rattle.dc_course.specs.Lent.{AreLeftFrom, TellsStores}
use Rattle.dc_course.specs.Running.{output}
use Rattle.dc_course.specs.declared.setting.Setting as given
use Rattle.dc_disk.proofs.Rereadable.{left_again}
use Rattle.dc_disk.specs.Logs.{AreLeftAt, AreLogsRead}
use Rattle.dc_elf.specs.Loaded.{seen_image}
use Rattle.dc_media.specs.Devices.{of_disks}
use Rattle.dc_model.proofs.Rising.{TurnsBelow}
use Rattle.dc_model.specs.Drawn.{Drawn}
use Rattle.dc_model.specs.FailureFree.{run as run_of}
use Rattle.dc_model.specs.declared.act.Taken.{Taken}
use Rattle.dc_reread.specs.declared.faults.RereadFault.TheVariants as faults
use Rattle.dc_resume.specs.Suited.{IsFirstUnsuited}
use Rattle.dc_run.specs.Again.{going_of}
use Rattle.dc_run.specs.Headline.{loan}
use Rattle.dc_run.specs.Opening.{entries_run}
use Rattle.dc_run.specs.Resumed.{GoesOnFrom, ImagesOf}
use Rattle.dc_run.specs.Resuming.{onward_of}
use Rattle.dc_run.proofs.Goings.{not_content, on_err_by}
use Rattle.dc_run.proofs.Halts.{drawn_less, entries_behind}
use Rattle.dc_run.specs.declared.resuming.Going as code
use Rattle.dc_run.proofs.resuming.go_on_with.Given.{Over}
use Rattle.dc_run.proofs.resuming.go_on_with.Goals.{After-go_on_disks}
use Rattle.dc_run.proofs.resuming.go_on_with.Goals as goal

-- what is run of a run that goes on
record IsPart (going : code.Going) (part : given.Setting) : Type 0 where
  setup_same : part.scheduled.setup ≡ going.opened.setting.scheduled.setup
  stops_same : part.stops ≡ going.opened.setting.stops
  entries_are : part.scheduled.schedule.items ≡ entries_run going.halt going.opened.setting.scheduled.schedule.items

module _ (going : code.Going) (part : given.Setting) (is : IsPart going part) where
  -- is of the same guests
  abbrev images : ImagesOf (going_of going)
  images = record { images = part.scheduled.setup.images.items; seen = ap (λ u. map seen_image u.images.items) is.setup_same }

  as_many : length (going_of going).setting.images ≡ length part.scheduled.setup.images.items
  as_many = sym (ap (λ xs. length xs) images.seen) ∙ length-map part.scheduled.setup.images.items seen_image

  -- and is what goes on
  onward_is : setting_from part.scheduled part.stops.items going.report.entries ≡ onward_of (going_of going)
  onward_is = rw (is.setup_same, is.stops_same, is.entries_are) refl

-- the part that was run
part_is : (g : Over) (c : After-go_on_disks g) → IsPart c.args.going c.part_run-part.result
part_is g c = record { setup_same = c.part_run-part.ensures.setup; stops_same = c.part_run-part.ensures.stops; entries_are = c.part_run-part.ensures.entries }

pub go_on_disks-requires-clause-takers : goal.go_on_disks-requires-clause-takers
go_on_disks-requires-clause-takers g c =
    subst (λ (xs : List Taken). All (λ (x : Taken). x.p < length c.part_run-part.result.scheduled.setup.images.items) xs) (sym c.as_slice.ensures)
    (subst (λ u. All (λ (x : Taken). x.p < length u.images.items) c.args.going.report.acts.items) (sym c.part_run-part.ensures.setup) c.requires.takers)

pub go_on_disks-requires-clause-taken : goal.go_on_disks-requires-clause-taken
go_on_disks-requires-clause-taken g c =
    let s = c.args.going.opened.setting.scheduled.schedule.items in
    subst (λ es. c.args.going.report.entries ≤ length es) (sym c.part_run-part.ensures.entries) (entries_behind c.args.going.report.entries c.args.going.halt s c.requires.taken.0 c.requires.taken.1)

pub returns-clause-kept : goal.returns-clause-kept
returns-clause-kept g c =
    let part = c.part_run-part.result in
    let is = part_is g (goal.at.returns-clause-kept g c).After-go_on_disks in
    let going = going_of c.args.going in
    let halt = c.args.going.halt in
    let disk = g.D.Disks in
    let from = c.args.going.report.entries in
    let acts = c.args.going.report.acts.items in
    let lent = loan c.args.disks.now c.go_on_disks.new.disks in
    let out = output (g.O.Sink.held c.args.out.now) (g.O.Sink.held c.go_on_disks.new.out) in
    let acts_is = c.as_slice.ensures in
    let onward = onward_is c.args.going part is in
    IfOk-weaker c.go_on_disks.result _ _ (λ run says. (
      images c.args.going part is,
      λ tells lines world runs count thinned.
          subst (λ setting. GoesOnFrom disk setting part.scheduled.setup.images.items acts lines (account_of run) run.ending out lent) onward
          (subst (λ (xs : List Taken). GoesOnFrom disk (setting_from part.scheduled part.stops.items from) part.scheduled.setup.images.items xs lines (account_of run) run.ending out lent) acts_is
          (says (subst (λ n. TellsStores (of_disks disk) n lent.before lent.after) (as_many c.args.going part is) tells) lines (subst (λ setting. IsEarlier setting (record { acts = c.as_slice.result; entries = from; lines = c.args.going.report.lines }) lines) (sym onward) (record {
            world = world;
            acts_run = ap (run_of (system_in going.setting).guests) acts_is ∙ runs;
            acts_drawn = subst (λ (xs : List Taken). Drawn (length going.setting.images) (entries_run halt going.setting.schedule) xs) (sym acts_is)
                (drawn_less (length going.setting.images) from halt going.setting.schedule 0 acts c.requires.taken.1 c.requires.before c.requires.ran.drawn);
            before = subst (TurnsBelow from) (sym acts_is) c.requires.before;
            count = count;
            thinned = thinned;
          })))),
    )) c.go_on_disks.ensures.headline

pub returns-clause-unsuited : goal.returns-clause-unsuited
returns-clause-unsuited g c p e =
    let part = c.part_run-part.result in
    let is = part_is g (goal.at.returns-clause-unsuited g c).After-go_on_disks in
    let of = onward_of (going_of c.args.going) in
    let found = subst (λ (xs : List Taken). (x : AreLogsRead g.D.Disks (system_in of) part.scheduled.setup.images.items xs c.args.disks.now c.go_on_disks.new.disks) × IsFirstUnsuited (system_in of) x.given x.decided x.stored p) c.as_slice.ensures
    (subst (λ setting. (x : AreLogsRead g.D.Disks (system_in setting) part.scheduled.setup.images.items c.as_slice.result.now c.args.disks.now c.go_on_disks.new.disks) × IsFirstUnsuited (system_in setting) x.given x.decided x.stored p)
    (onward_is c.args.going part is) (c.go_on_disks.ensures.unsuited p e)) in
    (images c.args.going part is, found.0, found.1)

pub returns-clause-unsteady : goal.returns-clause-unsteady
returns-clause-unsteady g c e = (images c.args.going c.part_run-part.result (part_is g (goal.at.returns-clause-unsteady g c).After-go_on_disks), c.go_on_disks.ensures.unsteady e)

pub returns-clause-resumable : goal.returns-clause-resumable
returns-clause-resumable g c were =
    let part = c.part_run-part.result in
    let is = part_is g (goal.at.returns-clause-resumable g c).After-go_on_disks in
    let going = going_of c.args.going in
    let from = c.args.going.report.entries in
    c.go_on_disks.ensures.resumable
    (subst (λ (xs : List Taken). AreLeftAt g.D.Disks (setting_from part.scheduled part.stops.items from) from c.args.going.report.lines xs c.args.disks.now) (sym c.as_slice.ensures)
    (subst (λ setting. AreLeftAt g.D.Disks setting from c.args.going.report.lines c.args.going.report.acts.items c.args.disks.now) (sym (onward_is c.args.going part is))
    (left_again g.D.Disks going.setting (onward_of going).schedule going.setting.stops from from c.args.going.report.lines c.args.going.report.acts.items c.args.disks.now were.left)))
    (λ p less. were.told p (subst (λ n. p < n) (sym (as_many c.args.going part is)) less))

pub returns-clause-refused : goal.returns-clause-refused
returns-clause-refused g c p fault e = record {
  images = images c.args.going c.part_run-part.result (part_is g (goal.at.returns-clause-refused g c).After-go_on_disks);
  some = c.go_on_disks.ensures.refused p fault e;
  under = λ d has. c.go_on_disks.ensures.refused_under d has p fault e;
  unleft = λ were. not_content c.go_on_disks.result (faults.Refused p fault) e refl (returns-clause-resumable g c were);
}

pub returns-clause-stood : goal.returns-clause-stood
returns-clause-stood g c enough = on_err_by c.go_on_disks.result (λ stood. (images c.args.going c.part_run-part.result (part_is g (goal.at.returns-clause-stood g c).After-go_on_disks), stood)) (c.go_on_disks.ensures.stood enough)

pub returns-clause-others : goal.returns-clause-others
returns-clause-others g c = subst (λ u. AreLeftFrom (length u.images.items) (of_disks g.D.Disks) c.args.disks.now c.go_on_disks.new.disks) c.part_run-part.ensures.setup c.go_on_disks.ensures.others
