-- What a part of a run wrote that no fault cut off: it passes the check, and where the part was halted its report is gone on with.
use Rattle.std.proofs.Common.{◌≡◌, ◌∙◌, ◌+◌, ◌<◌, ◌≤◌, inl, inr, ℕ, suc, All, Bool, true, false, List, [], ◌∷◌, ◌++◌, Option, None, Some, Ok, ap, arith, length, nat_lt, refl, reverse, slice_get, subst, sym}
use Rattle.std.proofs.lemmas.Bool.{lt-ltb}
use Rattle.std.proofs.lemmas.List.{length-reverse}
use Rattle.std.proofs.lemmas.Option.{slice_get_within}
use Rattle.dc_acts.specs.Lines.{text_of}
use Rattle.dc_check.proofs.Applied.{texts_behind}
use Rattle.dc_check.proofs.Drawing.{played_when_drawn}
use Rattle.dc_check.specs.Findings.{finding_of}
use Rattle.dc_check.specs.Findings.Finding.{Passes}
use Rattle.dc_course.specs.Headline.{Account, IsEnding, Last, Setting, Shows, marks_at, takes_part, torn_at, turn_after}
use Rattle.dc_course.specs.Headline.Last.{Whole, Broken}
use Rattle.dc_course.specs.declared.ending.Ending.{Ending}
use Rattle.dc_course.specs.declared.ending.Ending.TheVariants as ending
use Rattle.dc_limits.specs.declared.bounds.TheConstants.{ENTRIES}
use Rattle.dc_media.specs.Told.{Becomes}
use Rattle.dc_model.specs.Drawn.{Drawn}
use Rattle.dc_model.specs.Repeats.{Note, noted, notes, numbers}
use Rattle.dc_model.specs.declared.entry.Entry.{Entry}
use Rattle.dc_model.specs.declared.entry.Entry.TheVariants as entry
use Rattle.dc_model.specs.declared.mark.Mark.{Mark}
use Rattle.dc_model.specs.declared.mark.Mark.TheVariants as mark
use Rattle.dc_model.specs.declared.visible.Visible.{Visible}
use Rattle.dc_protocols.specs.declared.protocol.Protocol.{Protocol}
use Rattle.dc_recovery.specs.Core.{Core}
use Rattle.dc_report.specs.Reading.{is_status, report_of}
use Rattle.dc_report.specs.Reports.{report_text}
use Rattle.dc_shows.proofs.Passes.{listed, shown}
use Rattle.dc_shows.specs.Typed.{IsGivenRun}
use Rattle.dc_run.specs.Headline.{Reports, SinkCourse, used_up_at, verdict_at}
use Rattle.dc_run.specs.Opening.{guests, halt_at}
use Rattle.dc_run.specs.Outcomes.{status_of}
use Rattle.dc_run.specs.Passing.{AreShown, PartPasses}
use Rattle.dc_run.specs.Resuming.{halt_behind, to_go_on}
use Rattle.dc_run.specs.Settings.{IsCalm}
use Rattle.dc_run.specs.declared.outcome.Outcome.{Outcome}
use Rattle.dc_run.specs.declared.verdict.Outlet.TheVariants as outlet
use Rattle.dc_run.specs.declared.verdict.Verdict.{Verdict}
use Rattle.dc_run.specs.declared.verdict.Verdict.TheVariants.{Done, Unfinished, Halted, DeviceStopped, SinkFault}
use Rattle.dc_run.proofs.Ends.{no_rise}

-- how many notes there are of records
one_note : (o : Option Entry) (m : Mark) (rest : List Note) → length (numbers (noted o m ++ rest)) ≤ suc (length (numbers rest))
one_note None m rest = omega arith
one_note (Some (entry.Stop p)) m rest = omega arith
one_note (Some entry.Power) m rest = omega arith
one_note (Some (entry.Turn turn)) (mark.Idle why) rest = omega arith
one_note (Some (entry.Turn turn)) mark.Stopped rest = omega arith
one_note (Some (entry.Turn turn)) (mark.Showed k) rest = omega arith
one_note (Some (entry.Turn turn)) (mark.Recovered x) rest = omega arith
one_note (Some (entry.Turn turn)) mark.Stepped rest = omega arith
one_note (Some (entry.Turn turn)) mark.Marked rest = omega arith

no_note : (o : Option Entry) (rest : List Note) → noted o mark.Stopped ++ rest ≡ rest
no_note None rest = refl
no_note (Some (entry.Stop p)) rest = refl
no_note (Some entry.Power) rest = refl
no_note (Some (entry.Turn turn)) rest = refl

few_notes : (schedule : List Entry) (marks : List Mark) → length (numbers (notes schedule marks)) ≤ length marks
few_notes schedule [] = omega arith
few_notes schedule (m ∷ marks) = let one = one_note (slice_get schedule (length marks)) m (notes schedule marks) in let more = few_notes schedule marks in omega (arith, one, more)

-- an entry in which a process takes part is there
there : (protocol : Protocol) (p k : ℕ) (schedule : List Entry) (o : Option Entry) → slice_get schedule k ≡ o → takes_part protocol p o ≡ true → k < length schedule
there protocol p k schedule None at part = absurd (let never : ⊥ = cc in never)
there protocol p k schedule (Some e) at part = slice_get_within schedule k e at

-- by how it ended
pub record EndsWhole (setting : Setting) (run : Account) (last : Last) (halted : Bool) (e : Ending) : Type 0 where
  pub whole : torn_at last ≡ []
  pub status : is_status (status_of (verdict_at halted e)) ≡ true
  pub used : status_of (verdict_at halted e) ≡ 15 → turn_after setting run.marks ≡ length setting.schedule
  pub few : turn_after setting run.marks ≤ length setting.schedule
  pub notes_few : (schedule : List Entry) → length (numbers (notes schedule (marks_at last run.marks))) ≤ length run.marks

notes_whole : (schedule : List Entry) (marks : List Mark) → length (numbers (notes schedule (marks_at Whole marks))) ≤ length marks
notes_whole schedule marks = let h = few_notes schedule (reverse marks) in let l = length-reverse marks in omega (arith, h, l)

notes_broken : (schedule : List Entry) (marks : List Mark) → length (numbers (notes schedule (marks_at Broken marks))) ≤ length marks
notes_broken schedule marks = let h = few_notes schedule (reverse marks) in let l = length-reverse marks in
    let same = ap (λ ns. length (numbers ns)) (no_note (slice_get schedule (length (reverse marks))) (notes schedule (reverse marks))) in omega (arith, h, l, same)

-- the statuses of entries that are used up
used_status : (halted : Bool) (stood : Verdict) → is_status (status_of stood) ≡ true → is_status (status_of (used_up_at halted stood)) ≡ true
used_status true stood is = refl
used_status false stood is = is

-- one whose entries are used up
ends_used_up : (setting : Setting) (run : Account) (last : Last) (halted : Bool) (e : Ending) → is_status (status_of (verdict_at halted e)) ≡ true → (turn_after setting run.marks ≡ length setting.schedule) × (last ≡ Whole) → EndsWhole setting run last halted e
ends_used_up setting run last halted e is used = record {
  whole = ap torn_at used.1;
  status = is;
  used = λ same. used.0;
  few = (let h = used.0 in omega (arith, h));
  notes_few = λ schedule. subst (λ l. length (numbers (notes schedule (marks_at l run.marks))) ≤ length run.marks) (sym used.1) (notes_whole schedule run.marks);
}

pub ends_whole : (setting : Setting) (run : Account) (last : Last) (core : Core) (halted : Bool) (e : Ending) → IsEnding setting e run.marks last core → (e ≡ ending.Sink → ⊥) → ((p : ℕ) → e ≡ ending.Stopped p → ⊥) → EndsWhole setting run last halted e
ends_whole setting run last core halted ending.Done is not_sink not_stopped = ends_used_up setting run last halted ending.Done (used_status halted Done refl) is.0
ends_whole setting run last core halted ending.Unfinished is not_sink not_stopped = ends_used_up setting run last halted ending.Unfinished (used_status halted Unfinished refl) is.0
ends_whole setting run last core halted (ending.Device p) is not_sink not_stopped = record {
  whole = ap torn_at is.0;
  status = refl;
  used = λ same. absurd (omega (arith, same));
  few = (let h = there setting.protocol p (turn_after setting run.marks) setting.schedule (slice_get setting.schedule (turn_after setting run.marks)) refl is.1 in omega (arith, h));
  notes_few = λ schedule. subst (λ l. length (numbers (notes schedule (marks_at l run.marks))) ≤ length run.marks) (sym is.0) (notes_broken schedule run.marks);
}
ends_whole setting run last core halted (ending.Store p why) is not_sink not_stopped = absurd is
ends_whole setting run last core halted ending.Sink is not_sink not_stopped = absurd (not_sink refl)
ends_whole setting run last core halted (ending.Stopped p) is not_sink not_stopped = absurd (not_stopped p refl)

-- what stands on a sink that held nothing
pub stands_on : (before after : Option (List ℕ)) (text now : List ℕ) → before ≡ Some [] → after ≡ Some now → Becomes before after (λ x y. y ≡ x ++ text) → now ≡ text
stands_on before after text now e f b = rw (e, f) at b

pub shows_on : (records : List Visible) (torn : List Visible) (before after : Option (List ℕ)) (now : List ℕ) → torn ≡ [] → before ≡ Some [] → after ≡ Some now → Becomes before after (Shows records torn) → now ≡ text_of records
shows_on records torn before after now none e f b = rw (none, e, f) at b

pub stopped_said : (p : ℕ) (v : Verdict) (text : List ℕ) (sink : SinkCourse) → Reports (DeviceStopped p) v text sink → v ≡ DeviceStopped p
stopped_said p v text sink (inl whole) = whole.0
stopped_said p v text sink (inr cut) = cut.0

pub sink_said : (v : Verdict) (text : List ℕ) (sink : SinkCourse) → Reports (SinkFault outlet.Out) v text sink → v ≡ SinkFault outlet.Out
sink_said v text sink (inl whole) = whole.0
sink_said v text sink (inr cut) = cut.0

pub reported_whole : (stood v : Verdict) (text : List ℕ) (sink : SinkCourse) → IsCalm sink.faults_before sink.faults_after → Reports stood v text sink → Becomes sink.before sink.after (λ x y. y ≡ x ++ text)
reported_whole stood v text sink calm (inl whole) = whole.1
reported_whole stood v text sink calm (inr cut) = absurd (no_rise sink.faults_before sink.faults_after calm cut.1)

pub reported_verdict : (stood v : Verdict) (text : List ℕ) (sink : SinkCourse) → IsCalm sink.faults_before sink.faults_after → Reports stood v text sink → v ≡ stood
reported_verdict stood v text sink calm (inl whole) = whole.0
reported_verdict stood v text sink calm (inr cut) = absurd (no_rise sink.faults_before sink.faults_after calm cut.1)

-- a part, behind so many entries and these lines, whose own lines are these, and whose report, of this verdict, counts the entries and the lines of all
module _ (setting : Setting) (given : IsGivenRun setting.images setting.inputs setting.schedule) (entries : ℕ) (lines more : List Visible) (o : Outcome) (all : AreShown setting o.acts.items o.lines (lines ++ more))
    (drawn : Drawn (length setting.images) setting.schedule o.acts.items) (stood : Verdict) (is : is_status (status_of stood) ≡ true) (most : entries + length o.marks.items ≤ ENTRIES) (few : o.lines ≤ entries + length o.marks.items)
    (reached : status_of stood ≡ 15 → All (λ x. x.t < entries + length o.marks.items) o.acts.items) (halted : o.verdict ≡ Halted → (status_of stood ≡ 15) × (entries + length o.marks.items < length setting.schedule)) where
  -- its report is read back
  reads : report_of (length setting.images) (report_text (status_of stood) (entries + length o.marks.items) o.acts.items o.lines) ≡ Ok (record { status = status_of stood; entries = entries + length o.marks.items; acts = o.acts.items; lines = o.lines })
  reads = listed setting.images setting.inputs setting.schedule given (record { status = status_of stood; entries = entries + length o.marks.items; acts = o.acts.items; lines = o.lines }) all.world drawn all.acts_run is most few reached

  -- all lines pass
  passes : finding_of (guests setting) setting.schedule o.acts.items (text_of (lines ++ more)) ≡ Passes (length all.world.visibles)
  passes = shown setting.images setting.inputs setting.schedule given o.acts.items all.world (lines ++ more) drawn all.acts_run all.thinned all.agree

  pub passing : (listed' shown' : List ℕ) → listed' ≡ report_text (status_of stood) (entries + length o.marks.items) o.acts.items o.lines → shown' ≡ text_of more → PartPasses setting entries lines listed' shown' o
  passing listed' shown' list text = let both : text_of lines ++ shown' ≡ text_of (lines ++ more) = ap (λ t. text_of lines ++ t) text ∙ texts_behind lines more in record {
    more = more;
    text_is = text;
    all_shown = all;
    passes = λ files names opens here here'. (length all.world.visibles, rw (opens, here, here', list, reads, both, passes) refl);
    goes_on = λ said files names opens here.
        let at = halted said in
        let over : nat_lt (entries + length o.marks.items) (length setting.schedule) ≡ true = lt-ltb (entries + length o.marks.items) (length setting.schedule) at.1 in
        let status : status_of stood ≡ 15 = at.0 in
        let played_is = played_when_drawn (guests setting) setting.schedule o.acts.items all.world drawn all.acts_run in (
          record { setting = setting; report = record { status = 15; entries = entries + length o.marks.items; acts = o.acts.items; lines = o.lines }; halt = halt_behind (entries + length o.marks.items) (halt_at files (to_go_on names.plan)) },
          rw (opens, here, list, reads, status, over, played_is) refl,
          record { setting_is = refl; entries_are = refl; lines_are = refl; acts_are = refl },
        );
  }
