-- The journal that a run keeps, entry by entry.
use Rattle.std.proofs.Common.{◌≡◌, ◌≢◌, ◌⊎◌, ◌∙◌, ◌+◌, ◌++◌, ◌∷◌, ◌≤◌, inl, inr, ℕ, Bool, true, false, List, [], Option, None, Some, IfSome, IsSomeAnd, if◌then◌else◌, ap, arith, length, refl, reverse, slice_get, subst, sym, ⊎_elim}
use Rattle.std.proofs.lemmas.List.{append-nil, length-reverse, reverse-append}
use Rattle.dc_audit.specs.declared.journal.Line.{Line}
use Rattle.dc_checkpoint.specs.declared.checkpoint.Checkpoint as checkpoint
use Rattle.dc_elf.specs.Images.{Image}
use Rattle.dc_guest.specs.Guest.{Guest}
use Rattle.dc_model.specs.declared.entry.Entry.{Entry}
use Rattle.dc_model.specs.declared.entry.Entry.TheVariants.{Turn, Stop, Power}
use Rattle.dc_model.specs.declared.mark.Mark.{Mark}
use Rattle.dc_model.specs.declared.mark.Mark.TheVariants as mark
use Rattle.dc_proc.specs.Carried.{system}
use Rattle.dc_processes.specs.Stages.{IsTold, IsWorld, KeepsTelling, Stage}
use Rattle.dc_recovery.proofs.Unstopping.{alike}
use Rattle.dc_recovery.specs.Core.{Core, Start, opened_core, opening}
use Rattle.dc_recovery.specs.Invariant.{Holds}
use Rattle.dc_recovery.specs.Systems.{System}
use Rattle.dc_recovery.specs.Turned.{LeadsTo, Turned}
use Rattle.dc_recovery.specs.Unstopped.{AreTurns, Unstopped}
use Rattle.dc_savework.proofs.Growing.{all_up, grown}
use Rattle.dc_savework.specs.Journal.{entry_lines, journal_of}
use Rattle.dc_world.specs.Leaving.{EntryLeaves}
use Rattle.dc_course.proofs.Steps.{now_holds, now_world, sound}
use Rattle.dc_course.specs.Courses.{journal_in}
use Rattle.dc_course.specs.declared.leaving.Journal.{Journal}
use Rattle.dc_course.specs.Headline.{Setting, is_stopped, start_at, system_in, turn_after}
use Rattle.dc_course.proofs.Between.{Later, come_between, come_on, entry_at}
use Rattle.dc_course.proofs.Promised.{led_opened}
use Rattle.dc_course.specs.Journals.{IsJournalOf, KeepsJournal, Noted, unstopped_front}
use Rattle.dc_course.specs.Running.{CanBegin, IsRunning, Output, RunsOn, StepsOn, output}

-- an entry was stopped, or it was not
pub stopped_or : (m : Mark) → (m ≡ mark.Stopped) ⊎ ((m ≢ mark.Stopped) × (is_stopped m ≡ false))
stopped_or mark.Stopped = inl refl
stopped_or (mark.Idle why) = inr (λ e. cc, refl)
stopped_or mark.Stepped = inr (λ e. cc, refl)
stopped_or (mark.Showed k) = inr (λ e. cc, refl)
stopped_or (mark.Recovered x) = inr (λ e. cc, refl)
stopped_or mark.Marked = inr (λ e. cc, refl)

-- one that was not
not_stopped : (m : Mark) → m ≢ mark.Stopped → is_stopped m ≡ false
not_stopped mark.Stopped ne = absurd (ne refl)
not_stopped (mark.Idle why) ne = refl
not_stopped mark.Stepped ne = refl
not_stopped (mark.Showed k) ne = refl
not_stopped (mark.Recovered x) ne = refl
not_stopped mark.Marked ne = refl

-- marks without a stop, and one more
pub unstopped_more : (marks : List Mark) (m : Mark) → Unstopped marks → m ≢ mark.Stopped → Unstopped (marks ++ m ∷ [])
unstopped_more [] m all ne = (ne, tt)
unstopped_more (x ∷ marks) m all ne = (all.0, unstopped_more marks m all.1 ne)

-- turned round
pub unstopped_round : (marks : List Mark) → Unstopped marks → Unstopped (reverse marks)
unstopped_round [] all = tt
unstopped_round (m ∷ marks) all = subst Unstopped (sym (reverse-append (m ∷ []) marks)) (unstopped_more (reverse marks) m (unstopped_round marks all.1) all.0)

-- they are all in front of the first stop
pub front_whole : (marks : List Mark) → Unstopped marks → unstopped_front marks ≡ marks
front_whole [] all = refl
front_whole (m ∷ marks) all = rw (not_stopped m all.0) (ap (λ ms. m ∷ ms) (front_whole marks all.1))

-- also where one that was stopped is behind them
pub front_stop : (marks : List Mark) → Unstopped marks → unstopped_front (marks ++ mark.Stopped ∷ []) ≡ marks
front_stop [] all = refl
front_stop (m ∷ marks) all = rw (not_stopped m all.0) (ap (λ ms. m ∷ ms) (front_stop marks all.1))

-- what an entry leaves, where each process is up
leaves_lines : {C D : Type 0} (g : checkpoint.Ghosts C D) (x : Stage C D) (entry : Entry) (before after : List Line) → EntryLeaves g x entry before after → (images : List Image) (schedule : List Entry) (core : Core) → IsTold g x
    → Holds (system images x.inputs x.protocol) schedule x.entries core → IsWorld g (system images x.inputs x.protocol) core x → ((p : ℕ) → (core.procs p).up ≡ true) → after ≡ before ++ entry_lines (system images x.inputs x.protocol) x.entries core entry
leaves_lines g x (Turn turn) before after leaves images schedule core told holds world up = leaves images schedule core told holds world (up turn.p)
leaves_lines g x (Stop p) before after is images schedule core told holds world up = is ∙ sym (append-nil before)
leaves_lines g x Power before after is images schedule core told holds world up = is ∙ sym (append-nil before)

-- an entry at its index
at_entry : (P : Entry → Type 0) (o : Option Entry) (entry : Entry) → o ≡ Some entry → IsSomeAnd o P → P entry
at_entry P o entry is holds = subst (λ x. IsSomeAnd x P) is holds

module _ {C D : Type 0} (g : checkpoint.Ghosts C D) (setting : Setting) (up : ℕ → Bool) (ok : CanBegin setting (opened_core up)) (from_is : setting.from ≡ 0) (only : AreTurns setting.schedule)
    (few : (system_in setting).guests.count ≤ 16) (all : (p : ℕ) → up p ≡ true) where
  -- its system
  abbrev S : System Guest
  S = system_in setting

  -- it begins with all up
  up_is : up ≡ (λ p. true)
  up_is = λ i. λ p. all p i

  -- where a run of it begins
  start_is : start_at setting (opened_core up) ≡ opening (λ p. true)
  start_is = ap (λ n. record { entries = n; core = opened_core up }) from_is ∙ ap (λ (u : ℕ → Bool). opening u) up_is

  -- what is led to from there is led to from the opening
  from_opening : (marks : List Mark) (core : Core) → LeadsTo S setting.schedule (start_at setting (opened_core up)) marks core → LeadsTo S setting.schedule (opening (λ p. true)) marks core
  from_opening marks core led = subst (λ (s : Start). LeadsTo S setting.schedule s marks core) start_is led

  module _ (marks : List Mark) (whole : Unstopped marks) (old : Stage C D) (out : Output) (told : IsTold g old) (r : IsRunning g setting (opened_core up) old marks out)
      (entry : Entry) (at : slice_get setting.schedule (turn_after setting marks) ≡ Some entry) (before after : List Line) (leaves : EntryLeaves g old entry before after) (j : IsJournalOf setting up marks before)
      (m : Mark) (live : m ≢ mark.Stopped) (new : Stage C D) (out1 : Output) (r1 : IsRunning g setting (opened_core up) new (marks ++ m ∷ []) out1) where
    -- the marks, the last first
    abbrev back : List Mark
    back = reverse marks

    -- none is a stop
    back_whole : Unstopped back
    back_whole = unstopped_round marks whole

    -- the last step
    last : LeadsTo S setting.schedule (start_at setting (opened_core up)) (m ∷ back) r1.core
    last = subst (λ ms. LeadsTo S setting.schedule (start_at setting (opened_core up)) ms r1.core) (reverse-append marks (m ∷ [])) r1.led

    -- where it came from
    abbrev core : Core
    core = last.0

    -- the marks lead there
    led : LeadsTo S setting.schedule (opening (λ p. true)) back core
    led = from_opening back core last.1

    -- so that is what the world stood for
    world_is : r.core ≡ core
    world_is = (alike S setting.schedule only back core led back_whole back r.core (from_opening back r.core r.led) back_whole refl).1

    -- and what the lines are of
    journal_is : j.core ≡ core
    journal_is = (alike S setting.schedule only back core led back_whole back j.core
        (subst (λ (u : ℕ → Bool). LeadsTo S setting.schedule (opening u) back j.core) up_is (subst (λ ms. LeadsTo S setting.schedule (opening up) (reverse ms) j.core) (front_whole marks whole) j.led)) back_whole refl).1

    -- the number of the turn
    abbrev t : ℕ
    t = setting.from + length back

    -- what the entry did
    turned : Turned S t core entry m r1.core
    turned = at_entry (λ e. Turned S t core e m r1.core) (slice_get setting.schedule t) entry (ap (λ n. slice_get setting.schedule (setting.from + n)) (length-reverse marks) ∙ at) last.2

    -- each process was up
    here : (p : ℕ) → (r.core.procs p).up ≡ true
    here p = ap (λ (c : Core). (c.procs p).up) world_is ∙ all_up S (sound setting) few setting.schedule only back core led back_whole p

    -- the lines that it left
    left : after ≡ before ++ entry_lines S t core entry
    left = leaves_lines g old entry before after leaves setting.images setting.schedule r.core told (now_holds g setting (opened_core up) ok old marks out r) (now_world g setting (opened_core up) ok old marks out r) here
        ∙ ap (λ i. before ++ entry_lines (system setting.images i old.protocol) old.entries r.core entry) r.of.inputs_are
        ∙ ap (λ pr. before ++ entry_lines (system setting.images setting.inputs pr) old.entries r.core entry) r.of.protocol_is
        ∙ ap (λ n. before ++ entry_lines S n r.core entry) (r.entries_are ∙ sym (ap (λ n. setting.from + n) (length-reverse marks)))
        ∙ ap (λ c. before ++ entry_lines S t c entry) world_is

    -- the journal has these more
    pub journal_next : IsJournalOf setting up (marks ++ m ∷ []) after
    journal_next = record {
      core = r1.core;
      led = subst (λ ms. LeadsTo S setting.schedule (opening up) (reverse ms) r1.core) (sym (front_whole (marks ++ m ∷ []) (unstopped_more marks m whole live))) (led_opened setting up from_is (reverse (marks ++ m ∷ [])) r1.core r1.led);
      lines_are = left ∙ ap (λ ls. ls ++ entry_lines S t core entry) (j.lines_are ∙ ap (λ (c : Core). journal_of S c.acts) journal_is)
          ∙ sym (grown S (sound setting) few setting.schedule only back core led back_whole t entry m r1.core turned live).lines;
    }

-- an entry that was stopped leaves nothing
pub journal_stopped : (setting : Setting) (up : ℕ → Bool) (marks : List Mark) (lines : List Line) → Unstopped marks → IsJournalOf setting up marks lines → IsJournalOf setting up (marks ++ mark.Stopped ∷ []) lines
journal_stopped setting up marks lines whole j = record {
  core = j.core;
  led = subst (λ ms. LeadsTo (system_in setting) setting.schedule (opening up) (reverse ms) j.core) (front_whole marks whole ∙ sym (front_stop marks whole)) j.led;
  lines_are = j.lines_are;
}

module _ {C D : Type 0} (g : checkpoint.Ghosts C D) (entries : List Entry) (start mid new : Noted C D)
    (long : length mid.moment.stage.slots ≡ length start.moment.stage.slots) (same : length new.moment.stage.slots ≡ length mid.moment.stage.slots) (few : length mid.moment.stage.slots ≤ 16)
    (tells : (p : ℕ) → KeepsTelling g start.moment.stage.dev mid.moment.stage.dev p) (later : Later g mid.moment.stage.dev new.moment.stage.dev)
    (runs : RunsOn g entries start.moment mid.moment) (whole : (start.stopped ≡ None) × Unstopped mid.moment.marks) (keeps : KeepsJournal g entries start mid) where
  -- an entry that went on, behind entries of which none was stopped: its lines are kept, or it was stopped
  pub keeps_more : (entry : Entry) → slice_get entries (length mid.moment.marks) ≡ Some entry → StepsOn g entry mid.moment new.moment → (after : List Line) → EntryLeaves g mid.moment.stage entry mid.lines after → (m : Mark) → new.moment.marks ≡ mid.moment.marks ++ m ∷ []
      → (is_stopped m ≡ true → new.lines ≡ mid.lines) → (is_stopped m ≡ false → new.lines ≡ after) → KeepsJournal g entries start new
  keeps_more entry at steps after leaves m marks_are stopped live setting up first come from is only upto j0 =
      let between = come_between g start.moment mid.moment new.moment long same tells later setting (opened_core up) first come in
      let there = come_on g start.moment mid.moment new.moment long same tells later entries runs setting (opened_core up) first come is in
      let j = keeps setting up first between from is only upto j0 in
      let here = entry_at setting entries (length mid.moment.marks) entry is at in
      let r1 = subst (λ ms. IsRunning g setting (opened_core up) new.moment.stage ms (output first new.moment.held)) marks_are (steps setting (opened_core up) first there here) in
      let count = there.running.world.count_is in
      subst (λ ms. IsJournalOf setting up ms new.lines) (sym marks_are) (⊎_elim
      (λ (halt : m ≡ mark.Stopped). subst (λ k. IsJournalOf setting up (mid.moment.marks ++ k ∷ []) new.lines) (sym halt)
      (subst (IsJournalOf setting up (mid.moment.marks ++ mark.Stopped ∷ [])) (sym (stopped (ap is_stopped halt))) (journal_stopped setting up mid.moment.marks mid.lines whole.1 j)))
      (λ (on : (m ≢ mark.Stopped) × (is_stopped m ≡ false)). subst (IsJournalOf setting up (mid.moment.marks ++ m ∷ [])) (sym (live on.1))
      (journal_next g setting up come.can from only (omega (arith, few, count)) (upto whole.0) mid.moment.marks whole.1 mid.moment.stage (output first mid.moment.held) there.told there.running entry here mid.lines after leaves j m on.0 new.moment.stage (output first new.moment.held) r1))
      (stopped_or m))

  -- one that a fault ended leaves nothing
  pub keeps_ended : new.moment.marks ≡ mid.moment.marks → new.lines ≡ mid.lines → KeepsJournal g entries start new
  keeps_ended marks_are lines_are setting up first come from is only upto j0 =
      let between = come_between g start.moment mid.moment new.moment long same tells later setting (opened_core up) first come in
      subst (λ ms. IsJournalOf setting up ms new.lines) (sym marks_are) (subst (IsJournalOf setting up mid.moment.marks) (sym lines_are) (keeps setting up first between from is only upto j0))

-- what is said of a journal that is kept
pub if_kept : (journal : Journal) (P : List Line → Type 0) → (journal.kept ≡ true → P journal.lines.items) → IfSome (journal_in journal) P
if_kept journal P says = by journal.kept says
  where
    by : (kept : Bool) → (kept ≡ true → P journal.lines.items) → IfSome (if kept then Some journal.lines.items else None) P
    by true so = so refl
    by false so = tt
