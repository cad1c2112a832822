-- How what a command was answered follows from what its work was.
use Rattle.std.proofs.Common.{◌≡◌, ◌∙◌, inl, inr, true, ℕ, List, Option, None, Some, IfOk, IfSome, IsOkAnd, IsSome, Result, Ok, Err, String, refl, sym, subst}
use Rattle.std.proofs.lemmas.Bool.{true≢false}
use Rattle.std.specs.declared.alloc.Global.{Global}
use Rattle.dc_audit.specs.Reading.{Journal as Said}
use Rattle.dc_course.specs.Headline.{Setting}
use Rattle.dc_words.specs.Results.{◌>>=◌}
use Rattle.dc_command.specs.declared.command.CommandFault.{CommandFault}
use Rattle.dc_command.specs.declared.command.CommandFault.TheVariants as command
use Rattle.dc_run.specs.Assembling.{program_in}
use Rattle.dc_run.specs.Auditing.{journal_in}
use Rattle.dc_run.specs.Checking.{checked_in}
use Rattle.dc_command.specs.Command.{Halted, Names, Order, asked_of}
use Rattle.dc_command.specs.Command.Asked.{ToRun, ToCheck, ToAssemble, ToAudit, ToResume}
use Rattle.dc_run.specs.Commands.{Asks, IfAudit, IsExact, IsOpenedFor, Work, may_end, unasked_by, work_of}
use Rattle.dc_run.specs.Commands.Work.{Run, Check, Assembly, Audit, Resume}
use Rattle.dc_run.specs.Opening.{Files, AsksToRun, Task, opening_of, task_in}
use Rattle.dc_run.specs.Resuming.{AsksToResume, Going, going_in}
use Rattle.dc_run.specs.Refusals.{as_verdict}
use Rattle.dc_run.specs.Settings.{has_ended, may_have_run, was_opened}
use Rattle.dc_run.specs.declared.verdict.Verdict.{Verdict}
use Rattle.dc_run.specs.declared.verdict.Verdict.TheVariants.{LibraryFault, Usage, WantOfMemory}
use Rattle.dc_run.specs.declared.verdict.Which.{Which}
use Rattle.dc_run.specs.declared.verdict.Which.TheVariants.{Journal, Source}
use Rattle.dc_run.proofs.Works.{exact_named, for_known, opened_may, opened_named, refused_work}

pub run_exact : (known : Option Files) (words : List (String Global)) (order : Order) → asked_of words ≡ Some (ToRun order) → (v refusal : Verdict)
    → IfSome known (λ files. IsExact v refusal (as_verdict (opening_of files order))) → IfSome known (λ files. IsExact v refusal (work_of files words))
run_exact None words order asked v refusal is = tt
run_exact (Some files) words order asked v refusal is = rw asked (exact_named (λ s. Run (task_in files order s)) v refusal (as_verdict (opening_of files order)) is)

pub resume_exact : (known : Option Files) (words : List (String Global)) (names : Halted) → asked_of words ≡ Some (ToResume names) → (v refusal : Verdict)
    → IfSome known (λ files. IsExact v refusal (going_in files names)) → IfSome known (λ files. IsExact v refusal (work_of files words))
resume_exact None words names asked v refusal is = tt
resume_exact (Some files) words names asked v refusal is = rw asked (exact_named Resume v refusal (going_in files names) is)

pub resume_asks : (known : Option Files) (words : List (String Global)) (names : Halted) → asked_of words ≡ Some (ToResume names) → (v : Verdict) (which : Which)
    → IfSome known (λ files. v ≡ LibraryFault which → AsksToResume files names which) → IfSome known (λ files. v ≡ LibraryFault which → Asks files words which)
resume_asks None words names asked v which asks = tt
resume_asks (Some files) words names asked v which asks = λ is. rw asked (asks is)

pub assembly_exact : (known : Option Files) (words : List (String Global)) (source : List ℕ) → asked_of words ≡ Some (ToAssemble source) → (v refusal : Verdict)
    → IfSome known (λ files. IsExact v refusal (program_in files source)) → IfSome known (λ files. IsExact v refusal (work_of files words))
assembly_exact None words source asked v refusal is = tt
assembly_exact (Some files) words source asked v refusal is = rw asked (exact_named Assembly v refusal (program_in files source) is)

pub audit_exact : (known : Option Files) (words : List (String Global)) (journal : List ℕ) → asked_of words ≡ Some (ToAudit journal) → (v refusal : Verdict)
    → IfSome known (λ files. IsExact v refusal (journal_in files journal)) → IfSome known (λ files. IsExact v refusal (work_of files words))
audit_exact None words journal asked v refusal is = tt
audit_exact (Some files) words journal asked v refusal is = rw asked (exact_named Audit v refusal (journal_in files journal) is)

pub run_asks : (known : Option Files) (words : List (String Global)) (order : Order) → asked_of words ≡ Some (ToRun order) → (v : Verdict) (which : Which)
    → IfSome known (λ files. v ≡ LibraryFault which → AsksToRun files order which) → IfSome known (λ files. v ≡ LibraryFault which → Asks files words which)
run_asks None words order asked v which asks = tt
run_asks (Some files) words order asked v which asks = λ is. rw asked (asks is)

pub assembly_asks : (known : Option Files) (words : List (String Global)) (source : List ℕ) → asked_of words ≡ Some (ToAssemble source) → (v : Verdict) (which : Which)
    → (v ≡ LibraryFault which → which ≡ Source) → IfSome known (λ files. v ≡ LibraryFault which → IsSome (files source)) → IfSome known (λ files. v ≡ LibraryFault which → Asks files words which)
assembly_asks None words source asked v which named there = tt
assembly_asks (Some files) words source asked v which named there = λ is. rw asked (named is, there is)

pub audit_asks : (known : Option Files) (words : List (String Global)) (journal : List ℕ) → asked_of words ≡ Some (ToAudit journal) → (v : Verdict) (which : Which)
    → (v ≡ LibraryFault which → which ≡ Journal) → IfSome known (λ files. v ≡ LibraryFault which → IsSome (files journal)) → IfSome known (λ files. v ≡ LibraryFault which → Asks files words which)
audit_asks None words journal asked v which named there = tt
audit_asks (Some files) words journal asked v which named there = λ is. rw asked (named is, there is)

-- what is said of a told journal is said of the words' work
pub audit_says : (known : Option Files) (words : List (String Global)) (journal : List ℕ) (P : Said → Type 0) → asked_of words ≡ Some (ToAudit journal) → IfSome known (λ files. IsOkAnd (journal_in files journal) P)
    → IfSome known (λ files. IsOkAnd (work_of files words) (λ work. IfAudit work P))
audit_says None words journal P asked is = tt
audit_says (Some files) words journal P asked is = rw asked (by (journal_in files journal) is)
  where
    by : (r : Result Said Verdict) → IsOkAnd r P → IsOkAnd (r >>= (λ said. Ok (Audit said))) (λ work. IfAudit work P)
    by (Ok said) holds = holds
    by (Err v) holds = holds

-- a run that was opened is the words' work, and no other
pub run_is_work : (known : Option Files) (words : List (String Global)) (order : Order) (v : Verdict) → asked_of words ≡ Some (ToRun order) → was_opened v ≡ true
    → IfSome known (λ files. IsOpenedFor (λ setting u. may_have_run u) v (as_verdict (opening_of files order))) → (P : Work → Type 0) → ((task : Task) → P (Run task)) → IfSome known (λ files. IsOkAnd (work_of files words) P)
run_is_work None words order v asked opened is P holds = tt
run_is_work (Some files) words order v asked opened is P holds = rw asked (by (as_verdict (opening_of files order)) is)
  where
    by : (told : Result Setting Verdict) → IsOpenedFor (λ setting u. may_have_run u) v told → IsOkAnd (told >>= (λ setting. Ok (Run (task_in files order setting)))) P
    by (Ok setting) ends = holds (task_in files order setting)
    by (Err refusal) idle = absurd (true≢false (sym (opened_may v opened) ∙ idle))

-- so is a run that goes on
pub resume_is_work : (known : Option Files) (words : List (String Global)) (names : Halted) (v : Verdict) → asked_of words ≡ Some (ToResume names) → was_opened v ≡ true
    → IfSome known (λ files. IsOpenedFor (λ going u. may_have_run u) v (going_in files names)) → (P : Work → Type 0) → ((going : Going) → P (Resume going)) → IfSome known (λ files. IsOkAnd (work_of files words) P)
resume_is_work None words names v asked opened is P holds = tt
resume_is_work (Some files) words names v asked opened is P holds = rw asked (by (going_in files names) is)
  where
    by : (told : Result Going Verdict) → IsOpenedFor (λ going u. may_have_run u) v told → IsOkAnd (told >>= (λ going. Ok (Resume going))) P
    by (Ok going) ends = holds going
    by (Err refusal) idle = absurd (true≢false (sym (opened_may v opened) ∙ idle))

-- words that ask for nothing, or no memory to read them
pub unasked_opened : (known : Option Files) (words : List (String Global)) (fault : CommandFault) (answered : Verdict) → answered ≡ unasked_by fault → (fault ≡ command.Usage → asked_of words ≡ None)
    → IfSome known (λ files. IsOpenedFor may_end answered (work_of files words))
unasked_opened known words fault answered same usage = for_known known (λ files here. subst (λ w. IsOpenedFor may_end w (work_of files words)) (sym same) (by files fault usage))
  where
    by : (files : Files) (f : CommandFault) → (f ≡ command.Usage → asked_of words ≡ None) → IsOpenedFor may_end (unasked_by f) (work_of files words)
    by files command.Usage none = refused_work may_end Usage (work_of files words) refl (inr (rw (none refl) refl))
    by files command.Memory none = refused_work may_end WantOfMemory (work_of files words) refl (inl refl)

-- so nothing of their work need be shown where there was memory
pub unasked_work : (known : Option Files) (words : List (String Global)) (fault : CommandFault) (answered : Verdict) → answered ≡ unasked_by fault → (fault ≡ command.Usage → asked_of words ≡ None)
    → (P : Files → Work → Type 0) → (answered ≡ WantOfMemory → (files : Files) (work : Work) → P files work) → IfSome known (λ files. IfOk (work_of files words) (P files))
unasked_work None words fault answered same usage P holds = tt
unasked_work (Some files) words command.Usage answered same usage P holds = rw (usage refl) tt
unasked_work (Some files) words command.Memory answered same usage P holds = by (work_of files words)
  where
    by : (told : Result Work Verdict) → IfOk told (P files)
    by (Ok work) = holds same files work
    by (Err refusal) = tt

-- what was opened is answered by what its work may end with
module _ (words : List (String Global)) (v : Verdict) where
  pub run_opened : (known : Option Files) (order : Order) → asked_of words ≡ Some (ToRun order) → IfSome known (λ files. IsOpenedFor (λ setting u. may_have_run u) v (as_verdict (opening_of files order)))
      → IfSome known (λ files. IsOpenedFor may_end v (work_of files words))
  run_opened None order asked is = tt
  run_opened (Some files) order asked is = rw asked (opened_named (λ s. Run (task_in files order s)) (λ setting u. may_have_run u) may_end v (λ setting. refl) (as_verdict (opening_of files order)) is)

  pub resume_opened : (known : Option Files) (names : Halted) → asked_of words ≡ Some (ToResume names) → IfSome known (λ files. IsOpenedFor (λ going u. may_have_run u) v (going_in files names))
      → IfSome known (λ files. IsOpenedFor may_end v (work_of files words))
  resume_opened None names asked is = tt
  resume_opened (Some files) names asked is = rw asked (opened_named Resume (λ going u. may_have_run u) may_end v (λ going. refl) (going_in files names) is)

  pub check_opened : (known : Option Files) (names : Names) → asked_of words ≡ Some (ToCheck names) → IfSome known (λ files. IsOpenedFor (λ checked u. was_opened u) v (checked_in files names))
      → IfSome known (λ files. IsOpenedFor may_end v (work_of files words))
  check_opened None names asked is = tt
  check_opened (Some files) names asked is = rw asked (opened_named Check (λ checked u. was_opened u) may_end v (λ checked. refl) (checked_in files names) is)

  pub assembly_opened : (known : Option Files) (source : List ℕ) → asked_of words ≡ Some (ToAssemble source) → IfSome known (λ files. IsOpenedFor (λ program u. was_opened u) v (program_in files source))
      → IfSome known (λ files. IsOpenedFor may_end v (work_of files words))
  assembly_opened None source asked is = tt
  assembly_opened (Some files) source asked is = rw asked (opened_named Assembly (λ program u. was_opened u) may_end v (λ program. refl) (program_in files source) is)

  pub audit_opened : (known : Option Files) (journal : List ℕ) → asked_of words ≡ Some (ToAudit journal) → IfSome known (λ files. IsOpenedFor (λ said u. has_ended u) v (journal_in files journal))
      → IfSome known (λ files. IsOpenedFor may_end v (work_of files words))
  audit_opened None journal asked is = tt
  audit_opened (Some files) journal asked is = rw asked (opened_named Audit (λ said u. has_ended u) may_end v (λ said. refl) (journal_in files journal) is)
