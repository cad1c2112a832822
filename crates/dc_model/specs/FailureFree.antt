-- The failure-free world: the guests alone, by the acts that a report lists, the first act first. Nothing commits, logs or rolls back.
use Rattle.std.specs.Prelude.{◌==◌, ◌&&◌, ℕ, List, [], ◌∷◌, ◌++◌, if◌then◌else◌, slice_get, Option, Some, None, reverse, is_some}
use Rattle.std.specs.Option.{option_map}
use Rattle.dc_model.specs.Guests.{Answer, Guests}
use Rattle.dc_model.specs.Guests.{Answer as answer}
use Rattle.dc_model.specs.Process.{Local, begun, fits, moved, shown}
use Rattle.dc_model.specs.Runs.{Given, state, visibles}
use Rattle.dc_model.specs.declared.act.Act.{Act}
use Rattle.dc_model.specs.declared.act.Act.TheVariants as act
use Rattle.dc_model.specs.declared.act.Taken.{Taken}
use Rattle.dc_model.specs.declared.visible.Body.{Body}
use Rattle.dc_model.specs.declared.visible.Visible.{Visible}

-- each process, and the visible records in order
pub record FailureFree (Mc : Type 0) : Type 0 where
  pub procs : ℕ → Local Mc
  pub visibles : List Visible

-- before the first act
abbrev pub opened : {Mc : Type 0} → Guests Mc → FailureFree Mc
opened G = record { procs = begun G; visibles = [] }

-- a function with another value at p
abbrev pub put : {A : Type 0} → ℕ → A → (ℕ → A) → ℕ → A
put p x f q = if p == q then x else f q

-- the answer that an act of p gives: with the next input, or the next message of another process, where there is one
abbrev pub answer_for : {Mc : Type 0} → Guests Mc → FailureFree Mc → ℕ → Act → Option Answer
answer_for G w p act.Plain = Some answer.Plain
answer_for G w p (act.Clock v) = Some (answer.Clock v)
answer_for G w p (act.Random v) = Some (answer.Random v)
answer_for G w p act.InputNone = Some answer.InputNone
answer_for G w p act.InputNext = option_map answer.InputNext (slice_get (G.inputs p) (w.procs p).inputs_taken)
answer_for G w p act.InputEnd = Some answer.InputEnd
answer_for G w p act.ReceiveNone = Some answer.ReceiveNone
answer_for G w p (act.ReceiveFrom s) = if s == p then None else option_map (answer.ReceiveFrom s) (slice_get ((w.procs s).sent p) ((w.procs p).received s))

-- the world after an answer
abbrev pub happened : {Mc : Type 0} → Guests Mc → FailureFree Mc → ℕ → Answer → FailureFree Mc
happened G w p a = record { procs = put p (moved G (w.procs p) a) w.procs; visibles = w.visibles ++ shown G p (w.procs p) a }

-- the world after an answer, where there is one and it fits
abbrev pub apply_answer : {Mc : Type 0} → Guests Mc → FailureFree Mc → ℕ → Option Answer → Option (FailureFree Mc)
apply_answer G w p None = None
apply_answer G w p (Some a) = if fits G p (w.procs p) a then Some (happened G w p a) else None

-- the world after an act of p; none where p has ended or the act does not fit
abbrev pub apply : {Mc : Type 0} → Guests Mc → FailureFree Mc → ℕ → Act → Option (FailureFree Mc)
apply G w p a = apply_answer G w p (answer_for G w p a)

-- one act after the other, from a world on
abbrev pub run_from : {Mc : Type 0} → Guests Mc → Option (FailureFree Mc) → List Taken → Option (FailureFree Mc)
run_from G o [] = o
run_from G None (x ∷ acts) = None
run_from G (Some w) (x ∷ acts) = run_from G (apply G w x.p x.act) acts

-- the failure-free run of these acts; none where an act does not apply
abbrev pub run : {Mc : Type 0} → Guests Mc → List Taken → Option (FailureFree Mc)
run G acts = run_from G (Some (opened G)) acts

-- an answer as a report has it, without what it hands over
abbrev pub act_of : Answer → Act
act_of answer.Plain = act.Plain
act_of (answer.Clock v) = act.Clock v
act_of (answer.Random v) = act.Random v
act_of answer.InputNone = act.InputNone
act_of (answer.InputNext bytes) = act.InputNext
act_of answer.InputEnd = act.InputEnd
act_of answer.ReceiveNone = act.ReceiveNone
act_of (answer.ReceiveFrom s message) = act.ReceiveFrom s

-- given answers, the last first, as a report has them
abbrev pub reported : List Given → List Taken
reported [] = []
reported (x ∷ acts) = reported acts ++ record { t = x.t; p = x.p; act = act_of x.answer } ∷ []

-- the world that given answers make
abbrev pub world_of : {Mc : Type 0} → Guests Mc → List Given → FailureFree Mc
world_of G acts = record { procs = state G acts; visibles = reverse (visibles G acts) }

-- what the record of that process and number shows, if one is there
abbrev pub find : ℕ → ℕ → List Visible → Option Body
find p k [] = None
find p k (x ∷ records) = if x.p == p && x.k == k then Some x.body else find p k records

-- the records whose process and number came neither before nor earlier in the list
abbrev pub thin_after : List Visible → List Visible → List Visible
thin_after before [] = []
thin_after before (x ∷ records) = if is_some (find x.p x.k before) then thin_after (x ∷ before) records else x ∷ thin_after (x ∷ before) records

-- the records without repeats: each exactly where its process and number have not come before
abbrev pub thin : List Visible → List Visible
thin records = thin_after [] records
