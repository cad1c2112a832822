-- When an act was drawn at its turn of the schedule.
use Rattle.std.specs.Prelude.{◌≡◌, ◌==◌, ◌&&◌, ◌+◌, ◌%◌, ◌≤◌, ℕ, suc, Bool, true, false, List, [], ◌∷◌, Option, Some, slice_get}
use Rattle.dc_model.specs.declared.act.Act.{Act}
use Rattle.dc_model.specs.declared.act.Act.TheVariants.{Plain, Clock, Random, InputNone, InputNext, InputEnd, ReceiveNone, ReceiveFrom}
use Rattle.dc_model.specs.declared.act.Taken.{Taken}
use Rattle.dc_model.specs.declared.entry.Entry.{Entry}
use Rattle.dc_model.specs.declared.entry.Entry.TheVariants.{Turn}

-- whether a turn's word and clock may answer so, among n processes
abbrev pub may_answer : ℕ → ℕ → ℕ → Act → Bool
may_answer n word clock Plain = true
may_answer n word clock (Clock v) = v == clock
may_answer n word clock (Random v) = v == word
may_answer n word clock InputNone = word % 2 == 0
may_answer n word clock InputNext = word % 2 == 1
may_answer n word clock InputEnd = word % 2 == 1
may_answer n word clock ReceiveNone = true
may_answer n word clock (ReceiveFrom s) = s == word % (n + 1)

-- whether an entry is a turn of the act's process that may answer so
abbrev pub draws : ℕ → Option Entry → Taken → Bool
draws n (Some (Turn turn)) x = turn.p == x.p && may_answer n turn.word turn.clock x.act
draws n _ x = false

-- the turns of the acts rise from this one on, and the entry at each act's turn draws it
abbrev pub DrawnFrom : ℕ → List Entry → ℕ → List Taken → Type 0
DrawnFrom n schedule from [] = Unit {0}
DrawnFrom n schedule from (x ∷ acts) = (from ≤ x.t) × (draws n (slice_get schedule x.t) x ≡ true) × DrawnFrom n schedule (suc x.t) acts

-- each act was drawn at its turn, in order
abbrev pub Drawn : ℕ → List Entry → List Taken → Type 0
Drawn n schedule acts = DrawnFrom n schedule 0 acts
