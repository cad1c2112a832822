-- The entries before a halt, and what is drawn at them.
use Rattle.std.proofs.Common.{◌≡◌, ◌∙◌, ◌+◌, ◌<◌, ◌≤◌, ℕ, zero, suc, All, Bool, List, [], ◌∷◌, Option, None, Some, false, true, ap, arith, drop, get_or, length, refl, slice_get, subst, sym, take}
use Rattle.std.proofs.lemmas.Bool.{ltb-true, true≢false}
use Rattle.std.proofs.lemmas.List.{length-take, take-append-drop}
use Rattle.std.proofs.lemmas.List.Elements.{All-cons, All-head, All-nil, All-tail, All-take}
use Rattle.std.proofs.lemmas.Option.{get_or_from_slice_get, slice_get-get_or, slice_get_within}
use Rattle.std.proofs.Math.ListN.{get_or-append}
use Rattle.dc_course.specs.declared.ending.Ending.{Ending}
use Rattle.dc_course.specs.declared.ending.Ending.TheVariants as ending
use Rattle.dc_model.proofs.Rising.{TurnsBelow}
use Rattle.dc_model.specs.Drawn.{DrawnFrom, draws}
use Rattle.dc_model.specs.declared.act.Taken.{Taken}
use Rattle.dc_model.specs.declared.entry.Entry.{Entry}
use Rattle.dc_model.specs.declared.entry.Entry.TheVariants as entry
use Rattle.dc_recovery.specs.Unstopped.{AreTurns}
use Rattle.dc_report.specs.Reading.{AreActs}
use Rattle.dc_world.specs.Worlds.{IsOfProcesses}
use Rattle.dc_run.specs.Headline.{verdict_at}
use Rattle.dc_run.specs.Opening.{entries_run, leaves_over}
use Rattle.dc_run.specs.Resuming.{IsBehind}
use Rattle.dc_run.specs.declared.verdict.Verdict.{Verdict}
use Rattle.dc_run.specs.declared.verdict.Verdict.TheVariants.{Halted}

-- no more are run than there are
pub entries_few : (halt : Option ℕ) (entries : List Entry) → length (entries_run halt entries) ≤ length entries
entries_few None entries = omega arith
entries_few (Some halt) entries = let h = length-take halt entries in omega (arith, h)

-- fewer, where a halt leaves some over
pub entries_fewer : (halt : Option ℕ) (entries : List Entry) → leaves_over halt entries ≡ true → length (entries_run halt entries) < length entries
entries_fewer None entries over = absurd (true≢false (sym over))
entries_fewer (Some halt) entries over = let h = length-take halt entries in let less = ltb-true halt (length entries) over in omega (arith, h, less)

-- all that an earlier part took are among those that are run behind it
pub entries_behind : (from : ℕ) (halt : Option ℕ) (entries : List Entry) → from < length entries → IsBehind from halt → from ≤ length (entries_run halt entries)
entries_behind from None entries more behind = omega (arith, more)
entries_behind from (Some halt) entries more behind = let h = length-take halt entries in omega (arith, h, more, behind)

-- each of those that are run is of processes that are there
pub run_named : (n : ℕ) (halt : Option ℕ) (entries : List Entry) → All (IsOfProcesses n) entries → All (IsOfProcesses n) (entries_run halt entries)
run_named n None entries all = all
run_named n (Some halt) entries all = All-take (IsOfProcesses n) halt entries all

turns_take : (n : ℕ) (entries : List Entry) → AreTurns entries → AreTurns (take n entries)
turns_take zero [] turns = tt
turns_take zero (e ∷ entries) turns = tt
turns_take (suc n) [] turns = tt
turns_take (suc n) (entry.Turn turn ∷ entries) turns = turns_take n entries turns
turns_take (suc n) (entry.Stop p ∷ entries) turns = absurd turns
turns_take (suc n) (entry.Power ∷ entries) turns = absurd turns

-- turns alone before a halt too
pub turns_run : (halt : Option ℕ) (schedule : List Entry) → AreTurns schedule → AreTurns (entries_run halt schedule)
turns_run None schedule turns = turns
turns_run (Some halt) schedule turns = turns_take halt schedule turns

-- what stands before a halt stands there
took : {A : Type 0} (k : ℕ) (xs : List A) (i : ℕ) (x : A) → slice_get (take k xs) i ≡ Some x → slice_get xs i ≡ Some x
took k xs i x at = let less = slice_get_within (take k xs) i x at in
    let count = length-take k xs in
    let here : get_or xs i x ≡ x = sym (ap (λ l. get_or l i x) (take-append-drop k xs)) ∙ get_or-append (take k xs) (drop k xs) x i less ∙ get_or_from_slice_get (take k xs) i x x at in
    slice_get-get_or xs i x (omega (arith, less, count)) ∙ ap Some here

-- and the other way
took_back : {A : Type 0} (k : ℕ) (xs : List A) (i : ℕ) (x : A) → slice_get xs i ≡ Some x → i < k → slice_get (take k xs) i ≡ Some x
took_back k xs i x at low = let within = slice_get_within xs i x at in
    let count = length-take k xs in
    let less : i < length (take k xs) = omega (arith, within, count, low) in
    let here : get_or (take k xs) i x ≡ x = sym (get_or-append (take k xs) (drop k xs) x i less) ∙ ap (λ l. get_or l i x) (take-append-drop k xs) ∙ get_or_from_slice_get xs i x x at in
    slice_get-get_or (take k xs) i x less ∙ ap Some here

-- an act that is drawn is drawn at an entry that is there
draws_by : (n : ℕ) (schedule other : List Entry) (x : Taken) (o : Option Entry) → slice_get schedule x.t ≡ o → ((e : Entry) → slice_get schedule x.t ≡ Some e → slice_get other x.t ≡ Some e) → draws n o x ≡ true → draws n (slice_get other x.t) x ≡ true
draws_by n schedule other x None here to drawn = absurd (true≢false (sym drawn))
draws_by n schedule other x (Some e) here to drawn = subst (λ o. draws n o x ≡ true) (sym (to e here)) drawn

-- what is drawn before a halt is drawn
draws_more : (n : ℕ) (halt : Option ℕ) (schedule : List Entry) (x : Taken) → draws n (slice_get (entries_run halt schedule) x.t) x ≡ true → draws n (slice_get schedule x.t) x ≡ true
draws_more n None schedule x at = at
draws_more n (Some halt) schedule x at = draws_by n (take halt schedule) schedule x (slice_get (take halt schedule) x.t) refl (λ e here. took halt schedule x.t e here) at

pub drawn_more : (n : ℕ) (halt : Option ℕ) (schedule : List Entry) (next : ℕ) (acts : List Taken) → DrawnFrom n (entries_run halt schedule) next acts → DrawnFrom n schedule next acts
drawn_more n halt schedule next [] drawn = tt
drawn_more n halt schedule next (x ∷ acts) drawn = (drawn.0, draws_more n halt schedule x drawn.1, drawn_more n halt schedule (suc x.t) acts drawn.2)

-- what is drawn at an entry before a halt is drawn before it
draws_less : (n from : ℕ) (halt : Option ℕ) (schedule : List Entry) (x : Taken) → IsBehind from halt → x.t < from → draws n (slice_get schedule x.t) x ≡ true → draws n (slice_get (entries_run halt schedule) x.t) x ≡ true
draws_less n from None schedule x behind low at = at
draws_less n from (Some halt) schedule x behind low at = draws_by n schedule (take halt schedule) x (slice_get schedule x.t) refl (λ e here. took_back halt schedule x.t e here (omega (arith, low, behind))) at

pub drawn_less : (n from : ℕ) (halt : Option ℕ) (schedule : List Entry) (next : ℕ) (acts : List Taken) → IsBehind from halt → TurnsBelow from acts → DrawnFrom n schedule next acts → DrawnFrom n (entries_run halt schedule) next acts
drawn_less n from halt schedule next [] behind below drawn = tt
drawn_less n from halt schedule next (x ∷ acts) behind below drawn = (drawn.0, draws_less n from halt schedule x behind below.0 drawn.1, drawn_less n from halt schedule (suc x.t) acts behind below.1 drawn.2)

-- each act was drawn at an entry that is there
draws_there : (n : ℕ) (schedule : List Entry) (x : Taken) (o : Option Entry) → slice_get schedule x.t ≡ o → draws n o x ≡ true → x.t < length schedule
draws_there n schedule x None here drawn = absurd (true≢false (sym drawn))
draws_there n schedule x (Some e) here drawn = slice_get_within schedule x.t e here

pub drawn_within : (n : ℕ) (schedule : List Entry) (next : ℕ) (acts : List Taken) → DrawnFrom n schedule next acts → All (λ x. x.t < length schedule) acts
drawn_within n schedule next [] drawn = All-nil (λ x. x.t < length schedule)
drawn_within n schedule next (x ∷ acts) drawn = All-cons (λ x. x.t < length schedule) x acts (draws_there n schedule x (slice_get schedule x.t) refl drawn.1) (drawn_within n schedule (suc x.t) acts drawn.2)

-- acts whose turns are all below a number
pub turns_below : (most : ℕ) (acts : List Taken) → All (λ x. x.t < most) acts → TurnsBelow most acts
turns_below most [] all = tt
turns_below most (x ∷ acts) all = (All-head (λ (y : Taken). y.t < most) x acts all, turns_below most acts (All-tail (λ (y : Taken). y.t < most) x acts all))

-- are no more, as they rise
below_few : (n next most : ℕ) (acts : List Taken) → next ≤ most → AreActs n next acts → TurnsBelow most acts → next + length acts ≤ most
below_few n next most [] low are below = omega (arith, low)
below_few n next most (x ∷ acts) low are below = let rest = below_few n (suc x.t) most acts (omega (arith, below.0)) are.4 below.1 in omega (arith, rest, are.2)

pub acts_below_few : (n most : ℕ) (acts : List Taken) → AreActs n 0 acts → TurnsBelow most acts → length acts ≤ most
acts_below_few n most acts are below = let few = below_few n 0 most acts (omega arith) are below in omega (arith, few)

abbrev pub is_halted_one : Verdict → Bool
is_halted_one Halted = true
is_halted_one _ = false

-- only a run with entries left over is halted
pub halted_said : (halted : Bool) (e : Ending) → verdict_at halted e ≡ Halted → halted ≡ true
halted_said true e is = refl
halted_said false ending.Done is = absurd (true≢false (sym (ap is_halted_one is)))
halted_said false ending.Unfinished is = absurd (true≢false (sym (ap is_halted_one is)))
halted_said false (ending.Device p) is = absurd (true≢false (sym (ap is_halted_one is)))
halted_said false (ending.Store p why) is = absurd (true≢false (sym (ap is_halted_one is)))
halted_said false ending.Sink is = absurd (true≢false (sym (ap is_halted_one is)))
halted_said false (ending.Stopped p) is = absurd (true≢false (sym (ap is_halted_one is)))
