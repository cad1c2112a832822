-- A run shows only what can be written, and its acts can be listed.
use Rattle.std.proofs.Common.{◌≡◌, ◌∙◌, ◌<◌, ◌≤◌, ◌+◌, ◌-◌, ◌^◌, ◌==◌, ℕ, zero, suc, true, false, List, [], ◌∷◌, Option, None, Some, ap, sym, refl, subst, arith, length, replicate, nat_lt, option_map, slice_get, unwrap_or, ⊎_elim}
use Rattle.std.specs.List.{AllByRecursion}
use Rattle.std.proofs.lemmas.Bool.{and_parts, cases_Bool, eqb-true}
use Rattle.std.proofs.lemmas.Option.{slice_get_within}
use Rattle.dc_report.specs.Reading.{AreActs, IsAct}
use Rattle.dc_check.proofs.Applied.{one_event}
use Rattle.dc_elf.specs.Images.{Image}
use Rattle.dc_guest.specs.Guest.{Guest, coming, guests_of, started}
use Rattle.dc_model.specs.Drawn.{Drawn, DrawnFrom, draws, may_answer}
use Rattle.dc_model.specs.Guests.{Answer, Event}
use Rattle.dc_model.specs.Guests.{Answer as answer}
use Rattle.dc_model.specs.Guests.Event.{AtEnd, AtInternal, AtClock, AtRandom, AtInput, AtReceive, AtVisible, AtSend}
use Rattle.dc_model.specs.Process.{Local, fits, moved, posted, visible_of}
use Rattle.dc_model.specs.FailureFree.{FailureFree, answer_for, apply, apply_answer, happened, opened, run, run_from}
use Rattle.dc_model.specs.declared.act.Act.{Act}
use Rattle.dc_model.specs.declared.act.Act.TheVariants as act
use Rattle.dc_model.specs.declared.act.Taken.{Taken}
use Rattle.dc_model.specs.declared.entry.Entry.{Entry}
use Rattle.dc_model.specs.declared.entry.Entry.TheVariants as entry
use Rattle.dc_model.specs.declared.entry.Turn.{Turn}
use Rattle.dc_schedule.specs.Entries.{AreEntries, IsSchedule, clock_after}
use Rattle.dc_shows.specs.Typed.{CanWrite, IsComing, IsHanded, IsImage, IsLocal, IsTold, IsTyped}
use Rattle.dc_shows.proofs.Guests.{answers_on, comes_on, count_on, number_on}
use Rattle.dc_kernel.proofs.Parts.{below-replicate}
use Rattle.dc_shows.proofs.Lists.{all_both, all_get, below-set, by_test}

-- what an act can tell
abbrev IsGiven : Act → Type 0
IsGiven (act.Clock v) = v < 2 ^ 64
IsGiven (act.Random v) = v < 2 ^ 32
IsGiven _ = Unit {0}

abbrev HasSender : ℕ → Act → Type 0
HasSender n (act.ReceiveFrom s) = s < n
HasSender n _ = Unit {0}

is_act : (n : ℕ) (a : Act) → IsGiven a → HasSender n a → IsAct n a
is_act n act.Plain given has = tt
is_act n (act.Clock v) given has = given
is_act n (act.Random v) given has = given
is_act n act.InputNone given has = tt
is_act n act.InputNext given has = tt
is_act n act.InputEnd given has = tt
is_act n act.ReceiveNone given has = tt
is_act n (act.ReceiveFrom s) given has = has

-- by the schedule
turn_at : (n last : ℕ) (entries : List Entry) (k : ℕ) (turn : Turn) → AreEntries n last entries → slice_get entries k ≡ Some (entry.Turn turn) → (turn.p < n) × (turn.word < 2 ^ 32) × (turn.clock < 2 ^ 64)
turn_at n last [] k turn are e = absurd (let never : ⊥ = cc in never)
turn_at n last (x ∷ entries) zero turn are e = let same : x ≡ entry.Turn turn = cc in first (rw same at are)
  where
    first : AreEntries n last (entry.Turn turn ∷ entries) → (turn.p < n) × (turn.word < 2 ^ 32) × (turn.clock < 2 ^ 64)
    first all = (all.0.0, all.0.1, all.0.2)
turn_at n last (x ∷ entries) (suc k) turn are e = turn_at n (clock_after last x) entries k turn are.1 e

given_by : (n word clock : ℕ) (a : Act) → word < 2 ^ 32 → clock < 2 ^ 64 → may_answer n word clock a ≡ true → IsGiven a
given_by n word clock act.Plain small few e = tt
given_by n word clock (act.Clock v) small few e = let same = eqb-true v clock e in omega (arith, same, few)
given_by n word clock (act.Random v) small few e = let same = eqb-true v word e in omega (arith, same, small)
given_by n word clock act.InputNone small few e = tt
given_by n word clock act.InputNext small few e = tt
given_by n word clock act.InputEnd small few e = tt
given_by n word clock act.ReceiveNone small few e = tt
given_by n word clock (act.ReceiveFrom s) small few e = tt

drawn_by : (n : ℕ) (schedule : List Entry) (x : Taken) (o : Option Entry) → AreEntries n 0 schedule → slice_get schedule x.t ≡ o → draws n o x ≡ true → (x.p < n) × IsGiven x.act × (x.t < length schedule)
drawn_by n schedule x None are e drawn = absurd (let never : ⊥ = cc in never)
drawn_by n schedule x (Some (entry.Stop p)) are e drawn = absurd (let never : ⊥ = cc in never)
drawn_by n schedule x (Some entry.Power) are e drawn = absurd (let never : ⊥ = cc in never)
drawn_by n schedule x (Some (entry.Turn turn)) are e drawn =
    let is = turn_at n 0 schedule x.t turn are e in
    let parts = and_parts (turn.p == x.p) (may_answer n turn.word turn.clock x.act) drawn in
    let same = eqb-true turn.p x.p parts.0 in
    (omega (arith, same, is.0), given_by n turn.word turn.clock x.act is.1 is.2 parts.1, slice_get_within schedule x.t (entry.Turn turn) e)

-- what an event sends and shows
posts : (e : Event) (q : ℕ) → IsComing e → AllByRecursion IsHanded (posted e q)
posts AtEnd q is = tt
posts AtInternal q is = tt
posts AtClock q is = tt
posts AtRandom q is = tt
posts AtInput q is = tt
posts AtReceive q is = tt
posts (AtVisible body) q is = tt
posts (AtSend to message) q is = by_test (AllByRecursion IsHanded) (to == q) _ _ (is, tt) tt

writes : (n most p k : ℕ) (e : Event) → p < n → k < most → IsComing e → AllByRecursion (CanWrite n most) (visible_of p k e)
writes n most p k AtEnd one few is = tt
writes n most p k AtInternal one few is = tt
writes n most p k AtClock one few is = tt
writes n most p k AtRandom one few is = tt
writes n most p k AtInput one few is = tt
writes n most p k AtReceive one few is = tt
writes n most p k (AtVisible body) one few is = (record { process = one; number = few; shown = is }, tt)
writes n most p k (AtSend to message) one few is = tt

module _ (images : List Image) (inputs : List (List (List ℕ))) (few : length images < 2 ^ 32) (good : AllByRecursion IsImage images) (handed : AllByRecursion (AllByRecursion IsHanded) inputs) where
  local_on : (l : Local Guest) (a : Answer) → IsLocal l → IsTold a → IsLocal (moved (guests_of images inputs) l a)
  local_on l a is told = record {
    machine = answers_on l.machine is.machine is.number is.count a told;
    number = subst (λ (x : ℕ). x < 2 ^ 32) (sym (number_on l.machine is.machine is.number is.count a)) is.number;
    count = subst (λ (x : ℕ). x < 2 ^ 32) (sym (count_on l.machine is.machine is.number is.count a)) is.count;
    sent = λ q. all_both IsHanded (l.sent q) (posted (coming l.machine) q) (is.sent q) (posts (coming l.machine) q (comes_on l.machine is.machine is.number is.count));
  }

  inputs_handed : (p : ℕ) → AllByRecursion IsHanded (unwrap_or (slice_get inputs p) [])
  inputs_handed p = by_option (slice_get inputs p) refl
    where
      by_option : (o : Option (List (List ℕ))) → slice_get inputs p ≡ o → AllByRecursion IsHanded (unwrap_or o [])
      by_option None e = tt
      by_option (Some all) e = all_get (AllByRecursion IsHanded) inputs p all handed e

  module _ (most left : ℕ) (w : FailureFree Guest) (p : ℕ) (one : p < length images) (is : IsTyped (length images) most (suc left) w) where
    received : (s : ℕ) (a : Answer) (o : Option (List ℕ)) → slice_get ((w.procs s).sent p) ((w.procs p).received s) ≡ o → option_map (answer.ReceiveFrom s) o ≡ Some a → IsTold a × (s < length images)
    received s a None e f = absurd (let never : ⊥ = cc in never)
    received s a (Some message) e f = let same : answer.ReceiveFrom s message ≡ a = cc in ⊎_elim
        (λ yes. let below : s < length images = grind (arith, yes) in
        (subst IsTold same (omega (arith, below, few), all_get IsHanded ((w.procs s).sent p) ((w.procs p).received s) message ((is.each s below).sent p) e), below))
        (λ no. let above : length images ≤ s = grind (arith, no) in
        let none : None ≡ Some message = sym (ap (λ xs. slice_get xs ((w.procs p).received s)) (is.silent s above p)) ∙ e in absurd (let never : ⊥ = cc in never))
        (cases_Bool (nat_lt s (length images)))

    next_input : (a : Answer) (o : Option (List ℕ)) → slice_get (unwrap_or (slice_get inputs p) []) (w.procs p).inputs_taken ≡ o → option_map answer.InputNext o ≡ Some a → IsTold a
    next_input a None e f = absurd (let never : ⊥ = cc in never)
    next_input a (Some bytes) e f = let same : answer.InputNext bytes ≡ a = cc in subst IsTold same (all_get IsHanded (unwrap_or (slice_get inputs p) []) (w.procs p).inputs_taken bytes (inputs_handed p) e)

    told_by : (x : Act) (a : Answer) → IsGiven x → answer_for (guests_of images inputs) w p x ≡ Some a → IsTold a × HasSender (length images) x
    told_by act.Plain a given e = let same : answer.Plain ≡ a = cc in (subst IsTold same tt, tt)
    told_by (act.Clock v) a given e = let same : answer.Clock v ≡ a = cc in (subst IsTold same given, tt)
    told_by (act.Random v) a given e = let same : answer.Random v ≡ a = cc in (subst IsTold same given, tt)
    told_by act.InputNone a given e = let same : answer.InputNone ≡ a = cc in (subst IsTold same tt, tt)
    told_by act.InputNext a given e = (next_input a (slice_get (unwrap_or (slice_get inputs p) []) (w.procs p).inputs_taken) refl e, tt)
    told_by act.InputEnd a given e = let same : answer.InputEnd ≡ a = cc in (subst IsTold same tt, tt)
    told_by act.ReceiveNone a given e = let same : answer.ReceiveNone ≡ a = cc in (subst IsTold same tt, tt)
    told_by (act.ReceiveFrom s) a given e = ⊎_elim
        (λ own. let none : None ≡ Some a = sym (rw own refl) ∙ e in absurd (let never : ⊥ = cc in never))
        (λ other. received s a (slice_get ((w.procs s).sent p) ((w.procs p).received s)) refl (sym (rw other refl) ∙ e))
        (cases_Bool (s == p))

    apart : (q : ℕ) → length images ≤ q → p == q ≡ false
    apart q above = grind (arith, one, above)

    typed_on : (a : Answer) → IsTold a → IsTyped (length images) most left (happened (guests_of images inputs) w p a)
    typed_on a told = let here = is.each p one in record {
      each = λ q below. by_test IsLocal (p == q) _ _ (local_on (w.procs p) a here told) (is.each q below);
      count = λ q below. by_test (λ (l : Local Guest). l.visible + left ≤ most) (p == q) _ _
          (let c = is.count p one in let h = one_event (coming (w.procs p).machine) in omega (arith, c, h)) (let c = is.count q below in omega (arith, c));
      silent = λ q above r. rw (apart q above) (is.silent q above r);
      visibles = all_both (CanWrite (length images) most) w.visibles (visible_of p (w.procs p).visible (coming (w.procs p).machine)) is.visibles
          (writes (length images) most p (w.procs p).visible (coming (w.procs p).machine) one (let c = is.count p one in omega (arith, c)) (comes_on (w.procs p).machine here.machine here.number here.count));
    }

    by_answer : (x : Act) (o : Option Answer) (v : FailureFree Guest) → IsGiven x → answer_for (guests_of images inputs) w p x ≡ o → apply_answer (guests_of images inputs) w p o ≡ Some v
        → IsTyped (length images) most left v × HasSender (length images) x
    by_answer x None v given e f = absurd (let never : ⊥ = cc in never)
    by_answer x (Some a) v given e f = let told = told_by x a given e in ⊎_elim
        (λ yes. let same : happened (guests_of images inputs) w p a ≡ v = (let whole : Some (happened (guests_of images inputs) w p a) ≡ Some v = sym (rw yes refl) ∙ f in let is' : happened (guests_of images inputs) w p a ≡ v = cc in is') in
        (subst (λ u. IsTyped (length images) most left u) same (typed_on a told.0), told.1))
        (λ no. let none : None ≡ Some v = sym (rw no refl) ∙ f in absurd (let never : ⊥ = cc in never))
        (cases_Bool (fits (guests_of images inputs) p (w.procs p) a))

    applied : (x : Act) (v : FailureFree Guest) → IsGiven x → apply (guests_of images inputs) w p x ≡ Some v → IsTyped (length images) most left v × HasSender (length images) x
    applied x v given e = by_answer x (answer_for (guests_of images inputs) w p x) v given refl e

  module _ (schedule : List Entry) (is_schedule : IsSchedule (length images) schedule) where
    from_none : (acts : List Taken) → run_from (guests_of images inputs) None acts ≡ None
    from_none [] = refl
    from_none (x ∷ acts) = refl

    run_on : (most from : ℕ) (acts : List Taken) (w v : FailureFree Guest) → IsTyped (length images) most (length acts) w → DrawnFrom (length images) schedule from acts
        → run_from (guests_of images inputs) (Some w) acts ≡ Some v → IsTyped (length images) most 0 v × AreActs (length images) from acts
    run_on most from [] w v is drawn e = let same : w ≡ v = cc in (subst (λ u. IsTyped (length images) most 0 u) same is, tt)
    run_on most from (x ∷ acts) w v is drawn e = by_apply (λ u typed on. run_on most (suc x.t) acts u v typed drawn.2 on) (apply (guests_of images inputs) w x.p x.act) refl e
      where
        by_apply : ((u : FailureFree Guest) → IsTyped (length images) most (length acts) u → run_from (guests_of images inputs) (Some u) acts ≡ Some v → IsTyped (length images) most 0 v × AreActs (length images) (suc x.t) acts)
            → (o : Option (FailureFree Guest)) → apply (guests_of images inputs) w x.p x.act ≡ o → run_from (guests_of images inputs) o acts ≡ Some v → IsTyped (length images) most 0 v × AreActs (length images) from (x ∷ acts)
        by_apply rest None at on = let never : None ≡ Some v = sym (from_none acts) ∙ on in absurd (let no_way : ⊥ = cc in no_way)
        by_apply rest (Some u) at on = let by = drawn_by (length images) schedule x (slice_get schedule x.t) is_schedule.1 refl drawn.1 in
            let next = applied most (length acts) w x.p by.0 is x.act u by.1 at in
            let all = rest u next.0 on in
            (all.0, (by.0, is_act (length images) x.act by.1 next.1, drawn.0, (let h = is_schedule.0 in omega (arith, h, by.2)), all.1))

    begins : (p : ℕ) → p < length images → IsLocal (record { machine = started p (length images) (slice_get images p); inputs_taken = 0; received = λ s. 0; sent = λ q. []; visible = 0 })
    begins p one = by_option (slice_get images p) refl
      where
        by_option : (o : Option Image) → slice_get images p ≡ o → IsLocal (record { machine = started p (length images) o; inputs_taken = 0; received = λ s. 0; sent = λ q. []; visible = 0 })
        by_option None e = record { machine = record { registers = tt; pc = omega arith; memory = tt }; number = omega (arith, one, few); count = few; sent = λ q. tt }
        by_option (Some image) e = let is = all_get IsImage images p image good e in record {
          machine = record { registers = below-set (2 ^ 32) (replicate 32 0) 2 (length image.memory - 16) (let h = is.size in omega (arith, h)) (below-replicate (2 ^ 32) 32 0 (omega arith)); pc = is.entry; memory = is.memory };
          number = omega (arith, one, few);
          count = few;
          sent = λ q. tt;
        }

    pub run_written : (acts : List Taken) (w : FailureFree Guest) → Drawn (length images) schedule acts → run (guests_of images inputs) acts ≡ Some w
        → AllByRecursion (CanWrite (length images) (length acts)) w.visibles × AreActs (length images) 0 acts
    run_written acts w drawn e = let all = run_on (length acts) 0 acts (opened (guests_of images inputs)) w (record { each = begins; count = λ p below. omega arith; silent = λ p above q. refl; visibles = tt }) drawn e in
        (all.0.visibles, all.1)
