-- A walk over acts, with one act more.
use Rattle.std.proofs.Common.{◌≡◌, ◌≢◌, ◌∙◌, ◌<◌, ◌≤◌, ◌+◌, ℕ, zero, suc, true, false, List, [], ◌∷◌, ◌++◌, ◌-◌, ◌^◌, All, Option, None, Some, IfSome, Vec, ap, append_assoc, length-append, arith, length, refl, slice_get, slice_set, subst, sym, ⊎_elim}
use Rattle.std.proofs.lemmas.Bool.{cases_Bool, cases_eq}
use Rattle.std.specs.Option.{option_map}
use Rattle.std.specs.declared.alloc.Global.{Global}
use Rattle.dc_elf.specs.Images.{Image}
use Rattle.dc_guest.specs.Answers.{answer_of}
use Rattle.dc_guest.specs.Guest.{Guest, guests_of}
use Rattle.dc_kernel.specs.declared.saved.Saved.{Saved}
use Rattle.dc_model.proofs.Own.{own_no, own_yes}
use Rattle.dc_model.proofs.Reports.{procs_next}
use Rattle.dc_model.specs.Guests.{Answer, Event, Guests, is_send, is_visible}
use Rattle.dc_model.specs.Guests.Event.{AtEnd, AtInternal, AtClock, AtRandom, AtInput, AtReceive, AtVisible, AtSend}
use Rattle.dc_model.specs.Process.{Local, comes, fits, local, moved, shows}
use Rattle.dc_model.specs.Runs.{CanCome, Given, IsMail, own, state}
use Rattle.dc_model.specs.FailureFree.{FailureFree, act_of, answer_for, put, reported, world_of}
use Rattle.dc_model.specs.declared.act.Act.{Act}
use Rattle.dc_model.specs.declared.act.Act.TheVariants as act
use Rattle.dc_model.specs.declared.act.Taken.{Taken}
use Rattle.dc_proc.specs.Carried.{system}
use Rattle.dc_protocols.specs.declared.protocol.Protocol.{Protocol}
use Rattle.dc_plain.proofs.Lists.{get_set_other, get_set_same}
use Rattle.dc_plain.specs.Playing.{Happens, Played, if_fits, world_in}
use Rattle.dc_plain.specs.declared.applied.Applied.{Applied}
use Rattle.dc_resume.proofs.Telling.{told_is}
use Rattle.dc_retrace.specs.Trails.{HasWalked, IsSeenAs, IsTrail}
use Rattle.dc_retrace.specs.Read.{stored_in}
use Rattle.dc_retrace.specs.declared.trail.Trail.{Trail}

module _ {Mc : Type 0} (G : Guests Mc) where
  -- what an act gives, by the processes alone
  pub answer_by : (w v : FailureFree Mc) (p : ℕ) (t : Act) → ((q : ℕ) → w.procs q ≡ v.procs q) → answer_for G w p t ≡ answer_for G v p t
  answer_by w v p act.Plain same = refl
  answer_by w v p (act.Clock x) same = refl
  answer_by w v p (act.Random x) same = refl
  answer_by w v p act.InputNone same = refl
  answer_by w v p act.InputNext same = ap (λ (l : Local Mc). option_map Answer.InputNext (slice_get (G.inputs p) l.inputs_taken)) (same p)
  answer_by w v p act.InputEnd same = refl
  answer_by w v p act.ReceiveNone same = refl
  answer_by w v p (act.ReceiveFrom s) same = λ i. answer_for G (record { procs = λ q. same q i; visibles = [] }) p (act.ReceiveFrom s)

  -- an answer that fits was given, and fits
  fit_some : (w : FailureFree Mc) (p : ℕ) (o : Option Answer) (a : Answer) → if_fits G w p o ≡ Some a → (o ≡ Some a) × (fits G p (w.procs p) a ≡ true)
  fit_some w p None a is = absurd (let off : ⊥ = cc in off)
  fit_some w p (Some b) a is = ⊎_elim
      (λ (yes : fits G p (w.procs p) b ≡ true). let same : Some b ≡ Some a = sym (rw yes refl) ∙ is in let e : b ≡ a = cc in (ap (λ x. Some x) e, subst (λ x. fits G p (w.procs p) x ≡ true) e yes))
      (λ (not_so : fits G p (w.procs p) b ≡ false). let none : None ≡ Some a = sym (rw not_so refl) ∙ is in absurd (let off : ⊥ = cc in off))
      (cases_Bool (fits G p (w.procs p) b))

  -- what happened is one answer more
  pub record OneMore (acts : List Given) (t p : ℕ) (b : Act) (a : Answer) (new : FailureFree Mc) : Type 0 where
    pub act_is : act_of a ≡ b
    pub can_come : CanCome G acts (record { t = t; p = p; answer = a })
    pub procs_are : (q : ℕ) → new.procs q ≡ state G (record { t = t; p = p; answer = a } ∷ acts) q

  pub one_more : (acts : List Given) (t p : ℕ) (b : Act) (applied : Applied) (old new : FailureFree Mc) → ((q : ℕ) → old.procs q ≡ state G acts q) → Happens G old p b applied new → OneMore acts t p b (answer_of applied.answer) new
  one_more acts t p b applied old new same is = record {
    act_is = told.0;
    can_come = record { fitting = subst (λ (l : Local Mc). fits G p l a ≡ true) (same p) given.1; mail = told.1 };
    procs_are = λ q. ap (λ (w : FailureFree Mc). w.procs q) is.new_is ∙ (λ i. put p (moved G (same p i) a) (λ r. same r i) q) ∙ procs_next G acts (record { t = t; p = p; answer = a }) q;
  }
    where
      a : Answer
      a = answer_of applied.answer

      given : (answer_for G old p b ≡ Some a) × (fits G p (old.procs p) a ≡ true)
      given = fit_some old p (answer_for G old p b) a is.answered

      told : (act_of a ≡ b) × IsMail G acts p a
      told = told_is G acts p b a (sym (answer_by old (world_of G acts) p b same) ∙ given.0)

-- an item that is there
pub get_some : {A : Type 0} (xs : List A) (i : ℕ) → i < length xs → (x : A) × (slice_get xs i ≡ Some x)
get_some [] i less = absurd (let off : ⊥ = omega (arith, less) in off)
get_some (x ∷ xs) zero less = (x, refl)
get_some (x ∷ xs) (suc i) less = get_some xs i (omega (arith, less))

pub if_some : {A : Type 0} (o : Option A) (x : A) (P : A → Type 0) → o ≡ Some x → IfSome o P → P x
if_some o x P is all = subst (λ z. IfSome z P) is all

module _ (images : List Image) (inputs : List (List (List ℕ))) (protocol : Protocol) (memories : List (Vec ℕ Global)) (saved : List Saved) (acts : List Given) (plain plain1 plain2 : Played) (trails : List Trail) (old new : Trail) (t p : ℕ) (b : Act) (applied : Applied)
    (walked : HasWalked images inputs protocol memories saved acts plain trails) (happens : Happens (guests_of images plain.inputs) (world_in plain) p b applied (world_in plain1))
    (forgot : world_in plain2 ≡ record (world_in plain1) { visibles = [] }) where
  abbrev G : Guests Guest
  G = guests_of images inputs

  abbrev a : Answer
  a = answer_of applied.answer

  abbrev x : Given
  x = record { t = t; p = p; answer = a }

  here : Happens G (world_in plain) p b applied (world_in plain1)
  here = subst (λ xs. Happens (guests_of images xs) (world_in plain) p b applied (world_in plain1)) walked.inputs_are happens

  more : OneMore G acts t p b a (world_in plain1)
  more = one_more G acts t p b applied (world_in plain) (world_in plain1) walked.procs_are here

  pub act_told : act_of a ≡ b
  act_told = more.act_is

  -- what others saw of it
  pub seen_as : IsSeenAs G p (own p acts) applied
  seen_as = record {
    shows = here.shows ∙ ap (λ (l : Local Guest). is_visible (G.next l.machine)) (walked.procs_are p);
    sends = here.sends ∙ ap (λ (l : Local Guest). is_send (G.next l.machine)) (walked.procs_are p);
  }

  -- where it then is
  pub procs_next_are : (q : ℕ) → (world_in plain2).procs q ≡ state G (x ∷ acts) q
  procs_next_are q = ap (λ (w : FailureFree Guest). w.procs q) forgot ∙ more.procs_are q

  pub local_next : (world_in plain2).procs p ≡ local G p (a ∷ own p acts)
  local_next = procs_next_are p ∙ ap (local G p) (own_yes x acts p refl)

  pub had_trail : slice_get trails p ≡ Some old → p < length images → IsTrail (system images inputs protocol) p (own p acts) (stored_in memories saved p) old
  had_trail there within = if_some (slice_get trails p) old (IsTrail (system images inputs protocol) p (own p acts) (stored_in memories saved p)) there (walked.trails_are p within)

  pub walked_on : plain2.inputs ≡ plain.inputs → p < length trails → IsTrail (system images inputs protocol) p (a ∷ own p acts) (stored_in memories saved p) new
      → HasWalked images inputs protocol memories saved (x ∷ acts) plain2 (slice_set trails p new)
  walked_on same within is = record {
    inputs_are = same ∙ walked.inputs_are;
    is_run = (walked.is_run, more.can_come);
    procs_are = procs_next_are;
    trails_are = λ q less. ⊎_elim
        (λ (e : p ≡ q). subst (λ r. IfSome (slice_get (slice_set trails p new) r) (IsTrail (system images inputs protocol) r (own r (x ∷ acts)) (stored_in memories saved r))) e
        (subst (λ o. IfSome o (IsTrail (system images inputs protocol) p (own p (x ∷ acts)) (stored_in memories saved p))) (sym (get_set_same trails p new within))
        (subst (λ ds. IsTrail (system images inputs protocol) p ds (stored_in memories saved p) new) (sym (own_yes x acts p refl)) is)))
        (λ (ne : p ≢ q). subst (λ o. IfSome o (IsTrail (system images inputs protocol) q (own q (x ∷ acts)) (stored_in memories saved q))) (sym (get_set_other trails p q new ne))
        (subst (λ ds. IfSome (slice_get trails q) (IsTrail (system images inputs protocol) q ds (stored_in memories saved q))) (sym (own_no x acts q ne)) (walked.trails_are q less)))
        (cases_eq p q);
  }

  -- all together
  pub stepped : plain2.inputs ≡ plain.inputs → slice_get trails p ≡ Some old → p < length images → p < length trails
      → (IsSeenAs G p (own p acts) applied → (world_in plain2).procs p ≡ local G p (a ∷ own p acts) → IsTrail (system images inputs protocol) p (own p acts) (stored_in memories saved p) old
      → IsTrail (system images inputs protocol) p (a ∷ own p acts) (stored_in memories saved p) new)
      → (y : Answer) × (act_of y ≡ b) × HasWalked images inputs protocol memories saved (record { t = t; p = p; answer = y } ∷ acts) plain2 (slice_set trails p new)
  stepped same there less within turn = (a, act_told, walked_on same within (turn seen_as local_next (had_trail there less)))

-- as many were reported as were given
pub reported_long : (acts : List Given) → length (reported acts) ≡ length acts
reported_long [] = refl
reported_long (x ∷ acts) = length_end (reported acts) (record { t = x.t; p = x.p; act = act_of x.answer }) ∙ ap suc (reported_long acts)
  where
    length_end : (xs : List Taken) (y : Taken) → length (xs ++ y ∷ []) ≡ suc (length xs)
    length_end [] y = refl
    length_end (z ∷ xs) y = ap suc (length_end xs y)

-- own acts are among all
pub own_few : (p : ℕ) (acts : List Given) → length (own p acts) ≤ length acts
own_few p [] = omega arith
own_few p (x ∷ acts) = ⊎_elim
    (λ (e : x.p ≡ p). let more = own_few p acts in let l = ap length (own_yes x acts p e) in omega (arith, more, l))
    (λ (ne : x.p ≢ p). let more = own_few p acts in let l = ap length (own_no x acts p ne) in omega (arith, more, l))
    (cases_eq x.p p)

one_shown : (e : Event) → shows e ≤ 1
one_shown AtEnd = omega arith
one_shown AtInternal = omega arith
one_shown AtClock = omega arith
one_shown AtRandom = omega arith
one_shown AtInput = omega arith
one_shown AtReceive = omega arith
one_shown (AtVisible body) = omega arith
one_shown (AtSend to message) = omega arith

-- a process shows no more records than it took acts
pub visible_few : {Mc : Type 0} (G : Guests Mc) (p : ℕ) (answers : List Answer) → (local G p answers).visible ≤ length answers
visible_few G p [] = omega arith
visible_few G p (a ∷ answers) = let more = visible_few G p answers in let one = one_shown (comes G (local G p answers) a) in omega (arith, more, one)

if_some_on : {A : Type 0} (o : Option A) (P Q : A → Type 0) → ((x : A) → P x → Q x) → IfSome o P → IfSome o Q
if_some_on None P Q on all = tt
if_some_on (Some x) P Q on all = on x all

module _ (images : List Image) (inputs : List (List (List ℕ))) (protocol : Protocol) (memories : List (Vec ℕ Global)) (saved : List Saved) (acts : List Given) (plain : Played) (trails : List Trail)
    (walked : HasWalked images inputs protocol memories saved acts plain trails) (few : length acts < 2 ^ 32 - 1) (p : ℕ) where
  pub visible_there : ((world_in plain).procs p).visible < 2 ^ 32 - 1
  visible_there = let e = ap (λ (l : Local Guest). l.visible) (walked.procs_are p) in let v = visible_few (guests_of images inputs) p (own p acts) in let o = own_few p acts in omega (arith, e, v, o, few)

  pub count_there : p < length images → IfSome (slice_get trails p) (λ trail. trail.count < 2 ^ 32 - 1)
  count_there less = if_some_on (slice_get trails p) (IsTrail (system images inputs protocol) p (own p acts) (stored_in memories saved p)) (λ trail. trail.count < 2 ^ 32 - 1)
      (λ trail is. let e = is.counted.count_is in let o = own_few p acts in omega (arith, e, o, few)) (walked.trails_are p less)

-- one act more was reported
pub reported_on : (acts : List Given) (rest after all : List Taken) (x : Taken) (a : Answer) → rest ≡ x ∷ after → act_of a ≡ x.act → reported acts ++ rest ≡ all → reported (record { t = x.t; p = x.p; answer = a } ∷ acts) ++ after ≡ all
reported_on acts rest after all x a is act_is so_far = append_assoc (reported acts) (record { t = x.t; p = x.p; act = act_of a } ∷ []) after
    ∙ ap (λ (t : Act). reported acts ++ record { t = x.t; p = x.p; act = t } ∷ after) act_is ∙ ap (λ xs. reported acts ++ xs) (sym is) ∙ so_far

all_behind : (n : ℕ) (x : Taken) (acts : List Taken) → All (λ y. y.p < n) (x ∷ acts) → All (λ y. y.p < n) acts
all_behind n x acts all = λ k d within. all (suc k) d (omega (arith, within))

pub all_rest : (n : ℕ) (x : Taken) (acts rest : List Taken) → rest ≡ x ∷ acts → All (λ y. y.p < n) rest → All (λ y. y.p < n) acts
all_rest n x acts rest is all = all_behind n x acts (subst (λ xs. All (λ y. y.p < n) xs) is all)

pub few_left : (acts : List Given) (rest all : List Taken) → reported acts ++ rest ≡ all → length acts + length rest ≡ length all
few_left acts rest all so_far = let e = ap length so_far in let l = length-append (reported acts) rest in let r = reported_long acts in omega (arith, e, l, r)
