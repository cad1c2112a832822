-- What was told from a save on decides whether it is one.
use Rattle.std.proofs.Common.{◌≡◌, ◌∙◌, ◌+◌, ◌-◌, ◌<◌, ◌≤◌, ℕ, zero, suc, List, [], ◌∷◌, ◌++◌, Option, Some, None, refl, ap, subst, sym, arith, ⊎_elim, length}
use Rattle.std.proofs.lemmas.Bool.{cases_Bool, cases_lt, cond_both, le-ltb, lt-ltb}
use Rattle.std.proofs.lemmas.List.{append-nil}
use Rattle.dc_model.specs.Guests.{Answer, Guests, is_plain}
use Rattle.dc_model.specs.Process.{at_position, local, took_from}
use Rattle.dc_recovery.proofs.Cuts.{cases_le}
use Rattle.dc_recovery.proofs.Spans.{act_there, noted_plain, noted_told, oldest_next, plain_takes, received_later, span_next, span_none, span_past, span_split}
use Rattle.dc_recovery.specs.Invariant.{IsFew, SaveOk}
use Rattle.dc_recovery.specs.Saves.{Logged, Save, answer_at, log_end, logged_at, logged_if, reach, span}
use Rattle.dc_recovery.specs.Systems.{System}
use Rattle.dc_resume.proofs.Reaching.{reach_within}
use Rattle.dc_resume.specs.Deciding.{IsToldSave, StartsFrom, before, receipts}

-- all records stand from one position up to another
abbrev pub AllIn : ℕ → ℕ → List Logged → Type 0
AllIn lo hi [] = Unit {0}
AllIn lo hi (x ∷ xs) = (lo ≤ x.position) × (x.position < hi) × AllIn lo hi xs

all_append : (lo hi : ℕ) (xs ys : List Logged) → AllIn lo hi xs → AllIn lo hi ys → AllIn lo hi (xs ++ ys)
all_append lo hi [] ys a b = b
all_append lo hi (x ∷ xs) ys a b = (a.0, a.1, all_append lo hi xs ys a.2 b)

all_wider : (lo hi more : ℕ) (xs : List Logged) → hi ≤ more → AllIn lo hi xs → AllIn lo more xs
all_wider lo hi more [] h a = tt
all_wider lo hi more (x ∷ xs) h a = (a.0, let k = a.1 in omega arith, all_wider lo hi more xs h a.2)

one_in : (lo hi i : ℕ) (o : Option Answer) → lo ≤ i → i < hi → AllIn lo hi (logged_if i o)
one_in lo hi i None a b = tt
one_in lo hi i (Some answer) a b = cond_both (is_plain answer) [] (record { position = i; answer = answer } ∷ []) (AllIn lo hi) (λ _. tt) (λ _. (a, b, tt))

span_in : (ds : List Answer) (lo hi : ℕ) → AllIn lo hi (span (logged_at ds) lo hi)
span_in ds lo zero = tt
span_in ds lo (suc hi) = ⊎_elim
    (λ (h : lo ≤ hi). subst (AllIn lo (suc hi)) (sym (span_next (logged_at ds) lo hi h))
    (all_append lo (suc hi) (span (logged_at ds) lo hi) (logged_at ds hi) (all_wider lo hi (suc hi) (span (logged_at ds) lo hi) (omega arith) (span_in ds lo hi)) (one_in lo (suc hi) hi (answer_at hi ds) h (omega arith))))
    (λ (h : hi < lo). subst (AllIn lo (suc hi)) (sym (span_past (logged_at ds) lo hi h)) tt)
    (cases_le lo hi)

below_end : (r : ℕ) (xs : List Logged) → log_end xs ≤ r → AllIn 0 r xs
below_end r [] h = tt
below_end r (x ∷ xs) h = (omega arith, omega arith, below_end r xs (omega arith))

starts : (r hi : ℕ) (xs : List Logged) → AllIn r hi xs → StartsFrom r xs
starts r hi [] all = tt
starts r hi (x ∷ xs) all = all.0

-- two parts, each cut where the positions reach r, are the same
same_front : (r hi lo : ℕ) (xs ys log rest : List Logged) → xs ++ ys ≡ log ++ rest → AllIn lo r xs → AllIn r hi ys → AllIn 0 r log → StartsFrom r rest → xs ≡ log
same_front r hi lo [] ys [] rest e a b c d = refl
same_front r hi lo [] [] (y ∷ log) rest e a b c d = absurd (let off : ⊥ = cc in off)
same_front r hi lo [] (z ∷ ys) (y ∷ log) rest e a b c d = let same : z ≡ y = cc in let at = ap (λ (x : Logged). x.position) same in let k = b.0 in let l = c.1 in absurd (let off : ⊥ = omega arith in off)
same_front r hi lo (x ∷ xs) ys [] [] e a b c d = absurd (let off : ⊥ = cc in off)
same_front r hi lo (x ∷ xs) ys [] (z ∷ rest) e a b c d = let same : x ≡ z = cc in let at = ap (λ (x : Logged). x.position) same in let k = a.1 in absurd (let off : ⊥ = omega arith in off)
same_front r hi lo (x ∷ xs) ys (y ∷ log) rest e a b c d =
    let same : x ≡ y = cc in let left : xs ++ ys ≡ log ++ rest = cc in
    let more = same_front r hi lo xs ys log rest left a.2 b c.2 d in cc

-- receipts
receipts_append : (s : ℕ) (xs ys : List Logged) → receipts s (xs ++ ys) ≡ receipts s xs + receipts s ys
receipts_append s [] ys = omega arith
receipts_append s (x ∷ xs) ys = let k = receipts_append s xs ys in omega arith

receipts_one : (s i : ℕ) (a : Answer) → receipts s (logged_if i (Some a)) ≡ took_from a s
receipts_one s i a = ⊎_elim
    (λ on. rw (noted_plain i a on) (sym (plain_takes a s on)))
    (λ off. rw (noted_told i a off) (omega arith))
    (cases_Bool (is_plain a))

received_span : {Mc : Type 0} (G : Guests Mc) (p lo hi s : ℕ) (ds : List Answer) → lo ≤ hi → hi ≤ length ds
    → (at_position G p hi ds).received s ≡ (at_position G p lo ds).received s + receipts s (span (logged_at ds) lo hi)
received_span G p lo zero s ds h l = let k : lo ≡ 0 = omega arith in rw k (omega arith)
received_span G p lo (suc hi) s ds h l = ⊎_elim
    (λ (k : lo ≤ hi).
    let r = act_there hi ds (omega arith) in
    let so_far = received_span G p lo hi s ds k (omega arith) in
    let now : (at_position G p (suc hi) ds).received s ≡ (at_position G p hi ds).received s + took_from r.0 s = ap (λ (xs : List Answer). (local G p xs).received s) (oldest_next hi r.0 ds (omega arith) r.1) in
    let told : receipts s (logged_at ds hi) ≡ took_from r.0 s = ap (λ (o : Option Answer). receipts s (logged_if hi o)) r.1 ∙ receipts_one s hi r.0 in
    let all : receipts s (span (logged_at ds) lo (suc hi)) ≡ receipts s (span (logged_at ds) lo hi) + receipts s (logged_at ds hi) = ap (receipts s) (span_next (logged_at ds) lo hi k) ∙ receipts_append s (span (logged_at ds) lo hi) (logged_at ds hi) in
    omega arith)
    (λ (k : hi < lo).
    let e : lo ≡ suc hi = omega arith in
    let none : receipts s (span (logged_at ds) lo (suc hi)) ≡ 0 = ap (receipts s) (span_past (logged_at ds) lo hi k) in
    let same : (at_position G p (suc hi) ds).received s ≡ (at_position G p lo ds).received s = ap (λ (i : ℕ). (at_position G p i ds).received s) (sym e) in
    omega arith)
    (cases_le lo hi)

before_all : (r lo : ℕ) (xs : List Logged) → AllIn lo r xs → before r xs ≡ xs
before_all r lo [] all = refl
before_all r lo (x ∷ xs) all = rw (lt-ltb x.position r all.1) (ap (λ ys. x ∷ ys) (before_all r lo xs all.2))

before_none : (r hi : ℕ) (xs : List Logged) → AllIn r hi xs → before r xs ≡ []
before_none r hi [] all = refl
before_none r hi (x ∷ xs) all = rw (le-ltb x.position r all.0) (before_none r hi xs all.2)

before_append : (r : ℕ) (xs ys : List Logged) → before r (xs ++ ys) ≡ before r xs ++ before r ys
before_append r [] ys = refl
before_append r (x ∷ xs) ys = ⊎_elim
    (λ (h : x.position < r). rw (lt-ltb x.position r h) (ap (λ zs. x ∷ zs) (before_append r xs ys)))
    (λ (h : r ≤ x.position). rw (le-ltb x.position r h) (before_append r xs ys))
    (cases_lt x.position r)

-- the part of a span before a position is that up to it
before_span : (ds : List Answer) (lo mid hi : ℕ) → lo ≤ mid → mid ≤ hi → before mid (span (logged_at ds) lo hi) ≡ span (logged_at ds) lo mid
before_span ds lo mid hi a b =
    ap (before mid) (span_split (logged_at ds) lo mid hi a b) ∙ before_append mid (span (logged_at ds) lo mid) (span (logged_at ds) mid hi)
    ∙ ap (λ (xs : List Logged). xs ++ before mid (span (logged_at ds) mid hi)) (before_all mid lo (span (logged_at ds) lo mid) (span_in ds lo mid))
    ∙ ap (λ (xs : List Logged). span (logged_at ds) lo mid ++ xs) (before_none mid hi (span (logged_at ds) mid hi) (span_in ds mid hi))
    ∙ append-nil (span (logged_at ds) lo mid)

module _ {Mc : Type 0} (S : System Mc) (p : ℕ) (ds : List Answer) (s : Save) where
  abbrev r : ℕ
  r = reach S p ds s

  abbrev f : ℕ → List Logged
  f = logged_at ds

  abbrev got : ℕ → ℕ → ℕ
  got i q = (at_position S.guests p i ds).received q

  pub told_save : (rest : List Logged) → IsToldSave S p ds s rest → SaveOk S p ds s
  told_save rest is = record {
    within = is.within;
    log_within = is.log_within;
    told = told;
    can_log = is.can_log;
    no_log = is.no_log;
    few = few;
  }
    where
      inside : r ≤ length ds
      inside = reach_within S p ds s is.within is.log_within

      told : span f s.position r ≡ s.log
      told = same_front r (length ds) s.position (span f s.position r) (span f r (length ds)) s.log rest
          (sym (span_split f s.position r (length ds) (omega arith) inside) ∙ is.told) (span_in ds s.position r) (span_in ds r (length ds)) (below_end r s.log (omega arith)) is.beyond

      few : (j : ℕ) → j < r → IsFew S p ds s.position j
      few j less q = ⊎_elim
          (λ (h : j ≤ s.position). let later = received_later S.guests p j s.position q ds h in let some = is.few q in omega arith)
          (λ (h : s.position < j).
          let now = received_span S.guests p s.position j q ds (omega arith) (omega (arith, inside)) in
          let front : receipts q (span f s.position (r - 1)) ≡ receipts q (span f s.position j) + receipts q (span f j (r - 1)) =
          ap (receipts q) (span_split f s.position j (r - 1) (omega arith) (omega arith)) ∙ receipts_append q (span f s.position j) (span f j (r - 1)) in
          let log_front : before (r - 1) s.log ≡ span f s.position (r - 1) = ap (before (r - 1)) (sym told) ∙ before_span ds s.position (r - 1) r (omega arith) (omega arith) in
          let same = ap (receipts q) log_front in
          let some = is.few q in
          omega arith)
          (cases_le j s.position)

  pub save_told : 0 < S.most → SaveOk S p ds s → (rest : List Logged) × IsToldSave S p ds s rest
  save_told some ok = (
    span f r (length ds),
    record {
      within = ok.within;
      log_within = ok.log_within;
      told = span_split f s.position r (length ds) (omega arith) inside ∙ ap (λ (xs : List Logged). xs ++ span f r (length ds)) ok.told;
      beyond = starts r (length ds) (span f r (length ds)) (span_in ds r (length ds));
      can_log = ok.can_log;
      no_log = ok.no_log;
      few = few;
    },
  )
    where
      inside : r ≤ length ds
      inside = reach_within S p ds s ok.within ok.log_within

      few : (q : ℕ) → receipts q (before (r - 1) s.log) < S.most
      few q = ⊎_elim
          (λ (h : r ≤ s.position).
          let none : s.log ≡ [] = sym ok.told ∙ span_none f s.position r h in
          let zero_ = ap (λ (xs : List Logged). receipts q (before (r - 1) xs)) none in
          omega arith)
          (λ (h : s.position < r).
          let now = received_span S.guests p s.position (r - 1) q ds (omega arith) (omega (arith, inside)) in
          let log_front : before (r - 1) s.log ≡ span f s.position (r - 1) = ap (before (r - 1)) (sym ok.told) ∙ before_span ds s.position (r - 1) r (omega arith) (omega arith) in
          let same = ap (receipts q) log_front in
          let less = ok.few (r - 1) (omega arith) q in
          omega arith)
          (cases_le r s.position)
