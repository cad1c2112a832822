-- The test of a save says what it is.
use Rattle.std.proofs.Common.{◌≡◌, ◌∙◌, ◌-◌, ◌≤◌, ◌<◌, ℕ, zero, suc, List, [], ◌∷◌, ◌++◌, true, false, append_assoc, drop, ap, sym, subst, arith, length, map, max, refl, take}
use Rattle.std.proofs.lemmas.List.{append-nil, length-map, take-append-drop}
use Rattle.dc_limits.specs.declared.bounds.TheConstants.{LOGGED_EVENTS}
use Rattle.dc_limits.specs.declared.sizes.TheConstants.{KEPT_MESSAGES}
use Rattle.dc_kernel.specs.declared.records.LogRecord.{LogRecord}
use Rattle.dc_kernel.specs.declared.reply.Reply.{Reply}
use Rattle.dc_kernel.specs.declared.reply.Reply.TheVariants as reply
use Rattle.dc_model.specs.Guests.{Answer}
use Rattle.dc_proc.specs.Processes.{logged_of, replied}
use Rattle.dc_protocols.specs.Rules.{has_log}
use Rattle.dc_recovery.specs.Invariant.{AllCanLog, can_log}
use Rattle.dc_recovery.specs.Saves.{Logged, Save, log_end, logged_at, reach, span}
use Rattle.dc_recovery.specs.Systems.{System}
use Rattle.dc_resume.proofs.Deciding.{save_told, told_save}
use Rattle.dc_resume.specs.Deciding.{BeginsSo, IsSaveOf, IsToldSave, IsWalked, StartsFrom, before, receipts, told_of}
use Rattle.dc_resume.specs.declared.told.Told.{Told}

-- what records tell can be logged
one_can : (r : Reply) → can_log (replied r) ≡ true
one_can reply.InputNone = refl
one_can (reply.InputNext body) = refl
one_can reply.InputEnd = refl
one_can reply.ReceiveNone = refl
one_can (reply.ReceiveFrom sender body) = refl

all_can : (log : List LogRecord) → AllCanLog (map logged_of log)
all_can [] = tt
all_can (x ∷ log) = (one_can x.told, all_can log)

-- the first things told decide, one more than the log has records
take_front : (k : ℕ) (front rest : List Logged) → length front ≤ k → take (suc k) (front ++ rest) ≡ front ++ take (suc k - length front) rest
take_front k [] rest few = let e : suc k ≡ suc k - 0 = omega arith in ap (λ (n : ℕ). take n rest) e
take_front zero (x ∷ front) rest few = absurd (let off : ⊥ = omega arith in off)
take_front (suc k) (x ∷ front) rest few = ap (λ (xs : List Logged). x ∷ xs) (take_front k front rest (omega arith) ∙ (let e : suc k - length front ≡ suc (suc k) - suc (length front) = omega arith in ap (λ (n : ℕ). front ++ take n rest) e))

starts_front : (r k : ℕ) (rest : List Logged) → StartsFrom r rest → StartsFrom r (take k rest)
starts_front r zero rest is = tt
starts_front r (suc k) [] is = tt
starts_front r (suc k) (x ∷ rest) is = is

-- a list that is shorter than what is taken of it ends there
short_drop : (k : ℕ) (xs : List Logged) → length (take k xs) < k → drop k xs ≡ []
short_drop zero xs less = absurd (let off : ⊥ = omega arith in off)
short_drop (suc k) [] less = refl
short_drop (suc k) (x ∷ xs) less = short_drop k xs (omega (arith, less))

-- what begins so in front begins so whole
whole_so : (k : ℕ) (all : List Logged) (log : List LogRecord) (r : ℕ) (rest : List Logged) → length log ≤ k → BeginsSo (take (suc k) all) log r rest → (more : List Logged) × BeginsSo all log r more
whole_so k all log r rest short is = (
  rest ++ drop (suc k) all,
  record {
    told_is = sym (take-append-drop (suc k) all) ∙ ap (λ (xs : List Logged). xs ++ drop (suc k) all) is.told_is ∙ append_assoc (map logged_of log) rest (drop (suc k) all);
    beyond = by_rest rest is;
  },
)
  where
    by_rest : (xs : List Logged) → BeginsSo (take (suc k) all) log r xs → StartsFrom r (xs ++ drop (suc k) all)
    by_rest (x ∷ xs) so = so.beyond
    by_rest [] so = subst (StartsFrom r) (sym none) tt
      where
        long : length (take (suc k) all) ≡ length log
        long = ap length so.told_is ∙ ap length (append-nil (map logged_of log)) ∙ length-map log logged_of

        none : drop (suc k) all ≡ []
        none = short_drop (suc k) all (omega (arith, long, short))

-- and what begins so whole begins so in front
front_so_of : (k : ℕ) (all : List Logged) (log : List LogRecord) (r : ℕ) (rest : List Logged) → length log ≤ k → BeginsSo all log r rest → BeginsSo (take (suc k) all) log r (take (suc k - length log) rest)
front_so_of k all log r rest short is = record {
  told_is = ap (take (suc k)) is.told_is ∙ take_front k (map logged_of log) rest (omega (arith, long, short)) ∙ ap (λ (n : ℕ). map logged_of log ++ take (suc k - n) rest) long;
  beyond = starts_front r (suc k - length log) rest is.beyond;
}
  where
    long : length (map logged_of log) ≡ length log
    long = length-map log logged_of

module _ {Mc : Type 0} (S : System Mc) (p : ℕ) (answers : List Answer) (position count exposed : ℕ) (told : List Told) (log : List LogRecord) (walked : IsWalked S p answers position count exposed told) where
  abbrev r : ℕ
  r = max (log_end (map logged_of log)) (max position exposed)

  -- all that was told from the save on
  abbrev all : List Logged
  all = span (logged_at answers) position (length answers)

  abbrev save_at : ℕ → Save
  save_at number = record { position = position; log = map logged_of log; number = number }

  reach_is : (number : ℕ) → reach S p answers (save_at number) ≡ r
  reach_is number = let e = walked.exposed_is in omega (arith, e)

  by_all : position ≤ count → log_end (map logged_of log) ≤ count → (rest : List Logged) → BeginsSo all log r rest → ((q : ℕ) → receipts q (before (r - 1) (map logged_of log)) < KEPT_MESSAGES)
      → (has_log S.protocol ≡ false → log ≡ []) → IsSaveOf S p answers position log
  by_all within log_within rest begins few no_log number = told_save S p answers (save_at number) rest (record {
    within = let c = walked.count_is in omega (arith, c, within);
    log_within = let c = walked.count_is in omega (arith, c, log_within);
    told = begins.told_is;
    beyond = subst (λ (n : ℕ). StartsFrom n rest) (sym (reach_is number)) begins.beyond;
    can_log = all_can log;
    no_log = λ off. ap (map logged_of) (no_log off);
    few = λ q. let h = few q in let e = ap (λ (n : ℕ). receipts q (before (n - 1) (map logged_of log))) (reach_is number) in let m = walked.most_is in omega (arith, h, e, m);
  })

  pub tested : length log ≤ LOGGED_EVENTS → position ≤ count → log_end (map logged_of log) ≤ count → (rest : List Logged) → BeginsSo (map told_of told) log r rest → ((q : ℕ) → receipts q (before (r - 1) (map logged_of log)) < KEPT_MESSAGES)
      → (has_log S.protocol ≡ false → log ≡ []) → IsSaveOf S p answers position log
  tested short within log_within rest front few no_log =
      let so = whole_so LOGGED_EVENTS all log r rest short (subst (λ (xs : List Logged). BeginsSo xs log r rest) walked.told_is front) in
      by_all within log_within so.0 so.1 few no_log

  module _ (save : IsSaveOf S p answers position log) where
    is : (rest : List Logged) × IsToldSave S p answers (save_at 0) rest
    is = save_told S p answers (save_at 0) (let m = walked.most_is in omega (arith, m)) (save 0)

    pub within : position ≤ count
    within = let c = walked.count_is in let w = (save 0).within in omega (arith, c, w)

    pub log_within : log_end (map logged_of log) ≤ count
    log_within = let c = walked.count_is in let w = (save 0).log_within in omega (arith, c, w)

    all_so : BeginsSo all log r is.0
    all_so = record { told_is = is.1.told; beyond = subst (λ (n : ℕ). StartsFrom n is.0) (reach_is 0) is.1.beyond }

    pub front_so : length log ≤ LOGGED_EVENTS → (rest : List Logged) × BeginsSo (map told_of told) log r rest
    front_so short = (
      take (suc LOGGED_EVENTS - length log) is.0,
      subst (λ (xs : List Logged). BeginsSo xs log r (take (suc LOGGED_EVENTS - length log) is.0)) (sym walked.told_is) (front_so_of LOGGED_EVENTS all log r is.0 short all_so),
    )

    pub few : (q : ℕ) → receipts q (before (r - 1) (map logged_of log)) < KEPT_MESSAGES
    few q = let h = is.1.few q in let e = ap (λ (n : ℕ). receipts q (before (n - 1) (map logged_of log))) (reach_is 0) in let m = walked.most_is in omega (arith, h, e, m)
