-- Receipts that a log hands over.
use Rattle.std.proofs.Common.{◌≡◌, ◌&&◌, ◌≤◌, ◌<◌, ◌+◌, ℕ, All, List, [], ◌∷◌, Bool, true, false, refl, arith, ⊎_elim, if◌then◌else◌, map, nat_lt}
use Rattle.std.proofs.lemmas.Bool.{cases_lt, le-ltb, lt-ltb, ne_eqb}
use Rattle.dc_limits.specs.declared.sizes.TheConstants.{KEPT_MESSAGES}
use Rattle.dc_kernel.specs.Records.{IsRecord}
use Rattle.dc_kernel.specs.declared.records.LogRecord.{LogRecord}
use Rattle.dc_kernel.specs.declared.reply.Reply.{Reply}
use Rattle.dc_kernel.specs.declared.reply.Reply.TheVariants as reply
use Rattle.dc_model.specs.Process.{took_from}
use Rattle.dc_proc.specs.Processes.{logged_of, replied}
use Rattle.dc_resume.proofs.Records.{head_all, tail_all}
use Rattle.dc_resume.specs.Deciding.{before, handed, hands, receipts}

abbrev count_if : Bool → ℕ
count_if b = if b then 1 else 0

-- what a reply hands over of q's messages
took : (q : ℕ) (r : Reply) → took_from (replied r) q ≡ count_if (hands q r)
took q reply.InputNone = refl
took q (reply.InputNext body) = refl
took q reply.InputEnd = refl
took q reply.ReceiveNone = refl
took q (reply.ReceiveFrom sender body) = refl

handed_is : (q end : ℕ) (log : List LogRecord) → handed q end log ≡ receipts q (before end (map logged_of log))
handed_is q end [] = refl
handed_is q end (x ∷ log) =
    let more = handed_is q end log in
    let t = took q x.told in ⊎_elim
    (λ (less : x.position < end). rw (lt-ltb x.position end less) (omega (arith, t, more)))
    (λ (past : end ≤ x.position). rw (le-ltb x.position end past) (omega (arith, more)))
    (cases_lt x.position end)

-- a process that is not there hands over nothing
none_past : (n q : ℕ) (x : LogRecord) → IsRecord n x → n ≤ q → hands q x.told ≡ false
none_past n q x is past = by x.told is
  where
    by : (r : Reply) → IsRecord n (record { position = x.position; told = r }) → hands q r ≡ false
    by (reply.ReceiveFrom sender body) less = ne_eqb sender q (omega (arith, less, past))
    by _ less = refl

handed_past : (n q end : ℕ) (log : List LogRecord) → All (IsRecord n) log → n ≤ q → handed q end log ≡ 0
handed_past n q end [] all past = refl
handed_past n q end (x ∷ log) all past = rw (none_past n q x (head_all (IsRecord n) x log all) past) (by (nat_lt x.position end) (handed_past n q end log (tail_all (IsRecord n) x log all) past))
  where
    by : (b : Bool) → handed q end log ≡ 0 → count_if (b && false) + handed q end log ≡ 0
    by true none = omega (arith, none)
    by false none = omega (arith, none)

pub few_each : (log : List LogRecord) (n end : ℕ) → All (IsRecord n) log → ((q : ℕ) → q < n → handed q end log < KEPT_MESSAGES) → (q : ℕ) → receipts q (before end (map logged_of log)) < KEPT_MESSAGES
few_each log n end all few q = let same = handed_is q end log in ⊎_elim
    (λ (less : q < n). let h = few q less in omega (arith, same, h))
    (λ (past : n ≤ q). let h = handed_past n q end log all past in omega (arith, same, h))
    (cases_lt q n)

pub many : (log : List LogRecord) (q end : ℕ) → KEPT_MESSAGES ≤ handed q end log → KEPT_MESSAGES ≤ receipts q (before end (map logged_of log))
many log q end most = let same = handed_is q end log in omega (arith, same, most)
