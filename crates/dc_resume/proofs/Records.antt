-- When log records tell what acts did.
use Rattle.std.proofs.Common.{◌≡◌, ◌==◌, ℕ, suc, All, List, [], ◌∷◌, ◌++◌, true, refl, ap, subst, sym, arith, bytes_eq, map}
use Rattle.std.proofs.lemmas.Bool.{and_from, and_parts, eq-eqb, eqb-true, le-leb, leb-true}
use Rattle.std.proofs.lemmas.Slice.Eq.{bytes_eq-Decides}
use Rattle.dc_guest.specs.Answers.{answer_of}
use Rattle.dc_kernel.specs.declared.records.LogRecord.{LogRecord}
use Rattle.dc_kernel.specs.declared.reply.Reply.{Reply}
use Rattle.dc_kernel.specs.declared.reply.Reply.TheVariants as reply
use Rattle.dc_model.specs.Guests.{Answer}
use Rattle.dc_model.specs.Guests.Answer.{InputEnd, InputNext, InputNone, ReceiveFrom, ReceiveNone}
use Rattle.dc_proc.specs.Processes.{logged_of, replied}
use Rattle.dc_recovery.specs.Saves.{Logged}
use Rattle.dc_resume.specs.Deciding.{BeginsSo, StartsFrom, begins, replies, starts_from, tells, told_of}
use Rattle.dc_resume.specs.declared.told.Told.{Told}

-- a reply that tells what an answer does is that answer
is_replied : (r : Reply) (a : Answer) → replies r a ≡ true → replied r ≡ a
is_replied reply.InputNone InputNone is = refl
is_replied (reply.InputNext body) (InputNext bytes) is = ap InputNext ((bytes_eq-Decides body bytes).0 is)
is_replied reply.InputEnd InputEnd is = refl
is_replied reply.ReceiveNone ReceiveNone is = refl
is_replied (reply.ReceiveFrom sender body) (ReceiveFrom s message) is =
    let both = and_parts (sender == s) (bytes_eq body message) is in
    let same = eqb-true sender s both.0 in
    let bytes = (bytes_eq-Decides body message).0 both.1 in
    λ i. ReceiveFrom (same i) (bytes i)
is_replied _ _ is = absurd (let off : ⊥ = cc in off)

-- and a reply tells what its own answer does
replies_own : (r : Reply) → replies r (replied r) ≡ true
replies_own reply.InputNone = refl
replies_own (reply.InputNext body) = (bytes_eq-Decides body body).1 refl
replies_own reply.InputEnd = refl
replies_own reply.ReceiveNone = refl
replies_own (reply.ReceiveFrom sender body) = and_from (sender == sender) (bytes_eq body body) (eq-eqb sender sender refl) ((bytes_eq-Decides body body).1 refl)

-- so it is with records
tells_same : (x : LogRecord) (t : Told) → tells x t ≡ true → told_of t ≡ logged_of x
tells_same x t is =
    let both = and_parts (x.position == t.position) (replies x.told (answer_of t.answer)) is in
    let at = eqb-true x.position t.position both.0 in
    let told = is_replied x.told (answer_of t.answer) both.1 in
    λ i. record { position = sym at i; answer = sym told i }

same_tells : (x : LogRecord) (t : Told) → told_of t ≡ logged_of x → tells x t ≡ true
same_tells x t is = and_from (x.position == t.position) (replies x.told (answer_of t.answer))
    (eq-eqb x.position t.position (ap (λ (l : Logged). l.position) (sym is)))
    (subst (λ (a : Answer). replies x.told a ≡ true) (ap (λ (l : Logged). l.answer) (sym is)) (replies_own x.told))

-- what holds of each
pub head_all : (P : LogRecord → Type 0) (x : LogRecord) (xs : List LogRecord) → All P (x ∷ xs) → P x
head_all P x xs all = all 0 x (omega arith)

pub tail_all : (P : LogRecord → Type 0) (x : LogRecord) (xs : List LogRecord) → All P (x ∷ xs) → All P xs
tail_all P x xs all k d less = all (suc k) d (omega arith)

-- lists of them
starts_so : (r : ℕ) (told : List Told) → starts_from r told ≡ true → StartsFrom r (map told_of told)
starts_so r [] is = tt
starts_so r (t ∷ told) is = leb-true r t.position is

so_starts : (r : ℕ) (told : List Told) → StartsFrom r (map told_of told) → starts_from r told ≡ true
so_starts r [] is = refl
so_starts r (t ∷ told) is = le-leb r t.position is

pub begins_so : (told : List Told) (log : List LogRecord) (r : ℕ) → begins told log r ≡ true → (rest : List Logged) × BeginsSo (map told_of told) log r rest
begins_so told [] r is = (map told_of told, record { told_is = refl; beyond = starts_so r told is })
begins_so [] (x ∷ log) r is = absurd (let off : ⊥ = cc in off)
begins_so (t ∷ told) (x ∷ log) r is =
    let both = and_parts (tells x t) (begins told log r) is in
    let here = tells_same x t both.0 in
    let more = begins_so told log r both.1 in
    (more.0, record { told_is = λ i. here i ∷ more.1.told_is i; beyond = more.1.beyond })

pub so_begins : (told : List Told) (log : List LogRecord) (r : ℕ) (rest : List Logged) → BeginsSo (map told_of told) log r rest → begins told log r ≡ true
so_begins told [] r rest is = so_starts r told (subst (StartsFrom r) (sym is.told_is) is.beyond)
so_begins [] (x ∷ log) r rest is = absurd (let e = is.told_is in let off : ⊥ = cc in off)
so_begins (t ∷ told) (x ∷ log) r rest is =
    let e = is.told_is in
    let here : told_of t ≡ logged_of x = cc in
    let left : map told_of told ≡ map logged_of log ++ rest = cc in
    and_from (tells x t) (begins told log r) (same_tells x t here) (so_begins told log r rest (record { told_is = left; beyond = is.beyond }))
