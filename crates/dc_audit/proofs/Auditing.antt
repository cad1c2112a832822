-- One line of a journal's text more.
use Rattle.std.proofs.Common.{◌≡◌, ◌∙◌, ◌<◌, ◌≤◌, ◌+◌, ◌-◌, ◌^◌, ◌==◌, ℕ, suc, Bool, true, false, not, ◌&&◌, List, [], ◌∷◌, ◌++◌, length, arith, refl, sym, subst, ap, Option, Some, None, Result, Ok, Err, if◌then◌else◌, nat_lt}
use Rattle.std.proofs.lemmas.Bool.{and_parts, lt-ltb, le-ltb, ltb-true, eqb-true, true≢false}
use Rattle.dc_words.specs.Texts.{fields_of}
use Rattle.dc_audit.specs.declared.clock.Known.{Known}
use Rattle.dc_audit.specs.declared.failure.Failure.{Failure}
use Rattle.dc_audit.specs.declared.fault.AuditError.{AuditError}
use Rattle.dc_audit.specs.declared.fault.AuditError.TheVariants.{Refused}
use Rattle.dc_audit.specs.declared.fault.AuditFault.{AuditFault}
use Rattle.dc_audit.specs.declared.fault.AuditKind.{AuditKind}
use Rattle.dc_audit.specs.declared.fault.AuditKind.TheVariants.{TooMany, Form, Process, Number, Unsent}
use Rattle.dc_words.specs.Results.{◌>>=◌}
use Rattle.dc_audit.specs.declared.journal.Deed.{Deed}
use Rattle.dc_audit.specs.declared.journal.Deed.TheVariants.{Chance, Logged, Visible, Sends, Receives}
use Rattle.dc_audit.specs.declared.journal.Line.{Line}
use Rattle.dc_audit.specs.declared.journal.Line.TheVariants.{Does, Commits}
use Rattle.dc_audit.specs.declared.said.Said.{Said}
use Rattle.dc_audit.specs.declared.said.Said.TheVariants.{End, Says}
use Rattle.dc_audit.specs.declared.verdict.Verdict.{Verdict}
use Rattle.std.specs.Option.{IfSome}
use Rattle.dc_audit.specs.Journals.{Fails, IsOfSixteen, Judged, Matters, sends, takes}
use Rattle.dc_audit.proofs.Orders.{at_within, before_less}
use Rattle.dc_audit.specs.Clocks.{IsDue, IsTo, Way, sent_on, way}
use Rattle.dc_audit.specs.Keeping.{Keeps, count}
use Rattle.dc_audit.specs.Reading.{Agrees, Audits, SaysSixteen, Journal, Closes, Judges, ReadsLine, Tells, events_of, are_two, checked, cut_off, ends, fault_at, heading_by, is_event, journal_by, journal_of, journal_then, journal_with, line_by, line_then, lines_from, said_by}
use Rattle.dc_words.proofs.Splitting.{fields_some}
use Rattle.dc_audit.proofs.Counted.{count_more}
use Rattle.dc_audit.proofs.Fielding.{after_line, at_line, left_over}

-- what is kept tells the messages on their way
pub keeps_agrees : (causal : Bool) (done : List Line) (clocks : List (List Known)) (links : List Way) (last : List Known) (failure : Option Failure) → Keeps causal done clocks links last failure → Agrees links done
keeps_agrees causal done clocks links last failure k p q hp hq = (k.sent p q hp hq, k.taken p q hp hq)

-- a line that was let through can be stepped over
two_of : (n p q : ℕ) → n ≤ 16 → are_two n p q ≡ true → (p < 16) × (q < 16)
two_of n p q few e = let a : (nat_lt p n ≡ true) × ((nat_lt q n && not (q == p)) ≡ true) = and_parts (nat_lt p n) (nat_lt q n && not (q == p)) e in
    let b : (nat_lt q n ≡ true) × (not (q == p) ≡ true) = and_parts (nat_lt q n) (not (q == p)) a.1 in (omega (arith, few, ltb-true p n a.0), omega (arith, few, ltb-true q n b.0))

-- what is let through
abbrev CanStep : List Way → Line → Type 0
CanStep links line = IsOfSixteen line × IsTo line × IsDue links line

abbrev okay : Line → Result Said AuditKind
okay line = Ok (Says line)

same_line : (x y : Line) → okay x ≡ okay y → x ≡ y
same_line x y e = cc e

sound_sent : (n p q k : ℕ) (links : List Way) (done : List Line) (line : Line) (two numbered : Bool) → are_two n p q ≡ two → (k == count (sends p q) done) ≡ numbered → n ≤ 16 → Agrees links done
    → (if two then (if numbered then Ok (Says (Does p (Sends q k))) else Err Number) else Err Process) ≡ Ok (Says line) → CanStep links line
sound_sent n p q k links done line false numbered a b few agrees e = let bad : Err Process ≡ Ok (Says line) = e in absurd (cc bad)
sound_sent n p q k links done line true false a b few agrees e = let bad : Err Number ≡ Ok (Says line) = e in absurd (cc bad)
sound_sent n p q k links done line true true a b few agrees e = let two = two_of n p q few a in
    subst (CanStep links) (same_line (Does p (Sends q k)) line e) (two.0, two.1, (two.1, eqb-true k (count (sends p q) done) b ∙ sym (agrees p q two.0 two.1).0))

sound_received : (n p s k : ℕ) (logged : Bool) (links : List Way) (done : List Line) (line : Line) (two numbered : Bool) → are_two n p s ≡ two → (k == count (takes s p) done && nat_lt k (count (sends s p) done)) ≡ numbered → n ≤ 16 → Agrees links done
    → (if two then (if numbered then Ok (Says (Does p (Receives s k logged))) else Err Unsent) else Err Process) ≡ Ok (Says line) → CanStep links line
sound_received n p s k logged links done line false numbered a b few agrees e = let bad : Err Process ≡ Ok (Says line) = e in absurd (cc bad)
sound_received n p s k logged links done line true false a b few agrees e = let bad : Err Unsent ≡ Ok (Says line) = e in absurd (cc bad)
sound_received n p s k logged links done line true true a b few agrees e = let two = two_of n p s few a in
    let both = and_parts (k == count (takes s p) done) (nat_lt k (count (sends s p) done)) b in let is = eqb-true k (count (takes s p) done) both.0 in let less = ltb-true k (count (sends s p) done) both.1 in
    let counts = agrees s p two.1 two.0 in
    subst (CanStep links) (same_line (Does p (Receives s k logged)) line e) (two.0, tt, (two.1, is ∙ sym counts.1, (let sent = counts.0 in let taken = counts.1 in omega (arith, sent, taken, is, less))))

sound_told : (n p : ℕ) (deed : Deed) (links : List Way) (line : Line) (inside : Bool) → nat_lt p n ≡ inside → n ≤ 16 → (p < 16 → CanStep links (Does p deed))
    → (if inside then Ok (Says (Does p deed)) else Err Process) ≡ Ok (Says line) → CanStep links line
sound_told n p deed links line false a few can e = let bad : Err Process ≡ Ok (Says line) = e in absurd (cc bad)
sound_told n p deed links line true a few can e = subst (CanStep links) (same_line (Does p deed) line e) (can (omega (arith, few, ltb-true p n a)))

sound_said : (n : ℕ) (links : List Way) (done : List Line) (said : Said) (line : Line) → n ≤ 16 → Agrees links done → SaysSixteen (Says line) → checked n done said ≡ Ok (Says line) → CanStep links line
sound_said n links done End line few agrees long e = let bad : Ok End ≡ Ok (Says line) = e in absurd (cc bad)
sound_said n links done (Says (Does p (Sends q k))) line few agrees long e = sound_sent n p q k links done line (are_two n p q) (k == count (sends p q) done) refl refl few agrees e
sound_said n links done (Says (Does p (Receives s k logged))) line few agrees long e = sound_received n p s k logged links done line (are_two n p s) (k == count (takes s p) done && nat_lt k (count (sends s p) done)) refl refl few agrees e
sound_said n links done (Says (Does p Chance)) line few agrees long e = sound_told n p Chance links line (nat_lt p n) refl few (λ h. (h, tt, tt)) e
sound_said n links done (Says (Does p Logged)) line few agrees long e = sound_told n p Logged links line (nat_lt p n) refl few (λ h. (h, tt, tt)) e
sound_said n links done (Says (Does p Visible)) line few agrees long e = sound_told n p Visible links line (nat_lt p n) refl few (λ h. (h, tt, tt)) e
sound_said n links done (Says (Commits members)) line few agrees long e = let same : Commits members ≡ line = same_line (Commits members) line e in
    subst (CanStep links) same (subst (λ (l : Line). SaysSixteen (Says l)) (sym same) long, tt, tt)

sound_by : (n : ℕ) (links : List Way) (done : List Line) (r : Result Said AuditKind) (line : Line) → n ≤ 16 → Agrees links done → SaysSixteen (Says line) → Ok (Says line) ≡ (r >>= checked n done) → CanStep links line
sound_by n links done (Err kind) line few agrees long e = absurd (cc e)
sound_by n links done (Ok said) line few agrees long e = sound_said n links done said line few agrees long (sym e)

-- a line that was read can be stepped over
pub can_step : (n : ℕ) (links : List Way) (done : List Line) (text : List ℕ) (line : Line) → n ≤ 16 → Agrees links done → SaysSixteen (Says line) → ReadsLine n links text (Ok (Says line)) → IsOfSixteen line × IsTo line × IsDue links line
can_step n links done text line few agrees long reads = sound_by n links done (said_by n (fields_of 32 text)) line few agrees long (reads done agrees)

-- what a line of the text leads to
module _ (n : ℕ) (causal : Bool) (told : Result (List Line) AuditFault) (number : ℕ) (done : List Line) (rest line after : List ℕ) (reads : told ≡ lines_from n number done (fields_of 10 rest))
    (first : fields_of 10 rest ≡ line ∷ fields_of 10 after) (result : Result Verdict AuditError) where
  behind : told ≡ after_line n number done line (fields_of 10 after)
  behind = reads ∙ at_line n number done rest line after first

  refuses : (kind : AuditKind) → told ≡ Err (record { line = number; kind = kind }) → result ≡ Err (Refused (record { line = number; kind = kind })) → Audits result (journal_with n causal told)
  refuses kind e is = subst (λ (x : Result (List Line) AuditFault). Audits result (journal_with n causal x)) (sym e) (subst (λ (y : Result Verdict AuditError). Audits y (Err (record { line = number; kind = kind }))) (sym is) refl)

  pub exit_many : 4000000 < number → result ≡ Err (Refused (record { line = number; kind = TooMany })) → Audits result (journal_with n causal told)
  exit_many h is = refuses TooMany (behind ∙ rw (lt-ltb 4000000 number h) refl) is

  pub exit_bad : (kind : AuditKind) → number ≤ 4000000 → Err kind ≡ line_by n done line → result ≡ Err (Refused (record { line = number; kind = kind })) → Audits result (journal_with n causal told)
  exit_bad kind h e is = refuses kind (behind ∙ rw (le-ltb 4000000 number h) (ap (λ (r : Result Said AuditKind). line_then number r (λ l. lines_from n (suc number) (done ++ l ∷ []) (fields_of 10 after)) (ends (suc number) done (fields_of 10 after))) (sym e))) is

  pub exit_end : (next : ℕ) → suc number ≡ next → number ≤ 4000000 → Ok End ≡ line_by n done line → Audits result (journal_with n causal (ends next done (fields_of 10 after))) → Audits result (journal_with n causal told)
  exit_end next up h e ended_at = let ended : Audits result (journal_with n causal (ends (suc number) done (fields_of 10 after))) = subst (λ (i : ℕ). Audits result (journal_with n causal (ends i done (fields_of 10 after)))) (sym up) ended_at in
      subst (λ (x : Result (List Line) AuditFault). Audits result (journal_with n causal x))
      (sym (behind ∙ rw (le-ltb 4000000 number h) (ap (λ (r : Result Said AuditKind). line_then number r (λ l. lines_from n (suc number) (done ++ l ∷ []) (fields_of 10 after)) (ends (suc number) done (fields_of 10 after))) (sym e)))) ended

  pub goes_on : (next : ℕ) → suc number ≡ next → (l : Line) → number ≤ 4000000 → Ok (Says l) ≡ line_by n done line → told ≡ lines_from n next (done ++ l ∷ []) (fields_of 10 after)
  goes_on next up l h e = subst (λ (i : ℕ). told ≡ lines_from n i (done ++ l ∷ []) (fields_of 10 after)) up (at_next l h e)
    where
      at_next : (l : Line) → number ≤ 4000000 → Ok (Says l) ≡ line_by n done line → told ≡ lines_from n (suc number) (done ++ l ∷ []) (fields_of 10 after)
      at_next l h e = behind ∙ rw (le-ltb 4000000 number h) (ap (λ (r : Result Said AuditKind). line_then number r (λ x. lines_from n (suc number) (done ++ x ∷ []) (fields_of 10 after)) (ends (suc number) done (fields_of 10 after))) (sym e))

-- behind the last line feed
pub exit_cut : (n : ℕ) (causal : Bool) (told : Result (List Line) AuditFault) (number : ℕ) (done : List Line) (rest : List ℕ) (result : Result Verdict AuditError) → told ≡ lines_from n number done (fields_of 10 rest) → fields_of 10 rest ≡ rest ∷ []
    → Judges result (cut_off number rest) → Audits result (journal_with n causal told)
exit_cut n causal told number done rest result reads one judges = subst (λ (x : Result (List Line) AuditFault). Audits result (journal_with n causal x)) (sym (reads ∙ ap (λ (parts : List (List ℕ)). lines_from n number done parts) one)) (judges n causal)

-- one event more, or a commit
pub events_event : (done : List Line) (p : ℕ) (deed : Deed) → count is_event (done ++ Does p deed ∷ []) ≡ count is_event done + 1
events_event done p deed = let e = count_more is_event done (Does p deed) in omega (arith, e)

pub events_commit : (done : List Line) (members : List Bool) → count is_event (done ++ Commits members ∷ []) ≡ count is_event done
events_commit done members = count_more is_event done (Commits members)

-- what is known where a line was stepped over
pub few_links : (causal : Bool) (done : List Line) (clocks : List (List Known)) (links : List Way) (last : List Known) (failure : Option Failure) (m : ℕ) → length done ≡ m → m ≤ 4000000 → Keeps causal done clocks links last failure
    → (p q : ℕ) → sent_on (way links p q) < 2 ^ 32 - 1
few_links causal done clocks links last failure m e h k p q = let a = k.few p q in omega (arith, a, e, h)

-- the whole text
pub whole_text : (bytes first rest : List ℕ) (n : ℕ) (causal : Bool) (result : Result Verdict AuditError) → fields_of 10 bytes ≡ first ∷ fields_of 10 rest → Some (n, causal) ≡ heading_by (fields_of 32 first)
    → Audits result (journal_with n causal (lines_from n 2 [] (fields_of 10 rest))) → Audits result (journal_of bytes)
whole_text bytes first rest n causal result e h judged = subst (λ (x : Result Journal AuditFault). Audits result x) (sym (ap journal_by e ∙ by_parts first (fields_of 10 rest) (fields_some 10 rest)
    ∙ ap (λ (o : Option (ℕ × Bool)). journal_then o (fields_of 10 rest)) (sym h))) judged
  where
    by_parts : (first : List ℕ) (parts : List (List ℕ)) → 0 < length parts → journal_by (first ∷ parts) ≡ journal_then (heading_by (fields_of 32 first)) parts
    by_parts first [] some = absurd (omega arith)
    by_parts first (part ∷ parts) some = refl

pub no_heading : (bytes first rest : List ℕ) (result : Result Verdict AuditError) → fields_of 10 bytes ≡ first ∷ fields_of 10 rest → None ≡ heading_by (fields_of 32 first) → result ≡ Err (Refused (record { line = 1; kind = Form })) → Audits result (journal_of bytes)
no_heading bytes first rest result e h is = subst (λ (x : Result Journal AuditFault). Audits result x) (sym (ap journal_by e ∙ by_parts first (fields_of 10 rest) (fields_some 10 rest)
    ∙ ap (λ (o : Option (ℕ × Bool)). journal_then o (fields_of 10 rest)) (sym h))) (subst (λ (y : Result Verdict AuditError). Audits y (Err (record { line = 1; kind = Form }))) (sym is) refl)
  where
    by_parts : (first : List ℕ) (parts : List (List ℕ)) → 0 < length parts → journal_by (first ∷ parts) ≡ journal_then (heading_by (fields_of 32 first)) parts
    by_parts first [] some = absurd (omega arith)
    by_parts first (part ∷ parts) some = refl

pub cut_text : (bytes : List ℕ) (result : Result Verdict AuditError) → fields_of 10 bytes ≡ bytes ∷ [] → Judges result (cut_off 1 bytes) → Audits result (journal_of bytes)
cut_text bytes result e judges = subst (λ (x : Result Journal AuditFault). Audits result x) (sym (ap journal_by e)) (judges 1 false)

-- the end of a text
pub ends_well : (number : ℕ) (after : List ℕ) (n : ℕ) (causal : Bool) (done : List Line) (result : Result Verdict AuditError) → length after ≡ 0 → Audits result (journal_with n causal (Ok done)) → Audits result (journal_with n causal (ends number done (fields_of 10 after)))
ends_well number [] n causal done result e a = a
ends_well number (x ∷ after) n causal done result e a = absurd (omega arith)

pub ends_late : (number : ℕ) (after : List ℕ) (n : ℕ) (causal : Bool) (done : List Line) (result : Result Verdict AuditError) → 0 < length after → Judges result (fault_at number Form) → Audits result (journal_with n causal (ends number done (fields_of 10 after)))
ends_late number after n causal done result h judges = subst (λ (x : Result (List Line) AuditFault). Audits result (journal_with n causal x)) (sym (left_over number done after h)) (judges n causal)

-- where it fails is within the journal
pub failure_within : (causal : Bool) (done : List Line) (failure : Option Failure) (m : ℕ) → length done ≡ m → m ≤ 4000000 → Judged causal done failure → IfSome failure (λ f. (f.event < 4000000) × (f.line < 4000000))
failure_within causal done None m e h j = tt
failure_within causal done (Some f) m e h j = let there : Fails causal done f.event f.line = j.0 in let matter : Matters causal done there.0 f.event f.line = there.1 in
    let a : f.line < length done = at_within done f.line matter.line matter.at in let b : f.event < f.line = before_less causal done f.event f.line matter.before in (omega arith, omega arith)

pub late_cut : (line : ℕ) (rest : List ℕ) (result : Result Verdict AuditError) → (length rest == 0) ≡ false → Judges result (fault_at line Form) → Judges result (cut_off line rest)
late_cut line [] result e judges = absurd (true≢false e)
late_cut line (x ∷ rest) result e judges = judges

pub late_end : (number : ℕ) (after : List ℕ) (failure : Option Failure) (events : ℕ) (result : Result Verdict AuditError) → (length after == 0) ≡ false → Judges result (fault_at number Form) → Closes number after failure events result
late_end number [] failure events result e judges = absurd (true≢false e)
late_end number (x ∷ after) failure events result e judges = λ n causal done judged count_is. ends_late number (x ∷ after) n causal done result (omega arith) judges

pub good_end : (number : ℕ) (after : List ℕ) (failure : Option Failure) (events : ℕ) (verdict : Verdict) → (length after == 0) ≡ true → Tells failure events verdict → Closes number after failure events (Ok verdict)
good_end number [] failure events verdict e tells = λ n causal done judged count_is. tells n causal done judged count_is
good_end number (x ∷ after) failure events verdict e tells = let bad : length (x ∷ after) ≡ 0 = eqb-true (length (x ∷ after)) 0 e in absurd (omega (arith, bad))

-- a line more, of all that the loop keeps
pub events_more : (done : List Line) (line : Line) (events : ℕ) → events ≡ count is_event done → events + events_of line ≡ count is_event (done ++ line ∷ [])
events_more done (Does p deed) events e = let k = events_event done p deed in omega (arith, k, e)
events_more done (Commits members) events e = let k = events_commit done members in omega (arith, k, e)

pub events_few : (line : Line) → events_of line ≤ 1
events_few (Does p deed) = omega arith
events_few (Commits members) = omega arith
