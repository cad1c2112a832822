-- Runs: what fits, what a cut leaves of them, and the turns at which they were drawn.
use Rattle.std.proofs.Common.{◌≡◌, ◌∙◌, ℕ, ◌<◌, ◌≤◌, suc, List, [], ◌∷◌, ◌++◌, length, refl, ap, subst, sym, arith, ⊎_elim, Bool, true, false, Some, length-append}
use Rattle.std.proofs.lemmas.Bool.{cases_eq, cases_lt, cases_Bool, true≢false, and_parts, or_cases, or_parts, or_left}
use Rattle.std.proofs.lemmas.List.{append-nil}
use Rattle.dc_model.proofs.Own.{oldest_all, own_no, own_yes}
use Rattle.dc_model.specs.Guests.{Answer, Event, Guests, is_clock, is_input, is_plain, is_random, is_receive, is_send, is_sure, is_visible}
use Rattle.dc_model.specs.Guests.Answer.{Clock, InputEnd, InputNext, InputNone, Plain, Random, ReceiveFrom, ReceiveNone}
use Rattle.dc_model.specs.Guests.Event.{AtClock, AtInput, AtInternal, AtRandom, AtReceive, AtSend, AtVisible}
use Rattle.dc_model.specs.Process.{Local, at_position, comes, fits, local, oldest, posted}
use Rattle.dc_model.specs.Runs.{Given, IsRun, own}
use Rattle.dc_model.specs.declared.entry.Entry.{Entry}
use Rattle.dc_recovery.proofs.Cuts.{IsBefore, cut_in, cut_out, cut_well, last_grows, last_here, oldest_in, oldest_out, received_before, received_sent, sent_before}
use Rattle.dc_recovery.proofs.Saves.{exposed}
use Rattle.dc_recovery.proofs.Spans.{at_before, at_last, oldest_twice}
use Rattle.dc_recovery.proofs.Sorts.{Sort}
use Rattle.dc_recovery.proofs.Sorts.Sort.{Asking, Chance, Sure}
use Rattle.dc_recovery.specs.Invariant.{DrawnBelow, can_log}
use Rattle.dc_recovery.specs.Saves.{IsCutWell, answer_at, cut, last_at}
use Rattle.dc_protocols.specs.Rules.{is_joint}
use Rattle.dc_recovery.specs.Systems.{IsSound, System, is_output}

-- sorts by what fits
asks_input : (n : Event) (a : Answer) → is_input n ≡ true → is_plain a ≡ false → can_log a ≡ true → Sort n a
asks_input AtInput a e plain can = Asking plain can refl refl refl
asks_input _ a e plain can = absurd (true≢false (sym e))

asks_receive : (n : Event) (a : Answer) → is_receive n ≡ true → is_plain a ≡ false → can_log a ≡ true → Sort n a
asks_receive AtReceive a e plain can = Asking plain can refl refl refl
asks_receive _ a e plain can = absurd (true≢false (sym e))

asks_clock : (n : Event) (v : ℕ) → is_clock n ≡ true → Sort n (Clock v)
asks_clock AtClock v e = Chance refl refl refl refl refl
asks_clock _ v e = absurd (true≢false (sym e))

asks_random : (n : Event) (v : ℕ) → is_random n ≡ true → Sort n (Random v)
asks_random AtRandom v e = Chance refl refl refl refl refl
asks_random _ v e = absurd (true≢false (sym e))

asks_none : (n : Event) → is_sure n ≡ true → Sort n Plain
asks_none AtInternal e = Sure refl refl refl
asks_none (AtVisible b) e = Sure refl refl refl
asks_none (AtSend to b) e = Sure refl refl refl
asks_none _ e = absurd (true≢false (sym e))

pub sort_of : {Mc : Type 0} (G : Guests Mc) (p : ℕ) (l : Local _) (a : Answer) → fits G p l a ≡ true → Sort (comes G l a) a
sort_of G p l Plain e = asks_none (G.next l.machine) e
sort_of G p l (Clock v) e = asks_clock (G.next l.machine) v e
sort_of G p l (Random v) e = asks_random (G.next l.machine) v e
sort_of G p l InputNone e = asks_input (G.next l.machine) InputNone e refl refl
sort_of G p l (InputNext bytes) e = asks_input (G.next l.machine) (InputNext bytes) (and_parts _ _ e).0 refl refl
sort_of G p l InputEnd e = asks_input (G.next l.machine) InputEnd (and_parts _ _ e).0 refl refl
sort_of G p l ReceiveNone e = asks_receive (G.next l.machine) ReceiveNone e refl refl
sort_of G p l (ReceiveFrom s m) e = asks_receive (G.next l.machine) (ReceiveFrom s m) e refl refl

-- an act of a run fits where it stands
pub run_fits : {Mc : Type 0} (G : Guests Mc) (ts : List Given) (p i : ℕ) (a : Answer) → IsRun G ts → i < length (own p ts) → answer_at i (own p ts) ≡ Some a → fits G p (at_position G p i (own p ts)) a ≡ true
run_fits G [] p i a run h e = absurd (omega arith)
run_fits G (t ∷ ts) p i a run h e = ⊎_elim
    (λ same. ⊎_elim
    (λ (k : i < length (own p ts)). rw (own_yes t ts p same, oldest_out t.answer (own p ts) i (omega arith)) (run_fits G ts p i a run.0 k (sym (at_before i t.answer (own p ts) k) ∙ rw (own_yes t ts p same) at e)))
    (λ (k : length (own p ts) ≤ i).
    let j : i < suc (length (own p ts)) = rw (own_yes t ts p same) at h in
    let there : length (own p ts) ≡ i = omega arith in
    let f : Some t.answer ≡ Some a = sym (at_last t.answer (own p ts)) ∙ ap (λ (x : ℕ). answer_at x (t.answer ∷ own p ts)) there ∙ rw (own_yes t ts p same) at e in
    let g : t.answer ≡ a = cc in
    rw (own_yes t ts p same, oldest_out t.answer (own p ts) i (omega arith), oldest_all i (own p ts) k, ← g)
    (subst (λ (x : ℕ). fits G x (local G x (own x ts)) t.answer ≡ true) same run.1.fitting))
    (cases_lt i (length (own p ts))))
    (λ ne. rw (own_no t ts p ne) (run_fits G ts p i a run.0 (rw (own_no t ts p ne) at h) (rw (own_no t ts p ne) at e)))
    (cases_eq t.p p)

-- a process that is cut keeps what it sent
pub posted_none : (n : Event) (q : ℕ) → is_send n ≡ false → posted n q ≡ []
posted_none (AtSend to message) q e = absurd (true≢false e)
posted_none _ q e = refl

pub sent_kept : {Mc : Type 0} (G : Guests Mc) (p r q : ℕ) (ds : List Answer) → last_at is_output G p ds ≤ r → (local G p (oldest r ds)).sent q ≡ (local G p ds).sent q
sent_kept G p r q [] h = refl
sent_kept G p r q (a ∷ ds) h = ⊎_elim
    (λ k. rw (oldest_in a ds r k) refl)
    (λ k. rw (oldest_out a ds r k) (sent_kept G p r q ds (let g = last_grows is_output G p a ds in omega arith)
    ∙ sym (append-nil ((local G p ds).sent q))
    ∙ ap (λ (xs : List (List ℕ)). (local G p ds).sent q ++ xs) (sym (posted_none (comes G (local G p ds) a) q (or_parts (is_visible (comes G (local G p ds) a)) _ (last_here is_output G p a ds (omega arith))).1))))
    (cases_lt (length ds) r)

pub last_none : (e : Event → Bool) {Mc : Type 0} (G : Guests Mc) (p : ℕ) (a : Answer) (ds : List Answer) → e (comes G (local G p ds) a) ≡ false → last_at e G p (a ∷ ds) ≡ last_at e G p ds
last_none e G p a ds off = rw off refl

pub last_some : (e : Event → Bool) {Mc : Type 0} (G : Guests Mc) (p : ℕ) (a : Answer) (ds : List Answer) → e (comes G (local G p ds) a) ≡ true → last_at e G p (a ∷ ds) ≡ suc (length ds)
last_some e G p a ds on = rw on refl

-- a test that passes more events passes a later one last
pub last_wider : {Mc : Type 0} (few many : Event → Bool) → ((e : Event) → few e ≡ true → many e ≡ true) → (G : Guests Mc) (p : ℕ) (ds : List Answer) → last_at few G p ds ≤ last_at many G p ds
last_wider few many wider G p [] = omega arith
last_wider few many wider G p (a ∷ ds) = ⊎_elim
    (λ on. let s = last_some few G p a ds on in let t = last_some many G p a ds (wider (comes G (local G p ds) a) on) in omega arith)
    (λ off. rw (last_none few G p a ds off) (let g = last_grows many G p a ds in let k = last_wider few many wider G p ds in omega arith))
    (cases_Bool (few (comes G (local G p ds) a)))

-- where each recovers by itself, all that others see is exposed
pub outputs_exposed : {Mc : Type 0} (S : System Mc) (sound : IsSound S) → is_joint S.protocol ≡ false → (e : Event) → is_output e ≡ true → S.exposes e ≡ true
outputs_exposed S sound alone e h = ⊎_elim (sound.visible e) (sound.sent alone e) (or_cases (is_visible e) (is_send e) h)

-- a longer part of a process's acts has sent no less
pub sent_longer : {Mc : Type 0} (G : Guests Mc) (p lo hi q : ℕ) (ds : List Answer) → lo ≤ hi → length ((at_position G p lo ds).sent q) ≤ length ((at_position G p hi ds).sent q)
sent_longer G p lo hi q ds h = let b : IsBefore ((at_position G p lo ds).sent q) ((at_position G p hi ds).sent q) = subst (λ (xs : List Answer). IsBefore ((local G p xs).sent q) ((at_position G p hi ds).sent q)) (oldest_twice lo hi ds h) (sent_before G p q lo (oldest hi ds)) in
    let e : length ((at_position G p lo ds).sent q ++ b.0) ≡ length ((at_position G p hi ds).sent q) = ap length b.1 in omega (arith, length-append ((at_position G p lo ds).sent q) b.0)

-- a cut of which all sends stay, and all that is visible
pub rise_alone : {Mc : Type 0} (G : Guests Mc) (r : ℕ → ℕ) (ts : List Given) → IsRun G ts → ((q : ℕ) → last_at is_output G q (own q ts) ≤ r q) → IsCutWell G r ts
rise_alone G r ts run exposed = cut_well G r ts run
    (λ q s. rw (sent_kept G s (r s) q (own s ts) (exposed s)) (let a = received_before G q s (r q) (own q ts) in let b = received_sent G ts run q s in omega arith))
    (λ q. let k = last_wider is_visible is_output (λ e h. or_left (is_visible e) (is_send e) h) G q (own q ts) in let e = exposed q in omega arith)

-- the turns of a cut rise still
pub drawn_later : (n : ℕ) (schedule : List Entry) (lo hi : ℕ) (ts : List Given) → lo ≤ hi → DrawnBelow n schedule lo ts → DrawnBelow n schedule hi ts
drawn_later n schedule lo hi [] h ok = tt
drawn_later n schedule lo hi (t ∷ ts) h ok = (let k = ok.0 in omega arith, ok.1, ok.2)

pub drawn_cut : (n : ℕ) (schedule : List Entry) (turn : ℕ) (r : ℕ → ℕ) (ts : List Given) → DrawnBelow n schedule turn ts → DrawnBelow n schedule turn (cut r ts)
drawn_cut n schedule turn r [] ok = tt
drawn_cut n schedule turn r (t ∷ ts) ok = ⊎_elim
    (λ h. rw (cut_in t ts r h) (ok.0, ok.1, drawn_cut n schedule t.t r ts ok.2))
    (λ h. rw (cut_out t ts r h) (drawn_later n schedule t.t turn (cut r ts) (let k = ok.0 in omega arith) (drawn_cut n schedule t.t r ts ok.2)))
    (cases_lt (length (own t.p ts)) (r t.p))
