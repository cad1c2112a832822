-- What senders keep.
use Rattle.std.proofs.Common.{◌≡◌, ◌≢◌, ◌∙◌, ℕ, ◌+◌, ◌<◌, ◌≤◌, List, length, refl, ap, sym, arith, inl, inr, Bool, true, false, slice_get, drop}
use Rattle.std.proofs.lemmas.Bool.{cond_both}
use Rattle.std.proofs.Common.{◌-◌}
use Rattle.dc_model.specs.Guests.{Answer, Event}
use Rattle.dc_model.specs.Guests.Event.{AtEnd}
use Rattle.dc_model.specs.Process.{at_position, comes}
use Rattle.dc_model.specs.Runs.{own}
use Rattle.dc_model.specs.declared.entry.Entry.{Entry}
use Rattle.dc_model.specs.declared.entry.Entry.TheVariants.{Power, Stop, Turn}
use Rattle.dc_model.specs.declared.mark.Mark.{Mark}
use Rattle.dc_recovery.proofs.Cuts.{before_read, received_sent, sent_before}
use Rattle.dc_recovery.proofs.Given.{answer_told}
use Rattle.dc_recovery.proofs.Holding.{newer_front, rise_learned}
use Rattle.dc_recovery.proofs.Linked.{front_up, learned_later}
use Rattle.dc_recovery.proofs.Runs.{sent_longer}
use Rattle.dc_recovery.proofs.Spans.{received_later}
use Rattle.dc_recovery.specs.Answers.{answer, is_blocked}
use Rattle.dc_recovery.specs.Core.{Core, Status, Which, learned, save_of, stands, untied}
use Rattle.dc_recovery.specs.Core.Which.{Newer, Older}
use Rattle.dc_recovery.specs.Invariant.{Holds, front}
use Rattle.dc_recovery.specs.Kept.{Keeps}
use Rattle.dc_recovery.specs.Parts.{each, fallen, is_with}
use Rattle.dc_recovery.specs.Systems.{IsSound, System}
use Rattle.dc_recovery.specs.Turned.{Runs, RunsOr, TakesOr, Turned}
use Rattle.std.proofs.lemmas.List.{length-drop}
use Rattle.dc_recovery.proofs.Follows.{get_drop}

-- a message that is kept stands as many slots earlier as were trimmed
get_kept : {X : Type 0} (xs : List X) (n i : ℕ) → n ≤ i → slice_get (drop n xs) (i - n) ≡ slice_get xs i
get_kept xs n i h = get_drop xs n (i - n) ∙ (let e : n + (i - n) ≡ i = omega arith in ap (slice_get xs) e)

-- no more are kept than are not known to be committed
drop_few : {X : Type 0} (n most : ℕ) (xs : List X) → length xs ≤ n + most → length (drop n xs) ≤ most
drop_few n most xs h = omega (arith, h, length-drop n xs)

-- no message is lost
pub keeps : {Mc : Type 0} (S : System Mc) (sound : IsSound S) (schedule : List Entry) (t : ℕ) (c : Core) → Holds S schedule t c → (p q : ℕ) → Keeps S c p q
keeps S sound schedule t c now p q = record {
  few = λ up. drop_few (learned S.guests c q p) S.most ((stands S.guests c p).sent q) (let k = now.links p q in rw (front_up (c.procs p) up) at k);
  few_saved = λ k. drop_few (learned S.guests c q p) S.most _ (let a = now.links p q in
      let b = sent_longer S.guests p (save_of k (c.procs p)).position (front (c.procs p)) q (own p c.acts) (save_front k) in omega arith);
  holds = λ i h l. get_kept ((stands S.guests c p).sent q) (learned S.guests c q p) i h ∙ before_read _ _ i (sent_before S.guests p q (c.procs p).position (own p c.acts)) l;
  holds_saved = λ k i h l. get_kept _ (learned S.guests c q p) i h ∙ before_read _ _ i (sent_before S.guests p q (save_of k (c.procs p)).position (own p c.acts)) l;
  next = λ up. received_later S.guests q (c.procs q).older.position (c.procs q).position p (own q c.acts) ((now.behind q).running up).ok.from;
  sent = received_sent S.guests c.acts now.run q p;
}
  where
    save_front : (k : Which) → (save_of k (c.procs p)).position ≤ front (c.procs p)
    save_front Newer = newer_front S sound schedule t c now p
    save_front Older = let a = newer_front S sound schedule t c now p in let b = (now.behind p).order in omega arith

-- learned only grows, entry by entry
module _ {Mc : Type 0} (S : System Mc) (sound : IsSound S) (schedule : List Entry) (t : ℕ) (c : Core) (now : Holds S schedule t c) where
  abbrev Grows : Core → Type 0
  Grows d = (q s : ℕ) → learned S.guests c q s ≤ learned S.guests d q s

  grows_same : (d : Core) → d ≡ c → Grows d
  grows_same d e q s = rw e (omega arith)

  grows_falls : (test : ℕ → Bool) → Grows (record { acts = c.acts; lines = c.lines; procs = each test fallen c.procs; ties = untied })
  grows_falls test q s = cond_both (test q) (fallen (c.procs q)) (c.procs q) (λ (st : Status). learned S.guests c q s ≤ (at_position S.guests q st.older.position (own q c.acts)).received s) (λ _. omega arith) (λ _. omega arith)

  module _ (p word clock : ℕ) (inside : p < S.guests.count) (m : Mark) (d : Core) where
    abbrev a : Answer
    a = answer S.guests c p word clock

    grows_block : (up : (c.procs p).up ≡ true) → (e : Event) → comes S.guests (stands S.guests c p) (answer S.guests c p word clock) ≢ AtEnd → (b : Bool) → TakesOr b S c (record { t = t; p = p; answer = a }) e m d → Grows d
    grows_block up e live true turned q s = grows_same d turned.1 q s
    grows_block up e live false (w, may, mk, is) q s = rw is (learned_later S sound schedule t c now p a (answer_told S.guests c p word clock ((now.behind p).running up).ok.within live) up inside w q s)

    grows_event : (up : (c.procs p).up ≡ true) → (e : Event) → comes S.guests (stands S.guests c p) a ≡ e → Runs S c (record { t = t; p = p; answer = a }) e m d → Grows d
    grows_event up AtEnd at turned = grows_same d turned.1
    grows_event up e at turned = grows_block up e (λ ended. let never : e ≡ AtEnd = sym at ∙ ended in let off : ⊥ = cc in off) (is_blocked S c p e) turned

    grows_up : (b : Bool) → (c.procs p).up ≡ b → RunsOr b S c (record { t = t; p = p; answer = a }) m d → Grows d
    grows_up true up turned q s = grows_event up (comes S.guests (stands S.guests c p) a) refl turned q s
    grows_up false down (inl (k, mk, is)) q s = rw is (rise_learned S sound schedule t c now p down k q s)
    grows_up false down (inr (mk, same)) q s = grows_same d same q s

  pub grows_next : (entry : Entry) (m : Mark) (d : Core) → Turned S t c entry m d → Grows d
  grows_next (Turn turn) m d turned q s = grows_up turn.p turn.word turn.clock turned.0 m d (c.procs turn.p).up refl turned.1 q s
  grows_next (Stop p) m d turned q s = rw turned.1 (grows_falls (is_with S.protocol p) q s)
  grows_next Power m d turned q s = rw turned.1 (grows_falls (λ r. true) q s)
