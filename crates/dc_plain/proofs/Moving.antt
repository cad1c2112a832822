-- How a process of the code moves.
use Rattle.std.proofs.Common.{◌≡◌, ◌≢◌, ◌∙◌, ◌+◌, ℕ, List, [], ◌∷◌, ◌++◌, Some, Vec, drop, length, slice_get, slice_index, slice_set, ap, arith, refl, sym, subst, ⊎_elim}
use Rattle.std.proofs.lemmas.Bool.{cases_eq, eq-eqb, ne_eqb}
use Rattle.std.proofs.lemmas.List.{append-nil, take_at}
use Rattle.std.proofs.lemmas.Option.{slice_get_within}
use Rattle.std.specs.Vec.{with_items}
use Rattle.std.specs.declared.alloc.Global.{Global}
use Rattle.dc_elf.specs.Images.{Image}
use Rattle.dc_guest.specs.Answers.{effect_of}
use Rattle.dc_model.specs.declared.visible.Body.{Body}
use Rattle.dc_guest.specs.declared.effect.Effect.TheVariants.{Nothing, Shows, Sends}
use Rattle.dc_guest.specs.Guest.{Guest, after_answer, coming, guests_of}
use Rattle.dc_words.specs.Lists.{items_of}
use Rattle.dc_plain.proofs.Lists.{get_set_same, get_set_other}
use Rattle.dc_model.specs.Guests.{Answer, Event}
use Rattle.dc_model.specs.Process.{Local, moved, posted, shows, took_from, took_input}
use Rattle.dc_model.specs.Guests.Event.{AtEnd, AtInternal, AtClock, AtRandom, AtInput, AtReceive, AtVisible, AtSend}

-- counts that were written back into their vector
pub counted : (received : Vec ℕ Global) (lent new : List ℕ) (a : Answer) → lent ≡ received.items → length new ≡ length lent
    → ((s : ℕ) → slice_index new s ≡ slice_index lent s + took_from a s)
    → (s : ℕ) → slice_index (with_items received new).items s ≡ slice_index received.items s + took_from a s
counted received lent new a lent_is long more s = ap (λ xs. slice_index xs s) (take_at new (drop (length new) received.items) received.len (long ∙ ap length lent_is ∙ sym received.ok.0))
    ∙ more s ∙ ap (λ xs. slice_index xs s + took_from a s) lent_is

-- what an event does of which nothing is visibles
pub unseen : (e : Event) → effect_of e ≡ Nothing → (shows e ≡ 0) × ((q : ℕ) → posted e q ≡ [])
unseen AtEnd is = (refl, λ q. refl)
unseen AtInternal is = (refl, λ q. refl)
unseen AtClock is = (refl, λ q. refl)
unseen AtRandom is = (refl, λ q. refl)
unseen AtInput is = (refl, λ q. refl)
unseen AtReceive is = (refl, λ q. refl)
unseen (AtVisible body) is = absurd cc
unseen (AtSend to message) is = absurd cc

-- of which a record is visibles
pub showing : (e : Event) (body : Body) → effect_of e ≡ Shows body → (shows e ≡ 1) × ((q : ℕ) → posted e q ≡ [])
showing AtEnd shown is = absurd cc
showing AtInternal shown is = absurd cc
showing AtClock shown is = absurd cc
showing AtRandom shown is = absurd cc
showing AtInput shown is = absurd cc
showing AtReceive shown is = absurd cc
showing (AtVisible body) shown is = (refl, λ q. refl)
showing (AtSend to message) shown is = absurd cc

-- and of which a message is
pub sending : (e : Event) (to : ℕ) (message : List ℕ) → effect_of e ≡ Sends to message → e ≡ AtSend to message
sending AtEnd to message is = absurd cc
sending AtInternal to message is = absurd cc
sending AtClock to message is = absurd cc
sending AtRandom to message is = absurd cc
sending AtInput to message is = absurd cc
sending AtReceive to message is = absurd cc
sending (AtVisible body) to message is = absurd cc
sending (AtSend q sent) to message is = let same : q ≡ to = cc in let bytes : sent ≡ message = cc in λ i. AtSend (same i) (bytes i)

-- a message more to one receiver
module _ (sent : List (Vec (List ℕ) Global)) (to : ℕ) (old new : Vec (List ℕ) Global) (message : List ℕ)
    (there : slice_get sent to ≡ Some old) (pushed : new.items ≡ old.items ++ message ∷ []) where
  pub one_more : (q : ℕ) → items_of (slice_get (slice_set sent to new) q) ≡ items_of (slice_get sent q) ++ posted (AtSend to message) q
  one_more q = ⊎_elim
      (λ (e : to ≡ q). subst (λ r. items_of (slice_get (slice_set sent to new) r) ≡ items_of (slice_get sent r) ++ posted (AtSend to message) r) e
      (rw (get_set_same sent to new (slice_get_within sent to old there), there, eq-eqb to to refl) pushed))
      (λ (ne : to ≢ q). rw (get_set_other sent to q new ne, ne_eqb to q ne) (sym (append-nil (items_of (slice_get sent q)))))
      (cases_eq to q)

-- a process whose guest and counts moved has moved, by what is visibles of the event
module _ (images : List Image) (inputs : List (List (List ℕ))) (l : Local Guest) (a : Answer) (guest : Guest) (inputs_taken : ℕ) (received : ℕ → ℕ)
    (guest_is : guest ≡ after_answer l.machine a) (inputs_taken_is : inputs_taken ≡ l.inputs_taken + took_input a) (got_is : (s : ℕ) → received s ≡ l.received s + took_from a s) where
  has_moved : (sent : ℕ → List (List ℕ)) (visible : ℕ) → ((q : ℕ) → sent q ≡ l.sent q ++ posted (coming l.machine) q) → visible ≡ l.visible + shows (coming l.machine)
      → record { machine = guest; inputs_taken = inputs_taken; received = received; sent = sent; visible = visible } ≡ moved (guests_of images inputs) l a
  has_moved sent visible sent_is visible_is = λ i. record { machine = guest_is i; inputs_taken = inputs_taken_is i; received = λ s. got_is s i; sent = λ q. sent_is q i; visible = visible_is i }

  pub moved_unseen : Nothing ≡ effect_of (coming l.machine) → record { machine = guest; inputs_taken = inputs_taken; received = received; sent = l.sent; visible = l.visible } ≡ moved (guests_of images inputs) l a
  moved_unseen is = let facts = unseen (coming l.machine) (sym is) in has_moved l.sent l.visible
      (λ q. sym (append-nil (l.sent q)) ∙ ap (λ more. l.sent q ++ more) (sym (facts.1 q))) (rw facts.0 (omega arith))

  pub moved_showing : (body : Body) → Shows body ≡ effect_of (coming l.machine) → record { machine = guest; inputs_taken = inputs_taken; received = received; sent = l.sent; visible = l.visible + 1 } ≡ moved (guests_of images inputs) l a
  moved_showing body is = let facts = showing (coming l.machine) body (sym is) in has_moved l.sent (l.visible + 1)
      (λ q. sym (append-nil (l.sent q)) ∙ ap (λ more. l.sent q ++ more) (sym (facts.1 q))) (rw facts.0 refl)

  pub moved_sending : (to : ℕ) (message : List ℕ) (sent : ℕ → List (List ℕ)) → Sends to message ≡ effect_of (coming l.machine)
      → ((q : ℕ) → sent q ≡ l.sent q ++ posted (AtSend to message) q) → record { machine = guest; inputs_taken = inputs_taken; received = received; sent = sent; visible = l.visible } ≡ moved (guests_of images inputs) l a
  moved_sending to message sent is more = let at = sending (coming l.machine) to message (sym is) in has_moved sent l.visible
      (λ q. more q ∙ ap (λ e. l.sent q ++ posted e q) (sym at)) (rw at (omega arith))
