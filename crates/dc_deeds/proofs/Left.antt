-- What the turn of a process that is up leaves, wherever the run had come to.
use Rattle.std.proofs.Common.{◌≡◌, ◌∙◌, ◌++◌, ◌<◌, ◌&&◌, ℕ, List, [], Bool, true, false, Option, Some, IfSome, IsSome, if◌then◌else◌, refl, sym, ap, subst, length, nat_lt, slice_get, unwrap_or}
use Rattle.dc_audit.specs.declared.journal.Deed.{Deed}
use Rattle.dc_audit.specs.declared.journal.Line.{Line}
use Rattle.dc_calls.specs.declared.call.Call.{Call}
use Rattle.dc_checkpoint.specs.declared.checkpoint.Checkpoint as checkpoint
use Rattle.dc_deeds.proofs.Happening.{happens}
use Rattle.dc_deeds.proofs.Marks.{commit_is}
use Rattle.dc_deeds.proofs.Ruled.{any_ruled}
use Rattle.dc_deeds.proofs.Taken.{mark_taken, turn_idles, turn_takes}
use Rattle.dc_deeds.specs.Events.{HasReceiver, deed_by, deed_lines, have_unlogged, lines_by, marked_lines, members_of, replays_at}
use Rattle.dc_elf.specs.Images.{Image}
use Rattle.dc_events.specs.Kinds.{kind_of}
use Rattle.dc_events.specs.declared.event.Kind.{Kind}
use Rattle.dc_events.specs.declared.event.Next.{Next}
use Rattle.dc_guest.specs.Answers.{effect_of}
use Rattle.dc_guest.specs.Guest.{Guest, event_of, machine_over, next_of, over}
use Rattle.dc_guest.specs.Nexts.{called_by}
use Rattle.dc_kernel.specs.declared.records.LogRecord.{LogRecord}
use Rattle.dc_model.specs.Guests.{Answer}
use Rattle.dc_model.specs.Process.{comes}
use Rattle.dc_model.specs.Runs.{Given, own}
use Rattle.dc_model.specs.declared.entry.Entry.{Entry}
use Rattle.dc_model.specs.declared.entry.Entry.TheVariants as entry
use Rattle.dc_model.specs.declared.entry.Turn.{Turn}
use Rattle.dc_model.specs.declared.mark.Idle.TheVariants.{Ended, LinkFull}
use Rattle.dc_model.specs.declared.mark.Mark.TheVariants as mark
use Rattle.dc_proc.proofs.Ruling.{asked_is, event_is, replay_is}
use Rattle.dc_proc.specs.Carried.{system}
use Rattle.dc_proc.specs.Events.{IsSender}
use Rattle.dc_proc.specs.Processes.{IsAt, IsGoing, answer_logged}
use Rattle.dc_proc.specs.Turns.{shown_of, since_of, taken_mark}
use Rattle.dc_proc.specs.Ups.{IsFit, held}
use Rattle.dc_proc.specs.declared.up.Up.{Up as Process}
use Rattle.dc_processes.proofs.Beside.{some_there}
use Rattle.dc_processes.proofs.Replying.{answer_is}
use Rattle.dc_processes.proofs.Running.{turned_ended, turned_full, turned_whole}
use Rattle.dc_processes.proofs.Standing.{at_now, going_now, is_on}
use Rattle.dc_processes.proofs.Telling.{told_at}
use Rattle.dc_processes.specs.Answers.{HasCallRoom, IsTold as IsLogged, drawn_for, kind_by}
use Rattle.dc_processes.specs.Slots.{slot_at}
use Rattle.dc_processes.specs.Stages.{IsTold, IsWorld, Stage, store_of}
use Rattle.dc_processes.specs.declared.slot.Slot.TheVariants.{Up}
use Rattle.dc_protocols.specs.Rules.{at_inputs, rule_of}
use Rattle.dc_protocols.specs.declared.protocol.Rule.{Rule}
use Rattle.dc_recovery.specs.Answers.{answer, makes_most, rule_at}
use Rattle.dc_recovery.specs.Core.{Core, Ties, numbers_of, stands}
use Rattle.dc_recovery.specs.Invariant.{Holds}
use Rattle.dc_recovery.specs.Parts.{is_with, sets_unlogged}
use Rattle.dc_recovery.specs.Parts.Place.{Nowhere}
use Rattle.dc_recovery.specs.Systems.{System, kind_at}
use Rattle.dc_recovery.specs.Ties.{causes, company, members, numbers_first, tied_third}
use Rattle.dc_recovery.specs.Turned.{after_turn}
use Rattle.dc_recovery.specs.Unstopped.{entry_taken, is_taken}
use Rattle.dc_rv32.specs.Machine.{Machine}
use Rattle.dc_savework.specs.Journal.{commit_lines, entry_lines, event_lines, is_chance_at, marks_by, turn_lines}

module _ {C D : Type 0} (g : checkpoint.Ghosts C D) (told_contents : (c : C) (dev : D) → g.ready c dev → g.told dev (g.index c) → IsSome (g.contents c dev)) (images : List Image) (schedule : List Entry) (c : Core)
    (x : Stage C D) (tells : IsTold g x) (now : Holds (system images x.inputs x.protocol) schedule x.entries c) (world : IsWorld g (system images x.inputs x.protocol) c x)
    (turn : Turn) (there : turn.p < length x.slots) (c0 : C) (at0 : store_of x turn.p ≡ Some c0) (index0 : g.index c0 ≡ turn.p) (u0 : Process) (slot0 : slot_at x.slots turn.p ≡ Some (Up u0)) (fit : IsFit g u0 c0 x.dev) where
  -- the system that the world runs
  abbrev S : System Guest
  S = system images x.inputs x.protocol

  inside : turn.p < S.guests.count
  inside = subst (λ m. turn.p < m) (sym world.count_is) there

  -- its memory is told
  memory : (words : List ℕ) × (g.contents c0 x.dev ≡ Some words)
  memory = some_there (g.contents c0 x.dev) (told_contents c0 x.dev fit.ready (subst (g.told x.dev) (sym index0) (tells.told turn.p there)))

  abbrev words : List ℕ
  words = memory.0

  abbrev told : g.contents c0 x.dev ≡ Some words
  told = memory.1

  -- what the guest does next
  abbrev n : Next
  n = next_of (over u0.guest words)

  -- its machine
  abbrev m : Machine
  m = machine_over u0.guest words

  -- what the theory answers
  abbrev theory : Answer
  theory = answer S.guests c turn.p turn.word turn.clock

  abbrev act : Given
  act = record { t = x.entries; p = turn.p; answer = theory }

  -- it is up in the theory
  on : (c.procs turn.p).up ≡ true
  on = is_on g S schedule x.entries c now x world turn.p c0 at0 u0 slot0 inside words told

  -- it stands where the theory says
  here : IsAt S turn.p (own turn.p c.acts) (c.procs turn.p) words (held u0)
  here = at_now g S schedule x.entries c now x world turn.p c0 at0 u0 slot0 inside words told

  going : IsGoing (own turn.p c.acts) (c.procs turn.p)
  going = going_now g S schedule x.entries c now x world turn.p c0 at0 u0 slot0 inside words told

  -- an entry that takes no event leaves nothing
  none_left : is_taken (entry_taken S x.entries c (entry.Turn turn)).0 ≡ false → entry_lines S x.entries c (entry.Turn turn) ≡ []
  none_left off = ap (λ b. if b then turn_lines S c turn.p theory else []) off

  -- one that has ended
  pub left_ended : u0.guest.ended ≡ true → entry_lines S x.entries c (entry.Turn turn) ≡ []
  left_ended ended = none_left (turn_idles S c act (mark.Idle Ended) c Ended refl (c.procs turn.p).up on
      (turned_ended g images x.inputs x.protocol schedule x.entries c now x world turn inside c0 at0 u0 slot0 fit.whole words told (called_by n) refl ended))

  module _ (runs : u0.guest.ended ≡ false) (call : Option Call) (found : IfSome (g.contents c0 x.dev) (λ ws. call ≡ called_by (next_of (over u0.guest ws)))) where
    called : call ≡ called_by n
    called = told_at (λ ws. call ≡ called_by (next_of (over u0.guest ws))) (g.contents c0 x.dev) words told found

    -- one whose link is full
    pub left_full : (HasCallRoom u0.kernel call → ⊥) → entry_lines S x.entries c (entry.Turn turn) ≡ []
    left_full full = none_left (turn_idles S c act (mark.Idle LinkFull) c LinkFull refl (c.procs turn.p).up on
        (turned_full g images x.inputs x.protocol schedule x.entries c now x world turn inside c0 at0 u0 slot0 fit.whole words told call called runs full))

    module _ (room : HasCallRoom u0.kernel call) (ins : List (List ℕ)) (ins_are : ins ≡ unwrap_or (slice_get x.inputs turn.p) []) (a : Answer)
        (says : (rec : LogRecord) → slice_get (held u0).unread 0 ≡ Some rec → IsLogged (length x.slots) turn.p call rec → a ≡ answer_logged rec)
        (draws : (held u0).unread ≡ [] → a ≡ drawn_for x.slots ins u0.kernel turn call) (asks : at_inputs (kind_by call) ≡ false → a ≡ drawn_for x.slots ins u0.kernel turn call) where
      a_is : a ≡ theory
      a_is = answer_is g images x.inputs x.protocol schedule x.entries c now x world turn inside c0 at0 u0 slot0 fit.whole words told call called runs ins ins_are a says draws asks

      -- it takes its event
      takes : is_taken (entry_taken S x.entries c (entry.Turn turn)).0 ≡ true
      takes = turn_takes S c act (taken_mark (shown_of (effect_of (event_of n m)) u0.kernel.visible)) (after_turn S x.entries c turn.p theory Nowhere) (mark_taken (shown_of (effect_of (event_of n m)) u0.kernel.visible)) (c.procs turn.p).up on
          (turned_whole g images x.inputs x.protocol schedule x.entries c now x world turn inside c0 at0 u0 slot0 fit.whole words told call called runs room theory refl (shown_of (effect_of (event_of n m)) u0.kernel.visible) refl)

      -- what comes is what the code finds
      comes_is : comes S.guests (stands S.guests c turn.p) a ≡ event_of n m
      comes_is = event_is images x.inputs x.protocol turn.p (own turn.p c.acts) (c.procs turn.p) words u0 fit.whole here runs a

      module _ (sender : IsSender u0.kernel a) (receiver : HasReceiver u0.kernel call) (kind : Kind) (kind_found : IfSome (g.contents c0 x.dev) (λ ws. kind ≡ kind_of (next_of (over u0.guest ws))))
          (protocol : u0.protocol ≡ x.protocol) (any : Bool) (any_is : any ≡ have_unlogged x.slots) (rule : Rule) (ruled : rule ≡ rule_of u0.protocol kind (since_of u0 kind a any)) where
        kind_is : kind ≡ kind_of n
        kind_is = told_at (λ ws. kind ≡ kind_of (next_of (over u0.guest ws))) (g.contents c0 x.dev) words told kind_found

        -- its rule is the theory's
        rule_is : rule ≡ rule_at S c turn.p a
        rule_is = ruled
            ∙ ap (λ b. rule_of u0.protocol kind (since_of u0 kind a b)) any_is
            ∙ ap (λ pr. rule_of pr kind (since_of u0 kind a (have_unlogged x.slots))) protocol
            ∙ ap (λ k. rule_of x.protocol k (since_of u0 k a (have_unlogged x.slots))) kind_is
            ∙ asked_is images x.inputs x.protocol turn.p (own turn.p c.acts) (c.procs turn.p) words u0 fit.whole here runs a going sender (have_unlogged x.slots)
            ∙ any_ruled g S c x world (λ together q. (now.joint together).together q turn.p ∙ on) turn.p 64 (kind_at (comes S.guests (stands S.guests c turn.p) a)) (comes S.guests (stands S.guests c turn.p) a) (c.procs turn.p) (makes_most S turn.p (own turn.p c.acts) (c.procs turn.p) a)

        -- so is whether it is told something that no log has
        chance_is : (chance : Bool) → chance ≡ sets_unlogged rule.log (replays_at u0 kind) a → chance ≡ is_chance_at S c turn.p a
        chance_is chance is = is
            ∙ ap (λ (f : Rule). sets_unlogged f.log (replays_at u0 kind) a) rule_is
            ∙ ap (λ k. sets_unlogged (rule_at S c turn.p a).log (replays_at u0 k) a) kind_is
            ∙ ap (λ b. sets_unlogged (rule_at S c turn.p a).log b a) (replay_is images x.inputs x.protocol turn.p (own turn.p c.acts) (c.procs turn.p) words u0 fit.whole here runs a going sender)

        -- and its event
        event_left : (chance : Bool) → chance ≡ is_chance_at S c turn.p a → (deed : Option Deed) → deed ≡ deed_by u0.kernel chance a kind call
            → deed_lines turn.p deed ≡ event_lines (stands S.guests c turn.p) turn.p (is_chance_at S c turn.p a) a (comes S.guests (stands S.guests c turn.p) a)
        event_left chance chance_same deed deed_is = ap (deed_lines turn.p) (deed_is
            ∙ ap (λ b. deed_by u0.kernel b a kind call) chance_same
            ∙ ap (λ k. deed_by u0.kernel (is_chance_at S c turn.p a) a k call) kind_is
            ∙ ap (λ o. deed_by u0.kernel (is_chance_at S c turn.p a) a (kind_of n) o) called)
            ∙ happens (stands S.guests c turn.p) u0.kernel (λ s less. here.kernel_is.received s (subst (λ k. s < k) here.kernel_is.n_is less)) (λ q less. (here.kernel_is.links q (subst (λ k. q < k) here.kernel_is.n_is less)).count)
            turn.p (is_chance_at S c turn.p a) a sender n m (subst (HasReceiver u0.kernel) called receiver)
            ∙ ap (event_lines (stands S.guests c turn.p) turn.p (is_chance_at S c turn.p a) a) (sym comes_is)

        -- who commits, before the event and after it
        with_all : (ties : Ties) (last : ℕ → ℕ) → members_of x.protocol (length x.slots) turn.p ≡ marks_by 16 (λ q. members S ties last turn.p q && nat_lt q S.guests.count)
        with_all ties last = ap (λ k. members_of x.protocol k turn.p) (sym world.count_is)
            ∙ sym (ap (λ b. marks_by 16 (λ q. (if b then causes S.guests.count ties last turn.p q else is_with S.protocol turn.p q) && nat_lt q S.guests.count)) world.seven.0)

        pub left_whole : (chance : Bool) → chance ≡ sets_unlogged rule.log (replays_at u0 kind) a → (deed : Option Deed) → deed ≡ deed_by u0.kernel chance a kind call
            → (count : ℕ) → count ≡ length x.slots → (marks : List Bool) → marks ≡ members_of x.protocol count turn.p → lines_by turn.p marks rule deed ≡ entry_lines S x.entries c (entry.Turn turn)
        left_whole chance chance_told deed deed_is count count_is marks marks_is =
            let marks_are : marks ≡ members_of x.protocol (length x.slots) turn.p = marks_is ∙ ap (λ k. members_of x.protocol k turn.p) count_is in
            let r = rule_at S c turn.p a in
            let e : List Line = event_lines (stands S.guests c turn.p) turn.p (is_chance_at S c turn.p a) a (comes S.guests (stands S.guests c turn.p) a) in
            let before : marked_lines r.before marks ≡ commit_lines r.before S.guests.count (company S c turn.p a).before = commit_is r.before S.guests.count (company S c turn.p a).before marks (marks_are ∙ with_all c.ties (numbers_of c.procs)) in
            let after : marked_lines r.after marks ≡ commit_lines r.after S.guests.count (company S c turn.p a).after = commit_is r.after S.guests.count (company S c turn.p a).after marks (marks_are ∙ with_all (tied_third S c turn.p a) (numbers_first S c turn.p a)) in
            ap (λ (f : Rule). lines_by turn.p marks f deed) rule_is
            ∙ ap (λ ys. ys ++ deed_lines turn.p deed ++ marked_lines r.after marks) before
            ∙ ap (λ ys. commit_lines r.before S.guests.count (company S c turn.p a).before ++ ys ++ marked_lines r.after marks) (event_left chance (chance_is chance chance_told) deed deed_is)
            ∙ ap (λ ys. commit_lines r.before S.guests.count (company S c turn.p a).before ++ e ++ ys) after
            ∙ ap (λ b. turn_lines S c turn.p b) a_is
            ∙ sym (ap (λ b. if b then turn_lines S c turn.p theory else []) takes)
