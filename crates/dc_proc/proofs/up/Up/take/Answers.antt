use Rattle.std.proofs.Common.{false, ◌≡◌, ◌∙◌, ◌+◌, ◌≤◌, Some, IfSome, ap, sym, subst, rules, refl, arith, slice_index, true}
use Rattle.std.proofs.lemmas.Bool.{true≢false}
use Rattle.dc_events.specs.Kinds.{kind_of}
use Rattle.dc_guest.specs.Answers.{answer_of, effect_of, may_answer}
use Rattle.dc_guest.specs.Guest.{Bare, event_of, machine_over, next_of, over}
use Rattle.dc_kernel.specs.Kernels.{Kernel}
use Rattle.dc_proc.proofs.Adding.{answer_there, over_added}
use Rattle.dc_proc.proofs.Based.{now_based, parts_based}
use Rattle.dc_proc.proofs.Buses.{call_ok}
use Rattle.dc_proc.proofs.Counting.{append_number, commit_after, commit_number, counts_after, quiet_turn}
use Rattle.dc_proc.proofs.Jointly.{asks_nothing, narrow_last, narrow_then, not_asked}
use Rattle.dc_proc.proofs.Moving.{over_next}
use Rattle.dc_proc.proofs.Numbers.{numbered_less, numbered_more}
use Rattle.dc_proc.proofs.Stopped.{first_at, log_at_inputs, over_as, record_is, same_twice, second_at, stands_as, still, stopped_after, stopped_before, stopped_event, stopped_log, told_at, unstopped}
use Rattle.dc_proc.proofs.Taken.{acts_same, append_kernel, bare, commit_bare, shown_here, whole_next}
use Rattle.dc_proc.proofs.Texts.{any_err}
use Rattle.dc_checkpoint.specs.Calls.{on}
use Rattle.dc_proc.specs.Calls.{done}
use Rattle.dc_proc.specs.Carried.{system}
use Rattle.dc_proc.specs.Following.{DeviceLaws, call_then}
use Rattle.dc_proc.specs.Processes.{IsAt, IsOver, Stands, logged_of}
use Rattle.dc_proc.specs.Turns.{acts_with, since_of, visible_shown}
use Rattle.dc_proc.specs.Ups.{held}
use Rattle.dc_proc.specs.declared.up.Up.{Up}
use Rattle.dc_protocols.specs.declared.protocol.Rule.{Rule}
use Rattle.dc_recovery.specs.Alone.{answers_alone}
use Rattle.dc_recovery.specs.Parts.{fallen, first_of, event_later, second_of, sets_unlogged, torn, torn_log}
use Rattle.dc_recovery.specs.Parts.Place.{Nowhere}
use Rattle.dc_recovery.specs.Saves.{answer_at}
use Rattle.dc_proc.proofs.up.Up.take.Goals as goal

pub commit_if-requires-2-clause-whole : goal.commit_if-requires-2-clause-whole
commit_if-requires-2-clause-whole g c = whole_next c.append_if.new.self c.note_event-done.new.self c.in_ok-append_if.ensures.whole (ap (λ (b : Bare). b.ended) (c.in_ok-append_if.ensures.guest ∙ c.in_ok-commit_if.ensures.guest) ∙ c.requires.runs) c.args.next.now (answer_of c.args.answered.now.answer) c.effect-effect.result (search rules) (search rules) (search rules) (search rules) (search rules)

pub returns-clause-acts : goal.returns-clause-acts
returns-clause-acts g c = c.add_act.ensures.acts ∙ acts_same c.args.acts.now.items c.args.self.now.kernel c.commit_if.new.self.kernel c.args.answered.now.t (answer_of c.args.answered.now.answer)
    (commit_bare c.rule-asked.result.before c.args.self.now c.commit_if.new.self c.commit_if.new.self.based c.in_ok-commit_if.ensures.held c.in_ok-commit_if.ensures.kept)

pub returns-in_err-append_if-clause-call : goal.returns-in_err-append_if-clause-call
returns-in_err-append_if-clause-call g c = let laws : DeviceLaws g.C.Checkpoint = record {
  untouched_self = g.met.C.Checkpoint.untouched_self;
  untouched_on = g.met.C.Checkpoint.untouched_on;
  continues_self = g.met.C.Checkpoint.continues_self;
  continues_on = g.met.C.Checkpoint.continues_on;
} in
    let both = call_then g.C.Checkpoint laws c.append_if.result (on c.args.store.now c.args.dev.now) (on c.commit_if.new.store c.commit_if.new.dev) (on c.append_if.new.store c.append_if.new.dev) c.in_ok-commit_if.ensures.call c.append_if.ensures.call in search rules

pub returns-in_err-advance-clause-call : goal.returns-in_err-advance-clause-call
returns-in_err-advance-clause-call g c = let laws : DeviceLaws g.C.Checkpoint = record {
  untouched_self = g.met.C.Checkpoint.untouched_self;
  untouched_on = g.met.C.Checkpoint.untouched_on;
  continues_self = g.met.C.Checkpoint.continues_self;
  continues_on = g.met.C.Checkpoint.continues_on;
} in
    let both = call_then g.C.Checkpoint laws done (on c.args.store.now c.args.dev.now) (on c.commit_if.new.store c.commit_if.new.dev) (on c.append_if.new.store c.append_if.new.dev) c.in_ok-commit_if.ensures.call c.in_ok-append_if.ensures.call in
    let all = call_then g.C.Checkpoint laws c.advance.result (on c.args.store.now c.args.dev.now) (on c.append_if.new.store c.append_if.new.dev) (on c.advance.new.store c.advance.new.dev) both c.advance.ensures.stores.call in search rules

pub returns-in_err-commit_if-2-clause-call : goal.returns-in_err-commit_if-2-clause-call
returns-in_err-commit_if-2-clause-call g c = let laws : DeviceLaws g.C.Checkpoint = record {
  untouched_self = g.met.C.Checkpoint.untouched_self;
  untouched_on = g.met.C.Checkpoint.untouched_on;
  continues_self = g.met.C.Checkpoint.continues_self;
  continues_on = g.met.C.Checkpoint.continues_on;
} in
    let both = call_then g.C.Checkpoint laws done (on c.args.store.now c.args.dev.now) (on c.commit_if.new.store c.commit_if.new.dev) (on c.append_if.new.store c.append_if.new.dev) c.in_ok-commit_if.ensures.call c.in_ok-append_if.ensures.call in
    let three = call_then g.C.Checkpoint laws done (on c.args.store.now c.args.dev.now) (on c.append_if.new.store c.append_if.new.dev) (on c.advance.new.store c.advance.new.dev) both c.in_ok-advance.ensures.stores.call in
    let all = call_then g.C.Checkpoint laws c.commit_if-2.result (on c.args.store.now c.args.dev.now) (on c.advance.new.store c.advance.new.dev) (on c.commit_if-2.new.store c.commit_if-2.new.dev) three c.commit_if-2.ensures.call in search rules

pub returns-clause-call : goal.returns-clause-call
returns-clause-call g c = let laws : DeviceLaws g.C.Checkpoint = record {
  untouched_self = g.met.C.Checkpoint.untouched_self;
  untouched_on = g.met.C.Checkpoint.untouched_on;
  continues_self = g.met.C.Checkpoint.continues_self;
  continues_on = g.met.C.Checkpoint.continues_on;
} in
    let both = call_then g.C.Checkpoint laws done (on c.args.store.now c.args.dev.now) (on c.commit_if.new.store c.commit_if.new.dev) (on c.append_if.new.store c.append_if.new.dev) c.in_ok-commit_if.ensures.call c.in_ok-append_if.ensures.call in
    let three = call_then g.C.Checkpoint laws done (on c.args.store.now c.args.dev.now) (on c.append_if.new.store c.append_if.new.dev) (on c.advance.new.store c.advance.new.dev) both c.in_ok-advance.ensures.stores.call in
    call_ok g.C.Checkpoint (on c.args.store.now c.args.dev.now) (on c.commit_if-2.new.store c.commit_if-2.new.dev) _ (call_then g.C.Checkpoint laws done (on c.args.store.now c.args.dev.now) (on c.advance.new.store c.advance.new.dev) (on c.commit_if-2.new.store c.commit_if-2.new.dev) three c.in_ok-commit_if-2.ensures.call)

pub returns-clause-showed : goal.returns-clause-showed
returns-clause-showed g c = record {
  done = c.note_event-done.result;
  mark_is = c.hand_on.ensures.mark;
  shown_is = c.hand_on.ensures.shown ∙ ap (λ q. visible_shown q c.note_event-done.result) (search rules);
  showed = shown_here _ c.args.next.now c.effect-effect.result c.args.self.now.guest c.args.self.now.kernel c.append_if.new.self.kernel _ c.effect-effect.ensures.effect
      (append_kernel c.rule-asked.result.log c.commit_if.new.self c.append_if.new.self _ c.in_ok-append_if.ensures.held c.in_ok-append_if.ensures.kept ∙ commit_bare c.rule-asked.result.before c.args.self.now c.commit_if.new.self c.commit_if.new.self.based c.in_ok-commit_if.ensures.held c.in_ok-commit_if.ensures.kept) (search rules);
}

pub returns-in_err-commit_if-clause-stopped : goal.returns-in_err-commit_if-clause-stopped
returns-in_err-commit_if-clause-stopped g c = any_err c.from_residual.result (λ images inputs p answers st d words from told stood alone.
    let here : IsAt (system images inputs c.args.self.now.protocol) p answers st words (held c.args.self.now) = told_at (λ ws. IsAt (system images inputs c.args.self.now.protocol) p answers st ws (held c.args.self.now)) (g.C.Checkpoint.contents c.args.store.now c.args.dev.now) words told stood.process in
    let found : c.args.next.now ≡ next_of (over c.args.self.now.guest words) = told_at (λ ws. c.args.next.now ≡ next_of (over c.args.self.now.guest ws)) (g.C.Checkpoint.contents c.args.store.now c.args.dev.now) words told c.requires.found in
    stopped_before images inputs c.args.self.now.protocol p answers st (answer_of c.args.answered.now.answer) words c.args.self.now c.requires.whole here c.requires.runs stood.going c.requires.sender c.args.next.now c.kind-kind.result c.rule-asked.result c.replays-replay.result found c.kind-kind.ensures c.rule-asked.ensures c.replays-replay.ensures (slice_index c.args.self.now.others) (g.C.Checkpoint.leaves c.commit_if.new.store c.commit_if.new.dev d) (record { before = c.args.acts.now.items; more = acts_with c.args.acts.now.items c.args.self.now.kernel c.args.answered.now.t (answer_of c.args.answered.now.answer); after = c.args.acts.now.items }) c.commit_if.new.self.based c.in_err-commit_if.ensures.due (c.in_err-commit_if.ensures.torn images inputs c.args.self.now.protocol p answers st d from stood) refl
    (now_based (system images inputs c.args.self.now.protocol) p answers st (answer_of c.args.answered.now.answer) words (held c.args.self.now) here stood.going c.commit_if.new.self.based c.in_err-commit_if.ensures.based))

pub returns-in_err-append_if-clause-stopped : goal.returns-in_err-append_if-clause-stopped
returns-in_err-append_if-clause-stopped g c = any_err c.from_residual-in_err-append_if.result (λ images inputs p answers st d words from told stood alone.
    let here : IsAt (system images inputs c.args.self.now.protocol) p answers st words (held c.args.self.now) = told_at (λ ws. IsAt (system images inputs c.args.self.now.protocol) p answers st ws (held c.args.self.now)) (g.C.Checkpoint.contents c.args.store.now c.args.dev.now) words told stood.process in
    let found : c.args.next.now ≡ next_of (over c.args.self.now.guest words) = told_at (λ ws. c.args.next.now ≡ next_of (over c.args.self.now.guest ws)) (g.C.Checkpoint.contents c.args.store.now c.args.dev.now) words told c.requires.found in
    let over1 = over_added (system images inputs c.args.self.now.protocol) p answers st (first_of c.rule-asked.result.before st) (answer_of c.args.answered.now.answer) (g.C.Checkpoint.contents c.commit_if.new.store c.commit_if.new.dev) (held c.commit_if.new.self) (g.C.Checkpoint.leaves c.commit_if.new.store c.commit_if.new.dev d) (c.in_ok-commit_if.ensures.goes images inputs c.args.self.now.protocol p answers st d from stood) in
    let from1 : g.C.Checkpoint.floor c.commit_if.new.store ≤ d = omega (arith, from, c.in_ok-commit_if.ensures.call.floor) in
    let bare1 = commit_bare c.rule-asked.result.before c.args.self.now c.commit_if.new.self c.commit_if.new.self.based c.in_ok-commit_if.ensures.held c.in_ok-commit_if.ensures.kept in
    let kinds : may_answer (answer_of c.args.answered.now.answer) c.kind-kind.result ≡ true = subst (λ k. may_answer (answer_of c.args.answered.now.answer) k ≡ true) (sym c.kind-kind.ensures) (told_at (λ ws. may_answer (answer_of c.args.answered.now.answer) (kind_of c.args.next.now) ≡ true) (g.C.Checkpoint.contents c.args.store.now c.args.dev.now) words told c.requires.kind) in
    let logs : c.rule-asked.result.log ≡ true → logged_of c.record_of-rec.result ≡ (record { position = st.position; answer = (answer_of c.args.answered.now.answer) }) = λ due. c.record_of-rec.ensures.logged c.kind-kind.result (log_at_inputs c.args.self.now.protocol c.kind-kind.result (since_of c.args.self.now c.kind-kind.result (answer_of c.args.answered.now.answer) false) c.rule-asked.result c.rule-asked.ensures due) kinds
    ∙ ap (λ i. record { position = i; answer = (answer_of c.args.answered.now.answer) }) (ap (λ (k : Kernel). k.position) bare1 ∙ here.kernel_is.position) in
    stopped_log images inputs c.args.self.now.protocol p answers st (answer_of c.args.answered.now.answer) words c.args.self.now c.requires.whole here c.requires.runs stood.going c.requires.sender c.args.next.now c.kind-kind.result c.rule-asked.result c.replays-replay.result found c.kind-kind.ensures c.rule-asked.ensures c.replays-replay.ensures (slice_index c.args.self.now.others) (g.C.Checkpoint.leaves c.append_if.new.store c.append_if.new.dev d) (record { before = c.args.acts.now.items; more = acts_with c.args.acts.now.items c.args.self.now.kernel c.args.answered.now.t (answer_of c.args.answered.now.answer); after = c.add_act.new.acts.items }) c.append_if.new.self.based c.in_err-append_if.ensures.due
    (stands_as (system images inputs c.args.self.now.protocol) p (answers_alone answers st (answer_of c.args.answered.now.answer) Nowhere) (torn_log (record { position = st.position; answer = (answer_of c.args.answered.now.answer) }) (first_of c.rule-asked.result.before st)) (g.C.Checkpoint.leaves c.append_if.new.store c.append_if.new.dev d) c.commit_if.new.self.others c.args.self.now.others c.in_ok-commit_if.ensures.same.others_same
    (subst (λ y. Stands (system images inputs c.args.self.now.protocol).guests p (answers_alone answers st (answer_of c.args.answered.now.answer) Nowhere) (slice_index c.commit_if.new.self.others) (torn_log y (first_of c.rule-asked.result.before st)) (g.C.Checkpoint.leaves c.append_if.new.store c.append_if.new.dev d)) (logs c.in_err-append_if.ensures.due) (c.in_err-append_if.ensures.torn images inputs c.args.self.now.protocol p (answers_alone answers st (answer_of c.args.answered.now.answer) Nowhere) (first_of c.rule-asked.result.before st) d from1 over1)))
    (c.add_act.ensures.acts ∙ acts_same c.args.acts.now.items c.args.self.now.kernel c.commit_if.new.self.kernel c.args.answered.now.t (answer_of c.args.answered.now.answer) bare1)
    (parts_based (system images inputs c.args.self.now.protocol) p answers st (answer_of c.args.answered.now.answer) words (held c.args.self.now) here stood.going c.rule-asked.result.before false (record { position = st.position; answer = (answer_of c.args.answered.now.answer) }) c.append_if.new.self.based c.commit_if.new.self.based
    c.in_ok-commit_if.ensures.copied (λ f. ap (λ (u : Up). u.based) (c.in_ok-commit_if.ensures.kept f)) c.append_if.ensures.based))

pub returns-in_err-advance-clause-stopped : goal.returns-in_err-advance-clause-stopped
returns-in_err-advance-clause-stopped g c = any_err c.from_residual-in_err-advance.result (λ images inputs p answers st d words from told stood alone.
    let here : IsAt (system images inputs c.args.self.now.protocol) p answers st words (held c.args.self.now) = told_at (λ ws. IsAt (system images inputs c.args.self.now.protocol) p answers st ws (held c.args.self.now)) (g.C.Checkpoint.contents c.args.store.now c.args.dev.now) words told stood.process in
    let found : c.args.next.now ≡ next_of (over c.args.self.now.guest words) = told_at (λ ws. c.args.next.now ≡ next_of (over c.args.self.now.guest ws)) (g.C.Checkpoint.contents c.args.store.now c.args.dev.now) words told c.requires.found in
    let over1 = over_added (system images inputs c.args.self.now.protocol) p answers st (first_of c.rule-asked.result.before st) (answer_of c.args.answered.now.answer) (g.C.Checkpoint.contents c.commit_if.new.store c.commit_if.new.dev) (held c.commit_if.new.self) (g.C.Checkpoint.leaves c.commit_if.new.store c.commit_if.new.dev d) (c.in_ok-commit_if.ensures.goes images inputs c.args.self.now.protocol p answers st d from stood) in
    let from1 : g.C.Checkpoint.floor c.commit_if.new.store ≤ d = omega (arith, from, c.in_ok-commit_if.ensures.call.floor) in
    let bare1 = commit_bare c.rule-asked.result.before c.args.self.now c.commit_if.new.self c.commit_if.new.self.based c.in_ok-commit_if.ensures.held c.in_ok-commit_if.ensures.kept in
    let kinds : may_answer (answer_of c.args.answered.now.answer) c.kind-kind.result ≡ true = subst (λ k. may_answer (answer_of c.args.answered.now.answer) k ≡ true) (sym c.kind-kind.ensures) (told_at (λ ws. may_answer (answer_of c.args.answered.now.answer) (kind_of c.args.next.now) ≡ true) (g.C.Checkpoint.contents c.args.store.now c.args.dev.now) words told c.requires.kind) in
    let logs : c.rule-asked.result.log ≡ true → logged_of c.record_of-rec.result ≡ (record { position = st.position; answer = (answer_of c.args.answered.now.answer) }) = λ due. c.record_of-rec.ensures.logged c.kind-kind.result (log_at_inputs c.args.self.now.protocol c.kind-kind.result (since_of c.args.self.now c.kind-kind.result (answer_of c.args.answered.now.answer) false) c.rule-asked.result c.rule-asked.ensures due) kinds
    ∙ ap (λ i. record { position = i; answer = (answer_of c.args.answered.now.answer) }) (ap (λ (k : Kernel). k.position) bare1 ∙ here.kernel_is.position) in
    let over2 = over_as (system images inputs c.args.self.now.protocol) p (answers_alone answers st (answer_of c.args.answered.now.answer) Nowhere) (g.C.Checkpoint.contents c.append_if.new.store c.append_if.new.dev) (held c.append_if.new.self) (g.C.Checkpoint.leaves c.append_if.new.store c.append_if.new.dev d) (second_of c.rule-asked.result.log (logged_of c.record_of-rec.result) (first_of c.rule-asked.result.before st)) (second_of c.rule-asked.result.log (record { position = st.position; answer = (answer_of c.args.answered.now.answer) }) (first_of c.rule-asked.result.before st)) (record_is c.rule-asked.result.log (logged_of c.record_of-rec.result) (record { position = st.position; answer = (answer_of c.args.answered.now.answer) }) (first_of c.rule-asked.result.before st) logs)
    (c.in_ok-append_if.ensures.goes images inputs c.args.self.now.protocol p (answers_alone answers st (answer_of c.args.answered.now.answer) Nowhere) (first_of c.rule-asked.result.before st) d from1 over1) in
    let from2 : g.C.Checkpoint.floor c.append_if.new.store ≤ d = omega (arith, from1, c.in_ok-append_if.ensures.call.floor) in
    stopped_event images inputs c.args.self.now.protocol p answers st (answer_of c.args.answered.now.answer) words c.args.self.now c.requires.whole here c.requires.runs stood.going c.requires.sender c.args.next.now c.kind-kind.result c.rule-asked.result c.replays-replay.result found c.kind-kind.ensures c.rule-asked.ensures c.replays-replay.ensures (slice_index c.args.self.now.others) (g.C.Checkpoint.leaves c.advance.new.store c.advance.new.dev d) (record { before = c.args.acts.now.items; more = acts_with c.args.acts.now.items c.args.self.now.kernel c.args.answered.now.t (answer_of c.args.answered.now.answer); after = c.add_act.new.acts.items }) c.advance.new.self.based c.in_err-advance.ensures.may
    (stands_as (system images inputs c.args.self.now.protocol) p (answers_alone answers st (answer_of c.args.answered.now.answer) Nowhere) (fallen (second_of c.rule-asked.result.log (record { position = st.position; answer = (answer_of c.args.answered.now.answer) }) (first_of c.rule-asked.result.before st))) (g.C.Checkpoint.leaves c.advance.new.store c.advance.new.dev d) c.append_if.new.self.others c.args.self.now.others (c.in_ok-append_if.ensures.same.others_same ∙ c.in_ok-commit_if.ensures.same.others_same)
    (λ r l. over2.stands r (c.in_err-advance.ensures.stores.adds_nothing.stands d r from2 l)))
    (c.add_act.ensures.acts ∙ acts_same c.args.acts.now.items c.args.self.now.kernel c.commit_if.new.self.kernel c.args.answered.now.t (answer_of c.args.answered.now.answer) bare1)
    (parts_based (system images inputs c.args.self.now.protocol) p answers st (answer_of c.args.answered.now.answer) words (held c.args.self.now) here stood.going c.rule-asked.result.before c.rule-asked.result.log (record { position = st.position; answer = (answer_of c.args.answered.now.answer) }) c.advance.new.self.based c.commit_if.new.self.based
    c.in_ok-commit_if.ensures.copied (λ f. ap (λ (u : Up). u.based) (c.in_ok-commit_if.ensures.kept f)) (ap (λ (u : Up). u.based) c.advance.ensures.rest ∙ c.append_if.ensures.based)))

pub returns-in_err-commit_if-2-clause-stopped : goal.returns-in_err-commit_if-2-clause-stopped
returns-in_err-commit_if-2-clause-stopped g c = any_err c.from_residual-in_err-commit_if-2.result (λ images inputs p answers st d words from told stood alone.
    let here : IsAt (system images inputs c.args.self.now.protocol) p answers st words (held c.args.self.now) = told_at (λ ws. IsAt (system images inputs c.args.self.now.protocol) p answers st ws (held c.args.self.now)) (g.C.Checkpoint.contents c.args.store.now c.args.dev.now) words told stood.process in
    let found : c.args.next.now ≡ next_of (over c.args.self.now.guest words) = told_at (λ ws. c.args.next.now ≡ next_of (over c.args.self.now.guest ws)) (g.C.Checkpoint.contents c.args.store.now c.args.dev.now) words told c.requires.found in
    let over1 = over_added (system images inputs c.args.self.now.protocol) p answers st (first_of c.rule-asked.result.before st) (answer_of c.args.answered.now.answer) (g.C.Checkpoint.contents c.commit_if.new.store c.commit_if.new.dev) (held c.commit_if.new.self) (g.C.Checkpoint.leaves c.commit_if.new.store c.commit_if.new.dev d) (c.in_ok-commit_if.ensures.goes images inputs c.args.self.now.protocol p answers st d from stood) in
    let from1 : g.C.Checkpoint.floor c.commit_if.new.store ≤ d = omega (arith, from, c.in_ok-commit_if.ensures.call.floor) in
    let bare1 = commit_bare c.rule-asked.result.before c.args.self.now c.commit_if.new.self c.commit_if.new.self.based c.in_ok-commit_if.ensures.held c.in_ok-commit_if.ensures.kept in
    let kinds : may_answer (answer_of c.args.answered.now.answer) c.kind-kind.result ≡ true = subst (λ k. may_answer (answer_of c.args.answered.now.answer) k ≡ true) (sym c.kind-kind.ensures) (told_at (λ ws. may_answer (answer_of c.args.answered.now.answer) (kind_of c.args.next.now) ≡ true) (g.C.Checkpoint.contents c.args.store.now c.args.dev.now) words told c.requires.kind) in
    let logs : c.rule-asked.result.log ≡ true → logged_of c.record_of-rec.result ≡ (record { position = st.position; answer = (answer_of c.args.answered.now.answer) }) = λ due. c.record_of-rec.ensures.logged c.kind-kind.result (log_at_inputs c.args.self.now.protocol c.kind-kind.result (since_of c.args.self.now c.kind-kind.result (answer_of c.args.answered.now.answer) false) c.rule-asked.result c.rule-asked.ensures due) kinds
    ∙ ap (λ i. record { position = i; answer = (answer_of c.args.answered.now.answer) }) (ap (λ (k : Kernel). k.position) bare1 ∙ here.kernel_is.position) in
    let over2 = over_as (system images inputs c.args.self.now.protocol) p (answers_alone answers st (answer_of c.args.answered.now.answer) Nowhere) (g.C.Checkpoint.contents c.append_if.new.store c.append_if.new.dev) (held c.append_if.new.self) (g.C.Checkpoint.leaves c.append_if.new.store c.append_if.new.dev d) (second_of c.rule-asked.result.log (logged_of c.record_of-rec.result) (first_of c.rule-asked.result.before st)) (second_of c.rule-asked.result.log (record { position = st.position; answer = (answer_of c.args.answered.now.answer) }) (first_of c.rule-asked.result.before st)) (record_is c.rule-asked.result.log (logged_of c.record_of-rec.result) (record { position = st.position; answer = (answer_of c.args.answered.now.answer) }) (first_of c.rule-asked.result.before st) logs)
    (c.in_ok-append_if.ensures.goes images inputs c.args.self.now.protocol p (answers_alone answers st (answer_of c.args.answered.now.answer) Nowhere) (first_of c.rule-asked.result.before st) d from1 over1) in
    let from2 : g.C.Checkpoint.floor c.append_if.new.store ≤ d = omega (arith, from1, c.in_ok-append_if.ensures.call.floor) in
    let there : answer_at (second_of c.rule-asked.result.log (record { position = st.position; answer = (answer_of c.args.answered.now.answer) }) (first_of c.rule-asked.result.before st)).position (answers_alone answers st (answer_of c.args.answered.now.answer) Nowhere) ≡ Some (answer_of c.args.answered.now.answer) = subst (λ i. answer_at i (answers_alone answers st (answer_of c.args.answered.now.answer) Nowhere) ≡ Some (answer_of c.args.answered.now.answer)) (sym (second_at c.rule-asked.result.log (record { position = st.position; answer = (answer_of c.args.answered.now.answer) }) (first_of c.rule-asked.result.before st) ∙ first_at c.rule-asked.result.before st)) (answer_there (system images inputs c.args.self.now.protocol) p answers st (answer_of c.args.answered.now.answer) alone) in
    let same2 = same_twice (g.C.Checkpoint.contents c.args.store.now c.args.dev.now) (g.C.Checkpoint.contents c.commit_if.new.store c.commit_if.new.dev) (g.C.Checkpoint.contents c.append_if.new.store c.append_if.new.dev) c.in_ok-commit_if.ensures.memory c.in_ok-append_if.ensures.memory in
    let guest2 = c.in_ok-append_if.ensures.guest ∙ c.in_ok-commit_if.ensures.guest in
    let over4 : IsOver (system images inputs c.args.self.now.protocol) p (answers_alone answers st (answer_of c.args.answered.now.answer) Nowhere) (event_later c.replays-replay.result (sets_unlogged c.rule-asked.result.log c.replays-replay.result (answer_of c.args.answered.now.answer)) (second_of c.rule-asked.result.log (record { position = st.position; answer = (answer_of c.args.answered.now.answer) }) (first_of c.rule-asked.result.before st))) (g.C.Checkpoint.contents c.advance.new.store c.advance.new.dev) (held c.note_event-done.new.self) (g.C.Checkpoint.leaves c.advance.new.store c.advance.new.dev d) = over_next images inputs c.args.self.now.protocol p (answers_alone answers st (answer_of c.args.answered.now.answer) Nowhere) (second_of c.rule-asked.result.log (record { position = st.position; answer = (answer_of c.args.answered.now.answer) }) (first_of c.rule-asked.result.before st)) (answer_of c.args.answered.now.answer) there c.append_if.new.self c.note_event-done.new.self c.in_ok-append_if.ensures.whole (whole_next c.append_if.new.self c.note_event-done.new.self c.in_ok-append_if.ensures.whole (ap (λ (b : Bare). b.ended) (c.in_ok-append_if.ensures.guest ∙ c.in_ok-commit_if.ensures.guest) ∙ c.requires.runs) c.args.next.now (answer_of c.args.answered.now.answer) c.effect-effect.result (search rules) (search rules) (search rules) (search rules) (search rules)) (ap (λ (b : Bare). b.ended) guest2 ∙ c.requires.runs) c.args.next.now c.effect-effect.result c.replays-replay.result c.rule-asked.result.log
    (search rules) (search rules) (search rules) (search rules) (search rules) (search rules) (g.C.Checkpoint.contents c.append_if.new.store c.append_if.new.dev) (g.C.Checkpoint.contents c.advance.new.store c.advance.new.dev) (g.C.Checkpoint.leaves c.append_if.new.store c.append_if.new.dev d) (g.C.Checkpoint.leaves c.advance.new.store c.advance.new.dev d) over2
    (still (λ ws. c.args.next.now ≡ next_of (over c.append_if.new.self.guest ws)) (g.C.Checkpoint.contents c.args.store.now c.args.dev.now) (g.C.Checkpoint.contents c.append_if.new.store c.append_if.new.dev) same2 (subst (λ (b : Bare). IfSome (g.C.Checkpoint.contents c.args.store.now c.args.dev.now) (λ ws. c.args.next.now ≡ next_of (over b ws))) (sym guest2) c.requires.found))
    (still (λ ws. c.effect-effect.result ≡ effect_of (event_of c.args.next.now (machine_over c.append_if.new.self.guest ws))) (g.C.Checkpoint.contents c.args.store.now c.args.dev.now) (g.C.Checkpoint.contents c.append_if.new.store c.append_if.new.dev) same2 (subst (λ (b : Bare). IfSome (g.C.Checkpoint.contents c.args.store.now c.args.dev.now) (λ ws. c.effect-effect.result ≡ effect_of (event_of c.args.next.now (machine_over b ws)))) (sym guest2) c.effect-effect.ensures.effect))
    (search rules) (λ r l. c.in_ok-advance.ensures.stores.adds_nothing.stands d r from2 l) in
    let from4 : g.C.Checkpoint.floor c.advance.new.store ≤ d = omega (arith, from2, c.in_ok-advance.ensures.stores.call.floor) in
    stopped_after images inputs c.args.self.now.protocol p answers st (answer_of c.args.answered.now.answer) words c.args.self.now c.requires.whole here c.requires.runs stood.going c.requires.sender c.args.next.now c.kind-kind.result c.rule-asked.result c.replays-replay.result found c.kind-kind.ensures c.rule-asked.ensures c.replays-replay.ensures (slice_index c.args.self.now.others) (g.C.Checkpoint.leaves c.commit_if-2.new.store c.commit_if-2.new.dev d) (record { before = c.args.acts.now.items; more = acts_with c.args.acts.now.items c.args.self.now.kernel c.args.answered.now.t (answer_of c.args.answered.now.answer); after = c.add_act.new.acts.items }) c.commit_if-2.new.self.based c.in_err-commit_if-2.ensures.due
    (stands_as (system images inputs c.args.self.now.protocol) p (answers_alone answers st (answer_of c.args.answered.now.answer) Nowhere) (torn (event_later c.replays-replay.result (sets_unlogged c.rule-asked.result.log c.replays-replay.result (answer_of c.args.answered.now.answer)) (second_of c.rule-asked.result.log (record { position = st.position; answer = (answer_of c.args.answered.now.answer) }) (first_of c.rule-asked.result.before st)))) (g.C.Checkpoint.leaves c.commit_if-2.new.store c.commit_if-2.new.dev d) c.note_event-done.new.self.others c.args.self.now.others (search rules)
    (c.in_err-commit_if-2.ensures.torn images inputs c.args.self.now.protocol p (answers_alone answers st (answer_of c.args.answered.now.answer) Nowhere) (event_later c.replays-replay.result (sets_unlogged c.rule-asked.result.log c.replays-replay.result (answer_of c.args.answered.now.answer)) (second_of c.rule-asked.result.log (record { position = st.position; answer = (answer_of c.args.answered.now.answer) }) (first_of c.rule-asked.result.before st))) d from4 over4))
    (c.add_act.ensures.acts ∙ acts_same c.args.acts.now.items c.args.self.now.kernel c.commit_if.new.self.kernel c.args.answered.now.t (answer_of c.args.answered.now.answer) bare1)
    (parts_based (system images inputs c.args.self.now.protocol) p answers st (answer_of c.args.answered.now.answer) words (held c.args.self.now) here stood.going c.rule-asked.result.before c.rule-asked.result.log (record { position = st.position; answer = (answer_of c.args.answered.now.answer) }) c.commit_if-2.new.self.based c.commit_if.new.self.based
    c.in_ok-commit_if.ensures.copied (λ f. ap (λ (u : Up). u.based) (c.in_ok-commit_if.ensures.kept f)) (c.in_err-commit_if-2.ensures.based ∙ ap (λ (u : Up). u.based) c.note_event-done.ensures.rest ∙ ap (λ (u : Up). u.based) c.advance.ensures.rest ∙ c.append_if.ensures.based)))

pub returns-clause-goes : goal.returns-clause-goes
returns-clause-goes g c images inputs p answers st d words from told stood alone =
    let here : IsAt (system images inputs c.args.self.now.protocol) p answers st words (held c.args.self.now) = told_at (λ ws. IsAt (system images inputs c.args.self.now.protocol) p answers st ws (held c.args.self.now)) (g.C.Checkpoint.contents c.args.store.now c.args.dev.now) words told stood.process in
    let found : c.args.next.now ≡ next_of (over c.args.self.now.guest words) = told_at (λ ws. c.args.next.now ≡ next_of (over c.args.self.now.guest ws)) (g.C.Checkpoint.contents c.args.store.now c.args.dev.now) words told c.requires.found in
    let over1 = over_added (system images inputs c.args.self.now.protocol) p answers st (first_of c.rule-asked.result.before st) (answer_of c.args.answered.now.answer) (g.C.Checkpoint.contents c.commit_if.new.store c.commit_if.new.dev) (held c.commit_if.new.self) (g.C.Checkpoint.leaves c.commit_if.new.store c.commit_if.new.dev d) (c.in_ok-commit_if.ensures.goes images inputs c.args.self.now.protocol p answers st d from stood) in
    let from1 : g.C.Checkpoint.floor c.commit_if.new.store ≤ d = omega (arith, from, c.in_ok-commit_if.ensures.call.floor) in
    let bare1 = commit_bare c.rule-asked.result.before c.args.self.now c.commit_if.new.self c.commit_if.new.self.based c.in_ok-commit_if.ensures.held c.in_ok-commit_if.ensures.kept in
    let kinds : may_answer (answer_of c.args.answered.now.answer) c.kind-kind.result ≡ true = subst (λ k. may_answer (answer_of c.args.answered.now.answer) k ≡ true) (sym c.kind-kind.ensures) (told_at (λ ws. may_answer (answer_of c.args.answered.now.answer) (kind_of c.args.next.now) ≡ true) (g.C.Checkpoint.contents c.args.store.now c.args.dev.now) words told c.requires.kind) in
    let logs : c.rule-asked.result.log ≡ true → logged_of c.record_of-rec.result ≡ (record { position = st.position; answer = (answer_of c.args.answered.now.answer) }) = λ due. c.record_of-rec.ensures.logged c.kind-kind.result (log_at_inputs c.args.self.now.protocol c.kind-kind.result (since_of c.args.self.now c.kind-kind.result (answer_of c.args.answered.now.answer) false) c.rule-asked.result c.rule-asked.ensures due) kinds
    ∙ ap (λ i. record { position = i; answer = (answer_of c.args.answered.now.answer) }) (ap (λ (k : Kernel). k.position) bare1 ∙ here.kernel_is.position) in
    let over2 = over_as (system images inputs c.args.self.now.protocol) p (answers_alone answers st (answer_of c.args.answered.now.answer) Nowhere) (g.C.Checkpoint.contents c.append_if.new.store c.append_if.new.dev) (held c.append_if.new.self) (g.C.Checkpoint.leaves c.append_if.new.store c.append_if.new.dev d) (second_of c.rule-asked.result.log (logged_of c.record_of-rec.result) (first_of c.rule-asked.result.before st)) (second_of c.rule-asked.result.log (record { position = st.position; answer = (answer_of c.args.answered.now.answer) }) (first_of c.rule-asked.result.before st)) (record_is c.rule-asked.result.log (logged_of c.record_of-rec.result) (record { position = st.position; answer = (answer_of c.args.answered.now.answer) }) (first_of c.rule-asked.result.before st) logs)
    (c.in_ok-append_if.ensures.goes images inputs c.args.self.now.protocol p (answers_alone answers st (answer_of c.args.answered.now.answer) Nowhere) (first_of c.rule-asked.result.before st) d from1 over1) in
    let from2 : g.C.Checkpoint.floor c.append_if.new.store ≤ d = omega (arith, from1, c.in_ok-append_if.ensures.call.floor) in
    let there : answer_at (second_of c.rule-asked.result.log (record { position = st.position; answer = (answer_of c.args.answered.now.answer) }) (first_of c.rule-asked.result.before st)).position (answers_alone answers st (answer_of c.args.answered.now.answer) Nowhere) ≡ Some (answer_of c.args.answered.now.answer) = subst (λ i. answer_at i (answers_alone answers st (answer_of c.args.answered.now.answer) Nowhere) ≡ Some (answer_of c.args.answered.now.answer)) (sym (second_at c.rule-asked.result.log (record { position = st.position; answer = (answer_of c.args.answered.now.answer) }) (first_of c.rule-asked.result.before st) ∙ first_at c.rule-asked.result.before st)) (answer_there (system images inputs c.args.self.now.protocol) p answers st (answer_of c.args.answered.now.answer) alone) in
    let same2 = same_twice (g.C.Checkpoint.contents c.args.store.now c.args.dev.now) (g.C.Checkpoint.contents c.commit_if.new.store c.commit_if.new.dev) (g.C.Checkpoint.contents c.append_if.new.store c.append_if.new.dev) c.in_ok-commit_if.ensures.memory c.in_ok-append_if.ensures.memory in
    let guest2 = c.in_ok-append_if.ensures.guest ∙ c.in_ok-commit_if.ensures.guest in
    let over4 : IsOver (system images inputs c.args.self.now.protocol) p (answers_alone answers st (answer_of c.args.answered.now.answer) Nowhere) (event_later c.replays-replay.result (sets_unlogged c.rule-asked.result.log c.replays-replay.result (answer_of c.args.answered.now.answer)) (second_of c.rule-asked.result.log (record { position = st.position; answer = (answer_of c.args.answered.now.answer) }) (first_of c.rule-asked.result.before st))) (g.C.Checkpoint.contents c.advance.new.store c.advance.new.dev) (held c.note_event-done.new.self) (g.C.Checkpoint.leaves c.advance.new.store c.advance.new.dev d) = over_next images inputs c.args.self.now.protocol p (answers_alone answers st (answer_of c.args.answered.now.answer) Nowhere) (second_of c.rule-asked.result.log (record { position = st.position; answer = (answer_of c.args.answered.now.answer) }) (first_of c.rule-asked.result.before st)) (answer_of c.args.answered.now.answer) there c.append_if.new.self c.note_event-done.new.self c.in_ok-append_if.ensures.whole (whole_next c.append_if.new.self c.note_event-done.new.self c.in_ok-append_if.ensures.whole (ap (λ (b : Bare). b.ended) (c.in_ok-append_if.ensures.guest ∙ c.in_ok-commit_if.ensures.guest) ∙ c.requires.runs) c.args.next.now (answer_of c.args.answered.now.answer) c.effect-effect.result (search rules) (search rules) (search rules) (search rules) (search rules)) (ap (λ (b : Bare). b.ended) guest2 ∙ c.requires.runs) c.args.next.now c.effect-effect.result c.replays-replay.result c.rule-asked.result.log
    (search rules) (search rules) (search rules) (search rules) (search rules) (search rules) (g.C.Checkpoint.contents c.append_if.new.store c.append_if.new.dev) (g.C.Checkpoint.contents c.advance.new.store c.advance.new.dev) (g.C.Checkpoint.leaves c.append_if.new.store c.append_if.new.dev d) (g.C.Checkpoint.leaves c.advance.new.store c.advance.new.dev d) over2
    (still (λ ws. c.args.next.now ≡ next_of (over c.append_if.new.self.guest ws)) (g.C.Checkpoint.contents c.args.store.now c.args.dev.now) (g.C.Checkpoint.contents c.append_if.new.store c.append_if.new.dev) same2 (subst (λ (b : Bare). IfSome (g.C.Checkpoint.contents c.args.store.now c.args.dev.now) (λ ws. c.args.next.now ≡ next_of (over b ws))) (sym guest2) c.requires.found))
    (still (λ ws. c.effect-effect.result ≡ effect_of (event_of c.args.next.now (machine_over c.append_if.new.self.guest ws))) (g.C.Checkpoint.contents c.args.store.now c.args.dev.now) (g.C.Checkpoint.contents c.append_if.new.store c.append_if.new.dev) same2 (subst (λ (b : Bare). IfSome (g.C.Checkpoint.contents c.args.store.now c.args.dev.now) (λ ws. c.effect-effect.result ≡ effect_of (event_of c.args.next.now (machine_over b ws)))) (sym guest2) c.effect-effect.ensures.effect))
    (search rules) (λ r l. c.in_ok-advance.ensures.stores.adds_nothing.stands d r from2 l) in
    let from4 : g.C.Checkpoint.floor c.advance.new.store ≤ d = omega (arith, from2, c.in_ok-advance.ensures.stores.call.floor) in
    unstopped images inputs c.args.self.now.protocol p answers st (answer_of c.args.answered.now.answer) words c.args.self.now c.requires.whole here c.requires.runs stood.going c.requires.sender c.args.next.now c.kind-kind.result c.rule-asked.result c.replays-replay.result found c.kind-kind.ensures c.rule-asked.ensures c.replays-replay.ensures (g.C.Checkpoint.contents c.commit_if-2.new.store c.commit_if-2.new.dev) (held c.commit_if-2.new.self) (g.C.Checkpoint.leaves c.commit_if-2.new.store c.commit_if-2.new.dev d) (c.in_ok-commit_if-2.ensures.goes images inputs c.args.self.now.protocol p (answers_alone answers st (answer_of c.args.answered.now.answer) Nowhere) (event_later c.replays-replay.result (sets_unlogged c.rule-asked.result.log c.replays-replay.result (answer_of c.args.answered.now.answer)) (second_of c.rule-asked.result.log (record { position = st.position; answer = (answer_of c.args.answered.now.answer) }) (first_of c.rule-asked.result.before st))) d from4 over4)

pub returns-clause-quiet : goal.returns-clause-quiet
returns-clause-quiet g c = quiet_turn c.args.self.now c.commit_if.new.self c.note_event-done.new.self c.commit_if-2.new.self
    (commit_number c.rule-asked.result.before c.args.self.now c.commit_if.new.self c.commit_if.new.self.based c.in_ok-commit_if.ensures.held c.in_ok-commit_if.ensures.kept)
    (ap (λ (k : Kernel). k.commit) c.note_event-done.ensures.kernel ∙ commit_after c.advance.new.self.others c.args.next.now (answer_of c.args.answered.now.answer) c.effect-effect.result c.advance.new.self.kernel
    ∙ ap (λ (u : Up). u.kernel.commit) c.in_ok-advance.ensures.rest ∙ append_number c.rule-asked.result.log c.commit_if.new.self c.append_if.new.self _ c.in_ok-append_if.ensures.held c.in_ok-append_if.ensures.kept)
    (ap (λ (u : Up). u.based) c.note_event-done.ensures.rest ∙ ap (λ (u : Up). u.based) c.in_ok-advance.ensures.rest ∙ c.in_ok-append_if.ensures.based)
    (commit_number c.rule-asked.result.after c.note_event-done.new.self c.commit_if-2.new.self c.commit_if-2.new.self.based c.in_ok-commit_if-2.ensures.held c.in_ok-commit_if-2.ensures.kept)

pub returns-clause-counts : goal.returns-clause-counts
returns-clause-counts g c turns has =
    let one = commit_number c.rule-asked.result.before c.args.self.now c.commit_if.new.self c.commit_if.new.self.based c.in_ok-commit_if.ensures.held c.in_ok-commit_if.ensures.kept in
    let two = commit_number c.rule-asked.result.after c.note_event-done.new.self c.commit_if-2.new.self c.commit_if-2.new.self.based c.in_ok-commit_if-2.ensures.held c.in_ok-commit_if-2.ensures.kept in
    let mid = ap (λ (k : Kernel). k.commit) c.note_event-done.ensures.kernel ∙ commit_after c.advance.new.self.others c.args.next.now (answer_of c.args.answered.now.answer) c.effect-effect.result c.advance.new.self.kernel
    ∙ ap (λ (u : Up). u.kernel.commit) c.in_ok-advance.ensures.rest ∙ append_number c.rule-asked.result.log c.commit_if.new.self c.append_if.new.self _ c.in_ok-append_if.ensures.held c.in_ok-append_if.ensures.kept in
    counts_after turns c.advance.new.self.others c.args.next.now (answer_of c.args.answered.now.answer) c.effect-effect.result c.args.self.now.kernel c.advance.new.self.kernel c.commit_if-2.new.self.kernel
    (ap (λ (u : Up). bare u.kernel) c.in_ok-advance.ensures.rest ∙ append_kernel c.rule-asked.result.log c.commit_if.new.self c.append_if.new.self _ c.in_ok-append_if.ensures.held c.in_ok-append_if.ensures.kept
    ∙ commit_bare c.rule-asked.result.before c.args.self.now c.commit_if.new.self c.commit_if.new.self.based c.in_ok-commit_if.ensures.held c.in_ok-commit_if.ensures.kept)
    (commit_bare c.rule-asked.result.after c.note_event-done.new.self c.commit_if-2.new.self c.commit_if-2.new.self.based c.in_ok-commit_if-2.ensures.held c.in_ok-commit_if-2.ensures.kept ∙ ap bare c.note_event-done.ensures.kernel)
    (omega (arith, one.1, two.1, mid)) c.requires.whole.received_long c.requires.whole.links_long has

pub returns-in_err-commit_if-clause-numbered : goal.returns-in_err-commit_if-clause-numbered
returns-in_err-commit_if-clause-numbered g c d most from below is = numbered_more (most + 1) (most + 2) (g.C.Checkpoint.leaves c.commit_if.new.store c.commit_if.new.dev d) (omega arith) (c.commit_if.ensures.numbered d most from below is)

pub returns-in_err-append_if-clause-numbered : goal.returns-in_err-append_if-clause-numbered
returns-in_err-append_if-clause-numbered g c d most from below is =
    let from1 : g.C.Checkpoint.floor c.commit_if.new.store ≤ d = omega (arith, from, c.in_ok-commit_if.ensures.call.floor) in
    numbered_more (most + 1) (most + 2) (g.C.Checkpoint.leaves c.append_if.new.store c.append_if.new.dev d) (omega arith) (c.append_if.ensures.numbered d (most + 1) from1 (c.commit_if.ensures.numbered d most from below is))

pub returns-in_err-advance-clause-numbered : goal.returns-in_err-advance-clause-numbered
returns-in_err-advance-clause-numbered g c d most from below is =
    let from1 : g.C.Checkpoint.floor c.commit_if.new.store ≤ d = omega (arith, from, c.in_ok-commit_if.ensures.call.floor) in
    let from2 : g.C.Checkpoint.floor c.append_if.new.store ≤ d = omega (arith, from1, c.in_ok-append_if.ensures.call.floor) in
    numbered_more (most + 1) (most + 2) (g.C.Checkpoint.leaves c.advance.new.store c.advance.new.dev d) (omega arith) (numbered_less (most + 1) (g.C.Checkpoint.leaves c.append_if.new.store c.append_if.new.dev d) (g.C.Checkpoint.leaves c.advance.new.store c.advance.new.dev d) (λ r l. c.advance.ensures.stores.adds_nothing.stands d r from2 l) (c.append_if.ensures.numbered d (most + 1) from1 (c.commit_if.ensures.numbered d most from below is)))

pub returns-in_err-commit_if-2-clause-numbered : goal.returns-in_err-commit_if-2-clause-numbered
returns-in_err-commit_if-2-clause-numbered g c d most from below is =
    let from1 : g.C.Checkpoint.floor c.commit_if.new.store ≤ d = omega (arith, from, c.in_ok-commit_if.ensures.call.floor) in
    let from2 : g.C.Checkpoint.floor c.append_if.new.store ≤ d = omega (arith, from1, c.in_ok-append_if.ensures.call.floor) in
    let from3 : g.C.Checkpoint.floor c.advance.new.store ≤ d = omega (arith, from2, c.in_ok-advance.ensures.stores.call.floor) in
    numbered_more (most + 1 + 1) (most + 2) (g.C.Checkpoint.leaves c.commit_if-2.new.store c.commit_if-2.new.dev d) (omega arith) (c.commit_if-2.ensures.numbered d (most + 1) from3 (let one = commit_number c.rule-asked.result.before c.args.self.now c.commit_if.new.self c.commit_if.new.self.based c.in_ok-commit_if.ensures.held c.in_ok-commit_if.ensures.kept in let mid = ap (λ (k : Kernel). k.commit) c.note_event-done.ensures.kernel ∙ commit_after c.advance.new.self.others c.args.next.now (answer_of c.args.answered.now.answer) c.effect-effect.result c.advance.new.self.kernel
    ∙ ap (λ (u : Up). u.kernel.commit) c.in_ok-advance.ensures.rest ∙ append_number c.rule-asked.result.log c.commit_if.new.self c.append_if.new.self _ c.in_ok-append_if.ensures.held c.in_ok-append_if.ensures.kept in omega (arith, one.1, mid, below)) (numbered_less (most + 1) (g.C.Checkpoint.leaves c.append_if.new.store c.append_if.new.dev d) (g.C.Checkpoint.leaves c.advance.new.store c.advance.new.dev d) (λ r l. c.advance.ensures.stores.adds_nothing.stands d r from2 l) (c.append_if.ensures.numbered d (most + 1) from1 (c.commit_if.ensures.numbered d most from below is))))

pub returns-clause-numbered : goal.returns-clause-numbered
returns-clause-numbered g c d most from below is =
    let from1 : g.C.Checkpoint.floor c.commit_if.new.store ≤ d = omega (arith, from, c.in_ok-commit_if.ensures.call.floor) in
    let from2 : g.C.Checkpoint.floor c.append_if.new.store ≤ d = omega (arith, from1, c.in_ok-append_if.ensures.call.floor) in
    let from3 : g.C.Checkpoint.floor c.advance.new.store ≤ d = omega (arith, from2, c.in_ok-advance.ensures.stores.call.floor) in
    numbered_more (most + 1 + 1) (most + 2) (g.C.Checkpoint.leaves c.commit_if-2.new.store c.commit_if-2.new.dev d) (omega arith) (c.commit_if-2.ensures.numbered d (most + 1) from3 (let one = commit_number c.rule-asked.result.before c.args.self.now c.commit_if.new.self c.commit_if.new.self.based c.in_ok-commit_if.ensures.held c.in_ok-commit_if.ensures.kept in let mid = ap (λ (k : Kernel). k.commit) c.note_event-done.ensures.kernel ∙ commit_after c.advance.new.self.others c.args.next.now (answer_of c.args.answered.now.answer) c.effect-effect.result c.advance.new.self.kernel
    ∙ ap (λ (u : Up). u.kernel.commit) c.in_ok-advance.ensures.rest ∙ append_number c.rule-asked.result.log c.commit_if.new.self c.append_if.new.self _ c.in_ok-append_if.ensures.held c.in_ok-append_if.ensures.kept in omega (arith, one.1, mid, below)) (numbered_less (most + 1) (g.C.Checkpoint.leaves c.append_if.new.store c.append_if.new.dev d) (g.C.Checkpoint.leaves c.advance.new.store c.advance.new.dev d) (λ r l. c.advance.ensures.stores.adds_nothing.stands d r from2 l) (c.append_if.ensures.numbered d (most + 1) from1 (c.commit_if.ensures.numbered d most from below is))))

-- where all fall together, nothing but the event's stores is done
pub returns-in_err-commit_if-clause-narrows : goal.returns-in_err-commit_if-clause-narrows
returns-in_err-commit_if-clause-narrows g c together = absurd (true≢false (sym (not_asked c.rule-asked.result (λ r. r.before) (c.rule-asked.ensures ∙ asks_nothing c.args.self.now.protocol together c.kind-kind.result (since_of c.args.self.now c.kind-kind.result (answer_of c.args.answered.now.answer) false)) c.in_err-commit_if.ensures.due)))

pub returns-in_err-append_if-clause-narrows : goal.returns-in_err-append_if-clause-narrows
returns-in_err-append_if-clause-narrows g c together = absurd (true≢false (sym (not_asked c.rule-asked.result (λ r. r.log) (c.rule-asked.ensures ∙ asks_nothing c.args.self.now.protocol together c.kind-kind.result (since_of c.args.self.now c.kind-kind.result (answer_of c.args.answered.now.answer) false)) c.in_err-append_if.ensures.due)))

pub returns-in_err-advance-clause-narrows : goal.returns-in_err-advance-clause-narrows
returns-in_err-advance-clause-narrows g c together =
    let off = c.rule-asked.ensures ∙ asks_nothing c.args.self.now.protocol together c.kind-kind.result (since_of c.args.self.now c.kind-kind.result (answer_of c.args.answered.now.answer) false) in
    narrow_last g.C.Checkpoint c.args.store.now c.commit_if.new.store c.append_if.new.store c.advance.new.store c.args.dev.now c.commit_if.new.dev c.append_if.new.dev c.advance.new.dev
    (c.commit_if.ensures.untouched (ap (λ (r : Rule). r.before) off)) (c.append_if.ensures.untouched (ap (λ (r : Rule). r.log) off)) c.advance.ensures.stores.adds_nothing.stands

pub returns-in_err-commit_if-2-clause-narrows : goal.returns-in_err-commit_if-2-clause-narrows
returns-in_err-commit_if-2-clause-narrows g c together = absurd (true≢false (sym (not_asked c.rule-asked.result (λ r. r.after) (c.rule-asked.ensures ∙ asks_nothing c.args.self.now.protocol together c.kind-kind.result (since_of c.args.self.now c.kind-kind.result (answer_of c.args.answered.now.answer) false)) c.in_err-commit_if-2.ensures.due)))

pub returns-clause-narrows : goal.returns-clause-narrows
returns-clause-narrows g c together =
    let off = c.rule-asked.ensures ∙ asks_nothing c.args.self.now.protocol together c.kind-kind.result (since_of c.args.self.now c.kind-kind.result (answer_of c.args.answered.now.answer) false) in
    narrow_then g.C.Checkpoint c.args.store.now c.advance.new.store c.commit_if-2.new.store c.args.dev.now c.advance.new.dev c.commit_if-2.new.dev (c.commit_if-2.ensures.untouched (ap (λ (r : Rule). r.after) off))
    (narrow_last g.C.Checkpoint c.args.store.now c.commit_if.new.store c.append_if.new.store c.advance.new.store c.args.dev.now c.commit_if.new.dev c.append_if.new.dev c.advance.new.dev
    (c.commit_if.ensures.untouched (ap (λ (r : Rule). r.before) off)) (c.append_if.ensures.untouched (ap (λ (r : Rule). r.log) off)) c.advance.ensures.stores.adds_nothing.stands)
