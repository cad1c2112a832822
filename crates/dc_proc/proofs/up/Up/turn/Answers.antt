use Rattle.std.proofs.Common.{◌≡◌, ◌∙◌, IfSome, refl, ap, sym, subst, rules, false, slice_index, true}
use Rattle.std.proofs.lemmas.Bool.{true≢false}
use Rattle.std.proofs.lemmas.Result.{on_ok_weaker}
use Rattle.dc_events.specs.Kinds.{kind_of}
use Rattle.dc_events.specs.declared.event.Next.TheVariants.{Retire}
use Rattle.dc_guest.specs.Answers.{answer_of, may_answer}
use Rattle.dc_guest.specs.Guest.{next_of, over, machine_over}
use Rattle.dc_guest.specs.Nexts.{Waits}
use Rattle.dc_guest.specs.declared.effect.Effect.TheVariants.{Nothing}
use Rattle.dc_model.specs.Guests.Answer.{Plain}
use Rattle.dc_proc.proofs.Adding.{answer_there, over_added}
use Rattle.dc_proc.proofs.Based.{parts_based}
use Rattle.dc_proc.proofs.Moving.{over_next}
use Rattle.dc_proc.proofs.Retired.{plain_is, retired, stopped_retiring, told_nothing}
use Rattle.dc_proc.proofs.Stopped.{told_at}
use Rattle.dc_proc.proofs.Taken.{shown_found, told_also, waiting, whole_next}
use Rattle.dc_proc.specs.Carried.{system}
use Rattle.dc_proc.specs.Processes.{IsAt}
use Rattle.dc_proc.specs.Turns.{acts_with}
use Rattle.dc_proc.specs.Ups.{held}
use Rattle.dc_proc.specs.declared.up.Up.{Up}
use Rattle.dc_recovery.specs.Alone.{IsAnswerAlone, answers_alone}
use Rattle.dc_recovery.specs.Parts.Place.{Nowhere}
use Rattle.dc_rv32.specs.Machine.{stores}
use Rattle.dc_proc.proofs.up.Up.turn.Goals as goal

pub returns-in-Ok-Retire-clause-goes : goal.returns-in-Ok-Retire-clause-goes
returns-in-Ok-Retire-clause-goes g c images inputs p answers st d words from told stood alone =
    let S = system images inputs c.args.self.now.protocol in
    let here : IsAt S p answers st words (held c.args.self.now) = told_at (λ ws. IsAt S p answers st ws (held c.args.self.now)) (g.C.Checkpoint.contents c.args.store.now c.args.dev.now) words told stood.process in
    let found : IfSome (g.C.Checkpoint.contents c.args.store.now c.args.dev.now) (λ ws. Retire ≡ next_of (over c.args.self.now.guest ws)) = search rules in
    let retires : Retire ≡ next_of (over c.args.self.now.guest words) = told_at (λ ws. Retire ≡ next_of (over c.args.self.now.guest ws)) (g.C.Checkpoint.contents c.args.store.now c.args.dev.now) words told found in
    let may : may_answer (answer_of c.args.answered.now.answer) (kind_of (next_of (over c.args.self.now.guest words))) ≡ _ = told_at (λ ws. may_answer (answer_of c.args.answered.now.answer) (kind_of (next_of (over c.args.self.now.guest ws))) ≡ _) (g.C.Checkpoint.contents c.args.store.now c.args.dev.now) words told c.requires.kind in
    let plain : answer_of c.args.answered.now.answer ≡ Plain = plain_is (answer_of c.args.answered.now.answer) (ap (λ n. may_answer (answer_of c.args.answered.now.answer) (kind_of n)) retires ∙ may) in
    let alone1 : IsAnswerAlone S.guests p answers st Plain = subst (IsAnswerAlone S.guests p answers st) plain alone in
    let whole = whole_next c.args.self.now c.note_retired.new.self c.requires.whole c.requires.runs Retire Plain Nothing (search rules) (search rules) (search rules) (search rules) (search rules) in
    let over1 = over_added S p answers st st Plain (g.C.Checkpoint.contents c.args.store.now c.args.dev.now) (held c.args.self.now) (g.C.Checkpoint.leaves c.args.store.now c.args.dev.now d) stood in
    let over2 = over_next images inputs c.args.self.now.protocol p (answers_alone answers st Plain Nowhere) st Plain (answer_there S p answers st Plain alone1) c.args.self.now c.note_retired.new.self c.requires.whole whole c.requires.runs Retire Nothing false false
    (search rules) (search rules) (search rules) (search rules) (search rules) (search rules)
    (g.C.Checkpoint.contents c.args.store.now c.args.dev.now) (g.C.Checkpoint.contents c.step.new.store c.step.new.dev) (g.C.Checkpoint.leaves c.args.store.now c.args.dev.now d) (g.C.Checkpoint.leaves c.step.new.store c.step.new.dev d) over1
    found (told_nothing (g.C.Checkpoint.contents c.args.store.now c.args.dev.now) c.args.self.now.guest) (search rules) (λ r l. c.in-Ok-Retire.ensures.stores.adds_nothing.stands d r from l) in
    retired images inputs c.args.self.now.protocol p answers st words c.args.self.now c.requires.whole here c.requires.runs (sym retires) (answer_of c.args.answered.now.answer) plain (g.C.Checkpoint.contents c.step.new.store c.step.new.dev) c.note_retired.new.self (g.C.Checkpoint.leaves c.step.new.store c.step.new.dev d) over2

pub returns-in-Err-clause-stopped : goal.returns-in-Err-clause-stopped
returns-in-Err-clause-stopped g c images inputs p answers st d words from told stood alone =
    let S = system images inputs c.args.self.now.protocol in
    let here : IsAt S p answers st words (held c.args.self.now) = told_at (λ ws. IsAt S p answers st ws (held c.args.self.now)) (g.C.Checkpoint.contents c.args.store.now c.args.dev.now) words told stood.process in
    let retires : next_of (over c.args.self.now.guest words) ≡ Retire = told_at (λ ws. next_of (over c.args.self.now.guest ws) ≡ Retire) (g.C.Checkpoint.contents c.args.store.now c.args.dev.now) words told c.in-Err.ensures.reached in
    let may : may_answer (answer_of c.args.answered.now.answer) (kind_of (next_of (over c.args.self.now.guest words))) ≡ _ = told_at (λ ws. may_answer (answer_of c.args.answered.now.answer) (kind_of (next_of (over c.args.self.now.guest ws))) ≡ _) (g.C.Checkpoint.contents c.args.store.now c.args.dev.now) words told c.requires.kind in
    let plain : answer_of c.args.answered.now.answer ≡ Plain = plain_is (answer_of c.args.answered.now.answer) (ap (λ n. may_answer (answer_of c.args.answered.now.answer) (kind_of n)) (sym retires) ∙ may) in
    let over1 = over_added S p answers st st Plain (g.C.Checkpoint.contents c.args.store.now c.args.dev.now) (held c.args.self.now) (g.C.Checkpoint.leaves c.args.store.now c.args.dev.now d) stood in
    stopped_retiring images inputs c.args.self.now.protocol p answers st words c.args.self.now c.requires.whole here c.requires.runs retires (answer_of c.args.answered.now.answer) plain
    (told_at (λ ws. stores (machine_over c.args.self.now.guest ws) ≡ true) (g.C.Checkpoint.contents c.args.store.now c.args.dev.now) words told c.in-Err.ensures.storing) (slice_index c.args.self.now.others)
    (g.C.Checkpoint.leaves c.step.new.store c.step.new.dev d) (record { before = c.args.acts.now.items; more = acts_with c.args.acts.now.items c.args.self.now.kernel c.args.answered.now.t (answer_of c.args.answered.now.answer); after = c.add_act-in-Err.new.acts.items }) c.step.new.self.based
    (λ r l. over1.stands r (c.in-Err.ensures.stores.adds_nothing.stands d r from l)) (search rules)
    (parts_based S p answers st Plain words (held c.args.self.now) here stood.going false false (record { position = st.position; answer = Plain }) c.step.new.self.based c.args.self.now.based (λ e. absurd (true≢false (sym e))) (λ e. refl) (ap (λ (u : Up). u.based) c.in-Err.ensures.rest))

pub returns-else-is_blocked : goal.returns-else-is_blocked
returns-else-is_blocked g c =
    let waits : Waits c.in-Ok.next = search rules in
    let same = waiting c.in-Ok.next _ waits c.in-Ok.ensures.waits in
    let told = c.take.ensures in
    record {
      call = rw (sym same.1, sym same.2) told.call;
      ready = told.ready;
      paired = told.paired;
      whole = told.whole;
      steady = rw (sym same.0, sym same.1, sym same.2) told.steady;
      uncommitted = rw (sym same.0) told.uncommitted;
      narrows = rw (sym same.0, sym same.1, sym same.2) told.narrows;
      same = rw (sym same.0) told.same;
      room = told.room;
      grown = told.grown;
      quiet = rw (sym same.0) told.quiet;
      counts = rw (sym same.0) told.counts;
      numbered = rw (sym same.0, sym same.1, sym same.2) told.numbered;
      goes = rw (sym same.0, sym same.1, sym same.2) told.goes;
      acts = on_ok_weaker c.take.result (λ e. told_also (g.C.Checkpoint.contents c.args.store.now c.args.dev.now) (rw (sym same.0) e)) told.acts;
      showed = shown_found c.take.result (g.C.Checkpoint.contents c.args.store.now c.args.dev.now) c.in-Ok.next c.args.self.now.guest c.args.self.now.kernel.visible c.args.self.now.kernel.p c.take.new.shown c.in-Ok.ensures.next (rw (sym same.0, sym same.1, sym same.2) told.showed);
      unshown = told.unshown;
      stopped = rw (sym same.0, sym same.1, sym same.2) told.stopped;
    }
