use Rattle.std.proofs.Common.{◌≡◌, ◌∙◌, ◌+◌, drop, length, [], false, ap, refl, rules, subst, inl, inr, ⊎_elim, arith}
use Rattle.std.proofs.lemmas.List.{take_at}
use Rattle.dc_checkpoint.specs.States.{IsSaved, number_in}
use Rattle.dc_proc.proofs.Commits.{IsEncoded, encoded, over_committed, over_torn, paired_committed}
use Rattle.dc_proc.proofs.Numbers.{numbered_commit, numbered_more}
use Rattle.dc_proc.proofs.Texts.{any_err, number_is}
use Rattle.dc_proc.specs.Carried.{system}
use Rattle.dc_proc.specs.Processes.{Held, next_commit}
use Rattle.dc_proc.specs.Ups.{held}
use Rattle.dc_proc.specs.contracts.up.Up.{the_view}
use Rattle.dc_proc.proofs.up.Up.commit.Given.{Over}
use Rattle.dc_proc.proofs.up.Up.commit.Goals.{After-deref}
use Rattle.dc_proc.proofs.up.Up.commit.Goals as goal

-- the text is that of the next commit's kernel
encoding : (g : Over) (c : After-deref g) → IsEncoded (the_view c.self.inside) c.args.self.now c.encode_as.new.kernel c.deref.result.now
encoding g c = encoded _ c.args.self.now c.encode_as.new.kernel _ c.encode_as.new.text c.deref.result.now c.self.view_is c.encode_as.ensures.kernel (ap (λ n. n + 1) c.commit-number.ensures) c.encode_as.ensures.text
    (c.deref.ensures.value ∙ take_at c.encode_as.new.text (drop (length c.encode_as.new.text) c.self.inside.text.items) c.self.inside.text.len (c.encode_as.auto.text ∙ c.deref_mut.ensures.len))
    c.encode_as.ensures.valid

pub commit-requires-clause-number : goal.commit-requires-clause-number
commit-requires-clause-number g c =
    let e = encoding g c in
    let n : number_in c.deref.result.now ≡ c.args.self.now.kernel.commit + 1 = ap number_in e.text_is ∙ number_is (next_commit (held c.args.self.now).kernel) in
    omega (arith, n, c.requires.paired.number_is)

pub returns-in_err-commit-clause-torn : goal.returns-in_err-commit-clause-torn
returns-in_err-commit-clause-torn g c =
    let e = encoding g (goal.at.returns-in_err-commit-clause-torn g c).After-deref in
    any_err c.from_residual.result (λ images inputs protocol p answers st d from over.
    over_torn (system images inputs protocol) refl p answers st (held c.args.self.now) _ _ e.kernel_ok over _
    (λ r l. ⊎_elim (λ b. inl b) (λ s. inr (subst (λ t. IsSaved (g.C.Checkpoint.contents c.args.store.now c.args.dev.now) t r) e.text_is s)) (c.in_err-commit.ensures.between d r from l)))

pub returns-clause-paired : goal.returns-clause-paired
returns-clause-paired g c =
    let e = encoding g (goal.at.returns-clause-paired g c).After-deref in
    paired_committed (held c.args.self.now) (held c.settle.new.self) c.settle.new.self.based _ _ _ _ _ _ c.deref.result.now c.requires.paired c.in_ok-commit.ensures.call.touches.same.form_same
    (c.settle.ensures.held ∙ ap (λ (h : Held). record h { unread = []; unlogged = false; log_left = 64; based = c.settle.new.self.based }) e.held_is)
    c.in_ok-commit.ensures.number.0 e.text_is c.in_ok-commit.ensures.number.1

pub returns-clause-goes : goal.returns-clause-goes
returns-clause-goes g c images inputs protocol p answers st d from over =
    let e = encoding g (goal.at.returns-clause-goes g c).After-deref in
    over_committed (system images inputs protocol) refl p answers st (held c.args.self.now) _ _ e.kernel_ok over _ (held c.settle.new.self) c.settle.new.self.based _
    (c.settle.ensures.held ∙ ap (λ (h : Held). record h { unread = []; unlogged = false; log_left = 64; based = c.settle.new.self.based }) e.held_is)
    (search rules) c.in_ok-commit.ensures.memory
    (λ r l. subst (λ t. IsSaved (g.C.Checkpoint.contents c.args.store.now c.args.dev.now) t r) e.text_is (c.in_ok-commit.ensures.stands d r from l))

pub returns-in_err-commit-clause-numbered : goal.returns-in_err-commit-clause-numbered
returns-in_err-commit-clause-numbered g c d most from below is =
    let e = encoding g (goal.at.returns-in_err-commit-clause-numbered g c).After-deref in
    let n : number_in c.deref.result.now ≡ c.args.self.now.kernel.commit + 1 = ap number_in e.text_is ∙ number_is (next_commit (held c.args.self.now).kernel) in
    numbered_commit (most + 1) (g.C.Checkpoint.leaves c.args.store.now c.args.dev.now d) (g.C.Checkpoint.leaves c.commit.new.self c.commit.new.dev d) (g.C.Checkpoint.contents c.args.store.now c.args.dev.now) c.deref.result.now (omega (arith, n, below)) (numbered_more most (most + 1) (g.C.Checkpoint.leaves c.args.store.now c.args.dev.now d) (omega arith) is) (λ r l. c.in_err-commit.ensures.between d r from l)

pub returns-clause-numbered : goal.returns-clause-numbered
returns-clause-numbered g c d most from below is =
    let e = encoding g (goal.at.returns-clause-numbered g c).After-deref in
    let n : number_in c.deref.result.now ≡ c.args.self.now.kernel.commit + 1 = ap number_in e.text_is ∙ number_is (next_commit (held c.args.self.now).kernel) in
    numbered_commit (most + 1) (g.C.Checkpoint.leaves c.args.store.now c.args.dev.now d) (g.C.Checkpoint.leaves c.commit.new.self c.commit.new.dev d) (g.C.Checkpoint.contents c.args.store.now c.args.dev.now) c.deref.result.now (omega (arith, n, below)) (numbered_more most (most + 1) (g.C.Checkpoint.leaves c.args.store.now c.args.dev.now d) (omega arith) is) (λ r l. inr (c.in_ok-commit.ensures.stands d r from l))
