use Rattle.std.proofs.Common.{◌≡◌, ◌≤◌, ◌*◌, ◌<◌, ℕ, length, sym, ◌∙◌, ap, take, drop, subst}
use Rattle.dc_redo.specs.Frames.{records_of}
use Rattle.dc_redo.specs.Handles.{IsSteadyAt, kept, shape_of}
use Rattle.dc_redo.specs.Shapes.{half_bytes}
use Rattle.dc_redo.specs.Standing.{halves_number}
use Rattle.dc_redo.specs.Whole.{IsAtRest}
use Rattle.dc_redo.proofs.Closings.{fetched_number, fetched_steady, fetched_unsteady, short_number, short_steady}
use Rattle.dc_redo.proofs.frame.Frame.decided.Goals as goal

pub returns-clause-decided : goal.returns-clause-decided
returns-clause-decided g c e left =
    let sh = shape_of c.args.self.now in
    let halved : c.args.self.now.half ≡ half_bytes sh = c.args.self.now.halved in
    let told = g.D.Disks.told c.fetch.new.dev c.args.self.now.index in
    let piece = c.fetch.new.piece in
    let read = c.in_ok-fetch.ensures.read c.if-not-branch.false in
    let rest = subst (λ n. IsAtRest (λ x. (2 * n ≤ length x) × (take (2 * n) x ≡ piece)) told) halved read in
    let low = c.split_at.ensures.front ∙ ap (λ n. take n piece) halved in
    let high = c.split_at.ensures.back ∙ ap (λ n. drop n piece) halved in
    fetched_number sh piece told rest e left ∙ sym (c.weigh_decisions.ensures.number ∙ ap (λ l. halves_number sh (records_of l) (records_of c.split_at.result.1.now)) low ∙ ap (λ l. halves_number sh (records_of (take (half_bytes sh) piece)) (records_of l)) high)

pub returns-clause-is_steady : goal.returns-clause-is_steady
returns-clause-is_steady g c is_so =
    let sh = shape_of c.args.self.now in
    let halved : c.args.self.now.half ≡ half_bytes sh = c.args.self.now.halved in
    let told = g.D.Disks.told c.fetch.new.dev c.args.self.now.index in
    let piece = c.fetch.new.piece in
    let read = c.in_ok-fetch.ensures.read c.if-not-branch.false in
    let rest = subst (λ n. IsAtRest (λ x. (2 * n ≤ length x) × (take (2 * n) x ≡ piece)) told) halved read in
    let low = c.split_at.ensures.front ∙ ap (λ n. take n piece) halved in
    let high = c.split_at.ensures.back ∙ ap (λ n. drop n piece) halved in
    let d = c.weigh_decisions.result.number in
    let floor = c.args.floor in
    let is = c.weigh_decisions.ensures.number ∙ ap (λ l. halves_number sh (records_of l) (records_of c.split_at.result.1.now)) low ∙ ap (λ l. halves_number sh (records_of (take (half_bytes sh) piece)) (records_of l)) high in
    fetched_steady sh piece floor d is told rest
    (subst (λ l. IsSteadyAt (kept sh d (records_of (take (half_bytes sh) piece)) (records_of l)) floor d) high
    (subst (λ l. IsSteadyAt (kept sh d (records_of l) (records_of c.split_at.result.1.now)) floor d) low (c.weigh_decisions.ensures.is_steady is_so)))

pub returns-clause-unsteady : goal.returns-clause-unsteady
returns-clause-unsteady g c lost there steady =
    let sh = shape_of c.args.self.now in
    let halved : c.args.self.now.half ≡ half_bytes sh = c.args.self.now.halved in
    let told = g.D.Disks.told c.fetch.new.dev c.args.self.now.index in
    let piece = c.fetch.new.piece in
    let read = c.in_ok-fetch.ensures.read c.if-not-branch.false in
    let rest = subst (λ n. IsAtRest (λ x. (2 * n ≤ length x) × (take (2 * n) x ≡ piece)) told) halved read in
    let low = c.split_at.ensures.front ∙ ap (λ n. take n piece) halved in
    let high = c.split_at.ensures.back ∙ ap (λ n. drop n piece) halved in
    let d = c.weigh_decisions.result.number in
    let floor = c.args.floor in
    let is = c.weigh_decisions.ensures.number ∙ ap (λ l. halves_number sh (records_of l) (records_of c.split_at.result.1.now)) low ∙ ap (λ l. halves_number sh (records_of (take (half_bytes sh) piece)) (records_of l)) high in
    fetched_unsteady sh piece floor d is told rest (λ at. c.weigh_decisions.ensures.unsteady lost
    (subst (λ l. IsSteadyAt (kept sh d (records_of l) (records_of c.split_at.result.1.now)) floor d) (sym low)
    (subst (λ l. IsSteadyAt (kept sh d (records_of (take (half_bytes sh) piece)) (records_of l)) floor d) (sym high) at))) there steady

pub returns-then-not-branch-clause-decided : goal.returns-then-not-branch-clause-decided
returns-then-not-branch-clause-decided g c =
    let sh = shape_of c.args.self.now in
    let halved : c.args.self.now.half ≡ half_bytes sh = c.args.self.now.halved in
    let told = g.D.Disks.told c.fetch.new.dev c.args.self.now.index in
    let short = c.in_ok-fetch.ensures.short c.if-not-branch.true in
    short_number sh told (subst (λ n. IsAtRest (λ x. length x < 2 * n) told) halved short)

pub returns-then-not-branch-clause-is_steady : goal.returns-then-not-branch-clause-is_steady
returns-then-not-branch-clause-is_steady g c is_so =
    let sh = shape_of c.args.self.now in
    let halved : c.args.self.now.half ≡ half_bytes sh = c.args.self.now.halved in
    let told = g.D.Disks.told c.fetch.new.dev c.args.self.now.index in
    let short = c.in_ok-fetch.ensures.short c.if-not-branch.true in
    short_steady sh c.args.floor told (subst (λ n. IsAtRest (λ x. length x < 2 * n) told) halved short)
