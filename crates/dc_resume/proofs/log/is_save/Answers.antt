use Rattle.std.proofs.Common.{◌≡◌, ◌∙◌, ◌≤◌, ◌<◌, ◌-◌, ℕ, arith, map, max, subst, sym}
use Rattle.std.proofs.lemmas.Bool.{true≢false}
use Rattle.dc_limits.specs.declared.sizes.TheConstants.{KEPT_MESSAGES}
use Rattle.dc_proc.specs.Processes.{logged_of}
use Rattle.dc_recovery.specs.Saves.{log_end}
use Rattle.dc_resume.proofs.Testing.{few, front_so, log_within, tested, within}
use Rattle.dc_resume.specs.Deciding.{BeginsSo, before, receipts, told_of}
use Rattle.dc_resume.proofs.log.is_save.Goals as goal

pub returns-then-position-count-clause-only : goal.returns-then-position-count-clause-only
returns-then-position-count-clause-only c = λ no S p answers walked save.
    let past = c.if-position-count.true in
    let most = within S p answers c.args.position c.args.count c.args.exposed c.args.told.now c.args.log.now walked save in
    omega (arith, past, most)

pub returns-then-end-from-clause-only : goal.returns-then-end-from-clause-only
returns-then-end-from-clause-only c = λ no S p answers walked save.
    let past = c.if-end-from.true in
    let end = c.log_end-end.ensures in
    let count = c.from.ensures in
    let most = log_within S p answers c.args.position c.args.count c.args.exposed c.args.told.now c.args.log.now walked save in
    omega (arith, past, end, count, most)

pub returns-then-is_log-clause-is : goal.returns-then-is_log-clause-is
returns-then-is_log-clause-is c = λ yes S p answers walked no_log.
    let log = c.args.log.now in
    let end = c.log_end-end.ensures in
    let reach : c.max-reach.result ≡ max (log_end (map logged_of log)) (max c.args.position c.args.exposed) = omega (arith, end, c.max.ensures, c.from-2.ensures, c.max-reach.ensures) in
    let last : c.saturating_sub.result ≡ max (log_end (map logged_of log)) (max c.args.position c.args.exposed) - 1 = omega (arith, reach, c.saturating_sub.ensures) in
    let begins = c.is_log.ensures.is c.if-is_log.true in
    tested S p answers c.args.position c.args.count c.args.exposed c.args.told.now log walked c.requires.few (let h = c.if-position-count.false in omega (arith, h))
    (let h = c.if-end-from.false in let count = c.from.ensures in omega (arith, h, end, count))
    begins.0 (subst (λ (n : ℕ). BeginsSo (map told_of c.args.told.now) log n begins.0) reach begins.1)
    (λ q. subst (λ (n : ℕ). receipts q (before n (map logged_of log)) < KEPT_MESSAGES) last (c.has_few.ensures.is yes q)) no_log

pub returns-then-is_log-clause-only : goal.returns-then-is_log-clause-only
returns-then-is_log-clause-only c = λ no S p answers walked save.
    let log = c.args.log.now in
    let end = c.log_end-end.ensures in
    let reach : c.max-reach.result ≡ max (log_end (map logged_of log)) (max c.args.position c.args.exposed) = omega (arith, end, c.max.ensures, c.from-2.ensures, c.max-reach.ensures) in
    let last : c.saturating_sub.result ≡ max (log_end (map logged_of log)) (max c.args.position c.args.exposed) - 1 = omega (arith, reach, c.saturating_sub.ensures) in
    let many = c.has_few.ensures.only no in
    let most : KEPT_MESSAGES ≤ receipts many.0 (before (max (log_end (map logged_of log)) (max c.args.position c.args.exposed) - 1) (map logged_of log)) = subst (λ (n : ℕ). KEPT_MESSAGES ≤ receipts many.0 (before n (map logged_of log))) last many.1 in
    let less = few S p answers c.args.position c.args.count c.args.exposed c.args.told.now log walked save many.0 in
    omega (arith, most, less)

pub returns-else-is_log-clause-only : goal.returns-else-is_log-clause-only
returns-else-is_log-clause-only c = λ no S p answers walked save.
    let log = c.args.log.now in
    let end = c.log_end-end.ensures in
    let reach : c.max-reach.result ≡ max (log_end (map logged_of log)) (max c.args.position c.args.exposed) = omega (arith, end, c.max.ensures, c.from-2.ensures, c.max-reach.ensures) in
    let begins = front_so S p answers c.args.position c.args.count c.args.exposed c.args.told.now log walked save c.requires.few in
    true≢false (sym (c.is_log.ensures.only begins.0 (subst (λ (n : ℕ). BeginsSo (map told_of c.args.told.now) log n begins.0) (sym reach) begins.1)) ∙ no)
