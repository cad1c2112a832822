use Rattle.std.proofs.Common.{◌≡◌, ◌<◌, ℕ, [], length, get_or, sym, subst, ap, ◌∙◌, arith}
use Rattle.dc_audit.specs.declared.journal.Line.TheVariants.{Does}
use Rattle.dc_audit.specs.Clocks.{IsDue, KnowsPast}
use Rattle.dc_audit.proofs.Judging.{knows_chance, knows_logged, knows_receive, knows_send, knows_visible}
use Rattle.std.proofs.Common.{◌+◌, ◌*◌}
use Rattle.std.proofs.lemmas.List.{get_or_default}
use Rattle.dc_audit.specs.Clocks.{no_way}
use Rattle.dc_audit.proofs.advancing.past_event.Goals as goal

within : (s p n : ℕ) → p < 16 → s < 16 → n ≡ 256 → 16 * s + p < n
within s p n a b e = omega arith

pub returns-in-Chance-clause-clock : goal.returns-in-Chance-clause-clock
returns-in-Chance-clause-clock c = λ causal last. subst (λ x. KnowsPast causal c.args.clocks.now c.args.links.now last (Does c.args.p x) (get_or c.args.clocks.now c.args.p [])) (sym c.in-Chance.is)
    (knows_chance causal c.args.clocks.now c.args.links.now last c.args.p)

pub returns-in-Logged-clause-clock : goal.returns-in-Logged-clause-clock
returns-in-Logged-clause-clock c = λ causal last. subst (λ x. KnowsPast causal c.args.clocks.now c.args.links.now last (Does c.args.p x) (get_or c.args.clocks.now c.args.p [])) (sym c.in-Logged.is)
    (knows_logged causal c.args.clocks.now c.args.links.now last c.args.p)

pub returns-in-Visible-clause-clock : goal.returns-in-Visible-clause-clock
returns-in-Visible-clause-clock c = λ causal last. subst (λ x. KnowsPast causal c.args.clocks.now c.args.links.now last (Does c.args.p x) (get_or c.args.clocks.now c.args.p [])) (sym c.in-Visible.is)
    (knows_visible causal c.args.clocks.now c.args.links.now last c.args.p)

pub returns-in-Sends-clause-clock : goal.returns-in-Sends-clause-clock
returns-in-Sends-clause-clock c = λ causal last. subst (λ x. KnowsPast causal c.args.clocks.now c.args.links.now last (Does c.args.p x) (get_or c.args.clocks.now c.args.p [])) (sym c.in-Sends.is)
    (knows_send causal c.args.clocks.now c.args.links.now last c.args.p c.in-Sends.field-0 c.in-Sends.field-1)

pub returns-in-Receives-clause-clock : goal.returns-in-Receives-clause-clock
returns-in-Receives-clause-clock c = λ causal last. subst (λ x. KnowsPast causal c.args.clocks.now c.args.links.now last (Does c.args.p x) c.join.new.clock) (sym c.in-Receives.is)
    (knows_receive causal c.args.clocks.now c.args.links.now last c.args.p c.in-Receives.s c.in-Receives.field-1 c.in-Receives.field-2 c.join.new.clock c.take-carried.result
    c.requires.sixteen (subst (λ x. IsDue c.args.links.now (Does c.args.p x)) c.in-Receives.is c.requires.due) (c.take-carried.ensures.first ∙ ap (λ w. get_or w.waiting 0 []) (get_or_default c.args.links.now (16 * c.in-Receives.s + c.args.p) c.index-links-s.result no_way (within c.in-Receives.s c.args.p (length c.args.links.now) c.requires.sixteen (subst (λ x. IsDue c.args.links.now (Does c.args.p x)) c.in-Receives.is c.requires.due).0 c.requires.linked))) c.join.ensures)
