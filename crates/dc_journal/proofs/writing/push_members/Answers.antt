use Rattle.std.proofs.Common.{◌∙◌, ◌++◌, ap, arith, refl, sym, append-nil}
use Rattle.std.proofs.lemmas.List.{drop_all}
use Rattle.dc_journal.specs.Texts.{members_from}
use Rattle.dc_journal.proofs.Listing.{joined_left, left_text, member_more}
use Rattle.dc_journal.proofs.writing.push_members.Goals as goal

pub loop-p-init : goal.loop-p-init
loop-p-init c = record {
  text = ap (λ w. c.args.text.now ++ w) (joined_left (members_from 0 c.args.members.now));
  length = omega arith;
}

pub loop-p-preserved : goal.loop-p-preserved
loop-p-preserved c = let before = c.loop-p.invariant.length in let short = c.push_marked-later.ensures.length in record {
  text = member_more _ c.loop-p.text c.push_marked-later.new.text c.loop-p.later c.push_marked-later.result _ c.loop-p.p c.args.members.now c.loop-p-test.true refl
      c.push_marked-later.ensures.later c.push_marked-later.ensures.text c.loop-p.invariant.text;
  length = omega arith;
}

pub returns-clause-text : goal.returns-clause-text
returns-clause-text c = sym (c.loop-p.invariant.text
    ∙ ap (λ xs. c.loop-p.text ++ left_text c.loop-p.later (members_from c.loop-p.p xs)) (drop_all c.loop-p.p c.args.members.now c.loop-p-test.false)
    ∙ append-nil c.loop-p.text)
