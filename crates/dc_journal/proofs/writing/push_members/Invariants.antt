use Rattle.std.proofs.Common.{◌≡◌, ◌≤◌, ◌+◌, ◌*◌, ◌++◌, drop, length}
use Rattle.dc_journal.specs.Texts.{members_text, members_from}
use Rattle.dc_journal.proofs.Listing.{left_text}
use Rattle.dc_journal.proofs.writing.push_members.Given as goal

-- what is left decides, behind the members so far
abbrev pub invariant-loop-p : goal.invariant-loop-p
invariant-loop-p l = record {
  text : l.fn.text ++ members_text l.members ≡ l.text ++ left_text l.later (members_from l.p (drop l.p l.members));
  length : length l.text ≤ length l.fn.text + 3 * l.p;
}
