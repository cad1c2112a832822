use Rattle.std.proofs.Common.{◌≡◌, ◌+◌, ◌≤◌, length, take}
use Rattle.std.specs.List.{suffix_len}
use Rattle.dc_asm.specs.Source.{is_blank}
use Rattle.dc_asm.proofs.source.without_end.Given as goal

-- all from `end` on is blank
abbrev pub invariant-loop-end : goal.invariant-loop-end
invariant-loop-end l = record {
  within : l.end ≤ length l.text;
  blanks : suffix_len is_blank (take l.end l.text) + length l.text ≡ suffix_len is_blank l.text + l.end;
}

abbrev pub decreases-loop-end : goal.decreases-loop-end
decreases-loop-end l = l.end
