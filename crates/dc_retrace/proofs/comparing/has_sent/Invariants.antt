use Rattle.std.proofs.Common.{◌<◌, ℕ}
use Rattle.dc_links.specs.Links.{link_to}
use Rattle.dc_proc.specs.Processes.{IsLinkOf}
use Rattle.dc_plain.specs.Playing.{world_in}
use Rattle.dc_retrace.proofs.comparing.has_sent.Given as goal

-- those below are
abbrev pub invariant-loop-q : goal.invariant-loop-q
invariant-loop-q l = (q : ℕ) → q < l.q → IsLinkOf (((world_in l.plain).procs l.p).sent q) (link_to l.links q)
