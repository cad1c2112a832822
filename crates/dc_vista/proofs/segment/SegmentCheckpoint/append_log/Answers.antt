use Rattle.dc_vista.proofs.Answering.{on_checked}
use Rattle.dc_vista.proofs.segment.SegmentCheckpoint.append_log.Goals as goal

pub returns-clause-stands : goal.returns-clause-stands
returns-clause-stands g c = rw c.checked.ensures (on_checked c.append.result (λ stands d r low left. stands d r left) c.append.ensures.stands)
