use Rattle.std.proofs.Common.{sym, ap, ◌∙◌}
use Rattle.dc_region.specs.Cells.{held}
use Rattle.dc_region.proofs.Cells.{held-map}
use Rattle.dc_region.proofs.region.Region.words.Goals as goal

pub returns : goal.returns
returns c = sym (held-map c.all.result.now) ∙ sym (ap held c.all.ensures) ∙ c.self.view_is
