use Rattle.std.proofs.Common.{rules, ◌∙◌}
use Rattle.std.proofs.lemmas.Map.Text.{hash_map_updates_str}
use Rattle.dc_asm.specs.Names.{found}
use Rattle.dc_asm.proofs.Naming.{added}
use Rattle.dc_asm.proofs.names.Names.define.Goals as goal

pub returns : goal.returns
returns c = λ other. hash_map_updates_str c.args.name.now c.args.self.now.definitions c.insert.new.self _ c.in_ok-insert.ensures.updates other
    ∙ added (found c.args.self.now) c.args.name.now other c.args.definition (search rules)
