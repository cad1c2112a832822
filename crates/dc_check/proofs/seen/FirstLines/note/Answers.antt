use Rattle.std.specs.Str.{bytes_eq}
use Rattle.std.proofs.lemmas.Map.Text.{hash_map_updates_str}
use Rattle.dc_check.proofs.Fields.{kept}
use Rattle.dc_check.proofs.seen.FirstLines.note.Goals as goal

pub returns : goal.returns
returns c = λ other. kept _ _ (bytes_eq c.args.numbers.now other) c.args.line (hash_map_updates_str c.args.numbers.now c.args.self.now.lines c.insert.new.self _ c.in_ok-insert.ensures.updates other)
