use Rattle.std.proofs.Common.{◌∙◌}
use Rattle.registry.proofs.Flags.{dirty_bit}
use Rattle.registry.proofs.tag.Tag.is_dirty.Goals as goal

pub returns : goal.returns
returns c = c.contains.ensures tt ∙ dirty_bit c.args.self.0
