use Rattle.std.proofs.Common.{◌∙◌}
use Rattle.registry.proofs.Flags.{valid_bit}
use Rattle.registry.proofs.tag.Tag.is_valid.Goals as goal

pub returns : goal.returns
returns c = c.contains.ensures tt ∙ valid_bit c.args.self.0
