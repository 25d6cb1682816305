use Rattle.std.proofs.Common.{◌∙◌}
use Rattle.registry.proofs.Flags.{data_bit}
use Rattle.registry.proofs.tag.Tag.is_data.Goals as goal

pub returns : goal.returns
returns c = c.contains.ensures tt ∙ data_bit c.args.self.0
