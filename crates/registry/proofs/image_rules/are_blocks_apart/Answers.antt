use Rattle.registry.proofs.ImageRules.{none_marked}
use Rattle.registry.proofs.image_rules.are_blocks_apart.Goals as goal

pub all_take_blocks-requires-clause-marks : goal.all_take_blocks-requires-clause-marks
all_take_blocks-requires-clause-marks g c = none_marked (g.M.Machine.contents c.args.m.now).words 4096
