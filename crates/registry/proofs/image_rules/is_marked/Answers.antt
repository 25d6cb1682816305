use Rattle.registry.proofs.ImageRules.{marked_is}
use Rattle.registry.proofs.image_rules.is_marked.Goals as goal

pub returns : goal.returns
returns c = marked_is c.args.marks.now c.args.block.0
