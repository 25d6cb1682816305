use Rattle.std.proofs.Common.{refl}
use Rattle.registry.proofs.ImageRules.{marked_one}
use Rattle.registry.proofs.image_rules.mark.Goals as goal

pub returns-clause-marked : goal.returns-clause-marked
returns-clause-marked c = λ b. marked_one c.args.marks.now b c.args.block.0 _ c.requires.within refl
