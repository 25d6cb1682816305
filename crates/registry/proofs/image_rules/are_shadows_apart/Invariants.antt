use Rattle.registry.proofs.ImageRules.{ShadowsDiffer}
use Rattle.registry.proofs.image_rules.are_shadows_apart.Given as goal

abbrev pub invariant-loop-k : goal.invariant-loop-k
invariant-loop-k g l = record { differ : ShadowsDiffer (g.M.Machine.contents l.m).words l.k }
