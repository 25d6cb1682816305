use Rattle.registry.specs.EntryRules.{IsUnusedBefore}
use Rattle.registry.proofs.image_rules.is_unused_before.Given as goal

abbrev pub invariant-loop-j : goal.invariant-loop-j
invariant-loop-j g l = record { unused : IsUnusedBefore (g.M.Machine.contents l.m).words l.j l.shadow }
