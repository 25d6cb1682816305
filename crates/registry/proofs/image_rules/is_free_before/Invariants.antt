use Rattle.registry.specs.EntryRules.{IsFreeBefore}
use Rattle.registry.proofs.image_rules.is_free_before.Given as goal

abbrev pub invariant-loop-j : goal.invariant-loop-j
invariant-loop-j g l = record { free : IsFreeBefore (g.M.Machine.contents l.m).words l.j l.block.0 }
