use Rattle.std.proofs.Common.{ℕ, ◌<◌}
use Rattle.registry.specs.Entries.{entry_of}
use Rattle.registry.specs.EntryRules.{EntryKeeps}
use Rattle.registry.proofs.image_rules.all_keep.Given as goal

abbrev pub invariant-loop-k : goal.invariant-loop-k
invariant-loop-k g l = (k : ℕ) → k < l.k → EntryKeeps l.rule (entry_of (g.M.Machine.contents l.m).words k)
