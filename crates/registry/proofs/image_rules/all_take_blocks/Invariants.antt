use Rattle.registry.proofs.ImageRules.{BlocksApart}
use Rattle.registry.specs.EntryRules.{MarksBefore}
use Rattle.registry.proofs.image_rules.all_take_blocks.Given as goal

abbrev pub invariant-loop-k : goal.invariant-loop-k
invariant-loop-k g l = record {
  apart : BlocksApart (g.M.Machine.contents l.m).words l.k;
  marks : MarksBefore (g.M.Machine.contents l.m).words l.k 262144 l.marks;
}
