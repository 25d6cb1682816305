use Rattle.rio_model.specs.Held.{held_of}
use Rattle.volume_check.specs.Tree.{Counted}
use Rattle.volume_check.proofs.name_counts.count_entries.Given as goal

abbrev pub invariant-loop-j : goal.invariant-loop-j
invariant-loop-j g l = Counted l.inodes.shape (held_of l.inodes.shape (g.V.Blocks.seen l.fn.v).words) l.fn.i.0 l.j l.counts.items
