use Rattle.std.proofs.Common.{◌+◌}
use Rattle.rio_model.specs.Held.{held_of}
use Rattle.volume_check.specs.Tree.{Counted}
use Rattle.volume_check.proofs.Looking.{LooksOn}
use Rattle.volume_check.proofs.name_counts.count_names.Given as goal

abbrev pub invariant-loop-k : goal.invariant-loop-k
invariant-loop-k g l =
    let V = g.V.Blocks in
    record {
      looked : LooksOn V.seen V.health V.sound V.passes l.fn.v l.v;
      counted : Counted l.inodes.shape (held_of l.inodes.shape (V.seen l.fn.v).words) (l.k + 1) 0 l.counts.items;
    }
