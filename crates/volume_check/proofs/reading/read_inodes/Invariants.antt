use Rattle.std.proofs.Common.{◌+◌}
use Rattle.volume_check.proofs.Blocks.{HasBlocks}
use Rattle.volume_check.proofs.Looking.{LooksOn}
use Rattle.volume_check.proofs.reading.read_inodes.Given as goal

-- the first k blocks of inodes were read
abbrev pub invariant-loop-k : goal.invariant-loop-k
invariant-loop-k g l = record {
  looked : LooksOn g.V.Blocks.seen g.V.Blocks.health g.V.Blocks.sound g.V.Blocks.passes l.fn.v l.v;
  blocks : HasBlocks (g.V.Blocks.seen l.fn.v).words (λ k. 2 + k) l.k l.words.items;
}
