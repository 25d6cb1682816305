use Rattle.volume_check.proofs.Common.{AtPage}
use Rattle.volume_check.specs.Inodes.{layout_of}
use Rattle.volume_check.proofs.Blocks.{HasBlocks}
use Rattle.volume_check.proofs.Looking.{LooksOn}
use Rattle.volume_check.proofs.node_words.read_front.Given as goal

-- the first pages were read
abbrev pub invariant-loop-page : goal.invariant-loop-page
invariant-loop-page g l = record {
  looked : LooksOn g.V.Blocks.seen g.V.Blocks.health g.V.Blocks.sound g.V.Blocks.passes l.fn.v l.v;
  read : HasBlocks (g.V.Blocks.seen l.fn.v).words (λ p. ((layout_of (g.V.Blocks.seen l.fn.v) l.inodes).node l.fn.i.0).block (AtPage p)) l.page l.words.items;
}
