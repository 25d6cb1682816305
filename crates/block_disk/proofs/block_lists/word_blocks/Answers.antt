use Rattle.std.proofs.Common.{ap, arith, ◌∙◌}
use Rattle.block_disk.specs.BlockLists.{rows}
use Rattle.block_disk.proofs.FileBlocks.{own_words}
use Rattle.block_disk.proofs.WordBlocks.{blocks_below, one_more}
use Rattle.block_disk.proofs.block_lists.word_blocks.Goals as goal

pub loop-b-init : goal.loop-b-init
loop-b-init c = ap rows c.new-all.ensures.items

pub loop-b-preserved : goal.loop-b-preserved
loop-b-preserved c = ap rows c.in_ok-push.ensures.items ∙ one_more c.args.words.now c.loop-b.b _ _ c.loop-b.invariant (c.in_ok-from_slice.ensures.items ∙ own_words c.args.words.now c.loop-b.b)

pub returns : goal.returns
returns c = c.loop-b.invariant ∙ ap (blocks_below c.args.words.now) (omega (arith, c.loop-b-test.false, c.loop-b.auto.b-end))
