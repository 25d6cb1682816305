use Rattle.std.proofs.Common.{ap, arith, replicate, ◌∙◌}
use Rattle.block_disk.specs.BlockLists.{rows}
use Rattle.block_disk.proofs.Rows.{zeros_more}
use Rattle.block_disk.proofs.block_lists.zero_blocks.Goals as goal

pub loop-init : goal.loop-init
loop-init c = ap rows c.new-all.ensures.items

pub loop-preserved : goal.loop-preserved
loop-preserved c = ap rows c.in_ok-push.ensures.items ∙ zeros_more c.loop.counter _ _ c.loop.invariant (c.in_ok-vec.ensures.items_if_clones_equal (λ y e. e))

pub returns : goal.returns
returns c = c.loop.invariant ∙ ap (λ n. replicate n (replicate 512 0)) (omega (arith, c.loop-test.false, c.loop.auto.counter-end))
