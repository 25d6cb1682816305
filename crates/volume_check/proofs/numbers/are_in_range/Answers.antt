use Rattle.volume_check.proofs.Common.{arith, subst, sym}
use Rattle.std.proofs.Common.{below_more}
use Rattle.volume_check.specs.NodeBlocks.{InRange}
use Rattle.volume_check.proofs.Bools.{never}
use Rattle.volume_check.proofs.NodeNumbers.{number_of_block}
use Rattle.volume_check.proofs.numbers.are_in_range.Goals as goal

pub returns-then-not-is_in_range : goal.returns-then-not-is_in_range
returns-then-not-is_in_range c = (λ e. cc, λ all. absurd (never (c.is_in_range.ensures.1 (subst (InRange c.args.shape.now) (sym (number_of_block c.args.blocks.now c.loop-b.b-index _ c.loop-b-test.true)) (all c.loop-b.b-index c.loop-b-test.true))) c.if-not-is_in_range.true))

pub loop-b-preserved : goal.loop-b-preserved
loop-b-preserved c = below_more _ _ c.loop-b.invariant (subst (InRange c.args.shape.now) (number_of_block c.args.blocks.now c.loop-b.b-index _ c.loop-b-test.true) (c.is_in_range.ensures.0 c.if-not-is_in_range.false))

pub returns : goal.returns
returns c = (λ e k less. c.loop-b.invariant k (omega (arith, less, c.loop-b-test.false)), λ all. cc)
