use Rattle.volume_check.proofs.Common.{arith}
use Rattle.volume_check.proofs.Bitmaps.{keeps_reserved, reserved_count, reserved_high, reserved_low}
use Rattle.volume_check.proofs.Bools.{never}
use Rattle.volume_check.proofs.mark_rules.keeps_reserved.Goals as goal

pub are_marked-requires : goal.are_marked-requires
are_marked-requires c =
    let is = c.reserved_blocks.ensures in
    let count = reserved_count c.args.shape.now c.requires.version in
    let most = c.requires.sizes.inodes_to in
    omega (arith, is, count, most)

pub returns-then-not-are_marked : goal.returns-then-not-are_marked
returns-then-not-are_marked c = λ f h. (λ e. cc, λ rule. absurd (never (c.are_marked.ensures.1 (reserved_low f c.args.shape.now c.args.bitmap.now c.reserved_blocks.result c.requires h c.reserved_blocks.ensures rule)) c.if-not-are_marked.true))

pub returns : goal.returns
returns c = λ f h. (
  λ e. keeps_reserved f c.args.shape.now c.args.bitmap.now c.reserved_blocks.result c.requires h c.reserved_blocks.ensures (c.are_marked.ensures.0 c.if-not-are_marked.false) (c.are_marked-2.ensures.0 e),
  λ rule. c.are_marked-2.ensures.1 (reserved_high f c.args.shape.now c.args.bitmap.now c.requires h rule),
)
